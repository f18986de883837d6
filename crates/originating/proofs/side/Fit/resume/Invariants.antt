use Rattle.originating.proofs.Wakes.{Turn}
use Rattle.originating.proofs.side.Fit.resume.Given as goal

abbrev pub invariant-loop-place : goal.invariant-loop-place
invariant-loop-place g l = Turn g.C.Channel.capacity g.C.Channel.waiting l.initial.self l.initial.to_b l.place l.self l.to_b
