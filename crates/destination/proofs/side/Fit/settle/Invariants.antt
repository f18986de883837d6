use Rattle.destination.proofs.Along.{Along, watched_by}
use Rattle.destination.proofs.side.Fit.settle.Given as goal

abbrev pub invariant-loop-b : goal.invariant-loop-b
invariant-loop-b l = Along (watched_by l.t8 l.ran l.runs) l.initial.line-items l.line-items l.b
