use Rattle.destination.proofs.Along.{Along, aged_by}
use Rattle.destination.proofs.side.Fit.tick_guards.Given as goal

abbrev pub invariant-loop-b : goal.invariant-loop-b
invariant-loop-b l = Along (aged_by l.runs) l.initial.line-items l.line-items l.b
