use Rattle.destination.specs.Sides.{fit_of}
use Rattle.destination.proofs.Notes.{ToldTo}
use Rattle.destination.proofs.side.Fit.guards.Given as goal

abbrev pub invariant-loop-b : goal.invariant-loop-b
invariant-loop-b l = ToldTo (fit_of l.self).records (fit_of l.self).lines l.runs l.b
