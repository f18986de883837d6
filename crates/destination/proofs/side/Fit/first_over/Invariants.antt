use Rattle.std.proofs.Common.{◌≡◌, drop}
use Rattle.b_side.specs.Rules.{guard_over}
use Rattle.destination.specs.Sides.{fit_of}
use Rattle.destination.proofs.side.Fit.first_over.Given as goal

abbrev pub invariant-loop-b : goal.invariant-loop-b
invariant-loop-b l = guard_over l.b (fit_of l.self).records (drop l.b (fit_of l.self).lines) ≡ guard_over 0 (fit_of l.self).records (fit_of l.self).lines
