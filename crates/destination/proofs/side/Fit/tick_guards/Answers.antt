use Rattle.destination.specs.Sides.{fit_of}
use Rattle.destination.proofs.Along.{aged_told}
use Rattle.destination.proofs.side.Fit.tick_guards.Goals as goal

pub returns-clause-lines : goal.returns-clause-lines
returns-clause-lines c =
    let s = fit_of c.args.self.now in
    aged_told s.records s.lines c.loop-b.line-items _ c.loop-b.b c.loop-b.auto.line-items c.loop-b-test.false c.loop-b.invariant c.guards-runs.ensures
