use Rattle.std.proofs.Common.{refl, sym, ap, ◌∙◌}
use Rattle.b_side.specs.declared.settings.BSettings.{BSettings}
use Rattle.destination.specs.Sides.{fit_of}
use Rattle.destination.proofs.Along.{watched_told}
use Rattle.destination.proofs.Changes.{as_many, lined_to}
use Rattle.destination.proofs.side.Fit.settle.Goals as goal

pub returns : goal.returns
returns c = λ was same told.
    let s = c.args.self.now in
    let alike = as_many was ∙ ap (λ (t : BSettings). t.n) same ∙ sym (as_many s) in
    lined_to s _ refl _ refl
    (watched_told s.settings.t8 (fit_of was).records was.lines.now (fit_of s).records s.lines.now c.loop-b.line-items _ _ c.loop-b.b c.loop-b.auto.line-items c.loop-b-test.false c.loop-b.invariant alike told c.guards-runs.ensures)
