use Rattle.std.proofs.Common.{◌≡◌, ◌-◌, length, take, ◌∙◌, arith}
use Rattle.std.specs.List.{remove}
use Rattle.std.proofs.lemmas.List.{length-take}
use Rattle.std.proofs.lemmas.List.Edits.{length-remove}
use Rattle.waiting_line.proofs.Fronts.{laid, without}
use Rattle.waiting_line.proofs.line.WaitingLine.remove.Goals as goal

pub returns-clause-holds : goal.returns-clause-holds
returns-clause-holds g c =
    let u = c.args.self.now.used in
    let xs = c.args.self.now.places.now in
    let n = length-take u xs in
    let size : u - 1 ≡ length (remove (take u xs) c.args.i) = omega (arith, length-remove (take u xs) c.args.i (omega arith)) in
    laid _ _ _ size c.close_gap.auto.memory (c.close_gap.ensures ∙ without u xs _ c.if-i-self.false)
