use Rattle.std.proofs.Common.{◌≡◌, length, take, drop, ◌∙◌, arith}
use Rattle.std.proofs.lemmas.List.{length-drop, length-take}
use Rattle.waiting_line.proofs.Fronts.{laid, without_first}
use Rattle.waiting_line.proofs.line.WaitingLine.remove_first.Goals as goal

pub returns : goal.returns
returns g c =
    let u = c.args.self.now.used in
    let xs = c.args.self.now.places.now in
    let n = c.args.n in
    let size : c.saturating_sub-self.result ≡ length (drop n (take u xs)) = omega (arith, length-drop n (take u xs), length-take u xs, c.saturating_sub-self.ensures) in
    laid _ _ _ size c.close_gap.auto.memory (c.close_gap.ensures ∙ without_first u xs n)
