use Rattle.std.proofs.Common.{rules, ◌≡◌, ◌++◌, codes, refl, ap, ◌∙◌}
use Rattle.std.proofs.lemmas.Result.{on_ok_weaker}
use Rattle.cabinets.specs.Calls.{back_came, wire_came}
use Rattle.cabinets.specs.Page.{came_line}
use Rattle.cabinets.proofs.Pages.{told_alike}
use Rattle.cabinets.proofs.Trial.compare.Goals as goal

pub returns-clause-page : goal.returns-clause-page
returns-clause-page c =
    let back : c.left_by-backplane.result ≡ back_came c.args.backplane c.args.self.now.backplane = search rules in
    let wire : c.left_by-wire.result ≡ wire_came c.args.wire c.args.self.now.wire = search rules in
    let first_line = ap (λ page. page ++ came_line (codes "  wire:      ") c.left_by-wire.result) c.in_ok-writeln.ensures.bytes in
    on_ok_weaker c.writeln-2.result (λ second_line. second_line ∙ first_line ∙ told_alike refl back wire) c.writeln-2.ensures.bytes
