use Rattle.std.proofs.Common.{rules, tests, ◌≡◌, ◌++◌, ap, ◌∙◌}
use Rattle.std.proofs.lemmas.Result.{on_ok_weaker}
use Rattle.channels.specs.Meaning.{first, taken}
use Rattle.channels.specs.Backplanes.{back_capacity, back_waiting}
use Rattle.channels.specs.Wires.{wire_capacity, wire_waiting}
use Rattle.cabinets.specs.Calls.{answer_alone, back_came, wire_came, take_came, TakingCounted}
use Rattle.cabinets.specs.Page.{shown}
use Rattle.cabinets.proofs.Looks.{looks_compared}
use Rattle.cabinets.proofs.Pages.{told_alike}
use Rattle.cabinets.proofs.Trial.take.Goals as goal

back_taken : (c : goal.After-compare-2) → back_came c.map-backplane.result c.take.new.self ≡ take_came (back_capacity c.args.self.now.backplane) (back_waiting c.args.self.now.backplane)
back_taken c =
    let answer : c.map-backplane.result ≡ answer_alone (taken (back_waiting c.args.self.now.backplane)) = search (rules, tests) in
    search (rules, answer)

wire_taken : (c : goal.After-compare-2) → wire_came c.map-wire.result c.take-2.new.self ≡ take_came (wire_capacity c.args.self.now.wire) (wire_waiting c.args.self.now.wire)
wire_taken c =
    let answer : c.map-wire.result ≡ answer_alone (taken (wire_waiting c.args.self.now.wire)) = search (rules, tests) in
    search (rules, answer)

pub returns-clause-page : goal.returns-clause-page
returns-clause-page c =
    let told = c.in_ok-show.ensures ∙ ap (λ o. c.write_all.new.self.items ++ shown o) c.look-first.ensures ∙ ap (λ p. p ++ shown (first (wire_waiting c.args.self.now.wire))) c.in_ok-write_all.ensures.bytes in
    on_ok_weaker c.compare-2.result (λ both. both ∙ told_alike told (back_taken c) (wire_taken c)) c.compare-2.ensures.page

pub returns-clause-tally : goal.returns-clause-tally
returns-clause-tally c =
    let looks = looks_compared c.look.result c.look-first.result _ _ _ _ c.look.ensures c.look-first.ensures c.compare.ensures.differences in
    let both : TakingCounted c.args.self.now.backplane c.args.self.now.wire c.args.self.now.tally c.compare-2.new.self.tally =
    record { after_looks = c.compare.new.self.differences; looks = looks; takings = search (rules, back_taken c, wire_taken c) } in
    search (rules, both)
