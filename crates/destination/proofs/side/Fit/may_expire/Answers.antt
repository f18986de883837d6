use Rattle.std.proofs.Common.{◌-◌, length, Some, None, refl, rules}
use Rattle.std.specs.Prelude.{nat_lt}
use Rattle.answers.specs.declared.denial.Denial.TheVariants.{NoneDue, NoFreePlace}
use Rattle.answers.specs.Rows.{row}
use Rattle.destination.proofs.Dues.{expiry_rows}
use Rattle.destination.proofs.side.Fit.may_expire.Goals as goal

pub returns-in_err-due-clause-refusal : goal.returns-in_err-due-clause-refusal
returns-in_err-due-clause-refusal g c =
    let capacity = g.C.Channel.capacity c.args.to_a.now in
    let waiting = g.C.Channel.waiting c.args.to_a.now in
    let rows = expiry_rows c.args.self.now capacity waiting None (Some NoneDue) (row (nat_lt (capacity - length waiting) 1) NoFreePlace) (search rules) (search rules) refl in
    search (rules, rows)

pub returns-in_err-check_room-clause-refusal : goal.returns-in_err-check_room-clause-refusal
returns-in_err-check_room-clause-refusal g c =
    let capacity = g.C.Channel.capacity c.args.to_a.now in
    let waiting = g.C.Channel.waiting c.args.to_a.now in
    let rows = expiry_rows c.args.self.now capacity waiting None None (row (nat_lt (capacity - length waiting) 1) NoFreePlace) (search rules) (search rules) refl in
    search (rules, rows)

pub returns-clause-refusal : goal.returns-clause-refusal
returns-clause-refusal g c = expiry_rows c.args.self.now (g.C.Channel.capacity c.args.to_a.now) (g.C.Channel.waiting c.args.to_a.now) None None None (search rules) (search rules) (search rules)
