use Rattle.std.proofs.Common.{false, true, is_some, sym, ap, ◌∙◌}
use Rattle.destination.proofs.Dues.{tick_rows}
use Rattle.destination.proofs.side.Fit.may_tick.Goals as goal

pub returns-then-is_some : goal.returns-then-is_some
returns-then-is_some c = tick_rows c.args.self.now true (ap is_some (sym c.due.ensures) ∙ sym c.if-is_some.ensures)

pub returns : goal.returns
returns c = tick_rows c.args.self.now false (ap is_some (sym c.due.ensures) ∙ sym c.if-is_some.ensures)
