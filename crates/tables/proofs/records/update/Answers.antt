use Rattle.waiting_line.proofs.Fronts.{told_as, unchanged}
use Rattle.tables.proofs.Places.{replaced_at, replaced_nowhere}
use Rattle.tables.proofs.records.update.Goals as goal

pub returns-in-Some : goal.returns-in-Some
returns-in-Some g c = told_as c.replace.ensures.holds (replaced_at g.T.Record.transaction_of _ _ _ c.all.ensures _ c.transaction.ensures _ c.in-Some.ensures.place)

pub returns-in_default : goal.returns-in_default
returns-in_default g c = told_as (unchanged c.args.records.now) (replaced_nowhere g.T.Record.transaction_of _ _ _ c.all.ensures _ c.transaction.ensures c.in_default.ensures.place)
