use Rattle.waiting_line.proofs.Fronts.{told_as, unchanged}
use Rattle.tables.proofs.Places.{removed_at, removed_nowhere}
use Rattle.tables.proofs.records.remove.Goals as goal

pub returns-in-Some : goal.returns-in-Some
returns-in-Some g c = told_as c.remove.ensures.holds (removed_at g.T.Record.transaction_of c.args.tn _ _ c.all.ensures _ c.in-Some.ensures.place)

pub returns-in_default : goal.returns-in_default
returns-in_default g c = told_as (unchanged c.args.records.now) (removed_nowhere g.T.Record.transaction_of c.args.tn _ _ c.all.ensures c.in_default.ensures.place)
