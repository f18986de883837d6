use Rattle.std.proofs.Common.{rules, sym, ◌≡◌, count_by, eqb, ◌∙◌}
use Rattle.std.proofs.iter.runs.Made.{chains}
use Rattle.tables.proofs.Counting.{times_count_by}
use Rattle.b_side.specs.declared.record.BRecord.{BRecord}
use Rattle.destination.proofs.side.receives.count_at.Goals as goal

pub returns : goal.returns
returns c = let k : c.count.result ≡ count_by (λ (x : BRecord). eqb x.destination c.args.destination) c.args.records.now = search (rules, chains) in k ∙ sym (times_count_by (λ (x : BRecord). eqb x.destination c.args.destination) c.args.records.now)
