use Rattle.std.proofs.Common.{◌≡◌, ◌++◌, map, take, drop}
use Rattle.waiting_line.proofs.timed.tick_all.Given as goal

abbrev pub invariant-loop-record : goal.invariant-loop-record
invariant-loop-record g l = l.records ≡ map g.T.Timed.ticked (take l.record-index l.initial.records) ++ drop l.record-index l.initial.records
