use Rattle.std.proofs.Common.{take}
use Rattle.b_side.specs.Rules.{queued_at, recalling_at}
use Rattle.destination.proofs.Notes.{Marked}
use Rattle.destination.proofs.side.guards.noted.Given as goal

abbrev pub invariant-loop-record : goal.invariant-loop-record
invariant-loop-record l = record {
  queued : Marked queued_at (take l.record-index l.records) l.notes.queued;
  recalling : Marked recalling_at (take l.record-index l.records) l.notes.recalling;
}
