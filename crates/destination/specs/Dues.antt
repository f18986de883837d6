-- What expiry handles: the first stored record with a timer at 0, else the lowest destination whose guard is over.
-- By what is due the effect of an expiry is one of two.
use Rattle.std.specs.Prelude.{ℕ, Some, None, Option}
use Rattle.tables.specs.Tables.{first_by}
use Rattle.b_side.specs.declared.record.BRecord.{BRecord}
use Rattle.b_side.specs.Rules.{BModel, BEffect, b_due, guard_over, queued_at, b_expiring_one, recalling_one}
use Rattle.destination.specs.declared.due.Due.{Due}
use Rattle.destination.specs.declared.due.Due.TheVariants.{Record, Guard}

-- records come before guards
abbrev pub due_among : Option BRecord → Option ℕ → Option Due
due_among (Some r) over = Some (Record r)
due_among None (Some b) = Some (Guard b)
due_among None None = None

abbrev pub due_of : BModel → Option Due
due_of s = due_among (first_by b_due s.records) (guard_over 0 s.records s.lines)

abbrev pub expiring_by : BModel → Due → BEffect
expiring_by s (Record r) = b_expiring_one s r
expiring_by s (Guard b) = recalling_one s (first_by (queued_at b) s.records)
