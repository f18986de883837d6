-- What a side in code holds, in the words of the rules, and the record memory that it was given.
-- The places past the last record are no part of the rules: what a call leaves there is told on its own.
use Rattle.std.specs.Prelude.{◌≡◌, List, [], length, Ok, Err, Result}
use Rattle.waiting_line.specs.Gaps.{over}
use Rattle.waiting_line.specs.Lines.{memory, items, capacity}
use Rattle.b_side.specs.declared.record.BRecord.{BRecord}
use Rattle.b_side.specs.Rules.{BModel}
use Rattle.destination.specs.declared.side.BSide.{BSide}
use Rattle.destination.specs.declared.side.Fit.{Fit}
use Rattle.destination.specs.declared.side.Unfit.{Unfit}

-- a side at work
abbrev pub fit_of : Fit → BModel
fit_of s = record { settings = s.settings; places = capacity s.records; lines = s.lines.now; records = items s.records }

-- one that was made of what is out of range has no records
abbrev pub made_of : Result Fit Unfit → BModel
made_of (Ok s) = fit_of s
made_of (Err u) = record { settings = u.settings; places = length u.memory.now; lines = u.facts.now; records = [] }

abbrev pub b_of : BSide → BModel
b_of s = made_of s.side

-- all the record memory that was given to it
abbrev pub memory_in : Result Fit Unfit → List BRecord
memory_in (Ok s) = memory s.records
memory_in (Err u) = u.memory.now

abbrev pub record_memory : BSide → List BRecord
record_memory s = memory_in s.side

-- past the last record the memory is as it was
abbrev pub Kept : BSide → BSide → Type 0
Kept before after = record_memory after ≡ over (b_of after).records (record_memory before)

-- the same of a side at work
abbrev pub Held : Fit → Fit → Type 0
Held before after = memory after.records ≡ over (items after.records) (memory before.records)
