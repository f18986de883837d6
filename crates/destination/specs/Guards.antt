-- What the notes of the guards tell: where T8 runs, as the rules have it.
-- The calls note where T8 runs before they change anything and after.
use Rattle.std.specs.Prelude.{◌≡◌, ℕ, ◌<◌, Bool, false, List, length, slice_index_or}
use Rattle.b_side.specs.declared.record.BRecord.{BRecord}
use Rattle.b_side.specs.declared.line.LineFacts.{LineFacts}
use Rattle.b_side.specs.Rules.{idle, guarded}

-- the guard of line b runs
abbrev pub runs_at : List BRecord → List LineFacts → ℕ → Bool
runs_at rs ls b = guarded rs b (slice_index_or ls b idle)

-- the note tells of each line whether its guard runs
abbrev pub Told : List BRecord → List LineFacts → List Bool → Type 0
Told rs ls runs = (b : ℕ) → b < length ls → slice_index_or runs b false ≡ runs_at rs ls b
