-- Notes of the destinations, as far as a pass has come.
use Rattle.std.proofs.Common.{◌≡◌, ℕ, ◌<◌, Bool, false, List, length, get_or}
use Rattle.waiting_line.specs.Searches.{some}
use Rattle.b_side.specs.declared.record.BRecord.{BRecord}
use Rattle.b_side.specs.declared.line.LineFacts.{LineFacts}
use Rattle.destination.specs.Guards.{runs_at}

-- the marks tell of each destination whether one of these records passes its test
pub record Marked (test : ℕ → BRecord → Bool) (rs : List BRecord) (marks : List Bool) : Type 0 where
  pub long : length marks ≡ 64
  pub each : (b : ℕ) → b < 64 → get_or marks b false ≡ some (test b) rs

-- the first n lines are told of: whether the guard of each runs
pub record ToldTo (rs : List BRecord) (ls : List LineFacts) (runs : List Bool) (n : ℕ) : Type 0 where
  pub long : length runs ≡ 64
  pub each : (b : ℕ) → b < n → get_or runs b false ≡ runs_at rs ls b
