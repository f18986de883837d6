-- The first place of a list whose element passes a test, and whether there is one: the library's own words.
-- The search for a transaction and the timers are told by these.
use Rattle.std.specs.Prelude.{ℕ, Bool, List, Option}
use Rattle.std.specs.List.{list_any, position_from}

-- places counted from k
abbrev pub first_from : {T : Type 0} → ℕ → (T → Bool) → List T → Option ℕ
first_from k test xs = position_from test k xs

abbrev pub first_where : {T : Type 0} → (T → Bool) → List T → Option ℕ
first_where test xs = first_from 0 test xs

abbrev pub some : {T : Type 0} → (T → Bool) → List T → Bool
some test xs = list_any test xs
