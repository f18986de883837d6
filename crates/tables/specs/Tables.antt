-- Tables of records that tell their transaction: the search by first match, and what one call can change.
-- No definition asks that a transaction has one record only; that it has is a law of every run.
use Rattle.std.specs.Prelude.{ℕ, suc, Bool, cond, List, [], ◌∷◌, ◌++◌, Option, ◌==◌, filter, find}

-- one record at most is added, replaced or removed by a call; it tells its transaction
pub data Change (R : Type 0) : Type 0 where
  same : Change R
  added : R → Change R
  became : R → Change R
  removed : ℕ → Change R

-- by the transaction that a record tells
module _ {R : Type 0} (tn : R → ℕ) where
  -- the first record of transaction n
  abbrev pub found : ℕ → List R → Option R
  found n rs = find (λ r. tn r == n) rs

  -- without the first record of transaction n
  abbrev pub without : ℕ → List R → List R
  without n [] = []
  without n (r ∷ rs) = cond (tn r == n) rs (r ∷ without n rs)

  -- with s in the place of the first record of its transaction
  abbrev pub replaced : R → List R → List R
  replaced s [] = []
  replaced s (r ∷ rs) = cond (tn r == tn s) (s ∷ rs) (r ∷ replaced s rs)

  -- the records of transaction n
  abbrev pub those : ℕ → List R → List R
  those n rs = filter (λ r. tn r == n) rs

  abbrev pub changed : Change R → List R → List R
  changed same rs = rs
  changed (added r) rs = rs ++ r ∷ []
  changed (became r) rs = replaced r rs
  changed (removed n) rs = without n rs

-- how many pass the test
abbrev pub times : {R : Type 0} → (R → Bool) → List R → ℕ
times p [] = 0
times p (r ∷ rs) = cond (p r) (suc (times p rs)) (times p rs)

-- the first that passes the test
abbrev pub first_by : {R : Type 0} → (R → Bool) → List R → Option R
first_by p rs = find p rs
