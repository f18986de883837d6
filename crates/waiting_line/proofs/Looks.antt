-- A search by place finds one exactly where some element passes the test.
use Rattle.std.proofs.Common.{◌≡◌, ℕ, ◌+◌, Bool, true, false, cond, ◌||◌, List, [], ◌∷◌, is_some, Some, refl}
use Rattle.waiting_line.specs.Searches.{first_from, some}

pub some_found : {T : Type 0} (test : T → Bool) (k : ℕ) (xs : List T) → is_some (first_from k test xs) ≡ some test xs
some_found test k [] = refl
some_found test k (x ∷ xs) =
    elim (test x) as (λ b. is_some (cond b (Some k) (first_from (k + 1) test xs)) ≡ (b || some test xs)) [ true ↦ refl | false ↦ some_found test (k + 1) xs ]
