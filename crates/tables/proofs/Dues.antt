-- A record is due where the first that is due is found, and it stands at the place that a search by place finds.
use Rattle.std.proofs.Common.{◌≡◌, ℕ, suc, ◌+◌, Bool, true, false, cond, ◌||◌, List, [], ◌∷◌, get_or, is_some, Some, None, refl, sym, ap, ◌∙◌, arith}
use Rattle.std.specs.List.{find, list_any}
use Rattle.waiting_line.specs.Searches.{first_from, first_where}
use Rattle.tables.specs.Tables.{first_by}
use Rattle.tables.proofs.Tables.{never_some}

pub is_some_find : {X : Type 0} (p : X → Bool) (xs : List X) → is_some (find p xs) ≡ list_any p xs
is_some_find p [] = refl
is_some_find p (x ∷ xs) = elim (p x) as (λ b. is_some (cond b (Some x) (find p xs)) ≡ (b || list_any p xs)) [ true ↦ refl | false ↦ is_some_find p xs ]

module _ {R : Type 0} (q : R → Bool) where
  pub none_first : (k : ℕ) (rs : List R) → first_from k q rs ≡ None → first_by q rs ≡ None
  none_first k [] e = refl
  none_first k (r ∷ rs) e = go (q r) e (none_first (k + 1) rs)
    where
      go : (b : Bool) → cond b (Some k) (first_from (k + 1) q rs) ≡ None → (first_from (k + 1) q rs ≡ None → first_by q rs ≡ None) → cond b (Some r) (first_by q rs) ≡ None
      go true f ih = never_some (sym f)
      go false f ih = ih f

  from_first : (k : ℕ) (rs : List R) (i : ℕ) (d : R) → first_from k q rs ≡ Some i → (j : ℕ) × (i ≡ k + j) × (first_by q rs ≡ Some (get_or rs j d))
  from_first k [] i d e = never_some e
  from_first k (r ∷ rs) i d e = go (q r) e (from_first (k + 1) rs i d)
    where
      go : (b : Bool) → cond b (Some k) (first_from (k + 1) q rs) ≡ Some i → (first_from (k + 1) q rs ≡ Some i → (j : ℕ) × (i ≡ (k + 1) + j) × (first_by q rs ≡ Some (get_or rs j d))) → (j : ℕ) × (i ≡ k + j) × (cond b (Some r) (first_by q rs) ≡ Some (get_or (r ∷ rs) j d))
      go true f ih = let same : k ≡ i = cc in (0, omega arith, refl)
      go false f ih = let p = ih f in (suc p.0, omega (arith, p.1), p.2)

  pub at_first : (rs : List R) (i : ℕ) (d : R) → first_where q rs ≡ Some i → first_by q rs ≡ Some (get_or rs i d)
  at_first rs i d e = let p = from_first 0 rs i d e in p.2 ∙ ap (λ n. Some (get_or rs n d)) (let k : p.0 ≡ i = omega (arith, p.1) in k)
