-- How many of a table pass a test, over its changes.
use Rattle.std.proofs.Common.{◌≡◌, ℕ, suc, ◌+◌, ◌≤◌, Bool, true, false, cond, ◌||◌, eqb, ◌⊎◌, List, [], ◌∷◌, ◌++◌, map, length, Some, count_by, filter, sym, refl, ap, ◌∙◌, inl, inr, arith}
use Rattle.std.proofs.lemmas.Bool.{or_parts, or_left, or_right}
use Rattle.std.proofs.lemmas.List.{length-map}
use Rattle.std.proofs.lemmas.List.Recursion.{is_count_by}
use Rattle.std.proofs.lemmas.List.Sums.{length-filter}
use Rattle.tables.proofs.Tables.{never, never_some}
use Rattle.tables.specs.Tables.{found, without, replaced, times}
use Rattle.waiting_line.specs.Searches.{some}

module _ {R : Type 0} (q : R → Bool) where
  -- the library's word for what `filter` and `count` give
  pub times_count_by : (rs : List R) → times q rs ≡ count_by q rs
  times_count_by = is_count_by (times q) q refl (λ r rs. let more : suc (times q rs) ≡ 1 + times q rs = omega arith in ap (λ n. cond (q r) n (times q rs)) more)

  pub times_none : (rs : List R) → some q rs ≡ false → times q rs ≡ 0
  times_none [] h = refl
  times_none (r ∷ rs) h = rw (or_parts (q r) _ h).0 (times_none rs (or_parts (q r) _ h).1)

  pub times_push : (rs : List R) (r : R) → times q (rs ++ r ∷ []) ≡ cond (q r) (suc (times q rs)) (times q rs)
  times_push [] r = refl
  times_push (x ∷ rs) r = go (q x) (q r) (times_push rs r)
    where
      go : (b d : Bool) → times q (rs ++ r ∷ []) ≡ cond d (suc (times q rs)) (times q rs) → cond b (suc (times q (rs ++ r ∷ []))) (times q (rs ++ r ∷ [])) ≡ cond d (suc (cond b (suc (times q rs)) (times q rs))) (cond b (suc (times q rs)) (times q rs))
      go true true ih = ap suc ih
      go true false ih = ap suc ih
      go false true ih = ih
      go false false ih = ih

  pub some_push : (rs : List R) (r : R) → q r ≡ false → some q (rs ++ r ∷ []) ≡ some q rs
  some_push [] r h = rw h
  some_push (x ∷ rs) r h = ap (λ b. q x || b) (some_push rs r h)

  pub times_map : (f : R → R) → ((x : R) → q (f x) ≡ q x) → (rs : List R) → times q (map f rs) ≡ times q rs
  times_map f h [] = refl
  times_map f h (x ∷ rs) = λ i. cond (h x i) (suc (times_map f h rs i)) (times_map f h rs i)

  pub length_kept : {S : Type 0} (g : R → S) (rs : List R) → length (map g (filter q rs)) ≡ times q rs
  length_kept g rs = length-map (filter q rs) g ∙ length-filter q rs ∙ sym (times_count_by rs)

  module _ (tn : R → ℕ) where
    pub times_replaced : (s : R) (rs : List R) (x : R) → found tn (tn s) rs ≡ Some x → q x ≡ q s → times q (replaced tn s rs) ≡ times q rs
    times_replaced s [] x e h = refl
    times_replaced s (r ∷ rs) x e h = go (eqb (tn r) (tn s)) e (λ k. times_replaced s rs x k h)
      where
        go : (b : Bool) → cond b (Some r) (found tn (tn s) rs) ≡ Some x → (found tn (tn s) rs ≡ Some x → times q (replaced tn s rs) ≡ times q rs) → times q (cond b (s ∷ rs) (r ∷ replaced tn s rs)) ≡ cond (q r) (suc (times q rs)) (times q rs)
        go true f ih = let k : r ≡ x = cc in ap (λ b. cond b (suc (times q rs)) (times q rs)) (sym h ∙ ap q (sym k))
        go false f ih = ap (λ k. cond (q r) (suc k) k) (ih f)

    pub some_replaced : (s : R) (rs : List R) (x : R) → found tn (tn s) rs ≡ Some x → q x ≡ q s → some q (replaced tn s rs) ≡ some q rs
    some_replaced s [] x e h = refl
    some_replaced s (r ∷ rs) x e h = go (eqb (tn r) (tn s)) e (λ k. some_replaced s rs x k h)
      where
        go : (b : Bool) → cond b (Some r) (found tn (tn s) rs) ≡ Some x → (found tn (tn s) rs ≡ Some x → some q (replaced tn s rs) ≡ some q rs) → some q (cond b (s ∷ rs) (r ∷ replaced tn s rs)) ≡ (q r || some q rs)
        go true f ih = let k : r ≡ x = cc in ap (λ b. b || some q rs) (sym h ∙ ap q (sym k))
        go false f ih = ap (λ b. q r || b) (ih f)

    pub some_replaced_yes : (s : R) (rs : List R) (x : R) → found tn (tn s) rs ≡ Some x → q s ≡ true → some q (replaced tn s rs) ≡ true
    some_replaced_yes s [] x e h = never_some e
    some_replaced_yes s (r ∷ rs) x e h = go (eqb (tn r) (tn s)) e (λ k. some_replaced_yes s rs x k h)
      where
        go : (b : Bool) → cond b (Some r) (found tn (tn s) rs) ≡ Some x → (found tn (tn s) rs ≡ Some x → some q (replaced tn s rs) ≡ true) → some q (cond b (s ∷ rs) (r ∷ replaced tn s rs)) ≡ true
        go true f ih = or_left (q s) _ h
        go false f ih = or_right (q r) _ (ih f)

    pub times_without : (k : ℕ) (rs : List R) (x : R) → found tn k rs ≡ Some x → cond (q x) (suc (times q (without tn k rs))) (times q (without tn k rs)) ≡ times q rs
    times_without k [] x e = never_some e
    times_without k (r ∷ rs) x e = go (eqb (tn r) k) e (times_without k rs x)
      where
        mix : (b d : Bool) (m n : ℕ) → cond d (suc m) m ≡ n → cond d (suc (cond b (suc m) m)) (cond b (suc m) m) ≡ cond b (suc n) n
        mix true true m n h = ap suc h
        mix true false m n h = ap suc h
        mix false true m n h = h
        mix false false m n h = h

        go : (b : Bool) → cond b (Some r) (found tn k rs) ≡ Some x → (found tn k rs ≡ Some x → cond (q x) (suc (times q (without tn k rs))) (times q (without tn k rs)) ≡ times q rs) → cond (q x) (suc (times q (cond b rs (r ∷ without tn k rs)))) (times q (cond b rs (r ∷ without tn k rs))) ≡ cond (q r) (suc (times q rs)) (times q rs)
        go true f ih = let k : r ≡ x = cc in ap (λ b. cond b (suc (times q rs)) (times q rs)) (ap q (sym k))
        go false f ih = mix (q r) (q x) _ _ (ih f)

    pub some_without : (k : ℕ) (rs : List R) (x : R) → found tn k rs ≡ Some x → q x ≡ false → some q (without tn k rs) ≡ some q rs
    some_without k [] x e h = refl
    some_without k (r ∷ rs) x e h = go (eqb (tn r) k) e (λ f. some_without k rs x f h)
      where
        go : (b : Bool) → cond b (Some r) (found tn k rs) ≡ Some x → (found tn k rs ≡ Some x → some q (without tn k rs) ≡ some q rs) → some q (cond b rs (r ∷ without tn k rs)) ≡ (q r || some q rs)
        go true f ih = let k : r ≡ x = cc in ap (λ b. b || some q rs) (sym (ap q k ∙ h))
        go false f ih = ap (λ b. q r || b) (ih f)

-- what passes one test passes one of two others
pub times_split : {R : Type 0} (q p g : R → Bool) → ((x : R) → q x ≡ true → (p x ≡ true) ⊎ (g x ≡ true)) → (rs : List R) → times q rs ≤ times p rs + times g rs
times_split q p g h [] = omega arith
times_split q p g h (x ∷ rs) = go (q x) (p x) (g x) (h x) (times_split q p g h rs)
  where
    go : (a b c : Bool) → (a ≡ true → (b ≡ true) ⊎ (c ≡ true)) → times q rs ≤ times p rs + times g rs → cond a (suc (times q rs)) (times q rs) ≤ cond b (suc (times p rs)) (times p rs) + cond c (suc (times g rs)) (times g rs)
    go true true true k ih = omega arith
    go true true false k ih = omega arith
    go true false true k ih = omega arith
    go true false false k ih = elim (k refl) [ inl e ↦ never (sym e) | inr e ↦ never (sym e) ]
    go false true true k ih = omega arith
    go false true false k ih = omega arith
    go false false true k ih = omega arith
    go false false false k ih = ih

pub times_less : {R : Type 0} (q p : R → Bool) → ((x : R) → q x ≡ true → p x ≡ true) → (rs : List R) → times q rs ≤ times p rs
times_less q p h [] = omega arith
times_less q p h (x ∷ rs) = go (q x) (p x) (h x) (times_less q p h rs)
  where
    go : (a b : Bool) → (a ≡ true → b ≡ true) → times q rs ≤ times p rs → cond a (suc (times q rs)) (times q rs) ≤ cond b (suc (times p rs)) (times p rs)
    go true true k ih = omega arith
    go true false k ih = never (sym (k refl))
    go false true k ih = omega arith
    go false false k ih = ih
