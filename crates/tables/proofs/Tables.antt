-- What the records of one transaction are after a change of the table: its own change, or none.
use Rattle.std.proofs.Common.{◌≡◌, ℕ, ◌≤◌, Bool, true, false, cond, eqb, List, [], ◌∷◌, ◌++◌, map, length, Some, None, Option, sym, refl, ap, ◌∙◌, subst, arith}
use Rattle.std.proofs.lemmas.List.{append-nil}
use Rattle.std.proofs.lemmas.List.Elements.{filter-append}
use Rattle.std.proofs.lemmas.Bool.{eqb-true, eqb-false, eq-eqb, ne_eqb}
use Rattle.tables.specs.Tables.{Change, same, added, became, removed, found, without, replaced, those, changed, first_by}

abbrev pub rest : {X : Type 0} → List X → List X
rest [] = []
rest (x ∷ xs) = xs

abbrev pub headed : {X : Type 0} → X → List X → List X
headed s [] = []
headed s (x ∷ xs) = s ∷ xs

abbrev pub first : {X : Type 0} → List X → Option X
first [] = None
first (x ∷ xs) = Some x

pub never : {A : Type 0} → true ≡ false → A
never e = cc

pub never_some : {A R : Type 0} {r : R} → None ≡ Some r → A
never_some e = cc

-- two tests of one number against two that differ
pub never_both : (a m n : ℕ) → eqb a m ≡ true → eqb m n ≡ false → eqb a n ≡ false
never_both a m n h k = ne_eqb a n (λ e. eqb-false m n k (sym (eqb-true a m h) ∙ e))

pub both : (a m n : ℕ) → eqb m n ≡ true → eqb a m ≡ eqb a n
both a m n h = ap (λ k. eqb a k) (eqb-true m n h)

pub same_number : (n : ℕ) → eqb n n ≡ true
same_number n = eq-eqb n n refl

module _ {R : Type 0} (tn : R → ℕ) where
  -- what a change does to the records of its own transaction
  abbrev pub own : Change R → List R → List R
  own same rs = rs
  own (added r) rs = rs ++ r ∷ []
  own (became r) rs = headed r rs
  own (removed n) rs = rest rs

  -- the transaction that it is about is not n
  abbrev pub Other : ℕ → Change R → Type 0
  Other n same = Unit {0}
  Other n (added r) = eqb (tn r) n ≡ false
  Other n (became r) = eqb (tn r) n ≡ false
  Other n (removed m) = eqb m n ≡ false

  abbrev pub Own : ℕ → Change R → Type 0
  Own n same = Unit {0}
  Own n (added r) = eqb (tn r) n ≡ true
  Own n (became r) = eqb (tn r) n ≡ true
  Own n (removed m) = eqb m n ≡ true

  pub those_append : (n : ℕ) (xs ys : List R) → those tn n (xs ++ ys) ≡ those tn n xs ++ those tn n ys
  those_append n xs ys = filter-append (λ r. eqb (tn r) n) xs ys

  pub those_one_other : (n : ℕ) (x : R) → eqb (tn x) n ≡ false → those tn n (x ∷ []) ≡ []
  those_one_other n x h = rw h

  pub those_one_own : (n : ℕ) (x : R) → eqb (tn x) n ≡ true → those tn n (x ∷ []) ≡ x ∷ []
  those_one_own n x h = rw h

  pub those_without_other : (n m : ℕ) (rs : List R) → eqb m n ≡ false → those tn n (without tn m rs) ≡ those tn n rs
  those_without_other n m [] h = refl
  those_without_other n m (r ∷ rs) h = go (eqb (tn r) m) refl (those_without_other n m rs h)
    where
      go : (b : Bool) → eqb (tn r) m ≡ b → those tn n (without tn m rs) ≡ those tn n rs → those tn n (cond b rs (r ∷ without tn m rs)) ≡ those tn n (r ∷ rs)
      go true e ih = rw (never_both (tn r) m n e h)
      go false e ih = ap (λ zs. cond (eqb (tn r) n) (r ∷ zs) zs) ih

  pub those_without_own : (n m : ℕ) (rs : List R) → eqb m n ≡ true → those tn n (without tn m rs) ≡ rest (those tn n rs)
  those_without_own n m [] h = refl
  those_without_own n m (r ∷ rs) h = go (eqb (tn r) m) refl (those_without_own n m rs h)
    where
      go : (b : Bool) → eqb (tn r) m ≡ b → those tn n (without tn m rs) ≡ rest (those tn n rs) → those tn n (cond b rs (r ∷ without tn m rs)) ≡ rest (those tn n (r ∷ rs))
      go true e ih = rw (sym (both (tn r) m n h) ∙ e)
      go false e ih = rw (sym (both (tn r) m n h) ∙ e) ih

  pub those_replaced_other : (n : ℕ) (s : R) (rs : List R) → eqb (tn s) n ≡ false → those tn n (replaced tn s rs) ≡ those tn n rs
  those_replaced_other n s [] h = refl
  those_replaced_other n s (r ∷ rs) h = go (eqb (tn r) (tn s)) refl (those_replaced_other n s rs h)
    where
      go : (b : Bool) → eqb (tn r) (tn s) ≡ b → those tn n (replaced tn s rs) ≡ those tn n rs → those tn n (cond b (s ∷ rs) (r ∷ replaced tn s rs)) ≡ those tn n (r ∷ rs)
      go true e ih = rw (never_both (tn r) (tn s) n e h, h)
      go false e ih = ap (λ zs. cond (eqb (tn r) n) (r ∷ zs) zs) ih

  pub those_replaced_own : (n : ℕ) (s : R) (rs : List R) → eqb (tn s) n ≡ true → those tn n (replaced tn s rs) ≡ headed s (those tn n rs)
  those_replaced_own n s [] h = refl
  those_replaced_own n s (r ∷ rs) h = go (eqb (tn r) (tn s)) refl (those_replaced_own n s rs h)
    where
      go : (b : Bool) → eqb (tn r) (tn s) ≡ b → those tn n (replaced tn s rs) ≡ headed s (those tn n rs) → those tn n (cond b (s ∷ rs) (r ∷ replaced tn s rs)) ≡ headed s (those tn n (r ∷ rs))
      go true e ih = rw (sym (both (tn r) (tn s) n h) ∙ e, h)
      go false e ih = rw (sym (both (tn r) (tn s) n h) ∙ e) ih

  pub those_other : (n : ℕ) (c : Change R) (rs : List R) → Other n c → those tn n (changed tn c rs) ≡ those tn n rs
  those_other n same rs h = refl
  those_other n (added r) rs h = those_append n rs (r ∷ []) ∙ ap (λ zs. those tn n rs ++ zs) (those_one_other n r h) ∙ append-nil (those tn n rs)
  those_other n (became r) rs h = those_replaced_other n r rs h
  those_other n (removed m) rs h = those_without_other n m rs h

  pub those_own : (n : ℕ) (c : Change R) (rs : List R) → Own n c → those tn n (changed tn c rs) ≡ own c (those tn n rs)
  those_own n same rs h = refl
  those_own n (added r) rs h = those_append n rs (r ∷ []) ∙ ap (λ zs. those tn n rs ++ zs) (those_one_own n r h)
  those_own n (became r) rs h = those_replaced_own n r rs h
  those_own n (removed m) rs h = those_without_own n m rs h

  pub those_map : (f : R → R) → ((r : R) → tn (f r) ≡ tn r) → (n : ℕ) (rs : List R) → those tn n (map f rs) ≡ map f (those tn n rs)
  those_map f h n [] = refl
  those_map f h n (r ∷ rs) = rw (h r) (go (eqb (tn r) n) (those_map f h n rs))
    where
      go : (b : Bool) → those tn n (map f rs) ≡ map f (those tn n rs) → cond b (f r ∷ those tn n (map f rs)) (those tn n (map f rs)) ≡ map f (cond b (r ∷ those tn n rs) (those tn n rs))
      go true ih = ap (λ zs. f r ∷ zs) ih
      go false ih = ih

  pub found_those : (n : ℕ) (rs : List R) → found tn n rs ≡ first (those tn n rs)
  found_those n [] = refl
  found_those n (r ∷ rs) = go (eqb (tn r) n) (found_those n rs)
    where
      go : (b : Bool) → found tn n rs ≡ first (those tn n rs) → cond b (Some r) (found tn n rs) ≡ first (cond b (r ∷ those tn n rs) (those tn n rs))
      go true ih = refl
      go false ih = ih

  pub found_tn : (n : ℕ) (rs : List R) (s : R) → found tn n rs ≡ Some s → eqb (tn s) n ≡ true
  found_tn n [] s e = never_some e
  found_tn n (r ∷ rs) s e = go (eqb (tn r) n) refl e (found_tn n rs s)
    where
      go : (b : Bool) → eqb (tn r) n ≡ b → cond b (Some r) (found tn n rs) ≡ Some s → (found tn n rs ≡ Some s → eqb (tn s) n ≡ true) → eqb (tn s) n ≡ true
      go true f g ih = let k : r ≡ s = cc in subst (λ x. eqb (tn x) n ≡ true) k f
      go false f g ih = ih g

-- the only one
pub alone : {R : Type 0} (xs : List R) (r : R) → first xs ≡ Some r → length xs ≤ 1 → xs ≡ r ∷ []
alone [] r e h = never_some e
alone (x ∷ []) r e h = let k : x ≡ r = cc in ap (λ y. y ∷ []) k
alone (x ∷ y ∷ xs) r e h = absurd (omega arith)

pub none : {R : Type 0} (xs : List R) → first xs ≡ None → xs ≡ []
none [] e = refl
none (x ∷ xs) e = never_some (sym e)

pub nil_right : {R : Type 0} (xs : List R) → xs ++ [] ≡ xs
nil_right xs = append-nil xs

module _ {R : Type 0} (tn : R → ℕ) (n : ℕ) where
  -- the record that was found is the only one of its transaction
  pub stands_alone : (k : ℕ) (rs : List R) (r : R) → found tn k rs ≡ Some r → length (those tn n rs) ≤ 1 → eqb (tn r) n ≡ true → those tn n rs ≡ r ∷ []
  stands_alone k rs r e h m =
      let kn : k ≡ n = sym (eqb-true (tn r) k (found_tn tn k rs r e)) ∙ eqb-true (tn r) n m in
      alone (those tn n rs) r (sym (found_those tn n rs) ∙ subst (λ j. found tn j rs ≡ Some r) kn e) h

  pub stands_none : (k : ℕ) (rs : List R) → found tn k rs ≡ None → eqb k n ≡ true → those tn n rs ≡ []
  stands_none k rs e m = none (those tn n rs) (sym (found_those tn n rs) ∙ subst (λ j. found tn j rs ≡ None) (eqb-true k n m) e)

  -- so is the first that passes a test
  first_some : (q : R → Bool) (rs : List R) (r : R) → first_by q rs ≡ Some r → eqb (tn r) n ≡ true → 1 ≤ length (those tn n rs)
  first_some q [] r e m = never_some e
  first_some q (y ∷ ys) r e m = go (q y) (eqb (tn y) n) refl e (first_some q ys r)
    where
      go : (b d : Bool) → eqb (tn y) n ≡ d → cond b (Some y) (first_by q ys) ≡ Some r → (first_by q ys ≡ Some r → eqb (tn r) n ≡ true → 1 ≤ length (those tn n ys)) → 1 ≤ length (cond d (y ∷ those tn n ys) (those tn n ys))
      go true true f g ih = omega arith
      go true false f g ih =
          let k : y ≡ r = cc in
          never (sym m ∙ ap (λ u. eqb (tn u) n) (sym k) ∙ f)
      go false true f g ih = omega arith
      go false false f g ih = ih g m

  pub first_alone : (q : R → Bool) (rs : List R) (r : R) → first_by q rs ≡ Some r → length (those tn n rs) ≤ 1 → eqb (tn r) n ≡ true → those tn n rs ≡ r ∷ []
  first_alone q [] r e h m = never_some e
  first_alone q (y ∷ ys) r e h m = go (q y) (eqb (tn y) n) refl e h (first_alone q ys r)
    where
      go : (b d : Bool) → eqb (tn y) n ≡ d → cond b (Some y) (first_by q ys) ≡ Some r → length (cond d (y ∷ those tn n ys) (those tn n ys)) ≤ 1 → (first_by q ys ≡ Some r → length (those tn n ys) ≤ 1 → eqb (tn r) n ≡ true → those tn n ys ≡ r ∷ []) → cond d (y ∷ those tn n ys) (those tn n ys) ≡ r ∷ []
      go true true f g l ih = let k : y ≡ r = cc in alone (y ∷ those tn n ys) r (ap Some k) l
      go true false f g l ih =
          let k : y ≡ r = cc in
          never (sym m ∙ ap (λ u. eqb (tn u) n) (sym k) ∙ f)
      go false true f g l ih = absurd (omega (arith, first_some q ys r g m))
      go false false f g l ih = ih g l m

  pub first_passes : (q : R → Bool) (rs : List R) (r : R) → first_by q rs ≡ Some r → q r ≡ true
  first_passes q [] r e = never_some e
  first_passes q (y ∷ ys) r e = go (q y) refl e (first_passes q ys r)
    where
      go : (b : Bool) → q y ≡ b → cond b (Some y) (first_by q ys) ≡ Some r → (first_by q ys ≡ Some r → q r ≡ true) → q r ≡ true
      go true f g ih = let k : y ≡ r = cc in subst (λ u. q u ≡ true) k f
      go false f g ih = ih g
