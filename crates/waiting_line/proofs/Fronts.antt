-- The front of a list, up to a count that may pass its end, and what a change of the front leaves.
use Rattle.std.proofs.Common.{◌≡◌, ℕ, suc, ◌+◌, ◌<◌, ◌≤◌, List, [], ◌∷◌, ◌++◌, length, take, drop, set, sym, refl, ap, ◌∙◌, subst, ⊎_elim, arith}
use Rattle.std.specs.List.{between, remove}
use Rattle.std.proofs.lemmas.List.{append_assoc, drop_all, length-set, length-take, length_push, set-append_left, set_split, take-append-drop, take-take, take_at}
use Rattle.std.proofs.lemmas.Slice.{between_is}
use Rattle.std.proofs.lemmas.Bool.{cases_lt}
use Rattle.waiting_line.specs.declared.line.WaitingLine.{WaitingLine}
use Rattle.waiting_line.specs.Gaps.{over, closed}
use Rattle.waiting_line.specs.Lines.{memory, items, capacity, Holds}

module _ {X : Type 0} (u : ℕ) (xs : List X) where
  pub rest_held : (n : ℕ) → n ≡ length (take u xs) → drop n xs ≡ drop u xs
  rest_held n held =
      let k = length-take u xs in
      ⊎_elim
      (λ l. ap (λ m. drop m xs) (let h : n ≡ u = omega arith in h))
      (λ l. drop_all n xs (omega arith) ∙ sym (drop_all u xs l))
      (cases_lt u (length xs))

  pub front_over : (fs : List X) → fs ≡ take u xs → xs ≡ over fs xs
  front_over fs same = sym (ap (λ l. l ++ drop (length fs) xs) same ∙ ap (λ l. take u xs ++ l) (rest_held (length fs) (ap length same)) ∙ take-append-drop u xs)

  -- another element at a place of the front
  pub front_set : (i : ℕ) (y : X) → i < u → u ≤ length xs → set xs i y ≡ over (set (take u xs) i y) xs
  front_set i y l fit =
      let k = length-take u xs in
      ap (λ l. set l i y) (sym (take-append-drop u xs)) ∙ set-append_left (take u xs) (drop u xs) i y (omega arith)
      ∙ ap (λ l. set (take u xs) i y ++ l) (sym (rest_held (length (set (take u xs) i y)) (length-set (take u xs) i y)))

  -- one more element at the end of the front
  pub front_push : (y : X) → u < length xs → set xs u y ≡ over (take u xs ++ y ∷ []) xs
  front_push y room =
      let size : suc u ≡ length (take u xs ++ y ∷ []) = omega (arith, length_push (take u xs) y, length-take u xs) in
      set_split xs u y room ∙ sym (append_assoc (take u xs) (y ∷ []) (drop (suc u) xs)) ∙ ap (λ n. (take u xs ++ y ∷ []) ++ drop n xs) size

  -- the front without its element at i, once the gap of one place at i is closed
  pub without : (i : ℕ) → i < u → closed i 1 u xs ≡ over (remove (take u xs) i) xs
  without i l =
      let front : take i xs ≡ take i (take u xs) = sym (take-take i u xs (omega arith)) in
      let part : between (i + 1) u xs ≡ drop (suc i) (take u xs) = between_is xs (i + 1) u ∙ ap (λ k. drop k (take u xs)) (let e : i + 1 ≡ suc i = omega arith in e) in
      ap (λ f. over f xs) (ap (λ f. f ++ between (i + 1) u xs) front ∙ ap (λ f. take i (take u xs) ++ f) part)

  -- the front without its first n elements, once their gap is closed
  pub without_first : (n : ℕ) → closed 0 n u xs ≡ over (drop n (take u xs)) xs
  without_first n = ap (λ f. over f xs) (between_is xs (0 + n) u ∙ ap (λ k. drop k (take u xs)) (let e : 0 + n ≡ n = omega arith in e))

-- elements laid over the memory, as many as are counted then, are what the line holds
pub laid : {X : Type 0} (before after : WaitingLine X) (elements : List X) → after.used ≡ length elements → capacity after ≡ capacity before → memory after ≡ over elements (memory before) → Holds before elements after
laid before after elements size places is = record {
  items = ap (take after.used) is ∙ take_at elements (drop (length elements) (memory before)) after.used (sym size);
  memory = is;
  capacity = places;
}

pub unchanged : {X : Type 0} (w : WaitingLine X) → Holds w (items w) w
unchanged w = record { items = refl; memory = front_over w.used (memory w) (items w) refl; capacity = refl }

-- the same elements, told in another way
pub told_as : {X : Type 0} {before after : WaitingLine X} {xs ys : List X} → Holds before xs after → xs ≡ ys → Holds before ys after
told_as {before = before} {after} left same = subst (λ l. Holds before l after) same left
