-- The record places, through two changes of the records.
use Rattle.std.proofs.Common.{◌≡◌, ◌+◌, ◌-◌, ◌≤◌, List, ◌++◌, length, drop, refl, sym, ap, ◌∙◌, arith}
use Rattle.std.proofs.lemmas.List.{drop-drop, drop_at}
use Rattle.waiting_line.specs.Gaps.{over}

module _ {T : Type 0} where
  -- a second change that leaves as many records or more
  pub over_over : (first second xs : List T) → length first ≤ length second → over second (over first xs) ≡ over second xs
  over_over first second xs more =
      let n = length first in
      let m = length second in
      let k : n + (m - n) ≡ m = omega arith in
      ap (λ l. second ++ l) (
      ap (λ j. drop j (first ++ drop n xs)) (sym k)
      ∙ sym (drop-drop (m - n) n (first ++ drop n xs))
      ∙ ap (drop (m - n)) (drop_at first (drop n xs) n refl)
      ∙ drop-drop (m - n) n xs
      ∙ ap (λ j. drop j xs) k
      )
