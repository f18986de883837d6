-- What a waiting line holds, and what its calls answer and leave, over the list of its elements and the whole of its memory.
-- Past the end of a list `slice_set` and `remove` change nothing, so that a denied call leaves all as it was.
use Rattle.std.specs.Prelude.{◌≡◌, ℕ, ◌+◌, Bool, cond, List, [], ◌∷◌, ◌++◌, length, take, Ok, Err, Result, nat_le, nat_lt}
use Rattle.std.specs.Option.{ok_or}
use Rattle.std.specs.List.{slice_get}
use Rattle.answers.specs.declared.denial.Denial.{Denial}
use Rattle.answers.specs.declared.denial.Denial.TheVariants.{NoFreePlace, NoneThere}
use Rattle.waiting_line.specs.Gaps.{over}
use Rattle.waiting_line.specs.declared.line.WaitingLine.{WaitingLine}

-- all that was given to it
abbrev pub memory : {T : Type 0} → WaitingLine T → List T
memory w = w.places.now

-- its elements, in order
abbrev pub items : {T : Type 0} → WaitingLine T → List T
items w = take w.used (memory w)

-- how many places there are
abbrev pub capacity : {T : Type 0} → WaitingLine T → ℕ
capacity w = length (memory w)

-- the line holds these elements then; past them its memory is as it was, and it has as many places
pub record Holds {T : Type 0} (before : WaitingLine T) (elements : List T) (after : WaitingLine T) : Type 0 where
  pub items : items after ≡ elements
  pub memory : memory after ≡ over elements (memory before)
  pub capacity : capacity after ≡ capacity before

-- the elements hold each of n places
abbrev pub full : {T : Type 0} → ℕ → List T → Bool
full n xs = nat_le n (length xs)

abbrev pub put_answer : {T : Type 0} → ℕ → List T → Result (Unit {0}) Denial
put_answer n xs = cond (full n xs) (Err NoFreePlace) (Ok tt)

abbrev pub put_left : {T : Type 0} → ℕ → List T → T → List T
put_left n xs x = cond (full n xs) xs (xs ++ x ∷ [])

-- xs and ys together need no more than n places
abbrev pub fitting : {T : Type 0} → ℕ → List T → List T → Bool
fitting n xs ys = nat_le (length xs + length ys) n

abbrev pub put_all_answer : {T : Type 0} → ℕ → List T → List T → Result (Unit {0}) Denial
put_all_answer n xs ys = cond (fitting n xs ys) (Ok tt) (Err NoFreePlace)

abbrev pub put_all_left : {T : Type 0} → ℕ → List T → List T → List T
put_all_left n xs ys = cond (fitting n xs ys) (xs ++ ys) xs

abbrev pub read_answer : {T : Type 0} → List T → ℕ → Result T Denial
read_answer xs i = ok_or (slice_get xs i) NoneThere

abbrev pub place_answer : {T : Type 0} → List T → ℕ → Result (Unit {0}) Denial
place_answer xs i = cond (nat_lt i (length xs)) (Ok tt) (Err NoneThere)
