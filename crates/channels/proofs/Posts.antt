-- What is put where a place is free: one message, and several of which all are lawful and fit.
use Rattle.std.proofs.Common.{◌≡◌, ℕ, ◌+◌, ◌<◌, ◌≤◌, true, List, [], ◌∷◌, ◌++◌, length, sym, ap, ◌∙◌, arith}
use Rattle.std.specs.List.{AllByRecursion}
use Rattle.std.proofs.lemmas.List.{append_assoc, append-nil, length_push}
use Rattle.std.proofs.lemmas.Bool.{cond-true, cond-false, lt-leb}
use Rattle.messages.specs.declared.values.Values.{Values}
use Rattle.messages.specs.Lawful.{is_lawful}
use Rattle.waiting_line.specs.Lines.{put_left, full}
use Rattle.channels.specs.Meaning.{posted, posts}

-- a message goes to the end of a list that is not full
pub put_end : (capacity : ℕ) (ms : List Values) (p : Values) → length ms < capacity → put_left capacity ms p ≡ ms ++ p ∷ []
put_end capacity ms p free = cond-false (full capacity ms) ms (ms ++ p ∷ []) (lt-leb capacity (length ms) free)

-- lawful messages that fit go to the end, all of them
pub posts_all : (capacity : ℕ) (ms ps : List Values) → AllByRecursion (λ v. is_lawful v ≡ true) ps → length ms + length ps ≤ capacity → posts capacity ms ps ≡ ms ++ ps
posts_all capacity ms [] lawful fit = sym (append-nil ms)
posts_all capacity ms (p ∷ ps) lawful fit =
    let one : posted capacity ms p ≡ ms ++ p ∷ [] = cond-true (is_lawful p) (put_left capacity ms p) ms lawful.0 ∙ put_end capacity ms p (omega arith) in
    let size = length_push ms p in
    ap (λ l. posts capacity l ps) one ∙ posts_all capacity (ms ++ p ∷ []) ps lawful.1 (omega arith) ∙ append_assoc ms (p ∷ []) ps
