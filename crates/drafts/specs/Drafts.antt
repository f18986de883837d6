-- A line that is being written: the bytes that are written so far, and what is added to them.
-- What does not fit within N bytes is left out whole, and the line stays as it was.
use Rattle.std.specs.Prelude.{ℕ, ◌+◌, cond, List, [], ◌∷◌, ◌++◌, length, take, nat_le}
use Rattle.drafts.specs.declared.draft.Draft.{Draft}

abbrev pub written : {N : ℕ} → Draft N → List ℕ
written draft = take draft.len draft.bytes

unfoldable pub added : ℕ → List ℕ → List ℕ → List ℕ
added N text more = cond (nat_le (length text + length more) N) (text ++ more) text

-- pieces that are added one after another
abbrev pub added_all : ℕ → List ℕ → List (List ℕ) → List ℕ
added_all N text [] = text
added_all N text (piece ∷ pieces) = added_all N (added N text piece) pieces

-- all of them in a row
abbrev pub joined : List (List ℕ) → List ℕ
joined [] = []
joined (piece ∷ pieces) = piece ++ joined pieces
