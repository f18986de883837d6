-- What is added to a line that is being written, where it fits and where it does not.
use Rattle.std.proofs.Common.{◌≡◌, ℕ, ◌+◌, ◌≤◌, List, [], ◌∷◌, ◌++◌, length, sym, ap, ◌∙◌, arith}
use Rattle.std.proofs.lemmas.List.{append_assoc, append-nil, length-append, length-take-le}
use Rattle.std.proofs.lemmas.Bool.Decides.{nat_tests}
use Rattle.drafts.specs.Drafts.{added, added_all, joined, written}
use Rattle.drafts.specs.declared.draft.Draft.{Draft}

pub added_fits : (N : ℕ) (text more : List ℕ) → length text + length more ≤ N → added N text more ≡ text ++ more
unfolding added
added_fits N text more h = grind (arith, nat_tests)

pub all_fit : (N : ℕ) (text : List ℕ) (pieces : List (List ℕ)) → length text + length (joined pieces) ≤ N → added_all N text pieces ≡ text ++ joined pieces
all_fit N text [] h = sym (append-nil text)
all_fit N text (piece ∷ pieces) h =
    let size = length-append piece (joined pieces) in
    let front = length-append text piece in
    ap (λ here. added_all N here pieces) (added_fits N text piece (omega arith)) ∙ all_fit N (text ++ piece) pieces (omega arith) ∙ append_assoc text piece (joined pieces)

pub length_written : {N : ℕ} (draft : Draft N) → length (written draft) ≡ draft.len
length_written draft = length-take-le draft.len draft.bytes (omega (arith, draft.within, draft.whole))
