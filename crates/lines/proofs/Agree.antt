-- How far two lists agree.
use Rattle.std.proofs.Common.{◌≡◌, ℕ, ◌≤◌, List, [], ◌∷◌, ◌++◌, length, drop, sym, refl, arith, eq-eqb}
use Rattle.std.proofs.lemmas.Bool.Decides.{nat_tests}
use Rattle.lines.specs.Readings.{agree}

pub agree_front : (text rest : List ℕ) → agree text (text ++ rest) ≡ length text
agree_front [] rest = refl
agree_front (c ∷ text) rest = rw (eq-eqb c c refl) (omega (arith, agree_front text rest))

pub agree_back : (text rest : List ℕ) → length text ≤ agree text rest → rest ≡ text ++ drop (length text) rest
agree_back [] rest h = refl
agree_back (c ∷ text) [] h = absurd (omega arith)
agree_back (c ∷ text) (b ∷ rest) h =
    let same : c ≡ b = grind (arith, nat_tests) in
    let more : length text ≤ agree text rest = grind (arith, nat_tests) in
    λ i. sym same i ∷ agree_back text rest more i
