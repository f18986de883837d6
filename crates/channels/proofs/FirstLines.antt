-- The first part of a split that keeps each byte 10 is the first line.
use Rattle.std.proofs.Common.{◌≡◌, ℕ, suc, zero, ◌+◌, ◌<◌, min, Bool, cond, eqb, List, [], ◌∷◌, ◌++◌, length, take, Some, None, Option, unwrap_or, Bor, sym, refl, ap, ◌∙◌, add-one, arith}
use Rattle.std.proofs.lemmas.Grind.{common_steps}
use Rattle.std.specs.List.{IsFirstMatchOrLen}
use Rattle.std.specs.Option.{MatchOption}
use Rattle.std.specs.Fn.{ComputesKey}
use denote.Param.Members.{Mut}
use Rattle.channels.specs.Lined.{first_line}

-- the byte ends a line
abbrev pub ends : ℕ → Bool
ends b = eqb b 10

line_taken : (bs : List ℕ) (i : ℕ) → IsFirstMatchOrLen ends bs i → take (suc i) bs ≡ first_line bs
line_taken [] i is = refl
line_taken (b ∷ bs) zero is = ap (λ t. b ∷ cond t [] (first_line bs)) (sym (is.1 (omega arith) 0))
line_taken (b ∷ bs) (suc i) is =
    ap (λ l. b ∷ l) (line_taken bs i ((λ k d low here. is.0 (suc k) d (omega arith) (omega arith)), λ here d. is.1 (omega arith) d))
    ∙ ap (λ t. b ∷ cond t [] (first_line bs)) (sym (is.0 0 0 (omega arith) (omega arith)))

part_taken : (bs part rest : List ℕ) (n : ℕ) → bs ≡ part ++ rest → length part ≡ min n (length bs) → part ≡ take n bs
part_taken bs part rest n cut size = grind (arith, common_steps)

-- bytes with no part are none, and else a part is the first line
pub part_or_all : {F : Type 0} (Same : Type 0) (g : Mut F (Bor ℕ × Unit {0}) Bool) (f f' : F) (all : Bor (List ℕ)) (bs rest : List ℕ) (part : Option (Bor (List ℕ))) → bs ≡ all.now → ComputesKey g ends f
    → MatchOption part ((length bs ≡ 0) × Same)
    (λ x. (bs ≡ x.now ++ rest) × ((i : ℕ) × (length x.now ≡ min (i + 1) (length bs)) × ((p : ℕ → Bool) → ComputesKey g p f → ComputesKey g p f' × IsFirstMatchOrLen p bs i)) × (0 < length bs))
    → (unwrap_or part all).now ≡ first_line all.now
part_or_all Same g f f' all [] rest None are computes none = sym are ∙ ap first_line are
part_or_all Same g f f' all (b ∷ bs) rest None are computes none = absurd (omega (arith, none.0))
part_or_all Same g f f' all bs rest (Some x) are computes some =
    let i = some.1.0 in
    part_taken bs x.now rest (i + 1) some.0 some.1.1 ∙ ap (λ n. take n bs) (add-one i) ∙ line_taken bs i (some.1.2 ends computes).1 ∙ ap first_line are
