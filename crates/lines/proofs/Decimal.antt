-- The digits of a number are read back, and a number that is read is what its digits write.
use Rattle.std.proofs.Common.{◌≡◌, ℕ, zero, suc, ◌+◌, ◌^◌, ◌<◌, ◌≤◌, Bool, true, false, cond, ◌&&◌, List, [], ◌∷◌, ◌++◌, length, get_or, drop, take_while, Ok, decimal, sym, refl, ap, ◌∙◌, arith}
use Rattle.std.specs.Char.{is_ascii_digit}
use Rattle.std.specs.List.{prefix_len}
use Rattle.std.specs.Str.{all_ascii_digits}
use Rattle.std.specs.Str.Parse.{digits_value}
use Rattle.std.proofs.lemmas.Str.Parse.{IsNumeralModel, numerals_by_value, tells_all_ascii_digits}
use Rattle.std.proofs.lemmas.Fmt.{digits_decimal, digits_value-decimal, decimal_nonempty, first_decimal, decimal_digit, decimal-digits_value}
use Rattle.std.proofs.lemmas.List.{take-append-drop}
use Rattle.std.proofs.lemmas.List.Folds.{length-prefix_len}
use Rattle.std.proofs.lemmas.List.Sums.{take_while-cons}
use Rattle.std.proofs.lemmas.Bool.Decides.{nat_tests}
use Rattle.lines.specs.declared.number.Numeral.{Numeral}
use Rattle.lines.specs.Numbers.{numeral_of, numeral_in}

own : IsNumeralModel (λ ds. all_ascii_digits ds ≡ true) (digits_value 10)
own = numerals_by_value _ tells_all_ascii_digits

-- digits with another byte behind them
digits_front : (ds : List ℕ) (b : ℕ) (rest : List ℕ) → all_ascii_digits ds ≡ true → is_ascii_digit b ≡ false → take_while is_ascii_digit (ds ++ b ∷ rest) ≡ ds
digits_front [] b rest all no_digit = take_while-cons is_ascii_digit b rest ∙ ap (λ v. cond v (b ∷ take_while is_ascii_digit rest) []) no_digit
digits_front (d ∷ ds) b rest all no_digit =
    let P : Bool → Type 0 = λ v. (v && all_ascii_digits ds) ≡ true → cond v (d ∷ take_while is_ascii_digit (ds ++ b ∷ rest)) [] ≡ d ∷ ds in
    take_while-cons is_ascii_digit d (ds ++ b ∷ rest)
    ∙ elim (is_ascii_digit d) as P [ true ↦ λ e. ap (λ l. d ∷ l) (digits_front ds b rest e no_digit) | false ↦ λ e. absurd (grind arith) ] all

-- what stands in front of the first other byte is digits
front_digits : (bs : List ℕ) → all_ascii_digits (take_while is_ascii_digit bs) ≡ true
front_digits [] = refl
front_digits (b ∷ bs) =
    let P : Bool → Type 0 = λ v. is_ascii_digit b ≡ v → all_ascii_digits (cond v (b ∷ take_while is_ascii_digit bs) []) ≡ true in
    ap all_ascii_digits (take_while-cons is_ascii_digit b bs)
    ∙ elim (is_ascii_digit b) as P [ true ↦ λ e. ap (λ v. v && all_ascii_digits (take_while is_ascii_digit bs)) e ∙ front_digits bs | false ↦ λ e. refl ] refl

-- a number of several digits does not begin with a zero
first_of : (n : ℕ) → n < 2 ^ 64 → 1 < length (decimal n) → get_or (decimal n) 0 0 ≡ 48 → ⊥
first_of zero small long z = absurd (omega (arith, ap length (decimal_digit 0 (omega arith))))
first_of (suc n) small long z = omega (arith, first_decimal (suc n) (omega arith) small)

pub numeral_decimal : (most from n b : ℕ) (rest : List ℕ) → n ≤ most → n < 2 ^ 64 → is_ascii_digit b ≡ false → numeral_in most from (decimal n ++ b ∷ rest) ≡ Ok (record { value = n; end = from + length (decimal n) })
numeral_decimal most from n b rest fits small no_digit =
    let some = decimal_nonempty n small in
    let value = digits_value-decimal own n small in
    let zero-free = first_of n small in
    ap (numeral_of most from) (digits_front (decimal n) b rest (digits_decimal own n small) no_digit) ∙ rw value (grind (arith, nat_tests))

pub numeral_back : (most from : ℕ) (rest : List ℕ) (m : Numeral) → most < 2 ^ 64 → numeral_in most from rest ≡ Ok m → (rest ≡ decimal m.value ++ drop (length (decimal m.value)) rest) × (m.end ≡ from + length (decimal m.value)) × (m.value ≤ most)
numeral_back most from rest m small h =
    let digits : List ℕ = take_while is_ascii_digit rest in
    let some : 0 < length digits = grind (arith, nat_tests) in
    let plain : get_or digits 0 0 ≡ 48 → length digits ≡ 1 = λ z. grind (arith, nat_tests) in
    let room : digits_value 10 digits ≤ most = grind (arith, nat_tests) in
    let value : digits_value 10 digits ≡ m.value = grind (arith, nat_tests) in
    let ends : from + length digits ≡ m.end = grind (arith, nat_tests) in
    let text : decimal m.value ≡ digits = ap decimal (sym value) ∙ decimal-digits_value own digits (front_digits rest) some plain (omega arith) in
    let long : length (decimal m.value) ≡ length digits = ap length text in
    let run : length digits ≡ prefix_len is_ascii_digit rest = length-prefix_len is_ascii_digit rest in (
      sym (take-append-drop (prefix_len is_ascii_digit rest) rest) ∙ (λ i. sym text i ++ drop (sym (long ∙ run) i) rest),
      omega arith,
      omega arith,
    )
