-- What was written is read back, and what is read was written: a text, a letter, a number, a field, the line end.
-- Each `_to` goes from what stands at a place to its reading and the place after it, each `_from` the other way.
use Rattle.std.proofs.Common.{◌≡◌, ℕ, suc, ◌+◌, ◌-◌, ◌^◌, ◌<◌, ◌≤◌, false, List, [], ◌∷◌, ◌++◌, length, get_or, take, drop, Ok, Err, decimal, Result, sym, refl, ap, ◌∙◌, add-zero, arith}
use Rattle.std.specs.Char.{is_ascii_digit}
use Rattle.std.proofs.lemmas.List.{drop_all, drop_at, drop-drop, drop_more, get_or-drop, get_or_past, length-drop, take_at}
use Rattle.std.proofs.lemmas.Bool.Decides.{nat_tests}
use Rattle.lines.specs.declared.number.Numeral.{Numeral}
use Rattle.lines.specs.declared.number.NumberFault.{NumberFault}
use Rattle.lines.specs.Faults.{LineFault, keyed, line_fault}
use Rattle.lines.specs.Numbers.{numeral_in, numeral_at}
use Rattle.lines.specs.Readings.{agree, text_at, letter_at, numbered, number_at, field_at, end_at}
use Rattle.lines.specs.Results.{and_then, on_ok, on_err}
use Rattle.lines.specs.Tokens.{Seen, word, number, first_in, value_in}
use Rattle.lines.proofs.Agree.{agree_front, agree_back}
use Rattle.lines.proofs.Decimal.{numeral_decimal, numeral_back}

pub then_ok : {A B E : Type 0} {r : Result A E} {x : A} (next : A → Result B E) → r ≡ Ok x → and_then r next ≡ next x
then_ok next e = ap (λ r. and_then r next) e

-- what came before an `Ok` was one too
pub then_back : {A B E : Type 0} (r : Result A E) (next : A → Result B E) (y : B) → and_then r next ≡ Ok y → (x : A) × (r ≡ Ok x) × (next x ≡ Ok y)
then_back (Ok x) next y h = (x, refl, h)
then_back (Err e) next y h = absurd (let z : ◌≡◌ {A = ℕ} 0 1 = cc in omega arith)

-- the same, to go on from it
pub then_in : {A B E : Type 0} (r : Result A E) (next : A → Result B E) (y : B) (P : Type 0) → and_then r next ≡ Ok y → ((x : A) → r ≡ Ok x → next x ≡ Ok y → P) → P
then_in r next y P h go = let step = then_back r next y h in go step.0 step.1 step.2

pub ok_same : {A E : Type 0} (x y : A) → ◌≡◌ {A = Result A E} (Ok x) (Ok y) → x ≡ y
ok_same {A} {E} x y e = let value : Result A E → A = λ r. elim r [ Ok v ↦ v | Err f ↦ x ] in ap value e

-- the place after a text that stands at `at`
past_text : (text line : List ℕ) (at : ℕ) (rest : List ℕ) → drop at line ≡ text ++ rest → drop (at + length text) line ≡ rest
past_text text line at rest e = sym (drop-drop (length text) at line) ∙ ap (drop (length text)) e ∙ drop_at text rest (length text) refl

-- a text, from its place to the place after it
from_text : (text line : List ℕ) (at after : ℕ) → drop at line ≡ text ++ drop (length text) (drop at line) → after ≡ at + length text → drop at line ≡ text ++ drop after line
from_text text line at after e place = e ∙ ap (λ rest. text ++ rest) (drop-drop (length text) at line ∙ ap (λ k. drop k line) (sym place))

first_at : (line : List ℕ) (at b : ℕ) (rest : List ℕ) → drop at line ≡ b ∷ rest → get_or line at 0 ≡ b
first_at line at b rest e = ap (λ i. get_or line i 0) (sym (add-zero at)) ∙ sym (get_or-drop at line 0 0) ∙ ap (λ l. get_or l 0 0) e

pub text_to : {K : Type 0} (key : K) (text line : List ℕ) (at : ℕ) (rest : List ℕ) → drop at line ≡ text ++ rest → (text_at key text at line ≡ Ok (at + length text)) × (drop (at + length text) line ≡ rest)
unfolding text_at
text_to key text line at rest e =
    let all : agree text (drop at line) ≡ length text = ap (agree text) e ∙ agree_front text rest in
    (rw all (grind (arith, nat_tests)), past_text text line at rest e)

pub text_from : {K : Type 0} (key : K) (text line : List ℕ) (at after : ℕ) → text_at key text at line ≡ Ok after → (after ≡ at + length text) × (drop at line ≡ text ++ drop after line)
unfolding text_at
text_from key text line at after h =
    let all : length text ≤ agree text (drop at line) = grind (arith, nat_tests) in
    let place : after ≡ at + length text = grind (arith, nat_tests) in
    (place, from_text text line at after (agree_back text (drop at line) all) place)

pub letter_to : {K : Type 0} (key : K) (b : ℕ) (line : List ℕ) (at : ℕ) (rest : List ℕ) → drop at line ≡ b ∷ rest → (letter_at key at line ≡ Ok (word (b ∷ []) at, at + 1)) × (drop (at + 1) line ≡ rest)
unfolding letter_at
letter_to key b line at rest e =
    let first = first_at line at b rest e in
    let size : length line - at ≡ suc (length rest) = sym (length-drop at line) ∙ ap length e in
    (rw first (grind (arith, nat_tests)), past_text (b ∷ []) line at rest e)

pub letter_from : {K : Type 0} (key : K) (line : List ℕ) (at : ℕ) (p : Seen × ℕ) → letter_at key at line ≡ Ok p → (p.0 ≡ word (first_in p.0 ∷ []) at) × (drop at line ≡ first_in p.0 ∷ drop p.1 line)
unfolding letter_at
letter_from key line at p h =
    let within : at < length line = grind (arith, nat_tests) in
    let is : (word (get_or line at 0 ∷ []) at, at + 1) ≡ p = grind (arith, nat_tests) in
    let token : p.0 ≡ word (get_or line at 0 ∷ []) at = ap (λ q. q.0) (sym is) in
    let first : get_or line at 0 ≡ first_in p.0 = ap first_in (sym token) in
    (token ∙ ap (λ b. word (b ∷ []) at) first, drop_more line at 0 within ∙ (λ i. first i ∷ drop (is i).1 line))

pub number_to : {K : Type 0} (key : K) (most n b : ℕ) (line : List ℕ) (at : ℕ) (rest : List ℕ) → n ≤ most → most < 2 ^ 64 → is_ascii_digit b ≡ false → drop at line ≡ decimal n ++ b ∷ rest → (number_at key most at line ≡ Ok (number (decimal n) n at, at + length (decimal n))) × (drop (at + length (decimal n)) line ≡ b ∷ rest)
unfolding number_at
number_to {K} key most n b line at rest fits small no_digit e =
    let N : Numeral = record { value = n; end = at + length (decimal n) } in
    let read : numeral_at most at line ≡ Ok N = ap (numeral_in most at) e ∙ numeral_decimal most at n b rest fits (omega arith) no_digit in
    let size : at + length (decimal n) - at ≡ length (decimal n) = omega arith in
    let part : take (at + length (decimal n) - at) (drop at line) ≡ decimal n = rw (size, e) (take_at (decimal n) (b ∷ rest) (length (decimal n)) refl) in
    let F : Result Numeral NumberFault → Result (Seen × ℕ) (LineFault K) = λ r. on_ok (numbered at line) (on_err line_fault (keyed key r)) in
    (ap F read ∙ ap (λ digits. Ok (number digits n at, at + length (decimal n))) part, past_text (decimal n) line at (b ∷ rest) e)

pub number_from : {K : Type 0} (key : K) (most : ℕ) (line : List ℕ) (at : ℕ) (p : Seen × ℕ) → most < 2 ^ 64 → number_at key most at line ≡ Ok p → (value_in p.0 ≤ most) × (drop at line ≡ decimal (value_in p.0) ++ drop p.1 line)
unfolding number_at
number_from {K} key most line at p small h =
    let F : Result Numeral NumberFault → Result (Seen × ℕ) (LineFault K) = λ r. on_ok (numbered at line) (on_err line_fault (keyed key r)) in
    let Q : Result Numeral NumberFault → Type 0 = λ r. F r ≡ Ok p → (m : Numeral) × (r ≡ Ok m) × (numbered at line m ≡ p) in
    let found = elim (numeral_at most at line) as Q [ Ok m ↦ λ e. (m, refl, ok_same (numbered at line m) p e) | Err f ↦ λ e. absurd (let z : ◌≡◌ {A = ℕ} 0 1 = cc in omega arith) ] h in
    let m : Numeral = found.0 in
    let told = numeral_back most at (drop at line) m small found.1 in
    let value : m.value ≡ value_in p.0 = ap (λ q. value_in q.0) found.2 in
    let after : m.end ≡ p.1 = ap (λ q. q.1) found.2 in (
      omega arith,
      from_text (decimal m.value) line at m.end told.0 told.1 ∙ (λ i. decimal (value i) ++ drop (after i) line),
    )

pub field_to : {K : Type 0} (key : K) (text : List ℕ) (most n b : ℕ) (line : List ℕ) (at : ℕ) (rest : List ℕ) → n ≤ most → most < 2 ^ 64 → is_ascii_digit b ≡ false → drop at line ≡ text ++ (decimal n ++ b ∷ rest) → (field_at key text most at line ≡ Ok (number (decimal n) n (at + length text), at + length text + length (decimal n))) × (drop (at + length text + length (decimal n)) line ≡ b ∷ rest)
unfolding field_at
field_to key text most n b line at rest fits small no_digit e =
    let front = text_to key text line at (decimal n ++ b ∷ rest) e in
    let digits = number_to key most n b line (at + length text) rest fits small no_digit front.1 in
    (then_ok (λ after. number_at key most after line) front.0 ∙ digits.0, digits.1)

pub field_from : {K : Type 0} (key : K) (text : List ℕ) (most : ℕ) (line : List ℕ) (at : ℕ) (p : Seen × ℕ) → most < 2 ^ 64 → field_at key text most at line ≡ Ok p → (value_in p.0 ≤ most) × (drop at line ≡ text ++ (decimal (value_in p.0) ++ drop p.1 line))
unfolding field_at
field_from key text most line at p small h =
    let step = then_back (text_at key text at line) (λ after. number_at key most after line) p h in
    let front = text_from key text line at step.0 step.1 in
    let digits = number_from key most line step.0 p small step.2 in
    (digits.0, front.1 ∙ ap (λ rest. text ++ rest) digits.1)

pub end_to : {K : Type 0} (key : K) (line : List ℕ) (at : ℕ) → drop at line ≡ 10 ∷ [] → end_at key at line ≡ Ok tt
unfolding end_at
end_to key line at e =
    let first = first_at line at 10 [] e in
    let size : length line - at ≡ 1 = sym (length-drop at line) ∙ ap length e in
    rw first (grind (arith, nat_tests))

pub end_from : {K : Type 0} (key : K) (line : List ℕ) (at : ℕ) (u : Unit {0}) → end_at key at line ≡ Ok u → drop at line ≡ 10 ∷ []
unfolding end_at
end_from key line at u h =
    let first : get_or line at 0 ≡ 10 = grind (arith, nat_tests) in
    let last : length line ≤ at + 1 = grind (arith, nat_tests) in
    let within : at < length line = grind (arith, nat_tests, get_or_past line at 0) in
    drop_more line at 0 within ∙ (λ i. first i ∷ drop_all (at + 1) line last i)
