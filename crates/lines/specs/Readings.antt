-- How a line is read from a place on: a text, a letter, a number, a field, the line end. Each reading gives what it
-- found and the place after it, or the fault with its key; `Passed` and `Handed` tie a reader to its reading.
use Rattle.std.specs.Prelude.{◌≡◌, ℕ, ◌+◌, ◌-◌, cond, List, [], ◌∷◌, length, take, drop, Ok, Err, Result, ◌==◌, nat_lt, slice_index}
use Rattle.std.specs.List.{prefix_len, zip}
use Rattle.lines.specs.declared.number.Numeral.{Numeral}
use Rattle.lines.specs.declared.reader.Reader.{Reader}
use Rattle.lines.specs.Faults.{LineFault, text_fault, end_fault, keyed, line_fault}
use Rattle.lines.specs.Numbers.{numeral_at}
use Rattle.lines.specs.Results.{and_then, on_ok, on_err}
use Rattle.lines.specs.Tokens.{Seen, word, number}

-- how many bytes of the text stand in front of the rest
abbrev pub agree : List ℕ → List ℕ → ℕ
agree text rest = prefix_len (λ pair. pair.0 == pair.1) (zip text rest)

-- the text stands at `at`, and the place after it is answered; else the first byte that differs is at fault
unfoldable pub text_at : {K : Type 0} → K → List ℕ → ℕ → List ℕ → Result ℕ (LineFault K)
text_at key text at line =
    cond (nat_lt (agree text (drop at line)) (length text)) (Err (text_fault key (at + agree text (drop at line)))) (Ok (at + length text))

-- one byte, whatever it is
unfoldable pub letter_at : {K : Type 0} → K → ℕ → List ℕ → Result (Seen × ℕ) (LineFault K)
letter_at key at line = cond (nat_lt at (length line)) (Ok (word (slice_index line at ∷ []) at, at + 1)) (Err (text_fault key at))

-- the token of a number that begins at `at`, and the place after it
abbrev pub numbered : ℕ → List ℕ → Numeral → Seen × ℕ
numbered at line n = (number (take (n.end - at) (drop at line)) n.value at, n.end)

unfoldable pub number_at : {K : Type 0} → K → ℕ → ℕ → List ℕ → Result (Seen × ℕ) (LineFault K)
number_at key most at line = on_ok (numbered at line) (on_err line_fault (keyed key (numeral_at most at line)))

-- a text and the number after it
unfoldable pub field_at : {K : Type 0} → K → List ℕ → ℕ → ℕ → List ℕ → Result (Seen × ℕ) (LineFault K)
field_at key text most at line = and_then (text_at key text at line) (λ after. number_at key most after line)

-- the newline stands at `at`, and nothing after it (past the end `slice_index` gives 0, which is no newline)
unfoldable pub end_at : {K : Type 0} → K → ℕ → List ℕ → Result (Unit {0}) (LineFault K)
end_at key at line =
    cond (slice_index line at == 10)
    (cond (nat_lt (at + 1) (length line)) (Err (end_fault key (at + 1))) (Ok tt))
    (Err (end_fault key at))

-- the line that a reader reads
abbrev pub line_in : Reader → List ℕ
line_in reader = reader.line.now

-- a reader passes a text: it stands after it then, in the same line; at a fault it is as it was
abbrev pub Passed : {U E : Type 0} → (ℕ → List ℕ → Result ℕ E) → Reader → Result U E → Reader → Type 0
Passed reading before (Ok u) after = (reading before.at (line_in before) ≡ Ok after.at) × (line_in after ≡ line_in before)
Passed reading before (Err e) after = (reading before.at (line_in before) ≡ Err e) × (after ≡ before)

-- a reader hands out what the reading finds: it stands after that then, in the same line; at a fault it is as it was
abbrev pub Handed : {T E : Type 0} → (ℕ → List ℕ → Result (T × ℕ) E) → Reader → Result T E → Reader → Type 0
Handed reading before (Ok x) after = (reading before.at (line_in before) ≡ Ok (x, after.at)) × (line_in after ≡ line_in before)
Handed reading before (Err e) after = (reading before.at (line_in before) ≡ Err e) × (after ≡ before)
