-- How a number of a line is read: its digits in the base ten, with no zero before another digit.
-- A number that is not there or has a zero in front has cause 2, one beyond its field cause 3, both at its first byte.
use Rattle.std.specs.Prelude.{ℕ, ◌+◌, cond, ◌&&◌, ◌||◌, List, length, drop, take_while, Ok, Err, Result, ◌==◌, nat_lt, slice_index}
use Rattle.std.specs.Char.{is_ascii_digit}
use Rattle.std.specs.Str.Parse.{digits_value}
use Rattle.lines.specs.declared.number.NumberCause.{NumberCause}
use Rattle.lines.specs.declared.number.NumberCause.TheVariants.{NoNumber, Beyond}
use Rattle.lines.specs.declared.number.NumberFault.{NumberFault}
use Rattle.lines.specs.declared.number.Numeral.{Numeral}
use Rattle.lines.specs.Results.{on_ok, on_err}

abbrev pub number_cause : NumberCause → ℕ
number_cause NoNumber = 2
number_cause Beyond = 3

-- the number that digits write
abbrev pub number_of : ℕ → List ℕ → Result ℕ NumberCause
number_of most digits =
    cond (length digits == 0 || (nat_lt 1 (length digits) && slice_index digits 0 == 48)) (Err NoNumber)
    (cond (nat_lt most (digits_value 10 digits)) (Err Beyond) (Ok (digits_value 10 digits)))

-- the number that the digits from the byte `from` of a line on write
abbrev pub numeral_of : ℕ → ℕ → List ℕ → Result Numeral NumberFault
numeral_of most from digits =
    on_ok (λ value. record { value = value; end = from + length digits })
    (on_err (λ cause. record { cause = cause; at = from }) (number_of most digits))

-- the number in front of `rest`, which begins at the byte `from` of its line
abbrev pub numeral_in : ℕ → ℕ → List ℕ → Result Numeral NumberFault
numeral_in most from rest = numeral_of most from (take_while is_ascii_digit rest)

abbrev pub numeral_at : ℕ → ℕ → List ℕ → Result Numeral NumberFault
numeral_at most from line = numeral_in most from (drop from line)
