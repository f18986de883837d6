use Rattle.std.proofs.Common.{◌≡◌, ℕ, ◌+◌, ◌-◌, ◌*◌, ◌<◌, true, List, length, get_or, take, arith, rules}
use Rattle.std.specs.Char.{is_ascii_digit}
use Rattle.std.specs.Str.Parse.{digits_value}
use Rattle.std.proofs.lemmas.Bool.Decides.{nat_tests}
use Rattle.std.proofs.lemmas.Int.Digits.{digits_value_more}
use Rattle.std.proofs.lemmas.Str.{digit_value_digit}
use Rattle.std.proofs.lemmas.Str.Parse.{digits_value-take-le}
use Rattle.lines.proofs.number.number_of.Goals as goal

-- one more digit
step : (ds : List ℕ) (i : ℕ) → i < length ds → is_ascii_digit (get_or ds i 0) ≡ true → digits_value 10 (take (i + 1) ds) ≡ digits_value 10 (take i ds) * 10 + (get_or ds i 0 - 48)
step ds i h digit = omega (arith, digits_value_more 10 ds i h, digit_value_digit (get_or ds i 0) (search rules))

pub returns-then-value-from : goal.returns-then-value-from
returns-then-value-from c =
    let more = step c.args.digits.now c.loop-digit.digit-index c.loop-digit-test.true (c.requires c.loop-digit.digit-index 0 c.loop-digit-test.true) in
    let part = digits_value-take-le 10 c.args.digits.now (c.loop-digit.digit-index + 1) (omega arith) in
    let big : c.args.most < digits_value 10 c.args.digits.now = omega (arith, c.loop-digit.invariant.1) in
    grind (arith, nat_tests)

pub loop-digit-preserved : goal.loop-digit-preserved
loop-digit-preserved c =
    let more = step c.args.digits.now c.loop-digit.digit-index c.loop-digit-test.true (c.requires c.loop-digit.digit-index 0 c.loop-digit-test.true) in
    (omega arith, omega (arith, more, c.loop-digit.invariant.1, c.from.ensures))
