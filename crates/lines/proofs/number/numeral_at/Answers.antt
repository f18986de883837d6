use Rattle.std.proofs.Common.{◌≡◌, ℕ, ◌-◌, ◌<◌, List, length, take, drop, take_while, min, refl, ap, ◌∙◌, arith, rules}
use Rattle.std.specs.Char.{is_ascii_digit}
use Rattle.std.specs.List.{prefix_len, AllPass}
use Rattle.std.proofs.lemmas.List.{drop_min, get_or-take, take_rest}
use Rattle.std.proofs.lemmas.List.Folds.{length-prefix_len}
use Rattle.std.proofs.lemmas.List.Sums.{prefix_len_passes}
use Rattle.lines.proofs.Results.{ok_mapped, err_mapped}
use Rattle.lines.proofs.number.numeral_at.Goals as goal

-- the rest of the line, and the digits in front of it
rest_is : (line : List ℕ) (from at : ℕ) → at ≡ min from (length line) → take (length line - at) (drop at line) ≡ drop from line
rest_is line from at e = rw e (search (rules, take_rest, drop_min))

digits_are : (line : List ℕ) (from at n : ℕ) → at ≡ min from (length line) → n ≡ prefix_len is_ascii_digit (take (length line - at) (drop at line)) → take n (take (length line - at) (drop at line)) ≡ take_while is_ascii_digit (drop from line)
digits_are line from at n place count = rw (count, rest_is line from at place) refl

digits_pass : (xs : List ℕ) → AllPass is_ascii_digit (take_while is_ascii_digit xs)
digits_pass xs k d h =
    let within : k < prefix_len is_ascii_digit xs = omega (arith, length-prefix_len is_ascii_digit xs, h) in
    ap is_ascii_digit (get_or-take (prefix_len is_ascii_digit xs) xs k d within) ∙ prefix_len_passes is_ascii_digit xs k d within

pub number_of-requires : goal.number_of-requires
number_of-requires c = rw (digits_are c.args.line.now c.args.from c.min.result c.digits_len.result c.min.ensures c.digits_len.ensures) (digits_pass (drop c.args.from c.args.line.now))

pub returns-clause-value : goal.returns-clause-value
returns-clause-value c =
    let digits = digits_are c.args.line.now c.args.from c.min.result c.digits_len.result c.min.ensures c.digits_len.ensures in
    rw (← digits) (search (rules, ok_mapped, err_mapped))
