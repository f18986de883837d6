use Rattle.std.proofs.Common.{◌≡◌, ℕ, ◌+◌, ◌/◌, ◌%◌, ◌^◌, ◌<◌, ◌≤◌, List, [], ◌∷◌, decimal, sym, ap, ◌∙◌, arith}
use Rattle.std.proofs.lemmas.Fmt.{decimal_digit, decimal_step, length-decimal-le}
use Rattle.drafts.specs.Drafts.{added, written}
use Rattle.drafts.proofs.Added.{added_fits}
use Rattle.drafts.proofs.draft.writing.+digits_of.Goals as goal
use Rattle.drafts.proofs.draft.writing.+digits_of.Goals.{then-n-lt10, else-n-lt10}

-- the last digit after none, or after those of the tenth
one : (n : ℕ) (front : List ℕ) → n < 10 → front ≡ [] → added 20 front ((48 + n % 10) ∷ []) ≡ decimal n
unfolding added
one n front small e =
    let last : n % 10 ≡ n = omega arith in
    rw (e, last) (sym (decimal_digit n small))

more : (n : ℕ) (front : List ℕ) → 10 ≤ n → n < 2 ^ 64 → front ≡ decimal (n / 10) → added 20 front ((48 + n % 10) ∷ []) ≡ decimal n
more n front large fits e =
    let few = length-decimal-le 19 (n / 10) (omega arith) (omega arith) (omega arith) in
    rw e (added_fits 20 (decimal (n / 10)) ((48 + n % 10) ∷ []) (omega arith) ∙ sym (decimal_step n large (omega arith)))

pub returns : goal.returns
returns t c =
    let put = c.push.ensures in
    elim c.if-n-lt10.branch [
      | then-n-lt10 w ↦ put ∙ one c.args.n (written c.if-n-lt10.digits) w.if-n-lt10.true (ap written w.digits-is ∙ w.new-digits.ensures)
      | else-n-lt10 w ↦ put ∙ more c.args.n (written c.if-n-lt10.digits) w.if-n-lt10.false (omega arith) (ap written w.digits-is ∙ w.digits_of-digits.ensures)
    ]
