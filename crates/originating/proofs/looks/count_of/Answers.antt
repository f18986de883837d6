use Rattle.std.proofs.Common.{◌≡◌, ℕ, suc, ◌+◌, ◌≤◌, Bool, true, false, cond, take, get_or, refl, sym, ap, ◌∙◌, arith}
use mir.Val.{bool_byte}
use Rattle.std.proofs.lemmas.List.{take_more}
use Rattle.messages.specs.declared.service.Service.{Service}
use Rattle.a_side.specs.declared.record.AState.{AState}
use Rattle.tables.specs.Tables.{times}
use Rattle.tables.proofs.Counting.{times_push}
use Rattle.originating.specs.Words.{of_user}
use Rattle.originating.proofs.looks.count_of.Goals as goal

byte : (b : Bool) → bool_byte b ≡ cond b 1 0
byte true = refl
byte false = refl

one : (b : Bool) (n k : ℕ) → k ≡ cond b 1 0 → n + k ≡ cond b (suc n) n
one true n k e = omega (arith, e)
one false n k e = omega (arith, e)

few : (b : Bool) (n k i : ℕ) → k ≡ cond b 1 0 → n ≤ i → n + k ≤ i + 1
few true n k i e l = omega (arith, e)
few false n k i e l = omega (arith, e)

pub loop-request-preserved : goal.loop-request-preserved
loop-request-preserved c =
    let own = of_user c.args.user in
    let xs = c.args.records.now in
    let i = c.loop-request.request-index in
    let inv = c.loop-request.invariant in
    let x = get_or xs i (record { tn = 0; user = 0; destination = 0; service = Service.NotGiven; state = AState.Requested; t2 = 0; t3 = 0; t4 = 0 }) in
    let more : c.from-count.result ≡ cond (own x) 1 0 = c.from-count.ensures ∙ byte (own x) in
    record {
      counted = ap (λ n. n + c.from-count.result) inv.counted ∙ one (own x) _ _ more ∙ sym (ap (times own) (take_more xs i _ c.loop-request-test.true) ∙ times_push own (take i xs) x);
      few = few (own x) _ _ i more inv.few;
    }
