-- Whatever the moves keep of a transaction's spot, every call keeps, and every run.
use Rattle.std.proofs.Common.{◌≡◌, ℕ, true, false, not, ◌||◌, List, [], ◌∷◌, Some, None, refl, subst}
use Rattle.std.proofs.lemmas.Bool.{not-false}
use Rattle.answers.specs.declared.denial.Denial.TheVariants.{OutOfRange, NoSuchParty, NotStanding, NotRecalled, NoFreePlace, NoneThere}
use Rattle.answers.specs.Rows.{row, sized}
use Rattle.tables.proofs.Rows.{third, fourth}
use Rattle.messages.specs.declared.values.Values.{Values}
use Rattle.a_side.specs.Rules.{unfit_a, no_such_user, fewer_than_five, stands_for, standing, is_recalled, activate_refusal, withdraw_refusal, answer_refusal, line_busy_refusal, line_free_refusal, a_tick_refusal, a_expiry_refusal, a_deliver_refusal, a_return_refusal, a_receiving, a_returning}
use Rattle.b_side.specs.Rules.{b_line_refusal, forwarding_refusal, b_tick_refusal, b_expiry_refusal, b_deliver_refusal, b_return_refusal}
use Rattle.agreement.specs.declared.call.Call.{Call}
use Rattle.agreement.specs.declared.call.Call.TheVariants.{Activate, Withdraw, AnswerRecall, ALineBusy, ALineFree, ATick, AExpiry, BLineBusy, BLineFree, SetForwarding, BTick, BExpiry, DeliverToA, DeliverToB, ReturnToA, ReturnToB}
use Rattle.agreement.specs.World.{World, step, with_to_a, with_to_b, delivered_to_a, delivered_to_b, returned_to_a, returned_to_b}
use Rattle.agreement.specs.History.{History, Life, after, lived}
use Rattle.agreement.proofs.Spots.{Spot, spot}
use Rattle.agreement.proofs.Closed.{Closed}
use Rattle.agreement.proofs.Frames.{here, denied_keeps}
use Rattle.agreement.proofs.StepsA.{Kept, by_refusal, finish_a, activates, withdraws, answers_recall, frees, busies, ticks_a, expires_a, hears', returns'}
use Rattle.agreement.proofs.StepsB.{busies_b, frees_line, forwards, ticks_b, expires, hears_b, returns_b}

module _ (n : ℕ) (P : Spot → Type 0) (closed : Closed n P) (past : History) (w : World) (p : P (spot n past w)) where
  to_a : (ms : List Values) → w.to_a ≡ ms → Kept n P closed past DeliverToA (delivered_to_a w ms)
  to_a [] e = denied_keeps n P closed past DeliverToA NoneThere w.a.next w.a.records w.b.records w.to_b w.to_a p
  to_a (m ∷ ms) e =
      finish_a n P closed past DeliverToA w.a (with_to_a w ms) (a_receiving w.a m)
      (hears' n P closed past w.a w.b.records w.to_b m ms (subst (λ l. P (here n past w.a.next w.a.records w.b.records w.to_b l)) e p))

  to_b : (ms : List Values) → w.to_b ≡ ms → Kept n P closed past DeliverToB (delivered_to_b w ms)
  to_b [] e = denied_keeps n P closed past DeliverToB NoneThere w.a.next w.a.records w.b.records w.to_b w.to_a p
  to_b (m ∷ ms) e =
      hears_b n P closed past w.b w.a.next w.a.records m ms w.to_a (subst (λ l. P (here n past w.a.next w.a.records w.b.records l w.to_a)) e p)

  back_a : (ms : List Values) → w.to_b ≡ ms → Kept n P closed past ReturnToA (returned_to_a w ms)
  back_a [] e = denied_keeps n P closed past ReturnToA NoneThere w.a.next w.a.records w.b.records w.to_b w.to_a p
  back_a (m ∷ ms) e =
      finish_a n P closed past ReturnToA w.a (with_to_b w ms) (a_returning w.a m)
      (returns' n P closed past w.a w.b.records m ms w.to_a (subst (λ l. P (here n past w.a.next w.a.records w.b.records l w.to_a)) e p))

  back_b : (ms : List Values) → w.to_a ≡ ms → Kept n P closed past ReturnToB (returned_to_b w ms)
  back_b [] e = denied_keeps n P closed past ReturnToB NoneThere w.a.next w.a.records w.b.records w.to_b w.to_a p
  back_b (m ∷ ms) e =
      returns_b n P closed past w.b w.a.next w.a.records w.to_b m ms (subst (λ l. P (here n past w.a.next w.a.records w.b.records w.to_b l)) e p)

  withdrawn : (a k : ℕ) → withdraw_refusal w.a w.cap_b w.to_b a k ≡ None → stands_for w.a a k ≡ true
  withdrawn a k h = not-false _ (third (unfit_a w.a || not (sized w.cap_b)) (no_such_user a) (not (stands_for w.a a k)) OutOfRange NoSuchParty NotStanding (row (fewer_than_five w.cap_b w.to_b) NoFreePlace ∷ []) h)

  answered : (a k : ℕ) → answer_refusal w.a w.cap_b w.to_b a k ≡ None → elim (standing k w.a) [ Some r ↦ is_recalled r.state | None ↦ false ] ≡ true
  answered a k h = not-false _ (fourth (unfit_a w.a || not (sized w.cap_b)) (no_such_user a) (not (stands_for w.a a k)) (not (elim (standing k w.a) [ Some r ↦ is_recalled r.state | None ↦ false ])) OutOfRange NoSuchParty NotStanding NotRecalled (row (fewer_than_five w.cap_b w.to_b) NoFreePlace ∷ []) h)

  pub step_keeps : (c : Call) → Kept n P closed past c (step w c)
  step_keeps (Activate a b sv) = by_refusal n P closed past (Activate a b sv) w (activate_refusal w.a w.cap_b w.to_b a b sv) _ p (λ _. activates n P closed past w a b sv p)
  step_keeps (Withdraw a k) = by_refusal n P closed past (Withdraw a k) w (withdraw_refusal w.a w.cap_b w.to_b a k) _ p (λ h. withdraws n P closed past w a k (withdrawn a k h) p)
  step_keeps (AnswerRecall a k) = by_refusal n P closed past (AnswerRecall a k) w (answer_refusal w.a w.cap_b w.to_b a k) _ p (λ h. answers_recall n P closed past w a k (answered a k h) p)
  step_keeps (ALineBusy a) = by_refusal n P closed past (ALineBusy a) w (line_busy_refusal w.a a) _ p (λ _. busies n P closed past w a p)
  step_keeps (ALineFree a) = by_refusal n P closed past (ALineFree a) w (line_free_refusal w.a w.cap_b w.to_b a) _ p (λ _. frees n P closed past w a p)
  step_keeps ATick = by_refusal n P closed past ATick w (a_tick_refusal w.a) _ p (λ _. ticks_a n P closed past w p)
  step_keeps AExpiry = by_refusal n P closed past AExpiry w (a_expiry_refusal w.a w.cap_b w.to_b) _ p (λ _. expires_a n P closed past w p)
  step_keeps (BLineBusy b) = by_refusal n P closed past (BLineBusy b) w (b_line_refusal w.b b) _ p (λ _. busies_b n P closed past w b p)
  step_keeps (BLineFree b) = by_refusal n P closed past (BLineFree b) w (b_line_refusal w.b b) _ p (λ _. frees_line n P closed past w b p)
  step_keeps (SetForwarding b fw) = by_refusal n P closed past (SetForwarding b fw) w (forwarding_refusal w.b b fw) _ p (λ _. forwards n P closed past w b fw p)
  step_keeps BTick = by_refusal n P closed past BTick w (b_tick_refusal w.b) _ p (λ _. ticks_b n P closed past w p)
  step_keeps BExpiry = by_refusal n P closed past BExpiry w (b_expiry_refusal w.b w.cap_a w.to_a) _ p (λ _. expires n P closed past w p)
  step_keeps DeliverToA = by_refusal n P closed past DeliverToA w (a_deliver_refusal w.a w.cap_a w.to_a w.cap_b w.to_b) _ p (λ _. to_a w.to_a refl)
  step_keeps DeliverToB = by_refusal n P closed past DeliverToB w (b_deliver_refusal w.b w.cap_b w.to_b w.cap_a w.to_a) _ p (λ _. to_b w.to_b refl)
  step_keeps ReturnToA = by_refusal n P closed past ReturnToA w (a_return_refusal w.a w.cap_b w.to_b) _ p (λ _. back_a w.to_b refl)
  step_keeps ReturnToB = by_refusal n P closed past ReturnToB w (b_return_refusal w.b w.cap_a w.to_a) _ p (λ _. back_b w.to_a refl)

pub run_keeps : (n : ℕ) (P : Spot → Type 0) (closed : Closed n P) (l : Life) (cs : List Call) → P (spot n l.past l.world) → P (spot n (lived l cs).past (lived l cs).world)
run_keeps n P closed l [] p = p
run_keeps n P closed l (c ∷ cs) p = run_keeps n P closed (after l c) cs (step_keeps n P closed l.past l.world p c)
