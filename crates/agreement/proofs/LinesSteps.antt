-- Each call keeps what the destination's table promises.
use Rattle.std.proofs.Common.{◌≡◌, ℕ, Bool, true, false, cond, eqb, List, [], ◌∷◌, Some, None, Option, sym, refl, subst}
use Rattle.std.proofs.lemmas.Bool.{eqb-true, and_parts}
use Rattle.answers.specs.declared.denial.Denial.{Denial}
use Rattle.answers.specs.declared.denial.Denial.TheVariants.{NoneThere}
use Rattle.answers.specs.declared.cause.Cause.{Cause}
use Rattle.answers.specs.declared.cause.Cause.TheVariants.{T7Over, T9Over, Completed, BusyAgain, MessageReturned}
use Rattle.answers.specs.declared.answer.Answer.TheVariants.{Done as done, Nothing as nothing, Suspended as suspended, Kept as kept, Stored as stored, Rejected as rejected, Freed as freed, Resumed as resumed, Ended as ended}
use Rattle.answers.specs.Numbers.{cause_of}
use Rattle.tables.specs.Tables.{same, removed, changed, first_by}
use Rattle.waiting_line.specs.Searches.{some}
use Rattle.tables.proofs.Tables.{first_passes}
use Rattle.messages.specs.declared.kind.Kind.{Kind}
use Rattle.messages.specs.declared.kind.Kind.TheVariants.{Request as Q, Suspend as S, Resume as M, Call as C, Cancel as X, Result as R, Error as E, RemoteUserFree as F, CallDone as D, CallBusy as B}
use Rattle.messages.specs.declared.values.Values.{Values}
use Rattle.messages.specs.Sent.{cancelling}
use Rattle.a_side.specs.Rules.{activate_refusal, withdraw_refusal, answer_refusal, line_busy_refusal, line_free_refusal, a_tick_refusal, a_expiry_refusal, a_deliver_refusal, a_return_refusal}
use Rattle.b_side.specs.declared.record.BState.{BState}
use Rattle.b_side.specs.declared.record.BState.TheVariants.{Queued, Suspended, Recalling}
use Rattle.b_side.specs.declared.record.BRecord.{BRecord}
use Rattle.b_side.specs.Rules.{BEffect, b_tn, b_due, due7, does, in_state, stored_as, b_expiring_at, recalling_first, recalling_one, guard_over, queued_at, recalling_at, b_receiving_at, b_returning_at, on_record, on_none, on_new, objection, storing, on_suspend, on_resume, on_call, called_at, found_busy, on_returned, line, b_line_refusal, forwarding_refusal, b_tick_refusal, b_expiry_refusal, b_deliver_refusal, b_return_refusal}
use Rattle.agreement.specs.declared.call.Call.{Call}
use Rattle.agreement.specs.declared.call.Call.TheVariants.{Activate, Withdraw, AnswerRecall, ALineBusy, ALineFree, ATick, AExpiry, BLineBusy, BLineFree, SetForwarding, BTick, BExpiry, DeliverToA, DeliverToB, ReturnToA, ReturnToB}
use Rattle.agreement.specs.World.{World, Turn, step, unless, delivered_to_a, delivered_to_b, returned_to_a, returned_to_b}
use Rattle.agreement.specs.History.{History}
use Rattle.agreement.proofs.Spots.{spot, event}
use Rattle.agreement.proofs.Good.{Good}
use Rattle.agreement.proofs.Lines.{Lines, lines_a, lines_denied, lines_same, lines_aged, lines_became, lines_recalled, lines_stored, lines_ended, over_none, first_in_turn}

module _ (past : History) (w : World) (each : (n : ℕ) → Good n (spot n past w)) (p : Lines past w.b.records) where
  abbrev Kept : Call → Turn → Type 0
  Kept c t = Lines (record { call = c; outcome = t.outcome } ∷ past) t.world.b.records

  by_refusal : (c : Call) (o : Option Denial) (t : Turn) → Kept c t → Kept c (unless w o t)
  by_refusal c (Some e) t f = lines_denied past w.b.records c e p
  by_refusal c None t f = f

  to_a : (ms : List Values) → Kept DeliverToA (delivered_to_a w ms)
  to_a [] = lines_denied past w.b.records DeliverToA NoneThere p
  to_a (m ∷ ms) = lines_a past w.b.records DeliverToA _ refl p

  back_a : (ms : List Values) → Kept ReturnToA (returned_to_a w ms)
  back_a [] = lines_denied past w.b.records ReturnToA NoneThere p
  back_a (m ∷ ms) = lines_a past w.b.records ReturnToA _ refl p

  abbrev After : Call → BEffect → Type 0
  After c e = Lines (event c e.answer ∷ past) (changed b_tn e.change w.b.records)

  -- Expiry
  over : (r : BRecord) (b : Bool) → After BExpiry (cond b (does w.b (ended r.tn T7Over) (removed r.tn) (cancelling r.tn 3 ∷ [])) (does w.b (ended r.tn T9Over) (removed r.tn) (cancelling r.tn 4 ∷ [])))
  over r true = lines_ended past BExpiry refl (ended r.tn T7Over) w.b.records r.tn refl tt p
  over r false = lines_ended past BExpiry refl (ended r.tn T9Over) w.b.records r.tn refl tt p

  recalls : (b : ℕ) → some (recalling_at b) w.b.records ≡ false → (o : Option BRecord) → first_by (queued_at b) w.b.records ≡ o → After BExpiry (recalling_one w.b o)
  recalls b free None e = lines_same past BExpiry refl done w.b.records refl tt p
  recalls b free (Some r) e =
      let hb : eqb r.destination b ≡ true = (and_parts _ _ (first_passes b_tn 0 (queued_at b) w.b.records r e)).0 in
      lines_recalled past BExpiry refl (freed r.tn) w.b.records (in_state Recalling w.b.settings.t9 r)
      (subst (λ k. some (recalling_at k) w.b.records ≡ false) (sym (eqb-true r.destination b hb)) free) refl
      (first_in_turn past w each p.order b free r e hb) p

  guards : (o : Option ℕ) → guard_over 0 w.b.records w.b.lines ≡ o → After BExpiry (recalling_first w.b o)
  guards None e = lines_same past BExpiry refl done w.b.records refl tt p
  guards (Some b) e = recalls b (over_none 0 w.b.records w.b.lines b e) (first_by (queued_at b) w.b.records) refl

  due : (o : Option BRecord) → After BExpiry (b_expiring_at w.b o)
  due None = guards (guard_over 0 w.b.records w.b.lines) refl
  due (Some r) = over r (due7 r)

  -- Deliver to B
  module _ (m : Values) where
    quiet : (k : ℕ) → After DeliverToB (does w.b (nothing k) same [])
    quiet k = lines_same past DeliverToB refl (nothing k) w.b.records refl tt p

    ending : (k : ℕ) (c : Cause) → Lines (event DeliverToB (ended k c) ∷ past) (changed b_tn (removed k) w.b.records)
    ending k c = lines_ended past DeliverToB refl (ended k c) w.b.records k refl tt p

    on_s : (r : BRecord) (st : BState) → After DeliverToB (on_suspend w.b r st)
    on_s r Queued = lines_became past DeliverToB refl (suspended r.tn) w.b.records (in_state Suspended 0 r) refl refl tt p
    on_s r Suspended = quiet r.tn
    on_s r Recalling = lines_became past DeliverToB refl (suspended r.tn) w.b.records (in_state Suspended 0 r) refl refl tt p

    on_m : (r : BRecord) (st : BState) → After DeliverToB (on_resume w.b r st)
    on_m r Queued = quiet r.tn
    on_m r Suspended = lines_became past DeliverToB refl (resumed r.tn) w.b.records (in_state Queued r.t9 r) refl refl tt p
    on_m r Recalling = quiet r.tn

    busy : (r : BRecord) (b : Bool) → After DeliverToB (found_busy w.b r b)
    busy r false = ending r.tn BusyAgain
    busy r true = lines_became past DeliverToB refl (kept r.tn) w.b.records (in_state Queued 0 r) refl refl tt p

    called : (r : BRecord) (b : Bool) → After DeliverToB (called_at w.b r b)
    called r false = ending r.tn Completed
    called r true = busy r r.retention

    on_c : (r : BRecord) (st : BState) → After DeliverToB (on_call w.b r st)
    on_c r Queued = quiet r.tn
    on_c r Suspended = quiet r.tn
    on_c r Recalling = called r (line w.b r.destination).busy

    heard : (r : BRecord) (k : Kind) → After DeliverToB (on_record w.b r m k)
    heard r Q = quiet r.tn
    heard r S = on_s r r.state
    heard r M = on_m r r.state
    heard r C = on_c r r.state
    heard r X = ending r.tn (cause_of m.cause)
    heard r R = quiet r.tn
    heard r E = quiet r.tn
    heard r F = quiet r.tn
    heard r D = quiet r.tn
    heard r B = quiet r.tn

    new : (o : Option Cause) → After DeliverToB (on_new w.b m o)
    new None = lines_stored past DeliverToB refl (stored m.tn) w.b.records (storing w.b m) refl refl tt p
    new (Some c) = lines_same past DeliverToB refl (rejected m.tn c) w.b.records refl tt p

    unheard : (k : Kind) → After DeliverToB (on_none w.b m k)
    unheard Q = new (objection w.b m)
    unheard S = quiet m.tn
    unheard M = quiet m.tn
    unheard C = quiet m.tn
    unheard X = quiet m.tn
    unheard R = quiet m.tn
    unheard E = quiet m.tn
    unheard F = quiet m.tn
    unheard D = quiet m.tn
    unheard B = quiet m.tn

    receives : (o : Option BRecord) → After DeliverToB (b_receiving_at w.b m o)
    receives None = unheard m.kind
    receives (Some r) = heard r m.kind

    -- Return to B
    quietly : (k : ℕ) → After ReturnToB (does w.b (nothing k) same [])
    quietly k = lines_same past ReturnToB refl (nothing k) w.b.records refl tt p

    comes : (r : BRecord) (k : Kind) → After ReturnToB (on_returned w.b r k)
    comes r Q = quietly r.tn
    comes r S = quietly r.tn
    comes r M = quietly r.tn
    comes r C = quietly r.tn
    comes r X = quietly r.tn
    comes r R = lines_ended past ReturnToB refl (ended r.tn MessageReturned) w.b.records r.tn refl tt p
    comes r E = quietly r.tn
    comes r F = lines_ended past ReturnToB refl (ended r.tn MessageReturned) w.b.records r.tn refl tt p
    comes r D = quietly r.tn
    comes r B = quietly r.tn

    returns : (o : Option BRecord) → After ReturnToB (b_returning_at w.b m o)
    returns None = quietly m.tn
    returns (Some r) = comes r m.kind

  to_b : (ms : List Values) → Kept DeliverToB (delivered_to_b w ms)
  to_b [] = lines_denied past w.b.records DeliverToB NoneThere p
  to_b (m ∷ ms) = receives m (stored_as m.tn w.b)

  back_b : (ms : List Values) → Kept ReturnToB (returned_to_b w ms)
  back_b [] = lines_denied past w.b.records ReturnToB NoneThere p
  back_b (m ∷ ms) = returns m (stored_as m.tn w.b)

  pub lines_step : (c : Call) → Lines (record { call = c; outcome = (step w c).outcome } ∷ past) (step w c).world.b.records
  lines_step (Activate a b sv) = by_refusal (Activate a b sv) (activate_refusal w.a w.cap_b w.to_b a b sv) _ (lines_a past w.b.records (Activate a b sv) _ refl p)
  lines_step (Withdraw a k) = by_refusal (Withdraw a k) (withdraw_refusal w.a w.cap_b w.to_b a k) _ (lines_a past w.b.records (Withdraw a k) _ refl p)
  lines_step (AnswerRecall a k) = by_refusal (AnswerRecall a k) (answer_refusal w.a w.cap_b w.to_b a k) _ (lines_a past w.b.records (AnswerRecall a k) _ refl p)
  lines_step (ALineBusy a) = by_refusal (ALineBusy a) (line_busy_refusal w.a a) _ (lines_a past w.b.records (ALineBusy a) _ refl p)
  lines_step (ALineFree a) = by_refusal (ALineFree a) (line_free_refusal w.a w.cap_b w.to_b a) _ (lines_a past w.b.records (ALineFree a) _ refl p)
  lines_step ATick = by_refusal ATick (a_tick_refusal w.a) _ (lines_a past w.b.records ATick _ refl p)
  lines_step AExpiry = by_refusal AExpiry (a_expiry_refusal w.a w.cap_b w.to_b) _ (lines_a past w.b.records AExpiry _ refl p)
  lines_step (BLineBusy b) = by_refusal (BLineBusy b) (b_line_refusal w.b b) _ (lines_same past (BLineBusy b) refl done w.b.records refl tt p)
  lines_step (BLineFree b) = by_refusal (BLineFree b) (b_line_refusal w.b b) _ (lines_same past (BLineFree b) refl done w.b.records refl tt p)
  lines_step (SetForwarding b fw) = by_refusal (SetForwarding b fw) (forwarding_refusal w.b b fw) _ (lines_same past (SetForwarding b fw) refl done w.b.records refl tt p)
  lines_step BTick = by_refusal BTick (b_tick_refusal w.b) _ (lines_aged past BTick refl done w.b.records refl tt p)
  lines_step BExpiry = by_refusal BExpiry (b_expiry_refusal w.b w.cap_a w.to_a) _ (due (first_by b_due w.b.records))
  lines_step DeliverToA = by_refusal DeliverToA (a_deliver_refusal w.a w.cap_a w.to_a w.cap_b w.to_b) _ (to_a w.to_a)
  lines_step DeliverToB = by_refusal DeliverToB (b_deliver_refusal w.b w.cap_b w.to_b w.cap_a w.to_a) _ (to_b w.to_b)
  lines_step ReturnToA = by_refusal ReturnToA (a_return_refusal w.a w.cap_b w.to_b) _ (back_a w.to_b)
  lines_step ReturnToB = by_refusal ReturnToB (b_return_refusal w.b w.cap_a w.to_a) _ (back_b w.to_a)
