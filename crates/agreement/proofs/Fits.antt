-- Every run keeps A's side tidy and its channels within their capacities, and no message is lost.
use Rattle.std.proofs.Common.{◌≡◌, ℕ, suc, ◌+◌, ◌-◌, ◌≤◌, true, false, not, ◌||◌, eqb, ltb, leb, List, [], ◌∷◌, ◌++◌, length, take, Some, None, Option, refl, ap, arith, length-append}
use Rattle.std.proofs.lemmas.Bool.{ltb-false, eqb-false}
use Rattle.answers.specs.declared.denial.Denial.{Denial}
use Rattle.answers.specs.declared.denial.Denial.TheVariants.{OutOfRange, NoSuchParty, AboveThree, NotStanding, NotRecalled, Identical, UserFull, NoRecordPlace, NoNumberLeft, NoneThere, NoneDue, NoFreePlace}
use Rattle.answers.specs.Rows.{row, upper, sized}
use Rattle.waiting_line.specs.Searches.{some}
use Rattle.tables.proofs.Rows.{last_row}
use Rattle.messages.specs.declared.values.Values.{Values}
use Rattle.a_side.specs.Rules.{ADone, a_due, unfit_a, no_such_user, fewer_than_five, stands_for, standing, is_recalled, identical, user_full, activate_refusal, withdraw_refusal, answer_refusal, line_busy_refusal, line_free_refusal, a_tick_refusal, a_expiry_refusal, a_deliver_refusal, a_return_refusal}
use Rattle.a_side.specs.Tidy.{Tidy, Keeps, Five}
use Rattle.a_side.proofs.Tidy.{five_suffice}
use Rattle.b_side.specs.Rules.{BDone, unfit_b, none_free, any_due, accept, line_becomes, forwarded, b_ticked, b_receiving, b_returning, b_expiring, b_line_refusal, forwarding_refusal, b_tick_refusal, b_expiry_refusal, b_deliver_refusal, b_return_refusal}
use Rattle.b_side.proofs.One.{one_heard, one_expired, none_returned}
use Rattle.agreement.specs.declared.call.Call.{Call}
use Rattle.agreement.specs.declared.call.Call.TheVariants.{Activate, Withdraw, AnswerRecall, ALineBusy, ALineFree, ATick, AExpiry, BLineBusy, BLineFree, SetForwarding, BTick, BExpiry, DeliverToA, DeliverToB, ReturnToA, ReturnToB}
use Rattle.agreement.specs.World.{World, Given, Turn, fresh, step, ran, refused, unless, by_a, by_b, with_to_a, with_to_b, delivered_to_a, delivered_to_b, returned_to_a, returned_to_b}
use Rattle.agreement.specs.Laws.{Fit, NoneLost, RunsFit}

five_free : (cap : ℕ) (ms : List Values) → fewer_than_five cap ms ≡ false → length ms + 5 ≤ cap
five_free cap ms h = omega (arith, ltb-false (cap - length ms) 5 h)

one_free : (cap : ℕ) (ms : List Values) → none_free cap ms ≡ false → length ms + 1 ≤ cap
one_free cap ms h = omega (arith, eqb-false (cap - length ms) 0 h)

-- what a call must show
pub record Fares (w : World) (t : Turn) : Type 0 where
  pub fit : Fit t.world
  pub lost : NoneLost w t

-- v is w, or w with a message taken
finish_a : (w v : World) (d : ADone) → Keeps d → length w.to_b + 5 ≤ w.cap_b → length v.to_b + 5 ≤ v.cap_b → length v.to_a ≤ v.cap_a → Fares w (by_a v d)
finish_a w v d k h hv l = record {
  fit = record { tidy = k.tidy; to_b = omega (arith, length-append v.to_b d.sent, k.five, hv); to_a = l };
  lost = record { five = k.five; free_b = omega (arith, k.five, h); one = omega arith; free_a = omega arith };
}

silent_a : (w : World) (d : ADone) → Keeps d → length d.sent ≡ 0 → Fit w → Fares w (by_a w d)
silent_a w d k e p = record {
  fit = record { tidy = k.tidy; to_b = omega (arith, length-append w.to_b d.sent, e, p.to_b); to_a = p.to_a };
  lost = record { five = k.five; free_b = omega (arith, e); one = omega arith; free_a = omega arith };
}

finish_b : (w v : World) (d : BDone) → length d.sent ≤ 1 → Tidy v.a → length v.to_b ≤ v.cap_b → length w.to_a + 1 ≤ w.cap_a → length v.to_a + 1 ≤ v.cap_a → Fares w (by_b v d)
finish_b w v d k t l h hv = record {
  fit = record { tidy = t; to_b = l; to_a = omega (arith, length-append v.to_a d.sent, k, hv) };
  lost = record { five = omega arith; free_b = omega arith; one = k; free_a = omega (arith, k, h) };
}

silent_b : (w v : World) (d : BDone) → length d.sent ≡ 0 → Fit v → Fares w (by_b v d)
silent_b w v d e p = record {
  fit = record { tidy = p.tidy; to_b = p.to_b; to_a = omega (arith, length-append v.to_a d.sent, e, p.to_a) };
  lost = record { five = omega arith; free_b = omega arith; one = omega (arith, e); free_a = omega (arith, e) };
}

module _ (w : World) (p : Fit w) where
  five : Five w.a
  five = five_suffice w.a p.tidy

  -- a denied call
  rests : (e : Denial) → Fares w (refused w e)
  rests e = record { fit = p; lost = record { five = omega arith; free_b = omega arith; one = omega arith; free_a = omega arith } }

  by_refusal : (o : Option Denial) (t : Turn) → (o ≡ None → Fares w t) → Fares w (unless w o t)
  by_refusal (Some e) t f = rests e
  by_refusal None t f = f refl

  to_a : length w.to_b + 5 ≤ w.cap_b → (ms : List Values) → w.to_a ≡ ms → Fares w (delivered_to_a w ms)
  to_a h [] e = rests NoneThere
  to_a h (m ∷ ms) e = finish_a w (with_to_a w ms) _ (five.deliver m) h h (let k : length w.to_a ≡ suc (length ms) = ap length e in omega (arith, k, p.to_a))

  back_a : length w.to_b + 5 ≤ w.cap_b → (ms : List Values) → w.to_b ≡ ms → Fares w (returned_to_a w ms)
  back_a h [] e = rests NoneThere
  back_a h (m ∷ ms) e = finish_a w (with_to_b w ms) _ (five.«return» m) h (let k : length w.to_b ≡ suc (length ms) = ap length e in omega (arith, k, h)) p.to_a

  to_b : length w.to_a + 1 ≤ w.cap_a → (ms : List Values) → w.to_b ≡ ms → Fares w (delivered_to_b w ms)
  to_b h [] e = rests NoneThere
  to_b h (m ∷ ms) e = finish_b w (with_to_b w ms) (accept w.b (b_receiving w.b m)) (one_heard w.b m) p.tidy (let k : length w.to_b ≡ suc (length ms) = ap length e in omega (arith, k, p.to_b)) h h

  back_b : (ms : List Values) → w.to_a ≡ ms → Fares w (returned_to_b w ms)
  back_b [] e = rests NoneThere
  back_b (m ∷ ms) e = silent_b w (with_to_a w ms) (accept w.b (b_returning w.b m)) (none_returned w.b m) (record { tidy = p.tidy; to_b = p.to_b; to_a = let k : length w.to_a ≡ suc (length ms) = ap length e in omega (arith, k, p.to_a) })

  room : (rows : List (Option Denial)) → upper (rows ++ row (fewer_than_five w.cap_b w.to_b) NoFreePlace ∷ []) ≡ None → length w.to_b + 5 ≤ w.cap_b
  room rows h = five_free w.cap_b w.to_b (last_row rows (fewer_than_five w.cap_b w.to_b) NoFreePlace h)

  place : (rows : List (Option Denial)) → upper (rows ++ row (none_free w.cap_a w.to_a) NoFreePlace ∷ []) ≡ None → length w.to_a + 1 ≤ w.cap_a
  place rows h = one_free w.cap_a w.to_a (last_row rows (none_free w.cap_a w.to_a) NoFreePlace h)

  -- a call of A's with five places toward B, and one of B's with a place toward A, by the last row of each
  sends_a : (d : ADone) (rows : List (Option Denial)) → upper (rows ++ row (fewer_than_five w.cap_b w.to_b) NoFreePlace ∷ []) ≡ None → Keeps d → Fares w (by_a w d)
  sends_a d rows h k = let free = room rows h in finish_a w w d k free free p.to_a

  sends_b : (d : BDone) (rows : List (Option Denial)) → upper (rows ++ row (none_free w.cap_a w.to_a) NoFreePlace ∷ []) ≡ None → length d.sent ≤ 1 → Fares w (by_b w d)
  sends_b d rows h k = let free = place rows h in finish_b w w d k p.tidy p.to_b free free

  abbrev unfit : Option Denial
  unfit = row (unfit_a w.a || not (sized w.cap_b)) OutOfRange

  abbrev full : ℕ → ℕ → ℕ → List (Option Denial)
  full user destination service =
      row (identical w.a user destination service) Identical
      ∷ row (user_full w.a user) UserFull
      ∷ row (leb w.a.places (length w.a.records)) NoRecordPlace
      ∷ row (ltb 4294967295 w.a.next) NoNumberLeft
      ∷ []

  pub fares : (c : Call) → Fares w (step w c)
  fares (Activate a b sv) = by_refusal (activate_refusal w.a w.cap_b w.to_b a b sv) _
      (λ h. sends_a _ (unfit ∷ row (no_such_user a || leb 64 b) NoSuchParty ∷ row (ltb 3 sv) AboveThree ∷ full a b sv) h (five.activate w.cap_b w.to_b a b sv h))
  fares (Withdraw a k) = by_refusal (withdraw_refusal w.a w.cap_b w.to_b a k) _
      (λ h. sends_a _ (unfit ∷ row (no_such_user a) NoSuchParty ∷ row (not (stands_for w.a a k)) NotStanding ∷ []) h (five.withdraw w.cap_b w.to_b a k h))
  fares (AnswerRecall a k) = by_refusal (answer_refusal w.a w.cap_b w.to_b a k) _
      (λ h. sends_a _ (unfit ∷ row (no_such_user a) NoSuchParty ∷ row (not (stands_for w.a a k)) NotStanding ∷ row (not (elim (standing k w.a) [ Some r ↦ is_recalled r.state | None ↦ false ])) NotRecalled ∷ []) h (five.answer w.cap_b w.to_b a k h))
  fares (ALineBusy a) = by_refusal (line_busy_refusal w.a a) _ (λ _. silent_a w _ (five.line_busy a) refl p)
  fares (ALineFree a) = by_refusal (line_free_refusal w.a w.cap_b w.to_b a) _ (λ h. sends_a _ (unfit ∷ row (no_such_user a) NoSuchParty ∷ []) h (five.line_free a))
  fares ATick = by_refusal (a_tick_refusal w.a) _ (λ _. silent_a w _ five.tick refl p)
  fares AExpiry = by_refusal (a_expiry_refusal w.a w.cap_b w.to_b) _ (λ h. sends_a _ (unfit ∷ row (not (some a_due w.a.records)) NoneDue ∷ []) h five.expiry)
  fares (BLineBusy b) = by_refusal (b_line_refusal w.b b) _ (λ _. silent_b w w (accept w.b (line_becomes w.b b true)) refl p)
  fares (BLineFree b) = by_refusal (b_line_refusal w.b b) _ (λ _. silent_b w w (accept w.b (line_becomes w.b b false)) refl p)
  fares (SetForwarding b fw) = by_refusal (forwarding_refusal w.b b fw) _ (λ _. silent_b w w (forwarded w.b b fw) refl p)
  fares BTick = by_refusal (b_tick_refusal w.b) _ (λ _. silent_b w w (b_ticked w.b) refl p)
  fares BExpiry = by_refusal (b_expiry_refusal w.b w.cap_a w.to_a) _
      (λ h. sends_b (accept w.b (b_expiring w.b)) (row (unfit_b w.b || not (sized w.cap_a)) OutOfRange ∷ row (not (any_due w.b)) NoneDue ∷ []) h (one_expired w.b))
  fares DeliverToA = by_refusal (a_deliver_refusal w.a w.cap_a w.to_a w.cap_b w.to_b) _
      (λ h. to_a (room (row (unfit_a w.a || not (sized w.cap_a) || not (sized w.cap_b)) OutOfRange ∷ row (eqb (length w.to_a) 0) NoneThere ∷ []) h) w.to_a refl)
  fares DeliverToB = by_refusal (b_deliver_refusal w.b w.cap_b w.to_b w.cap_a w.to_a) _
      (λ h. to_b (place (row (unfit_b w.b || not (sized w.cap_b) || not (sized w.cap_a)) OutOfRange ∷ row (eqb (length w.to_b) 0) NoneThere ∷ []) h) w.to_b refl)
  fares ReturnToA = by_refusal (a_return_refusal w.a w.cap_b w.to_b) _ (λ h. back_a (room (unfit ∷ row (eqb (length w.to_b) 0) NoneThere ∷ []) h) w.to_b refl)
  fares ReturnToB = by_refusal (b_return_refusal w.b w.cap_a w.to_a) _ (λ _. back_b w.to_a refl)

pub fit_step : (w : World) → Fit w → (c : Call) → Fit (step w c).world
fit_step w p c = (fares w p c).fit

pub none_lost_lem : (w : World) → Fit w → (c : Call) → NoneLost w (step w c)
none_lost_lem w p c = (fares w p c).lost

pub fit_fresh : (g : Given) → Fit (fresh g)
fit_fresh g = record { tidy = record { rising = omega arith; few = λ u. omega arith; settled = refl }; to_b = omega arith; to_a = omega arith }

fit_run : (w : World) (cs : List Call) → Fit w → Fit (ran w cs)
fit_run w [] p = p
fit_run w (c ∷ cs) p = fit_run (step w c).world cs (fit_step w p c)

pub runs_fit : RunsFit
runs_fit g calls k = fit_run (fresh g) (take k calls) (fit_fresh g)
