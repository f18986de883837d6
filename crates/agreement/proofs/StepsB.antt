-- Each call of the destination side moves every transaction by the moves.
use Rattle.std.proofs.Common.{◌≡◌, ℕ, ◌≤◌, Bool, true, false, cond, eqb, List, [], ◌∷◌, ◌++◌, map, length, Some, None, Option, sym, refl, ap, ◌∙◌, subst, arith}
use Rattle.std.proofs.lemmas.Bool.{eqb-true, and_parts}
use Rattle.answers.specs.declared.cause.Cause.{Cause}
use Rattle.answers.specs.declared.cause.Cause.TheVariants.{T7Over, T9Over, Completed, BusyAgain, MessageReturned}
use Rattle.answers.specs.declared.answer.Answer.TheVariants.{Done as done, Nothing as nothing, Suspended as suspended, Kept as kept, Freed as freed, Resumed as resumed, Ended as ended}
use Rattle.answers.specs.Numbers.{cause_number, cause_of}
use Rattle.tables.specs.Tables.{same, became, removed, found, those, changed, first_by}
use Rattle.tables.proofs.Tables.{those_map, found_tn, stands_alone, stands_none, first_alone, first_passes}
use Rattle.messages.specs.declared.kind.Kind.{Kind}
use Rattle.messages.specs.declared.kind.Kind.TheVariants.{Request as Q, Suspend as S, Resume as M, Call as C, Cancel as X, Result as R, Error as E, RemoteUserFree as F, CallDone as D, CallBusy as B}
use Rattle.messages.specs.declared.values.Values.{Values}
use Rattle.messages.specs.Sent.{plain, numbered, cancelling}
use Rattle.a_side.specs.declared.record.ARecord.{ARecord}
use Rattle.a_side.specs.Rules.{a_tn}
use Rattle.b_side.specs.declared.record.BState.{BState}
use Rattle.b_side.specs.declared.record.BState.TheVariants.{Queued, Suspended, Recalling}
use Rattle.b_side.specs.declared.record.BRecord.{BRecord}
use Rattle.b_side.specs.Rules.{BModel, BEffect, b_tn, b_due, due7, does, accept, in_state, stored_as, line_becomes, forwarded, b_ticked, b_aged, b_expiring, b_expiring_at, recalling_first, recalling_one, guard_over, queued_at, b_receiving, b_receiving_at, b_returning, b_returning_at, on_record, on_none, on_new, objection, storing, agreed, on_suspend, on_resume, on_call, called_at, found_busy, on_returned, is_queued, is_recalling, is_suspended, line}
use Rattle.agreement.specs.declared.call.Call.TheVariants.{BLineBusy, BLineFree, SetForwarding, BTick, BExpiry, DeliverToB, ReturnToB}
use Rattle.agreement.specs.World.{World, by_b}
use Rattle.agreement.specs.History.{History, under_recall, suspended_b}
use Rattle.agreement.proofs.Spots.{Words, Spot, at, spot, m_tn, words_of, event, words_freed, words_suspended, words_resumed, words_kept}
use Rattle.agreement.proofs.Closed.{Closed, is_q, is_x}
use Rattle.agreement.proofs.Frames.{here}
use Rattle.agreement.proofs.MovesB.{stores_b, rejects_b, drops_b, skips_b, turns_b, turns_and_tells_b, frees_b, ends_by_b, ends_by_call_b, expires_b, back_b', back_ends_b', rests_b}
use Rattle.agreement.proofs.StepsA.{Kept}

queued_not_suspended : (s : BState) → is_queued s ≡ true → is_suspended s ≡ false
queued_not_suspended Queued h = refl
queued_not_suspended Suspended h = sym h
queued_not_suspended Recalling h = refl

module _ (n : ℕ) (P : Spot → Type 0) (closed : Closed n P) (past : History) where
  mine : (x : ℕ) (ra : List ARecord) (rb : List BRecord) (tb ta : List Values) (k : ℕ) (r : BRecord) → found b_tn k rb ≡ Some r → P (here n past x ra rb tb ta) → eqb r.tn n ≡ true → those b_tn n rb ≡ r ∷ []
  mine x ra rb tb ta k r e p = stands_alone b_tn n k rb r e (closed.alone_b _ p)

  -- The line, and forwarding
  pub busies_b : (w : World) (b : ℕ) → P (spot n past w) → Kept n P closed past (BLineBusy b) (by_b w (accept w.b (line_becomes w.b b true)))
  busies_b w b p = rests_b n P closed past (BLineBusy b) refl w.a.next w.a.records w.b.records w.to_b w.to_a done refl p

  pub frees_line : (w : World) (b : ℕ) → P (spot n past w) → Kept n P closed past (BLineFree b) (by_b w (accept w.b (line_becomes w.b b false)))
  frees_line w b p = rests_b n P closed past (BLineFree b) refl w.a.next w.a.records w.b.records w.to_b w.to_a done refl p

  pub forwards : (w : World) (b fw : ℕ) → P (spot n past w) → Kept n P closed past (SetForwarding b fw) (by_b w (forwarded w.b b fw))
  forwards w b fw p = rests_b n P closed past (SetForwarding b fw) refl w.a.next w.a.records w.b.records w.to_b w.to_a done refl p

  -- Tick
  ages_list : (x : ℕ) (ws : Words) (ra : List ARecord) (tb ta : List Values) (rs : List BRecord) → length rs ≤ 1 → P (at x ws ra rs tb ta) → P (at x ws ra (map b_aged rs) tb ta)
  ages_list x ws ra tb ta [] h p = p
  ages_list x ws ra tb ta (r ∷ []) h p = closed.turns x ws ra tb ta r (b_aged r) ws.rc ws.sp refl (λ e. e) (λ e. e) p
  ages_list x ws ra tb ta (r ∷ q ∷ rs) h p = absurd (omega arith)

  pub ticks_b : (w : World) → P (spot n past w) → Kept n P closed past BTick (by_b w (b_ticked w.b))
  ticks_b w p =
      subst (λ rs. P (at w.a.next (words_of n (event BTick done ∷ past)) (those a_tn n w.a.records) rs (those m_tn n w.to_b) (those m_tn n (w.to_a ++ [])))) (sym (those_map b_tn b_aged (λ r. refl) n w.b.records))
      (let q = rests_b n P closed past BTick refl w.a.next w.a.records w.b.records w.to_b w.to_a done refl p in
      ages_list w.a.next (words_of n (event BTick done ∷ past)) (those a_tn n w.a.records) (those m_tn n w.to_b) (those m_tn n (w.to_a ++ [])) (those b_tn n w.b.records) (closed.alone_b _ q) q)

  -- Expiry
  module _ (w : World) (p : P (spot n past w)) where
    abbrev Due : BEffect → Type 0
    Due e = P (here n (event BExpiry e.answer ∷ past) w.a.next w.a.records (changed b_tn e.change w.b.records) w.to_b (w.to_a ++ e.sent))

    nothing_due : Due (does w.b done same [])
    nothing_due = rests_b n P closed past BExpiry refl w.a.next w.a.records w.b.records w.to_b w.to_a done refl p

    over : (r : BRecord) → first_by b_due w.b.records ≡ Some r → (b : Bool) → Due (cond b (does w.b (ended r.tn T7Over) (removed r.tn) (cancelling r.tn 3 ∷ [])) (does w.b (ended r.tn T9Over) (removed r.tn) (cancelling r.tn 4 ∷ [])))
    over r e true = expires_b n P closed past BExpiry refl w.a.next w.a.records w.b.records w.to_b w.to_a r (cancelling r.tn 3) T7Over refl refl refl (first_alone b_tn n b_due w.b.records r e (closed.alone_b _ p)) p
    over r e false = expires_b n P closed past BExpiry refl w.a.next w.a.records w.b.records w.to_b w.to_a r (cancelling r.tn 4) T9Over refl refl refl (first_alone b_tn n b_due w.b.records r e (closed.alone_b _ p)) p

    recalls : (b : ℕ) (o : Option BRecord) → first_by (queued_at b) w.b.records ≡ o → Due (recalling_one w.b o)
    recalls b None e = nothing_due
    recalls b (Some r) e =
        frees_b n P closed past BExpiry refl w.a.next w.a.records w.b.records w.to_b w.to_a r (in_state Recalling w.b.settings.t9 r) (plain F r.tn) (freed r.tn) true (suspended_b n past) refl refl (λ k. refl)
        (words_freed n r.tn BExpiry past refl refl) (λ _. refl) (λ h. sym (queued_not_suspended r.state (and_parts _ _ (first_passes b_tn n (queued_at b) w.b.records r e)).1) ∙ h) refl refl
        (first_alone b_tn n (queued_at b) w.b.records r e (closed.alone_b _ p)) p

    guards : (o : Option ℕ) → Due (recalling_first w.b o)
    guards None = nothing_due
    guards (Some b) = recalls b (first_by (queued_at b) w.b.records) refl

    due : (o : Option BRecord) → first_by b_due w.b.records ≡ o → Due (b_expiring_at w.b o)
    due None e = guards (guard_over 0 w.b.records w.b.lines)
    due (Some r) e = over r e (due7 r)

    pub expires : Kept n P closed past BExpiry (by_b w (accept w.b (b_expiring w.b)))
    expires = due (first_by b_due w.b.records) refl

  -- Deliver to B: m is taken, tb is what waits behind it
  module _ (s : BModel) (x : ℕ) (ra : List ARecord) (m : Values) (tb ta : List Values) (p : P (here n past x ra s.records (m ∷ tb) ta)) where
    abbrev Heard : BEffect → Type 0
    Heard e = P (here n (event DeliverToB e.answer ∷ past) x ra (changed b_tn e.change s.records) tb (ta ++ e.sent))

    module _ (r : BRecord) (e : stored_as m.tn s ≡ Some r) where
      its : eqb r.tn n ≡ true → those b_tn n s.records ≡ r ∷ []
      its = mine x ra s.records (m ∷ tb) ta m.tn r e p

      tn_same : r.tn ≡ m.tn
      tn_same = eqb-true r.tn m.tn (found_tn b_tn m.tn s.records r e)

      quiet : (k : Kind) → m.kind ≡ k → is_x k ≡ false → Heard (does s (nothing r.tn) same [])
      quiet k f g = skips_b n P closed past DeliverToB refl x ra s.records tb ta m r refl tn_same (ap is_x f ∙ g) its p

      suspends : m.kind ≡ S → Heard (does s (suspended r.tn) (became (in_state Suspended 0 r)) [])
      suspends f = turns_b n P closed past DeliverToB refl x ra s.records tb ta m r (in_state Suspended 0 r) (suspended r.tn) false true tn_same (ap is_x f) refl refl (λ k. refl) (words_suspended n r.tn DeliverToB past refl refl) (λ _. refl) (λ _. refl) its p

      on_s : m.kind ≡ S → (st : BState) → Heard (on_suspend s r st)
      on_s f Queued = suspends f
      on_s f Suspended = quiet S f refl
      on_s f Recalling = suspends f

      on_m : m.kind ≡ M → (st : BState) → r.state ≡ st → Heard (on_resume s r st)
      on_m f Queued g = quiet M f refl
      on_m f Suspended g = turns_b n P closed past DeliverToB refl x ra s.records tb ta m r (in_state Queued r.t9 r) (resumed r.tn) (under_recall n past) false tn_same (ap is_x f) refl refl (λ k. refl) (words_resumed n r.tn DeliverToB past refl refl) (λ h. sym (ap is_recalling g) ∙ h) (λ _. refl) its p
      on_m f Recalling g = quiet M f refl

      busy : m.kind ≡ C → r.state ≡ Recalling → (b : Bool) → Heard (found_busy s r b)
      busy f g false = ends_by_call_b n P closed past DeliverToB refl x ra s.records tb ta m r (numbered B r.tn 0 0) BusyAgain refl tn_same (ap is_x f) refl refl its p
      busy f g true = turns_and_tells_b n P closed past DeliverToB refl x ra s.records tb ta m r (in_state Queued 0 r) (numbered B r.tn 1 0) (kept r.tn) false (suspended_b n past) tn_same (ap is_x f) refl refl (λ k. refl) (words_kept n r.tn DeliverToB past refl refl) (λ _. refl) (λ h. sym (ap is_suspended g) ∙ h) refl refl its p

      called : m.kind ≡ C → r.state ≡ Recalling → (b : Bool) → Heard (called_at s r b)
      called f g false = ends_by_call_b n P closed past DeliverToB refl x ra s.records tb ta m r (plain D r.tn) Completed refl tn_same (ap is_x f) refl refl its p
      called f g true = busy f g r.retention

      on_c : m.kind ≡ C → (st : BState) → r.state ≡ st → Heard (on_call s r st)
      on_c f Queued g = quiet C f refl
      on_c f Suspended g = quiet C f refl
      on_c f Recalling g = called f g (line s r.destination).busy

      heard : (k : Kind) → m.kind ≡ k → Heard (on_record s r m k)
      heard Q f = quiet Q f refl
      heard S f = on_s f r.state
      heard M f = on_m f r.state refl
      heard C f = on_c f r.state refl
      heard X f = ends_by_b n P closed past DeliverToB refl x ra s.records tb ta m r (cause_of m.cause) refl tn_same (ap is_x f) its p
      heard R f = quiet R f refl
      heard E f = quiet E f refl
      heard F f = quiet F f refl
      heard D f = quiet D f refl
      heard B f = quiet B f refl

    module _ (e : stored_as m.tn s ≡ None) where
      not_its : eqb m.tn n ≡ true → those b_tn n s.records ≡ []
      not_its = stands_none b_tn n m.tn s.records e

      drop : (k : Kind) → m.kind ≡ k → is_q k ≡ false → Heard (does s (nothing m.tn) same [])
      drop k f g = drops_b n P closed past DeliverToB refl x ra s.records tb ta m refl (ap is_q f ∙ g) not_its p

      new : m.kind ≡ Q → (o : Option Cause) → Heard (on_new s m o)
      new f None = stores_b n P closed past DeliverToB refl x ra s.records tb ta m (storing s m) (numbered R m.tn (cond (agreed s m) 1 0) 0) refl refl refl refl (ap is_q f) refl refl refl not_its p
      new f (Some c) = rejects_b n P closed past DeliverToB refl x ra s.records tb ta m (numbered E m.tn 0 (cause_number c)) c refl refl (ap is_q f) refl not_its p

      unheard : (k : Kind) → m.kind ≡ k → Heard (on_none s m k)
      unheard Q f = new f (objection s m)
      unheard S f = drop S f refl
      unheard M f = drop M f refl
      unheard C f = drop C f refl
      unheard X f = drop X f refl
      unheard R f = drop R f refl
      unheard E f = drop E f refl
      unheard F f = drop F f refl
      unheard D f = drop D f refl
      unheard B f = drop B f refl

    receives : (o : Option BRecord) → stored_as m.tn s ≡ o → Heard (b_receiving_at s m o)
    receives None e = unheard e m.kind refl
    receives (Some r) e = heard r e m.kind refl

    pub hears_b : Heard (b_receiving s m)
    hears_b = receives (stored_as m.tn s) refl

  -- Return to B: m comes back, ta is what waits behind it
  module _ (s : BModel) (x : ℕ) (ra : List ARecord) (tb : List Values) (m : Values) (ta : List Values) (p : P (here n past x ra s.records tb (m ∷ ta))) where
    abbrev Back : BEffect → Type 0
    Back e = P (here n (event ReturnToB e.answer ∷ past) x ra (changed b_tn e.change s.records) tb (ta ++ e.sent))

    module _ (r : BRecord) (e : stored_as m.tn s ≡ Some r) where
      same_tn : r.tn ≡ m.tn
      same_tn = eqb-true r.tn m.tn (found_tn b_tn m.tn s.records r e)

      quietly : Back (does s (nothing r.tn) same [])
      quietly = back_b' n P closed past ReturnToB refl x ra s.records tb ta m r.tn refl same_tn p

      ending : Back (does s (ended r.tn MessageReturned) (removed r.tn) [])
      ending = back_ends_b' n P closed past ReturnToB refl x ra s.records tb ta m r MessageReturned refl same_tn (mine x ra s.records tb (m ∷ ta) m.tn r e p) p

      comes : (k : Kind) → Back (on_returned s r k)
      comes Q = quietly
      comes S = quietly
      comes M = quietly
      comes C = quietly
      comes X = quietly
      comes R = ending
      comes E = quietly
      comes F = ending
      comes D = quietly
      comes B = quietly

    returns : (o : Option BRecord) → stored_as m.tn s ≡ o → Back (b_returning_at s m o)
    returns None e = back_b' n P closed past ReturnToB refl x ra s.records tb ta m m.tn refl refl p
    returns (Some r) e = comes r e m.kind

    pub returns_b : Back (b_returning s m)
    returns_b = returns (stored_as m.tn s) refl
