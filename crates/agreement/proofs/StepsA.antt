-- Each call of the originating side moves every transaction by the moves.
use Rattle.std.proofs.Common.{◌≡◌, ℕ, ◌≤◌, Bool, true, false, cond, eqb, List, [], ◌∷◌, ◌++◌, map, length, Some, None, Option, sym, refl, ap, ◌∙◌, subst, arith}
use Rattle.std.proofs.lemmas.List.{append_assoc}
use Rattle.std.proofs.lemmas.Bool.{eqb-true, and_parts}
use Rattle.answers.specs.declared.denial.Denial.{Denial}
use Rattle.answers.specs.declared.cause.Cause.{Cause}
use Rattle.answers.specs.declared.cause.Cause.TheVariants.{T3Over, T4Over, Withdrawn, ShortTermDenial, LongTermDenial, Completed, BusyAgain, CallReturned}
use Rattle.answers.specs.declared.answer.Answer.TheVariants.{Done as done, Nothing as nothing, Accepted as accepted, Recall as recall, Suspended as suspended, Calling as calling, Kept as kept, Ended as ended}
use Rattle.answers.specs.Numbers.{cause_of}
use Rattle.tables.specs.Tables.{same, removed, found, those, changed, first_by}
use Rattle.tables.proofs.Tables.{never, those_map, found_tn, stands_alone, stands_none, first_alone}
use Rattle.messages.specs.declared.kind.Kind.{Kind}
use Rattle.messages.specs.declared.kind.Kind.TheVariants.{Request as Q, Suspend as S, Resume as M, Call as C, Cancel as X, Result as R, Error as E, RemoteUserFree as F, CallDone as D, CallBusy as B}
use Rattle.messages.specs.declared.values.Values.{Values}
use Rattle.messages.specs.Sent.{plain, cancelling, requesting}
use Rattle.a_side.specs.declared.record.AState.{AState}
use Rattle.a_side.specs.declared.record.AState.TheVariants.{Requested, Waiting, Recalled, Suspended, Calling}
use Rattle.a_side.specs.declared.record.ARecord.{ARecord}
use Rattle.a_side.specs.Rules.{AModel, AEffect, a_tn, a_due, due2, due3, does, carried_out, resumed, standing, stands_for, accept, activating, withdrawing, answering, answering_at, answering_one, line_freeing, line_busied, a_ticked, a_aged, a_expiring, a_expiring_at, a_receiving, a_receiving_at, a_returning, a_returning_at, on_record, on_stray, on_result, on_free, on_free_waiting, on_busy, on_kept, on_returned, when_accepted, when_recalled, when_answered, becomes, is_recalled, runs2, ccbs_busy, line_busy}
use Rattle.b_side.specs.declared.record.BRecord.{BRecord}
use Rattle.b_side.specs.Rules.{b_tn}
use Rattle.agreement.specs.declared.call.Call.{Call}
use Rattle.agreement.specs.declared.call.Call.TheVariants.{Activate, Withdraw, AnswerRecall, ALineBusy, ALineFree, ATick, AExpiry, DeliverToA, ReturnToA}
use Rattle.agreement.specs.World.{World, Turn, by_a, unless}
use Rattle.agreement.specs.History.{History}
use Rattle.agreement.proofs.Spots.{Words, Spot, at, spot, m_tn, words_of, event}
use Rattle.agreement.proofs.Closed.{Closed, requested, ends_record, is_r, is_f}
use Rattle.agreement.proofs.Frames.{here, denied_keeps, settles}
use Rattle.agreement.proofs.MovesA.{leaves_a, lapses_a, says_a, rests_a, asks_a, strays_a, ignores_a, told_end_a, hears_nothing_a, hears_a, hears_and_says_a, back_a', back_ends_a', back_leaves_a}

recalled_not_requested : (s : AState) → is_recalled s ≡ true → runs2 s ≡ false
recalled_not_requested Requested h = sym h
recalled_not_requested Waiting h = refl
recalled_not_requested Recalled h = refl
recalled_not_requested Suspended h = refl
recalled_not_requested Calling h = refl

module _ (n : ℕ) (P : Spot → Type 0) (closed : Closed n P) (past : History) where
  -- after an accepted call of A's, with the resumption
  module _ (c : Call) where
    abbrev pub Kept : Turn → Type 0
    Kept t = P (spot n (record { call = c; outcome = t.outcome } ∷ past) t.world)

    pub by_refusal : (w : World) (o : Option Denial) (t : Turn) → P (spot n past w) → (o ≡ None → Kept t) → Kept (unless w o t)
    by_refusal w (Some e) t p f = denied_keeps n P closed past c e w.a.next w.a.records w.b.records w.to_b w.to_a p
    by_refusal w None t p f = f refl

    abbrev Mid : AModel → World → AEffect → Type 0
    Mid s w e = P (here n (event c e.answer ∷ past) e.next (changed a_tn e.change s.records) w.b.records (w.to_b ++ e.sent) w.to_a)

    pub finish_a : (s : AModel) (w : World) (e : AEffect) → P (here n (event c e.answer ∷ past) e.next (changed a_tn e.change s.records) w.b.records (w.to_b ++ e.sent) w.to_a) → Kept (by_a w (accept s e))
    finish_a s w e p =
        subst (λ ms. P (here n (event c e.answer ∷ past) e.next (map (resumed (carried_out s e)) (changed a_tn e.change s.records)) w.b.records ms w.to_a)) (append_assoc w.to_b e.sent _)
        (settles n P closed (event c e.answer ∷ past) (carried_out s e) e.next (changed a_tn e.change s.records) w.b.records (w.to_b ++ e.sent) w.to_a p)

  -- the only record of its transaction
  mine : (x : ℕ) (ra : List ARecord) (rb : List BRecord) (tb ta : List Values) (k : ℕ) (r : ARecord) → found a_tn k ra ≡ Some r → P (here n past x ra rb tb ta) → eqb r.tn n ≡ true → those a_tn n ra ≡ r ∷ []
  mine x ra rb tb ta k r e p = stands_alone a_tn n k ra r e (closed.alone_a _ p)

  -- Activate
  pub activates : (w : World) (a b sv : ℕ) → P (spot n past w) → Kept (Activate a b sv) (by_a w (accept w.a (activating w.a a b sv)))
  activates w a b sv p =
      finish_a (Activate a b sv) w.a w (activating w.a a b sv)
      (asks_a n P closed past (Activate a b sv) refl w.a.next w.a.records w.b.records w.to_b w.to_a _ (requesting w.a.next a b sv w.a.settings.ra) refl refl refl refl refl refl p)

  -- Withdraw
  pub withdraws : (w : World) (a k : ℕ) → stands_for w.a a k ≡ true → P (spot n past w) → Kept (Withdraw a k) (by_a w (accept w.a (withdrawing w.a k)))
  withdraws w a k h p = finish_a (Withdraw a k) w.a w (withdrawing w.a k) (go (standing k w.a) refl h)
    where
      go : (o : Option ARecord) → standing k w.a ≡ o → elim o [ Some r ↦ eqb r.user a | None ↦ false ] ≡ true → P (here n (event (Withdraw a k) (ended k Withdrawn) ∷ past) w.a.next (changed a_tn (removed k) w.a.records) w.b.records (w.to_b ++ cancelling k 0 ∷ []) w.to_a)
      go None e f = never (sym f)
      go (Some r) e f =
          subst (λ j. P (here n (event (Withdraw a k) (ended j Withdrawn) ∷ past) w.a.next (changed a_tn (removed j) w.a.records) w.b.records (w.to_b ++ cancelling j 0 ∷ []) w.to_a))
          (eqb-true r.tn k (found_tn a_tn k w.a.records r e))
          (leaves_a n P closed past (Withdraw a k) refl w.a.next w.a.records w.b.records w.to_b w.to_a r 0 Withdrawn refl (mine _ _ _ _ _ k r e p) p)

  -- Answer recall
  pub answers_recall : (w : World) (a k : ℕ) → elim (standing k w.a) [ Some r ↦ is_recalled r.state | None ↦ false ] ≡ true → P (spot n past w) → Kept (AnswerRecall a k) (by_a w (accept w.a (answering w.a k)))
  answers_recall w a k h p = finish_a (AnswerRecall a k) w.a w (answering w.a k) (go (standing k w.a) refl h)
    where
      one : (r : ARecord) → standing k w.a ≡ Some r → is_recalled r.state ≡ true → (b : Bool) → Mid (AnswerRecall a k) w.a w (answering_one w.a r b)
      one r e f true = says_a n P closed past (AnswerRecall a k) refl w.a.next w.a.records w.b.records w.to_b w.to_a r (when_answered Suspended r) (plain S r.tn) (suspended r.tn) refl refl refl (λ j. refl) refl refl (recalled_not_requested _ f) refl refl refl (mine _ _ _ _ _ k r e p) p
      one r e f false = says_a n P closed past (AnswerRecall a k) refl w.a.next w.a.records w.b.records w.to_b w.to_a r (when_answered Calling r) (plain C r.tn) (calling r.tn) refl refl refl (λ j. refl) refl refl (recalled_not_requested _ f) refl refl refl (mine _ _ _ _ _ k r e p) p

      go : (o : Option ARecord) → standing k w.a ≡ o → elim o [ Some r ↦ is_recalled r.state | None ↦ false ] ≡ true → Mid (AnswerRecall a k) w.a w (answering_at w.a k o)
      go None e f = never (sym f)
      go (Some r) e f = one r e f (line_busy w.a r.user)

  -- The user's line
  pub frees : (w : World) (a : ℕ) → P (spot n past w) → Kept (ALineFree a) (by_a w (accept w.a (line_freeing w.a a)))
  frees w a p = finish_a (ALineFree a) w.a w (line_freeing w.a a) (rests_a n P closed past (ALineFree a) refl w.a.next w.a.records w.b.records w.to_b w.to_a done refl p)

  pub busies : (w : World) (a : ℕ) → P (spot n past w) → Kept (ALineBusy a) (by_a w (line_busied w.a a))
  busies w a p = rests_a n P closed past (ALineBusy a) refl w.a.next w.a.records w.b.records w.to_b w.to_a done refl p

  -- Tick
  ages_list : (x : ℕ) (ws : Words) (rb : List BRecord) (tb ta : List Values) (rs : List ARecord) → length rs ≤ 1 → P (at x ws rs rb tb ta) → P (at x ws (map a_aged rs) rb tb ta)
  ages_list x ws rb tb ta [] h p = p
  ages_list x ws rb tb ta (r ∷ []) h p = closed.ages x ws rb tb ta r (a_aged r) refl p
  ages_list x ws rb tb ta (r ∷ q ∷ rs) h p = absurd (omega arith)

  pub ticks_a : (w : World) → P (spot n past w) → Kept ATick (by_a w (a_ticked w.a))
  ticks_a w p =
      subst (λ rs. P (at w.a.next (words_of n (event ATick done ∷ past)) rs (those b_tn n w.b.records) (those m_tn n (w.to_b ++ [])) (those m_tn n w.to_a))) (sym (those_map a_tn a_aged (λ r. refl) n w.a.records))
      (let q = rests_a n P closed past ATick refl w.a.next w.a.records w.b.records w.to_b w.to_a done refl p in
      ages_list w.a.next (words_of n (event ATick done ∷ past)) (those b_tn n w.b.records) (those m_tn n (w.to_b ++ [])) (those m_tn n w.to_a) (those a_tn n w.a.records) (closed.alone_a _ q) q)

  -- Expiry
  pub expires_a : (w : World) → P (spot n past w) → Kept AExpiry (by_a w (accept w.a (a_expiring w.a)))
  expires_a w p = finish_a AExpiry w.a w (a_expiring w.a) (go (first_by a_due w.a.records) refl)
    where
      one : (r : ARecord) → first_by a_due w.a.records ≡ Some r → (b d : Bool) → due2 r ≡ b →
          Mid AExpiry w.a w (cond b (does w.a (ended r.tn ShortTermDenial) (removed r.tn) []) (cond d (does w.a (ended r.tn T3Over) (removed r.tn) (cancelling r.tn 1 ∷ [])) (does w.a (ended r.tn T4Over) (removed r.tn) (cancelling r.tn 2 ∷ []))))
      one r e true d f = lapses_a n P closed past AExpiry refl w.a.next w.a.records w.b.records w.to_b w.to_a r ShortTermDenial refl (and_parts _ _ f).0 (first_alone a_tn n a_due w.a.records r e (closed.alone_a _ p)) p
      one r e false true f = leaves_a n P closed past AExpiry refl w.a.next w.a.records w.b.records w.to_b w.to_a r 1 T3Over refl (first_alone a_tn n a_due w.a.records r e (closed.alone_a _ p)) p
      one r e false false f = leaves_a n P closed past AExpiry refl w.a.next w.a.records w.b.records w.to_b w.to_a r 2 T4Over refl (first_alone a_tn n a_due w.a.records r e (closed.alone_a _ p)) p

      go : (o : Option ARecord) → first_by a_due w.a.records ≡ o → Mid AExpiry w.a w (a_expiring_at w.a o)
      go None e = rests_a n P closed past AExpiry refl w.a.next w.a.records w.b.records w.to_b w.to_a done refl p
      go (Some r) e = one r e (due2 r) (due3 r) refl

  -- Deliver to A: m is taken, ta is what waits behind it
  module _ (s : AModel) (rb : List BRecord) (tb : List Values) (m : Values) (ta : List Values) (p : P (here n past s.next s.records rb tb (m ∷ ta))) where
    abbrev Heard : AEffect → Type 0
    Heard e = P (here n (event DeliverToA e.answer ∷ past) e.next (changed a_tn e.change s.records) rb (tb ++ e.sent) ta)

    module _ (r : ARecord) (e : standing m.tn s ≡ Some r) where
      its : eqb r.tn n ≡ true → those a_tn n s.records ≡ r ∷ []
      its = mine s.next s.records rb tb (m ∷ ta) m.tn r e p

      tn_same : r.tn ≡ m.tn
      tn_same = eqb-true r.tn m.tn (found_tn a_tn m.tn s.records r e)

      quiet : (k : Kind) → m.kind ≡ k → ends_record k (eqb m.retention 0) ≡ false → (requested r ≡ true → is_r k ≡ false) → Heard (does s (nothing r.tn) same [])
      quiet k f g h = hears_nothing_a n P closed past DeliverToA refl s.next s.records rb tb ta r m refl tn_same (ap (λ j. ends_record j (eqb m.retention 0)) f ∙ g) (λ q. ap is_r f ∙ h q) its p

      ending : (k : Kind) → m.kind ≡ k → ends_record k (eqb m.retention 0) ≡ true → (cause : Cause) → Heard (does s (ended r.tn cause) (removed r.tn) [])
      ending k f g cause = told_end_a n P closed past DeliverToA refl s.next s.records rb tb ta r m cause refl tn_same (ap (λ j. ends_record j (eqb m.retention 0)) f ∙ g) its p

      results : m.kind ≡ R → (st : AState) → r.state ≡ st → Heard (on_result s r st)
      results f Requested g = hears_a n P closed past DeliverToA refl s.next s.records rb tb ta r (when_accepted s r) m (accepted r.tn) refl tn_same refl (λ j. refl) refl refl (ap (λ j. ends_record j (eqb m.retention 0)) f) refl its p
      results f Waiting g = quiet R f refl (λ q. never (sym q ∙ ap runs2 g))
      results f Recalled g = quiet R f refl (λ q. never (sym q ∙ ap runs2 g))
      results f Suspended g = quiet R f refl (λ q. never (sym q ∙ ap runs2 g))
      results f Calling g = quiet R f refl (λ q. never (sym q ∙ ap runs2 g))

      freed : m.kind ≡ F → (b : Bool) → Heard (on_free_waiting s r b)
      freed f false = hears_a n P closed past DeliverToA refl s.next s.records rb tb ta r (when_recalled s r) m (recall r.tn) refl tn_same refl (λ j. refl) refl refl (ap (λ j. ends_record j (eqb m.retention 0)) f) refl its p
      freed f true = hears_and_says_a n P closed past DeliverToA refl s.next s.records rb tb ta r (becomes Suspended r) m (plain S r.tn) (suspended r.tn) refl tn_same refl refl (λ j. refl) refl refl (ap (λ j. ends_record j (eqb m.retention 0)) f) refl refl refl its p

      frees' : m.kind ≡ F → (st : AState) → r.state ≡ st → Heard (on_free s r st)
      frees' f Requested g = quiet F f refl (λ q. refl)
      frees' f Waiting g = freed f (ccbs_busy s r.user)
      frees' f Recalled g = quiet F f refl (λ q. refl)
      frees' f Suspended g = quiet F f refl (λ q. refl)
      frees' f Calling g = quiet F f refl (λ q. refl)

      keeps : m.kind ≡ B → eqb m.retention 0 ≡ false → (st : AState) → r.state ≡ st → Heard (on_kept s r st)
      keeps f h Requested g = quiet B f h (λ q. refl)
      keeps f h Waiting g = quiet B f h (λ q. refl)
      keeps f h Recalled g = quiet B f h (λ q. refl)
      keeps f h Suspended g = quiet B f h (λ q. refl)
      keeps f h Calling g = hears_a n P closed past DeliverToA refl s.next s.records rb tb ta r (becomes Waiting r) m (kept r.tn) refl tn_same refl (λ j. refl) refl refl (ap (λ j. ends_record j (eqb m.retention 0)) f ∙ h) refl its p

      busy : m.kind ≡ B → (b : Bool) → eqb m.retention 0 ≡ b → Heard (on_busy s r b)
      busy f true h = ending B f h BusyAgain
      busy f false h = keeps f h r.state refl

      heard : (k : Kind) → m.kind ≡ k → Heard (on_record s r m k)
      heard Q f = quiet Q f refl (λ q. refl)
      heard S f = quiet S f refl (λ q. refl)
      heard M f = quiet M f refl (λ q. refl)
      heard C f = quiet C f refl (λ q. refl)
      heard X f = ending X f refl (cause_of m.cause)
      heard R f = results f r.state refl
      heard E f = ending E f refl (cause_of m.cause)
      heard F f = frees' f r.state refl
      heard D f = ending D f refl Completed
      heard B f = busy f (eqb m.retention 0) refl

    module _ (e : standing m.tn s ≡ None) where
      not_its : eqb m.tn n ≡ true → those a_tn n s.records ≡ []
      not_its = stands_none a_tn n m.tn s.records e

      drop : (k : Kind) → m.kind ≡ k → is_r k ≡ false → is_f k ≡ false → Heard (does s (nothing m.tn) same [])
      drop k f g h = ignores_a n P closed past DeliverToA refl s.next s.records rb tb ta m refl (ap is_r f ∙ g) (ap is_f f ∙ h) not_its p

      strayed : (k : Kind) → m.kind ≡ k → Heard (on_stray s m k)
      strayed Q f = drop Q f refl refl
      strayed S f = drop S f refl refl
      strayed M f = drop M f refl refl
      strayed C f = drop C f refl refl
      strayed X f = drop X f refl refl
      strayed R f = strays_a n P closed past DeliverToA refl s.next s.records rb tb ta m 0 refl not_its p
      strayed E f = drop E f refl refl
      strayed F f = strays_a n P closed past DeliverToA refl s.next s.records rb tb ta m 0 refl not_its p
      strayed D f = drop D f refl refl
      strayed B f = drop B f refl refl

    receives : (o : Option ARecord) → standing m.tn s ≡ o → Heard (a_receiving_at s m o)
    receives None e = strayed e m.kind refl
    receives (Some r) e = heard r e m.kind refl

    pub hears' : Heard (a_receiving s m)
    hears' = receives (standing m.tn s) refl

  -- Return to A: m comes back, tb is what waits behind it
  module _ (s : AModel) (rb : List BRecord) (m : Values) (tb : List Values) (ta : List Values) (p : P (here n past s.next s.records rb (m ∷ tb) ta)) where
    abbrev Back : AEffect → Type 0
    Back e = P (here n (event ReturnToA e.answer ∷ past) e.next (changed a_tn e.change s.records) rb (tb ++ e.sent) ta)

    module _ (r : ARecord) (e : standing m.tn s ≡ Some r) where
      theirs : eqb r.tn n ≡ true → those a_tn n s.records ≡ r ∷ []
      theirs = mine s.next s.records rb (m ∷ tb) ta m.tn r e p

      same_tn : r.tn ≡ m.tn
      same_tn = eqb-true r.tn m.tn (found_tn a_tn m.tn s.records r e)

      quietly : Back (does s (nothing r.tn) same [])
      quietly = back_a' n P closed past ReturnToA refl s.next s.records rb tb ta m r.tn refl same_tn p

      comes : (k : Kind) → Back (on_returned s r k)
      comes Q = back_ends_a' n P closed past ReturnToA refl s.next s.records rb tb ta r m LongTermDenial refl same_tn theirs p
      comes S = quietly
      comes M = quietly
      comes C = back_leaves_a n P closed past ReturnToA refl s.next s.records rb tb ta r m 0 CallReturned refl same_tn theirs p
      comes X = quietly
      comes R = quietly
      comes E = quietly
      comes F = quietly
      comes D = quietly
      comes B = quietly

    returns : (o : Option ARecord) → standing m.tn s ≡ o → Back (a_returning_at s m o)
    returns None e = back_a' n P closed past ReturnToA refl s.next s.records rb tb ta m m.tn refl refl p
    returns (Some r) e = comes r e m.kind

    pub returns' : Back (a_returning s m)
    returns' = returns (standing m.tn s) refl
