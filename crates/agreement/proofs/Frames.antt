-- What a call leaves of every transaction's spot: of its own the step, of the resumed ones the resumption, of the others nothing.
use Rattle.std.proofs.Common.{◌≡◌, ℕ, ◌≤◌, Bool, true, false, cond, eqb, List, [], ◌∷◌, ◌++◌, map, length, filter, Err, sym, refl, ap, ◌∙◌, subst, arith}
use Rattle.std.proofs.lemmas.Bool.{and_parts}
use Rattle.answers.specs.declared.answer.Answer.{Answer}
use Rattle.answers.specs.declared.denial.Denial.{Denial}
use Rattle.tables.specs.Tables.{Change, those, changed}
use Rattle.tables.proofs.Tables.{own, Own, Other, those_append, those_own, those_other, those_map, nil_right}
use Rattle.messages.specs.declared.kind.Kind.TheVariants.{Resume as M}
use Rattle.messages.specs.declared.values.Values.{Values}
use Rattle.messages.specs.Sent.{plain}
use Rattle.a_side.specs.declared.record.AState.{AState}
use Rattle.a_side.specs.declared.record.AState.TheVariants.{Requested, Waiting, Recalled, Suspended, Calling}
use Rattle.a_side.specs.declared.record.ARecord.{ARecord}
use Rattle.a_side.specs.Rules.{AModel, a_tn, resumable, resumed, becomes, runs2, is_suspended}
use Rattle.a_side.proofs.Tidy.{resumed_tn}
use Rattle.b_side.specs.declared.record.BRecord.{BRecord}
use Rattle.b_side.specs.Rules.{b_tn}
use Rattle.agreement.specs.declared.call.Call.{Call}
use Rattle.agreement.specs.History.{History, tells}
use Rattle.agreement.proofs.Spots.{Words, Spot, at, m_tn, words_of, event, words_silent, words_denied}
use Rattle.agreement.proofs.Closed.{Closed}

-- a transaction's spot, by what it is made of
abbrev pub here : ℕ → History → ℕ → List ARecord → List BRecord → List Values → List Values → Spot
here n past x ra rb tb ta = at x (words_of n past) (those a_tn n ra) (those b_tn n rb) (those m_tn n tb) (those m_tn n ta)

-- the resumptions of one transaction are those of its records
those_resumed : (n : ℕ) (q : ARecord → Bool) (rs : List ARecord) → those m_tn n (map (λ (r : ARecord). plain M r.tn) (filter q rs)) ≡ map (λ (r : ARecord). plain M r.tn) (filter q (those a_tn n rs))
those_resumed n q [] = refl
those_resumed n q (r ∷ rs) = go (q r) (eqb r.tn n) refl refl (those_resumed n q rs)
  where
    go : (b c : Bool) → q r ≡ b → eqb r.tn n ≡ c → those m_tn n (map (λ (r : ARecord). plain M r.tn) (filter q rs)) ≡ map (λ (r : ARecord). plain M r.tn) (filter q (those a_tn n rs))
        → those m_tn n (map (λ (r : ARecord). plain M r.tn) (cond b (r ∷ filter q rs) (filter q rs))) ≡ map (λ (r : ARecord). plain M r.tn) (filter q (cond c (r ∷ those a_tn n rs) (those a_tn n rs)))
    go true true e f ih = rw (e, f) (ap (λ ms. plain M r.tn ∷ ms) ih)
    go true false e f ih = rw f ih
    go false true e f ih = rw e ih
    go false false e f ih = ih

not_requested : (s : AState) → is_suspended s ≡ true → runs2 s ≡ false
not_requested Requested h = sym h
not_requested Waiting h = refl
not_requested Recalled h = refl
not_requested Suspended h = refl
not_requested Calling h = refl

module _ (n : ℕ) (P : Spot → Type 0) (closed : Closed n P) where
  -- a denial leaves every spot
  pub denied_keeps : (past : History) (c : Call) (e : Denial) (x : ℕ) (ra : List ARecord) (rb : List BRecord) (tb ta : List Values) → P (here n past x ra rb tb ta) → P (here n (record { call = c; outcome = Err e } ∷ past) x ra rb tb ta)
  denied_keeps past c e x ra rb tb ta p = subst (λ ws. P (at x ws (those a_tn n ra) (those b_tn n rb) (those m_tn n tb) (those m_tn n ta))) (sym (words_denied n c e past)) p

  -- the resumption, last in an accepted call
  settles_list : (s : AModel) (x : ℕ) (ws : Words) (rb : List BRecord) (tb ta : List Values) (rs : List ARecord) → length rs ≤ 1 → P (at x ws rs rb tb ta) → P (at x ws (map (resumed s) rs) rb (tb ++ map (λ (r : ARecord). plain M r.tn) (filter (resumable s) rs)) ta)
  settles_list s x ws rb tb ta [] h p = subst (λ ms. P (at x ws [] rb ms ta)) (sym (nil_right tb)) p
  settles_list s x ws rb tb ta (r ∷ []) h p = go (resumable s r) refl
    where
      go : (b : Bool) → resumable s r ≡ b → P (at x ws (cond b (becomes Waiting r) r ∷ []) rb (tb ++ map (λ (r : ARecord). plain M r.tn) (cond b (r ∷ []) [])) ta)
      go true e = closed.says x ws rb tb ta r (becomes Waiting r) (plain M r.tn) (not_requested r.state (and_parts _ _ e).0) refl refl refl p
      go false e = subst (λ ms. P (at x ws (r ∷ []) rb ms ta)) (sym (nil_right tb)) p
  settles_list s x ws rb tb ta (r ∷ q ∷ rs) h p = absurd (omega arith)

  pub settles : (past : History) (s : AModel) (x : ℕ) (rs : List ARecord) (rb : List BRecord) (tb ta : List Values) → P (here n past x rs rb tb ta) → P (here n past x (map (resumed s) rs) rb (tb ++ map (λ (r : ARecord). plain M r.tn) (filter (resumable s) rs)) ta)
  settles past s x rs rb tb ta p =
      subst (λ zs. P (at x (words_of n past) zs (those b_tn n rb) (those m_tn n (tb ++ map (λ (r : ARecord). plain M r.tn) (filter (resumable s) rs))) (those m_tn n ta))) (sym (those_map a_tn (resumed s) (resumed_tn s) n rs))
      (subst (λ ms. P (at x (words_of n past) (map (resumed s) (those a_tn n rs)) (those b_tn n rb) ms (those m_tn n ta)))
      (sym (those_append m_tn n tb _ ∙ ap (λ ms. those m_tn n tb ++ ms) (those_resumed n (resumable s) rs)))
      (settles_list s x (words_of n past) (those b_tn n rb) (those m_tn n tb) (those m_tn n ta) (those a_tn n rs) (closed.alone_a _ p) p))

  -- an event of A's about another transaction
  pub other_a : (past : History) (c : Call) (a : Answer) (ch : Change ARecord) (ms : List Values) (x : ℕ) (ra : List ARecord) (rb : List BRecord) (tb ta : List Values) → tells n a ≡ false → Other a_tn n ch → those m_tn n ms ≡ [] → P (here n past x ra rb tb ta) → P (here n (event c a ∷ past) x (changed a_tn ch ra) rb (tb ++ ms) ta)
  other_a past c a ch ms x ra rb tb ta ht hc hm p =
      let others : those m_tn n (tb ++ ms) ≡ those m_tn n tb = those_append m_tn n tb ms ∙ ap (λ zs. those m_tn n tb ++ zs) hm ∙ nil_right (those m_tn n tb) in
      let e : here n (event c a ∷ past) x (changed a_tn ch ra) rb (tb ++ ms) ta ≡ here n past x ra rb tb ta =
      λ i. at x (words_silent n c a past ht i) (those_other a_tn n ch ra hc i) (those b_tn n rb) (others i) (those m_tn n ta) in
      subst P (sym e) p

  pub other_b : (past : History) (c : Call) (a : Answer) (ch : Change BRecord) (ms : List Values) (x : ℕ) (ra : List ARecord) (rb : List BRecord) (tb ta : List Values) → tells n a ≡ false → Other b_tn n ch → those m_tn n ms ≡ [] → P (here n past x ra rb tb ta) → P (here n (event c a ∷ past) x ra (changed b_tn ch rb) tb (ta ++ ms))
  other_b past c a ch ms x ra rb tb ta ht hc hm p =
      let others : those m_tn n (ta ++ ms) ≡ those m_tn n ta = those_append m_tn n ta ms ∙ ap (λ zs. those m_tn n ta ++ zs) hm ∙ nil_right (those m_tn n ta) in
      let e : here n (event c a ∷ past) x ra (changed b_tn ch rb) tb (ta ++ ms) ≡ here n past x ra rb tb ta =
      λ i. at x (words_silent n c a past ht i) (those a_tn n ra) (those_other b_tn n ch rb hc i) (those m_tn n tb) (others i) in
      subst P (sym e) p

  -- an event of A's about this one
  pub own_a : (past : History) (c : Call) (a : Answer) (ch : Change ARecord) (ms : List Values) (x : ℕ) (ra : List ARecord) (rb : List BRecord) (tb ta : List Values) (ws : Words) (rs : List ARecord) → words_of n (event c a ∷ past) ≡ ws → those a_tn n ra ≡ rs → Own a_tn n ch → those m_tn n ms ≡ ms → P (at x ws (own a_tn ch rs) (those b_tn n rb) (those m_tn n tb ++ ms) (those m_tn n ta)) → P (here n (event c a ∷ past) x (changed a_tn ch ra) rb (tb ++ ms) ta)
  own_a past c a ch ms x ra rb tb ta ws rs hw hr hc hm p =
      let sent : those m_tn n (tb ++ ms) ≡ those m_tn n tb ++ ms = those_append m_tn n tb ms ∙ ap (λ zs. those m_tn n tb ++ zs) hm in
      let table : those a_tn n (changed a_tn ch ra) ≡ own a_tn ch rs = those_own a_tn n ch ra hc ∙ ap (own a_tn ch) hr in
      let e : here n (event c a ∷ past) x (changed a_tn ch ra) rb (tb ++ ms) ta ≡ at x ws (own a_tn ch rs) (those b_tn n rb) (those m_tn n tb ++ ms) (those m_tn n ta) =
      λ i. at x (hw i) (table i) (those b_tn n rb) (sent i) (those m_tn n ta) in
      subst P (sym e) p

  pub own_b : (past : History) (c : Call) (a : Answer) (ch : Change BRecord) (ms : List Values) (x : ℕ) (ra : List ARecord) (rb : List BRecord) (tb ta : List Values) (ws : Words) (rs : List BRecord) → words_of n (event c a ∷ past) ≡ ws → those b_tn n rb ≡ rs → Own b_tn n ch → those m_tn n ms ≡ ms → P (at x ws (those a_tn n ra) (own b_tn ch rs) (those m_tn n tb) (those m_tn n ta ++ ms)) → P (here n (event c a ∷ past) x ra (changed b_tn ch rb) tb (ta ++ ms))
  own_b past c a ch ms x ra rb tb ta ws rs hw hr hc hm p =
      let sent : those m_tn n (ta ++ ms) ≡ those m_tn n ta ++ ms = those_append m_tn n ta ms ∙ ap (λ zs. those m_tn n ta ++ zs) hm in
      let table : those b_tn n (changed b_tn ch rb) ≡ own b_tn ch rs = those_own b_tn n ch rb hc ∙ ap (own b_tn ch) hr in
      let e : here n (event c a ∷ past) x ra (changed b_tn ch rb) tb (ta ++ ms) ≡ at x ws (those a_tn n ra) (own b_tn ch rs) (those m_tn n tb) (those m_tn n ta ++ ms) =
      λ i. at x (hw i) (those a_tn n ra) (table i) (those m_tn n tb) (sent i) in
      subst P (sym e) p

-- a message of this transaction, and of another
pub taken_own : (n : ℕ) (m : Values) (ms : List Values) → eqb m.tn n ≡ true → those m_tn n (m ∷ ms) ≡ m ∷ those m_tn n ms
taken_own n m ms h = rw h

pub taken_other : (n : ℕ) (m : Values) (ms : List Values) → eqb m.tn n ≡ false → those m_tn n (m ∷ ms) ≡ those m_tn n ms
taken_other n m ms h = rw h
