-- Five places suffice: a call frees at most its own user, and who sends a message of its own has one record less or stays busy.
use Rattle.std.proofs.Common.{◌≡◌, ℕ, zero, suc, ◌+◌, ◌≤◌, Bool, true, false, cond, not, ◌&&◌, ◌||◌, eqb, ltb, leb, ◌⊎◌, List, [], ◌∷◌, ◌++◌, map, length, get_or, set, Some, None, Option, sym, refl, ap, ◌∙◌, subst, inl, inr, arith, length-append}
use Rattle.std.proofs.lemmas.Bool.{cond_both, eqb-true, eqb-false, eq-eqb, ne_eqb, leb-true, leb-false, and_parts, and_from, and_left, and_right, or_left, or_right, or_parts, not-false, not_from_true, not_from_false}
use Rattle.answers.specs.declared.denial.Denial.{Denial}
use Rattle.answers.specs.declared.denial.Denial.TheVariants.{OutOfRange, NoSuchParty, AboveThree, NotStanding, Identical, UserFull, NoRecordPlace, NoNumberLeft, NoFreePlace}
use Rattle.answers.specs.declared.cause.Cause.TheVariants.{T3Over, T4Over, Withdrawn, ShortTermDenial, LongTermDenial, Completed, BusyAgain, CallReturned}
use Rattle.answers.specs.declared.answer.Answer.{Answer}
use Rattle.answers.specs.declared.answer.Answer.TheVariants.{Done as done, Nothing as nothing, Accepted as accepted, Recall as recall, Suspended as suspended, Calling as calling, Kept as kept, Stray as stray, Ended as ended}
use Rattle.answers.specs.Rows.{row, sized, within, timed, limited, switched, placed}
use Rattle.answers.specs.Numbers.{cause_of}
use Rattle.tables.specs.Tables.{same, became, removed, found, without, replaced, changed, times, first_by}
use Rattle.waiting_line.specs.Searches.{some}
use Rattle.tables.proofs.Tables.{never, never_some, found_tn}
use Rattle.tables.proofs.Rows.{passes, third}
use Rattle.tables.proofs.Counting.{times_none, times_push, some_push, times_map, length_kept, times_replaced, some_replaced, some_replaced_yes, times_without, some_without, times_split, times_less}
use Rattle.messages.specs.declared.kind.Kind.{Kind}
use Rattle.messages.specs.declared.kind.Kind.TheVariants.{Request as Q, Suspend as S, Resume as M, Call as C, Cancel as X, Result as R, Error as E, RemoteUserFree as F, CallDone as D, CallBusy as B}
use Rattle.messages.specs.declared.values.Values.{Values}
use Rattle.messages.specs.Sent.{plain, cancelling, same_kind}
use Rattle.a_side.specs.declared.record.AState.{AState}
use Rattle.a_side.specs.declared.record.AState.TheVariants.{Requested, Waiting, Recalled, Suspended, Calling}
use Rattle.a_side.specs.declared.record.ARecord.{ARecord}
use Rattle.a_side.specs.Rules.{AModel, AEffect, a_tn, a_due, due2, due3, is, does, carried_out, resumed, resumable, resumptions, standing, stands_for, accept, requested_by, activating, withdrawing, answering, answering_at, answering_one, line_freeing, a_aged, a_expiring, a_expiring_at, a_expiring_one, a_receiving, a_receiving_at, a_returning, a_returning_at, on_record, on_stray, on_result, on_free, on_free_waiting, on_busy, on_kept, on_returned, when_accepted, when_recalled, when_answered, becomes, is_suspended, recalled_or_calling, ccbs_busy, line_busy, with_line, unfit_a, a_fit, no_such_user, fewer_than_five, identical, activate_refusal, withdraw_refusal, answer_refusal}
use Rattle.a_side.specs.Tidy.{of_user, Rises, Tidy, Keeps, Five, FiveSuffice}
use Rattle.a_side.proofs.Settled.{engages, settled_none, ticked_none, busied_none}

-- Rising numbers

rises_from : (l l' : ℕ) (rs : List ARecord) (h : ℕ) → l ≤ l' → Rises l' rs h → Rises l rs h
rises_from l l' [] h k p = omega (arith, k, p)
rises_from l l' (r ∷ rs) h k p = (omega (arith, k, p.0), p.1)

rises_without : (k l : ℕ) (rs : List ARecord) (h : ℕ) → Rises l rs h → Rises l (without a_tn k rs) h
rises_without k l [] h p = p
rises_without k l (r ∷ rs) h p = go (eqb r.tn k) (rises_without k (r.tn + 1) rs h p.1)
  where
    go : (b : Bool) → Rises (r.tn + 1) (without a_tn k rs) h → Rises l (cond b rs (r ∷ without a_tn k rs)) h
    go true ih = rises_from l (r.tn + 1) rs h (omega (arith, p.0)) p.1
    go false ih = (p.0, ih)

rises_replaced : (s : ARecord) (l : ℕ) (rs : List ARecord) (h : ℕ) → Rises l rs h → Rises l (replaced a_tn s rs) h
rises_replaced s l [] h p = p
rises_replaced s l (r ∷ rs) h p = go (eqb r.tn s.tn) refl (rises_replaced s (r.tn + 1) rs h p.1)
  where
    go : (b : Bool) → eqb r.tn s.tn ≡ b → Rises (r.tn + 1) (replaced a_tn s rs) h → Rises l (cond b (s ∷ rs) (r ∷ replaced a_tn s rs)) h
    go true e ih = let k : r.tn ≡ s.tn = eqb-true r.tn s.tn e in (omega (arith, p.0, k), subst (λ j. Rises (j + 1) rs h) k p.1)
    go false e ih = (p.0, ih)

rises_added : (l : ℕ) (rs : List ARecord) (r : ARecord) (h : ℕ) → r.tn ≡ h → Rises l rs h → Rises l (rs ++ r ∷ []) (h + 1)
rises_added l [] r h e p = (omega (arith, p, e), omega (arith, e))
rises_added l (x ∷ rs) r h e p = (p.0, rises_added (x.tn + 1) rs r h e p.1)

rises_map : (f : ARecord → ARecord) → ((r : ARecord) → (f r).tn ≡ r.tn) → (l : ℕ) (rs : List ARecord) (h : ℕ) → Rises l rs h → Rises l (map f rs) h
rises_map f e l [] h p = p
rises_map f e l (r ∷ rs) h p = (omega (arith, e r, p.0), rises_from ((f r).tn + 1) (r.tn + 1) (map f rs) h (omega (arith, e r)) (rises_map f e (r.tn + 1) rs h p.1))

-- the first that passes a test is the one found by its number
first_above : (q : ARecord → Bool) (l : ℕ) (rs : List ARecord) (h : ℕ) (r : ARecord) → Rises l rs h → first_by q rs ≡ Some r → l ≤ r.tn
first_above q l [] h r p e = never_some e
first_above q l (x ∷ rs) h r p e = go (q x) e (first_above q (x.tn + 1) rs h r p.1)
  where
    go : (b : Bool) → cond b (Some x) (first_by q rs) ≡ Some r → (first_by q rs ≡ Some r → x.tn + 1 ≤ r.tn) → l ≤ r.tn
    go true f ih = let k : x ≡ r = cc in omega (arith, p.0, ap a_tn k)
    go false f ih = omega (arith, p.0, ih f)

first_found : (q : ARecord → Bool) (l : ℕ) (rs : List ARecord) (h : ℕ) (r : ARecord) → Rises l rs h → first_by q rs ≡ Some r → found a_tn r.tn rs ≡ Some r
first_found q l [] h r p e = never_some e
first_found q l (x ∷ rs) h r p e = go (q x) e (first_found q (x.tn + 1) rs h r p.1) (first_above q (x.tn + 1) rs h r p.1)
  where
    go : (b : Bool) → cond b (Some x) (first_by q rs) ≡ Some r → (first_by q rs ≡ Some r → found a_tn r.tn rs ≡ Some r) → (first_by q rs ≡ Some r → x.tn + 1 ≤ r.tn) → cond (eqb x.tn r.tn) (Some x) (found a_tn r.tn rs) ≡ Some r
    go true f ih ab = let k : x ≡ r = cc in rw (eq-eqb x.tn r.tn (ap a_tn k)) (ap Some k)
    go false f ih ab = rw (ne_eqb x.tn r.tn (λ k. absurd (omega (arith, k, ab f)))) (ih f)

-- What a call must show

pub record Deed (s : AModel) (e : AEffect) : Type 0 where
  pub rising : Rises 0 (changed a_tn e.change s.records) e.next
  pub few : (u : ℕ) → times (of_user u) (changed a_tn e.change s.records) ≤ 5
  pub sent : length e.sent + times (resumable (carried_out s e)) (changed a_tn e.change s.records) ≤ 5

pub resumed_tn : (s : AModel) (r : ARecord) → (resumed s r).tn ≡ r.tn
resumed_tn s r = cond_both (resumable s r) (becomes Waiting r) r (λ q. q.tn ≡ r.tn) (λ _. refl) (λ _. refl)

resumed_user : (s : AModel) (u : ℕ) (r : ARecord) → of_user u (resumed s r) ≡ of_user u r
resumed_user s u r = cond_both (resumable s r) (becomes Waiting r) r (λ q. of_user u q ≡ of_user u r) (λ _. refl) (λ _. refl)

pub kept_by_deed : (s : AModel) (e : AEffect) → Deed s e → Keeps (accept s e)
kept_by_deed s e d =
    let s' : AModel = carried_out s e in
    let rs : List ARecord = changed a_tn e.change s.records in
    record {
      tidy = record {
        rising = rises_map (resumed s') (resumed_tn s') 0 rs e.next d.rising;
        few = λ u. omega (arith, times_map (of_user u) (resumed s') (resumed_user s' u) rs, d.few u);
        settled = settled_none s';
      };
      five = omega (arith, length-append e.sent (resumptions s'), length_kept (resumable s') (λ (r : ARecord). plain M r.tn) rs, d.sent);
    }

-- Who can be resumed

other_way : (a b : ℕ) → eqb a b ≡ false → eqb b a ≡ false
other_way a b h = ne_eqb b a (λ e. eqb-false a b h (sym e))

abbrev others : AModel → ℕ → ARecord → Bool
others s u r = not (of_user u r) && resumable s r

others_none : (s : AModel) (u : ℕ) → some (resumable s) s.records ≡ false → times (others s u) s.records ≡ 0
others_none s u h = omega (arith, times_less (others s u) (resumable s) (λ r e. (and_parts _ _ e).1) s.records, times_none (resumable s) s.records h)

module _ (s s' : AModel) (u : ℕ) (same : (v : ℕ) → eqb v u ≡ false → ccbs_busy s' v ≡ ccbs_busy s v) (none : times (others s u) s'.records ≡ 0) where
  theirs : (r : ARecord) → of_user u r ≡ false → resumable s' r ≡ true → others s u r ≡ true
  theirs r h e = and_from _ _ (not_from_false _ h) (ap (λ b. is_suspended r.state && not b) (sym (same r.user h)) ∙ e)

  -- at most those of the call's user
  own_only : times (resumable s') s'.records ≤ times (of_user u) s'.records
  own_only =
      let h = times_split (resumable s') (of_user u) (others s u) (λ r e. go r (of_user u r) refl e) s'.records in
      omega (arith, h, none)
    where
      go : (r : ARecord) (b : Bool) → of_user u r ≡ b → resumable s' r ≡ true → (of_user u r ≡ true) ⊎ (others s u r ≡ true)
      go r true h e = inl h
      go r false h e = inr (theirs r h e)

  -- none, if that user is CCBS-busy
  busy_none : ccbs_busy s' u ≡ true → times (resumable s') s'.records ≡ 0
  busy_none b = omega (arith, times_less (resumable s') (others s u) (λ r e. go r (of_user u r) refl e) s'.records, none)
    where
      go : (r : ARecord) (d : Bool) → of_user u r ≡ d → resumable s' r ≡ true → others s u r ≡ true
      go r true h e =
          let k : r.user ≡ u = eqb-true r.user u h in
          never (sym (and_parts _ _ e).1 ∙ not_from_true _ (subst (λ v. ccbs_busy s' v ≡ true) (sym k) b))
      go r false h e = theirs r h e

-- The deeds

-- no table changes, and one message at most is sent
deed_rest : (s : AModel) (a : Answer) (ms : List Values) → length ms ≤ 1 → Tidy s → Deed s (does s a same ms)
deed_rest s a ms h t = record { rising = t.rising; few = t.few; sent = omega (arith, h, times_none (resumable s) s.records t.settled) }

set_other : (l : List Bool) (a v : ℕ) (b : Bool) → eqb v a ≡ false → get_or (set l a b) v false ≡ get_or l v false
set_other [] a v b h = refl
set_other (x ∷ l) zero zero b h = never (sym (eq-eqb 0 0 refl) ∙ h)
set_other (x ∷ l) zero (suc v) b h = refl
set_other (x ∷ l) (suc a) zero b h = refl
set_other (x ∷ l) (suc a) (suc v) b h = set_other l a v b (sym (lib.Dec.eqb-suc-suc v a) ∙ h)

-- a user's line changes
deed_line : (s : AModel) (a : ℕ) (b : Bool) → Tidy s → Deed s (record { answer = done; change = same; busy = set s.busy a b; next = s.next; sent = [] })
deed_line s a b t =
    let e : AEffect = record { answer = done; change = same; busy = set s.busy a b; next = s.next; sent = [] } in
    let h = own_only s (carried_out s e) a (λ v k. ap (λ d. d || some (engages v) s.records) (set_other s.busy a v b k)) (others_none s a t.settled) in
    record { rising = t.rising; few = t.few; sent = omega (arith, h, t.few a) }

-- its record ends
module _ (s : AModel) (k : ℕ) (x : ARecord) (at : found a_tn k s.records ≡ Some x) (t : Tidy s) where
  removed_few : (u : ℕ) → times (of_user u) (without a_tn k s.records) ≤ 5
  removed_few u = go (of_user u x) (times_without (of_user u) a_tn k s.records x at) (t.few u)
    where
      go : (b : Bool) → cond b (suc (times (of_user u) (without a_tn k s.records))) (times (of_user u) (without a_tn k s.records)) ≡ times (of_user u) s.records → times (of_user u) s.records ≤ 5 → times (of_user u) (without a_tn k s.records) ≤ 5
      go true h f = omega arith
      go false h f = omega arith

  -- one less of its user
  one_less : suc (times (of_user x.user) (without a_tn k s.records)) ≡ times (of_user x.user) s.records
  one_less = rw (eq-eqb x.user x.user refl) at (times_without (of_user x.user) a_tn k s.records x at)

  deed_removed : (a : Answer) (busy : List Bool) (ms : List Values) → ((v : ℕ) → eqb v x.user ≡ false → get_or busy v false ≡ get_or s.busy v false) → length ms ≤ 1 → Deed s (record { answer = a; change = removed k; busy = busy; next = s.next; sent = ms })
  deed_removed a busy ms hb hm =
      let e : AEffect = record { answer = a; change = removed k; busy = busy; next = s.next; sent = ms } in
      let none : times (others s x.user) (without a_tn k s.records) ≡ 0 = rw (and_left (not (of_user x.user x)) (resumable s x) (not_from_true _ (eq-eqb x.user x.user refl))) at (times_without (others s x.user) a_tn k s.records x at) ∙ others_none s x.user t.settled in
      let h = own_only s (carried_out s e) x.user
      (λ v q. λ i. hb v q i || some_without (engages v) a_tn k s.records x at (and_left (eqb x.user v) _ (other_way v x.user q)) i) none in
      record { rising = rises_without k 0 s.records s.next t.rising; few = removed_few; sent = omega (arith, h, hm, one_less, t.few x.user) }

-- its record takes a step
module _ (s : AModel) (r : ARecord) (x : ARecord) (at : found a_tn r.tn s.records ≡ Some x) (user : r.user ≡ x.user) (t : Tidy s) where
  became_few : (u : ℕ) → times (of_user u) (replaced a_tn r s.records) ≤ 5
  became_few u = omega (arith, times_replaced (of_user u) a_tn r s.records x at (ap (λ a. eqb a u) (sym user)), t.few u)

  became_none : times (others s x.user) (replaced a_tn r s.records) ≡ 0
  became_none =
      let own : of_user x.user x ≡ true = eq-eqb x.user x.user refl in
      let old : others s x.user x ≡ false = and_left _ _ (not_from_true _ own) in
      let new : others s x.user r ≡ false = and_left _ _ (not_from_true _ (ap (λ a. eqb a x.user) user ∙ own)) in
      times_replaced (others s x.user) a_tn r s.records x at (old ∙ sym new) ∙ others_none s x.user t.settled

  became_same : (v : ℕ) → eqb v x.user ≡ false → (line_busy s v || some (engages v) (replaced a_tn r s.records)) ≡ ccbs_busy s v
  became_same v h =
      let no : eqb x.user v ≡ false = other_way v x.user h in
      ap (λ d. line_busy s v || d) (some_replaced (engages v) a_tn r s.records x at (and_left _ _ no ∙ sym (and_left (eqb r.user v) _ (ap (λ a. eqb a v) user ∙ no))))

  -- and nothing is sent
  deed_became : (a : Answer) → Deed s (does s a (became r) [])
  deed_became a =
      let h = own_only s (carried_out s (does s a (became r) [])) x.user became_same became_none in
      record { rising = rises_replaced r 0 s.records s.next t.rising; few = became_few; sent = omega (arith, h, became_few x.user) }

  -- its user is CCBS-busy, and one message is sent
  deed_busy : (a : Answer) (m : Values) → (line_busy s x.user || some (engages x.user) (replaced a_tn r s.records)) ≡ true → Deed s (does s a (became r) (m ∷ []))
  deed_busy a m b =
      let h = busy_none s (carried_out s (does s a (became r) (m ∷ []))) x.user became_same became_none b in
      record { rising = rises_replaced r 0 s.records s.next t.rising; few = became_few; sent = omega (arith, h) }

-- activation: the user has fewer than five
deed_asked : (s : AModel) (a b sv : ℕ) → suc (times (of_user a) s.records) ≤ 5 → Tidy s → Deed s (activating s a b sv)
deed_asked s a b sv h t =
    let r : ARecord = requested_by s a b sv in
    let s' : AModel = carried_out s (activating s a b sv) in
    let same : (v : ℕ) → ccbs_busy s' v ≡ ccbs_busy s v = λ v. ap (λ d. line_busy s v || d) (some_push (engages v) s.records r (and_right (eqb a v) false refl)) in
    let less : times (resumable s') s.records ≤ times (resumable s) s.records = times_less (resumable s') (resumable s) (λ y e. ap (λ d. is_suspended y.state && not d) (sym (same y.user)) ∙ e) s.records in
    let pushed : times (resumable s') (s.records ++ r ∷ []) ≡ times (resumable s') s.records = times_push (resumable s') s.records r in
    record {
      rising = rises_added 0 s.records r s.next refl t.rising;
      few = λ u. few_one u (eqb a u) refl (times_push (of_user u) s.records r);
      sent = omega (arith, less, pushed, times_none (resumable s) s.records t.settled);
    }
  where
    few_one : (u : ℕ) (d : Bool) → eqb a u ≡ d → {n : ℕ} → n ≡ cond d (suc (times (of_user u) s.records)) (times (of_user u) s.records) → n ≤ 5
    few_one u true e k = let f : suc (times (of_user u) s.records) ≤ 5 = subst (λ j. suc (times (of_user j) s.records) ≤ 5) (eqb-true a u e) h in omega (arith, k, f)
    few_one u false e k = omega (arith, k, t.few u)

-- The calls

within_parts : (p q a b c : Bool) → ((((p && q) && a) && b) && c) ≡ true → q ≡ true
within_parts true true a b c h = refl
within_parts true false a b c h = never (sym h)
within_parts false q a b c h = never (sym h)

module _ (s : AModel) (t : Tidy s) where
  ends : (k : ℕ) (x : ARecord) → found a_tn k s.records ≡ Some x → (a : Answer) (ms : List Values) → length ms ≤ 1 → Deed s (does s a (removed k) ms)
  ends k x e a ms h = deed_removed s k x e t a s.busy ms (λ v q. refl) h

  few_five : (a : ℕ) → leb s.settings.la (times (of_user a) s.records) ≡ false → a_fit s ≡ true → suc (times (of_user a) s.records) ≤ 5
  few_five a h f =
      let l : s.settings.la ≤ 5 = leb-true s.settings.la 5 (and_parts (leb 1 s.settings.la) (leb s.settings.la 5) (within_parts ((timed s.settings.t2 && timed s.settings.t3) && timed s.settings.t4) (limited s.settings.la) (switched s.settings.ra) (within 1 4294967295 s.settings.first) (placed s.places) f)).1 in
      omega (arith, l, leb-false s.settings.la (times (of_user a) s.records) h)

  activates : (cap : ℕ) (waiting : List Values) (a b sv : ℕ) → activate_refusal s cap waiting a b sv ≡ None → Keeps (accept s (activating s a b sv))
  activates cap waiting a b sv h =
      let r6 : Option Denial = row (identical s a b sv) Identical in
      let r7 : Option Denial = row (leb s.settings.la (times (of_user a) s.records)) UserFull in
      let r8 : List (Option Denial) = row (leb s.places (length s.records)) NoRecordPlace ∷ row (ltb 4294967295 s.next) NoNumberLeft ∷ row (fewer_than_five cap waiting) NoFreePlace ∷ [] in
      let p1 = passes (unfit_a s || not (sized cap)) OutOfRange (row (no_such_user a || leb 64 b) NoSuchParty ∷ row (ltb 3 sv) AboveThree ∷ r6 ∷ r7 ∷ r8) h in
      let p2 = passes (no_such_user a || leb 64 b) NoSuchParty (row (ltb 3 sv) AboveThree ∷ r6 ∷ r7 ∷ r8) p1.1 in
      let full : leb s.settings.la (times (of_user a) s.records) ≡ false = third (ltb 3 sv) _ (leb s.settings.la (times (of_user a) s.records)) AboveThree Identical UserFull r8 p2.1 in
      kept_by_deed s (activating s a b sv) (deed_asked s a b sv (few_five a full (not-false _ (or_parts (unfit_a s) _ p1.0).0)) t)

  withdraws : (cap : ℕ) (waiting : List Values) (a n : ℕ) → withdraw_refusal s cap waiting a n ≡ None → Keeps (accept s (withdrawing s n))
  withdraws cap waiting a n h = kept_by_deed s (withdrawing s n) (go (standing n s) refl (not-false _ (third (unfit_a s || not (sized cap)) (no_such_user a) (not (stands_for s a n)) OutOfRange NoSuchParty NotStanding (row (fewer_than_five cap waiting) NoFreePlace ∷ []) h)))
    where
      go : (o : Option ARecord) → standing n s ≡ o → elim o [ Some r ↦ eqb r.user a | None ↦ false ] ≡ true → Deed s (withdrawing s n)
      go None e f = never (sym f)
      go (Some r) e f = ends n r e (ended n Withdrawn) (cancelling n 0 ∷ []) (omega arith)

  at_own : (k : ℕ) (r : ARecord) → found a_tn k s.records ≡ Some r → found a_tn r.tn s.records ≡ Some r
  at_own k r e = subst (λ j. found a_tn j s.records ≡ Some r) (sym (eqb-true r.tn k (found_tn a_tn k s.records r e))) e

  answers : (cap : ℕ) (waiting : List Values) (a n : ℕ) → answer_refusal s cap waiting a n ≡ None → Keeps (accept s (answering s n))
  answers cap waiting a n h = kept_by_deed s (answering s n) (go (standing n s) refl)
    where
      one : (r : ARecord) → standing n s ≡ Some r → (b : Bool) → line_busy s r.user ≡ b → Deed s (answering_one s r b)
      one r e true f = deed_busy s (when_answered Suspended r) r (at_own n r e) refl t (suspended r.tn) (plain S r.tn) (or_left _ _ f)
      one r e false f = deed_busy s (when_answered Calling r) r (at_own n r e) refl t (calling r.tn) (plain C r.tn) (or_right (line_busy s r.user) _ (some_replaced_yes (engages r.user) a_tn (when_answered Calling r) s.records r (at_own n r e) (and_from _ _ (eq-eqb r.user r.user refl) refl)))

      go : (o : Option ARecord) → standing n s ≡ o → Deed s (answering_at s n o)
      go None e = deed_rest s (nothing n) [] (omega arith) t
      go (Some r) e = one r e (line_busy s r.user) refl

  expires : Keeps (accept s (a_expiring s))
  expires = kept_by_deed s (a_expiring s) (go (first_by a_due s.records) refl)
    where
      one : (r : ARecord) → found a_tn r.tn s.records ≡ Some r → Deed s (a_expiring_one s r)
      one r e = cond_both (due2 r) _ _ (Deed s) (λ _. ends r.tn r e (ended r.tn ShortTermDenial) [] (omega arith))
          (λ _. cond_both (due3 r) _ _ (Deed s) (λ _. ends r.tn r e (ended r.tn T3Over) (cancelling r.tn 1 ∷ []) (omega arith)) (λ _. ends r.tn r e (ended r.tn T4Over) (cancelling r.tn 2 ∷ []) (omega arith)))

      go : (o : Option ARecord) → first_by a_due s.records ≡ o → Deed s (a_expiring_at s o)
      go None e = deed_rest s done [] (omega arith) t
      go (Some r) e = one r (first_found a_due 0 s.records s.next r t.rising e)

  module _ (m : Values) where
    quiet : (k : ℕ) → Deed s (does s (nothing k) same [])
    quiet k = deed_rest s (nothing k) [] (omega arith) t

    module _ (r : ARecord) (e : found a_tn r.tn s.records ≡ Some r) where
      results : (st : AState) → Deed s (on_result s r st)
      results st = cond_both (is Requested st) _ _ (Deed s) (λ _. deed_became s (when_accepted s r) r e refl t (accepted r.tn)) (λ _. quiet r.tn)

      freed : r.state ≡ Waiting → (b : Bool) → ccbs_busy s r.user ≡ b → Deed s (on_free_waiting s r b)
      freed w false f = deed_became s (when_recalled s r) r e refl t (recall r.tn)
      freed w true f =
          deed_busy s (becomes Suspended r) r e refl t (suspended r.tn) (plain S r.tn)
          (ap (λ d. line_busy s r.user || d) (some_replaced (engages r.user) a_tn (becomes Suspended r) s.records r e (ap (λ st. eqb r.user r.user && recalled_or_calling st) w)) ∙ f)

      frees : (st : AState) → r.state ≡ st → Deed s (on_free s r st)
      frees Requested f = quiet r.tn
      frees Waiting f = freed f (ccbs_busy s r.user) refl
      frees Recalled f = quiet r.tn
      frees Suspended f = quiet r.tn
      frees Calling f = quiet r.tn

      keeps : (st : AState) → Deed s (on_kept s r st)
      keeps st = cond_both (is Calling st) _ _ (Deed s) (λ _. deed_became s (becomes Waiting r) r e refl t (kept r.tn)) (λ _. quiet r.tn)

      busy : (b : Bool) → Deed s (on_busy s r b)
      busy true = ends r.tn r e (ended r.tn BusyAgain) [] (omega arith)
      busy false = keeps r.state

      heard : (k : Kind) → Deed s (on_record s r m k)
      heard Q = quiet r.tn
      heard S = quiet r.tn
      heard M = quiet r.tn
      heard C = quiet r.tn
      heard X = ends r.tn r e (ended r.tn (cause_of m.cause)) [] (omega arith)
      heard R = results r.state
      heard E = ends r.tn r e (ended r.tn (cause_of m.cause)) [] (omega arith)
      heard F = frees r.state refl
      heard D = deed_removed s r.tn r e t (ended r.tn Completed) (with_line s r.user true) [] (λ v q. set_other s.busy r.user v true q) (omega arith)
      heard B = busy (eqb m.retention 0)

      comes : (k : Kind) → Deed s (on_returned s r k)
      comes k = cond_both (same_kind k Q) _ _ (Deed s) (λ _. ends r.tn r e (ended r.tn LongTermDenial) [] (omega arith))
          (λ _. cond_both (same_kind k C) _ _ (Deed s) (λ _. ends r.tn r e (ended r.tn CallReturned) (cancelling r.tn 0 ∷ []) (omega arith)) (λ _. quiet r.tn))

    strayed : (k : Kind) → Deed s (on_stray s m k)
    strayed k = cond_both (same_kind k R || same_kind k F) _ _ (Deed s) (λ _. deed_rest s (stray m.tn) (cancelling m.tn 0 ∷ []) (omega arith) t) (λ _. quiet m.tn)

    receives : (o : Option ARecord) → standing m.tn s ≡ o → Deed s (a_receiving_at s m o)
    receives None e = strayed m.kind
    receives (Some r) e = heard r (at_own m.tn r e) m.kind

    returns : (o : Option ARecord) → standing m.tn s ≡ o → Deed s (a_returning_at s m o)
    returns None e = quiet m.tn
    returns (Some r) e = comes r (at_own m.tn r e) m.kind

  pub all_five : Five s
  all_five = record {
    activate = activates;
    withdraw = withdraws;
    answer = answers;
    line_busy = λ a. record { tidy = record { rising = t.rising; few = t.few; settled = busied_none s a t.settled }; five = omega arith };
    line_free = λ a. kept_by_deed s (line_freeing s a) (deed_line s a false t);
    tick = record {
      tidy = record {
        rising = rises_map a_aged (λ r. refl) 0 s.records s.next t.rising;
        few = λ u. omega (arith, times_map (of_user u) a_aged (λ r. refl) s.records, t.few u);
        settled = ticked_none s t.settled;
      };
      five = omega arith;
    };
    expiry = expires;
    deliver = λ m. kept_by_deed s (a_receiving s m) (receives m (standing m.tn s) refl);
    «return» = λ m. kept_by_deed s (a_returning s m) (returns m (standing m.tn s) refl);
  }

pub five_suffice : FiveSuffice
five_suffice s t = all_five s t
