-- The law over every run.
use Rattle.std.proofs.Common.{◌≡◌, ℕ, suc, ◌+◌, ◌≤◌, Bool, true, false, cond, not, ◌&&◌, ◌||◌, eqb, ◌⊎◌, List, [], ◌∷◌, length, take, Some, Option, sym, refl, ap, ◌∙◌, subst, inl, inr, arith}
use Rattle.std.proofs.lemmas.Bool.{eqb-true, and_from, or_left, or_right, or_cases, cases_eq}
use Rattle.tables.proofs.Tables.{never}
use Rattle.tables.specs.Tables.{those, times}
use Rattle.waiting_line.specs.Searches.{some}
use Rattle.messages.specs.declared.values.Values.{Values}
use Rattle.a_side.specs.Rules.{a_tn}
use Rattle.b_side.specs.declared.record.BRecord.{BRecord}
use Rattle.b_side.specs.Rules.{b_tn, is_recalling, recalling_at}
use Rattle.agreement.specs.declared.call.Call.{Call}
use Rattle.agreement.specs.World.{World, Given, fresh, of_it, on_the_way}
use Rattle.agreement.specs.History.{History, Life, after, begun, lived, pending_a, pending_b, under_recall, returned, destination}
use Rattle.agreement.specs.Laws.{Agreement, Fit, Law, one_if}
use Rattle.agreement.proofs.Spots.{spot, m_tn}
use Rattle.agreement.proofs.Steps.{step_keeps}
use Rattle.agreement.proofs.States.{Bound, recalling_r, suspended_r}
use Rattle.agreement.proofs.Ways.{Local, none}
use Rattle.agreement.proofs.Good.{Good, good}
use Rattle.agreement.proofs.Fits.{fit_step, none_lost_lem, fit_fresh}
use Rattle.agreement.proofs.Lines.{Lines}
use Rattle.agreement.proofs.LinesSteps.{lines_step}

pub record Kept (past : History) (w : World) : Type 0 where
  pub each : (n : ℕ) → Good n (spot n past w)
  pub lines : Lines past w.b.records
  pub fit : Fit w

kept_step : (l : Life) (c : Call) → Kept l.past l.world → Kept (after l c).past (after l c).world
kept_step l c p = record {
  each = λ n. step_keeps n (Good n) (good n) l.past l.world (p.each n) c;
  lines = lines_step l.past l.world p.each p.lines c;
  fit = fit_step l.world p.fit c;
}

kept_run : (l : Life) (cs : List Call) → Kept l.past l.world → Kept (lived l cs).past (lived l cs).world
kept_run l [] p = p
kept_run l (c ∷ cs) p = kept_run (after l c) cs (kept_step l c p)

kept_fresh : (g : Given) → Kept [] (fresh g)
kept_fresh g = record {
  each = λ n. record {
    counts = record { unborn = λ _. refl; once = omega arith; one_a = refl; sum_a = refl; one_b = refl; sum_b = refl; asked = omega arith };
    states = record { recalls = refl; susps = refl; bound = tt; goes = tt };
    ways = record {
      silent = λ _. (refl, refl);
      local = inr (record { q1 = λ h. refl; q2 = λ h. refl; q3 = λ h. refl; late = refl; t = λ h. refl; a = λ h k. never h; b = λ h k. never h; r = λ h k l j. never h; x = λ h. refl });
    };
  };
  lines = record { single = λ b. omega arith; order = refl; fair = tt };
  fit = fit_fresh g;
}

-- From the spots to the promises

module _ {R : Type 0} (tn : R → ℕ) (q : R → Bool) (n : ℕ) where
  some_those : (rs : List R) → some (λ r. eqb (tn r) n && q r) rs ≡ some q (those tn n rs)
  some_those [] = refl
  some_those (r ∷ rs) = go (eqb (tn r) n) (some_those rs)
    where
      go : (b : Bool) → some (λ r. eqb (tn r) n && q r) rs ≡ some q (those tn n rs) → ((b && q r) || some (λ r. eqb (tn r) n && q r) rs) ≡ some q (cond b (r ∷ those tn n rs) (those tn n rs))
      go true ih = ap (λ d. q r || d) ih
      go false ih = ih

  times_those : (rs : List R) → times (λ r. eqb (tn r) n && q r) rs ≡ times q (those tn n rs)
  times_those [] = refl
  times_those (r ∷ rs) = go (eqb (tn r) n) (times_those rs)
    where
      go : (b : Bool) → times (λ r. eqb (tn r) n && q r) rs ≡ times q (those tn n rs) → cond (b && q r) (suc (times (λ r. eqb (tn r) n && q r) rs)) (times (λ r. eqb (tn r) n && q r) rs) ≡ times q (cond b (r ∷ those tn n rs) (those tn n rs))
      go true ih = ap (λ k. cond (q r) (suc k) k) ih
      go false ih = ih

-- a message of n is among those of n
some_of : (q : Values → Bool) (n : ℕ) (ms : List Values) → some q (those m_tn n ms) ≡ true → some (of_it n) ms ≡ true
some_of q n [] h = h
some_of q n (m ∷ ms) h = go (eqb m.tn n) h (some_of q n ms)
  where
    go : (b : Bool) → some q (cond b (m ∷ those m_tn n ms) (those m_tn n ms)) ≡ true → (some q (those m_tn n ms) ≡ true → some (of_it n) ms ≡ true) → (b || some (of_it n) ms) ≡ true
    go true h ih = refl
    go false h ih = ih h

-- two transactions that are Recalling at one destination are two records there
both_recalling : (b n m : ℕ) → (n ≡ m → ⊥) → (rs : List BRecord) → times (λ (r : BRecord). eqb r.tn n && recalling_at b r) rs + times (λ (r : BRecord). eqb r.tn m && recalling_at b r) rs ≤ times (recalling_at b) rs
both_recalling b n m d [] = omega arith
both_recalling b n m d (r ∷ rs) = go (eqb r.tn n) (eqb r.tn m) (recalling_at b r) refl refl (both_recalling b n m d rs)
  where
    go : (e f g : Bool) → eqb r.tn n ≡ e → eqb r.tn m ≡ f
        → times (λ (r : BRecord). eqb r.tn n && recalling_at b r) rs + times (λ (r : BRecord). eqb r.tn m && recalling_at b r) rs ≤ times (recalling_at b) rs
        → cond (e && g) (suc (times (λ (r : BRecord). eqb r.tn n && recalling_at b r) rs)) (times (λ (r : BRecord). eqb r.tn n && recalling_at b r) rs) + cond (f && g) (suc (times (λ (r : BRecord). eqb r.tn m && recalling_at b r) rs)) (times (λ (r : BRecord). eqb r.tn m && recalling_at b r) rs) ≤ cond g (suc (times (recalling_at b) rs)) (times (recalling_at b) rs)
    go true true g h k ih = absurd (d (sym (eqb-true r.tn n h) ∙ eqb-true r.tn m k))
    go true false true h k ih = omega arith
    go true false false h k ih = ih
    go false true true h k ih = omega arith
    go false true false h k ih = ih
    go false false true h k ih = omega arith
    go false false false h k ih = ih

-- the record of a transaction under recall counts at its destination
recall_counts : (to : Option ℕ) (b : ℕ) (rs : List BRecord) → Bound to rs → to ≡ Some b → some recalling_r rs ≡ true → 1 ≤ times (recalling_at b) rs
recall_counts to b [] h e f = never (sym f)
recall_counts to b (r ∷ rs) h e f = go (is_recalling r.state) refl f (recall_counts to b rs h.1 e)
  where
    same : eqb r.destination b ≡ true
    same = let k : r.destination ≡ b = cc (h.0, e) in Rattle.std.proofs.lemmas.Bool.eq-eqb r.destination b k

    go : (d : Bool) → is_recalling r.state ≡ d → (d || some recalling_r rs) ≡ true → (some recalling_r rs ≡ true → 1 ≤ times (recalling_at b) rs) → 1 ≤ cond (recalling_at b r) (suc (times (recalling_at b) rs)) (times (recalling_at b) rs)
    go true g k ih = rw (and_from (eqb r.destination b) (is_recalling r.state) same g) (omega arith)
    go false g k ih = more (recalling_at b r) (ih k)
      where
        more : (x : Bool) → 1 ≤ times (recalling_at b) rs → 1 ≤ cond x (suc (times (recalling_at b) rs)) (times (recalling_at b) rs)
        more true l = omega arith
        more false l = l

module _ (past : History) (w : World) (k : Kept past w) where
  counted : (n b : ℕ) → under_recall n past ≡ true → destination n past ≡ Some b → 1 ≤ times (λ (r : BRecord). eqb r.tn n && recalling_at b r) w.b.records
  counted n b h e =
      subst (λ j. 1 ≤ j) (sym (times_those b_tn (recalling_at b) n w.b.records))
      (recall_counts (destination n past) b (those b_tn n w.b.records) (k.each n).states.bound e ((k.each n).states.recalls ∙ h))

  alone : (n m b : ℕ) → under_recall n past ≡ true → under_recall m past ≡ true → destination n past ≡ Some b → destination m past ≡ Some b → n ≡ m
  alone n m b hn hm en em = go (cases_eq n m)
    where
      go : (n ≡ m) ⊎ (n ≡ m → ⊥) → n ≡ m
      go (inl e) = e
      go (inr d) = absurd (omega (arith, both_recalling b n m d w.b.records, counted n b hn en, counted m b hm em, k.lines.single b))

  none_of : {R : Type 0} (rs : List R) (p : Bool) → length rs ≡ one_if p → none rs ≡ not p
  none_of [] true h = absurd (omega arith)
  none_of [] false h = refl
  none_of (r ∷ rs) true h = refl
  none_of (r ∷ rs) false h = absurd (omega arith)

  some_way : (n : ℕ) → (pending_a n past ≡ pending_b n past → ⊥) → (on_the_way n w || returned n past) ≡ true
  some_way n d = go (k.each n).ways.local
    where
      n_a : none (those a_tn n w.a.records) ≡ not (pending_a n past)
      n_a = none_of (those a_tn n w.a.records) (pending_a n past) (k.each n).counts.one_a

      n_b : none (those b_tn n w.b.records) ≡ not (pending_b n past)
      n_b = none_of (those b_tn n w.b.records) (pending_b n past) (k.each n).counts.one_b

      to_b : (q : Values → Bool) → some q (those m_tn n w.to_b) ≡ true → (on_the_way n w || returned n past) ≡ true
      to_b q h = or_left (on_the_way n w) _ (or_left (some (of_it n) w.to_b) _ (some_of q n w.to_b h))

      to_a : (q : Values → Bool) → some q (those m_tn n w.to_a) ≡ true → (on_the_way n w || returned n past) ≡ true
      to_a q h = or_left (on_the_way n w) _ (or_right (some (of_it n) w.to_b) _ (some_of q n w.to_a h))

      either : (q q' : Values → Bool) → (some q (those m_tn n w.to_b) || some q' (those m_tn n w.to_a)) ≡ true → (on_the_way n w || returned n past) ≡ true
      either q q' h = elim (or_cases _ _ h) [ inl e ↦ to_b q e | inr e ↦ to_a q' e ]

      either₂ : (q q' q'' : Values → Bool) → (some q (those m_tn n w.to_b) || (some q' (those m_tn n w.to_a) || some q'' (those m_tn n w.to_a))) ≡ true → (on_the_way n w || returned n past) ≡ true
      either₂ q q' q'' h = elim (or_cases _ _ h) [ inl e ↦ to_b q e | inr e ↦ elim (or_cases _ _ e) [ inl f ↦ to_a q' f | inr f ↦ to_a q'' f ] ]

      local : Local (those a_tn n w.a.records) (those b_tn n w.b.records) (those m_tn n w.to_b) (those m_tn n w.to_a) → (pa pb : Bool) → pending_a n past ≡ pa → pending_b n past ≡ pb → (on_the_way n w || returned n past) ≡ true
      local l true true e f = absurd (d (e ∙ sym f))
      local l true false e f = either _ _ (l.a (n_a ∙ ap not e) (n_b ∙ ap not f))
      local l false true e f = either₂ _ _ _ (l.b (n_b ∙ ap not f) (n_a ∙ ap not e))
      local l false false e f = absurd (d (e ∙ sym f))

      go : (returned n past ≡ true) ⊎ Local (those a_tn n w.a.records) (those b_tn n w.b.records) (those m_tn n w.to_b) (those m_tn n w.to_a) → (on_the_way n w || returned n past) ≡ true
      go (inl h) = or_right (on_the_way n w) _ h
      go (inr l) = local l (pending_a n past) (pending_b n past) refl refl

  pub agreed : Agreement past w
  agreed = record {
    table_a = λ n. (k.each n).counts.one_a;
    table_b = λ n. (k.each n).counts.one_b;
    given_once = λ n. (k.each n).counts.once;
    stored_once = λ n. let c = (k.each n).counts in omega (arith, c.asked, c.once);
    ended_once_a = λ n. let c = (k.each n).counts in omega (arith, c.sum_a, c.once);
    ended_once_b = λ n. let c = (k.each n).counts in omega (arith, c.sum_b, c.asked, c.once);
    one_recall = alone;
    recalling = λ n. some_those b_tn recalling_r n w.b.records ∙ (k.each n).states.recalls;
    suspended_there = λ n. some_those b_tn suspended_r n w.b.records ∙ (k.each n).states.susps;
    in_turn = k.lines.fair;
    one_sided = some_way;
    settled_a = k.fit.tidy.settled;
    within_b = k.fit.to_b;
    within_a = k.fit.to_a;
    none_lost = none_lost_lem w k.fit;
  }

pub law_whole : (g : Given) (calls : List Call) → Agreement (lived (begun (fresh g)) calls).past (lived (begun (fresh g)) calls).world
law_whole g calls = let l = lived (begun (fresh g)) calls in agreed l.past l.world (kept_run (begun (fresh g)) calls (kept_fresh g))

pub law : Law
law g calls k = law_whole g (take k calls)
