-- The numbers pending at B, in the order of their storing: as a table that follows the answers, and as a choice from all that were stored.
use Rattle.std.proofs.Common.{◌≡◌, ℕ, suc, ◌≤◌, Bool, true, false, cond, not, ◌&&◌, ◌||◌, eqb, List, [], ◌∷◌, ◌++◌, filter, Ok, Err, sym, refl, ap, ◌∙◌, subst, arith}
use Rattle.std.proofs.lemmas.List.Elements.{filter-append}
use Rattle.std.proofs.lemmas.Bool.{eqb-true, eqb-false, ne_eqb, eq-eqb}
use Rattle.answers.specs.declared.answer.Answer.{Answer}
use Rattle.answers.specs.declared.answer.Answer.TheVariants.{Done as done, Nothing as nothing, Requested as requested, Accepted as accepted, Recall as recall, Suspended as suspended, Calling as calling, Kept as kept, Stray as stray, Stored as stored, Rejected as rejected, Freed as freed, Resumed as resumed, Ended as ended}
use Rattle.tables.specs.Tables.{without, times}
use Rattle.tables.proofs.Tables.{same_number}
use Rattle.tables.proofs.Counting.{times_push}
use Rattle.agreement.specs.World.{Outcome}
use Rattle.agreement.specs.History.{History, is_a, answers, stores, ends, stores_at_b, pending_b, stored_numbers, stored_in, told_by_b, also}

abbrev pub itself : ℕ → ℕ
itself n = n

abbrev pub listed : List ℕ → Answer → List ℕ
listed t done = t
listed t (nothing m) = t
listed t (requested m) = t
listed t (accepted m) = t
listed t (recall m) = t
listed t (suspended m) = t
listed t (calling m) = t
listed t (kept m) = t
listed t (stray m) = t
listed t (stored m) = t ++ m ∷ []
listed t (rejected m c) = t
listed t (freed m) = t
listed t (resumed m) = t
listed t (ended m c) = without itself m t

abbrev pub table_after : List ℕ → Bool → Outcome → List ℕ
table_after t true o = t
table_after t false (Ok a) = listed t a
table_after t false (Err e) = t

abbrev pub table : History → List ℕ
table [] = []
table (e ∷ past) = table_after (table past) (is_a e.call) e.outcome

abbrev pub among : ℕ → List ℕ → ℕ
among n ns = times (λ (j : ℕ). eqb j n) ns

other_way : (a b : ℕ) → eqb a b ≡ false → eqb b a ≡ false
other_way a b h = ne_eqb b a (λ e. eqb-false a b h (sym e))

kept_new : (k : ℕ) (p : ℕ → Bool) (ns : List ℕ) → among k ns ≡ 0 → filter (λ n. eqb k n || p n) ns ≡ filter p ns
kept_new k p [] h = refl
kept_new k p (j ∷ ns) h = go (eqb j k) refl h (kept_new k p ns)
  where
    go : (b : Bool) → eqb j k ≡ b → cond b (suc (among k ns)) (among k ns) ≡ 0 → (among k ns ≡ 0 → filter (λ n. eqb k n || p n) ns ≡ filter p ns) → filter (λ n. eqb k n || p n) (j ∷ ns) ≡ filter p (j ∷ ns)
    go true e f ih = absurd (omega arith)
    go false e f ih = λ i. cond (other_way j k e i || p j) (j ∷ ih f i) (ih f i)

kept_gone : (k : ℕ) (p : ℕ → Bool) (ns : List ℕ) → among k ns ≡ 0 → filter (λ n. not (eqb k n) && p n) ns ≡ filter p ns
kept_gone k p [] h = refl
kept_gone k p (j ∷ ns) h = go (eqb j k) refl h (kept_gone k p ns)
  where
    go : (b : Bool) → eqb j k ≡ b → cond b (suc (among k ns)) (among k ns) ≡ 0 → (among k ns ≡ 0 → filter (λ n. not (eqb k n) && p n) ns ≡ filter p ns) → filter (λ n. not (eqb k n) && p n) (j ∷ ns) ≡ filter p (j ∷ ns)
    go true e f ih = absurd (omega arith)
    go false e f ih = λ i. cond (not (other_way j k e i) && p j) (j ∷ ih f i) (ih f i)

flip : (a b : ℕ) → eqb a b ≡ true → eqb b a ≡ true
flip a b h = eq-eqb b a (sym (eqb-true a b h))

kept_ended : (k : ℕ) (p : ℕ → Bool) (ns : List ℕ) → among k ns ≤ 1 → without itself k (filter p ns) ≡ filter (λ n. not (eqb k n) && p n) ns
kept_ended k p [] h = refl
kept_ended k p (j ∷ ns) h = go (eqb j k) (p j) refl h (kept_ended k p ns)
  where
    go : (b d : Bool) → eqb j k ≡ b → cond b (suc (among k ns)) (among k ns) ≤ 1 → (among k ns ≤ 1 → without itself k (filter p ns) ≡ filter (λ n. not (eqb k n) && p n) ns) → without itself k (cond d (j ∷ filter p ns) (filter p ns)) ≡ cond (not (eqb k j) && d) (j ∷ filter (λ n. not (eqb k n) && p n) ns) (filter (λ n. not (eqb k n) && p n) ns)
    go true true e f ih = rw (e, flip j k e) (sym (kept_gone k p ns (omega arith)))
    go true false e f ih = rw (flip j k e) (ih (omega arith))
    go false true e f ih = rw (e, other_way j k e) (ap (λ zs. j ∷ zs) (ih f))
    go false false e f ih = rw (other_way j k e) (ih f)

-- one more event
step_order : (b : Bool) (o : Outcome) (t ns : List ℕ) (p : ℕ → Bool) → t ≡ filter p ns → ((n : ℕ) → among n ns ≤ 1) → ((n : ℕ) → (not b && answers (stores n) o) ≡ true → among n ns ≡ 0) → table_after t b o ≡ filter (λ n. (not b && answers (stores n) o) || (not (not b && answers (ends n) o) && p n)) (also ns (told_by_b stored_in b o))
step_order true o t ns p e h k = e
step_order false (Err d) t ns p e h k = e
step_order false (Ok a) t ns p e h k = go a k
  where
    go : (a : Answer) → ((n : ℕ) → stores n a ≡ true → among n ns ≡ 0) → listed t a ≡ filter (λ n. stores n a || (not (ends n a) && p n)) (also ns (stored_in a))
    go done k = e
    go (nothing m) k = e
    go (requested m) k = e
    go (accepted m) k = e
    go (recall m) k = e
    go (suspended m) k = e
    go (calling m) k = e
    go (kept m) k = e
    go (stray m) k = e
    go (stored m) k =
        ap (λ zs. zs ++ m ∷ []) (e ∙ sym (kept_new m p ns (k m (same_number m))))
        ∙ ap (λ zs. filter (λ n. eqb m n || p n) ns ++ zs) (sym one)
        ∙ sym (filter-append (λ n. eqb m n || p n) ns (m ∷ []))
      where
        one : filter (λ n. eqb m n || p n) (m ∷ []) ≡ m ∷ []
        one = rw (same_number m)
    go (rejected m c) k = e
    go (freed m) k = e
    go (resumed m) k = e
    go (ended m c) k = ap (without itself m) e ∙ kept_ended m p ns (h m)

-- how often a number was stored
count_step : (b : Bool) (o : Outcome) (n : ℕ) (ns : List ℕ) → among n (also ns (told_by_b stored_in b o)) ≡ cond (not b && answers (stores n) o) (suc (among n ns)) (among n ns)
count_step true o n ns = refl
count_step false (Err d) n ns = refl
count_step false (Ok a) n ns = go a
  where
    go : (a : Answer) → among n (also ns (stored_in a)) ≡ cond (stores n a) (suc (among n ns)) (among n ns)
    go done = refl
    go (nothing m) = refl
    go (requested m) = refl
    go (accepted m) = refl
    go (recall m) = refl
    go (suspended m) = refl
    go (calling m) = refl
    go (kept m) = refl
    go (stray m) = refl
    go (stored m) = times_push (λ (j : ℕ). eqb j n) ns m
    go (rejected m c) = refl
    go (freed m) = refl
    go (resumed m) = refl
    go (ended m c) = refl

pub count_stored : (n : ℕ) (past : History) → among n (stored_numbers past) ≡ times (stores_at_b n) past
count_stored n [] = refl
count_stored n (e ∷ past) = count_step (is_a e.call) e.outcome n (stored_numbers past) ∙ ap (λ k. cond (stores_at_b n e) (suc k) k) (count_stored n past)

fewer : (b : Bool) (n : ℕ) → cond b (suc n) n ≤ 1 → n ≤ 1
fewer true n h = omega arith
fewer false n h = h

first_time : (b : Bool) (n : ℕ) → cond b (suc n) n ≤ 1 → b ≡ true → n ≡ 0
first_time true n h e = omega arith
first_time false n h e = absurd (let z : ◌≡◌ {A = ℕ} 0 1 = cc in omega arith)

pub in_order : (past : History) → ((n : ℕ) → times (stores_at_b n) past ≤ 1) → table past ≡ filter (λ n. pending_b n past) (stored_numbers past)
in_order [] h = refl
in_order (e ∷ past) h =
    step_order (is_a e.call) e.outcome (table past) (stored_numbers past) (λ n. pending_b n past) (in_order past (λ n. fewer (stores_at_b n e) _ (h n)))
    (λ n. subst (λ k. k ≤ 1) (sym (count_stored n past)) (fewer (stores_at_b n e) _ (h n)))
    (λ n b. count_stored n past ∙ first_time (stores_at_b n e) _ (h n) b)
