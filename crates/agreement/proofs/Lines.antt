-- The destination's table: one Recalling record for a destination at most, records in the order of their storing, and recalls in turn.
use Rattle.std.proofs.Common.{◌≡◌, ℕ, suc, ◌+◌, ◌≤◌, Bool, true, false, cond, not, ◌&&◌, eqb, ◌⊎◌, List, [], ◌∷◌, ◌++◌, map, length, Some, None, Ok, Err, filter, Option, sym, refl, ap, ◌∙◌, subst, inl, inr, arith}
use Rattle.std.proofs.lemmas.List.{map_push}
use Rattle.std.proofs.lemmas.Simd.{map-map}
use Rattle.std.proofs.lemmas.Bool.{eqb-true, and_parts, and_right, and_left, or_parts, not-true}
use Rattle.answers.specs.declared.denial.Denial.{Denial}
use Rattle.answers.specs.declared.answer.Answer.{Answer}
use Rattle.tables.specs.Tables.{added, became, removed, without, replaced, those, changed, times, first_by}
use Rattle.waiting_line.specs.Searches.{some}
use Rattle.tables.proofs.Tables.{never, never_some, same_number}
use Rattle.tables.proofs.Counting.{times_none, times_push, times_map}
use Rattle.b_side.specs.declared.line.LineFacts.{LineFacts}
use Rattle.b_side.specs.declared.record.BState.{BState}
use Rattle.b_side.specs.declared.record.BState.TheVariants.{Queued, Suspended, Recalling}
use Rattle.b_side.specs.declared.record.BRecord.{BRecord}
use Rattle.b_side.specs.Rules.{b_tn, b_aged, is_queued, is_recalling, is_suspended, queued_at, recalling_at, guard_due, guard_over}
use Rattle.agreement.specs.declared.call.Call.{Call}
use Rattle.agreement.specs.World.{Outcome, World}
use Rattle.agreement.specs.History.{History, is_a, told_by_b, freed_in, pending_b, suspended_b, destination, goes_to, stored_numbers, InTurn, Fair}
use Rattle.agreement.proofs.Spots.{spot, event}
use Rattle.agreement.proofs.States.{or_false, suspended_r}
use Rattle.agreement.proofs.Good.{Good}
use Rattle.agreement.proofs.Order.{itself, listed, table_after, table, in_order}

abbrev pub Single : List BRecord → Type 0
Single rs = (b : ℕ) → times (recalling_at b) rs ≤ 1

pub record Lines (past : History) (rs : List BRecord) : Type 0 where
  pub single : Single rs
  pub order : map b_tn rs ≡ table past
  pub fair : Fair past

-- Counting over a change

module _ (q : BRecord → Bool) where
  times_without : (k : ℕ) (rs : List BRecord) → times q (without b_tn k rs) ≤ times q rs
  times_without k [] = omega arith
  times_without k (r ∷ rs) = go (eqb r.tn k) (q r) refl (times_without k rs)
    where
      go : (b d : Bool) → q r ≡ d → times q (without b_tn k rs) ≤ times q rs → times q (cond b rs (r ∷ without b_tn k rs)) ≤ cond d (suc (times q rs)) (times q rs)
      go true true e ih = omega arith
      go true false e ih = omega arith
      go false true e ih = rw e (omega arith)
      go false false e ih = rw e ih

  times_replaced : (s : BRecord) (rs : List BRecord) → times q (replaced b_tn s rs) ≤ times q rs + cond (q s) 1 0
  times_replaced s [] = omega arith
  times_replaced s (r ∷ rs) = go (eqb r.tn s.tn) (q r) (q s) refl refl (times_replaced s rs)
    where
      go : (b d f : Bool) → q r ≡ d → q s ≡ f → times q (replaced b_tn s rs) ≤ times q rs + cond (q s) 1 0 → times q (cond b (s ∷ rs) (r ∷ replaced b_tn s rs)) ≤ cond d (suc (times q rs)) (times q rs) + cond f 1 0
      go true true true e g ih = rw g (omega arith)
      go true true false e g ih = rw g (omega arith)
      go true false true e g ih = rw g (omega arith)
      go true false false e g ih = rw g (omega arith)
      go false true true e g ih = rw e (let h : times q (replaced b_tn s rs) ≤ times q rs + 1 = rw g at ih in omega arith)
      go false true false e g ih = rw e (let h : times q (replaced b_tn s rs) ≤ times q rs + 0 = rw g at ih in omega arith)
      go false false true e g ih = rw e (let h : times q (replaced b_tn s rs) ≤ times q rs + 1 = rw g at ih in omega arith)
      go false false false e g ih = rw e (let h : times q (replaced b_tn s rs) ≤ times q rs + 0 = rw g at ih in omega arith)

-- The numbers over a change

map_replaced : (s : BRecord) (rs : List BRecord) → map b_tn (replaced b_tn s rs) ≡ map b_tn rs
map_replaced s [] = refl
map_replaced s (r ∷ rs) = go (eqb r.tn s.tn) refl (map_replaced s rs)
  where
    go : (b : Bool) → eqb r.tn s.tn ≡ b → map b_tn (replaced b_tn s rs) ≡ map b_tn rs → map b_tn (cond b (s ∷ rs) (r ∷ replaced b_tn s rs)) ≡ r.tn ∷ map b_tn rs
    go true e ih = ap (λ k. k ∷ map b_tn rs) (sym (eqb-true r.tn s.tn e))
    go false e ih = ap (λ ks. r.tn ∷ ks) ih

map_without : (k : ℕ) (rs : List BRecord) → map b_tn (without b_tn k rs) ≡ without itself k (map b_tn rs)
map_without k [] = refl
map_without k (r ∷ rs) = go (eqb r.tn k) (map_without k rs)
  where
    go : (b : Bool) → map b_tn (without b_tn k rs) ≡ without itself k (map b_tn rs) → map b_tn (cond b rs (r ∷ without b_tn k rs)) ≡ cond b (map b_tn rs) (r.tn ∷ without itself k (map b_tn rs))
    go true ih = refl
    go false ih = ap (λ ks. r.tn ∷ ks) ih

-- Events

pub lines_a : (past : History) (rs : List BRecord) (c : Call) (o : Outcome) → is_a c ≡ true → Lines past rs → Lines (record { call = c; outcome = o } ∷ past) rs
lines_a past rs c o hc p = record {
  single = p.single;
  order = p.order ∙ ap (λ b. table_after (table past) b o) (sym hc);
  fair = (subst (λ b. InTurn (told_by_b freed_in b o) past) (sym hc) tt, p.fair);
}

pub lines_denied : (past : History) (rs : List BRecord) (c : Call) (e : Denial) → Lines past rs → Lines (record { call = c; outcome = Err e } ∷ past) rs
lines_denied past rs c e p = go (is_a c) refl
  where
    go : (b : Bool) → is_a c ≡ b → Lines (record { call = c; outcome = Err e } ∷ past) rs
    go true h = lines_a past rs c (Err e) h p
    go false h = record { single = p.single; order = p.order ∙ ap (λ b. table_after (table past) b (Err e)) (sym h); fair = (subst (λ b. InTurn (told_by_b freed_in b (Err e)) past) (sym h) tt, p.fair) }

module _ (past : History) (c : Call) (hc : is_a c ≡ false) where
  pub lines_b : (a : Answer) (rs : List BRecord) → Single rs → map b_tn rs ≡ listed (table past) a → InTurn (freed_in a) past → Fair past → Lines (event c a ∷ past) rs
  lines_b a rs s o t f = record {
    single = s;
    order = o ∙ ap (λ b. table_after (table past) b (Ok a)) (sym hc);
    fair = (subst (λ b. InTurn (told_by_b freed_in b (Ok a)) past) (sym hc) t, f);
  }

  pub lines_same : (a : Answer) (rs : List BRecord) → listed (table past) a ≡ table past → InTurn (freed_in a) past → Lines past rs → Lines (event c a ∷ past) rs
  lines_same a rs h t p = lines_b a rs p.single (p.order ∙ sym h) t p.fair

  pub lines_aged : (a : Answer) (rs : List BRecord) → listed (table past) a ≡ table past → InTurn (freed_in a) past → Lines past rs → Lines (event c a ∷ past) (map b_aged rs)
  lines_aged a rs h t p = lines_b a (map b_aged rs) (λ b. omega (arith, times_map (recalling_at b) b_aged (λ r. refl) rs, p.single b)) (map-map b_tn b_aged rs ∙ p.order ∙ sym h) t p.fair

  pub lines_became : (a : Answer) (rs : List BRecord) (r : BRecord) → is_recalling r.state ≡ false → listed (table past) a ≡ table past → InTurn (freed_in a) past → Lines past rs → Lines (event c a ∷ past) (changed b_tn (became r) rs)
  lines_became a rs r hr h t p =
      lines_b a (replaced b_tn r rs) (λ b. let z : recalling_at b r ≡ false = and_right (eqb r.destination b) _ hr in let l = rw z at (times_replaced (recalling_at b) r rs) in omega (arith, l, p.single b)) (map_replaced r rs ∙ p.order ∙ sym h) t p.fair

  pub lines_recalled : (a : Answer) (rs : List BRecord) (r : BRecord) → some (recalling_at r.destination) rs ≡ false → listed (table past) a ≡ table past → InTurn (freed_in a) past → Lines past rs → Lines (event c a ∷ past) (changed b_tn (became r) rs)
  lines_recalled a rs r hr h t p = lines_b a (replaced b_tn r rs) (λ b. go b (eqb r.destination b) refl) (map_replaced r rs ∙ p.order ∙ sym h) t p.fair
    where
      go : (b : ℕ) (d : Bool) → eqb r.destination b ≡ d → times (recalling_at b) (replaced b_tn r rs) ≤ 1
      go b true e =
          let z : times (recalling_at b) rs ≡ 0 = times_none (recalling_at b) rs (subst (λ k. some (recalling_at k) rs ≡ false) (eqb-true r.destination b e) hr) in
          omega (arith, times_replaced (recalling_at b) r rs, z, at_most (recalling_at b r))
        where
          at_most : (b : Bool) → cond b 1 0 ≤ 1
          at_most true = omega arith
          at_most false = omega arith
      go b false e = let z : recalling_at b r ≡ false = and_left (eqb r.destination b) _ e in let l = rw z at (times_replaced (recalling_at b) r rs) in omega (arith, l, p.single b)

  pub lines_stored : (a : Answer) (rs : List BRecord) (r : BRecord) → is_recalling r.state ≡ false → listed (table past) a ≡ table past ++ r.tn ∷ [] → InTurn (freed_in a) past → Lines past rs → Lines (event c a ∷ past) (changed b_tn (added r) rs)
  lines_stored a rs r hr h t p =
      lines_b a (rs ++ r ∷ []) (λ b. let z : recalling_at b r ≡ false = and_right (eqb r.destination b) _ hr in let l = rw z at (times_push (recalling_at b) rs r) in omega (arith, l, p.single b)) (map_push b_tn rs r ∙ ap (λ ks. ks ++ r.tn ∷ []) p.order ∙ sym h) t p.fair

  pub lines_ended : (a : Answer) (rs : List BRecord) (k : ℕ) → listed (table past) a ≡ without itself k (table past) → InTurn (freed_in a) past → Lines past rs → Lines (event c a ∷ past) (changed b_tn (removed k) rs)
  lines_ended a rs k h t p =
      lines_b a (without b_tn k rs) (λ b. omega (arith, times_without (recalling_at b) k rs, p.single b)) (map_without k rs ∙ ap (without itself k) p.order ∙ sym h) t p.fair

-- The guard: where T8 is over, no record is Recalling
pub over_none : (i : ℕ) (rs : List BRecord) (ls : List LineFacts) (b : ℕ) → guard_over i rs ls ≡ Some b → some (recalling_at b) rs ≡ false
over_none i rs [] b e = never_some e
over_none i rs (l ∷ ls) b e = go (guard_due i rs l) refl e (over_none (i + 1) rs ls b)
  where
    go : (d : Bool) → guard_due i rs l ≡ d → cond d (Some i) (guard_over (i + 1) rs ls) ≡ Some b → (guard_over (i + 1) rs ls ≡ Some b → some (recalling_at b) rs ≡ false) → some (recalling_at b) rs ≡ false
    go true f g ih =
        let k : i ≡ b = cc in
        subst (λ j. some (recalling_at j) rs ≡ false) k (not-true _ (and_parts _ _ (and_parts _ _ (and_parts _ _ f).0).0).1)
    go false f g ih = ih g

-- Members

abbrev In : BRecord → List BRecord → Type 0
In r [] = ⊥
In r (x ∷ xs) = (x ≡ r) ⊎ In r xs

in_those : (r : BRecord) (rs : List BRecord) → In r rs → In r (those b_tn r.tn rs)
in_those r [] h = h
in_those r (x ∷ rs) (inl e) = go (eqb x.tn r.tn) refl
  where
    go : (b : Bool) → eqb x.tn r.tn ≡ b → In r (cond b (x ∷ those b_tn r.tn rs) (those b_tn r.tn rs))
    go true f = inl e
    go false f = never (sym (same_number r.tn) ∙ ap (λ y. eqb y.tn r.tn) (sym e) ∙ f)
in_those r (x ∷ rs) (inr h) = go (eqb x.tn r.tn) (in_those r rs h)
  where
    go : (b : Bool) → In r (those b_tn r.tn rs) → In r (cond b (x ∷ those b_tn r.tn rs) (those b_tn r.tn rs))
    go true ih = inr ih
    go false ih = ih

in_alone : (r : BRecord) (xs : List BRecord) → In r xs → length xs ≤ 1 → xs ≡ r ∷ []
in_alone r [] h l = absurd h
in_alone r (x ∷ []) (inl e) l = ap (λ y. y ∷ []) e
in_alone r (x ∷ []) (inr h) l = absurd h
in_alone r (x ∷ y ∷ xs) h l = absurd (omega arith)

in_none : (q : BRecord → Bool) (r : BRecord) (rs : List BRecord) → In r rs → some q rs ≡ false → q r ≡ false
in_none q r [] h e = absurd h
in_none q r (x ∷ rs) (inl f) e = subst (λ y. q y ≡ false) f (or_parts (q x) _ e).0
in_none q r (x ∷ rs) (inr h) e = in_none q r rs h (or_parts (q x) _ e).1

first_alike : (f g : BRecord → Bool) (rs : List BRecord) → ((r : BRecord) → In r rs → f r ≡ g r) → first_by f rs ≡ first_by g rs
first_alike f g [] h = refl
first_alike f g (x ∷ rs) h = λ i. cond (h x (inl refl) i) (Some x) (first_alike f g rs (λ r k. h r (inr k)) i)

abbrev number_of : Option BRecord → Option ℕ
number_of (Some r) = Some r.tn
number_of None = None

first_map : (f : ℕ → Bool) (rs : List BRecord) → first_by f (map b_tn rs) ≡ number_of (first_by (λ (r : BRecord). f r.tn) rs)
first_map f [] = refl
first_map f (r ∷ rs) = go (f r.tn) (first_map f rs)
  where
    go : (b : Bool) → first_by f (map b_tn rs) ≡ number_of (first_by (λ (r : BRecord). f r.tn) rs) → cond b (Some r.tn) (first_by f (map b_tn rs)) ≡ number_of (cond b (Some r) (first_by (λ (r : BRecord). f r.tn) rs))
    go true ih = refl
    go false ih = ih

first_kept : (p s g : ℕ → Bool) (ns : List ℕ) → first_by (λ n. (p n && s n) && g n) ns ≡ first_by (λ n. s n && g n) (filter p ns)
first_kept p s g [] = refl
first_kept p s g (n ∷ ns) = go (p n) (first_kept p s g ns)
  where
    go : (b : Bool) → first_by (λ n. (p n && s n) && g n) ns ≡ first_by (λ n. s n && g n) (filter p ns) → cond ((b && s n) && g n) (Some n) (first_by (λ n. (p n && s n) && g n) ns) ≡ first_by (λ n. s n && g n) (cond b (n ∷ filter p ns) (filter p ns))
    go true ih = ap (λ o. cond (s n && g n) (Some n) o) ih
    go false ih = ih

waits_queued : (st : BState) (b : Bool) → (b && is_recalling st) ≡ false → (not (is_suspended st) && b) ≡ (b && is_queued st)
waits_queued Queued true h = refl
waits_queued Queued false h = refl
waits_queued Suspended true h = refl
waits_queued Suspended false h = refl
waits_queued Recalling true h = h
waits_queued Recalling false h = refl

module _ (past : History) (w : World) (each : (n : ℕ) → Good n (spot n past w)) (order : map b_tn w.b.records ≡ table past) (b : ℕ) (free : some (recalling_at b) w.b.records ≡ false) where
  its : (r : BRecord) → In r w.b.records → those b_tn r.tn w.b.records ≡ r ∷ []
  its r h = in_alone r _ (in_those r w.b.records h) (let c = (each r.tn).counts in omega (arith, c.sum_b, c.asked, c.once))

  its_state : (r : BRecord) → In r w.b.records → suspended_b r.tn past ≡ is_suspended r.state
  its_state r h = sym (each r.tn).states.susps ∙ ap (some suspended_r) (its r h) ∙ or_false (is_suspended r.state)

  its_destination : (r : BRecord) → In r w.b.records → destination r.tn past ≡ Some r.destination
  its_destination r h = (subst (λ rs. Rattle.agreement.proofs.States.Bound (destination r.tn past) rs) (its r h) (each r.tn).states.bound).0

  alike : (r : BRecord) → In r w.b.records → (not (suspended_b r.tn past) && goes_to b (destination r.tn past)) ≡ queued_at b r
  alike r h =
      ap (λ s. not s && goes_to b (destination r.tn past)) (its_state r h)
      ∙ ap (λ o. not (is_suspended r.state) && goes_to b o) (its_destination r h)
      ∙ waits_queued r.state (eqb r.destination b) (in_none (recalling_at b) r w.b.records h free)

  in_first : (r : BRecord) (rs : List BRecord) → first_by (queued_at b) rs ≡ Some r → In r rs
  in_first r [] e = never_some e
  in_first r (x ∷ rs) e = go (queued_at b x) e (in_first r rs)
    where
      go : (d : Bool) → cond d (Some x) (first_by (queued_at b) rs) ≡ Some r → (first_by (queued_at b) rs ≡ Some r → In r rs) → (x ≡ r) ⊎ In r rs
      go true g ih = let k : x ≡ r = cc in inl k
      go false g ih = inr (ih g)

  pub first_in_turn : (r : BRecord) → first_by (queued_at b) w.b.records ≡ Some r → eqb r.destination b ≡ true → InTurn (Some r.tn) past
  first_in_turn r e hb = (
    b,
    its_destination r (in_first r w.b.records e) ∙ ap Some (eqb-true r.destination b hb),
    first_kept (λ n. pending_b n past) (λ n. not (suspended_b n past)) (λ n. goes_to b (destination n past)) (stored_numbers past)
        ∙ ap (first_by (λ n. not (suspended_b n past) && goes_to b (destination n past))) (sym (in_order past (λ n. let c = (each n).counts in omega (arith, c.asked, c.once))) ∙ sym order)
        ∙ first_map (λ n. not (suspended_b n past) && goes_to b (destination n past)) w.b.records
        ∙ ap number_of (first_alike (λ (r : BRecord). not (suspended_b r.tn past) && goes_to b (destination r.tn past)) (queued_at b) w.b.records alike ∙ e),
  )
