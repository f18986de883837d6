-- Between calls no Suspended record of a user who is not CCBS-busy stands: the resumption leaves none, and a tick or a busy line makes none.
use Rattle.std.proofs.Common.{◌≡◌, ℕ, zero, suc, Bool, true, false, cond, not, ◌&&◌, ◌||◌, eqb, List, [], ◌∷◌, map, get_or, set, sym, refl, ap, ◌∙◌}
use Rattle.std.proofs.lemmas.Bool.{and_parts, and_right, or_parts, or_from, or_right}
use Rattle.tables.proofs.Tables.{never}
use Rattle.waiting_line.specs.Searches.{some}
use Rattle.a_side.specs.declared.record.AState.{AState}
use Rattle.a_side.specs.declared.record.AState.TheVariants.{Requested, Waiting, Recalled, Suspended, Calling}
use Rattle.a_side.specs.declared.record.ARecord.{ARecord}
use Rattle.a_side.specs.Rules.{AModel, settled, with_records, line_busied, a_aged, resumable, resumed, becomes, ccbs_busy, line_busy, recalled_or_calling, is_suspended}

abbrev pub Settled : AModel → Type 0
Settled s = some (resumable s) s.records ≡ false

abbrev pub engages : ℕ → ARecord → Bool
engages a r = eqb r.user a && recalled_or_calling r.state

pub suspended_free : (s : AState) → is_suspended s ≡ true → recalled_or_calling s ≡ false
suspended_free Requested h = refl
suspended_free Waiting h = refl
suspended_free Recalled h = never (sym h)
suspended_free Suspended h = refl
suspended_free Calling h = never (sym h)

-- the resumption leaves who is CCBS-busy
pub engages_resumed : (s : AModel) (a : ℕ) (r : ARecord) → engages a (resumed s r) ≡ engages a r
engages_resumed s a r = go (resumable s r) refl
  where
    go : (b : Bool) → resumable s r ≡ b → engages a (cond b (becomes Waiting r) r) ≡ engages a r
    go true e = and_right (eqb r.user a) false refl ∙ sym (and_right (eqb r.user a) _ (suspended_free r.state (and_parts _ _ e).0))
    go false e = refl

pub some_map : {X : Type 0} (q p : X → Bool) (f : X → X) → ((x : X) → q (f x) ≡ p x) → (xs : List X) → some q (map f xs) ≡ some p xs
some_map q p f h [] = refl
some_map q p f h (x ∷ xs) = λ i. h x i || some_map q p f h xs i

pub none_map : {X : Type 0} (q : X → Bool) (f : X → X) → ((x : X) → q (f x) ≡ false) → (xs : List X) → some q (map f xs) ≡ false
none_map q f h [] = refl
none_map q f h (x ∷ xs) = or_from _ _ (h x) (none_map q f h xs)

pub none_less : {X : Type 0} (q p : X → Bool) → ((x : X) → p x ≡ false → q x ≡ false) → (xs : List X) → some p xs ≡ false → some q xs ≡ false
none_less q p h [] e = refl
none_less q p h (x ∷ xs) e = or_from _ _ (h x (or_parts _ _ e).0) (none_less q p h xs (or_parts _ _ e).1)

pub busy_resumed : (s : AModel) (a : ℕ) → ccbs_busy (settled s) a ≡ ccbs_busy s a
busy_resumed s a = ap (λ b. line_busy s a || b) (some_map (engages a) (engages a) (resumed s) (engages_resumed s a) s.records)

pub settled_none : (s : AModel) → Settled (settled s)
settled_none s = none_map (resumable (settled s)) (resumed s) (λ r. go r (resumable s r) refl) s.records
  where
    go : (r : ARecord) (b : Bool) → resumable s r ≡ b → resumable (settled s) (cond b (becomes Waiting r) r) ≡ false
    go r true e = refl
    go r false e = ap (λ b. is_suspended r.state && not b) (busy_resumed s r.user) ∙ e

pub ticked_none : (s : AModel) → Settled s → Settled (with_records s (map a_aged s.records))
ticked_none s h =
    let s' : AModel = with_records s (map a_aged s.records) in
    some_map (resumable s') (resumable s) a_aged (λ r. ap (λ b. is_suspended r.state && not (line_busy s r.user || b)) (some_map (engages r.user) (engages r.user) a_aged (λ x. refl) s.records)) s.records ∙ h

pub set_true : (l : List Bool) (a u : ℕ) → get_or l u false ≡ true → get_or (set l a true) u false ≡ true
set_true [] a u h = h
set_true (b ∷ l) zero zero h = refl
set_true (b ∷ l) zero (suc u) h = h
set_true (b ∷ l) (suc a) zero h = h
set_true (b ∷ l) (suc a) (suc u) h = set_true l a u h

pub busied_none : (s : AModel) (a : ℕ) → Settled s → Settled (line_busied s a).side
busied_none s a h = none_less (resumable (line_busied s a).side) (resumable s) less s.records h
  where
    less : (r : ARecord) → resumable s r ≡ false → resumable (line_busied s a).side r ≡ false
    less r e = go (is_suspended r.state) (line_busy s r.user) (line_busy (line_busied s a).side r.user) (some (engages r.user) s.records) refl (set_true s.busy a r.user) e
      where
        go : (i l l' k : Bool) → line_busy s r.user ≡ l → (l ≡ true → l' ≡ true) → (i && not (l || k)) ≡ false → (i && not (l' || k)) ≡ false
        go false l l' k e f h = refl
        go true l l' true e f h = ap not (or_right l' true refl)
        go true true l' false e f h = ap (λ b. not (b || false)) (f refl)
        go true false l' false e f h = never h
