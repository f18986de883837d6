-- One turn of the resumption.
use Rattle.std.proofs.Common.{◌≡◌, ℕ, ◌+◌, ◌<◌, Bool, true, false, List, [], ◌∷◌, ◌++◌, map, length, get_or, take, drop, set, filter, sym, refl, ap, ◌∙◌, subst, arith}
use Rattle.std.proofs.lemmas.Grind.{common_steps}
use Rattle.std.proofs.lemmas.List.{length-set}
use Rattle.std.proofs.lemmas.List.Edits.{map_over_more}
use Rattle.std.proofs.lemmas.Bool.{cond-true}
use Rattle.messages.specs.declared.kind.Kind.TheVariants.{Resume as M}
use Rattle.messages.specs.declared.values.Values.{Values}
use Rattle.messages.specs.Sent.{plain}
use Rattle.channels.specs.Meaning.{Takes}
use Rattle.a_side.specs.declared.record.AState.TheVariants.{Waiting}
use Rattle.a_side.specs.declared.record.ARecord.{ARecord}
use Rattle.a_side.specs.Rules.{AModel, with_records, becomes, resumable, resumed}
use Rattle.originating.specs.declared.side.Fit.{Fit}
use Rattle.originating.specs.Calls.{fit_of, working, Became}
use Rattle.originating.proofs.Kept.{became_both}
use Rattle.originating.proofs.Sent.{took_both}

abbrev pub resumption : ARecord → Values
resumption r = plain M r.tn

-- the side when the records below i have had their turn, and what was sent until then
abbrev pub midway : AModel → ℕ → AModel
midway a i = with_records a (map (resumed a) (take i a.records) ++ drop i a.records)

abbrev pub sofar : AModel → ℕ → List Values
sofar a i = map resumption (filter (resumable a) (take i a.records))

pub record Turn {C : Type 0} (capacity_of : C → ℕ) (waiting_in : C → List Values) (entry : Fit) (before : C) (i : ℕ) (mid : Fit) (now : C) : Type 0 where
  pub became : Became (working entry) (midway (fit_of entry) i) (working mid)
  pub took : Takes capacity_of waiting_in before (sofar (fit_of entry) i) now

-- one more of those that pass a test
module _ {T V : Type 0} (f : T → V) (p : T → Bool) (xs : List T) (i : ℕ) (x : T) (here : i < length xs) (own : get_or xs i x ≡ x) where
  passed_by : p x ≡ false → map f (filter p (take i xs)) ≡ map f (filter p (take (i + 1) xs))
  passed_by e = grind (arith, common_steps)

  passed : p x ≡ true → map f (filter p (take i xs)) ++ f x ∷ [] ≡ map f (filter p (take (i + 1) xs))
  passed e = grind (arith, common_steps)

module _ (a : AModel) (i : ℕ) (x : ARecord) (here : i < length a.records) (read : x ≡ get_or (midway a i).records i x) where
  own : get_or a.records i x ≡ x
  own = grind (arith, common_steps)

  asleep : resumable a x ≡ false → midway a i ≡ midway a (i + 1)
  asleep e = grind (arith, common_steps)

  woken : resumable a x ≡ true → with_records a (set (midway a i).records i (becomes Waiting x)) ≡ midway a (i + 1)
  woken e = ap (λ r. with_records a (set (midway a i).records i r)) (sym (cond-true _ (becomes Waiting x) x e)) ∙ ap (with_records a) (map_over_more (resumed a) a.records (midway a i).records i x here refl read)

stood : (entry mid : Fit) (i : ℕ) (all : List ARecord) (d : ARecord) → i < length (fit_of entry).records → fit_of mid ≡ midway (fit_of entry) i → all ≡ (fit_of mid).records → get_or all i d ≡ get_or (midway (fit_of entry) i).records i (get_or all i d)
stood entry mid i all d here side shown = grind (arith, common_steps)

module _ (entry : Fit) (i : ℕ) (here : i < length (fit_of entry).records) where
  abbrev a : AModel
  a = fit_of entry

  module _ {C : Type 0} (capacity_of : C → ℕ) (waiting_in : C → List Values) (before : C) {mid : Fit} {now : C} (turn : Turn capacity_of waiting_in entry before i mid now) (all : List ARecord) (d : ARecord) (shown : all ≡ (fit_of mid).records) where
    abbrev x : ARecord
    x = get_or all i d

    read : x ≡ get_or (midway a i).records i x
    read = stood entry mid i all d here turn.became.side shown

    -- what is asked of the record, in the middle of the resumption, is what the rules ask
    asked : (b : Bool) → b ≡ resumable (with_records (fit_of mid) a.records) x → resumable a x ≡ b
    asked b e = sym (e ∙ ap (λ s. resumable (with_records s a.records) x) turn.became.side)

    pub turn_asleep : false ≡ resumable (with_records (fit_of mid) a.records) x → Turn capacity_of waiting_in entry before (i + 1) mid now
    turn_asleep e =
        let off = asked false e in
        let P : AModel → Type 0 = λ s. Became (working entry) s (working mid) in
        let Q : List Values → Type 0 = λ l. Takes capacity_of waiting_in before l now in
        record {
          became = subst P (asleep a i x here read off) turn.became;
          took = subst Q (passed_by resumption (resumable a) a.records i x here (own a i x here read) off) turn.took;
        }

    pub turn_woken : true ≡ resumable (with_records (fit_of mid) a.records) x → {next : Fit} {later : C} → Became (working mid) (with_records (fit_of mid) (set (fit_of mid).records i (becomes Waiting x))) (working next) → Takes capacity_of waiting_in now (resumption x ∷ []) later → Turn capacity_of waiting_in entry before (i + 1) next later
    turn_woken e {next} {later} became took =
        let on = asked true e in
        let P : AModel → Type 0 = λ s. Became (working entry) s (working next) in
        let Q : List Values → Type 0 = λ l. Takes capacity_of waiting_in before l later in
        let R : AModel → Type 0 = λ s. Became (working mid) (with_records s (set s.records i (becomes Waiting x))) (working next) in
        record {
          became = subst P (woken a i x here read on) (became_both (sym (length-set (midway a i).records i (becomes Waiting x))) turn.became (subst R turn.became.side became));
          took = subst Q (passed resumption (resumable a) a.records i x here (own a i x here read) on) (took_both (sofar a i) (resumption x ∷ []) turn.took took);
        }
