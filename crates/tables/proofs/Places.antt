-- The rules' words by first match are the code's by place: what is found, replaced and removed stands at the place of the search.
use Rattle.std.proofs.Common.{◌≡◌, ℕ, suc, ◌+◌, ◌<◌, Bool, true, false, cond, eqb, List, [], ◌∷◌, length, get_or, set, Some, None, Option, sym, refl, ap, ◌∙◌, subst, arith}
use Rattle.std.specs.List.{remove}
use Rattle.tables.proofs.Tables.{never_some}
use Rattle.waiting_line.specs.Searches.{first_from, first_where}
use Rattle.tables.specs.Tables.{found, without, replaced}

module _ {R : Type 0} (tn : R → ℕ) (n : ℕ) where
  pub record Placed (rs : List R) (j : ℕ) : Type 0 where
    pub within : j < length rs
    pub finds : (d : R) → found tn n rs ≡ Some (get_or rs j d)
    pub replaces : (s : R) → tn s ≡ n → replaced tn s rs ≡ set rs j s
    pub removes : without tn n rs ≡ remove rs j

  placed_from : (k : ℕ) (rs : List R) (i : ℕ) → first_from k (λ (x : R). eqb (tn x) n) rs ≡ Some i → (j : ℕ) × (i ≡ k + j) × Placed rs j
  placed_from k [] i e = never_some e
  placed_from k (r ∷ rs) i e = go (eqb (tn r) n) refl e (placed_from (k + 1) rs i)
    where
      go : (b : Bool) → eqb (tn r) n ≡ b → cond b (Some k) (first_from (k + 1) (λ (x : R). eqb (tn x) n) rs) ≡ Some i → (first_from (k + 1) (λ (x : R). eqb (tn x) n) rs ≡ Some i → (j : ℕ) × (i ≡ (k + 1) + j) × Placed rs j) → (j : ℕ) × (i ≡ k + j) × Placed (r ∷ rs) j
      go true h f ih =
          let same : k ≡ i = cc in (
            0,
            omega (arith, same),
            record {
              within = omega arith;
              finds = λ d. rw h;
              replaces = λ s q. rw (ap (λ m. eqb (tn r) m) q ∙ h);
              removes = rw h;
            },
          )
      go false h f ih =
          let p = ih f in (
            suc p.0,
            omega (arith, p.1),
            record {
              within = omega (arith, p.2.within);
              finds = λ d. rw h (p.2.finds d);
              replaces = λ s q. rw (ap (λ m. eqb (tn r) m) q ∙ h) (ap (λ zs. r ∷ zs) (p.2.replaces s q));
              removes = rw h (ap (λ zs. r ∷ zs) p.2.removes);
            },
          )

  pub placed : (rs : List R) (i : ℕ) → first_from 0 (λ (x : R). eqb (tn x) n) rs ≡ Some i → Placed rs i
  placed rs i e = let p = placed_from 0 rs i e in subst (λ j. Placed rs j) (let k : p.0 ≡ i = omega (arith, p.1) in k) p.2

  pub unplaced : (k : ℕ) (rs : List R) → first_from k (λ (x : R). eqb (tn x) n) rs ≡ None → found tn n rs ≡ None
  unplaced k [] e = refl
  unplaced k (r ∷ rs) e = go (eqb (tn r) n) refl e (unplaced (k + 1) rs)
    where
      go : (b : Bool) → eqb (tn r) n ≡ b → cond b (Some k) (first_from (k + 1) (λ (x : R). eqb (tn x) n) rs) ≡ None → (first_from (k + 1) (λ (x : R). eqb (tn x) n) rs ≡ None → found tn n rs ≡ None) → cond (eqb (tn r) n) (Some r) (found tn n rs) ≡ None
      go true h f ih = never_some (sym f)
      go false h f ih = rw h (ih f)

  -- where no place was found, nothing is removed or replaced
  untouched : (k : ℕ) (rs : List R) → first_from k (λ (x : R). eqb (tn x) n) rs ≡ None → (without tn n rs ≡ rs) × ((s : R) → tn s ≡ n → replaced tn s rs ≡ rs)
  untouched k [] e = (refl, λ s q. refl)
  untouched k (r ∷ rs) e = go (eqb (tn r) n) refl e (untouched (k + 1) rs)
    where
      go : (b : Bool) → eqb (tn r) n ≡ b → cond b (Some k) (first_from (k + 1) (λ (x : R). eqb (tn x) n) rs) ≡ None → (first_from (k + 1) (λ (x : R). eqb (tn x) n) rs ≡ None → (without tn n rs ≡ rs) × ((s : R) → tn s ≡ n → replaced tn s rs ≡ rs)) → (without tn n (r ∷ rs) ≡ r ∷ rs) × ((s : R) → tn s ≡ n → replaced tn s (r ∷ rs) ≡ r ∷ rs)
      go true h f ih = never_some (sym f)
      go false h f ih = let p = ih f in (rw h (ap (λ l. r ∷ l) p.0), λ s q. rw (ap (λ m. eqb (tn r) m) q ∙ h) (ap (λ l. r ∷ l) (p.1 s q)))

  -- what `remove` and `update` leave, by what their search of the same records found
  module _ (seen rs : List R) (same : seen ≡ rs) where
    found_by : (o : Option ℕ) → o ≡ first_where (λ (x : R). eqb (tn x) n) seen → first_where (λ (x : R). eqb (tn x) n) rs ≡ o
    found_by o e = sym (e ∙ ap (first_where (λ (x : R). eqb (tn x) n)) same)

    pub removed_at : (i : ℕ) → Some i ≡ first_where (λ (x : R). eqb (tn x) n) seen → remove rs i ≡ without tn n rs
    removed_at i e = sym (placed rs i (found_by (Some i) e)).removes

    pub removed_nowhere : None ≡ first_where (λ (x : R). eqb (tn x) n) seen → rs ≡ without tn n rs
    removed_nowhere e = sym (untouched 0 rs (found_by None e)).0

    module _ (s : R) (own : n ≡ tn s) where
      pub replaced_at : (i : ℕ) → Some i ≡ first_where (λ (x : R). eqb (tn x) n) seen → set rs i s ≡ replaced tn s rs
      replaced_at i e = sym ((placed rs i (found_by (Some i) e)).replaces s (sym own))

      pub replaced_nowhere : None ≡ first_where (λ (x : R). eqb (tn x) n) seen → rs ≡ replaced tn s rs
      replaced_nowhere e = sym ((untouched 0 rs (found_by None e)).1 s (sym own))
