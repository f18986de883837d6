-- A pass over the lines that changes each by its place.
use Rattle.std.proofs.Common.{◌≡◌, ℕ, suc, ◌+◌, ◌-◌, ◌<◌, ◌≤◌, Bool, false, cond, List, [], ◌∷◌, length, get_or, refl, ap, ◌∙◌, arith}
use Rattle.b_side.specs.declared.record.BRecord.{BRecord}
use Rattle.b_side.specs.declared.line.LineFacts.{LineFacts}
use Rattle.b_side.specs.Rules.{idle, with_guard, guarded, watched_line, watched_from, aged_from}
use Rattle.destination.specs.Guards.{runs_at, Told}

-- the first i lines are as f makes them, and the rest is as it was
pub record Along (f : ℕ → LineFacts → LineFacts) (was now' : List LineFacts) (i : ℕ) : Type 0 where
  pub before : (k : ℕ) → k < i → get_or now' k idle ≡ f k (get_or was k idle)
  pub after : (k : ℕ) → i ≤ k → get_or now' k idle ≡ get_or was k idle

-- a tick
abbrev pub aged_by : List Bool → ℕ → LineFacts → LineFacts
aged_by runs b l = with_guard (l.guard - cond (get_or runs b false) 1 0) l

-- lines that are so at each place are all so
aged_each : (rs : List BRecord) (k : ℕ) (ls now' : List LineFacts) → length now' ≡ length ls → ((j n : ℕ) → j < length ls → n ≡ k + j → get_or now' j idle ≡ with_guard ((get_or ls j idle).guard - cond (guarded rs n (get_or ls j idle)) 1 0) (get_or ls j idle)) → now' ≡ aged_from k rs ls
aged_each rs k [] [] long each = refl
aged_each rs k [] (y ∷ ys) long each = absurd (omega arith)
aged_each rs k (l ∷ ls) [] long each = absurd (omega arith)
aged_each rs k (l ∷ ls) (y ∷ ys) long each =
    let first = each 0 k (omega arith) (omega arith) in
    let more = aged_each rs (k + 1) ls ys (omega arith) (λ j n h e. each (suc j) n (omega arith) (omega arith)) in
    λ i. first i ∷ more i

pub aged_told : (rs : List BRecord) (ls now' : List LineFacts) (runs : List Bool) (b : ℕ) → length now' ≡ length ls → length ls ≤ b → Along (aged_by runs) ls now' b → Told rs ls runs → now' ≡ aged_from 0 rs ls
aged_told rs ls now' runs b long end so told =
    aged_each rs 0 ls now' long
    (λ j n h e.
    let here : j ≡ n = omega arith in
    so.before j (omega arith)
    ∙ ap (λ r. with_guard ((get_or ls j idle).guard - cond r 1 0) (get_or ls j idle)) (told j h ∙ ap (λ m. guarded rs m (get_or ls j idle)) here))

-- the guard rule
abbrev pub watched_by : ℕ → List Bool → List Bool → ℕ → LineFacts → LineFacts
watched_by t8 ran runs b l = watched_line t8 (get_or ran b false) (get_or runs b false) l

module _ (t8 : ℕ) (rs : List BRecord) (was : List LineFacts) (rs' : List BRecord) where
  watched_each : (k : ℕ) (ls now' : List LineFacts) → length now' ≡ length ls → ((j n : ℕ) → j < length ls → n ≡ k + j → get_or now' j idle ≡ watched_line t8 (runs_at rs was n) (guarded rs' n (get_or ls j idle)) (get_or ls j idle)) → now' ≡ watched_from t8 k rs was rs' ls
  watched_each k [] [] long each = refl
  watched_each k [] (y ∷ ys) long each = absurd (omega arith)
  watched_each k (l ∷ ls) [] long each = absurd (omega arith)
  watched_each k (l ∷ ls) (y ∷ ys) long each =
      let first = each 0 k (omega arith) (omega arith) in
      let more = watched_each (k + 1) ls ys (omega arith) (λ j n h e. each (suc j) n (omega arith) (omega arith)) in
      λ i. first i ∷ more i

  pub watched_told : (ls now' : List LineFacts) (ran runs : List Bool) (b : ℕ) → length now' ≡ length ls → length ls ≤ b → Along (watched_by t8 ran runs) ls now' b → length was ≡ length ls → Told rs was ran → Told rs' ls runs → now' ≡ watched_from t8 0 rs was rs' ls
  watched_told ls now' ran runs b long end so same told told' =
      watched_each 0 ls now' long
      (λ j n h e.
      let here : j ≡ n = omega arith in
      let l = get_or ls j idle in
      so.before j (omega arith) ∙ ap (λ x. watched_line t8 x (get_or runs j false) l) (told j (omega arith) ∙ ap (runs_at rs was) here)
      ∙ ap (λ x. watched_line t8 (runs_at rs was n) x l) (told' j h ∙ ap (λ m. guarded rs' m l) here))
