-- What is due first, by place as by first match.
use Rattle.std.proofs.Common.{◌≡◌, ℕ, ◌-◌, Bool, true, false, cond, not, ◌||◌, List, [], ◌∷◌, length, is_some, Some, None, Option, sym, refl, ap, ◌∙◌, arith}
use Rattle.std.specs.Prelude.{nat_lt, ◌==◌}
use Rattle.answers.specs.declared.denial.Denial.{Denial}
use Rattle.answers.specs.declared.denial.Denial.TheVariants.{OutOfRange, NoneDue, NoFreePlace, TimerDue}
use Rattle.answers.specs.Rows.{row, upper, sized}
use Rattle.answers.specs.declared.cause.Cause.TheVariants.{T7Over, T9Over}
use Rattle.messages.specs.Sent.{cancelling}
use Rattle.messages.specs.declared.values.Values.{Values}
use Rattle.tables.specs.Tables.{first_by}
use Rattle.tables.proofs.Tables.{never_some}
use Rattle.tables.proofs.Dues.{is_some_find}
use Rattle.b_side.specs.declared.record.BRecord.{BRecord}
use Rattle.b_side.specs.Rules.{BModel, b_tick_refusal, b_expiry_refusal, none_free, b_due, guard_over, is_over, any_due, b_expiring, b_expiring_at, recalling_first, recalling_one, queued_at, due7, finishes}
use Rattle.destination.specs.declared.due.Due.{Due}
use Rattle.destination.specs.declared.due.Due.TheVariants.{Record, Guard}
use Rattle.destination.specs.declared.side.Fit.{Fit}
use Rattle.destination.specs.Sides.{fit_of}
use Rattle.destination.specs.Dues.{due_among, due_of, expiring_by}

some_due : (o : Option BRecord) (over : Option ℕ) → is_some (due_among o over) ≡ (is_some o || is_over over)
some_due (Some r) over = refl
some_due None (Some b) = refl
some_due None None = refl

module _ (s : BModel) where
  pub due_any : is_some (due_of s) ≡ any_due s
  due_any = some_due (first_by b_due s.records) (guard_over 0 s.records s.lines) ∙ ap (λ b. b || is_over (guard_over 0 s.records s.lines)) (is_some_find b_due s.records)

  expiring : (o : Option BRecord) (over : Option ℕ) (due : Due) → guard_over 0 s.records s.lines ≡ over → Some due ≡ due_among o over → expiring_by s due ≡ b_expiring_at s o
  expiring (Some r) over due q e = let k : due ≡ Record r = cc in ap (expiring_by s) k
  expiring None (Some b) due q e = let k : due ≡ Guard b = cc in ap (expiring_by s) k ∙ ap (recalling_first s) (sym q)
  expiring None None due q e = never_some (sym e)

  pub expiring_due : (due : Due) → Some due ≡ due_of s → expiring_by s due ≡ b_expiring s
  expiring_due due e = expiring (first_by b_due s.records) (guard_over 0 s.records s.lines) due refl e

  -- an expiry leaves the lines to the guards
  pub due_lines : (due : Due) → (expiring_by s due).lines ≡ s.lines
  due_lines (Record r) = one (due7 r)
    where
      one : (b : Bool) → (cond b (finishes s r.tn T7Over (cancelling r.tn 3 ∷ [])) (finishes s r.tn T9Over (cancelling r.tn 4 ∷ []))).lines ≡ s.lines
      one true = refl
      one false = refl
  due_lines (Guard b) = all (first_by (queued_at b) s.records)
    where
      all : (o : Option BRecord) → (recalling_one s o).lines ≡ s.lines
      all (Some r) = refl
      all None = refl

-- fewer than one is none
none_of : (n : ℕ) → nat_lt n 1 ≡ (n == 0)
none_of n = grind arith

-- the denials of a side at work
module _ (s : Fit) where
  pub tick_rows : (due : Bool) → is_some (due_of (fit_of s)) ≡ due → upper (row false OutOfRange ∷ row due TimerDue ∷ []) ≡ b_tick_refusal (fit_of s)
  tick_rows due d = let e = sym (due_any (fit_of s)) ∙ d in sym (λ i. upper (row (not (s.in_range i)) OutOfRange ∷ row (e i) TimerDue ∷ []))

  -- by what each of its three rows came to
  pub expiry_rows : (capacity : ℕ) (waiting : List Values) (sizing dues room : Option Denial) → sizing ≡ row (not (sized capacity)) OutOfRange → dues ≡ row (not (is_some (due_of (fit_of s)))) NoneDue → room ≡ row (nat_lt (capacity - length waiting) 1) NoFreePlace → upper (sizing ∷ dues ∷ room ∷ []) ≡ b_expiry_refusal (fit_of s) capacity waiting
  expiry_rows capacity waiting sizing dues room z d r =
      let e = d ∙ ap (λ b. row (not b) NoneDue) (due_any (fit_of s)) in
      let f = r ∙ ap (λ b. row b NoFreePlace) (none_of (capacity - length waiting)) in
      (λ i. upper (z i ∷ e i ∷ f i ∷ []))
      ∙ sym (λ i. upper (row (not (s.in_range i) || not (sized capacity)) OutOfRange ∷ row (not (any_due (fit_of s))) NoneDue ∷ row (none_free capacity waiting) NoFreePlace ∷ []))
