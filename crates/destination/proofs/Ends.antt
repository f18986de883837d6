-- How a call ends: denied with all as it was, or accepted, the guards last.
use Rattle.std.proofs.Common.{◌≡◌, ℕ, Bool, List, None, Ok, Option, sym, ap, ◌∙◌, subst}
use Rattle.answers.specs.declared.answer.Answer.{Answer}
use Rattle.answers.specs.declared.denial.Denial.{Denial}
use Rattle.waiting_line.specs.Gaps.{over}
use Rattle.waiting_line.specs.Lines.{memory}
use Rattle.messages.specs.declared.values.Values.{Values}
use Rattle.channels.specs.Meaning.{Takes}
use Rattle.b_side.specs.declared.line.LineFacts.{LineFacts}
use Rattle.b_side.specs.Rules.{BModel, BEffect, BDone, with_tables, accept}
use Rattle.destination.specs.declared.side.BSide.{BSide}
use Rattle.destination.specs.declared.side.Fit.{Fit}
use Rattle.destination.specs.Guards.{Told}
use Rattle.destination.specs.Sides.{made_of, b_of, fit_of, Held}
use Rattle.destination.specs.Calls.{BEnd, b_call, Came, Did, Lined, Acted, settled}
use Rattle.destination.proofs.Changes.{kept_same}

-- a side at work
abbrev pub working : Fit → BSide
working s = record { side = Ok s }

-- a call that is not denied
pub granted : (before : BSide) (s after : Fit) (refusal : BModel → Option Denial) (done : BModel → BDone) (a : Answer) → before.side ≡ Ok s → None ≡ refusal (fit_of s) → Did (done (fit_of s)) a s after → Came (b_call (b_of before) (refusal (b_of before)) (done (b_of before))) (Ok a) before (working after)
granted before s after refusal done a is e did =
    let end = ap (λ o. b_call (fit_of s) o (done (fit_of s))) e in
    let came : Came (b_call (fit_of s) (refusal (fit_of s)) (done (fit_of s))) (Ok a) (working s) (working after) =
    record {
      answer = ap (λ x. Ok x) did.answer ∙ ap (λ (b : BEnd). b.answer) end;
      side = did.side ∙ ap (λ (b : BEnd). b.side) end;
      memory = did.memory;
    } in
    subst (λ (x : BSide). Came (b_call (b_of x) (refusal (b_of x)) (done (b_of x))) (Ok a) x (working after)) (λ i. record { side = sym is i }) came

-- a change of the lines after a change of the records
pub kept_then : (s mid after : Fit) (lines : List LineFacts) → Held s mid → Lined lines mid after → Held s after
kept_then s mid after lines k l =
    let alike : (fit_of after).records ≡ (fit_of mid).records = ap (λ (b : BModel). b.records) l.side in
    l.memory ∙ ap (λ rs. over rs (memory mid.records)) alike ∙ sym (kept_same mid) ∙ k ∙ ap (λ rs. over rs (memory s.records)) (sym alike)

-- the guards last
module _ (s mid after : Fit) (ran : List Bool) (e : BEffect) (a : Answer) (acted : Acted e a s mid) (told : Told (fit_of s).records (fit_of s).lines ran) (last : (was : Fit) → was.settings ≡ mid.settings → Told (fit_of was).records (fit_of was).lines ran → Lined (settled (fit_of was) (fit_of mid)) mid after) where
  lined : Lined (settled (fit_of s) (fit_of mid)) mid after
  lined = last s (sym (ap (λ (b : BModel). b.settings) acted.side)) told

  pub did_accepted : Did (accept (fit_of s) e) a s after
  did_accepted = record {
    answer = acted.answer;
    side = lined.side ∙ ap (λ m. with_tables m (settled (fit_of s) m) m.records) acted.side;
    memory = kept_then s mid after (settled (fit_of s) (fit_of mid)) acted.memory lined;
  }

-- a step in other words
pub acted_as : (s mid : Fit) (e e' : BEffect) (a : Answer) → e ≡ e' → Acted e a s mid → Acted e' a s mid
acted_as s mid e e' a alike acted = subst (λ x. Acted x a s mid) alike acted

-- what was sent in a call that is not denied
pub granted_sent : (before : BSide) (s : Fit) (refusal : BModel → Option Denial) (done : BModel → BDone) → before.side ≡ Ok s → None ≡ refusal (fit_of s) → (done (fit_of s)).sent ≡ (b_call (b_of before) (refusal (b_of before)) (done (b_of before))).sent
granted_sent before s refusal done is e =
    ap (λ o. (b_call (fit_of s) o (done (fit_of s))).sent) e
    ∙ ap (λ m. (b_call (made_of m) (refusal (made_of m)) (done (made_of m))).sent) (sym is)

-- the same messages in other words
pub took_as : {C : Type 0} {capacity_of : C → ℕ} {waiting_in : C → List Values} {before after : C} {sent sent' : List Values} → sent ≡ sent' → Takes capacity_of waiting_in before sent after → Takes capacity_of waiting_in before sent' after
took_as {C} {capacity_of} {waiting_in} {before} {after} alike took = let P : List Values → Type 0 = λ l. Takes capacity_of waiting_in before l after in subst P alike took
