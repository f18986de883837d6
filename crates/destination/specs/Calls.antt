-- What each call of the destination side comes to: by the rules it is denied and leaves all as it was, or it is accepted.
-- Each call's promise is one of these.
use Rattle.std.specs.Prelude.{◌≡◌, ℕ, Bool, List, [], Some, None, Ok, Err, Option, Result}
use Rattle.answers.specs.declared.answer.Answer.{Answer}
use Rattle.answers.specs.declared.denial.Denial.{Denial}
use Rattle.tables.specs.Tables.{Change, changed}
use Rattle.messages.specs.declared.values.Values.{Values}
use Rattle.channels.specs.Meaning.{Takes}
use Rattle.b_side.specs.declared.record.BRecord.{BRecord}
use Rattle.b_side.specs.declared.line.LineFacts.{LineFacts}
use Rattle.b_side.specs.Rules.{BModel, BEffect, BDone, b_tn, with_tables, accept, watched_from, b_line_refusal, line_becomes, forwarding_refusal, forwarded, b_tick_refusal, b_ticked, b_expiry_refusal, b_expiring}
use Rattle.destination.specs.declared.side.BSide.{BSide}
use Rattle.destination.specs.declared.side.Fit.{Fit}
use Rattle.destination.specs.Sides.{b_of, fit_of, Kept, Held}

-- what a call comes to
pub record BEnd : Type 0 where
  pub answer : Result Answer Denial
  pub side : BModel
  pub sent : List Values

-- a refused call leaves all as it was and sends nothing
abbrev pub b_call : BModel → Option Denial → BDone → BEnd
b_call s (Some denial) done = record { answer = Err denial; side = s; sent = [] }
b_call s None done = record { answer = Ok done.answer; side = done.side; sent = done.sent }

-- the line of destination b becomes busy or free
abbrev pub turned : BModel → ℕ → Bool → BEnd
turned s b busy = b_call s (b_line_refusal s b) (accept s (line_becomes s b busy))

abbrev pub forwarding_set : BModel → ℕ → ℕ → BEnd
forwarding_set s b forwarding = b_call s (forwarding_refusal s b forwarding) (forwarded s b forwarding)

abbrev pub ticked : BModel → BEnd
ticked s = b_call s (b_tick_refusal s) (b_ticked s)

-- with a channel toward A of this capacity, in which these messages wait
abbrev pub expired : BModel → ℕ → List Values → BEnd
expired s capacity waiting = b_call s (b_expiry_refusal s capacity waiting) (accept s (b_expiring s))

-- a call came to this: what it answered, the side after it, and the record memory past the last record as it was
pub record Came (end : BEnd) (answered : Result Answer Denial) (before after : BSide) : Type 0 where
  pub answer : answered ≡ end.answer
  pub side : b_of after ≡ end.side
  pub memory : Kept before after

-- and with the channel toward A before and after it, of which a channel tells these two: its capacity, and what waits in it
pub record CameSending {C : Type 0} (capacity_of : C → ℕ) (waiting_in : C → List Values) (call : BModel → ℕ → List Values → BEnd) (answered : Result Answer Denial) (entry : BSide) (before : C) (exit : BSide) (after : C) : Type 0 where
  pub came : Came (call (b_of entry) (capacity_of before) (waiting_in before)) answered entry exit
  pub took : Takes capacity_of waiting_in before (call (b_of entry) (capacity_of before) (waiting_in before)).sent after

-- an accepted call did this
pub record Did (done : BDone) (r : Answer) (before after : Fit) : Type 0 where
  pub answer : r ≡ done.answer
  pub side : fit_of after ≡ done.side
  pub memory : Held before after

-- and the channel toward A took what it sends
pub record DidSending {C : Type 0} (capacity_of : C → ℕ) (waiting_in : C → List Values) (done : BDone) (answered : Answer) (entry : Fit) (before : C) (exit : Fit) (after : C) : Type 0 where
  pub did : Did done answered entry exit
  pub took : Takes capacity_of waiting_in before done.sent after

-- Helpers: the parts of an accepted call

-- one change of the records
pub record Changed (change : Change BRecord) (before after : Fit) : Type 0 where
  pub side : fit_of after ≡ with_tables (fit_of before) (fit_of before).lines (changed b_tn change (fit_of before).records)
  pub memory : Held before after

-- other lines, and the rest as it was
pub record Lined (lines : List LineFacts) (before after : Fit) : Type 0 where
  pub side : fit_of after ≡ with_tables (fit_of before) lines (fit_of before).records
  pub memory : Held before after

-- the side before the guards follow their rule
abbrev pub effected : BModel → BEffect → BModel
effected s e = with_tables s e.lines (changed b_tn e.change s.records)

-- a step of a call had this effect
pub record Acted (e : BEffect) (r : Answer) (before after : Fit) : Type 0 where
  pub answer : r ≡ e.answer
  pub side : fit_of after ≡ effected (fit_of before) e
  pub memory : Held before after

-- and the channel toward A took what it sends
pub record ActedSending {C : Type 0} (capacity_of : C → ℕ) (waiting_in : C → List Values) (e : BEffect) (answered : Answer) (entry : Fit) (before : C) (exit : Fit) (after : C) : Type 0 where
  pub acted : Acted e answered entry exit
  pub took : Takes capacity_of waiting_in before e.sent after

-- the lines by the guard rule, from what they were before the call
abbrev pub settled : BModel → BModel → List LineFacts
settled was s = watched_from s.settings.t8 0 was.records was.lines s.records s.lines
