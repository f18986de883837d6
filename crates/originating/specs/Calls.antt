-- What each call of the originating side comes to: its answer or denial, the side after it, and what it sends toward B.
-- A refusal denies the call and leaves everything; without one the call does what its rule says.
use Rattle.std.specs.Prelude.{◌≡◌, ℕ, List, [], length, Some, None, Ok, Err, Option, Result}
use Rattle.answers.specs.declared.answer.Answer.{Answer}
use Rattle.answers.specs.declared.denial.Denial.{Denial}
use Rattle.messages.specs.declared.values.Values.{Values}
use Rattle.waiting_line.specs.Gaps.{over}
use Rattle.waiting_line.specs.Lines.{memory, items, capacity}
use Rattle.channels.specs.Meaning.{Takes}
use Rattle.a_side.specs.declared.record.ARecord.{ARecord}
use Rattle.a_side.specs.Rules.{AModel, ADone, a_fresh, accept, activate_refusal, activating, withdraw_refusal, withdrawing, answer_refusal, answering, line_busy_refusal, line_busied, line_free_refusal, line_freeing, a_tick_refusal, a_ticked, a_expiry_refusal, a_expiring}
use Rattle.originating.specs.declared.side.ASide.{ASide}
use Rattle.originating.specs.declared.side.Fit.{Fit}
use Rattle.originating.specs.declared.side.Unfit.{Unfit}

-- the next number; where none is left, the one past the highest
abbrev pub number_of : Option ℕ → ℕ
number_of (Some n) = n
number_of None = 4294967296

-- what a side at work holds
abbrev pub fit_of : Fit → AModel
fit_of s = record { settings = s.settings; places = capacity s.records; next = number_of s.next; busy = s.busy; records = items s.records }

-- one that was made of what is out of range stays fresh
abbrev pub made_of : Result Fit Unfit → AModel
made_of (Ok s) = fit_of s
made_of (Err u) = a_fresh u.settings (length u.memory.now)

-- what the side holds
abbrev pub a_of : ASide → AModel
a_of s = made_of s.side

abbrev pub memory_in : Result Fit Unfit → List ARecord
memory_in (Ok s) = memory s.records
memory_in (Err u) = u.memory.now

-- the record places that were given to it
abbrev pub a_memory : ASide → List ARecord
a_memory s = memory_in s.side

-- a side that is at work
abbrev pub working : Fit → ASide
working s = record { side = Ok s }

-- what a call comes to
pub record AEnd : Type 0 where
  pub answer : Result Answer Denial
  pub side : AModel
  pub sent : List Values

abbrev pub a_call : AModel → Option Denial → ADone → AEnd
a_call s (Some denial) done = record { answer = Err denial; side = s; sent = [] }
a_call s None done = record { answer = Ok done.answer; side = done.side; sent = done.sent }

-- with a channel toward B of this capacity, in which these messages wait

abbrev pub activated : ℕ → ℕ → ℕ → AModel → ℕ → List Values → AEnd
activated user destination service s capacity waiting =
    a_call s (activate_refusal s capacity waiting user destination service) (accept s (activating s user destination service))

abbrev pub withdrawn : ℕ → ℕ → AModel → ℕ → List Values → AEnd
withdrawn user n s capacity waiting = a_call s (withdraw_refusal s capacity waiting user n) (accept s (withdrawing s n))

abbrev pub recall_answered : ℕ → ℕ → AModel → ℕ → List Values → AEnd
recall_answered user n s capacity waiting = a_call s (answer_refusal s capacity waiting user n) (accept s (answering s n))

abbrev pub line_freed : ℕ → AModel → ℕ → List Values → AEnd
line_freed user s capacity waiting = a_call s (line_free_refusal s capacity waiting user) (accept s (line_freeing s user))

abbrev pub expired : AModel → ℕ → List Values → AEnd
expired s capacity waiting = a_call s (a_expiry_refusal s capacity waiting) (accept s (a_expiring s))

-- these two send nothing, and are given no channel

abbrev pub line_taken : ℕ → AModel → AEnd
line_taken user s = a_call s (line_busy_refusal s user) (line_busied s user)

abbrev pub aged : AModel → AEnd
aged s = a_call s (a_tick_refusal s) (a_ticked s)

-- the side holds this after it; the record places past the last record are as they were
pub record Became (entry : ASide) (s : AModel) (exit : ASide) : Type 0 where
  pub side : a_of exit ≡ s
  pub memory : a_memory exit ≡ over (a_of exit).records (a_memory entry)

-- a call came to this: what it answered, and the side before and after it
pub record Came (end : AEnd) (answered : Result Answer Denial) (entry exit : ASide) : Type 0 where
  pub answer : answered ≡ end.answer
  pub became : Became entry end.side exit

-- and with the channel toward B before and after it, of which a channel tells these two: its capacity, and what waits in it
pub record CameSending {C : Type 0} (capacity_of : C → ℕ) (waiting_in : C → List Values) (call : AModel → ℕ → List Values → AEnd) (answered : Result Answer Denial) (entry : ASide) (before : C) (exit : ASide) (after : C) : Type 0 where
  pub came : Came (call (a_of entry) (capacity_of before) (waiting_in before)) answered entry exit
  pub took : Takes capacity_of waiting_in before (call (a_of entry) (capacity_of before) (waiting_in before)).sent after
