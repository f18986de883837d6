-- What a call that may send comes to: its answer or denial, what it leaves of its side, and what waits in the channel then.
-- A refusal denies the call and leaves everything; else each message is put, if it is lawful and a place is free.
use Rattle.std.specs.Prelude.{ℕ, List, Some, None, Ok, Err, Option, Result}
use Rattle.answers.specs.declared.answer.Answer.{Answer}
use Rattle.answers.specs.declared.denial.Denial.{Denial}
use Rattle.messages.specs.declared.values.Values.{Values}
use Rattle.channels.specs.Meaning.{posts}

pub record End (Side : Type 0) : Type 0 where
  pub answer : Result Answer Denial
  pub side : Side
  pub waiting : List Values

-- of a side before the call and after it, with a channel of this capacity in which these messages wait, and what the call answers and sends
abbrev pub ends : {Side : Type 0} → Side → ℕ → List Values → Option Denial → Answer → Side → List Values → End Side
ends before capacity waiting (Some denial) answer after sent = record { answer = Err denial; side = before; waiting = waiting }
ends before capacity waiting None answer after sent = record { answer = Ok answer; side = after; waiting = posts capacity waiting sent }
