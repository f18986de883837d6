-- What a put and a taking on both channels come to, what they leave, and what they count.
use Rattle.std.specs.Prelude.{◌≡◌, ◌+◌, ◌-◌, ◌^◌, min, List, ℕ, ⊤, Result, Ok, Err, length}
use Rattle.answers.specs.declared.denial.Denial.{Denial}
use Rattle.messages.specs.declared.values.Values.{Values}
use Rattle.messages.specs.declared.wire.unread.Unread.{Unread}
use Rattle.waiting_line.specs.Lines.{put_answer, put_left}
use Rattle.channels.specs.declared.backplane.Backplane.{Backplane}
use Rattle.channels.specs.declared.wire.Wire.{Wire}
use Rattle.channels.specs.Meaning.{first, taken, rest}
use Rattle.channels.specs.Backplanes.{back_capacity, back_waiting}
use Rattle.channels.specs.Wires.{wire_capacity, wire_waiting}
use Rattle.cabinets.specs.declared.came.Came.{Came}
use Rattle.cabinets.specs.declared.tally.Tally.{Tally}

-- what a call with this answer came to, where so many wait then in a channel of this capacity
abbrev pub came_by : Result ⊤ Denial → ℕ → ℕ → Came
came_by answer waiting capacity = record { answer = answer; waiting = waiting; free = capacity - waiting }

-- the same on a backplane and on a wire as they stand
abbrev pub back_came : Result ⊤ Denial → Backplane → Came
back_came answer backplane = came_by answer (length (back_waiting backplane)) (back_capacity backplane)

abbrev pub wire_came : Result ⊤ Denial → Wire → Came
wire_came answer wire = came_by answer (length (wire_waiting wire)) (wire_capacity wire)

-- what a put of these values came to, into a channel of this capacity where these messages wait
abbrev pub put_came : ℕ → List Values → Values → Came
put_came capacity waiting v = came_by (put_answer capacity waiting) (length (put_left capacity waiting v)) capacity

-- an answer without the message that it hands out
abbrev pub answer_alone : Result Values Denial → Result ⊤ Denial
answer_alone (Ok v) = Ok tt
answer_alone (Err denial) = Err denial

-- what a taking came to, from a channel of this capacity where these messages wait
abbrev pub take_came : ℕ → List Values → Came
take_came capacity waiting = came_by (answer_alone (taken waiting)) (length (rest waiting)) capacity

-- two things are compared: the differences are as many as before if they are the same, and else one more, up to the largest
-- number, 2 ^ 64 - 1
pub record Compared {T : Type 0} (one other : T) (old new : ℕ) : Type 0 where
  pub alike : one ≡ other → new ≡ old
  pub otherwise : (one ≡ other → ⊥) → new ≡ min (old + 1) (2 ^ 64 - 1)

-- a call on both channels is counted: one call more, up to the same number, and what both came to is compared
pub record Counted (one other : Came) (old new : Tally) : Type 0 where
  pub calls : new.calls ≡ min (old.calls + 1) (2 ^ 64 - 1)
  pub differences : Compared one other old.differences new.differences

-- what waits in a channel of this capacity once a line that reads so has been put on it: a line that is no message leaves all as it was
abbrev pub line_put : Result Values Unread → ℕ → List Values → List Values
line_put (Ok v) capacity waiting = put_left capacity waiting v
line_put (Err u) capacity waiting = waiting

-- how the tally changes where a line that reads so is put on both channels: a message is a call, and a line that is none counts nothing
abbrev pub PutCounted : Result Values Unread → Backplane → Wire → Tally → Tally → Type 0
PutCounted (Ok v) backplane wire old new =
    Counted (put_came (back_capacity backplane) (back_waiting backplane) v) (put_came (wire_capacity wire) (wire_waiting wire) v) old new
PutCounted (Err u) backplane wire old new = new ≡ old

-- how the tally changes where both channels are taken from: what they show before is compared, which gives the differences after
-- the looks, and then the taking is a call
pub record TakingCounted (backplane : Backplane) (wire : Wire) (old new : Tally) : Type 0 where
  pub after_looks : ℕ
  pub looks : Compared (first (back_waiting backplane)) (first (wire_waiting wire)) old.differences after_looks
  pub takings : Counted (take_came (back_capacity backplane) (back_waiting backplane)) (take_came (wire_capacity wire) (wire_waiting wire)) (record { calls = old.calls; differences = after_looks }) new
