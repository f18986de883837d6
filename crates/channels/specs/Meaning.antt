-- What a channel means: a capacity, and the list of the messages that wait, oldest first; what each call answers and leaves.
-- A message is told by its seven values, since two messages of the same values are the same.
use Rattle.std.specs.Prelude.{◌≡◌, ℕ, ◌-◌, min, cond, List, [], ◌∷◌, length, drop, fold, Some, None, Option, Result}
use Rattle.std.specs.Option.{ok_or, option_map}
use Rattle.answers.specs.declared.denial.Denial.{Denial}
use Rattle.answers.specs.declared.denial.Denial.TheVariants.{NoneThere}
use Rattle.messages.specs.declared.message.Message.{Message}
use Rattle.messages.specs.declared.values.Values.{Values}
use Rattle.messages.specs.Lawful.{is_lawful}
use Rattle.waiting_line.specs.Lines.{put_left}

abbrev pub first : {T : Type 0} → List T → Option T
first [] = None
first (m ∷ ms) = Some m

-- all but the first
abbrev pub rest : {T : Type 0} → List T → List T
rest ms = drop 1 ms

-- the first, or the denial 10
abbrev pub taken : List Values → Result Values Denial
taken ms = ok_or (first ms) NoneThere

-- m at the end, if it is lawful and a place is free
abbrev pub posted : ℕ → List Values → Values → List Values
posted capacity ms m = cond (is_lawful m) (put_left capacity ms m) ms

-- each in turn
abbrev pub posts : ℕ → List Values → List Values → List Values
posts capacity = fold (posted capacity)

-- these messages wait in a channel then; its capacity stays
pub record Leaves {C : Type 0} (capacity_of : C → ℕ) (waiting_in : C → List Values) (before : C) (messages : List Values) (after : C) : Type 0 where
  pub waiting : waiting_in after ≡ messages
  pub capacity : capacity_of after ≡ capacity_of before

-- a channel takes these messages, in order, while places are free; its capacity stays
abbrev pub Takes : {C : Type 0} → (C → ℕ) → (C → List Values) → C → List Values → C → Type 0
Takes capacity waiting before sent after = Leaves capacity waiting before (posts (capacity before) (waiting before) sent) after

-- how many of the messages ms go into a channel of this capacity beside those that it holds
abbrev pub carried : List Values → ℕ → List Values → ℕ
carried ms capacity held = min (length ms) (capacity - length held)

-- helper: what a message that may be there says
abbrev pub seen : Option Message → Option Values
seen = option_map (λ (m : Message). m.values)
