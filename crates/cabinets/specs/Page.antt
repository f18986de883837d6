-- What the page tells of a call on a channel, of a put and a taking on both, and of all of them.
use Rattle.std.specs.Prelude.{List, ℕ, ⊤, Option, Some, None, Result, Ok, Err, ◌++◌, codes, decimal}
use Rattle.answers.specs.declared.denial.Denial.{Denial}
use Rattle.answers.specs.Numbers.{denial_number}
use Rattle.messages.specs.declared.values.Values.{Values}
use Rattle.messages.specs.declared.wire.unread.Unread.{Unread}
use Rattle.messages.specs.Wire.{line_of, unread_denial}
use Rattle.channels.specs.declared.backplane.Backplane.{Backplane}
use Rattle.channels.specs.declared.wire.Wire.{Wire}
use Rattle.channels.specs.Meaning.{first}
use Rattle.channels.specs.Backplanes.{back_capacity, back_waiting}
use Rattle.channels.specs.Wires.{wire_capacity, wire_waiting}
use Rattle.cabinets.specs.declared.came.Came.{Came}
use Rattle.cabinets.specs.Calls.{put_came, take_came}

abbrev pub answer_text : Result ⊤ Denial → List ℕ
answer_text (Ok done) = codes "done"
answer_text (Err denial) = codes "denied with " ++ decimal (denial_number denial)

abbrev pub came_text : Result ⊤ Denial → ℕ → ℕ → List ℕ
came_text answer waiting free =
    answer_text answer ++ (codes ", " ++ (decimal waiting ++ (codes " waiting, " ++ (decimal free ++ codes " free"))))

abbrev pub tally_text : ℕ → ℕ → List ℕ
tally_text calls differences =
    decimal calls ++ (codes " calls on both cabinets, " ++ (decimal differences ++ codes " answered otherwise"))

-- a line of the page: the name of a channel, and what a call on it came to
abbrev pub came_line : List ℕ → Came → List ℕ
came_line name came = name ++ (came_text came.answer came.waiting came.free ++ codes "\n")

-- a page once it tells what a call on both came to
abbrev pub both_told : List ℕ → Came → Came → List ℕ
both_told page backplane wire = (page ++ came_line (codes "  backplane: ") backplane) ++ came_line (codes "  wire:      ") wire

-- a page once a line that reads so has been put on both: the line, and what the puts came to, or the denial of a line that is no message
abbrev pub put_told : List ℕ → List ℕ → Result Values Unread → Backplane → Wire → List ℕ
put_told page line (Ok v) backplane wire =
    both_told ((page ++ codes "put ") ++ line) (put_came (back_capacity backplane) (back_waiting backplane) v) (put_came (wire_capacity wire) (wire_waiting wire) v)
put_told page line (Err u) backplane wire =
    ((page ++ codes "put ") ++ line) ++ (codes "  no message: denied with " ++ (decimal (denial_number (unread_denial u)) ++ codes "\n"))

-- a message as its line, and no message as the line "nothing"
abbrev pub shown : Option Values → List ℕ
shown (Some v) = line_of v
shown None = codes "nothing\n"

-- a page once both were taken from: the message that was first on the wire, and what the takings came to
abbrev pub taking_told : List ℕ → Backplane → Wire → List ℕ
taking_told page backplane wire =
    both_told ((page ++ codes "take ") ++ shown (first (wire_waiting wire))) (take_came (back_capacity backplane) (back_waiting backplane)) (take_came (wire_capacity wire) (wire_waiting wire))
