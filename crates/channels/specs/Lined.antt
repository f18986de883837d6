-- Messages as bytes: their lines one after another, and the messages that the first lines of some bytes say.
-- A line goes up to and with its byte 10; one that says no lawful message counts for nothing.
use Rattle.std.specs.Prelude.{◌≡◌, ℕ, zero, suc, true, cond, List, [], ◌∷◌, ◌++◌, length, drop, Ok, Err, Result, ◌==◌, refl}
use Rattle.std.specs.List.{flat_map, AllByRecursion}
use Rattle.std.proofs.ByRecursion.{All-append}
use Rattle.messages.specs.declared.values.Values.{Values}
use Rattle.messages.specs.declared.wire.unread.Unread.{Unread}
use Rattle.messages.specs.Lawful.{is_lawful}
use Rattle.messages.specs.Wire.{line_of}
use Rattle.messages.specs.Parts.{reading_of}
use Rattle.messages.proofs.Trip.{trip}

-- the lines of the messages, one after another
abbrev pub lines_of : List Values → List ℕ
lines_of ms = flat_map line_of ms

-- the bytes up to and with the first byte 10; all of them where there is none
abbrev pub first_line : List ℕ → List ℕ
first_line [] = []
first_line (b ∷ bs) = b ∷ cond (b == 10) [] (first_line bs)

-- the message that was read, if one was
abbrev pub read_only : Result Values Unread → List Values
read_only (Ok v) = v ∷ []
read_only (Err why) = []

unfoldable pub line_says : List ℕ → List Values
line_says line = read_only (reading_of line)

-- what the first n lines say
abbrev pub messages_in : ℕ → List ℕ → List Values
messages_in zero bs = []
messages_in (suc n) bs = line_says (first_line bs) ++ messages_in n (drop (length (first_line bs)) bs)

-- helpers: what is read is lawful
read_lawful : (line : List ℕ) (r : Result Values Unread) → reading_of line ≡ r → AllByRecursion (λ v. is_lawful v ≡ true) (read_only r)
read_lawful line (Ok v) e = ((trip.only line v e).1, tt)
read_lawful line (Err why) e = tt

line_lawful : (line : List ℕ) → AllByRecursion (λ v. is_lawful v ≡ true) (line_says line)
unfolding line_says
line_lawful line = read_lawful line (reading_of line) refl

pub messages_lawful : (n : ℕ) (bs : List ℕ) → AllByRecursion (λ v. is_lawful v ≡ true) (messages_in n bs)
messages_lawful zero bs = tt
messages_lawful (suc n) bs = All-append (λ v. is_lawful v ≡ true) (line_says (first_line bs)) (messages_in n _) (line_lawful (first_line bs)) (messages_lawful n _)
