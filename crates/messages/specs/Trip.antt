-- What reading and writing a wire line mean together: each lawful message has exactly one line, which reads as that
-- message, and whatever reads as a message is that message's line, byte for byte.
use Rattle.std.specs.Prelude.{◌≡◌, ℕ, ◌≤◌, true, List, length, Ok}
use Rattle.messages.specs.declared.values.Values.{Values}
use Rattle.messages.specs.Lawful.{is_lawful}
use Rattle.messages.specs.Wire.{line_of}
use Rattle.messages.specs.Parts.{reading_of}

pub record RoundTrip : Type 0 where
  -- a lawful message's line is at most 46 bytes long
  pub short : (v : Values) → is_lawful v ≡ true → length (line_of v) ≤ 46
  -- it reads as that message
  pub back : (v : Values) → is_lawful v ≡ true → reading_of (line_of v) ≡ Ok v
  -- what reads as a message is lawful, and its line is what was read
  pub only : (line : List ℕ) (v : Values) → reading_of line ≡ Ok v → (line ≡ line_of v) × (is_lawful v ≡ true)
  -- no two lawful messages have the same line
  pub apart : (v w : Values) → is_lawful v ≡ true → is_lawful w ≡ true → line_of v ≡ line_of w → v ≡ w
