-- What a token shows of its line: the bytes that it fills, the byte at which it begins, and the value of a number.
-- `Seen` is a token apart from where its bytes lie in memory, so that two tokens can be compared.
use Rattle.std.specs.Prelude.{ℕ, List, slice_index}
use Rattle.lines.specs.declared.token.Token.{Token}
use Rattle.lines.specs.declared.token.Token.TheVariants.{Word, Number}

pub data Seen : Type 0 where
  word : List ℕ → ℕ → Seen
  number : List ℕ → ℕ → ℕ → Seen

abbrev pub seen : Token → Seen
seen (Word text at) = word text.now at
seen (Number digits value at) = number digits.now value at

abbrev pub place_in : Seen → ℕ
place_in (word text at) = at
place_in (number digits value at) = at

abbrev pub part_in : Seen → List ℕ
part_in (word text at) = text
part_in (number digits value at) = digits

abbrev pub value_in : Seen → ℕ
value_in (word text at) = 0
value_in (number digits value at) = value

abbrev pub first_in : Seen → ℕ
first_in token = slice_index (part_in token) 0
