-- How a wire line is read, field by field from the left, so that the leftmost fault decides: its seven values and the
-- part of the line that each fills, or the key, the cause and the byte of the fault.
use Rattle.std.specs.Prelude.{ℕ, cond, List, Ok, Err, Result}
use Rattle.lines.specs.Faults.{LineFault, text_fault}
use Rattle.lines.specs.Readings.{text_at, letter_at, field_at, end_at}
use Rattle.lines.specs.Results.{and_then, on_err}
use Rattle.lines.specs.Tokens.{Seen, seen, place_in, value_in, first_in}
use Rattle.messages.specs.declared.kind.Kind.{Kind}
use Rattle.messages.specs.declared.values.Values.{Values}
use Rattle.messages.specs.declared.wire.key.Key.{Key}
use Rattle.messages.specs.declared.wire.key.Key.TheVariants.{Kind as KindKey, Tn, A, B, Sv, Rt, Cs}
use Rattle.messages.specs.declared.wire.parts.Parts.{Parts}
use Rattle.messages.specs.declared.wire.unread.Unread.{Unread}
use Rattle.messages.specs.declared.wire.unread.Unread.TheVariants.{NotLawful, NotALine}
use Rattle.messages.specs.Kinds.{kind_or_letter}
use Rattle.messages.specs.Lawful.{is_lawful}
use Rattle.messages.specs.Wire.{key_text, key_most}

-- the values of a line, and what its parts show of it
pub record Shown : Type 0 where
  pub values : Values
  pub kind : Seen
  pub tn : Seen
  pub user : Seen
  pub destination : Seen
  pub service : Seen
  pub retention : Seen
  pub cause : Seen

-- a letter that is no kind's is at fault itself
unfoldable pub kind_at : Seen → Result Kind (LineFault Key)
kind_at letter = on_err (λ _. text_fault KindKey (place_in letter)) (kind_or_letter (first_in letter))

abbrev pub field_of : Key → ℕ → List ℕ → Result (Seen × ℕ) (LineFault Key)
field_of key at line = field_at key (key_text key) (key_most key) at line

abbrev pub parts_of : List ℕ → Result Shown (LineFault Key)
parts_of line =
    and_then (text_at KindKey (key_text KindKey) 0 line) (λ at.
    and_then (letter_at KindKey at line) (λ letter.
    and_then (kind_at letter.0) (λ kind.
    and_then (field_of Tn letter.1 line) (λ tn.
    and_then (field_of A tn.1 line) (λ user.
    and_then (field_of B user.1 line) (λ destination.
    and_then (field_of Sv destination.1 line) (λ service.
    and_then (field_of Rt service.1 line) (λ retention.
    and_then (field_of Cs retention.1 line) (λ cause.
    and_then (end_at Cs cause.1 line) (λ _.
    Ok (record {
      values = record {
        kind = kind;
        tn = value_in tn.0;
        user = value_in user.0;
        destination = value_in destination.0;
        service = value_in service.0;
        retention = value_in retention.0;
        cause = value_in cause.0;
      };
      kind = letter.0;
      tn = tn.0;
      user = user.0;
      destination = destination.0;
      service = service.0;
      retention = retention.0;
      cause = cause.0;
    })))))))))))

-- bytes that are no line are denied with 15, a line whose values are not lawful with 14
abbrev pub reading_of : List ℕ → Result Values Unread
reading_of line = and_then (on_err NotALine (parts_of line)) (λ shown. cond (is_lawful shown.values) (Ok shown.values) (Err NotLawful))

-- helper: a line's parts apart from where their bytes lie in memory
abbrev pub parts_seen : Parts → Shown
parts_seen p = record {
  values = p.values;
  kind = seen p.kind;
  tn = seen p.tn;
  user = seen p.user;
  destination = seen p.destination;
  service = seen p.service;
  retention = seen p.retention;
  cause = seen p.cause;
}
