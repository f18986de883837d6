-- A log as far as it has been read: what is held of the line that is being read, how many lines were messages and how many
-- were none, and the line of the report for each; then what is reported of the bytes of a piece of it, and at its end.
use Rattle.std.specs.Prelude.{ℕ, ◌+◌, ◌-◌, ◌^◌, ◌==◌, nat_lt, min, cond, List, [], ◌∷◌, ◌++◌, length, fold, Ok, Err, Result, codes, decimal}
use Rattle.drafts.specs.Drafts.{written, added, added_all}
use Rattle.messages.specs.declared.values.Values.{Values}
use Rattle.messages.specs.declared.wire.unread.Unread.{Unread}
use Rattle.messages.specs.Parts.{reading_of}
use Rattle.wirecheck.specs.declared.log.Log.{Log}
use Rattle.wirecheck.specs.Reports.{report}

pub record Progress : Type 0 where
  pub held : List ℕ
  pub messages : ℕ
  pub refused : ℕ

abbrev pub progress : Log → Progress
progress log = record { held = written log.held; messages = log.messages; refused = log.refused }

abbrev pub nothing_read : Progress
nothing_read = record { held = []; messages = 0; refused = 0 }

-- a count stops at the largest number
abbrev pub total : ℕ → ℕ → ℕ
total m n = min (m + n) (2 ^ 64 - 1)

-- a line is counted by what was read of it
abbrev pub counted : Progress → Result Values Unread → Progress
counted p (Ok v) = record { held = []; messages = total p.messages 1; refused = p.refused }
counted p (Err u) = record { held = []; messages = p.messages; refused = total p.refused 1 }

-- the line that is held has ended
abbrev pub ended : Progress → Progress
ended p = counted p (reading_of p.held)

-- its line of the report
abbrev pub told : Progress → List ℕ
told p = added_all 160 [] (report (total (ended p).messages (ended p).refused) (reading_of p.held))

-- one more byte of the line; the first 64 are held
abbrev pub held_with : Progress → ℕ → Progress
held_with p byte = record { held = added 64 p.held (byte ∷ []); messages = p.messages; refused = p.refused }

-- the count at the end of the report
abbrev pub count_text : Progress → List ℕ
count_text p = decimal p.messages ++ (codes " messages, " ++ (decimal p.refused ++ codes " refused"))

-- a log that is being read, and what has been reported of it
pub record Reading : Type 0 where
  pub log : Progress
  pub out : List ℕ

-- the line that is held has ended, and is reported
abbrev pub line_told : Reading → Reading
line_told r = record { log = ended r.log; out = r.out ++ told r.log }

-- one more byte; at a line end, which is the byte 10, the line is reported
abbrev pub byte_read : Reading → ℕ → Reading
byte_read r byte = cond (byte == 10) (line_told (record { log = held_with r.log byte; out = r.out })) (record { log = held_with r.log byte; out = r.out })

-- the bytes of a piece, one after another
abbrev pub piece_read : Progress → List ℕ → Reading
piece_read p = fold byte_read (record { log = p; out = [] })

-- the end of the log: a last line that no line end closes is reported too, and then the count stands in a line of its own
abbrev pub end_told : Progress → List ℕ
end_told p = cond (nat_lt 0 (length p.held)) (told p ++ (count_text (ended p) ++ codes "\n")) (count_text p ++ codes "\n")
