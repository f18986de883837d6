-- The wire line: the one line of seven values, its keys in their order, and the denial of bytes that are no message.
-- A number is written in base ten with no zero in front; the line ends with the byte 10.
use Rattle.std.specs.Prelude.{ℕ, List, ◌∷◌, ◌++◌, codes, decimal}
use Rattle.answers.specs.declared.denial.Denial.{Denial}
use Rattle.answers.specs.declared.denial.Denial.TheVariants.{NotLawful as lawless, NotALine as no_line}
use Rattle.messages.specs.declared.values.Values.{Values}
use Rattle.messages.specs.declared.wire.key.Key.{Key}
use Rattle.messages.specs.declared.wire.key.Key.TheVariants.{Kind, Tn, A, B, Sv, Rt, Cs}
use Rattle.messages.specs.declared.wire.unread.Unread.{Unread}
use Rattle.messages.specs.declared.wire.unread.Unread.TheVariants.{NotLawful, NotALine}
use Rattle.messages.specs.Kinds.{letter_of}

abbrev pub line_of : Values → List ℕ
line_of v =
    codes "kind=" ++ (letter_of v.kind ∷ (codes " tn=" ++ (decimal v.tn
    ++ (codes " a=" ++ (decimal v.user ++ (codes " b=" ++ (decimal v.destination
    ++ (codes " sv=" ++ (decimal v.service ++ (codes " rt=" ++ (decimal v.retention
    ++ (codes " cs=" ++ (decimal v.cause ++ codes "\n")))))))))))))

abbrev pub key_text : Key → List ℕ
key_text Kind = codes "kind="
key_text Tn = codes " tn="
key_text A = codes " a="
key_text B = codes " b="
key_text Sv = codes " sv="
key_text Rt = codes " rt="
key_text Cs = codes " cs="

-- the largest number that a line can say under a key; the kind is a letter
abbrev pub key_most : Key → ℕ
key_most Kind = 0
key_most Tn = 4294967295
key_most A = 99
key_most B = 99
key_most Sv = 9
key_most Rt = 9
key_most Cs = 9

abbrev pub unread_denial : Unread → Denial
unread_denial NotLawful = lawless
unread_denial (NotALine fault) = no_line
