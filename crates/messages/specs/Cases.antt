-- Lines and what they come to: a message, a line that is no lawful message (14), or no line (15) with its key, its cause
-- and its byte. One list, one assertion, computed by the checker.
use Rattle.std.specs.Prelude.{◌≡◌, ℕ, List, [], ◌∷◌, ◌++◌, Ok, Err, codes, Result}
use Rattle.std.specs.List.{AllByRecursion}
use Rattle.lines.specs.declared.fault.Fault.{Fault}
use Rattle.lines.specs.declared.fault.Fault.TheVariants.{Text, Number, End}
use Rattle.lines.specs.declared.number.NumberCause.TheVariants.{NoNumber, Beyond}
use Rattle.messages.specs.declared.kind.Kind.TheVariants.{Request, Cancel}
use Rattle.messages.specs.declared.values.Values.{Values}
use Rattle.messages.specs.declared.wire.key.Key.{Key}
use Rattle.messages.specs.declared.wire.key.Key.TheVariants.{Kind as KindKey, Tn, A, Sv, Cs}
use Rattle.messages.specs.declared.wire.unread.Unread.{Unread}
use Rattle.messages.specs.declared.wire.unread.Unread.TheVariants.{NotLawful, NotALine}
use Rattle.messages.specs.Parts.{reading_of}

pub record Case : Type 0 where
  pub line : List ℕ
  pub comes : Result Values Unread

-- a text with its line end
abbrev pub is : List ℕ → Result Values Unread → Case
is text comes = record { line = text ++ codes "\n"; comes = comes }

-- bytes as they stand
abbrev pub bare : List ℕ → Result Values Unread → Case
bare bytes comes = record { line = bytes; comes = comes }

abbrev pub lawless : Result Values Unread
lawless = Err NotLawful

abbrev pub fault : Key → Fault → Result Values Unread
fault key what = Err (NotALine (record { key = key; fault = what }))

-- cause 1 at a byte
abbrev pub other_text : Key → ℕ → Result Values Unread
other_text key at = fault key (Text at)

-- cause 2 at a byte
abbrev pub no_number : Key → ℕ → Result Values Unread
no_number key at = fault key (Number (record { cause = NoNumber; at = at }))

-- cause 3 at a byte
abbrev pub beyond : Key → ℕ → Result Values Unread
beyond key at = fault key (Number (record { cause = Beyond; at = at }))

-- cause 4 at a byte
abbrev pub no_end : Key → ℕ → Result Values Unread
no_end key at = fault key (End at)

abbrev pub cases : List Case
cases =
    is (codes "kind=Q tn=1 a=3 b=9 sv=1 rt=1 cs=0") (Ok (record { kind = Request; tn = 1; user = 3; destination = 9; service = 1; retention = 1; cause = 0 }))
    ∷ is (codes "kind=X tn=4294967295 a=0 b=0 sv=0 rt=0 cs=4") (Ok (record { kind = Cancel; tn = 4294967295; user = 0; destination = 0; service = 0; retention = 0; cause = 4 }))
    ∷ is (codes "kind=Q tn=0 a=3 b=9 sv=1 rt=1 cs=0") lawless
    ∷ is (codes "kind=Q tn=1 a=64 b=9 sv=1 rt=1 cs=0") lawless
    ∷ is (codes "kind=Q tn=1 a=3 b=9 sv=4 rt=1 cs=0") lawless
    ∷ is (codes "kind=Q tn=1 a=3 b=9 sv=1 rt=2 cs=0") lawless
    ∷ is (codes "kind=X tn=1 a=0 b=0 sv=0 rt=0 cs=5") lawless
    ∷ is (codes "kind=E tn=1 a=0 b=0 sv=0 rt=0 cs=0") lawless
    ∷ is (codes "kind=S tn=1 a=1 b=0 sv=0 rt=0 cs=0") lawless
    ∷ bare [] (other_text KindKey 0)
    ∷ is (codes "") (other_text KindKey 0)
    ∷ is (codes "kind=Z tn=1 a=3 b=9 sv=1 rt=1 cs=0") (other_text KindKey 5)
    ∷ is (codes "kind=QQ tn=1 a=3 b=9 sv=1 rt=1 cs=0") (other_text Tn 6)
    ∷ bare (codes "kind=Q tn=1") (other_text A 11)
    ∷ is (codes "kind=Q tn=1 b=9 a=3 sv=1 rt=1 cs=0") (other_text A 12)
    ∷ is (codes "kind=Q tn=01 a=3 b=9 sv=1 rt=1 cs=0") (no_number Tn 10)
    ∷ is (codes "kind=Q tn=00000000000000000000 a=3 b=9 sv=1 rt=1 cs=0") (no_number Tn 10)
    ∷ is (codes "kind=Q tn= a=3 b=9 sv=1 rt=1 cs=0") (no_number Tn 10)
    ∷ is (codes "kind=Q tn=1 a=3 b=9 sv=1 rt=1 cs=") (no_number Cs 33)
    ∷ is (codes "kind=Q tn=4294967296 a=3 b=9 sv=1 rt=1 cs=0") (beyond Tn 10)
    ∷ is (codes "kind=Q tn=1 a=100 b=9 sv=1 rt=1 cs=0") (beyond A 14)
    ∷ is (codes "kind=Q tn=1 a=3 b=9 sv=10 rt=1 cs=0") (beyond Sv 23)
    ∷ bare (codes "kind=Q tn=1 a=3 b=9 sv=1 rt=1 cs=0") (no_end Cs 34)
    ∷ is (codes "kind=Q tn=1 a=3 b=9 sv=1 rt=1 cs=0 ") (no_end Cs 34)
    ∷ is (codes "kind=Q tn=1 a=3 b=9 sv=1 rt=1 cs=0\n") (no_end Cs 35)
    ∷ []

-- every line of the list comes to what stands beside it
abbrev pub LinesCome : Type 0
LinesCome = AllByRecursion (λ (c : Case). reading_of c.line ≡ c.comes) cases
