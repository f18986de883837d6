-- The line of the report for each line of the log, as the pieces that it is made of: the message in words, with what its kind
-- uses, or the denial with the cause in words, the key and the byte.
use Rattle.std.specs.Prelude.{◌≡◌, ℕ, cond, List, [], ◌∷◌, ◌++◌, Ok, Err, codes, decimal, Result, ◌==◌}
use Rattle.answers.specs.Numbers.{cause_of, denial_number}
use Rattle.drafts.specs.Drafts.{written, added_all}
use Rattle.lines.specs.Faults.{LineFault, fault_cause, fault_place}
use Rattle.messages.specs.declared.kind.Kind.{Kind}
use Rattle.messages.specs.declared.kind.Kind.TheVariants.{Request, Suspend, Resume, Call, Cancel, Result as ResultKind, Error, RemoteUserFree, CallDone, CallBusy}
use Rattle.messages.specs.declared.values.Values.{Values}
use Rattle.messages.specs.declared.wire.key.Key.{Key}
use Rattle.messages.specs.declared.wire.unread.Unread.{Unread}
use Rattle.messages.specs.declared.wire.unread.Unread.TheVariants.{NotLawful, NotALine}
use Rattle.messages.specs.Services.{service_of}
use Rattle.messages.specs.Wire.{unread_denial}
use Rattle.wirecheck.specs.declared.report.Report.{Report}
use Rattle.wirecheck.specs.Words.{kind_words, service_words, cause_words, fault_words, key_words}

abbrev pub told_in : Report → List ℕ
told_in report = written report.text

-- a report says these pieces after what it said before; one that does not fit within its 160 bytes is left out
abbrev pub Says : Report → List (List ℕ) → Report → Type 0
Says before pieces after = told_in after ≡ added_all 160 (told_in before) pieces

abbrev pub numbered : List ℕ → ℕ → List (List ℕ)
numbered text n = text ∷ decimal n ∷ []

abbrev pub retention : ℕ → List (List ℕ)
retention n = cond (n == 1) (codes ", retained") (codes ", not retained") ∷ []

abbrev pub cause : ℕ → List (List ℕ)
cause n = numbered (codes ", cause ") n ++ codes ", " ∷ cause_words (cause_of n) ∷ []

abbrev pub request : Values → List (List ℕ)
request v =
    numbered (codes ", user ") v.user ++ (numbered (codes ", destination ") v.destination
    ++ (codes ", " ∷ service_words (service_of v.service) ∷ retention v.retention))

-- what a kind uses besides its transaction
abbrev pub uses : Kind → Values → List (List ℕ)
uses Request v = request v
uses Suspend v = []
uses Resume v = []
uses Call v = []
uses Cancel v = cause v.cause
uses ResultKind v = retention v.retention
uses Error v = cause v.cause
uses RemoteUserFree v = []
uses CallDone v = []
uses CallBusy v = retention v.retention

abbrev pub message : Values → List (List ℕ)
message v = kind_words v.kind ∷ (numbered (codes ", transaction ") v.tn ++ uses v.kind v)

abbrev pub faulty : LineFault Key → List (List ℕ)
faulty f =
    numbered (codes ", no line: cause ") (fault_cause f.fault)
    ++ (codes ", " ∷ fault_words f.fault ∷ codes ", at key " ∷ key_words f.key ∷ codes ", byte " ∷ decimal (fault_place f.fault) ∷ [])

abbrev pub why_not : Unread → List (List ℕ)
why_not NotLawful = codes ", a line but no lawful message" ∷ []
why_not (NotALine f) = faulty f

abbrev pub refusal : Unread → List (List ℕ)
refusal u = numbered (codes "refused ") (denial_number (unread_denial u)) ++ why_not u

abbrev pub saying : Result Values Unread → List (List ℕ)
saying (Ok v) = message v
saying (Err u) = refusal u

-- the line of the report for the line of this number
abbrev pub report : ℕ → Result Values Unread → List (List ℕ)
report n read = codes "line " ∷ decimal n ∷ codes ": " ∷ (saying read ++ (10 ∷ []) ∷ [])
