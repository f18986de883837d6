-- The letters of the ten kinds.
use Rattle.std.specs.Prelude.{ℕ, cond, List, Some, None, Option, Result, ◌++◌, ◌==◌, codes, decimal}
use Rattle.std.specs.Option.{ok_or}
use Rattle.messages.specs.declared.kind.Kind.{Kind}
use Rattle.messages.specs.declared.kind.UnknownLetter.{UnknownLetter}
use Rattle.messages.specs.declared.kind.Kind.TheVariants.{Request, Suspend, Resume, Call, Cancel, Result as ResultKind, Error, RemoteUserFree, CallDone, CallBusy}

-- Q, S, M, C, X, R, E, F, D, B
abbrev pub letter_of : Kind → ℕ
letter_of Request = 81
letter_of Suspend = 83
letter_of Resume = 77
letter_of Call = 67
letter_of Cancel = 88
letter_of ResultKind = 82
letter_of Error = 69
letter_of RemoteUserFree = 70
letter_of CallDone = 68
letter_of CallBusy = 66

abbrev pub kind_of : ℕ → Option Kind
kind_of b =
    cond (b == 81) (Some Request)
    (cond (b == 83) (Some Suspend)
    (cond (b == 77) (Some Resume)
    (cond (b == 67) (Some Call)
    (cond (b == 88) (Some Cancel)
    (cond (b == 82) (Some ResultKind)
    (cond (b == 69) (Some Error)
    (cond (b == 70) (Some RemoteUserFree)
    (cond (b == 68) (Some CallDone)
    (cond (b == 66) (Some CallBusy)
    None)))))))))

-- the kind of a letter; one that is no kind's is handed back
abbrev pub kind_or_letter : ℕ → Result Kind UnknownLetter
kind_or_letter letter = ok_or (kind_of letter) (record { 0 = letter })

abbrev pub unknown_text : ℕ → List ℕ
unknown_text letter = codes "the byte " ++ (decimal letter ++ codes " is the letter of no kind")
