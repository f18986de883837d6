-- What a technician reads of a kind, a service, a cause, a fault and a key.
-- Each table has one line for each case, in the order of its definition.
use Rattle.std.specs.Prelude.{ℕ, List, codes}
use Rattle.answers.specs.declared.cause.Cause.{Cause}
use Rattle.answers.specs.declared.cause.Cause.TheVariants.{NotGiven as NoCause, T3Over, T4Over, T7Over, T9Over, Withdrawn, ShortTermDenial, LongTermDenial, Completed, BusyAgain, CallReturned, MessageReturned}
use Rattle.lines.specs.declared.fault.Fault.{Fault}
use Rattle.lines.specs.declared.fault.Fault.TheVariants.{Text, Number, End}
use Rattle.lines.specs.declared.number.NumberCause.{NumberCause}
use Rattle.lines.specs.declared.number.NumberCause.TheVariants.{NoNumber, Beyond}
use Rattle.messages.specs.declared.kind.Kind.{Kind}
use Rattle.messages.specs.declared.kind.Kind.TheVariants.{Request, Suspend, Resume, Call, Cancel, Result, Error, RemoteUserFree, CallDone, CallBusy}
use Rattle.messages.specs.declared.service.Service.{Service}
use Rattle.messages.specs.declared.service.Service.TheVariants.{NotGiven, Audio, Speech, Digital}
use Rattle.messages.specs.declared.wire.key.Key.{Key}
use Rattle.messages.specs.declared.wire.key.Key.TheVariants.{Kind as KindKey, Tn, A, B, Sv, Rt, Cs}

abbrev pub kind_words : Kind → List ℕ
kind_words Request = codes "request"
kind_words Suspend = codes "suspend"
kind_words Resume = codes "resume"
kind_words Call = codes "call"
kind_words Cancel = codes "cancel"
kind_words Result = codes "result"
kind_words Error = codes "error"
kind_words RemoteUserFree = codes "remote user free"
kind_words CallDone = codes "call done"
kind_words CallBusy = codes "call found busy"

abbrev pub service_words : Service → List ℕ
service_words NotGiven = codes "no service given"
service_words Audio = codes "3.1 kHz audio"
service_words Speech = codes "speech"
service_words Digital = codes "64 kbit/s"

abbrev pub cause_words : Cause → List ℕ
cause_words NoCause = codes "none given"
cause_words T3Over = codes "T3 over"
cause_words T4Over = codes "T4 over"
cause_words T7Over = codes "T7 over"
cause_words T9Over = codes "T9 over"
cause_words Withdrawn = codes "withdrawn"
cause_words ShortTermDenial = codes "short-term denial"
cause_words LongTermDenial = codes "long-term denial"
cause_words Completed = codes "completed"
cause_words BusyAgain = codes "busy again"
cause_words CallReturned = codes "call returned"
cause_words MessageReturned = codes "message returned"

abbrev pub number_words : NumberCause → List ℕ
number_words NoNumber = codes "no digit, or a leading zero"
number_words Beyond = codes "number beyond its field"

abbrev pub fault_words : Fault → List ℕ
fault_words (Text at) = codes "wrong key, letter or separator"
fault_words (Number fault) = number_words fault.cause
fault_words (End at) = codes "line end missing, or not last"

abbrev pub key_words : Key → List ℕ
key_words KindKey = codes "kind"
key_words Tn = codes "tn"
key_words A = codes "a"
key_words B = codes "b"
key_words Sv = codes "sv"
key_words Rt = codes "rt"
key_words Cs = codes "cs"
