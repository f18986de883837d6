-- The rules of the destination side: for each call why it is denied, and what it does if accepted.
-- Records stand in the order in which they were stored.
use Rattle.std.specs.Prelude.{ℕ, ◌+◌, ◌-◌, Bool, true, false, cond, not, ◌&&◌, ◌||◌, List, [], ◌∷◌, map, length, replicate, Some, None, Option, ◌==◌, nat_eq, nat_le, nat_lt, slice_index_or, slice_set}
use Rattle.answers.specs.declared.denial.Denial.{Denial}
use Rattle.answers.specs.declared.denial.Denial.TheVariants.{OutOfRange, NoSuchParty, AboveThree, NoneThere, TimerDue, NoneDue, NoFreePlace}
use Rattle.answers.specs.declared.cause.Cause.{Cause}
use Rattle.answers.specs.declared.cause.Cause.TheVariants.{T7Over, T9Over, ShortTermDenial, LongTermDenial, Completed, BusyAgain, MessageReturned}
use Rattle.answers.specs.declared.answer.Answer.{Answer}
use Rattle.answers.specs.declared.answer.Answer.TheVariants.{Done as done, Nothing as nothing, Suspended as suspended, Kept as kept, Stored as stored, Rejected as rejected, Freed as freed, Resumed as resumed, Ended as ended}
use Rattle.answers.specs.Rows.{row, upper, sized}
use Rattle.answers.specs.Numbers.{cause_number, cause_of}
use Rattle.tables.specs.Tables.{Change, same, added, became, removed, found, changed, times, first_by}
use Rattle.waiting_line.specs.Searches.{some}
use Rattle.messages.specs.declared.kind.Kind.{Kind}
use Rattle.messages.specs.declared.kind.Kind.TheVariants.{Request as Q, Suspend as S, Resume as M, Call as C, Cancel as X, Result as R, Error as E, RemoteUserFree as F, CallDone as D, CallBusy as B}
use Rattle.messages.specs.declared.values.Values.{Values}
use Rattle.messages.specs.Services.{service_of, service_meant}
use Rattle.messages.specs.Sent.{numbered, plain, cancelling, same_kind}
use Rattle.b_side.specs.declared.record.BState.{BState}
use Rattle.b_side.specs.declared.record.BState.TheVariants.{Queued, Suspended, Recalling}
use Rattle.b_side.specs.declared.record.BRecord.{BRecord}
use Rattle.b_side.specs.declared.line.LineFacts.{LineFacts}
use Rattle.b_side.specs.declared.settings.BSettings.{BSettings}
use Rattle.b_side.specs.declared.forwarding.Forwarding.{Forwarding}
use Rattle.b_side.specs.declared.forwarding.Forwarding.TheVariants.{None as not_forwarded}
use Rattle.b_side.specs.Forwardings.{forwarding_number, forwarding_of}
use Rattle.b_side.specs.Ranges.{b_in_range}

-- What the side holds

-- its settings, record places, the facts of its lines, and its records
pub record BModel : Type 0 where
  pub settings : BSettings
  pub places : ℕ
  pub lines : List LineFacts
  pub records : List BRecord

abbrev pub idle : LineFacts
idle = record { busy = false; forwarding = not_forwarded; guard = 0 }

-- a fresh side has no records, idle lines and no forwarding; the facts of one that is out of range stay as they were given
abbrev pub b_fresh : BSettings → ℕ → List LineFacts → BModel
b_fresh settings places facts = record {
  settings = settings;
  places = places;
  lines = cond (b_in_range settings places (length facts)) (replicate (length facts) idle) facts;
  records = [];
}

abbrev pub b_tn : BRecord → ℕ
b_tn r = r.tn

abbrev pub stored_as : ℕ → BModel → Option BRecord
stored_as n s = found b_tn n s.records

abbrev pub b_fit : BModel → Bool
b_fit s = b_in_range s.settings s.places (length s.lines)

-- Words

abbrev pub state_number : BState → ℕ
state_number Queued = 0
state_number Suspended = 1
state_number Recalling = 2

abbrev pub is : BState → BState → Bool
is state other = state_number state == state_number other

abbrev pub is_queued : BState → Bool
is_queued state = is Queued state

abbrev pub is_suspended : BState → Bool
is_suspended state = is Suspended state

abbrev pub is_recalling : BState → Bool
is_recalling state = is Recalling state

abbrev pub queued_at : ℕ → BRecord → Bool
queued_at b r = r.destination == b && is_queued r.state

abbrev pub recalling_at : ℕ → BRecord → Bool
recalling_at b r = r.destination == b && is_recalling r.state

abbrev pub line : BModel → ℕ → LineFacts
line s b = slice_index_or s.lines b idle

-- A record or a line after a step

abbrev pub in_state : BState → ℕ → BRecord → BRecord
in_state state t9 r = record { tn = r.tn; destination = r.destination; service = r.service; retention = r.retention; state = state; t7 = r.t7; t9 = t9 }

abbrev pub with_busy : Bool → LineFacts → LineFacts
with_busy busy l = record { busy = busy; forwarding = l.forwarding; guard = l.guard }

abbrev pub with_forwarding : Forwarding → LineFacts → LineFacts
with_forwarding forwarding l = record { busy = l.busy; forwarding = forwarding; guard = l.guard }

abbrev pub with_guard : ℕ → LineFacts → LineFacts
with_guard guard l = record { busy = l.busy; forwarding = l.forwarding; guard = guard }

abbrev pub line_set : BModel → ℕ → Bool → List LineFacts
line_set s b busy = slice_set s.lines b (with_busy busy (line s b))

-- Timers: T7 runs while a record stands, T9 in Recalling

abbrev pub due7 : BRecord → Bool
due7 r = r.t7 == 0

abbrev pub due9 : BRecord → Bool
due9 r = is_recalling r.state && r.t9 == 0

-- a running timer of the record is at 0
abbrev pub b_due : BRecord → Bool
b_due r = due7 r || due9 r

-- one is taken from each running timer
abbrev pub b_aged : BRecord → BRecord
b_aged r = record { tn = r.tn; destination = r.destination; service = r.service; retention = r.retention; state = r.state; t7 = r.t7 - 1; t9 = r.t9 - cond (is_recalling r.state) 1 0 }

-- Guard rule

-- T8 runs at a destination exactly while its line is free, no record there is Recalling and one is Queued
abbrev pub guarded : List BRecord → ℕ → LineFacts → Bool
guarded rs b l = not l.busy && not (some (recalling_at b) rs) && some (queued_at b) rs

-- it starts full where the condition turns true, holds 0 where it is false, and else runs on
abbrev pub watched_line : ℕ → Bool → Bool → LineFacts → LineFacts
watched_line t8 before true l = with_guard (cond before l.guard t8) l
watched_line t8 before false l = with_guard 0 l

-- the lines from b on, by the records and lines before a call and after it
abbrev pub watched_from : ℕ → ℕ → List BRecord → List LineFacts → List BRecord → List LineFacts → List LineFacts
watched_from t8 b rs was rs' [] = []
watched_from t8 b rs was rs' (l ∷ ls) = watched_line t8 (guarded rs b (slice_index_or was b idle)) (guarded rs' b l) l ∷ watched_from t8 (b + 1) rs was rs' ls

-- the lines from b on after a tick
abbrev pub aged_from : ℕ → List BRecord → List LineFacts → List LineFacts
aged_from b rs [] = []
aged_from b rs (l ∷ ls) = with_guard (l.guard - cond (guarded rs b l) 1 0) l ∷ aged_from (b + 1) rs ls

abbrev pub guard_due : ℕ → List BRecord → LineFacts → Bool
guard_due b rs l = guarded rs b l && l.guard == 0

-- the lowest destination from b on whose guard is over
abbrev pub guard_over : ℕ → List BRecord → List LineFacts → Option ℕ
guard_over b rs [] = None
guard_over b rs (l ∷ ls) = cond (guard_due b rs l) (Some b) (guard_over (b + 1) rs ls)

abbrev pub is_over : Option ℕ → Bool
is_over (Some b) = true
is_over None = false

-- a running timer of the side is at 0
abbrev pub any_due : BModel → Bool
any_due s = some b_due s.records || is_over (guard_over 0 s.records s.lines)

-- What an accepted call does

-- the answer, the record that changes, the lines after, the message that it sends
pub record BEffect : Type 0 where
  pub answer : Answer
  pub change : Change BRecord
  pub lines : List LineFacts
  pub sent : List Values

abbrev pub does : BModel → Answer → Change BRecord → List Values → BEffect
does s answer change sent = record { answer = answer; change = change; lines = s.lines; sent = sent }

-- no rule speaks of it: answer nothing
abbrev pub ignores : BModel → ℕ → BEffect
ignores s n = does s (nothing n) same []

-- the record of n ends
abbrev pub finishes : BModel → ℕ → Cause → List Values → BEffect
finishes s n cause sent = does s (ended n cause) (removed n) sent

abbrev pub with_tables : BModel → List LineFacts → List BRecord → BModel
with_tables s lines records = record { settings = s.settings; places = s.places; lines = lines; records = records }

-- what a call answers, leaves at the side and sends
pub record BDone : Type 0 where
  pub answer : Answer
  pub side : BModel
  pub sent : List Values

-- the guards follow their rule last
abbrev pub accept : BModel → BEffect → BDone
accept s e =
    let rs = changed b_tn e.change s.records in
    record { answer = e.answer; side = with_tables s (watched_from s.settings.t8 0 s.records s.lines rs e.lines) rs; sent = e.sent }

-- The rows that several calls have

abbrev pub unfit_b : BModel → Bool
unfit_b s = not (b_fit s)

abbrev pub no_such_destination : BModel → ℕ → Bool
no_such_destination s b = nat_le s.settings.n b

abbrev pub none_free : ℕ → List Values → Bool
none_free capacity waiting = (capacity - length waiting) == 0

-- The destination's line, and forwarding

abbrev pub b_line_refusal : BModel → ℕ → Option Denial
b_line_refusal s b = upper (row (unfit_b s) OutOfRange ∷ row (no_such_destination s b) NoSuchParty ∷ [])

abbrev pub line_becomes : BModel → ℕ → Bool → BEffect
line_becomes s b busy = record { answer = done; change = same; lines = line_set s b busy; sent = [] }

abbrev pub forwarding_refusal : BModel → ℕ → ℕ → Option Denial
forwarding_refusal s b forwarding = upper (row (unfit_b s) OutOfRange ∷ row (no_such_destination s b) NoSuchParty ∷ row (nat_lt 3 forwarding) AboveThree ∷ [])

-- forwarding does not touch the guard
abbrev pub forwarded : BModel → ℕ → ℕ → BDone
forwarded s b forwarding = record { answer = done; side = with_tables s (slice_set s.lines b (with_forwarding (forwarding_of forwarding) (line s b))) s.records; sent = [] }

-- Tick: one from each running timer

abbrev pub b_tick_refusal : BModel → Option Denial
b_tick_refusal s = upper (row (unfit_b s) OutOfRange ∷ row (any_due s) TimerDue ∷ [])

abbrev pub b_ticked : BModel → BDone
b_ticked s = record { answer = done; side = with_tables s (aged_from 0 s.records s.lines) (map b_aged s.records); sent = [] }

-- Expiry: records first, in stored order, T7 before T9; then guards, by lowest destination

abbrev pub b_expiry_refusal : BModel → ℕ → List Values → Option Denial
b_expiry_refusal s capacity waiting =
    upper
    (row (unfit_b s || not (sized capacity)) OutOfRange
    ∷ row (not (any_due s)) NoneDue
    ∷ row (none_free capacity waiting) NoFreePlace
    ∷ [])

-- T7 over sends X with 3 and ends with 3, T9 likewise with 4
abbrev pub b_expiring_one : BModel → BRecord → BEffect
b_expiring_one s r = cond (due7 r) (finishes s r.tn T7Over (cancelling r.tn 3 ∷ [])) (finishes s r.tn T9Over (cancelling r.tn 4 ∷ []))

-- the record becomes Recalling, T9 starts, F is sent
abbrev pub recalling_one : BModel → Option BRecord → BEffect
recalling_one s (Some r) = does s (freed r.tn) (became (in_state Recalling s.settings.t9 r)) (plain F r.tn ∷ [])
recalling_one s None = does s done same []

-- T8 over at a destination: the first stored Queued record there
abbrev pub recalling_first : BModel → Option ℕ → BEffect
recalling_first s (Some b) = recalling_one s (first_by (queued_at b) s.records)
recalling_first s None = does s done same []

abbrev pub b_expiring_at : BModel → Option BRecord → BEffect
b_expiring_at s (Some r) = b_expiring_one s r
b_expiring_at s None = recalling_first s (guard_over 0 s.records s.lines)

abbrev pub b_expiring : BModel → BEffect
b_expiring s = b_expiring_at s (first_by b_due s.records)

-- Receiving

-- a forwarding that turns requests away: on no reply, or unconditional
abbrev pub turns_away : Forwarding → Bool
turns_away forwarding = nat_le 2 (forwarding_number forwarding)

-- the destination has as many records as one may have
abbrev pub destination_full : BModel → ℕ → Bool
destination_full s b = nat_le s.settings.lb (times (λ (r : BRecord). nat_eq r.destination b) s.records)

-- why a request is rejected, tested in this order
abbrev pub objection : BModel → Values → Option Cause
objection s m =
    cond (no_such_destination s m.destination) (Some LongTermDenial)
    (cond (turns_away (line s m.destination).forwarding) (Some ShortTermDenial)
    (cond (destination_full s m.destination) (Some ShortTermDenial)
    (cond (nat_le s.places (length s.records)) (Some LongTermDenial) None)))

-- the agreed retention: both sides have 1
abbrev pub agreed : BModel → Values → Bool
agreed s m = m.retention == 1 && s.settings.rb == 1

-- stored last as Queued with T7, with the service that is meant
abbrev pub storing : BModel → Values → BRecord
storing s m = record { tn = m.tn; destination = m.destination; service = service_meant (service_of m.service); retention = agreed s m; state = Queued; t7 = s.settings.t7; t9 = 0 }

-- Q of a transaction that does not stand: E with the cause, or R with the agreed retention
abbrev pub on_new : BModel → Values → Option Cause → BEffect
on_new s m (Some cause) = does s (rejected m.tn cause) same (numbered E m.tn 0 (cause_number cause) ∷ [])
on_new s m None = does s (stored m.tn) (added (storing s m)) (numbered R m.tn (cond (agreed s m) 1 0) 0 ∷ [])

-- S on Queued or Recalling: Suspended, T9 stops
abbrev pub on_suspend : BModel → BRecord → BState → BEffect
on_suspend s r state = cond (is_suspended state) (ignores s r.tn) (does s (suspended r.tn) (became (in_state Suspended 0 r)) [])

-- M on Suspended: Queued
abbrev pub on_resume : BModel → BRecord → BState → BEffect
on_resume s r state = cond (is_suspended state) (does s (resumed r.tn) (became (in_state Queued r.t9 r)) []) (ignores s r.tn)

-- C, line free: the line becomes busy, D, ends with 8
abbrev pub completing : BModel → BRecord → BEffect
completing s r = record { answer = ended r.tn Completed; change = removed r.tn; lines = line_set s r.destination true; sent = plain D r.tn ∷ [] }

-- C, line busy, by the agreed retention: Queued at its old place, T7 runs on, B with 1; or B with 0, ends with 9
abbrev pub found_busy : BModel → BRecord → Bool → BEffect
found_busy s r true = does s (kept r.tn) (became (in_state Queued 0 r)) (numbered B r.tn 1 0 ∷ [])
found_busy s r false = finishes s r.tn BusyAgain (numbered B r.tn 0 0 ∷ [])

-- by whether the line is busy
abbrev pub called_at : BModel → BRecord → Bool → BEffect
called_at s r true = found_busy s r r.retention
called_at s r false = completing s r

-- C on Recalling
abbrev pub on_call : BModel → BRecord → BState → BEffect
on_call s r state = cond (is_recalling state) (called_at s r (line s r.destination).busy) (ignores s r.tn)

-- a message for a record that stands; X ends it with its cause
abbrev pub on_record : BModel → BRecord → Values → Kind → BEffect
on_record s r m S = on_suspend s r r.state
on_record s r m M = on_resume s r r.state
on_record s r m C = on_call s r r.state
on_record s r m X = finishes s r.tn (cause_of m.cause) []
on_record s r m Q = ignores s r.tn
on_record s r m R = ignores s r.tn
on_record s r m E = ignores s r.tn
on_record s r m F = ignores s r.tn
on_record s r m D = ignores s r.tn
on_record s r m B = ignores s r.tn

-- no record stands for it: only a request does something
abbrev pub on_none : BModel → Values → Kind → BEffect
on_none s m kind = cond (same_kind kind Q) (on_new s m (objection s m)) (ignores s m.tn)

abbrev pub b_receiving_at : BModel → Values → Option BRecord → BEffect
b_receiving_at s m (Some r) = on_record s r m m.kind
b_receiving_at s m None = on_none s m m.kind

abbrev pub b_receiving : BModel → Values → BEffect
b_receiving s m = b_receiving_at s m (stored_as m.tn s)

-- deliver to B: from the channel toward B, with a place toward A
abbrev pub b_deliver_refusal : BModel → ℕ → List Values → ℕ → List Values → Option Denial
b_deliver_refusal s cap_b to_b cap_a to_a =
    upper
    (row (unfit_b s || not (sized cap_b) || not (sized cap_a)) OutOfRange
    ∷ row (length to_b == 0) NoneThere
    ∷ row (none_free cap_a to_a) NoFreePlace
    ∷ [])

-- Returned messages

-- a returned R or F ends its record with 11
abbrev pub on_returned : BModel → BRecord → Kind → BEffect
on_returned s r kind = cond (same_kind kind R || same_kind kind F) (finishes s r.tn MessageReturned []) (ignores s r.tn)

abbrev pub b_returning_at : BModel → Values → Option BRecord → BEffect
b_returning_at s m (Some r) = on_returned s r m.kind
b_returning_at s m None = ignores s m.tn

abbrev pub b_returning : BModel → Values → BEffect
b_returning s m = b_returning_at s m (stored_as m.tn s)

-- return to B: from the channel toward A
abbrev pub b_return_refusal : BModel → ℕ → List Values → Option Denial
b_return_refusal s cap_a to_a = upper (row (unfit_b s || not (sized cap_a)) OutOfRange ∷ row (length to_a == 0) NoneThere ∷ [])
