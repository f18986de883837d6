-- The rules of the originating side: for each call why it is denied, and what it does if accepted.
-- Records stand in the order in which their numbers were given out, so the first is the lowest.
use Rattle.std.specs.Prelude.{ℕ, ◌+◌, ◌-◌, Bool, true, false, cond, not, ◌&&◌, ◌||◌, List, [], ◌∷◌, ◌++◌, map, length, replicate, Some, None, filter, Option, ◌==◌, nat_eq, nat_le, nat_lt, slice_index_or, slice_set}
use Rattle.answers.specs.declared.denial.Denial.{Denial}
use Rattle.answers.specs.declared.denial.Denial.TheVariants.{OutOfRange, NoSuchParty, AboveThree, NotStanding, NotRecalled, Identical, UserFull, NoRecordPlace, NoNumberLeft, NoneThere, TimerDue, NoneDue, NoFreePlace}
use Rattle.answers.specs.declared.cause.Cause.{Cause}
use Rattle.answers.specs.declared.cause.Cause.TheVariants.{T3Over, T4Over, Withdrawn, ShortTermDenial, LongTermDenial, Completed, BusyAgain, CallReturned}
use Rattle.answers.specs.declared.answer.Answer.{Answer}
use Rattle.answers.specs.declared.answer.Answer.TheVariants.{Done as done, Nothing as nothing, Requested as requested, Accepted as accepted, Recall as recall, Suspended as suspended, Calling as calling, Kept as kept, Stray as stray, Ended as ended}
use Rattle.answers.specs.Rows.{row, upper, sized}
use Rattle.answers.specs.Numbers.{cause_of}
use Rattle.tables.specs.Tables.{Change, same, added, became, removed, found, changed, times, first_by}
use Rattle.waiting_line.specs.Searches.{some}
use Rattle.messages.specs.declared.kind.Kind.{Kind}
use Rattle.messages.specs.declared.kind.Kind.TheVariants.{Request as Q, Suspend as S, Resume as M, Call as C, Cancel as X, Result as R, Error as E, RemoteUserFree as F, CallDone as D, CallBusy as B}
use Rattle.messages.specs.declared.values.Values.{Values}
use Rattle.messages.specs.declared.service.Service.{Service}
use Rattle.messages.specs.Services.{service_number, service_of, service_meant}
use Rattle.messages.specs.Sent.{plain, requesting, cancelling, same_kind}
use Rattle.a_side.specs.declared.record.AState.{AState}
use Rattle.a_side.specs.declared.record.AState.TheVariants.{Requested, Waiting, Recalled, Suspended, Calling}
use Rattle.a_side.specs.declared.record.ARecord.{ARecord}
use Rattle.a_side.specs.declared.settings.ASettings.{ASettings}
use Rattle.a_side.specs.Ranges.{a_in_range}

-- What the side holds

-- its settings, record places, next number, which users' lines are busy, and its records
pub record AModel : Type 0 where
  pub settings : ASettings
  pub places : ℕ
  pub next : ℕ
  pub busy : List Bool
  pub records : List ARecord

-- a fresh side has no records and 64 users with idle lines
abbrev pub a_fresh : ASettings → ℕ → AModel
a_fresh settings places = record { settings = settings; places = places; next = settings.first; busy = replicate 64 false; records = [] }

abbrev pub a_tn : ARecord → ℕ
a_tn r = r.tn

abbrev pub standing : ℕ → AModel → Option ARecord
standing n s = found a_tn n s.records

abbrev pub a_fit : AModel → Bool
a_fit s = a_in_range s.settings s.places

-- Words

abbrev pub state_number : AState → ℕ
state_number Requested = 0
state_number Waiting = 1
state_number Recalled = 2
state_number Suspended = 3
state_number Calling = 4

abbrev pub is : AState → AState → Bool
is state other = state_number state == state_number other

abbrev pub is_recalled : AState → Bool
is_recalled state = is Recalled state

abbrev pub is_suspended : AState → Bool
is_suspended state = is Suspended state

abbrev pub recalled_or_calling : AState → Bool
recalled_or_calling state = is Recalled state || is Calling state

abbrev pub line_busy : AModel → ℕ → Bool
line_busy s user = slice_index_or s.busy user false

-- the line is busy, or one of the user's records is Recalled or Calling
abbrev pub ccbs_busy : AModel → ℕ → Bool
ccbs_busy s user = line_busy s user || some (λ (r : ARecord). (r.user == user) && recalled_or_calling r.state) s.records

-- the same service is meant, where one that is not given is taken as 3.1 kHz audio
abbrev pub same_service : Service → Service → Bool
same_service x y = service_number (service_meant x) == service_number (service_meant y)

-- A record after a step

abbrev pub in_state : AState → ℕ → ℕ → ℕ → ARecord → ARecord
in_state state t2 t3 t4 r = record { tn = r.tn; user = r.user; destination = r.destination; service = r.service; state = state; t2 = t2; t3 = t3; t4 = t4 }

-- R: T2 stops, T3 starts
abbrev pub when_accepted : AModel → ARecord → ARecord
when_accepted s r = in_state Waiting 0 s.settings.t3 r.t4 r

-- F: T4 starts
abbrev pub when_recalled : AModel → ARecord → ARecord
when_recalled s r = in_state Recalled r.t2 r.t3 s.settings.t4 r

-- a recall is answered: T4 stops
abbrev pub when_answered : AState → ARecord → ARecord
when_answered state r = in_state state r.t2 r.t3 0 r

-- the timers run on
abbrev pub becomes : AState → ARecord → ARecord
becomes state r = in_state state r.t2 r.t3 r.t4 r

-- Timers: T2 runs in Requested, T3 in every later state, T4 in Recalled too

abbrev pub runs2 : AState → Bool
runs2 state = is Requested state

abbrev pub runs3 : AState → Bool
runs3 state = not (runs2 state)

abbrev pub runs4 : AState → Bool
runs4 state = is_recalled state

abbrev pub due2 : ARecord → Bool
due2 r = runs2 r.state && r.t2 == 0

abbrev pub due3 : ARecord → Bool
due3 r = runs3 r.state && r.t3 == 0

abbrev pub due4 : ARecord → Bool
due4 r = runs4 r.state && r.t4 == 0

-- a running timer of the record is at 0
abbrev pub a_due : ARecord → Bool
a_due r = due2 r || due3 r || due4 r

-- one is taken from each running timer
abbrev pub a_aged : ARecord → ARecord
a_aged r = in_state r.state (r.t2 - cond (runs2 r.state) 1 0) (r.t3 - cond (runs3 r.state) 1 0) (r.t4 - cond (runs4 r.state) 1 0) r

-- What an accepted call does

-- the answer, the record that changes, the lines and the next number after, the messages of its own that it sends
pub record AEffect : Type 0 where
  pub answer : Answer
  pub change : Change ARecord
  pub busy : List Bool
  pub next : ℕ
  pub sent : List Values

abbrev pub does : AModel → Answer → Change ARecord → List Values → AEffect
does s answer change sent = record { answer = answer; change = change; busy = s.busy; next = s.next; sent = sent }

-- no rule speaks of it: answer nothing
abbrev pub ignores : AModel → ℕ → AEffect
ignores s n = does s (nothing n) same []

-- the record of n ends
abbrev pub finishes : AModel → ℕ → Cause → List Values → AEffect
finishes s n cause sent = does s (ended n cause) (removed n) sent

abbrev pub with_records : AModel → List ARecord → AModel
with_records s records = record { settings = s.settings; places = s.places; next = s.next; busy = s.busy; records = records }

abbrev pub carried_out : AModel → AEffect → AModel
carried_out s e = record { settings = s.settings; places = s.places; next = e.next; busy = e.busy; records = changed a_tn e.change s.records }

-- a Suspended record of a user who is not CCBS-busy
abbrev pub resumable : AModel → ARecord → Bool
resumable s r = is_suspended r.state && not (ccbs_busy s r.user)

abbrev pub resumed : AModel → ARecord → ARecord
resumed s r = cond (resumable s r) (becomes Waiting r) r

-- each such record becomes Waiting
abbrev pub settled : AModel → AModel
settled s = with_records s (map (resumed s) s.records)

-- and M is sent, rising by number
abbrev pub resumptions : AModel → List Values
resumptions s = map (λ (r : ARecord). plain M r.tn) (filter (resumable s) s.records)

-- what a call answers, leaves at the side and sends
pub record ADone : Type 0 where
  pub answer : Answer
  pub side : AModel
  pub sent : List Values

-- the resumption comes last
abbrev pub accept : AModel → AEffect → ADone
accept s e = record { answer = e.answer; side = settled (carried_out s e); sent = e.sent ++ resumptions (carried_out s e) }

-- The rows that several calls have

abbrev pub unfit_a : AModel → Bool
unfit_a s = not (a_fit s)

abbrev pub fewer_than_five : ℕ → List Values → Bool
fewer_than_five capacity waiting = nat_lt (capacity - length waiting) 5

abbrev pub no_such_user : ℕ → Bool
no_such_user user = nat_le 64 user

-- the transaction stands for this user
abbrev pub stands_for : AModel → ℕ → ℕ → Bool
stands_for s user n = elim (standing n s) [ Some r ↦ nat_eq r.user user | None ↦ false ]

-- Activate

-- a record of this user has the same destination and service
abbrev pub identical : AModel → ℕ → ℕ → ℕ → Bool
identical s user destination service = some (λ (r : ARecord). (r.user == user) && r.destination == destination && same_service r.service (service_of service)) s.records

-- the user has as many records as one may have
abbrev pub user_full : AModel → ℕ → Bool
user_full s user = nat_le s.settings.la (times (λ (r : ARecord). nat_eq r.user user) s.records)

abbrev pub activate_refusal : AModel → ℕ → List Values → ℕ → ℕ → ℕ → Option Denial
activate_refusal s capacity waiting user destination service =
    upper
    (row (unfit_a s || not (sized capacity)) OutOfRange
    ∷ row (no_such_user user || nat_le 64 destination) NoSuchParty
    ∷ row (nat_lt 3 service) AboveThree
    ∷ row (identical s user destination service) Identical
    ∷ row (user_full s user) UserFull
    ∷ row (nat_le s.places (length s.records)) NoRecordPlace
    ∷ row (nat_lt 4294967295 s.next) NoNumberLeft
    ∷ row (fewer_than_five capacity waiting) NoFreePlace
    ∷ [])

-- T2 starts
abbrev pub requested_by : AModel → ℕ → ℕ → ℕ → ARecord
requested_by s user destination service = record { tn = s.next; user = user; destination = destination; service = service_of service; state = Requested; t2 = s.settings.t2; t3 = 0; t4 = 0 }

-- gives the next number, makes a Requested record, sends Q with the service as given
abbrev pub activating : AModel → ℕ → ℕ → ℕ → AEffect
activating s user destination service = record {
  answer = requested s.next;
  change = added (requested_by s user destination service);
  busy = s.busy;
  next = s.next + 1;
  sent = requesting s.next user destination service s.settings.ra ∷ [];
}

-- Withdraw

abbrev pub withdraw_refusal : AModel → ℕ → List Values → ℕ → ℕ → Option Denial
withdraw_refusal s capacity waiting user n =
    upper
    (row (unfit_a s || not (sized capacity)) OutOfRange
    ∷ row (no_such_user user) NoSuchParty
    ∷ row (not (stands_for s user n)) NotStanding
    ∷ row (fewer_than_five capacity waiting) NoFreePlace
    ∷ [])

-- in every state, sends X with 0
abbrev pub withdrawing : AModel → ℕ → AEffect
withdrawing s n = finishes s n Withdrawn (cancelling n 0 ∷ [])

-- Answer recall

abbrev pub answer_refusal : AModel → ℕ → List Values → ℕ → ℕ → Option Denial
answer_refusal s capacity waiting user n =
    upper
    (row (unfit_a s || not (sized capacity)) OutOfRange
    ∷ row (no_such_user user) NoSuchParty
    ∷ row (not (stands_for s user n)) NotStanding
    ∷ row (not (elim (standing n s) [ Some r ↦ is_recalled r.state | None ↦ false ])) NotRecalled
    ∷ row (fewer_than_five capacity waiting) NoFreePlace
    ∷ [])

-- by whether the line is busy: Suspended and S, or Calling and C
abbrev pub answering_one : AModel → ARecord → Bool → AEffect
answering_one s r true = does s (suspended r.tn) (became (when_answered Suspended r)) (plain S r.tn ∷ [])
answering_one s r false = does s (calling r.tn) (became (when_answered Calling r)) (plain C r.tn ∷ [])

abbrev pub answering_at : AModel → ℕ → Option ARecord → AEffect
answering_at s n (Some r) = answering_one s r (line_busy s r.user)
answering_at s n None = ignores s n

abbrev pub answering : AModel → ℕ → AEffect
answering s n = answering_at s n (standing n s)

-- The user's line

abbrev pub line_busy_refusal : AModel → ℕ → Option Denial
line_busy_refusal s user = upper (row (unfit_a s) OutOfRange ∷ row (no_such_user user) NoSuchParty ∷ [])

abbrev pub line_free_refusal : AModel → ℕ → List Values → ℕ → Option Denial
line_free_refusal s capacity waiting user =
    upper (row (unfit_a s || not (sized capacity)) OutOfRange ∷ row (no_such_user user) NoSuchParty ∷ row (fewer_than_five capacity waiting) NoFreePlace ∷ [])

abbrev pub with_line : AModel → ℕ → Bool → List Bool
with_line s user busy = slice_set s.busy user busy

-- nothing can need to be resumed by it
abbrev pub line_busied : AModel → ℕ → ADone
line_busied s user = record {
  answer = done;
  side = record { settings = s.settings; places = s.places; next = s.next; busy = with_line s user true; records = s.records };
  sent = [];
}

abbrev pub line_freeing : AModel → ℕ → AEffect
line_freeing s user = record { answer = done; change = same; busy = with_line s user false; next = s.next; sent = [] }

-- Tick: one from each running timer; nothing can need to be resumed by it

abbrev pub a_tick_refusal : AModel → Option Denial
a_tick_refusal s = upper (row (unfit_a s) OutOfRange ∷ row (some a_due s.records) TimerDue ∷ [])

abbrev pub a_ticked : AModel → ADone
a_ticked s = record { answer = done; side = with_records s (map a_aged s.records); sent = [] }

-- Expiry: the lowest number first, T3 before T4

abbrev pub a_expiry_refusal : AModel → ℕ → List Values → Option Denial
a_expiry_refusal s capacity waiting =
    upper
    (row (unfit_a s || not (sized capacity)) OutOfRange
    ∷ row (not (some a_due s.records)) NoneDue
    ∷ row (fewer_than_five capacity waiting) NoFreePlace
    ∷ [])

-- T2 over ends with 6 and sends nothing; T3 over sends X with 1 and ends with 1; T4 likewise with 2
abbrev pub a_expiring_one : AModel → ARecord → AEffect
a_expiring_one s r =
    cond (due2 r) (finishes s r.tn ShortTermDenial [])
    (cond (due3 r) (finishes s r.tn T3Over (cancelling r.tn 1 ∷ []))
    (finishes s r.tn T4Over (cancelling r.tn 2 ∷ [])))

abbrev pub a_expiring_at : AModel → Option ARecord → AEffect
a_expiring_at s (Some r) = a_expiring_one s r
a_expiring_at s None = does s done same []

abbrev pub a_expiring : AModel → AEffect
a_expiring s = a_expiring_at s (first_by a_due s.records)

-- Receiving

-- R on Requested: Waiting, answer accepted
abbrev pub on_result : AModel → ARecord → AState → AEffect
on_result s r state = cond (is Requested state) (does s (accepted r.tn) (became (when_accepted s r)) []) (ignores s r.tn)

-- F on Waiting, by whether the user is CCBS-busy: Suspended and S, or Recalled
abbrev pub on_free_waiting : AModel → ARecord → Bool → AEffect
on_free_waiting s r true = does s (suspended r.tn) (became (becomes Suspended r)) (plain S r.tn ∷ [])
on_free_waiting s r false = does s (recall r.tn) (became (when_recalled s r)) []

abbrev pub on_free : AModel → ARecord → AState → AEffect
on_free s r state = cond (is Waiting state) (on_free_waiting s r (ccbs_busy s r.user)) (ignores s r.tn)

-- B with 1 on Calling: Waiting, answer kept
abbrev pub on_kept : AModel → ARecord → AState → AEffect
on_kept s r state = cond (is Calling state) (does s (kept r.tn) (became (becomes Waiting r)) []) (ignores s r.tn)

-- B, by whether it has 0: that ends the record with 9 in every state
abbrev pub on_busy : AModel → ARecord → Bool → AEffect
on_busy s r true = finishes s r.tn BusyAgain []
on_busy s r false = on_kept s r r.state

-- D ends with 8 in every state, and makes the user's line busy
abbrev pub on_done : AModel → ARecord → AEffect
on_done s r = record { answer = ended r.tn Completed; change = removed r.tn; busy = with_line s r.user true; next = s.next; sent = [] }

-- a message for a record that stands; E and X end it with their cause in every state
abbrev pub on_record : AModel → ARecord → Values → Kind → AEffect
on_record s r m R = on_result s r r.state
on_record s r m F = on_free s r r.state
on_record s r m E = finishes s r.tn (cause_of m.cause) []
on_record s r m X = finishes s r.tn (cause_of m.cause) []
on_record s r m D = on_done s r
on_record s r m B = on_busy s r (m.retention == 0)
on_record s r m Q = ignores s r.tn
on_record s r m S = ignores s r.tn
on_record s r m M = ignores s r.tn
on_record s r m C = ignores s r.tn

-- a message for a transaction that does not stand: a stray R or F is answered by X with 0
abbrev pub on_stray : AModel → Values → Kind → AEffect
on_stray s m kind = cond (same_kind kind R || same_kind kind F) (does s (stray m.tn) same (cancelling m.tn 0 ∷ [])) (ignores s m.tn)

abbrev pub a_receiving_at : AModel → Values → Option ARecord → AEffect
a_receiving_at s m (Some r) = on_record s r m m.kind
a_receiving_at s m None = on_stray s m m.kind

abbrev pub a_receiving : AModel → Values → AEffect
a_receiving s m = a_receiving_at s m (standing m.tn s)

-- deliver to A: from the channel toward A, with five places toward B
abbrev pub a_deliver_refusal : AModel → ℕ → List Values → ℕ → List Values → Option Denial
a_deliver_refusal s cap_a to_a cap_b to_b =
    upper
    (row (unfit_a s || not (sized cap_a) || not (sized cap_b)) OutOfRange
    ∷ row (length to_a == 0) NoneThere
    ∷ row (fewer_than_five cap_b to_b) NoFreePlace
    ∷ [])

-- Returned messages

-- a returned Q ends its record with 7; a returned C ends it with 10, and X with 0 is sent
abbrev pub on_returned : AModel → ARecord → Kind → AEffect
on_returned s r kind =
    cond (same_kind kind Q) (finishes s r.tn LongTermDenial [])
    (cond (same_kind kind C) (finishes s r.tn CallReturned (cancelling r.tn 0 ∷ []))
    (ignores s r.tn))

abbrev pub a_returning_at : AModel → Values → Option ARecord → AEffect
a_returning_at s m (Some r) = on_returned s r m.kind
a_returning_at s m None = ignores s m.tn

abbrev pub a_returning : AModel → Values → AEffect
a_returning s m = a_returning_at s m (standing m.tn s)

-- return to A: from the channel toward B, with five places in it
abbrev pub a_return_refusal : AModel → ℕ → List Values → Option Denial
a_return_refusal s cap_b to_b =
    upper
    (row (unfit_a s || not (sized cap_b)) OutOfRange
    ∷ row (length to_b == 0) NoneThere
    ∷ row (fewer_than_five cap_b to_b) NoFreePlace
    ∷ [])
