-- One place toward A suffices: a call of B's sends at most one message, and a return none.
use Rattle.std.proofs.Common.{◌≡◌, ℕ, ◌≤◌, Bool, true, false, ◌||◌, [], ◌∷◌, length, Some, None, Option, refl, arith}
use Rattle.answers.specs.declared.cause.Cause.{Cause}
use Rattle.answers.specs.declared.cause.Cause.TheVariants.{T7Over, T9Over, MessageReturned}
use Rattle.std.proofs.lemmas.Bool.{cond_both}
use Rattle.tables.specs.Tables.{first_by}
use Rattle.messages.specs.declared.kind.Kind.{Kind}
use Rattle.messages.specs.declared.kind.Kind.TheVariants.{Request as Q, Suspend as S, Resume as M, Call as C, Cancel as X, Result as R, Error as E, RemoteUserFree as F, CallDone as D, CallBusy as B}
use Rattle.messages.specs.declared.values.Values.{Values}
use Rattle.b_side.specs.declared.record.BState.{BState}
use Rattle.b_side.specs.declared.record.BState.TheVariants.{Queued, Suspended, Recalling}
use Rattle.b_side.specs.declared.record.BRecord.{BRecord}
use Rattle.messages.specs.Sent.{cancelling, same_kind}
use Rattle.b_side.specs.Rules.{BModel, BEffect, finishes, ignores, b_due, due7, stored_as, b_expiring, b_expiring_at, b_expiring_one, recalling_first, recalling_one, guard_over, queued_at, b_receiving, b_receiving_at, b_returning, b_returning_at, on_record, on_none, on_new, objection, on_suspend, on_resume, on_call, called_at, found_busy, on_returned, line}

abbrev One : BEffect → Type 0
One e = length e.sent ≤ 1

abbrev NoneSent : BEffect → Type 0
NoneSent e = length e.sent ≡ 0

module _ (s : BModel) where
  module _ (r : BRecord) (m : Values) where
    on_s : (st : BState) → One (on_suspend s r st)
    on_s Queued = omega arith
    on_s Suspended = omega arith
    on_s Recalling = omega arith

    on_m : (st : BState) → One (on_resume s r st)
    on_m Queued = omega arith
    on_m Suspended = omega arith
    on_m Recalling = omega arith

    busy : (b : Bool) → One (found_busy s r b)
    busy true = omega arith
    busy false = omega arith

    called : (b : Bool) → One (called_at s r b)
    called true = busy r.retention
    called false = omega arith

    on_c : (st : BState) → One (on_call s r st)
    on_c Queued = omega arith
    on_c Suspended = omega arith
    on_c Recalling = called (line s r.destination).busy

    heard : (k : Kind) → One (on_record s r m k)
    heard Q = omega arith
    heard S = on_s r.state
    heard M = on_m r.state
    heard C = on_c r.state
    heard X = omega arith
    heard R = omega arith
    heard E = omega arith
    heard F = omega arith
    heard D = omega arith
    heard B = omega arith

    comes : (k : Kind) → NoneSent (on_returned s r k)
    comes k = cond_both (same_kind k R || same_kind k F) (finishes s r.tn MessageReturned []) (ignores s r.tn) NoneSent (λ _. refl) (λ _. refl)

  new : (m : Values) (o : Option Cause) → One (on_new s m o)
  new m None = omega arith
  new m (Some c) = omega arith

  unheard : (m : Values) (k : Kind) → One (on_none s m k)
  unheard m k = cond_both (same_kind k Q) (on_new s m (objection s m)) (ignores s m.tn) One (λ _. new m (objection s m)) (λ _. omega arith)

  at : (m : Values) (o : Option BRecord) → One (b_receiving_at s m o)
  at m None = unheard m m.kind
  at m (Some r) = heard r m m.kind

  pub one_heard : (m : Values) → length (b_receiving s m).sent ≤ 1
  one_heard m = at m (stored_as m.tn s)

  back : (m : Values) (o : Option BRecord) → NoneSent (b_returning_at s m o)
  back m None = refl
  back m (Some r) = comes r m m.kind

  pub none_returned : (m : Values) → length (b_returning s m).sent ≡ 0
  none_returned m = back m (stored_as m.tn s)

  over : (r : BRecord) → One (b_expiring_one s r)
  over r = cond_both (due7 r) (finishes s r.tn T7Over (cancelling r.tn 3 ∷ [])) (finishes s r.tn T9Over (cancelling r.tn 4 ∷ [])) One (λ _. omega arith) (λ _. omega arith)

  recalls : (o : Option BRecord) → One (recalling_one s o)
  recalls None = omega arith
  recalls (Some r) = omega arith

  guards : (o : Option ℕ) → One (recalling_first s o)
  guards None = omega arith
  guards (Some b) = recalls (first_by (queued_at b) s.records)

  due : (o : Option BRecord) → One (b_expiring_at s o)
  due None = guards (guard_over 0 s.records s.lines)
  due (Some r) = over r

  pub one_expired : length (b_expiring s).sent ≤ 1
  one_expired = due (first_by b_due s.records)
