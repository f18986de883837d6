-- Which seven values are a lawful message: what each kind's numbers may be, 0 where the kind does not use one.
-- A message is made of its values exactly if they are lawful.
use Rattle.std.specs.Prelude.{ℕ, Bool, ◌&&◌, nat_le}
use Rattle.messages.specs.declared.kind.Kind.{Kind}
use Rattle.messages.specs.declared.kind.Kind.TheVariants.{Request, Suspend, Resume, Call, Cancel, Result, Error, RemoteUserFree, CallDone, CallBusy}
use Rattle.messages.specs.declared.limits.Limits.{Limits}
use Rattle.messages.specs.declared.values.Values.{Values}

-- the largest user and destination, service and retention; the least and the largest cause
abbrev limits : ℕ → ℕ → ℕ → ℕ → ℕ → Limits
limits party service retention least most = record { party = party; service = service; retention = retention; least_cause = least; most_cause = most }

abbrev pub limits_of : Kind → Limits
limits_of Request = limits 63 3 1 0 0
limits_of Suspend = limits 0 0 0 0 0
limits_of Resume = limits 0 0 0 0 0
limits_of Call = limits 0 0 0 0 0
limits_of Cancel = limits 0 0 0 0 4
limits_of Result = limits 0 0 1 0 0
limits_of Error = limits 0 0 0 6 7
limits_of RemoteUserFree = limits 0 0 0 0 0
limits_of CallDone = limits 0 0 0 0 0
limits_of CallBusy = limits 0 0 1 0 0

abbrev pub is_lawful : Values → Bool
is_lawful v =
    let most = limits_of v.kind in
    nat_le 1 v.tn && nat_le v.tn 4294967295
    && nat_le v.user most.party && nat_le v.destination most.party && nat_le v.service most.service
    && nat_le v.retention most.retention && nat_le most.least_cause v.cause && nat_le v.cause most.most_cause
