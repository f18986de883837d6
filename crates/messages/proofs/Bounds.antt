-- The numbers of a lawful message are small enough for its line.
use Rattle.std.proofs.Common.{◌≡◌, ◌≤◌, true, arith}
use Rattle.std.proofs.lemmas.Bool.Decides.{nat_tests}
use Rattle.messages.specs.declared.kind.Kind.{Kind}
use Rattle.messages.specs.declared.kind.Kind.TheVariants.{Request, Suspend, Resume, Call, Cancel, Result, Error, RemoteUserFree, CallDone, CallBusy}
use Rattle.messages.specs.declared.limits.Limits.{Limits}
use Rattle.messages.specs.declared.values.Values.{Values}
use Rattle.messages.specs.Lawful.{limits_of, is_lawful}

pub record Within (v : Values) : Type 0 where
  pub tn : v.tn ≤ 4294967295
  pub user : v.user ≤ 99
  pub destination : v.destination ≤ 99
  pub service : v.service ≤ 9
  pub retention : v.retention ≤ 9
  pub cause : v.cause ≤ 9

record Small (l : Limits) : Type 0 where
  pub party : l.party ≤ 99
  pub service : l.service ≤ 9
  pub retention : l.retention ≤ 9
  pub cause : l.most_cause ≤ 9

small : (k : Kind) → Small (limits_of k)
small Request = record { party = omega arith; service = omega arith; retention = omega arith; cause = omega arith }
small Suspend = record { party = omega arith; service = omega arith; retention = omega arith; cause = omega arith }
small Resume = record { party = omega arith; service = omega arith; retention = omega arith; cause = omega arith }
small Call = record { party = omega arith; service = omega arith; retention = omega arith; cause = omega arith }
small Cancel = record { party = omega arith; service = omega arith; retention = omega arith; cause = omega arith }
small Result = record { party = omega arith; service = omega arith; retention = omega arith; cause = omega arith }
small Error = record { party = omega arith; service = omega arith; retention = omega arith; cause = omega arith }
small RemoteUserFree = record { party = omega arith; service = omega arith; retention = omega arith; cause = omega arith }
small CallDone = record { party = omega arith; service = omega arith; retention = omega arith; cause = omega arith }
small CallBusy = record { party = omega arith; service = omega arith; retention = omega arith; cause = omega arith }

pub bounds : (v : Values) → is_lawful v ≡ true → Within v
bounds v lawful =
    let s = small v.kind in
    record { tn = grind (arith, nat_tests); user = grind (arith, nat_tests); destination = grind (arith, nat_tests); service = grind (arith, nat_tests); retention = grind (arith, nat_tests); cause = grind (arith, nat_tests) }
