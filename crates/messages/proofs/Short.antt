-- A lawful message's line is at most 46 bytes long.
use Rattle.std.proofs.Common.{◌≡◌, ◌≤◌, true, length, decimal, arith, length-append}
use Rattle.std.proofs.lemmas.Fmt.{length-decimal-le}
use Rattle.messages.specs.declared.values.Values.{Values}
use Rattle.messages.specs.Lawful.{is_lawful}
use Rattle.messages.specs.Wire.{line_of}
use Rattle.messages.proofs.Bounds.{Within, bounds}

-- the digits that each number takes
pub record Digits (v : Values) : Type 0 where
  pub tn : length (decimal v.tn) ≤ 10
  pub user : length (decimal v.user) ≤ 2
  pub destination : length (decimal v.destination) ≤ 2
  pub service : length (decimal v.service) ≤ 1
  pub retention : length (decimal v.retention) ≤ 1
  pub cause : length (decimal v.cause) ≤ 1

pub digits : (v : Values) → Within v → Digits v
digits v w = record {
  tn = length-decimal-le 10 v.tn (omega arith) (omega arith) (omega arith);
  user = length-decimal-le 2 v.user (omega arith) (omega arith) (omega arith);
  destination = length-decimal-le 2 v.destination (omega arith) (omega arith) (omega arith);
  service = length-decimal-le 1 v.service (omega arith) (omega arith) (omega arith);
  retention = length-decimal-le 1 v.retention (omega arith) (omega arith) (omega arith);
  cause = length-decimal-le 1 v.cause (omega arith) (omega arith) (omega arith);
}

pub line_short : (v : Values) → is_lawful v ≡ true → length (line_of v) ≤ 46
line_short v lawful = let d = digits v (bounds v lawful) in simp length-append (omega arith)
