use Rattle.std.proofs.Common.{◌≡◌, ◌≤◌, take}
use Rattle.tables.specs.Tables.{times}
use Rattle.originating.specs.Words.{of_user}
use Rattle.originating.proofs.looks.count_of.Given as goal

abbrev pub invariant-loop-request : goal.invariant-loop-request
invariant-loop-request l = record {
  counted : l.count ≡ times (of_user l.user) (take l.request-index l.records);
  few : l.count ≤ l.request-index;
}
