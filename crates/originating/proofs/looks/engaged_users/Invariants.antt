use Rattle.std.proofs.Common.{◌≡◌, ℕ, ◌<◌, false, length, get_or, take}
use Rattle.waiting_line.specs.Searches.{some}
use Rattle.originating.specs.Words.{engages}
use Rattle.originating.proofs.looks.engaged_users.Given as goal

abbrev pub invariant-loop-request : goal.invariant-loop-request
invariant-loop-request l = record {
  noted : (u : ℕ) → u < 256 → get_or l.engaged u false ≡ some (engages u) (take l.request-index l.records);
  long : length l.engaged ≡ 256;
}
