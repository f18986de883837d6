use Rattle.std.proofs.Common.{false, refl}
use Rattle.std.proofs.lemmas.List.{get_or-replicate}
use Rattle.destination.proofs.side.guards.noted.Goals as goal

pub loop-record-init : goal.loop-record-init
loop-record-init c = record {
  queued = record { long = refl; each = λ b l. get_or-replicate 64 b false false l };
  recalling = record { long = refl; each = λ b l. get_or-replicate 64 b false false l };
}
