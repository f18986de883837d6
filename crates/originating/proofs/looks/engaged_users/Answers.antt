use Rattle.std.proofs.Common.{false}
use Rattle.std.proofs.lemmas.List.{get_or-replicate, length-replicate}
use Rattle.originating.proofs.looks.engaged_users.Goals as goal

pub loop-request-init : goal.loop-request-init
loop-request-init c = record { noted = λ u h. get_or-replicate 256 u false false h; long = length-replicate 256 false }
