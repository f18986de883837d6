-- The numbers of the forwardings.
-- Those that turn a request away are told in the rules.
use Rattle.std.specs.Prelude.{ℕ, cond, ◌==◌}
use Rattle.b_side.specs.declared.forwarding.Forwarding.{Forwarding}
use Rattle.b_side.specs.declared.forwarding.Forwarding.TheVariants.{None, Busy, NoReply, Unconditional}

abbrev pub forwarding_number : Forwarding → ℕ
forwarding_number None = 0
forwarding_number Busy = 1
forwarding_number NoReply = 2
forwarding_number Unconditional = 3

-- the forwarding of a number; one above 3 gives none
abbrev pub forwarding_of : ℕ → Forwarding
forwarding_of n = cond (n == 1) Busy (cond (n == 2) NoReply (cond (n == 3) Unconditional None))
