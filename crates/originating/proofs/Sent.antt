-- Messages sent one after another.
use Rattle.std.proofs.Common.{ℕ, List, ◌++◌, arith}
use Rattle.std.proofs.lemmas.Grind.{common_steps}
use Rattle.messages.specs.declared.values.Values.{Values}
use Rattle.channels.specs.Meaning.{Takes}

pub took_both : {C : Type 0} {capacity_of : C → ℕ} {waiting_in : C → List Values} {before mid after : C} (ps qs : List Values) → Takes capacity_of waiting_in before ps mid → Takes capacity_of waiting_in mid qs after → Takes capacity_of waiting_in before (ps ++ qs) after
took_both ps qs first second = grind (arith, common_steps)
