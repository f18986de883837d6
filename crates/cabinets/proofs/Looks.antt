-- To compare two looks at channels is to compare the values that they show.
use Rattle.std.proofs.Common.{◌≡◌, ℕ, ◌+◌, ◌-◌, ◌^◌, min, true, if◌then◌else◌, Option, None, Some, subst, rules, tests}
use Rattle.std.specs.Option.{option_eq}
use Rattle.messages.specs.declared.message.Message.{Message}
use Rattle.messages.specs.declared.values.Values.{Values}
use Rattle.messages.specs.contracts.message.MessagePartialEq.TheImpl as message_eq
use Rattle.channels.specs.Meaning.{seen}
use Rattle.cabinets.specs.Calls.{Compared}

same_values : (m n : Message) → message_eq.eq-value.it m n ≡ true → m.values ≡ n.values
same_values m n e = search (tests, rules)

equal_to_values : (m n : Message) → m.values ≡ n.values → message_eq.eq-value.it m n ≡ true
equal_to_values m n e = search (tests, rules)

values_compared : (one other : Option Message) (old new : ℕ) → new ≡ (if option_eq message_eq.eq-value.it one other then old else min (old + 1) (2 ^ 64 - 1)) → Compared (seen one) (seen other) old new
values_compared None None old new e = search (tests, rules)
values_compared None (Some n) old new e = search (tests, rules)
values_compared (Some m) None old new e = search (tests, rules)
values_compared (Some m) (Some n) old new e = search (tests, rules, same_values m n, equal_to_values m n)

pub looks_compared : (one other : Option Message) (shown other_shown : Option Values) (old new : ℕ) → seen one ≡ shown → seen other ≡ other_shown → new ≡ (if option_eq message_eq.eq-value.it one other then old else min (old + 1) (2 ^ 64 - 1)) → Compared shown other_shown old new
looks_compared one other shown other_shown old new p q e = subst (λ o. Compared o other_shown old new) p (subst (λ o. Compared (seen one) o old new) q (values_compared one other old new e))
