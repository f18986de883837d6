-- What a backplane means: its waiting messages are the records that its waiting line holds, and each place is for one.
-- Its promises tell the whole of its memory too, so that what stays past the records is known.
use Rattle.std.specs.Prelude.{◌≡◌, ℕ, ◌≤◌, true, List, [], ◌∷◌, map, length}
use Rattle.std.proofs.Common.{sym, ◌∙◌, subst}
use Rattle.std.proofs.Math.Nat.{min-le_right}
use Rattle.std.proofs.lemmas.List.{length-map, length-take}
use Rattle.std.specs.List.{AllByRecursion}
use Rattle.messages.specs.declared.message.Message.{Message}
use Rattle.messages.specs.declared.values.Values.{Values}
use Rattle.messages.specs.Lawful.{is_lawful}
use Rattle.waiting_line.specs.Lines.{memory, items, capacity}
use Rattle.channels.specs.declared.backplane.Backplane.{Backplane}

-- the values that the messages say
abbrev pub values_of : List Message → List Values
values_of = map (λ (m : Message). m.values)

-- the records that it holds
abbrev pub records : Backplane → List Message
records c = items c.line

-- all that was given to it
abbrev pub back_memory : Backplane → List Message
back_memory c = memory c.line

abbrev pub back_capacity : Backplane → ℕ
back_capacity c = capacity c.line

abbrev pub back_waiting : Backplane → List Values
back_waiting c = values_of (records c)

pub back_fits : (c : Backplane) → length (back_waiting c) ≤ back_capacity c
back_fits c =
    let Fitting : ℕ → Type 0 = λ n. n ≤ back_capacity c in
    subst Fitting (sym (length-map (records c) (λ (m : Message). m.values) ∙ length-take c.line.used (back_memory c))) (min-le_right c.line.used (back_capacity c))

all_lawful : (ms : List Message) → AllByRecursion (λ v. is_lawful v ≡ true) (values_of ms)
all_lawful [] = tt
all_lawful (m ∷ ms) = (m.lawful, all_lawful ms)

pub back_lawful : (c : Backplane) → AllByRecursion (λ v. is_lawful v ≡ true) (back_waiting c)
back_lawful c = all_lawful (records c)
