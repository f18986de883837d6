-- What a wire means: its waiting messages are those that the lines in its used bytes say, and each 46 bytes of its memory,
-- the bytes of the longest line, are a place.
use Rattle.std.specs.Prelude.{◌≡◌, ℕ, ◌/◌, ◌≤◌, true, List, length}
use Rattle.std.proofs.Common.{sym, subst}
use Rattle.std.specs.List.{AllByRecursion}
use Rattle.messages.specs.declared.values.Values.{Values}
use Rattle.messages.specs.Lawful.{is_lawful}
use Rattle.waiting_line.specs.Lines.{memory, items, capacity}
use Rattle.channels.specs.declared.wire.Wire.{Wire}
use Rattle.channels.specs.Lined.{messages_in, messages_lawful}

-- all that was given to it
abbrev pub wire_memory : Wire → List ℕ
wire_memory w = memory w.bytes

abbrev pub wire_capacity : Wire → ℕ
wire_capacity w = capacity w.bytes / 46

abbrev pub wire_waiting : Wire → List Values
wire_waiting w = messages_in w.count (items w.bytes)

pub wire_fits : (w : Wire) → length (wire_waiting w) ≤ wire_capacity w
wire_fits w = let Fitting : ℕ → Type 0 = λ n. n ≤ wire_capacity w in subst Fitting (sym w.counted) w.fits

pub wire_lawful : (w : Wire) → AllByRecursion (λ v. is_lawful v ≡ true) (wire_waiting w)
wire_lawful w = messages_lawful w.count (items w.bytes)
