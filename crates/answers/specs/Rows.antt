-- The table of denials: the rows that apply to a call, in their order, and the ranges that they test.
-- Every call's refusal is one list of such rows.
use Rattle.std.specs.Prelude.{ℕ, Bool, true, false, ◌&&◌, List, [], ◌∷◌, Some, None, Ok, Err, Option, Result, nat_le}
use Rattle.answers.specs.declared.denial.Denial.{Denial}
use Rattle.answers.specs.declared.denial.Denial.TheVariants.{OutOfRange}

-- a row of the table, if it applies
abbrev pub row : Bool → Denial → Option Denial
row true e = Some e
row false e = None

-- of several rows that apply, the upper decides
abbrev pub upper : List (Option Denial) → Option Denial
upper [] = None
upper (Some e ∷ rest) = Some e
upper (None ∷ rest) = upper rest

-- the denial that was told, if any
abbrev pub denied : {X : Type 0} → Result X Denial → Option Denial
denied (Ok x) = None
denied (Err denial) = Some denial

abbrev pub within : ℕ → ℕ → ℕ → Bool
within low high n = nat_le low n && nat_le n high

-- a timer's ticks
abbrev pub timed : ℕ → Bool
timed ticks = within 1 60000 ticks

-- a limit of requests
abbrev pub limited : ℕ → Bool
limited most = within 1 5 most

-- a setting that is off or on
abbrev pub switched : ℕ → Bool
switched setting = nat_le setting 1

-- the record places of a side
abbrev pub placed : ℕ → Bool
placed places = within 1 320 places

-- the messages that a channel can hold
abbrev pub sized : ℕ → Bool
sized capacity = within 8 64 capacity

-- the test that comes before a side is made
abbrev pub examined : Bool → Result (Unit {0}) Denial
examined true = Ok tt
examined false = Err OutOfRange
