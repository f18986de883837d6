-- The causes of a line's faults: 1 another text, 2 no number, 3 a number beyond its field, 4 no line end where one belongs.
-- Each fault tells its byte and the key of its field; a number's fault becomes a line's whole, with the key beside it.
use Rattle.std.specs.Prelude.{ℕ, Result}
use Rattle.lines.specs.declared.number.NumberFault.{NumberFault}
use Rattle.lines.specs.declared.fault.Fault.{Fault}
use Rattle.lines.specs.declared.fault.Fault.TheVariants.{Text, Number, End}
use Rattle.lines.specs.declared.fault.Keyed.{Keyed}
use Rattle.lines.specs.Numbers.{number_cause}
use Rattle.lines.specs.Results.{on_err}

-- a line's fault, with its key
abbrev pub LineFault : Type 0 → Type 0
LineFault K = Keyed K Fault

abbrev pub fault_cause : Fault → ℕ
fault_cause (Text at) = 1
fault_cause (Number fault) = number_cause fault.cause
fault_cause (End at) = 4

abbrev pub fault_place : Fault → ℕ
fault_place (Text at) = at
fault_place (Number fault) = fault.at
fault_place (End at) = at

abbrev pub text_fault : {K : Type 0} → K → ℕ → LineFault K
text_fault key at = record { key = key; fault = Text at }

abbrev pub end_fault : {K : Type 0} → K → ℕ → LineFault K
end_fault key at = record { key = key; fault = End at }

abbrev pub keyed : {K T : Type 0} → K → Result T NumberFault → Result T (Keyed K NumberFault)
keyed key r = on_err (λ fault. record { key = key; fault = fault }) r

abbrev pub line_fault : {K : Type 0} → Keyed K NumberFault → LineFault K
line_fault k = record { key = k.key; fault = Number k.fault }
