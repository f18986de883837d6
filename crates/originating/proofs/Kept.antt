-- The side through one change and through two: what stands past the last record stays.
use Rattle.std.proofs.Common.{◌≡◌, List, length, arith}
use Rattle.std.proofs.lemmas.Grind.{common_steps}
use Rattle.waiting_line.specs.Lines.{Holds}
use Rattle.a_side.specs.declared.record.ARecord.{ARecord}
use Rattle.a_side.specs.Rules.{AModel, with_records}
use Rattle.originating.specs.declared.side.ASide.{ASide}
use Rattle.originating.specs.declared.side.Fit.{Fit}
use Rattle.originating.specs.Calls.{fit_of, working, Became}

-- other records
pub became_with : (entry exit : Fit) (rs : List ARecord) → exit.settings ≡ entry.settings → exit.next ≡ entry.next → exit.busy ≡ entry.busy → Holds entry.records rs exit.records → Became (working entry) (with_records (fit_of entry) rs) (working exit)
became_with entry exit rs settings next busy left = grind (arith, common_steps)

pub became_both : {entry mid exit : ASide} {s t : AModel} → length s.records ≡ length t.records → Became entry s mid → Became mid t exit → Became entry t exit
became_both {entry} {mid} {exit} {s} {t} long first second = grind (arith, common_steps)
