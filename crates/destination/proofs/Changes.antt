-- A side that keeps its records, and one whose lines are changed.
use Rattle.std.proofs.Common.{◌≡◌, List, length, sym, refl, ap, ◌∙◌, ◌≤◌, rules}
use Rattle.waiting_line.specs.Gaps.{over}
use Rattle.waiting_line.specs.Lines.{memory, items, capacity}
use Rattle.waiting_line.proofs.Fronts.{front_over}
use Rattle.b_side.specs.declared.record.BRecord.{BRecord}
use Rattle.b_side.specs.declared.line.LineFacts.{LineFacts}
use Rattle.destination.specs.declared.side.Fit.{Fit}
use Rattle.destination.specs.Sides.{Held}
use Rattle.destination.specs.Calls.{Lined}

pub kept_same : (s : Fit) → Held s s
kept_same s = front_over s.records.used (memory s.records) (items s.records) refl

-- as many lines as the settings tell, and few
pub as_many : (s : Fit) → length s.lines.now ≡ s.settings.n
as_many s = search rules

pub few : (s : Fit) → length s.lines.now ≤ 64
few s = search rules

module _ (s : Fit) where
  abbrev rs : List BRecord
  rs = items s.records

  abbrev mem : List BRecord
  mem = memory s.records

  module _ (after : Fit) (settings : after.settings ≡ s.settings) where
    pub lined_to : (lines : List LineFacts) → after.records ≡ s.records → after.lines.now ≡ lines → Lined lines s after
    lined_to lines r l = record {
      side = λ i. record { settings = settings i; places = capacity (r i); lines = l i; records = items (r i) };
      memory = ap (λ w. memory w) r ∙ kept_same s ∙ ap (λ w. over (items w) mem) (sym r);
    }
