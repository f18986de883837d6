use Rattle.std.proofs.Common.{refl}
use Rattle.lines.specs.Readings as readings
use Rattle.messages.specs.Parts as parts
use Rattle.agreement.proofs.edges_hold.Goals as goal

-- every case is computed
pub returns : goal.returns
unfolding readings.text_at readings.letter_at readings.number_at readings.field_at readings.end_at parts.kind_at
returns c = refl
