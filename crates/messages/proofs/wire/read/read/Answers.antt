use Rattle.std.proofs.Common.{◌≡◌, ℕ, List, IfOk, Ok, Err, Result, sym, ap, ◌∙◌}
use Rattle.messages.specs.declared.message.Message.{Message}
use Rattle.messages.specs.declared.wire.unread.Unread.{Unread}
use Rattle.messages.specs.Made.{said}
use Rattle.messages.specs.Wire.{line_of}
use Rattle.messages.specs.Parts.{reading_of}
use Rattle.messages.proofs.Trip.{trip}
use Rattle.messages.proofs.wire.read.read.Goals as goal

sound : (line : List ℕ) (r : Result Message Unread) → said r ≡ reading_of line → IfOk r (λ m. line ≡ line_of m.values)
sound line (Ok m) e = (trip.only line m.values (sym e)).0
sound line (Err u) e = tt

pub returns : goal.returns
returns c = record {
  value = c.decode.ensures;
  sound = sound c.args.line.now c.decode.result c.decode.ensures;
  complete = λ v lawful e. c.decode.ensures ∙ ap reading_of e ∙ trip.back v lawful;
}
