use Rattle.std.proofs.Common.{ap, ◌∙◌}
use Rattle.messages.specs.Parts.{reading_of}
use Rattle.channels.specs.Lined.{first_line}
use Rattle.channels.specs.Meaning.{seen}
use Rattle.channels.specs.Wires.{wire_waiting, wire_lawful}
use Rattle.channels.proofs.Wired.{first_seen}
use Rattle.channels.proofs.wire.calls.WireChannel.look.Goals as goal

pub returns : goal.returns
returns c =
    let w = c.args.self.now in
    let line = c.first_line.ensures ∙ ap first_line (c.all.ensures ∙ w.lines) in
    ap seen c.ok.ensures.value ∙ first_seen (wire_waiting w) c.read.result (wire_lawful w) (c.read.ensures.value ∙ ap reading_of line)
