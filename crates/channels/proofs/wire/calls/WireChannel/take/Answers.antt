use Rattle.std.proofs.Common.{◌/◌, sym, ap, ◌∙◌, arith}
use Rattle.channels.specs.Meaning.{seen}
use Rattle.channels.proofs.WireSteps.{take_settled}
use Rattle.channels.proofs.wire.calls.WireChannel.take.Goals as goal

pub invariant_of-self : goal.invariant_of-self
invariant_of-self c =
    let w = c.args.self.now in
    let some = sym (ap seen c.in_ok-message.ensures.ok_part) ∙ c.look.ensures in
    let so = take_settled w c.in_ok-message.message _ _ _ some c.all.ensures c.first_line-len.ensures c.remove_first.ensures.items in
    record { lines = so.lines; counted = so.counted; fits = omega (arith, w.fits, c.remove_first.ensures.capacity) }

pub returns-clause-leaves : goal.returns-clause-leaves
returns-clause-leaves c =
    let some = sym (ap seen c.in_ok-message.ensures.ok_part) ∙ c.look.ensures in
    let so = take_settled c.args.self.now c.in_ok-message.message _ _ _ some c.all.ensures c.first_line-len.ensures c.remove_first.ensures.items in
    record { waiting = so.waiting; capacity = ap (λ n. n / 46) c.remove_first.ensures.capacity }
