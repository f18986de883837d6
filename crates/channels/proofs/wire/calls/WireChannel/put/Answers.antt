use Rattle.std.proofs.Common.{◌/◌, ap, ◌∙◌, arith}
use Rattle.channels.proofs.WireSteps.{line_not_denied, put_settled}
use Rattle.channels.proofs.wire.calls.WireChannel.put.Goals as goal

pub returns-in_err-put_all : goal.returns-in_err-put_all
returns-in_err-put_all c =
    absurd (line_not_denied c.args.self.now c.args.message _ _ c.capacity.ensures c.if-self-capacity.false (c.as_bytes.ensures ∙ c.write.ensures) _ c.in_err-put_all.ensures.answer)

pub invariant_of-self-2 : goal.invariant_of-self-2
invariant_of-self-2 c =
    let w = c.args.self.now in
    let so = put_settled w c.args.message _ _ c.capacity.ensures c.if-self-capacity.false (c.as_bytes.ensures ∙ c.write.ensures) _ c.put_all.ensures.holds.items in
    record { lines = so.lines; counted = so.counted; fits = omega (arith, w.fits, c.put_all.ensures.holds.capacity) }

pub returns-clause-leaves : goal.returns-clause-leaves
returns-clause-leaves c =
    let so = put_settled c.args.self.now c.args.message _ _ c.capacity.ensures c.if-self-capacity.false (c.as_bytes.ensures ∙ c.write.ensures) _ c.put_all.ensures.holds.items in
    record { waiting = so.waiting; capacity = ap (λ n. n / 46) c.put_all.ensures.holds.capacity }
