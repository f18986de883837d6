use Rattle.std.proofs.Common.{◌+◌, ◌<◌, length, ap, ◌∙◌, arith}
use Rattle.std.proofs.lemmas.List.{drop-drop}
use Rattle.channels.specs.Meaning.{taken, rest}
use Rattle.channels.proofs.Carries.{some_waits, put_next}
use Rattle.channels.proofs.carriage.carry.Goals as goal
use Rattle.channels.proofs.carriage.carry.Goals.{in-Ok, in_default}

pub loop-preserved : goal.loop-preserved
loop-preserved g c =
    let P = g.P.Channel in
    let C = g.C.Channel in
    let ws = P.waiting c.args.from.now in
    let vs = C.waiting c.args.to.now in
    let k = c.loop.counter in
    let here : k < length ws = omega arith in
    let so = c.loop.invariant in
    elim c.match-take.branch [
      | in-Ok w ↦
          let got = w.in-Ok.ensures.answer ∙ ap taken so.from.waiting in
          let free : length vs + k < C.capacity c.loop.to = omega (arith, so.to.capacity) in
          let put = w.put.ensures.leaves in
          record {
            from = record { waiting = c.take.ensures.leaves.waiting ∙ ap rest so.from.waiting ∙ drop-drop 1 k ws; capacity = c.take.ensures.leaves.capacity ∙ so.from.capacity };
            to = rw w.to-is (record { waiting = put_next ws vs (C.waiting c.loop.to) _ k (C.capacity c.loop.to) _ here free got so.to.waiting put.waiting; capacity = put.capacity ∙ so.to.capacity });
          }
      | in_default w ↦ absurd (some_waits ws k _ here (w.in_default.ensures.answer ∙ ap taken so.from.waiting))
    ]
