use Rattle.std.proofs.Common.{◌≡◌, ℕ, ◌<◌, false, length, get_or, refl, ap, ◌∙◌, arith}
use Rattle.waiting_line.specs.Searches.{some}
use Rattle.originating.specs.Words.{engages}
use Rattle.originating.specs.Calls.{fit_of}
use Rattle.originating.proofs.Kept.{became_with}
use Rattle.originating.proofs.Wakes.{turn_asleep, turn_woken}
use Rattle.originating.proofs.side.Fit.resume.Goals as goal
use Rattle.originating.proofs.side.Fit.resume.Goals.{then-is_resumable, else-is_resumable}

pub loop-place-preserved : goal.loop-place-preserved
loop-place-preserved g c =
    let ch = g.C.Channel in
    let i = c.loop-place.place in
    let mid = c.loop-place.self in
    let all = c.all-in-loop-place.result.now in
    let entry = c.args.self.now in
    let here : i < length (fit_of entry).records = omega (arith, c.loop-place-test.true, c.len-place-end.ensures.length) in
    let noted : (u : ℕ) → u < 256 → get_or c.engaged_users-engaged.result u false ≡ some (engages u) (fit_of entry).records = λ u h. c.engaged_users-engaged.ensures u h ∙ ap (some (engages u)) c.all.ensures in
    elim c.if-is_resumable.branch [
      | then-is_resumable w ↦
          rw (w.self-is, w.to_b-is)
          (turn_woken entry i here ch.capacity ch.waiting c.args.to_b.now c.loop-place.invariant all _ c.all-in-loop-place.ensures
          (w.if-is_resumable.ensures (fit_of entry).records noted)
          (became_with mid _ _ refl refl refl w.replace.ensures.holds)
          (rw w.plain.ensures at w.post.ensures))
      | else-is_resumable w ↦
          rw (w.self-is, w.to_b-is)
          (turn_asleep entry i here ch.capacity ch.waiting c.args.to_b.now c.loop-place.invariant all _ c.all-in-loop-place.ensures
          (w.if-is_resumable.ensures (fit_of entry).records noted))
    ]
