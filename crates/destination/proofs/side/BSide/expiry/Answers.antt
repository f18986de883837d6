use Rattle.std.proofs.Common.{ap, ◌∙◌}
use Rattle.b_side.specs.Rules.{BModel, BEffect, b_expiry_refusal, b_expiring, accept}
use Rattle.destination.specs.Sides.{fit_of}
use Rattle.destination.proofs.Dues.{expiring_due}
use Rattle.destination.proofs.Ends.{granted, granted_sent, acted_as, did_accepted, took_as}
use Rattle.destination.proofs.side.BSide.expiry.Goals as goal

pub returns : goal.returns
returns g c =
    let ch = g.C.Channel in
    let before = c.args.to_a.now in
    let entry = c.args.self.now in
    let s = c.in-Ok.side in
    let due = c.in_ok-due.ensures in
    let refusal = λ (m : BModel). b_expiry_refusal m (ch.capacity before) (ch.waiting before) in
    let done = λ (m : BModel). accept m (b_expiring m) in
    let same = expiring_due (fit_of s) c.in_ok-due.due due.due in
    let sent = ap (λ (e : BEffect). e.sent) same ∙ granted_sent entry s refusal done c.in-Ok.is due.refusal in
    record {
      came = granted entry s _ refusal done _ c.in-Ok.is due.refusal (did_accepted s _ _ _ (b_expiring (fit_of s)) _ (acted_as s _ _ _ _ same c.expire-answer.ensures.acted) c.guards-ran.ensures c.settle.ensures);
      took = took_as sent c.expire-answer.ensures.took;
    }
