use Rattle.tables.proofs.Tables.{first_passes}
use Rattle.a_side.specs.Rules.{a_tn, a_due}
use Rattle.originating.specs.Calls.{fit_of}
use Rattle.originating.proofs.side.ASide.expiry.Goals as goal

pub expire-answer-requires : goal.expire-answer-requires
expire-answer-requires g c = first_passes a_tn 0 a_due (fit_of c.in-Ok.side).records _ c.in_ok-request.ensures.due
