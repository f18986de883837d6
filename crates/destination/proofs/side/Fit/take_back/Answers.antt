use Rattle.destination.proofs.Ends.{did_accepted}
use Rattle.destination.proofs.side.Fit.take_back.Goals as goal

pub returns : goal.returns
returns c = did_accepted c.args.self.now _ _ _ _ _ c.regain-answer.ensures c.guards-ran.ensures c.settle.ensures
