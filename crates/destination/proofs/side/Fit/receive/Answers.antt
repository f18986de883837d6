use Rattle.destination.proofs.Ends.{did_accepted}
use Rattle.destination.proofs.side.Fit.receive.Goals as goal

pub returns : goal.returns
returns g c = record {
  did = did_accepted c.args.self.now _ _ _ _ _ c.hear-answer.ensures.acted c.guards-ran.ensures c.settle.ensures;
  took = c.hear-answer.ensures.took;
}
