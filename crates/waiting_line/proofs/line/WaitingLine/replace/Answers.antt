use Rattle.std.proofs.Math.Seq.{take-set-lt}
use Rattle.std.proofs.lemmas.List.{length-set}
use Rattle.waiting_line.proofs.Fronts.{front_set}
use Rattle.waiting_line.proofs.line.WaitingLine.replace.Goals as goal

pub returns-clause-holds : goal.returns-clause-holds
returns-clause-holds g c = record {
  items = take-set-lt _ _ _ _ c.if-i-self.false;
  memory = front_set _ _ _ _ c.if-i-self.false c.args.self.now.within;
  capacity = length-set _ _ _;
}
