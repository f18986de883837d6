use Rattle.std.proofs.Common.{rules}
use Rattle.wirecheck.specs.Logs.{progress}
use Rattle.wirecheck.proofs.Pieces.{end_of, end_at}
use Rattle.wirecheck.proofs.Check.finish.Goals as goal
use Rattle.wirecheck.proofs.Check.finish.Goals.{then-is_within_line+in_ok-report_line, else-is_within_line}

pub returns : goal.returns
returns g c =
    elim c.if-is_within_line.branch [
      | then-is_within_line+in_ok-report_line w ↦ search (end_of (progress c.args.self.now.log) (progress w.report_line.new.self.log) (g.W.Write.contents c.args.self.now.out) (g.W.Write.contents w.report_line.new.self.out) (g.W.Write.contents c.writeln.new.self) (g.W.Write.contents c.flush.new.self), rules)
      | else-is_within_line w ↦ search (end_at (progress c.args.self.now.log) (g.W.Write.contents c.args.self.now.out) (g.W.Write.contents c.writeln.new.self) (g.W.Write.contents c.flush.new.self), rules)
    ]
