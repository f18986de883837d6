use Rattle.std.proofs.Common.{take}
use Rattle.wirecheck.specs.Logs.{progress}
use Rattle.wirecheck.proofs.Pieces.{Read}
use Rattle.wirecheck.proofs.CheckWrite.write.Given as goal

abbrev pub invariant-loop-byte : goal.invariant-loop-byte
invariant-loop-byte g l = Read (progress l.initial.self.log) (g.W.Write.contents l.initial.self.out) (take l.byte-index l.piece) (progress l.self.log) (g.W.Write.contents l.self.out)
