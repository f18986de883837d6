use Rattle.channels.specs.Meaning.{Leaves}
use Rattle.std.proofs.Common.{◌++◌, take, drop}
use Rattle.channels.proofs.carriage.carry.Given as goal

abbrev pub invariant-loop : goal.invariant-loop
invariant-loop g l =
    let P = g.P.Channel in
    let C = g.C.Channel in
    let ws = P.waiting l.initial.from in
    record {
      from : Leaves P.capacity P.waiting l.initial.from (drop l.counter ws) l.from;
      to : Leaves C.capacity C.waiting l.initial.to (C.waiting l.initial.to ++ take l.counter ws) l.to;
    }
