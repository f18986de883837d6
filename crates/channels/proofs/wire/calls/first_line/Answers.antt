use Rattle.std.proofs.Common.{rules, ap, ◌∙◌}
use Rattle.std.proofs.lemmas.Fn.{always_returns_same}
use borrow.Author.Tests.{tests}
use Rattle.channels.proofs.FirstLines.{part_or_all}
use Rattle.channels.proofs.wire.calls.first_line.Goals as goal

pub returns : goal.returns
returns c =
    ap (λ r. r.now) c.unwrap_or.ensures
    ∙ part_or_all _ _ _ _ c.args.bytes _ _ c.next.result c.split_inclusive.ensures.rest (always_returns_same _ _ _ (λ a r f k. search (rules, tests))) c.next.ensures.steps
