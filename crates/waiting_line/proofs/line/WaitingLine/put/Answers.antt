use Rattle.std.proofs.Common.{◌≡◌, ◌+◌, ◌<◌, [], ◌∷◌, ◌++◌, length, take, sym, ◌∙◌, arith}
use Rattle.std.proofs.lemmas.Bool.{cond-false, leb-false}
use Rattle.std.proofs.lemmas.List.{length-set, length-take, length_push}
use Rattle.waiting_line.proofs.Fronts.{laid, told_as, front_push}
use Rattle.waiting_line.proofs.line.WaitingLine.put.Goals as goal

pub returns-clause-holds : goal.returns-clause-holds
returns-clause-holds g c =
    let u = c.args.self.now.used in
    let xs = c.args.self.now.places.now in
    let x = c.args.x in
    let unfull = sym c.is_full.ensures ∙ c.if-is_full.false in
    let room : u < length xs = omega (arith, leb-false _ _ unfull, length-take u xs) in
    let size : u + 1 ≡ length (take u xs ++ x ∷ []) = omega (arith, length_push (take u xs) x, length-take u xs) in
    told_as (laid _ _ _ size (length-set _ _ _) (front_push u xs x room)) (sym (cond-false _ (take u xs) (take u xs ++ x ∷ []) unfull))
