-- A call that is not denied passes every row.
use Rattle.std.proofs.Common.{◌≡◌, Bool, true, false, List, [], ◌∷◌, ◌++◌, Some, None, Option, sym, refl}
use Rattle.answers.specs.declared.denial.Denial.{Denial}
use Rattle.answers.specs.Rows.{row, upper}
use Rattle.tables.proofs.Tables.{never_some}

pub passes : (b : Bool) (e : Denial) (rest : List (Option Denial)) → upper (row b e ∷ rest) ≡ None → (b ≡ false) × (upper rest ≡ None)
passes true e rest h = never_some (sym h)
passes false e rest h = (refl, h)

pub third : (a b c : Bool) (e f g : Denial) (rest : List (Option Denial)) → upper (row a e ∷ row b f ∷ row c g ∷ rest) ≡ None → c ≡ false
third a b c e f g rest h = (passes c g rest (passes b f (row c g ∷ rest) (passes a e (row b f ∷ row c g ∷ rest) h).1).1).0

pub fourth : (a b c d : Bool) (e f g i : Denial) (rest : List (Option Denial)) → upper (row a e ∷ row b f ∷ row c g ∷ row d i ∷ rest) ≡ None → d ≡ false
fourth a b c d e f g i rest h = third b c d f g i rest (passes a e (row b f ∷ row c g ∷ row d i ∷ rest) h).1

pub last_row : (rows : List (Option Denial)) (b : Bool) (e : Denial) → upper (rows ++ row b e ∷ []) ≡ None → b ≡ false
last_row [] b e h = (passes b e [] h).0
last_row (Some d ∷ rows) b e h = never_some (sym h)
last_row (None ∷ rows) b e h = last_row rows b e h
