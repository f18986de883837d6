-- A line written piece by piece fits, and is the message's line.
use Rattle.std.proofs.Common.{◌≡◌, ℕ, true, List, [], ◌∷◌, length, decimal, refl, ap, ◌∙◌, arith}
use Rattle.drafts.proofs.Added.{all_fit}
use Rattle.drafts.specs.Drafts.{added_all, joined}
use Rattle.messages.specs.declared.values.Values.{Values}
use Rattle.messages.specs.declared.wire.key.Key.TheVariants.{Kind as KindKey, Tn, A, B, Sv, Rt, Cs}
use Rattle.messages.specs.Kinds.{letter_of}
use Rattle.messages.specs.Lawful.{is_lawful}
use Rattle.messages.specs.Wire.{key_text, line_of}
use Rattle.messages.proofs.Short.{line_short}

abbrev pub pieces : Values → List (List ℕ)
pieces v =
    key_text KindKey ∷ (letter_of v.kind ∷ []) ∷ key_text Tn ∷ decimal v.tn ∷ key_text A ∷ decimal v.user ∷ key_text B ∷ decimal v.destination
    ∷ key_text Sv ∷ decimal v.service ∷ key_text Rt ∷ decimal v.retention ∷ key_text Cs ∷ decimal v.cause ∷ (10 ∷ []) ∷ []

joined_pieces : (v : Values) → joined (pieces v) ≡ line_of v
joined_pieces v = refl

pub pieces_fit : (v : Values) → is_lawful v ≡ true → added_all 46 [] (pieces v) ≡ line_of v
pieces_fit v lawful =
    let short = line_short v lawful in
    all_fit 46 [] (pieces v) (let size = ap length (joined_pieces v) in omega arith) ∙ joined_pieces v
