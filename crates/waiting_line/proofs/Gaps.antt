-- What a closed gap leaves within the memory.
use Rattle.std.proofs.Common.{◌≡◌, ℕ, ◌+◌, ◌-◌, ◌≤◌, List, ◌++◌, length, take, drop, ap, ◌∙◌, arith}
use Rattle.std.specs.List.{between}
use Rattle.std.proofs.lemmas.List.{length-take, length-drop, length-append, append_assoc}
use Rattle.waiting_line.specs.Gaps.{closed}

-- within the memory, what is past the moved part begins one gap before the end
pub closed_within : {X : Type 0} (from gap end : ℕ) (xs : List X) → from + gap ≤ end → end ≤ length xs → closed from gap end xs ≡ take from xs ++ (between (from + gap) end xs ++ drop (end - gap) xs)
closed_within from gap end xs order fit =
    let a = length-append (take from xs) (between (from + gap) end xs) in
    let b = length-take from xs in
    let c = length-take (end - (from + gap)) (drop (from + gap) xs) in
    let d = length-drop (from + gap) xs in
    ap (λ n. (take from xs ++ between (from + gap) end xs) ++ drop n xs) (let e : length (take from xs ++ between (from + gap) end xs) ≡ end - gap = omega arith in e)
    ∙ append_assoc (take from xs) (between (from + gap) end xs) (drop (end - gap) xs)
