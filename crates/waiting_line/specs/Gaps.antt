-- What a memory holds after a gap in it is closed: what stood past the gap stands at its start, and the rest is as it was.
-- Where nothing stands past the gap, nothing is changed.
use Rattle.std.specs.Prelude.{ℕ, ◌+◌, List, ◌++◌, length, take, drop}
use Rattle.std.specs.List.{between}

-- a front laid over a memory: what the memory holds past it stays
abbrev pub over : {T : Type 0} → List T → List T → List T
over front xs = front ++ drop (length front) xs

-- what stands from from + gap up to end moves down to from
abbrev pub closed : {T : Type 0} → ℕ → ℕ → ℕ → List T → List T
closed from gap end xs = over (take from xs ++ between (from + gap) end xs) xs
