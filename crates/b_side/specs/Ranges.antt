-- The ranges of the destination side's settings and given memory: records, and facts for exactly n lines.
-- A side made of what is out of range denies every call.
use Rattle.std.specs.Prelude.{ℕ, Bool, ◌&&◌, ◌==◌}
use Rattle.answers.specs.Rows.{within, timed, limited, switched, placed}
use Rattle.b_side.specs.declared.settings.BSettings.{BSettings}

abbrev pub b_in_range : BSettings → ℕ → ℕ → Bool
b_in_range s places facts = timed s.t7 && timed s.t8 && timed s.t9 && limited s.lb && within 1 64 s.n && switched s.rb && placed places && facts == s.n
