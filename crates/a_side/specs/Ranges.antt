-- The ranges of the originating side's settings and given memory.
-- A side made of what is out of range denies every call.
use Rattle.std.specs.Prelude.{ℕ, Bool, ◌&&◌}
use Rattle.answers.specs.Rows.{within, timed, limited, switched, placed}
use Rattle.a_side.specs.declared.settings.ASettings.{ASettings}

abbrev pub a_in_range : ASettings → ℕ → Bool
a_in_range s places = timed s.t2 && timed s.t3 && timed s.t4 && limited s.la && switched s.ra && within 1 4294967295 s.first && placed places
