-- What the parts of a call come to: its own effect, and the resumption that comes last.
-- An accepted call is made of these two.
use Rattle.std.specs.Prelude.{◌≡◌, ℕ, Bool, List}
use Rattle.answers.specs.declared.answer.Answer.{Answer}
use Rattle.messages.specs.declared.values.Values.{Values}
use Rattle.channels.specs.Meaning.{Takes}
use Rattle.a_side.specs.Rules.{AModel, AEffect, carried_out, settled, resumptions}
use Rattle.originating.specs.declared.side.Fit.{Fit}
use Rattle.originating.specs.Calls.{fit_of, working, Became}

-- an effect was carried out
pub record Did {C : Type 0} (capacity_of : C → ℕ) (waiting_in : C → List Values) (e : AEffect) (answered : Answer) (entry : Fit) (before : C) (exit : Fit) (after : C) : Type 0 where
  pub answer : answered ≡ e.answer
  pub became : Became (working entry) (carried_out (fit_of entry) e) (working exit)
  pub took : Takes capacity_of waiting_in before e.sent after

-- every record that may be resumed was
pub record Resumed {C : Type 0} (capacity_of : C → ℕ) (waiting_in : C → List Values) (entry : Fit) (before : C) (exit : Fit) (after : C) : Type 0 where
  pub became : Became (working entry) (settled (fit_of entry)) (working exit)
  pub took : Takes capacity_of waiting_in before (resumptions (fit_of entry)) after

-- with other lines
abbrev pub with_busy : AModel → List Bool → AModel
with_busy s busy = record s { busy = busy }
