-- The pair with its two channels, and what each of the sixteen calls does to it.
-- A call that its rows deny alters nothing.
use Rattle.std.specs.Prelude.{ℕ, Bool, true, false, ◌||◌, List, [], ◌∷◌, ◌++◌, Some, None, Ok, Err, Option, Result, ◌==◌}
use Rattle.answers.specs.declared.answer.Answer.{Answer}
use Rattle.answers.specs.declared.denial.Denial.{Denial}
use Rattle.answers.specs.declared.denial.Denial.TheVariants.{NoneThere}
use Rattle.waiting_line.specs.Searches.{some}
use Rattle.messages.specs.declared.values.Values.{Values}
use Rattle.a_side.specs.declared.settings.ASettings.{ASettings}
use Rattle.a_side.specs.Rules.{AModel, ADone, a_fresh, accept as accept_a, activate_refusal, activating, withdraw_refusal, withdrawing, answer_refusal, answering, line_busy_refusal, line_busied, line_free_refusal, line_freeing, a_tick_refusal, a_ticked, a_expiry_refusal, a_expiring, a_deliver_refusal, a_receiving, a_return_refusal, a_returning}
use Rattle.b_side.specs.declared.line.LineFacts.{LineFacts}
use Rattle.b_side.specs.declared.settings.BSettings.{BSettings}
use Rattle.b_side.specs.Rules.{BModel, BDone, b_fresh, accept as accept_b, b_line_refusal, line_becomes, forwarding_refusal, forwarded, b_tick_refusal, b_ticked, b_expiry_refusal, b_expiring, b_deliver_refusal, b_receiving, b_return_refusal, b_returning}
use Rattle.agreement.specs.declared.call.Call.{Call}
use Rattle.agreement.specs.declared.call.Call.TheVariants.{Activate, Withdraw, AnswerRecall, ALineBusy, ALineFree, ATick, AExpiry, BLineBusy, BLineFree, SetForwarding, BTick, BExpiry, DeliverToA, DeliverToB, ReturnToA, ReturnToB}

-- both sides, and each channel by its capacity and the messages that wait in it, oldest first
pub record World : Type 0 where
  pub a : AModel
  pub b : BModel
  pub cap_b : ℕ
  pub to_b : List Values
  pub cap_a : ℕ
  pub to_a : List Values

abbrev pub of_it : ℕ → Values → Bool
of_it n m = m.tn == n

-- a message of n waits on a channel
abbrev pub on_the_way : ℕ → World → Bool
on_the_way n w = some (of_it n) w.to_b || some (of_it n) w.to_a

-- what a pair is made of: each side's settings and record places, the facts of B's lines, the capacity toward B and toward A
pub record Given : Type 0 where
  pub settings_a : ASettings
  pub places_a : ℕ
  pub settings_b : BSettings
  pub places_b : ℕ
  pub facts : List LineFacts
  pub cap_b : ℕ
  pub cap_a : ℕ

-- a fresh pair, of any settings and given memory, with two empty channels
abbrev pub fresh : Given → World
fresh g = record { a = a_fresh g.settings_a g.places_a; b = b_fresh g.settings_b g.places_b g.facts; cap_b = g.cap_b; to_b = []; cap_a = g.cap_a; to_a = [] }

-- what a call comes to: its answer, or its denial
abbrev pub Outcome : Type 0
Outcome = Result Answer Denial

-- what a call comes to, the pair after it, and the messages that it sends toward B and toward A
pub record Turn : Type 0 where
  pub outcome : Outcome
  pub world : World
  pub sent_b : List Values
  pub sent_a : List Values

abbrev pub refused : World → Denial → Turn
refused w e = record { outcome = Err e; world = w; sent_b = []; sent_a = [] }

-- a denial alters nothing
abbrev pub unless : World → Option Denial → Turn → Turn
unless w (Some e) t = refused w e
unless w None t = t

-- a call of A's: what it sends is put at the end of the channel toward B
abbrev pub by_a : World → ADone → Turn
by_a w d = record {
  outcome = Ok d.answer;
  world = record { a = d.side; b = w.b; cap_b = w.cap_b; to_b = w.to_b ++ d.sent; cap_a = w.cap_a; to_a = w.to_a };
  sent_b = d.sent;
  sent_a = [];
}

-- a call of B's: what it sends is put at the end of the channel toward A
abbrev pub by_b : World → BDone → Turn
by_b w d = record {
  outcome = Ok d.answer;
  world = record { a = w.a; b = d.side; cap_b = w.cap_b; to_b = w.to_b; cap_a = w.cap_a; to_a = w.to_a ++ d.sent };
  sent_b = [];
  sent_a = d.sent;
}

abbrev pub with_to_a : World → List Values → World
with_to_a w ms = record { a = w.a; b = w.b; cap_b = w.cap_b; to_b = w.to_b; cap_a = w.cap_a; to_a = ms }

abbrev pub with_to_b : World → List Values → World
with_to_b w ms = record { a = w.a; b = w.b; cap_b = w.cap_b; to_b = ms; cap_a = w.cap_a; to_a = w.to_a }

-- the oldest message is taken, and handled by its receiver
abbrev pub delivered_to_a : World → List Values → Turn
delivered_to_a w [] = refused w NoneThere
delivered_to_a w (m ∷ ms) = by_a (with_to_a w ms) (accept_a w.a (a_receiving w.a m))

abbrev pub delivered_to_b : World → List Values → Turn
delivered_to_b w [] = refused w NoneThere
delivered_to_b w (m ∷ ms) = by_b (with_to_b w ms) (accept_b w.b (b_receiving w.b m))

-- the oldest message goes back to its sender
abbrev pub returned_to_a : World → List Values → Turn
returned_to_a w [] = refused w NoneThere
returned_to_a w (m ∷ ms) = by_a (with_to_b w ms) (accept_a w.a (a_returning w.a m))

abbrev pub returned_to_b : World → List Values → Turn
returned_to_b w [] = refused w NoneThere
returned_to_b w (m ∷ ms) = by_b (with_to_a w ms) (accept_b w.b (b_returning w.b m))

abbrev pub step : World → Call → Turn
step w (Activate user destination service) = unless w (activate_refusal w.a w.cap_b w.to_b user destination service) (by_a w (accept_a w.a (activating w.a user destination service)))
step w (Withdraw user n) = unless w (withdraw_refusal w.a w.cap_b w.to_b user n) (by_a w (accept_a w.a (withdrawing w.a n)))
step w (AnswerRecall user n) = unless w (answer_refusal w.a w.cap_b w.to_b user n) (by_a w (accept_a w.a (answering w.a n)))
step w (ALineBusy user) = unless w (line_busy_refusal w.a user) (by_a w (line_busied w.a user))
step w (ALineFree user) = unless w (line_free_refusal w.a w.cap_b w.to_b user) (by_a w (accept_a w.a (line_freeing w.a user)))
step w ATick = unless w (a_tick_refusal w.a) (by_a w (a_ticked w.a))
step w AExpiry = unless w (a_expiry_refusal w.a w.cap_b w.to_b) (by_a w (accept_a w.a (a_expiring w.a)))
step w (BLineBusy b) = unless w (b_line_refusal w.b b) (by_b w (accept_b w.b (line_becomes w.b b true)))
step w (BLineFree b) = unless w (b_line_refusal w.b b) (by_b w (accept_b w.b (line_becomes w.b b false)))
step w (SetForwarding b forwarding) = unless w (forwarding_refusal w.b b forwarding) (by_b w (forwarded w.b b forwarding))
step w BTick = unless w (b_tick_refusal w.b) (by_b w (b_ticked w.b))
step w BExpiry = unless w (b_expiry_refusal w.b w.cap_a w.to_a) (by_b w (accept_b w.b (b_expiring w.b)))
step w DeliverToA = unless w (a_deliver_refusal w.a w.cap_a w.to_a w.cap_b w.to_b) (delivered_to_a w w.to_a)
step w DeliverToB = unless w (b_deliver_refusal w.b w.cap_b w.to_b w.cap_a w.to_a) (delivered_to_b w w.to_b)
step w ReturnToA = unless w (a_return_refusal w.a w.cap_b w.to_b) (returned_to_a w w.to_b)
step w ReturnToB = unless w (b_return_refusal w.b w.cap_a w.to_a) (returned_to_b w w.to_a)

-- a run: the pair after it, and what its calls told
abbrev pub ran : World → List Call → World
ran w [] = w
ran w (c ∷ cs) = ran (step w c).world cs

abbrev pub told : World → List Call → List Outcome
told w [] = []
told w (c ∷ cs) = (step w c).outcome ∷ told (step w c).world cs
