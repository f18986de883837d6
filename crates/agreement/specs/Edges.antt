-- The edge cases of the rules, each with what it must come to: one list, one assertion.
-- A run is tried on a fresh pair with 320 record places a side, 64 lines and 16 messages a channel; a line by reading it.
use Rattle.std.specs.Prelude.{◌≡◌, ℕ, List, [], ◌∷◌, map, Ok, Err, replicate, codes, Result}
use Prim.Native.String.{String}
use Rattle.answers.specs.declared.answer.Answer.TheVariants.{Done, Nothing, Requested, Accepted, Recall, Suspended, Calling, Kept, Stray, Stored, Rejected, Freed, Resumed, Ended}
use Rattle.answers.specs.declared.cause.Cause.TheVariants.{NotGiven, T7Over, Withdrawn, ShortTermDenial, MessageReturned}
use Rattle.answers.specs.declared.denial.Denial.TheVariants.{NoSuchParty, UserFull, NoneDue}
use Rattle.lines.specs.declared.fault.Fault.TheVariants.{Number}
use Rattle.lines.specs.declared.number.NumberCause.TheVariants.{NoNumber}
use Rattle.messages.specs.declared.values.Values.{Values}
use Rattle.messages.specs.declared.wire.key.Key.TheVariants.{Tn}
use Rattle.messages.specs.declared.wire.unread.Unread.{Unread}
use Rattle.messages.specs.declared.wire.unread.Unread.TheVariants.{NotLawful, NotALine}
use Rattle.messages.specs.Parts.{reading_of}
use Rattle.a_side.specs.declared.settings.ASettings.{ASettings}
use Rattle.b_side.specs.declared.settings.BSettings.{BSettings}
use Rattle.agreement.specs.declared.call.Call.{Call}
use Rattle.agreement.specs.declared.call.Call.TheVariants.{Activate, Withdraw, AnswerRecall, ALineBusy, ALineFree, ATick, AExpiry, BLineBusy, BLineFree, BTick, BExpiry, DeliverToA, DeliverToB, ReturnToB}
use Rattle.b_side.specs.Rules.{idle}
use Rattle.agreement.specs.World.{Outcome, fresh, told}

-- what is tried
pub data Trial : Type 0 where
  run : ASettings → BSettings → List Call → Trial
  line : String → Trial

-- what it comes to
pub data Comes : Type 0 where
  outcomes : List Outcome → Comes
  reads : Result Values Unread → Comes

pub record Edge : Type 0 where
  pub trial : Trial
  pub result : Comes

-- settings with this T2; with this T7 and queue limit
abbrev settings_a : ℕ → ASettings
settings_a t2 = record { t2 = t2; t3 = 100; t4 = 5; la = 5; ra = 1; first = 1 }

abbrev settings_b : ℕ → ℕ → BSettings
settings_b t7 lb = record { t7 = t7; t8 = 1; t9 = 8; lb = lb; n = 64; rb = 1 }

abbrev pub edges : List Edge
edges =
    -- user 63 is accepted, 64 is denied with 2
    record {
      trial = run (settings_a 10) (settings_b 90 5) (Activate 63 9 1 ∷ Activate 64 9 1 ∷ []);
      result =
          outcomes
          (Ok (Requested 1)
          ∷ Err NoSuchParty
          ∷ []);
    }
    ∷  -- with five requests allowed a sixth is denied with 7, and accepted after a withdrawal
    record {
      trial =
          run (settings_a 10) (settings_b 90 5)
          (Activate 3 1 1
          ∷ Activate 3 2 1
          ∷ Activate 3 3 1
          ∷ Activate 3 4 1
          ∷ Activate 3 5 1
          ∷ Activate 3 6 1
          ∷ Withdraw 3 2
          ∷ Activate 3 6 1
          ∷ []);
      result =
          outcomes
          (Ok (Requested 1)
          ∷ Ok (Requested 2)
          ∷ Ok (Requested 3)
          ∷ Ok (Requested 4)
          ∷ Ok (Requested 5)
          ∷ Err UserFull
          ∷ Ok (Ended 2 Withdrawn)
          ∷ Ok (Requested 6)
          ∷ []);
    }
    ∷  -- with a queue limit of one the second user's request is rejected with cause 6
    record {
      trial =
          run (settings_a 10) (settings_b 90 1)
          (Activate 3 9 1
          ∷ Activate 4 9 1
          ∷ DeliverToB
          ∷ DeliverToB
          ∷ DeliverToA
          ∷ DeliverToA
          ∷ []);
      result =
          outcomes
          (Ok (Requested 1)
          ∷ Ok (Requested 2)
          ∷ Ok (Stored 1)
          ∷ Ok (Rejected 2 ShortTermDenial)
          ∷ Ok (Accepted 1)
          ∷ Ok (Ended 2 ShortTermDenial)
          ∷ []);
    }
    ∷  -- the first record is Suspended: the second is recalled
    record {
      trial =
          run (settings_a 10) (settings_b 90 5)
          (Activate 3 9 1
          ∷ Activate 4 9 1
          ∷ DeliverToB
          ∷ DeliverToB
          ∷ DeliverToA
          ∷ DeliverToA
          ∷ ALineBusy 3
          ∷ BTick
          ∷ BExpiry
          ∷ DeliverToA
          ∷ DeliverToB
          ∷ BTick
          ∷ BExpiry
          ∷ DeliverToA
          ∷ AnswerRecall 4 2
          ∷ ALineFree 3
          ∷ []);
      result =
          outcomes
          (Ok (Requested 1)
          ∷ Ok (Requested 2)
          ∷ Ok (Stored 1)
          ∷ Ok (Stored 2)
          ∷ Ok (Accepted 1)
          ∷ Ok (Accepted 2)
          ∷ Ok Done
          ∷ Ok Done
          ∷ Ok (Freed 1)
          ∷ Ok (Suspended 1)
          ∷ Ok (Suspended 1)
          ∷ Ok Done
          ∷ Ok (Freed 2)
          ∷ Ok (Recall 2)
          ∷ Ok (Calling 2)
          ∷ Ok Done
          ∷ []);
    }
    ∷  -- retained busy: the place is kept, so that 1 is recalled again before 2; T7 is not restarted, so that it is over for both at once
    record {
      trial =
          run (settings_a 10) (settings_b 4 5)
          (Activate 3 9 1
          ∷ Activate 4 9 1
          ∷ DeliverToB
          ∷ DeliverToB
          ∷ DeliverToA
          ∷ DeliverToA
          ∷ BTick
          ∷ BExpiry
          ∷ DeliverToA
          ∷ AnswerRecall 3 1
          ∷ BLineBusy 9
          ∷ DeliverToB
          ∷ DeliverToA
          ∷ BLineFree 9
          ∷ BTick
          ∷ BExpiry
          ∷ BTick
          ∷ BTick
          ∷ BExpiry
          ∷ BExpiry
          ∷ []);
      result =
          outcomes
          (Ok (Requested 1)
          ∷ Ok (Requested 2)
          ∷ Ok (Stored 1)
          ∷ Ok (Stored 2)
          ∷ Ok (Accepted 1)
          ∷ Ok (Accepted 2)
          ∷ Ok Done
          ∷ Ok (Freed 1)
          ∷ Ok (Recall 1)
          ∷ Ok (Calling 1)
          ∷ Ok Done
          ∷ Ok (Kept 1)
          ∷ Ok (Kept 1)
          ∷ Ok Done
          ∷ Ok Done
          ∷ Ok (Freed 1)
          ∷ Ok Done
          ∷ Ok Done
          ∷ Ok (Ended 1 T7Over)
          ∷ Ok (Ended 2 T7Over)
          ∷ []);
    }
    ∷  -- T2 over before R arrives: R is answered by X, and B ends
    record {
      trial =
          run (settings_a 1) (settings_b 90 5)
          (Activate 3 9 1
          ∷ DeliverToB
          ∷ ATick
          ∷ AExpiry
          ∷ DeliverToA
          ∷ DeliverToB
          ∷ []);
      result =
          outcomes
          (Ok (Requested 1)
          ∷ Ok (Stored 1)
          ∷ Ok Done
          ∷ Ok (Ended 1 ShortTermDenial)
          ∷ Ok (Stray 1)
          ∷ Ok (Ended 1 NotGiven)
          ∷ []);
    }
    ∷  -- a withdrawal and T7 over cross: each side ends once
    record {
      trial =
          run (settings_a 10) (settings_b 1 5)
          (Activate 3 9 1
          ∷ DeliverToB
          ∷ DeliverToA
          ∷ BTick
          ∷ BExpiry
          ∷ Withdraw 3 1
          ∷ DeliverToA
          ∷ DeliverToB
          ∷ []);
      result =
          outcomes
          (Ok (Requested 1)
          ∷ Ok (Stored 1)
          ∷ Ok (Accepted 1)
          ∷ Ok Done
          ∷ Ok (Ended 1 T7Over)
          ∷ Ok (Ended 1 Withdrawn)
          ∷ Ok (Nothing 1)
          ∷ Ok (Nothing 1)
          ∷ []);
    }
    ∷  -- a guard that has just started is not over
    record {
      trial = run (settings_a 10) (settings_b 90 5) (Activate 3 9 1 ∷ DeliverToB ∷ BExpiry ∷ []);
      result =
          outcomes
          (Ok (Requested 1)
          ∷ Ok (Stored 1)
          ∷ Err NoneDue
          ∷ []);
    }
    ∷  -- a withdrawal makes the user free again: the suspended request is resumed at both sides
    record {
      trial =
          run (settings_a 10) (settings_b 90 5)
          (Activate 3 8 1
          ∷ Activate 3 9 1
          ∷ DeliverToB
          ∷ DeliverToB
          ∷ BTick
          ∷ BExpiry
          ∷ BExpiry
          ∷ DeliverToA
          ∷ DeliverToA
          ∷ DeliverToA
          ∷ DeliverToA
          ∷ Withdraw 3 1
          ∷ DeliverToB
          ∷ DeliverToB
          ∷ DeliverToB
          ∷ []);
      result =
          outcomes
          (Ok (Requested 1)
          ∷ Ok (Requested 2)
          ∷ Ok (Stored 1)
          ∷ Ok (Stored 2)
          ∷ Ok Done
          ∷ Ok (Freed 1)
          ∷ Ok (Freed 2)
          ∷ Ok (Accepted 1)
          ∷ Ok (Accepted 2)
          ∷ Ok (Recall 1)
          ∷ Ok (Suspended 2)
          ∷ Ok (Ended 1 Withdrawn)
          ∷ Ok (Suspended 2)
          ∷ Ok (Ended 1 NotGiven)
          ∷ Ok (Resumed 2)
          ∷ []);
    }
    ∷  -- a result that comes back to B ends its record
    record {
      trial = run (settings_a 10) (settings_b 90 5) (Activate 3 9 1 ∷ DeliverToB ∷ ReturnToB ∷ []);
      result =
          outcomes
          (Ok (Requested 1)
          ∷ Ok (Stored 1)
          ∷ Ok (Ended 1 MessageReturned)
          ∷ []);
    }
    ∷  -- a line with transaction 0 is no lawful message: 14
    record {
      trial = line "kind=Q tn=0 a=3 b=9 sv=1 rt=1 cs=0\n";
      result = reads (Err NotLawful);
    }
    ∷  -- a zero before another digit: 15, cause 2 at byte 10
    record {
      trial = line "kind=Q tn=01 a=3 b=9 sv=1 rt=1 cs=0\n";
      result = reads (Err (NotALine (record { key = Tn; fault = Number (record { cause = NoNumber; at = 10 }) })));
    }
    ∷ []

abbrev pub comes_to : Trial → Comes
comes_to (run a b calls) = outcomes (told (fresh (record { settings_a = a; places_a = 320; settings_b = b; places_b = 320; facts = replicate 64 idle; cap_b = 16; cap_a = 16 })) calls)
comes_to (line text) = reads (reading_of (codes text))

-- every case comes to what it must
abbrev pub Edges : Type 0
Edges = map (λ (e : Edge). comes_to e.trial) edges ≡ map (λ (e : Edge). e.result) edges
