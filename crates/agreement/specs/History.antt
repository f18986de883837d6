-- What a run tells, in the subject's words: a history is the list of its calls with their outcomes, the latest first.
-- Every word goes by the calls' answers and their transaction alone; a request's destination is its activation's.
use Rattle.std.specs.Prelude.{◌≡◌, ℕ, Bool, true, false, cond, not, ◌&&◌, ◌||◌, List, [], ◌∷◌, ◌++◌, Some, None, Ok, Err, codes, Option, ◌==◌}
use Prim.Native.String.{String}
use Rattle.std.specs.Str.{bytes_eq}
use Rattle.answers.specs.declared.answer.Answer.{Answer}
use Rattle.answers.specs.Numbers.{answer_word, answer_transaction}
use Rattle.tables.specs.Tables.{first_by}
use Rattle.waiting_line.specs.Searches.{some}
use Rattle.agreement.specs.declared.call.Call.{Call}
use Rattle.agreement.specs.declared.call.Call.TheVariants.{Activate, Withdraw, AnswerRecall, ALineBusy, ALineFree, ATick, AExpiry, BLineBusy, BLineFree, SetForwarding, BTick, BExpiry, DeliverToA, DeliverToB, ReturnToA, ReturnToB}
use Rattle.agreement.specs.World.{Outcome, World, step}

pub record Event : Type 0 where
  pub call : Call
  pub outcome : Outcome

abbrev pub History : Type 0
History = List Event

-- The calls by their side

-- the calls listed for A, deliver to A and return to A are A's, the others B's
abbrev pub is_a : Call → Bool
is_a (Activate user destination service) = true
is_a (Withdraw user n) = true
is_a (AnswerRecall user n) = true
is_a (ALineBusy user) = true
is_a (ALineFree user) = true
is_a ATick = true
is_a AExpiry = true
is_a (BLineBusy destination) = false
is_a (BLineFree destination) = false
is_a (SetForwarding destination forwarding) = false
is_a BTick = false
is_a BExpiry = false
is_a DeliverToA = true
is_a DeliverToB = false
is_a ReturnToA = true
is_a ReturnToB = false

-- return to A and return to B
abbrev pub is_return : Call → Bool
is_return (Activate user destination service) = false
is_return (Withdraw user n) = false
is_return (AnswerRecall user n) = false
is_return (ALineBusy user) = false
is_return (ALineFree user) = false
is_return ATick = false
is_return AExpiry = false
is_return (BLineBusy destination) = false
is_return (BLineFree destination) = false
is_return (SetForwarding destination forwarding) = false
is_return BTick = false
is_return BExpiry = false
is_return DeliverToA = false
is_return DeliverToB = false
is_return ReturnToA = true
is_return ReturnToB = true

-- The answers by their word and their transaction

-- the answer has this word
abbrev pub is_word : Answer → String → Bool
is_word a word = bytes_eq (codes word) (answer_word a)

-- an answer of n by one of these words
abbrev pub says : List String → ℕ → Answer → Bool
says words n a = some (is_word a) words && answer_transaction a == n

abbrev pub requests : ℕ → Answer → Bool
requests n a = says ("requested" ∷ []) n a

abbrev pub stores : ℕ → Answer → Bool
stores n a = says ("stored" ∷ []) n a

abbrev pub ends : ℕ → Answer → Bool
ends n a = says ("ended" ∷ []) n a

abbrev pub recalls : ℕ → Answer → Bool
recalls n a = says ("freed" ∷ []) n a

-- what ends a recall
abbrev pub ends_recall : ℕ → Answer → Bool
ends_recall n a = says ("suspended" ∷ "kept" ∷ "ended" ∷ []) n a

abbrev pub suspends : ℕ → Answer → Bool
suspends n a = says ("suspended" ∷ []) n a

-- what ends a suspension
abbrev pub ends_suspension : ℕ → Answer → Bool
ends_suspension n a = says ("resumed" ∷ "ended" ∷ []) n a

-- any answer of n; done is of none
abbrev pub tells : ℕ → Answer → Bool
tells n a = not (is_word a "done") && answer_transaction a == n

-- What an event does, by its side

-- the answer passes a test; a denial passes none
abbrev pub answers : (Answer → Bool) → Outcome → Bool
answers p (Ok a) = p a
answers p (Err e) = false

abbrev pub at_a : (Answer → Bool) → Event → Bool
at_a p e = is_a e.call && answers p e.outcome

abbrev pub at_b : (Answer → Bool) → Event → Bool
at_b p e = not (is_a e.call) && answers p e.outcome

abbrev pub gives_out : ℕ → Event → Bool
gives_out n = at_a (requests n)

abbrev pub stores_at_b : ℕ → Event → Bool
stores_at_b n = at_b (stores n)

abbrev pub ends_at_a : ℕ → Event → Bool
ends_at_a n = at_a (ends n)

abbrev pub ends_at_b : ℕ → Event → Bool
ends_at_b n = at_b (ends n)

-- Words of a whole history

-- something began with an answer, and has not ended since
abbrev pub since : (Event → Bool) → (Event → Bool) → History → Bool
since begins ends [] = false
since begins ends (e ∷ past) = begins e || (not (ends e) && since begins ends past)

-- pending at A once given out, until ended there
abbrev pub pending_a : ℕ → History → Bool
pending_a n = since (gives_out n) (ends_at_a n)

-- pending at B once stored, until ended there
abbrev pub pending_b : ℕ → History → Bool
pending_b n = since (stores_at_b n) (ends_at_b n)

-- under recall from answer freed until suspended, kept or ended at B
abbrev pub under_recall : ℕ → History → Bool
under_recall n = since (at_b (recalls n)) (at_b (ends_recall n))

-- suspended from answer suspended until resumed or ended at B
abbrev pub suspended_b : ℕ → History → Bool
suspended_b n = since (at_b (suspends n)) (at_b (ends_suspension n))

-- one of its messages was returned
abbrev pub returned : ℕ → History → Bool
returned n = some (λ (e : Event). is_return e.call && answers (tells n) e.outcome)

-- the destination that a call asks for
abbrev pub asks_for : Call → Option ℕ
asks_for (Activate user destination service) = Some destination
asks_for (Withdraw user n) = None
asks_for (AnswerRecall user n) = None
asks_for (ALineBusy user) = None
asks_for (ALineFree user) = None
asks_for ATick = None
asks_for AExpiry = None
asks_for (BLineBusy destination) = None
asks_for (BLineFree destination) = None
asks_for (SetForwarding destination forwarding) = None
asks_for BTick = None
asks_for BExpiry = None
asks_for DeliverToA = None
asks_for DeliverToB = None
asks_for ReturnToA = None
asks_for ReturnToB = None

-- the destination of a request: its activation's
abbrev pub destination : ℕ → History → Option ℕ
destination n [] = None
destination n (e ∷ past) = cond (gives_out n e) (asks_for e.call) (destination n past)

abbrev pub goes_to : ℕ → Option ℕ → Bool
goes_to b (Some d) = d == b
goes_to b None = false

-- The order of storing

-- the number that an answer tells by this word
abbrev pub tells_by : String → Answer → Option ℕ
tells_by word a = cond (is_word a word) (Some (answer_transaction a)) None

abbrev pub stored_in : Answer → Option ℕ
stored_in = tells_by "stored"

abbrev pub freed_in : Answer → Option ℕ
freed_in = tells_by "freed"

-- what an answer of B's tells
abbrev pub told_by_b : (Answer → Option ℕ) → Bool → Outcome → Option ℕ
told_by_b f true o = None
told_by_b f false (Ok a) = f a
told_by_b f false (Err e) = None

abbrev pub also : List ℕ → Option ℕ → List ℕ
also ns (Some n) = ns ++ n ∷ []
also ns None = ns

-- the numbers that were stored, in the order of their storing
abbrev pub stored_numbers : History → List ℕ
stored_numbers [] = []
stored_numbers (e ∷ past) = also (stored_numbers past) (told_by_b stored_in (is_a e.call) e.outcome)

-- the request that a call recalls, if it is a recall
abbrev pub recalled_by : Event → Option ℕ
recalled_by e = told_by_b freed_in (is_a e.call) e.outcome

-- Recalls in turn

-- n is pending at B for b, and not suspended
abbrev pub waits_for : ℕ → History → ℕ → Bool
waits_for b past n = pending_b n past && not (suspended_b n past) && goes_to b (destination n past)

-- the first stored of those
abbrev pub first_waiting : ℕ → History → Option ℕ
first_waiting b past = first_by (waits_for b past) (stored_numbers past)

-- a recall of n, after this past, went to the first of those that wait for its destination
abbrev pub InTurn : Option ℕ → History → Type 0
InTurn None past = Unit {0}
InTurn (Some n) past = (b : ℕ) × (destination n past ≡ Some b) × (first_waiting b past ≡ Some n)

-- each recall of a history did
abbrev pub Fair : History → Type 0
Fair [] = Unit {0}
Fair (e ∷ past) = InTurn (recalled_by e) past × Fair past

-- A run with its history

-- what has happened, and the pair that it led to
pub record Life : Type 0 where
  pub past : History
  pub world : World

-- one call more
abbrev pub after : Life → Call → Life
after l c =
    let t = step l.world c in
    record { past = record { call = c; outcome = t.outcome } ∷ l.past; world = t.world }

abbrev pub begun : World → Life
begun w = record { past = []; world = w }

-- a run from there on
abbrev pub lived : Life → List Call → Life
lived l [] = l
lived l (c ∷ cs) = lived (after l c) cs

-- calls and what they told, as a history
abbrev pub recorded : History → List Call → List Outcome → History
recorded past [] os = past
recorded past (c ∷ cs) [] = past
recorded past (c ∷ cs) (o ∷ os) = recorded (record { call = c; outcome = o } ∷ past) cs os
