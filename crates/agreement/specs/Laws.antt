-- The law over every run: what the two sides, their tables and the channels always agree on.
-- Its words are those of the history: given out, stored, ended, pending, under recall, suspended, returned.
use Rattle.std.specs.Prelude.{◌≡◌, ℕ, ◌-◌, ◌≤◌, Bool, true, false, cond, ◌&&◌, ◌||◌, List, [], ◌∷◌, length, take, Some, ◌==◌, ◌≢◌}
use Rattle.tables.specs.Tables.{those, times}
use Rattle.waiting_line.specs.Searches.{some}
use Rattle.a_side.specs.Rules.{a_tn, resumable}
use Rattle.a_side.specs.Tidy.{Tidy}
use Rattle.b_side.specs.declared.record.BRecord.{BRecord}
use Rattle.b_side.specs.Rules.{b_tn, is_recalling, is_suspended}
use Rattle.agreement.specs.declared.call.Call.{Call}
use Rattle.agreement.specs.World.{World, Given, Turn, on_the_way, fresh, step, ran, told}
use Rattle.agreement.specs.History.{History, gives_out, stores_at_b, ends_at_a, ends_at_b, pending_a, pending_b, under_recall, suspended_b, returned, destination, Fair, begun, lived, recorded}

-- how many records a pending transaction has, and one that is not pending
abbrev pub one_if : Bool → ℕ
one_if pending = cond pending 1 0

-- the messages that a call sends fit in the places that are free before it: at most five toward B, at most one toward A
pub record NoneLost (w : World) (t : Turn) : Type 0 where
  pub five : length t.sent_b ≤ 5
  pub free_b : length t.sent_b ≤ w.cap_b - length w.to_b
  pub one : length t.sent_a ≤ 1
  pub free_a : length t.sent_a ≤ w.cap_a - length w.to_a

-- what a history and the pair that it led to agree on
pub record Agreement (past : History) (w : World) : Type 0 where
  -- each side has exactly one record for every transaction pending there, and no other
  pub table_a : (n : ℕ) → length (those a_tn n w.a.records) ≡ one_if (pending_a n past)
  pub table_b : (n : ℕ) → length (those b_tn n w.b.records) ≡ one_if (pending_b n past)
  -- no number is given out, stored, or ended at one side twice
  pub given_once : (n : ℕ) → times (gives_out n) past ≤ 1
  pub stored_once : (n : ℕ) → times (stores_at_b n) past ≤ 1
  pub ended_once_a : (n : ℕ) → times (ends_at_a n) past ≤ 1
  pub ended_once_b : (n : ℕ) → times (ends_at_b n) past ≤ 1
  -- no destination has two requests under recall
  pub one_recall : (n m b : ℕ) → under_recall n past ≡ true → under_recall m past ≡ true → destination n past ≡ Some b → destination m past ≡ Some b → n ≡ m
  -- exactly those under recall are Recalling at B, exactly the suspended ones Suspended there
  pub recalling : (n : ℕ) → some (λ (r : BRecord). (r.tn == n) && is_recalling r.state) w.b.records ≡ under_recall n past
  pub suspended_there : (n : ℕ) → some (λ (r : BRecord). (r.tn == n) && is_suspended r.state) w.b.records ≡ suspended_b n past
  -- each recall went to the request that was stored first of those then pending at B for its destination and not suspended
  pub in_turn : Fair past
  -- a transaction pending at only one side has a message on a channel, or one of its messages was returned
  pub one_sided : (n : ℕ) → (pending_a n past ≢ pending_b n past) → (on_the_way n w || returned n past) ≡ true
  -- no Suspended record of a user who is not CCBS-busy stands between calls
  pub settled_a : some (resumable w.a) w.a.records ≡ false
  -- no channel holds more than its capacity
  pub within_b : length w.to_b ≤ w.cap_b
  pub within_a : length w.to_a ≤ w.cap_a
  -- whatever call comes next, none of its messages is lost
  pub none_lost : (c : Call) → NoneLost w (step w c)

-- The law

-- for every fresh pair, of any settings, memory and capacities, and every list of calls: after every prefix, that is after any number of them
abbrev pub Law : Type 0
Law = (g : Given) (calls : List Call) (k : ℕ) → let l = lived (begun (fresh g)) (take k calls) in Agreement l.past l.world

-- the same of a run by what its calls told and the pair that they left
abbrev pub RunsAgree : Type 0
RunsAgree = (g : Given) (calls : List Call) (k : ℕ) → Agreement (recorded [] (take k calls) (told (fresh g) calls)) (ran (fresh g) (take k calls))

-- a history that leads from some fresh pair to w
pub record Reached (past : History) (w : World) : Type 0 where
  pub given : Given
  pub calls : List Call
  pub tells : (lived (begun (fresh given)) calls).past ≡ past
  pub leads : (lived (begun (fresh given)) calls).world ≡ w

-- one call more: the history with it leads to the pair after it, and agrees with it
abbrev pub CallsAgree : Type 0
CallsAgree =
    (past : History) (w : World) (c : Call) → Reached past w
    → let t = step w c in let more = record { call = c; outcome = t.outcome } ∷ past in Reached more t.world × Agreement more t.world

-- What the calls rest on: a tidy side of A's, and channels that are never over-full

pub record Fit (w : World) : Type 0 where
  pub tidy : Tidy w.a
  pub to_b : length w.to_b ≤ w.cap_b
  pub to_a : length w.to_a ≤ w.cap_a

abbrev pub RunsFit : Type 0
RunsFit = (g : Given) (calls : List Call) (k : ℕ) → Fit (ran (fresh g) (take k calls))
