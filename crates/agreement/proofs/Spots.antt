-- The spot of a transaction: what the history says of it, its records at the two sides, and its messages on the two channels.
use Rattle.std.proofs.Common.{◌≡◌, ℕ, suc, Bool, true, false, cond, not, ◌&&◌, ◌||◌, eqb, List, ◌∷◌, Ok, Err, Option, refl, ◌∙◌}
use Rattle.answers.specs.declared.denial.Denial.{Denial}
use Rattle.answers.specs.declared.answer.Answer.{Answer}
use Rattle.answers.specs.declared.answer.Answer.TheVariants.{Done as done, Nothing as nothing, Requested as requested, Accepted as accepted, Recall as recall, Suspended as suspended, Calling as calling, Kept as kept, Stray as stray, Stored as stored, Rejected as rejected, Freed as freed, Resumed as resumed, Ended as ended}
use Rattle.tables.specs.Tables.{those, times}
use Rattle.messages.specs.declared.values.Values.{Values}
use Rattle.a_side.specs.declared.record.ARecord.{ARecord}
use Rattle.a_side.specs.Rules.{a_tn}
use Rattle.b_side.specs.declared.record.BRecord.{BRecord}
use Rattle.b_side.specs.Rules.{b_tn}
use Rattle.agreement.specs.declared.call.Call.{Call}
use Rattle.agreement.specs.World.{World}
use Rattle.agreement.specs.History.{Event, History, is_a, is_return, asks_for, requests, stores, ends, recalls, ends_recall, suspends, ends_suspension, tells, gives_out, stores_at_b, ends_at_a, ends_at_b, pending_a, pending_b, under_recall, suspended_b, returned, destination}

abbrev pub m_tn : Values → ℕ
m_tn m = m.tn

-- what a history says of one transaction
pub record Words : Type 0 where
  pub given : ℕ
  pub stored : ℕ
  pub ended_a : ℕ
  pub ended_b : ℕ
  pub pa : Bool
  pub pb : Bool
  pub rc : Bool
  pub sp : Bool
  pub rt : Bool
  pub to : Option ℕ

abbrev pub words_of : ℕ → History → Words
words_of n past = record {
  given = times (gives_out n) past;
  stored = times (stores_at_b n) past;
  ended_a = times (ends_at_a n) past;
  ended_b = times (ends_at_b n) past;
  pa = pending_a n past;
  pb = pending_b n past;
  rc = under_recall n past;
  sp = suspended_b n past;
  rt = returned n past;
  to = destination n past;
}

pub record Spot : Type 0 where
  pub next : ℕ
  pub words : Words
  pub ra : List ARecord
  pub rb : List BRecord
  pub tb : List Values
  pub ta : List Values

abbrev pub at : ℕ → Words → List ARecord → List BRecord → List Values → List Values → Spot
at x ws ra rb tb ta = record { next = x; words = ws; ra = ra; rb = rb; tb = tb; ta = ta }

abbrev pub spot : ℕ → History → World → Spot
spot n past w = at w.a.next (words_of n past) (those a_tn n w.a.records) (those b_tn n w.b.records) (those m_tn n w.to_b) (those m_tn n w.to_a)

-- what one more event does to the words: its side, whether it is a return, the destination it asks for, and the tests of its answer
abbrev pub words_with : Bool → Bool → Option ℕ → Bool → Bool → Bool → Bool → Bool → Bool → Bool → Bool → Words → Words
words_with a r to req sto end fre unf sus uns tel ws = record {
  given = cond (a && req) (suc ws.given) ws.given;
  stored = cond (not a && sto) (suc ws.stored) ws.stored;
  ended_a = cond (a && end) (suc ws.ended_a) ws.ended_a;
  ended_b = cond (not a && end) (suc ws.ended_b) ws.ended_b;
  pa = (a && req) || (not (a && end) && ws.pa);
  pb = (not a && sto) || (not (not a && end) && ws.pb);
  rc = (not a && fre) || (not (not a && unf) && ws.rc);
  sp = (not a && sus) || (not (not a && uns) && ws.sp);
  rt = (r && tel) || ws.rt;
  to = cond (a && req) to ws.to;
}

abbrev pub event : Call → Answer → Event
event c a = record { call = c; outcome = Ok a }

-- the words after one more answered call
words_more : (n : ℕ) (c : Call) (a : Answer) (past : History) → words_of n (event c a ∷ past) ≡ words_with (is_a c) (is_return c) (asks_for c) (requests n a) (stores n a) (ends n a) (recalls n a) (ends_recall n a) (suspends n a) (ends_suspension n a) (tells n a) (words_of n past)
words_more n c a past = refl

pub words_denied : (n : ℕ) (c : Call) (e : Denial) (past : History) → words_of n (record { call = c; outcome = Err e } ∷ past) ≡ words_of n past
words_denied n c e past = go (is_a c) (is_return c)
  where
    go : (a r : Bool) → words_with a r (asks_for c) false false false false false false false false (words_of n past) ≡ words_of n past
    go true true = refl
    go true false = refl
    go false true = refl
    go false false = refl

-- an answer of another transaction says nothing of n
pub record Silent (n : ℕ) (a : Answer) : Type 0 where
  pub requests' : requests n a ≡ false
  pub stores' : stores n a ≡ false
  pub ends' : ends n a ≡ false
  pub recalls' : recalls n a ≡ false
  pub ends_recall' : ends_recall n a ≡ false
  pub suspends' : suspends n a ≡ false
  pub ends_suspension' : ends_suspension n a ≡ false

pub silent : (n : ℕ) (a : Answer) → tells n a ≡ false → Silent n a
silent n done h = record { requests' = refl; stores' = refl; ends' = refl; recalls' = refl; ends_recall' = refl; suspends' = refl; ends_suspension' = refl }
silent n (nothing m) h = record { requests' = refl; stores' = refl; ends' = refl; recalls' = refl; ends_recall' = refl; suspends' = refl; ends_suspension' = refl }
silent n (requested m) h = record { requests' = h; stores' = refl; ends' = refl; recalls' = refl; ends_recall' = refl; suspends' = refl; ends_suspension' = refl }
silent n (accepted m) h = record { requests' = refl; stores' = refl; ends' = refl; recalls' = refl; ends_recall' = refl; suspends' = refl; ends_suspension' = refl }
silent n (recall m) h = record { requests' = refl; stores' = refl; ends' = refl; recalls' = refl; ends_recall' = refl; suspends' = refl; ends_suspension' = refl }
silent n (suspended m) h = record { requests' = refl; stores' = refl; ends' = refl; recalls' = refl; ends_recall' = h; suspends' = h; ends_suspension' = refl }
silent n (calling m) h = record { requests' = refl; stores' = refl; ends' = refl; recalls' = refl; ends_recall' = refl; suspends' = refl; ends_suspension' = refl }
silent n (kept m) h = record { requests' = refl; stores' = refl; ends' = refl; recalls' = refl; ends_recall' = h; suspends' = refl; ends_suspension' = refl }
silent n (stray m) h = record { requests' = refl; stores' = refl; ends' = refl; recalls' = refl; ends_recall' = refl; suspends' = refl; ends_suspension' = refl }
silent n (stored m) h = record { requests' = refl; stores' = h; ends' = refl; recalls' = refl; ends_recall' = refl; suspends' = refl; ends_suspension' = refl }
silent n (rejected m c) h = record { requests' = refl; stores' = refl; ends' = refl; recalls' = refl; ends_recall' = refl; suspends' = refl; ends_suspension' = refl }
silent n (freed m) h = record { requests' = refl; stores' = refl; ends' = refl; recalls' = h; ends_recall' = refl; suspends' = refl; ends_suspension' = refl }
silent n (resumed m) h = record { requests' = refl; stores' = refl; ends' = refl; recalls' = refl; ends_recall' = refl; suspends' = refl; ends_suspension' = h }
silent n (ended m c) h = record { requests' = refl; stores' = refl; ends' = h; recalls' = refl; ends_recall' = h; suspends' = refl; ends_suspension' = h }

pub words_silent : (n : ℕ) (c : Call) (a : Answer) (past : History) → tells n a ≡ false → words_of n (event c a ∷ past) ≡ words_of n past
words_silent n c a past h = along ∙ go (is_a c) (is_return c)
  where
    s : Silent n a
    s = silent n a h

    along : words_of n (event c a ∷ past) ≡ words_with (is_a c) (is_return c) (asks_for c) false false false false false false false false (words_of n past)
    along = λ i. words_with (is_a c) (is_return c) (asks_for c) (s.requests' i) (s.stores' i) (s.ends' i) (s.recalls' i) (s.ends_recall' i) (s.suspends' i) (s.ends_suspension' i) (h i) (words_of n past)

    go : (a r : Bool) → words_with a r (asks_for c) false false false false false false false false (words_of n past) ≡ words_of n past
    go true true = refl
    go true false = refl
    go false true = refl
    go false false = refl

-- an answer of A's that is no word of A's: neither requested nor ended
pub words_quiet_a : (n : ℕ) (c : Call) (a : Answer) (past : History) → is_a c ≡ true → is_return c ≡ false → requests n a ≡ false → ends n a ≡ false → words_of n (event c a ∷ past) ≡ words_of n past
words_quiet_a n c a past hc hr hq he = λ i. words_with (hc i) (hr i) (asks_for c) (hq i) (stores n a) (he i) (recalls n a) (ends_recall n a) (suspends n a) (ends_suspension n a) (tells n a) (words_of n past)

-- The words after each kind of event

abbrev pub w_asked : Option ℕ → Words → Words
w_asked to ws = record { given = suc ws.given; stored = ws.stored; ended_a = ws.ended_a; ended_b = ws.ended_b; pa = true; pb = ws.pb; rc = ws.rc; sp = ws.sp; rt = ws.rt; to = to }

abbrev pub w_ended_a : Bool → Words → Words
w_ended_a r ws = record { given = ws.given; stored = ws.stored; ended_a = suc ws.ended_a; ended_b = ws.ended_b; pa = false; pb = ws.pb; rc = ws.rc; sp = ws.sp; rt = (r && true) || ws.rt; to = ws.to }

abbrev pub w_stored : Words → Words
w_stored ws = record { given = ws.given; stored = suc ws.stored; ended_a = ws.ended_a; ended_b = ws.ended_b; pa = ws.pa; pb = true; rc = ws.rc; sp = ws.sp; rt = ws.rt; to = ws.to }

abbrev pub w_ended_b : Bool → Words → Words
w_ended_b r ws = record { given = ws.given; stored = ws.stored; ended_a = ws.ended_a; ended_b = suc ws.ended_b; pa = ws.pa; pb = false; rc = false; sp = false; rt = (r && true) || ws.rt; to = ws.to }

-- what of the recall and the suspension is left
abbrev pub w_states : Bool → Bool → Words → Words
w_states rc sp ws = record { given = ws.given; stored = ws.stored; ended_a = ws.ended_a; ended_b = ws.ended_b; pa = ws.pa; pb = ws.pb; rc = rc; sp = sp; rt = ws.rt; to = ws.to }

abbrev pub w_returned : Words → Words
w_returned ws = record { given = ws.given; stored = ws.stored; ended_a = ws.ended_a; ended_b = ws.ended_b; pa = ws.pa; pb = ws.pb; rc = ws.rc; sp = ws.sp; rt = true; to = ws.to }

pub words_ended_a : (n k : ℕ) (c : Call) (past : History) → is_a c ≡ true → eqb k n ≡ true → (cause : _) → words_of n (event c (ended k cause) ∷ past) ≡ w_ended_a (is_return c) (words_of n past)
words_ended_a n k c past hc h cause = λ i. words_with (hc i) (is_return c) (asks_for c) false false (h i) false (h i) false (h i) (h i) (words_of n past)

pub words_ended_b : (n k : ℕ) (c : Call) (past : History) → is_a c ≡ false → eqb k n ≡ true → (cause : _) → words_of n (event c (ended k cause) ∷ past) ≡ w_ended_b (is_return c) (words_of n past)
words_ended_b n k c past hc h cause = λ i. words_with (hc i) (is_return c) (asks_for c) false false (h i) false (h i) false (h i) (h i) (words_of n past)

pub words_asked : (n k : ℕ) (c : Call) (past : History) → is_a c ≡ true → is_return c ≡ false → eqb k n ≡ true → words_of n (event c (requested k) ∷ past) ≡ w_asked (asks_for c) (words_of n past)
words_asked n k c past hc hr h = λ i. words_with (hc i) (hr i) (asks_for c) (h i) false false false false false false (h i) (words_of n past)

pub words_stored : (n k : ℕ) (c : Call) (past : History) → is_a c ≡ false → is_return c ≡ false → eqb k n ≡ true → words_of n (event c (stored k) ∷ past) ≡ w_stored (words_of n past)
words_stored n k c past hc hr h = λ i. words_with (hc i) (hr i) (asks_for c) false (h i) false false false false false (h i) (words_of n past)

pub words_freed : (n k : ℕ) (c : Call) (past : History) → is_a c ≡ false → is_return c ≡ false → eqb k n ≡ true → words_of n (event c (freed k) ∷ past) ≡ w_states true (suspended_b n past) (words_of n past)
words_freed n k c past hc hr h = λ i. words_with (hc i) (hr i) (asks_for c) false false false (h i) false false false (h i) (words_of n past)

pub words_suspended : (n k : ℕ) (c : Call) (past : History) → is_a c ≡ false → is_return c ≡ false → eqb k n ≡ true → words_of n (event c (suspended k) ∷ past) ≡ w_states false true (words_of n past)
words_suspended n k c past hc hr h = λ i. words_with (hc i) (hr i) (asks_for c) false false false false (h i) (h i) false (h i) (words_of n past)

pub words_resumed : (n k : ℕ) (c : Call) (past : History) → is_a c ≡ false → is_return c ≡ false → eqb k n ≡ true → words_of n (event c (resumed k) ∷ past) ≡ w_states (under_recall n past) false (words_of n past)
words_resumed n k c past hc hr h = λ i. words_with (hc i) (hr i) (asks_for c) false false false false false false (h i) (h i) (words_of n past)

pub words_kept : (n k : ℕ) (c : Call) (past : History) → is_a c ≡ false → is_return c ≡ false → eqb k n ≡ true → words_of n (event c (kept k) ∷ past) ≡ w_states false (suspended_b n past) (words_of n past)
words_kept n k c past hc hr h = λ i. words_with (hc i) (hr i) (asks_for c) false false false false (h i) false false (h i) (words_of n past)

-- nothing, not a return: no word of B's
pub words_nothing : (n k : ℕ) (c : Call) (past : History) → is_return c ≡ false → words_of n (event c (nothing k) ∷ past) ≡ words_of n past
words_nothing n k c past hr = go (is_a c) (is_return c) hr
  where
    go : (a r : Bool) → r ≡ false → words_with a r (asks_for c) false false false false false false false (eqb k n) (words_of n past) ≡ words_of n past
    go true true e = λ i. words_with true (e i) (asks_for c) false false false false false false false (eqb k n) (words_of n past)
    go true false e = refl
    go false true e = λ i. words_with false (e i) (asks_for c) false false false false false false false (eqb k n) (words_of n past)
    go false false e = refl

pub words_rejected : (n k : ℕ) (c : Call) (past : History) → is_return c ≡ false → (cause : _) → words_of n (event c (rejected k cause) ∷ past) ≡ words_of n past
words_rejected n k c past hr cause = words_nothing n k c past hr

pub words_returned : (n k : ℕ) (c : Call) (past : History) → is_return c ≡ true → eqb k n ≡ true → words_of n (event c (nothing k) ∷ past) ≡ w_returned (words_of n past)
words_returned n k c past hr h = (λ i. words_with (is_a c) (hr i) (asks_for c) false false false false false false false (h i) (words_of n past)) ∙ go (is_a c)
  where
    go : (a : Bool) → words_with a true (asks_for c) false false false false false false false true (words_of n past) ≡ w_returned (words_of n past)
    go true = refl
    go false = refl
