-- The moves of one transaction: whatever holds before each of them and is kept by it, holds in every run.
-- A new call or message kind costs the cases that are its own.
use Rattle.std.proofs.Common.{◌≡◌, ℕ, ◌+◌, ◌≤◌, Bool, true, false, ◌&&◌, ◌||◌, eqb, List, [], ◌∷◌, ◌++◌, length, Some}
use Rattle.messages.specs.declared.kind.Kind.{Kind}
use Rattle.messages.specs.declared.kind.Kind.TheVariants.{Request as Q, Cancel as X, Result as R, Error as E, RemoteUserFree as F, CallDone as D, CallBusy as B}
use Rattle.messages.specs.declared.values.Values.{Values}
use Rattle.messages.specs.Sent.{same_kind}
use Rattle.a_side.specs.declared.record.ARecord.{ARecord}
use Rattle.a_side.specs.Rules.{runs2}
use Rattle.b_side.specs.declared.record.BRecord.{BRecord}
use Rattle.b_side.specs.Rules.{is_queued, is_recalling, is_suspended}
use Rattle.agreement.proofs.Spots.{Words, Spot, at, w_asked, w_ended_a, w_stored, w_ended_b, w_states, w_returned}

abbrev pub is_q : Kind → Bool
is_q kind = same_kind kind Q

abbrev pub is_x : Kind → Bool
is_x kind = same_kind kind X

abbrev pub is_r : Kind → Bool
is_r kind = same_kind kind R

abbrev pub is_f : Kind → Bool
is_f kind = same_kind kind F

-- a message that ends the record at A in every state; B does with retention 0
abbrev pub ends_record : Kind → Bool → Bool
ends_record kind none = same_kind kind X || same_kind kind E || same_kind kind D || (same_kind kind B && none)

abbrev pub terminal : Values → Bool
terminal m = ends_record m.kind (eqb m.retention 0)

abbrev pub requested : ARecord → Bool
requested r = runs2 r.state

pub record Closed (n : ℕ) (P : Spot → Type 0) : Type 0 where
  pub alone_a : (s : Spot) → P s → length s.ra ≤ 1
  pub alone_b : (s : Spot) → P s → length s.rb ≤ 1
  -- another number is given out
  pub numbers : (x : ℕ) (ws : Words) (ra : List ARecord) (rb : List BRecord) (tb ta : List Values) → eqb x n ≡ false → P (at x ws ra rb tb ta) → P (at (x + 1) ws ra rb tb ta)
  -- it is given out
  pub asks : (x : ℕ) (ws : Words) (ra : List ARecord) (rb : List BRecord) (tb ta : List Values) (r : ARecord) (m : Values) → eqb x n ≡ true → requested r ≡ true → is_q m.kind ≡ true → P (at x ws ra rb tb ta) → P (at (x + 1) (w_asked (Some m.destination) ws) (ra ++ r ∷ []) rb (tb ++ m ∷ []) ta)
  -- its record at A ends, and X is sent
  pub leaves : (x : ℕ) (ws : Words) (rb : List BRecord) (tb : List Values) (ta : List Values) (r : ARecord) (m : Values) → is_x m.kind ≡ true → P (at x ws (r ∷ []) rb tb ta) → P (at x (w_ended_a false ws) [] rb (tb ++ m ∷ []) ta)
  -- T2 is over
  pub lapses : (x : ℕ) (ws : Words) (rb : List BRecord) (tb : List Values) (ta : List Values) (r : ARecord) → requested r ≡ true → P (at x ws (r ∷ []) rb tb ta) → P (at x (w_ended_a false ws) [] rb tb ta)
  -- its timers at A run
  pub ages : (x : ℕ) (ws : Words) (rb : List BRecord) (tb : List Values) (ta : List Values) (r r' : ARecord) → requested r' ≡ requested r → P (at x ws (r ∷ []) rb tb ta) → P (at x ws (r' ∷ []) rb tb ta)
  -- A takes a step of its own, and tells B
  pub says : (x : ℕ) (ws : Words) (rb : List BRecord) (tb : List Values) (ta : List Values) (r r' : ARecord) (m : Values) → requested r ≡ false → requested r' ≡ false → is_q m.kind ≡ false → is_x m.kind ≡ false → P (at x ws (r ∷ []) rb tb ta) → P (at x ws (r' ∷ []) rb (tb ++ m ∷ []) ta)
  -- a stray is answered by X
  pub strays : (x : ℕ) (ws : Words) (rb : List BRecord) (tb : List Values) (ta : List Values) (m y : Values) → is_x y.kind ≡ true → P (at x ws [] rb tb (m ∷ ta)) → P (at x ws [] rb (tb ++ y ∷ []) ta)
  -- any other stray is dropped
  pub ignores : (x : ℕ) (ws : Words) (rb : List BRecord) (tb : List Values) (ta : List Values) (m : Values) → is_r m.kind ≡ false → is_f m.kind ≡ false → P (at x ws [] rb tb (m ∷ ta)) → P (at x ws [] rb tb ta)
  -- a message ends its record at A
  pub told_end : (x : ℕ) (ws : Words) (rb : List BRecord) (tb : List Values) (ta : List Values) (r : ARecord) (m : Values) → terminal m ≡ true → P (at x ws (r ∷ []) rb tb (m ∷ ta)) → P (at x (w_ended_a false ws) [] rb tb ta)
  -- a message that does not end it
  pub hears : (x : ℕ) (ws : Words) (rb : List BRecord) (tb : List Values) (ta : List Values) (r r' : ARecord) (m : Values) → terminal m ≡ false → (requested r' ≡ true → (is_r m.kind ≡ false) × (requested r ≡ true)) → P (at x ws (r ∷ []) rb tb (m ∷ ta)) → P (at x ws (r' ∷ []) rb tb ta)
  -- it is stored at B, and R is sent
  pub stores : (x : ℕ) (ws : Words) (ra : List ARecord) (tb : List Values) (ta : List Values) (m : Values) (r : BRecord) (y : Values) → is_q m.kind ≡ true → is_queued r.state ≡ true → r.destination ≡ m.destination → is_r y.kind ≡ true → terminal y ≡ false → P (at x ws ra [] (m ∷ tb) ta) → P (at x (w_stored ws) ra (r ∷ []) tb (ta ++ y ∷ []))
  -- it is rejected
  pub rejects : (x : ℕ) (ws : Words) (ra : List ARecord) (tb : List Values) (ta : List Values) (m y : Values) → is_q m.kind ≡ true → terminal y ≡ true → P (at x ws ra [] (m ∷ tb) ta) → P (at x ws ra [] tb (ta ++ y ∷ []))
  -- B has no record for a message
  pub drops : (x : ℕ) (ws : Words) (ra : List ARecord) (tb : List Values) (ta : List Values) (m : Values) → is_q m.kind ≡ false → P (at x ws ra [] (m ∷ tb) ta) → P (at x ws ra [] tb ta)
  -- a message that leaves a record standing at B
  pub skips : (x : ℕ) (ws : Words) (ra : List ARecord) (tb : List Values) (ta : List Values) (m : Values) (r : BRecord) → is_x m.kind ≡ false → P (at x ws ra (r ∷ []) (m ∷ tb) ta) → P (at x ws ra (r ∷ []) tb ta)
  -- its record at B takes a step
  pub turns : (x : ℕ) (ws : Words) (ra : List ARecord) (tb : List Values) (ta : List Values) (r r' : BRecord) (rc sp : Bool) → r'.destination ≡ r.destination → (is_recalling r.state ≡ ws.rc → is_recalling r'.state ≡ rc) → (is_suspended r.state ≡ ws.sp → is_suspended r'.state ≡ sp) → P (at x ws ra (r ∷ []) tb ta) → P (at x (w_states rc sp ws) ra (r' ∷ []) tb ta)
  -- B tells A
  pub tells : (x : ℕ) (ws : Words) (ra : List ARecord) (tb : List Values) (ta : List Values) (r : BRecord) (y : Values) → terminal y ≡ false → P (at x ws ra (r ∷ []) tb ta) → P (at x ws ra (r ∷ []) tb (ta ++ y ∷ []))
  -- X ends its record at B
  pub ends_by : (x : ℕ) (ws : Words) (ra : List ARecord) (tb : List Values) (ta : List Values) (m : Values) (r : BRecord) → is_x m.kind ≡ true → P (at x ws ra (r ∷ []) (m ∷ tb) ta) → P (at x (w_ended_b false ws) ra [] tb ta)
  -- its record at B ends, and A is told
  pub ends_with : (x : ℕ) (ws : Words) (ra : List ARecord) (tb : List Values) (ta : List Values) (r : BRecord) (y : Values) → terminal y ≡ true → P (at x ws ra (r ∷ []) tb ta) → P (at x (w_ended_b false ws) ra [] tb (ta ++ y ∷ []))
  -- one of its messages comes back to A
  pub back_a : (x : ℕ) (ws : Words) (ra : List ARecord) (rb : List BRecord) (tb : List Values) (ta : List Values) (m : Values) → P (at x ws ra rb (m ∷ tb) ta) → P (at x (w_returned ws) ra rb tb ta)
  -- and ends its record
  pub back_ends_a : (x : ℕ) (ws : Words) (rb : List BRecord) (tb : List Values) (ta : List Values) (r : ARecord) (m : Values) → P (at x ws (r ∷ []) rb (m ∷ tb) ta) → P (at x (w_ended_a true ws) [] rb tb ta)
  -- and X is sent
  pub back_leaves : (x : ℕ) (ws : Words) (rb : List BRecord) (tb : List Values) (ta : List Values) (r : ARecord) (m y : Values) → is_x y.kind ≡ true → P (at x ws (r ∷ []) rb (m ∷ tb) ta) → P (at x (w_ended_a true ws) [] rb (tb ++ y ∷ []) ta)
  -- one of its messages comes back to B
  pub back_b : (x : ℕ) (ws : Words) (ra : List ARecord) (rb : List BRecord) (tb : List Values) (ta : List Values) (m : Values) → P (at x ws ra rb tb (m ∷ ta)) → P (at x (w_returned ws) ra rb tb ta)
  -- and ends its record
  pub back_ends_b : (x : ℕ) (ws : Words) (ra : List ARecord) (tb : List Values) (ta : List Values) (r : BRecord) (m : Values) → P (at x ws ra (r ∷ []) tb (m ∷ ta)) → P (at x (w_ended_b true ws) ra [] tb ta)
