-- The states at B are the words of the history, and a request keeps the destination of its activation.
use Rattle.std.proofs.Common.{◌≡◌, ℕ, suc, ◌+◌, Bool, true, false, cond, ◌||◌, List, [], ◌∷◌, ◌++◌, length, Some, Option, sym, refl, ap, ◌∙◌, subst, arith}
use Rattle.tables.proofs.Tables.{never}
use Rattle.tables.specs.Tables.{times}
use Rattle.waiting_line.specs.Searches.{some}
use Rattle.messages.specs.declared.values.Values.{Values}
use Rattle.a_side.specs.declared.record.ARecord.{ARecord}
use Rattle.b_side.specs.declared.record.BState.{BState}
use Rattle.b_side.specs.declared.record.BState.TheVariants.{Queued, Suspended, Recalling}
use Rattle.b_side.specs.declared.record.BRecord.{BRecord}
use Rattle.b_side.specs.Rules.{is_queued, is_recalling, is_suspended}
use Rattle.agreement.proofs.Spots.{Words, Spot, at, w_asked, w_stored, w_states}
use Rattle.agreement.proofs.Closed.{is_q}
use Rattle.agreement.proofs.Counts.{Counts, request}

abbrev pub recalling_r : BRecord → Bool
recalling_r r = is_recalling r.state

abbrev pub suspended_r : BRecord → Bool
suspended_r r = is_suspended r.state

-- its record is for the destination of its activation
abbrev pub Bound : Option ℕ → List BRecord → Type 0
Bound to [] = Unit {0}
Bound to (r ∷ rs) = (to ≡ Some r.destination) × Bound to rs

-- and so is its request on the way
abbrev pub Asks : Option ℕ → List Values → Type 0
Asks to [] = Unit {0}
Asks to (m ∷ ms) = (is_q m.kind ≡ true → to ≡ Some m.destination) × Asks to ms

pub record States (s : Spot) : Type 0 where
  pub recalls : some recalling_r s.rb ≡ s.words.rc
  pub susps : some suspended_r s.rb ≡ s.words.sp
  pub bound : Bound s.words.to s.rb
  pub goes : Asks s.words.to s.tb

pub or_false : (b : Bool) → (b || false) ≡ b
or_false true = refl
or_false false = refl

pub empty : {X : Type 0} (xs : List X) → length xs ≡ 0 → xs ≡ []
empty [] h = refl
empty (x ∷ xs) h = absurd (omega arith)

asks_none : (to : Option ℕ) (ms : List Values) → times request ms ≡ 0 → Asks to ms
asks_none to [] h = tt
asks_none to (m ∷ ms) h = go (is_q m.kind) refl h (asks_none to ms)
  where
    go : (b : Bool) → is_q m.kind ≡ b → cond b (suc (times request ms)) (times request ms) ≡ 0 → (times request ms ≡ 0 → Asks to ms) → (is_q m.kind ≡ true → to ≡ Some m.destination) × Asks to ms
    go true e f ih = absurd (omega arith)
    go false e f ih = ((λ q. never (sym q ∙ e)), ih f)

pub asks_added : (to : Option ℕ) (ms : List Values) (m : Values) → Asks to ms → (is_q m.kind ≡ true → to ≡ Some m.destination) → Asks to (ms ++ m ∷ [])
asks_added to [] m p h = (h, tt)
asks_added to (x ∷ ms) m p h = (p.0, asks_added to ms m p.1 h)

asks_plain : (to : Option ℕ) (ms : List Values) (m : Values) → is_q m.kind ≡ false → Asks to ms → Asks to (ms ++ m ∷ [])
asks_plain to ms m h p = asks_added to ms m p (λ q. never (sym q ∙ h))

queued_plain : (s : BState) → is_queued s ≡ true → (is_recalling s ≡ false) × (is_suspended s ≡ false)
queued_plain Queued h = (refl, refl)
queued_plain Suspended h = (refl, sym h)
queued_plain Recalling h = (sym h, refl)

module _ (n x : ℕ) (ws : Words) where
  pub st_asks : (ra : List ARecord) (rb : List BRecord) (tb ta : List Values) (r : ARecord) (m : Values) → ws.given ≡ 0 → Counts n (at x ws ra rb tb ta) → States (at x ws ra rb tb ta) → States (at (x + 1) (w_asked (Some m.destination) ws) (ra ++ r ∷ []) rb (tb ++ m ∷ []) ta)
  st_asks ra rb tb ta r m z c p = record {
    recalls = p.recalls;
    susps = p.susps;
    bound = subst (λ rs. Bound (Some m.destination) rs) (sym (empty rb (omega (arith, c.sum_b, c.asked)))) tt;
    goes = asks_added (Some m.destination) tb m (asks_none (Some m.destination) tb (omega (arith, c.asked))) (λ _. refl);
  }

  -- a message that is no request is added toward B
  pub st_added : (ra ra' : List ARecord) (rb : List BRecord) (tb ta ta' : List Values) (m : Values) → is_q m.kind ≡ false → States (at x ws ra rb tb ta) → States (at x ws ra' rb (tb ++ m ∷ []) ta')
  st_added ra ra' rb tb ta ta' m h p = record { recalls = p.recalls; susps = p.susps; bound = p.bound; goes = asks_plain ws.to tb m h p.goes }

  pub st_same : (ra ra' : List ARecord) (rb : List BRecord) (tb ta ta' : List Values) → States (at x ws ra rb tb ta) → States (at x ws ra' rb tb ta')
  st_same ra ra' rb tb ta ta' p = record { recalls = p.recalls; susps = p.susps; bound = p.bound; goes = p.goes }

  -- a message toward B is taken
  pub st_taken : (ra ra' : List ARecord) (rb : List BRecord) (m : Values) (tb ta ta' : List Values) → States (at x ws ra rb (m ∷ tb) ta) → States (at x ws ra' rb tb ta')
  st_taken ra ra' rb m tb ta ta' p = record { recalls = p.recalls; susps = p.susps; bound = p.bound; goes = p.goes.1 }

  pub st_stores : (ra : List ARecord) (m : Values) (tb ta ta' : List Values) (r : BRecord) → is_q m.kind ≡ true → is_queued r.state ≡ true → r.destination ≡ m.destination → States (at x ws ra [] (m ∷ tb) ta) → States (at x (w_stored ws) ra (r ∷ []) tb ta')
  st_stores ra m tb ta ta' r mq rq hb p = record {
    recalls = or_false (is_recalling r.state) ∙ (queued_plain r.state rq).0 ∙ p.recalls;
    susps = or_false (is_suspended r.state) ∙ (queued_plain r.state rq).1 ∙ p.susps;
    bound = (p.goes.0 mq ∙ ap Some (sym hb), tt);
    goes = p.goes.1;
  }

  pub st_turns : (ra : List ARecord) (tb ta : List Values) (r r' : BRecord) (rc sp : Bool) → r'.destination ≡ r.destination → (is_recalling r.state ≡ ws.rc → is_recalling r'.state ≡ rc) → (is_suspended r.state ≡ ws.sp → is_suspended r'.state ≡ sp) → States (at x ws ra (r ∷ []) tb ta) → States (at x (w_states rc sp ws) ra (r' ∷ []) tb ta)
  st_turns ra tb ta r r' rc sp hb h h' p = record {
    recalls = or_false (is_recalling r'.state) ∙ h (sym (or_false (is_recalling r.state)) ∙ p.recalls);
    susps = or_false (is_suspended r'.state) ∙ h' (sym (or_false (is_suspended r.state)) ∙ p.susps);
    bound = (p.bound.0 ∙ ap Some (sym hb), tt);
    goes = p.goes;
  }
