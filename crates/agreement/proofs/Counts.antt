-- Counted: each side has one record for a transaction pending there; no number is given out, stored or ended twice.
use Rattle.std.proofs.Common.{◌≡◌, ℕ, suc, ◌+◌, ◌≤◌, Bool, true, false, cond, List, [], ◌∷◌, ◌++◌, length, refl, arith, length-append}
use Rattle.std.proofs.lemmas.Bool.{eqb-true}
use Rattle.tables.specs.Tables.{times}
use Rattle.tables.proofs.Tables.{never_both}
use Rattle.tables.proofs.Counting.{times_push}
use Rattle.messages.specs.Kinds.{letter_of}
use Rattle.messages.specs.declared.kind.Kind.{Kind}
use Rattle.messages.specs.declared.kind.Kind.TheVariants.{Request as Q, Cancel as X}
use Rattle.messages.specs.declared.values.Values.{Values}
use Rattle.agreement.specs.Laws.{one_if}
use Rattle.agreement.proofs.Spots.{Spot}
use Rattle.agreement.proofs.Closed.{Closed, is_q, is_x}

abbrev pub request : Values → Bool
request m = is_q m.kind

pub record Counts (n : ℕ) (s : Spot) : Type 0 where
  pub unborn : s.next ≤ n → s.words.given ≡ 0
  pub once : s.words.given ≤ 1
  pub one_a : length s.ra ≡ one_if s.words.pa
  pub sum_a : s.words.ended_a + length s.ra ≡ s.words.given
  pub one_b : length s.rb ≡ one_if s.words.pb
  pub sum_b : s.words.ended_b + length s.rb ≡ s.words.stored
  pub asked : s.words.stored + times request s.tb ≤ s.words.given

pub no_request : (k : Kind) → is_x k ≡ true → is_q k ≡ false
no_request k h = never_both (letter_of k) (letter_of X) (letter_of Q) h refl

times_one : (b : Bool) (n : ℕ) → cond b (suc n) n ≤ suc n
times_one true n = omega arith
times_one false n = omega arith

pub times_taken : (m : Values) (ms : List Values) → times request ms ≤ times request (m ∷ ms)
times_taken m ms = go (is_q m.kind)
  where
    go : (b : Bool) → times request ms ≤ cond b (suc (times request ms)) (times request ms)
    go true = omega arith
    go false = omega arith

pub times_added : (ms : List Values) (m : Values) → times request (ms ++ m ∷ []) ≤ suc (times request ms)
times_added ms m = omega (arith, times_push request ms m, times_one (is_q m.kind) (times request ms))

pub times_kept : (ms : List Values) (m : Values) → is_q m.kind ≡ false → times request (ms ++ m ∷ []) ≡ times request ms
times_kept ms m h = rw h at (times_push request ms m)

pub times_request : (m : Values) (ms : List Values) → is_q m.kind ≡ true → times request (m ∷ ms) ≡ suc (times request ms)
times_request m ms h = rw h

pub counted : (n : ℕ) → Closed n (Counts n)
counted n = record {
  alone_a = λ s p. omega arith;
  alone_b = λ s p. omega arith;
  numbers = λ x ws ra rb tb ta h p. record { unborn = λ l. p.unborn (omega arith); once = p.once; one_a = p.one_a; sum_a = p.sum_a; one_b = p.one_b; sum_b = p.sum_b; asked = p.asked };
  asks = λ x ws ra rb tb ta r m h hq mq p.
      let e : x ≡ n = eqb-true x n h in
      let z : ws.given ≡ 0 = p.unborn (omega arith) in
      record { unborn = λ l. absurd (omega arith); once = omega arith; one_a = omega (arith, length-append ra (r ∷ []), p.sum_a); sum_a = omega (arith, length-append ra (r ∷ []), p.sum_a); one_b = p.one_b; sum_b = p.sum_b; asked = omega (arith, times_added tb m, p.asked) };
  leaves = λ x ws rb tb ta r m h p. record { unborn = p.unborn; once = p.once; one_a = refl; sum_a = omega (arith, p.sum_a); one_b = p.one_b; sum_b = p.sum_b; asked = omega (arith, times_kept tb m (no_request _ h), p.asked) };
  lapses = λ x ws rb tb ta r h p. record { unborn = p.unborn; once = p.once; one_a = refl; sum_a = omega (arith, p.sum_a); one_b = p.one_b; sum_b = p.sum_b; asked = p.asked };
  ages = λ x ws rb tb ta r r' h p. record { unborn = p.unborn; once = p.once; one_a = p.one_a; sum_a = p.sum_a; one_b = p.one_b; sum_b = p.sum_b; asked = p.asked };
  says = λ x ws rb tb ta r r' m h h' mq mx p. record { unborn = p.unborn; once = p.once; one_a = p.one_a; sum_a = p.sum_a; one_b = p.one_b; sum_b = p.sum_b; asked = omega (arith, times_kept tb m mq, p.asked) };
  strays = λ x ws rb tb ta m y h p. record { unborn = p.unborn; once = p.once; one_a = p.one_a; sum_a = p.sum_a; one_b = p.one_b; sum_b = p.sum_b; asked = omega (arith, times_kept tb y (no_request _ h), p.asked) };
  ignores = λ x ws rb tb ta m h h' p. record { unborn = p.unborn; once = p.once; one_a = p.one_a; sum_a = p.sum_a; one_b = p.one_b; sum_b = p.sum_b; asked = p.asked };
  told_end = λ x ws rb tb ta r m h p. record { unborn = p.unborn; once = p.once; one_a = refl; sum_a = omega (arith, p.sum_a); one_b = p.one_b; sum_b = p.sum_b; asked = p.asked };
  hears = λ x ws rb tb ta r r' m h h' p. record { unborn = p.unborn; once = p.once; one_a = p.one_a; sum_a = p.sum_a; one_b = p.one_b; sum_b = p.sum_b; asked = p.asked };
  stores = λ x ws ra tb ta m r y mq rq hb yr yt p. record { unborn = p.unborn; once = p.once; one_a = p.one_a; sum_a = p.sum_a; one_b = refl; sum_b = omega (arith, p.sum_b); asked = omega (arith, times_request m tb mq, p.asked) };
  rejects = λ x ws ra tb ta m y mq yt p. record { unborn = p.unborn; once = p.once; one_a = p.one_a; sum_a = p.sum_a; one_b = p.one_b; sum_b = p.sum_b; asked = omega (arith, times_taken m tb, p.asked) };
  drops = λ x ws ra tb ta m mq p. record { unborn = p.unborn; once = p.once; one_a = p.one_a; sum_a = p.sum_a; one_b = p.one_b; sum_b = p.sum_b; asked = omega (arith, times_taken m tb, p.asked) };
  skips = λ x ws ra tb ta m r mx p. record { unborn = p.unborn; once = p.once; one_a = p.one_a; sum_a = p.sum_a; one_b = p.one_b; sum_b = p.sum_b; asked = omega (arith, times_taken m tb, p.asked) };
  turns = λ x ws ra tb ta r r' rc sp hb h h' p. record { unborn = p.unborn; once = p.once; one_a = p.one_a; sum_a = p.sum_a; one_b = p.one_b; sum_b = p.sum_b; asked = p.asked };
  tells = λ x ws ra tb ta r y h p. record { unborn = p.unborn; once = p.once; one_a = p.one_a; sum_a = p.sum_a; one_b = p.one_b; sum_b = p.sum_b; asked = p.asked };
  ends_by = λ x ws ra tb ta m r h p. record { unborn = p.unborn; once = p.once; one_a = p.one_a; sum_a = p.sum_a; one_b = refl; sum_b = omega (arith, p.sum_b); asked = omega (arith, times_taken m tb, p.asked) };
  ends_with = λ x ws ra tb ta r y h p. record { unborn = p.unborn; once = p.once; one_a = p.one_a; sum_a = p.sum_a; one_b = refl; sum_b = omega (arith, p.sum_b); asked = p.asked };
  back_a = λ x ws ra rb tb ta m p. record { unborn = p.unborn; once = p.once; one_a = p.one_a; sum_a = p.sum_a; one_b = p.one_b; sum_b = p.sum_b; asked = omega (arith, times_taken m tb, p.asked) };
  back_ends_a = λ x ws rb tb ta r m p. record { unborn = p.unborn; once = p.once; one_a = refl; sum_a = omega (arith, p.sum_a); one_b = p.one_b; sum_b = p.sum_b; asked = omega (arith, times_taken m tb, p.asked) };
  back_leaves = λ x ws rb tb ta r m y h p. record { unborn = p.unborn; once = p.once; one_a = refl; sum_a = omega (arith, p.sum_a); one_b = p.one_b; sum_b = p.sum_b; asked = omega (arith, times_taken m tb, times_kept tb y (no_request _ h), p.asked) };
  back_b = λ x ws ra rb tb ta m p. record { unborn = p.unborn; once = p.once; one_a = p.one_a; sum_a = p.sum_a; one_b = p.one_b; sum_b = p.sum_b; asked = p.asked };
  back_ends_b = λ x ws ra tb ta r m p. record { unborn = p.unborn; once = p.once; one_a = p.one_a; sum_a = p.sum_a; one_b = refl; sum_b = omega (arith, p.sum_b); asked = p.asked };
}
