-- What every run keeps of each transaction, move by move.
use Rattle.std.proofs.Common.{◌≡◌, ℕ, true, ◌⊎◌, List, [], ◌∷◌, ◌++◌, sym, refl, subst, inl, inr, arith}
use Rattle.std.proofs.lemmas.Bool.{eqb-true}
use Rattle.messages.specs.declared.values.Values.{Values}
use Rattle.a_side.specs.declared.record.ARecord.{ARecord}
use Rattle.b_side.specs.declared.record.BRecord.{BRecord}
use Rattle.agreement.proofs.Spots.{Words, Spot, at}
use Rattle.agreement.proofs.Closed.{Closed, is_q, requested}
use Rattle.agreement.proofs.Counts.{Counts, counted, no_request}
use Rattle.agreement.proofs.States.{States, empty, st_asks, st_added, st_stores, st_turns}
use Rattle.agreement.proofs.Ways.{Local, l_asks, l_leaves, l_lapses, l_ages, l_says, l_strays, l_ignores, l_told_end, l_hears, l_stores, l_rejects, l_drops, l_skips, l_turns, l_tells, l_ends_by, l_ends_with}

-- nothing of a number is on the way before it is given out; then the ways are kept, unless one of its messages was returned
pub record Ways (s : Spot) : Type 0 where
  pub silent : s.words.given ≡ 0 → (s.tb ≡ []) × (s.ta ≡ [])
  pub local : (s.words.rt ≡ true) ⊎ Local s.ra s.rb s.tb s.ta

pub record Good (n : ℕ) (s : Spot) : Type 0 where
  pub counts : Counts n s
  pub states : States s
  pub ways : Ways s

map_way : {A B C : Type 0} → (B → C) → A ⊎ B → A ⊎ C
map_way f (inl a) = inl a
map_way f (inr b) = inr (f b)

silent_by_a : {A : Type 0} (n x : ℕ) (ws : Words) (r : ARecord) (rb : List BRecord) (tb ta : List Values) → Counts n (at x ws (r ∷ []) rb tb ta) → ws.given ≡ 0 → A
silent_by_a n x ws r rb tb ta c z = absurd (omega (arith, c.sum_a))

silent_by_b : {A : Type 0} (n x : ℕ) (ws : Words) (ra : List ARecord) (r : BRecord) (tb ta : List Values) → Counts n (at x ws ra (r ∷ []) tb ta) → ws.given ≡ 0 → A
silent_by_b n x ws ra r tb ta c z = absurd (omega (arith, c.sum_b, c.asked))

by_message : {A : Type 0} (m : Values) (ms : List Values) → m ∷ ms ≡ [] → A
by_message m ms e = absurd (let z : ◌≡◌ {A = ℕ} 0 1 = cc in omega arith)

asked_ways : (n x : ℕ) (ws : Words) (ra : List ARecord) (rb : List BRecord) (tb ta : List Values) (r : ARecord) (m : Values) → ws.given ≡ 0 → requested r ≡ true → is_q m.kind ≡ true → Good n (at x ws ra rb tb ta) → Local (ra ++ r ∷ []) rb (tb ++ m ∷ []) ta
asked_ways n x ws ra rb tb ta r m z hq mq p =
    let ea : [] ≡ ra = sym (empty ra (omega (arith, p.counts.sum_a))) in
    let eb : [] ≡ rb = sym (empty rb (omega (arith, p.counts.sum_b, p.counts.asked))) in
    let et : [] ≡ tb = sym (p.ways.silent z).0 in
    let eu : [] ≡ ta = sym (p.ways.silent z).1 in
    subst (λ l. Local (l ++ r ∷ []) rb (tb ++ m ∷ []) ta) ea
    (subst (λ l. Local (r ∷ []) l (tb ++ m ∷ []) ta) eb
    (subst (λ l. Local (r ∷ []) [] (l ++ m ∷ []) ta) et
    (subst (λ l. Local (r ∷ []) [] (m ∷ []) l) eu (l_asks [] [] [] [] r m hq mq))))

pub good : (n : ℕ) → Closed n (Good n)
good n = record {
  alone_a = λ s p. (counted n).alone_a s p.counts;
  alone_b = λ s p. (counted n).alone_b s p.counts;
  numbers = λ x ws ra rb tb ta h p. record {
    counts = (counted n).numbers x ws ra rb tb ta h p.counts;
    states = record { recalls = p.states.recalls; susps = p.states.susps; bound = p.states.bound; goes = p.states.goes };
    ways = record { silent = p.ways.silent; local = p.ways.local };
  };
  asks = λ x ws ra rb tb ta r m h hq mq p.
      let e : x ≡ n = eqb-true x n h in
      let z : ws.given ≡ 0 = p.counts.unborn (omega arith) in
      record {
        counts = (counted n).asks x ws ra rb tb ta r m h hq mq p.counts;
        states = st_asks n x ws ra rb tb ta r m z p.counts p.states;
        ways = record { silent = λ k. absurd (omega arith); local = inr (asked_ways n x ws ra rb tb ta r m z hq mq p) };
      };
  leaves = λ x ws rb tb ta r m h p. record {
    counts = (counted n).leaves x ws rb tb ta r m h p.counts;
    states = (let q = st_added n x ws [] [] rb tb ta ta m (no_request _ h) (record { recalls = p.states.recalls; susps = p.states.susps; bound = p.states.bound; goes = p.states.goes }) in record { recalls = q.recalls; susps = q.susps; bound = q.bound; goes = q.goes });
    ways = record { silent = λ z. silent_by_a n x ws r rb tb ta p.counts z; local = map_way (l_leaves [] rb tb ta r m h) p.ways.local };
  };
  lapses = λ x ws rb tb ta r h p. record {
    counts = (counted n).lapses x ws rb tb ta r h p.counts;
    states = record { recalls = p.states.recalls; susps = p.states.susps; bound = p.states.bound; goes = p.states.goes };
    ways = record { silent = λ z. silent_by_a n x ws r rb tb ta p.counts z; local = map_way (l_lapses [] rb tb ta r h) p.ways.local };
  };
  ages = λ x ws rb tb ta r r' h p. record {
    counts = (counted n).ages x ws rb tb ta r r' h p.counts;
    states = record { recalls = p.states.recalls; susps = p.states.susps; bound = p.states.bound; goes = p.states.goes };
    ways = record { silent = λ z. silent_by_a n x ws r rb tb ta p.counts z; local = map_way (l_ages [] rb tb ta r r' h) p.ways.local };
  };
  says = λ x ws rb tb ta r r' m h h' mq mx p. record {
    counts = (counted n).says x ws rb tb ta r r' m h h' mq mx p.counts;
    states = (let q = st_added n x ws [] [] rb tb ta ta m (mq) (record { recalls = p.states.recalls; susps = p.states.susps; bound = p.states.bound; goes = p.states.goes }) in record { recalls = q.recalls; susps = q.susps; bound = q.bound; goes = q.goes });
    ways = record { silent = λ z. silent_by_a n x ws r rb tb ta p.counts z; local = map_way (l_says [] rb tb ta r r' m h h' mq mx) p.ways.local };
  };
  strays = λ x ws rb tb ta m y h p. record {
    counts = (counted n).strays x ws rb tb ta m y h p.counts;
    states = (let q = st_added n x ws [] [] rb tb ta ta y (no_request _ h) (record { recalls = p.states.recalls; susps = p.states.susps; bound = p.states.bound; goes = p.states.goes }) in record { recalls = q.recalls; susps = q.susps; bound = q.bound; goes = q.goes });
    ways = record { silent = λ z. by_message m ta (p.ways.silent z).1; local = map_way (l_strays [] rb tb ta m y h) p.ways.local };
  };
  ignores = λ x ws rb tb ta m h h' p. record {
    counts = (counted n).ignores x ws rb tb ta m h h' p.counts;
    states = record { recalls = p.states.recalls; susps = p.states.susps; bound = p.states.bound; goes = p.states.goes };
    ways = record { silent = λ z. by_message m ta (p.ways.silent z).1; local = map_way (l_ignores [] rb tb ta m h h') p.ways.local };
  };
  told_end = λ x ws rb tb ta r m h p. record {
    counts = (counted n).told_end x ws rb tb ta r m h p.counts;
    states = record { recalls = p.states.recalls; susps = p.states.susps; bound = p.states.bound; goes = p.states.goes };
    ways = record { silent = λ z. silent_by_a n x ws r rb tb (m ∷ ta) p.counts z; local = map_way (l_told_end [] rb tb ta r m h) p.ways.local };
  };
  hears = λ x ws rb tb ta r r' m h h' p. record {
    counts = (counted n).hears x ws rb tb ta r r' m h h' p.counts;
    states = record { recalls = p.states.recalls; susps = p.states.susps; bound = p.states.bound; goes = p.states.goes };
    ways = record { silent = λ z. silent_by_a n x ws r rb tb (m ∷ ta) p.counts z; local = map_way (l_hears [] rb tb ta r r' m h h') p.ways.local };
  };
  stores = λ x ws ra tb ta m r y mq rq hb yr yt p. record {
    counts = (counted n).stores x ws ra tb ta m r y mq rq hb yr yt p.counts;
    states = (let q = st_stores n x ws ra m tb ta ta r mq rq hb p.states in record { recalls = q.recalls; susps = q.susps; bound = q.bound; goes = q.goes });
    ways = record { silent = λ z. by_message m tb (p.ways.silent z).0; local = map_way (l_stores ra [] tb ta m r y yr yt mq) p.ways.local };
  };
  rejects = λ x ws ra tb ta m y mq yt p. record {
    counts = (counted n).rejects x ws ra tb ta m y mq yt p.counts;
    states = record { recalls = p.states.recalls; susps = p.states.susps; bound = p.states.bound; goes = p.states.goes.1 };
    ways = record { silent = λ z. by_message m tb (p.ways.silent z).0; local = map_way (l_rejects ra [] tb ta m y mq yt) p.ways.local };
  };
  drops = λ x ws ra tb ta m mq p. record {
    counts = (counted n).drops x ws ra tb ta m mq p.counts;
    states = record { recalls = p.states.recalls; susps = p.states.susps; bound = p.states.bound; goes = p.states.goes.1 };
    ways = record { silent = λ z. by_message m tb (p.ways.silent z).0; local = map_way (l_drops ra [] tb ta m mq) p.ways.local };
  };
  skips = λ x ws ra tb ta m r mx p. record {
    counts = (counted n).skips x ws ra tb ta m r mx p.counts;
    states = record { recalls = p.states.recalls; susps = p.states.susps; bound = p.states.bound; goes = p.states.goes.1 };
    ways = record { silent = λ z. by_message m tb (p.ways.silent z).0; local = map_way (l_skips ra [] tb ta m r mx) p.ways.local };
  };
  turns = λ x ws ra tb ta r r' rc sp hb h h' p. record {
    counts = (counted n).turns x ws ra tb ta r r' rc sp hb h h' p.counts;
    states = st_turns n x ws ra tb ta r r' rc sp hb h h' p.states;
    ways = record { silent = λ z. silent_by_b n x ws ra r tb ta p.counts z; local = map_way (l_turns ra [] tb ta r r') p.ways.local };
  };
  tells = λ x ws ra tb ta r y h p. record {
    counts = (counted n).tells x ws ra tb ta r y h p.counts;
    states = record { recalls = p.states.recalls; susps = p.states.susps; bound = p.states.bound; goes = p.states.goes };
    ways = record { silent = λ z. silent_by_b n x ws ra r tb ta p.counts z; local = map_way (l_tells ra [] tb ta r y h) p.ways.local };
  };
  ends_by = λ x ws ra tb ta m r h p. record {
    counts = (counted n).ends_by x ws ra tb ta m r h p.counts;
    states = record { recalls = refl; susps = refl; bound = tt; goes = p.states.goes.1 };
    ways = record { silent = λ z. by_message m tb (p.ways.silent z).0; local = map_way (l_ends_by ra [] tb ta m r h) p.ways.local };
  };
  ends_with = λ x ws ra tb ta r y h p. record {
    counts = (counted n).ends_with x ws ra tb ta r y h p.counts;
    states = record { recalls = refl; susps = refl; bound = tt; goes = p.states.goes };
    ways = record { silent = λ z. silent_by_b n x ws ra r tb ta p.counts z; local = map_way (l_ends_with ra [] tb ta r y h) p.ways.local };
  };
  back_a = λ x ws ra rb tb ta m p. record {
    counts = (counted n).back_a x ws ra rb tb ta m p.counts;
    states = record { recalls = p.states.recalls; susps = p.states.susps; bound = p.states.bound; goes = p.states.goes.1 };
    ways = record { silent = λ z. by_message m tb (p.ways.silent z).0; local = inl refl };
  };
  back_ends_a = λ x ws rb tb ta r m p. record {
    counts = (counted n).back_ends_a x ws rb tb ta r m p.counts;
    states = record { recalls = p.states.recalls; susps = p.states.susps; bound = p.states.bound; goes = p.states.goes.1 };
    ways = record { silent = λ z. by_message m tb (p.ways.silent z).0; local = inl refl };
  };
  back_leaves = λ x ws rb tb ta r m y h p. record {
    counts = (counted n).back_leaves x ws rb tb ta r m y h p.counts;
    states = (let q = st_added n x ws [] [] rb tb ta ta y (no_request _ h) (record { recalls = p.states.recalls; susps = p.states.susps; bound = p.states.bound; goes = p.states.goes.1 }) in record { recalls = q.recalls; susps = q.susps; bound = q.bound; goes = q.goes });
    ways = record { silent = λ z. by_message m tb (p.ways.silent z).0; local = inl refl };
  };
  back_b = λ x ws ra rb tb ta m p. record {
    counts = (counted n).back_b x ws ra rb tb ta m p.counts;
    states = record { recalls = p.states.recalls; susps = p.states.susps; bound = p.states.bound; goes = p.states.goes };
    ways = record { silent = λ z. by_message m ta (p.ways.silent z).1; local = inl refl };
  };
  back_ends_b = λ x ws ra tb ta r m p. record {
    counts = (counted n).back_ends_b x ws ra tb ta r m p.counts;
    states = record { recalls = refl; susps = refl; bound = tt; goes = p.states.goes };
    ways = record { silent = λ z. by_message m ta (p.ways.silent z).1; local = inl refl };
  };
}
