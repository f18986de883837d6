-- What the originating side keeps between calls, and why five places toward B suffice for every call.
-- A side that is tidy before an accepted call is tidy after it, and the call sends at most five messages.
use Rattle.std.specs.Prelude.{◌≡◌, ℕ, ◌+◌, ◌≤◌, Bool, false, List, [], ◌∷◌, length, None, ◌==◌}
use Rattle.tables.specs.Tables.{times}
use Rattle.waiting_line.specs.Searches.{some}
use Rattle.messages.specs.declared.values.Values.{Values}
use Rattle.a_side.specs.declared.record.ARecord.{ARecord}
use Rattle.a_side.specs.Rules.{AModel, ADone, resumable, accept, activate_refusal, activating, withdraw_refusal, withdrawing, answer_refusal, answering, line_busied, line_freeing, a_ticked, a_expiring, a_receiving, a_returning}

abbrev pub of_user : ℕ → ARecord → Bool
of_user u r = r.user == u

-- the numbers rise, from low on and below high
abbrev pub Rises : ℕ → List ARecord → ℕ → Type 0
Rises low [] high = low ≤ high
Rises low (r ∷ rs) high = (low ≤ r.tn) × Rises (r.tn + 1) rs high

-- what stands between calls
pub record Tidy (s : AModel) : Type 0 where
  -- records stand by rising number, below the next one
  pub rising : Rises 0 s.records s.next
  -- a user has at most five
  pub few : (u : ℕ) → times (of_user u) s.records ≤ 5
  -- no Suspended record of a user who is not CCBS-busy stands
  pub settled : some (resumable s) s.records ≡ false

-- what an accepted call must leave and send
pub record Keeps (d : ADone) : Type 0 where
  pub tidy : Tidy d.side
  pub five : length d.sent ≤ 5

-- so does each accepted call
pub record Five (s : AModel) : Type 0 where
  pub activate : (capacity : ℕ) (waiting : List Values) (user destination service : ℕ) → activate_refusal s capacity waiting user destination service ≡ None → Keeps (accept s (activating s user destination service))
  pub withdraw : (capacity : ℕ) (waiting : List Values) (user n : ℕ) → withdraw_refusal s capacity waiting user n ≡ None → Keeps (accept s (withdrawing s n))
  pub answer : (capacity : ℕ) (waiting : List Values) (user n : ℕ) → answer_refusal s capacity waiting user n ≡ None → Keeps (accept s (answering s n))
  pub line_busy : (user : ℕ) → Keeps (line_busied s user)
  pub line_free : (user : ℕ) → Keeps (accept s (line_freeing s user))
  pub tick : Keeps (a_ticked s)
  pub expiry : Keeps (accept s (a_expiring s))
  pub deliver : (m : Values) → Keeps (accept s (a_receiving s m))
  pub «return» : (m : Values) → Keeps (accept s (a_returning s m))

abbrev pub FiveSuffice : Type 0
FiveSuffice = (s : AModel) → Tidy s → Five s
