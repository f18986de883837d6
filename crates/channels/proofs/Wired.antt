-- Lines and the messages that they say: back and forth, how long they are, the first of them.
use Rattle.std.proofs.Common.{◌≡◌, ℕ, suc, ◌+◌, ◌*◌, ◌/◌, ◌<◌, ◌≤◌, true, List, [], ◌∷◌, ◌++◌, length, drop, Some, None, Ok, Err, Result, sym, refl, ap, ◌∙◌, arith}
use Rattle.std.specs.List.{AllByRecursion}
use Rattle.std.specs.Result.{result_ok}
use Rattle.std.proofs.lemmas.List.{append_assoc, append-nil, drop_at, flat_map_more, length-append}
use Rattle.messages.specs.declared.message.Message.{Message}
use Rattle.messages.specs.declared.values.Values.{Values}
use Rattle.messages.specs.declared.wire.unread.Unread.{Unread}
use Rattle.messages.specs.Lawful.{is_lawful}
use Rattle.messages.specs.Made.{said}
use Rattle.messages.specs.Wire.{line_of}
use Rattle.messages.specs.Parts.{reading_of}
use Rattle.messages.proofs.Trip.{trip}
use Rattle.channels.specs.Lined.{first_line, lines_of, line_says, messages_in, read_only}
use Rattle.channels.specs.Meaning.{first, rest, seen}
use Rattle.channels.proofs.OneLine.{one_line}

abbrev pub Lawful : List Values → Type 0
Lawful vs = AllByRecursion (λ v. is_lawful v ≡ true) vs

line_says_lem : (v : Values) → is_lawful v ≡ true → line_says (line_of v) ≡ v ∷ []
unfolding line_says
line_says_lem v lawful = ap read_only (trip.back v lawful)

first_message : (n : ℕ) (v : Values) (more : List ℕ) → is_lawful v ≡ true → messages_in (suc n) (line_of v ++ more) ≡ v ∷ messages_in n more
first_message n v more lawful =
    let bs = line_of v ++ more in
    ap (λ l. line_says l ++ messages_in n (drop (length l) bs)) (one_line v lawful more)
    ∙ ap (λ l. l ++ messages_in n (drop (length (line_of v)) bs)) (line_says_lem v lawful)
    ∙ ap (λ l. v ∷ messages_in n l) (drop_at (line_of v) more (length (line_of v)) refl)

-- the lines of lawful messages say those messages, whatever follows
pub messages_back : (vs : List Values) (more : List ℕ) → Lawful vs → messages_in (length vs) (lines_of vs ++ more) ≡ vs
messages_back [] more lawful = refl
messages_back (v ∷ vs) more lawful =
    ap (messages_in (suc (length vs))) (append_assoc (line_of v) (lines_of vs) more) ∙ first_message (length vs) v (lines_of vs ++ more) lawful.0
    ∙ ap (λ l. v ∷ l) (messages_back vs more lawful.1)

pub messages_settled : (vs : List Values) (n : ℕ) (bs : List ℕ) → Lawful vs → n ≡ length vs → bs ≡ lines_of vs → messages_in n bs ≡ vs
messages_settled vs n bs lawful long are =
    ap (λ l. messages_in n l) (are ∙ sym (append-nil (lines_of vs))) ∙ ap (λ k. messages_in k (lines_of vs ++ [])) long ∙ messages_back vs [] lawful

pub lines_push : (vs : List Values) (v : Values) → lines_of vs ++ line_of v ≡ lines_of (vs ++ v ∷ [])
lines_push vs v = flat_map_more line_of [] vs v

pub lines_short : (vs : List Values) → Lawful vs → length (lines_of vs) ≤ 46 * length vs
lines_short [] lawful = omega arith
lines_short (v ∷ vs) lawful = omega (arith, length-append (line_of v) (lines_of vs), trip.short v lawful.0, lines_short vs lawful.1)

-- one more line fits while a place is free
pub line_fits : (vs : List Values) (v : Values) (size : ℕ) → Lawful vs → is_lawful v ≡ true → length vs < size / 46 → length (lines_of vs) + length (line_of v) ≤ size
line_fits vs v size lawful one free = omega (arith, lines_short vs lawful, trip.short v one)

nothing_read : (r : Result Values Unread) → reading_of [] ≡ r → result_ok r ≡ None
nothing_read (Ok v) e = let none = (trip.only [] v e).0 in cc
nothing_read (Err why) e = refl

first_read : (vs : List Values) → Lawful vs → result_ok (reading_of (first_line (lines_of vs))) ≡ first vs
first_read [] lawful = nothing_read (reading_of []) refl
first_read (v ∷ vs) lawful = ap (λ l. result_ok (reading_of l)) (one_line v lawful.0 (lines_of vs)) ∙ ap result_ok (trip.back v lawful.0)

seen_said : (r : Result Message Unread) → seen (result_ok r) ≡ result_ok (said r)
seen_said (Ok m) = refl
seen_said (Err why) = refl

-- what is read from the first line is the first message
pub first_seen : (vs : List Values) (r : Result Message Unread) → Lawful vs → said r ≡ reading_of (first_line (lines_of vs)) → seen (result_ok r) ≡ first vs
first_seen vs r lawful e = seen_said r ∙ ap result_ok e ∙ first_read vs lawful

-- the bytes without the first line are the lines of the other messages
pub lines_rest : (vs : List Values) (v : Values) (bs : List ℕ) → Lawful vs → Some v ≡ first vs → bs ≡ lines_of vs → drop (length (first_line bs)) bs ≡ lines_of (rest vs)
lines_rest [] v bs lawful e are = cc
lines_rest (w ∷ vs) v bs lawful e are =
    ap (λ l. drop (length (first_line l)) l) are ∙ ap (λ l. drop (length l) (line_of w ++ lines_of vs)) (one_line w lawful.0 (lines_of vs))
    ∙ drop_at (line_of w) (lines_of vs) (length (line_of w)) refl

pub rest_lawful : (vs : List Values) → Lawful vs → Lawful (rest vs)
rest_lawful [] lawful = tt
rest_lawful (v ∷ vs) lawful = lawful.1

pub rest_long : (vs : List Values) (v : Values) → Some v ≡ first vs → length vs ≡ length (rest vs) + 1
rest_long [] v e = cc
rest_long (w ∷ vs) v e = omega arith

-- what holds of a wire once its bytes are the lines of lawful messages vs, n of them
pub record Settled (vs : List Values) (n : ℕ) (bs : List ℕ) : Type 0 where
  pub waiting : messages_in n bs ≡ vs
  pub lines : bs ≡ lines_of (messages_in n bs)
  pub counted : length (messages_in n bs) ≡ n

pub settled : (vs : List Values) (n : ℕ) (bs : List ℕ) → Lawful vs → n ≡ length vs → bs ≡ lines_of vs → Settled vs n bs
settled vs n bs lawful long are =
    let back = messages_settled vs n bs lawful long are in
    record { waiting = back; lines = are ∙ sym (ap lines_of back); counted = ap length back ∙ sym long }
