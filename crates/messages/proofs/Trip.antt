-- Reading a message's line gives the message back, and whatever reads as a message is that message's line.
use Rattle.std.proofs.Common.{◌≡◌, ℕ, ◌+◌, Bool, true, false, cond, eqb, List, [], ◌∷◌, ◌++◌, length, drop, Some, None, Ok, Err, codes, decimal, Option, Result, sym, refl, ap, ◌∙◌, arith}
use Rattle.std.proofs.lemmas.Bool.Decides.{nat_tests}
use Rattle.std.specs.Option.{ok_or}
use Rattle.lines.specs.Faults.{LineFault}
use Rattle.lines.specs.Results.{on_err}
use Rattle.lines.specs.Tokens.{Seen, word, first_in, value_in}
use Rattle.lines.proofs.Trip.{then_back, then_in, ok_same, text_to, text_from, letter_to, letter_from, field_to, field_from, end_to, end_from}
use Rattle.messages.specs.declared.kind.Kind.{Kind}
use Rattle.messages.specs.declared.kind.UnknownLetter.{UnknownLetter}
use Rattle.messages.specs.declared.kind.Kind.TheVariants.{Request, Suspend, Resume, Call, Cancel, Result as ResultKind, Error, RemoteUserFree, CallDone, CallBusy}
use Rattle.messages.specs.declared.values.Values.{Values}
use Rattle.messages.specs.declared.wire.key.Key.{Key}
use Rattle.messages.specs.declared.wire.key.Key.TheVariants.{Kind as KindKey, Tn, A, B, Sv, Rt, Cs}
use Rattle.messages.specs.declared.wire.unread.Unread.{Unread}
use Rattle.messages.specs.declared.wire.unread.Unread.TheVariants.{NotLawful, NotALine}
use Rattle.messages.specs.Kinds.{letter_of, kind_of}
use Rattle.messages.specs.Lawful.{is_lawful}
use Rattle.messages.specs.Wire.{key_text, key_most, line_of}
use Rattle.messages.specs.Parts.{Shown, kind_at, parts_of, reading_of}
use Rattle.messages.specs.Trip.{RoundTrip}
use Rattle.messages.proofs.Bounds.{bounds}
use Rattle.messages.proofs.Short.{line_short}

-- the letter of a kind is read as that kind
kind_to : (k : Kind) (at : ℕ) → kind_at (word (letter_of k ∷ []) at) ≡ Ok k
unfolding kind_at
kind_to Request at = refl
kind_to Suspend at = refl
kind_to Resume at = refl
kind_to Call at = refl
kind_to Cancel at = refl
kind_to ResultKind at = refl
kind_to Error at = refl
kind_to RemoteUserFree at = refl
kind_to CallDone at = refl
kind_to CallBusy at = refl

-- one more letter of the list
letter_step : (b n : ℕ) (here : Kind) (later : Option Kind) (k : Kind) → n ≡ letter_of here → (later ≡ Some k → b ≡ letter_of k) → cond (eqb b n) (Some here) later ≡ Some k → b ≡ letter_of k
letter_step b n here later k letter go h =
    let P : Bool → Type 0 = λ t. eqb b n ≡ t → cond t (Some here) later ≡ Some k → b ≡ letter_of k in
    elim (eqb b n) as P [
      | true ↦ λ t e. let same : b ≡ n = grind (arith, nat_tests) in let is : here ≡ k = cc in same ∙ letter ∙ ap letter_of is
      | false ↦ λ t e. go e
    ] refl h

kind_some : (o : Option Kind) (e : UnknownLetter) (f : UnknownLetter → LineFault Key) (k : Kind) → on_err f (ok_or o e) ≡ Ok k → o ≡ Some k
kind_some (Some k') e f k h = ap (λ x. Some x) (ok_same k' k h)
kind_some None e f k h = absurd (let z : ◌≡◌ {A = ℕ} 0 1 = cc in omega arith)

kind_from : (letter : Seen) (k : Kind) → kind_at letter ≡ Ok k → first_in letter ≡ letter_of k
unfolding kind_at
kind_from letter k h =
    let b : ℕ = first_in letter in
    letter_step b 81 Request _ k refl
    (letter_step b 83 Suspend _ k refl
    (letter_step b 77 Resume _ k refl
    (letter_step b 67 Call _ k refl
    (letter_step b 88 Cancel _ k refl
    (letter_step b 82 ResultKind _ k refl
    (letter_step b 69 Error _ k refl
    (letter_step b 70 RemoteUserFree _ k refl
    (letter_step b 68 CallDone _ k refl
    (letter_step b 66 CallBusy None k refl (λ e. absurd (let z : ◌≡◌ {A = ℕ} 0 1 = cc in omega arith))))))))))) (kind_some (kind_of b) _ _ k h)

-- the place after a key and its number
abbrev past : Key → ℕ → ℕ → ℕ
past key n at = at + length (key_text key) + length (decimal n)

trip_to : (v : Values) → is_lawful v ≡ true → reading_of (line_of v) ≡ Ok v
trip_to v lawful =
    let w = bounds v lawful in
    let line : List ℕ = line_of v in
    let tn-at : ℕ = past Tn v.tn 6 in
    let user-at : ℕ = past A v.user tn-at in
    let destination-at : ℕ = past B v.destination user-at in
    let service-at : ℕ = past Sv v.service destination-at in
    let retention-at : ℕ = past Rt v.retention service-at in
    let cause-at : ℕ = past Cs v.cause retention-at in
    let front = text_to KindKey (codes "kind=") line 0 _ refl in
    let letter = letter_to KindKey (letter_of v.kind) line 5 _ refl in
    let tn = field_to Tn (key_text Tn) (key_most Tn) v.tn 32 line 6 _ w.tn (omega arith) refl letter.1 in
    let user = field_to A (key_text A) (key_most A) v.user 32 line tn-at _ w.user (omega arith) refl tn.1 in
    let destination = field_to B (key_text B) (key_most B) v.destination 32 line user-at _ w.destination (omega arith) refl user.1 in
    let service = field_to Sv (key_text Sv) (key_most Sv) v.service 32 line destination-at _ w.service (omega arith) refl destination.1 in
    let retention = field_to Rt (key_text Rt) (key_most Rt) v.retention 32 line service-at _ w.retention (omega arith) refl service.1 in
    let cause = field_to Cs (key_text Cs) (key_most Cs) v.cause 10 line retention-at [] w.cause (omega arith) refl retention.1 in
    let last = end_to Cs line cause-at cause.1 in
    let kind = kind_to v.kind 5 in
    rw front.0 (rw letter.0 (rw kind (rw tn.0 (rw user.0 (rw destination.0 (rw service.0 (rw retention.0 (rw cause.0 (rw last (rw lawful))))))))))

-- a line that was taken apart is the line of its values
parts_from : (line : List ℕ) (s : Shown) → parts_of line ≡ Ok s → line ≡ line_of s.values
parts_from line s h =
    let P : Type 0 = line ≡ line_of s.values in
    then_in _ _ s P h (λ at0 word_ok h0.
    then_in _ _ s P h0 (λ letter letter-ok h1.
    then_in _ _ s P h1 (λ kind Kind-ok h2.
    then_in _ _ s P h2 (λ tn tn-ok h3.
    then_in _ _ s P h3 (λ user user-ok h4.
    then_in _ _ s P h4 (λ destination destination-ok h5.
    then_in _ _ s P h5 (λ service service-ok h6.
    then_in _ _ s P h6 (λ retention retention-ok h7.
    then_in _ _ s P h7 (λ cause cause-ok h8.
    then_in _ _ s P h8 (λ u end-ok h9.
    let word-is = text_from KindKey (key_text KindKey) line 0 at0 word_ok in
    let letter-is = letter_from KindKey line at0 letter letter-ok in
    let kind-is = kind_from letter.0 kind Kind-ok in
    let tn-is = field_from Tn (key_text Tn) (key_most Tn) line letter.1 tn (omega arith) tn-ok in
    let user-is = field_from A (key_text A) (key_most A) line tn.1 user (omega arith) user-ok in
    let destination-is = field_from B (key_text B) (key_most B) line user.1 destination (omega arith) destination-ok in
    let service-is = field_from Sv (key_text Sv) (key_most Sv) line destination.1 service (omega arith) service-ok in
    let retention-is = field_from Rt (key_text Rt) (key_most Rt) line service.1 retention (omega arith) retention-ok in
    let cause-is = field_from Cs (key_text Cs) (key_most Cs) line retention.1 cause (omega arith) cause-ok in
    let end_is = end_from Cs line cause.1 u end-ok in
    let V : Values = record { kind = kind; tn = value_in tn.0; user = value_in user.0; destination = value_in destination.0; service = value_in service.0; retention = value_in retention.0; cause = value_in cause.0 } in
    let same : V ≡ s.values = ap (λ (t : Shown). t.values) (ok_same _ s h9) in
    let whole : line ≡ line_of V =
    word-is.1 ∙ ap (λ l. codes "kind=" ++ l) (letter-is.1 ∙ ap (λ b. b ∷ drop letter.1 line) kind-is
    ∙ ap (λ l. letter_of kind ∷ l) (tn-is.1 ∙ ap (λ l. codes " tn=" ++ (decimal V.tn ++ l))
    (user-is.1 ∙ ap (λ l. codes " a=" ++ (decimal V.user ++ l)) (destination-is.1 ∙ ap (λ l. codes " b=" ++ (decimal V.destination ++ l))
    (service-is.1 ∙ ap (λ l. codes " sv=" ++ (decimal V.service ++ l)) (retention-is.1 ∙ ap (λ l. codes " rt=" ++ (decimal V.retention ++ l))
    (cause-is.1 ∙ ap (λ l. codes " cs=" ++ (decimal V.cause ++ l)) end_is))))))) in
    whole ∙ ap line_of same))))))))))

lawful_from : (b : Bool) (v w : Values) → ◌≡◌ {A = Result Values Unread} (cond b (Ok v) (Err NotLawful)) (Ok w) → (b ≡ true) × (v ≡ w)
lawful_from true v w h = (refl, ok_same v w h)
lawful_from false v w h = absurd (let z : ◌≡◌ {A = ℕ} 0 1 = cc in omega arith)

parted : (r : Result Shown (LineFault Key)) (s : Shown) → on_err NotALine r ≡ Ok s → r ≡ Ok s
parted (Ok t) s h = ap (λ x. Ok x) (ok_same t s h)
parted (Err f) s h = absurd (let z : ◌≡◌ {A = ℕ} 0 1 = cc in omega arith)

trip_from : (line : List ℕ) (v : Values) → reading_of line ≡ Ok v → (line ≡ line_of v) × (is_lawful v ≡ true)
trip_from line v h =
    let step = then_back (on_err NotALine (parts_of line)) _ v h in
    let s : Shown = step.0 in
    let made = lawful_from (is_lawful s.values) s.values v step.2 in (
      parts_from line s (parted (parts_of line) s step.1) ∙ ap line_of made.1,
      ap is_lawful (sym made.1) ∙ made.0,
    )

pub trip : RoundTrip
trip = record {
  short = line_short;
  back = trip_to;
  only = trip_from;
  apart = λ v w lv lw e. ok_same v w (sym (trip_to v lv) ∙ ap reading_of e ∙ trip_to w lw);
}
