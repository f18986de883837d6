-- The line of a lawful message has its only byte 10 at its end, so that the first line of lines is the first message's.
use Rattle.std.proofs.Common.{◌≡◌, ℕ, ◌^◌, ◌<◌, true, false, cond, eqb, List, [], ◌∷◌, ◌++◌, get_or, decimal, refl, ap, ◌∙◌, arith}
use Rattle.std.specs.List.{AllByRecursion}
use Rattle.std.proofs.lemmas.Fmt.{decimal_is_IsNumeral}
use Rattle.std.proofs.ByRecursion.{All-from_get_or}
use Rattle.std.proofs.lemmas.Str.Parse.{digit_at}
use Rattle.std.proofs.lemmas.Bool.{ne_eqb}
use Rattle.messages.specs.declared.kind.Kind.{Kind}
use Rattle.messages.specs.declared.kind.Kind.TheVariants.{Request, Suspend, Resume, Call, Cancel, Result, Error, RemoteUserFree, CallDone, CallBusy}
use Rattle.messages.specs.declared.values.Values.{Values}
use Rattle.messages.specs.declared.wire.key.Key.{Key}
use Rattle.messages.specs.declared.wire.key.Key.TheVariants.{Kind as KindKey, Tn, A, B, Sv, Rt, Cs}
use Rattle.messages.specs.Kinds.{letter_of}
use Rattle.messages.specs.Lawful.{is_lawful}
use Rattle.messages.specs.Wire.{key_text, line_of}
use Rattle.messages.proofs.Bounds.{bounds}
use Rattle.channels.specs.Lined.{first_line}

-- the byte ends no line
abbrev Inside : ℕ → Type 0
Inside b = eqb b 10 ≡ false

-- bytes that are one line, whatever follows them
abbrev pub OneLine : List ℕ → Type 0
OneLine bs = (more : List ℕ) → first_line (bs ++ more) ≡ bs

within : (xs ys : List ℕ) → AllByRecursion Inside xs → OneLine ys → OneLine (xs ++ ys)
within [] ys inside line more = line more
within (x ∷ xs) ys inside line more =
    ap (λ b. x ∷ cond b [] (first_line ((xs ++ ys) ++ more))) inside.0 ∙ ap (λ l. x ∷ l) (within xs ys inside.1 line more)

key_inside : (k : Key) → AllByRecursion Inside (key_text k)
key_inside KindKey = (refl, (refl, (refl, (refl, (refl, tt)))))
key_inside Tn = (refl, (refl, (refl, (refl, tt))))
key_inside A = (refl, (refl, (refl, tt)))
key_inside B = (refl, (refl, (refl, tt)))
key_inside Sv = (refl, (refl, (refl, (refl, tt))))
key_inside Rt = (refl, (refl, (refl, (refl, tt))))
key_inside Cs = (refl, (refl, (refl, (refl, tt))))

letter_inside : (k : Kind) → Inside (letter_of k)
letter_inside Request = refl
letter_inside Suspend = refl
letter_inside Resume = refl
letter_inside Call = refl
letter_inside Cancel = refl
letter_inside Result = refl
letter_inside Error = refl
letter_inside RemoteUserFree = refl
letter_inside CallDone = refl
letter_inside CallBusy = refl

decimal_inside : (n : ℕ) → n < 2 ^ 64 → AllByRecursion Inside (decimal n)
decimal_inside n small =
    All-from_get_or Inside (decimal n) 0 (λ i h. let d = digit_at (decimal n) i (decimal_is_IsNumeral n small).0.1 h in ne_eqb (get_or (decimal n) i 0) 10 (λ e. omega arith))

field : (k : Key) (n : ℕ) (ys : List ℕ) → n < 2 ^ 64 → OneLine ys → OneLine (key_text k ++ (decimal n ++ ys))
field k n ys small line = within (key_text k) (decimal n ++ ys) (key_inside k) (within (decimal n) ys (decimal_inside n small) line)

pub one_line : (v : Values) → is_lawful v ≡ true → OneLine (line_of v)
one_line v lawful =
    let w = bounds v lawful in
    within (key_text KindKey) _ (key_inside KindKey) (within (letter_of v.kind ∷ []) _ (letter_inside v.kind, tt)
    (field Tn v.tn _ (omega arith) (field A v.user _ (omega arith) (field B v.destination _ (omega arith)
    (field Sv v.service _ (omega arith) (field Rt v.retention _ (omega arith) (field Cs v.cause (10 ∷ []) (omega arith) (λ more. refl))))))))
