-- What a wire's put and take leave: the lines of one more message, or those of the rest.
use Rattle.std.proofs.Common.{◌≡◌, ℕ, ◌+◌, ◌-◌, ◌<◌, true, List, [], ◌∷◌, ◌++◌, length, drop, Some, Ok, Err, Result, ap, ◌∙◌, arith}
use Rattle.std.proofs.ByRecursion.{All-push}
use Rattle.std.proofs.lemmas.List.{length_push}
use Rattle.std.proofs.lemmas.Bool.{cond-true, le-leb}
use Rattle.answers.specs.declared.denial.Denial.{Denial}
use Rattle.answers.specs.declared.denial.Denial.TheVariants.{NoFreePlace}
use Rattle.messages.specs.declared.message.Message.{Message}
use Rattle.messages.specs.Lawful.{is_lawful}
use Rattle.messages.specs.Wire.{line_of}
use Rattle.waiting_line.specs.Lines.{items, capacity, fitting, put_left, put_all_answer, put_all_left}
use Rattle.channels.specs.declared.wire.Wire.{Wire}
use Rattle.channels.specs.Lined.{first_line, lines_of}
use Rattle.channels.specs.Meaning.{first, rest}
use Rattle.channels.specs.Wires.{wire_capacity, wire_waiting, wire_lawful}
use Rattle.channels.proofs.Posts.{put_end}
use Rattle.channels.proofs.Wired.{Settled, settled, lines_push, line_fits, lines_rest, rest_lawful, rest_long}

module _ (w : Wire) where
  -- where its count is not the capacity n, the line of one more message fits
  module _ (m : Message) (n : ℕ) (line : List ℕ) (places : n ≡ wire_capacity w) (unfull : w.count ≡ n → ⊥) (is : line ≡ line_of m.values) where
    free : length (wire_waiting w) < wire_capacity w
    free = omega (arith, w.counted, w.fits)

    fit : fitting (capacity w.bytes) (items w.bytes) line ≡ true
    fit =
        le-leb (length (items w.bytes) + length line) (capacity w.bytes)
        (omega (arith, line_fits (wire_waiting w) m.values (capacity w.bytes) (wire_lawful w) m.lawful free, ap length w.lines, ap length is))

    pub line_not_denied : (d : Denial) → Err d ≡ put_all_answer (capacity w.bytes) (items w.bytes) line → ⊥
    line_not_denied d e =
        let denied : ◌≡◌ {A = Result (Unit {0}) Denial} (Err d) (Ok tt) = e ∙ cond-true (fitting (capacity w.bytes) (items w.bytes) line) (Ok tt) (Err NoFreePlace) fit in
        cc

    pub line_put : put_all_left (capacity w.bytes) (items w.bytes) line ≡ lines_of (wire_waiting w ++ m.values ∷ [])
    line_put =
        cond-true (fitting (capacity w.bytes) (items w.bytes) line) (items w.bytes ++ line) (items w.bytes) fit
        ∙ ap (λ l. l ++ line) w.lines ∙ ap (λ l. lines_of (wire_waiting w) ++ l) is ∙ lines_push (wire_waiting w) m.values

    pub put_settled : (bs : List ℕ) → bs ≡ put_all_left (capacity w.bytes) (items w.bytes) line → Settled (put_left (wire_capacity w) (wire_waiting w) m.values) (w.count + 1) bs
    put_settled bs put =
        let more = put_end (wire_capacity w) (wire_waiting w) m.values free in
        rw more (settled (wire_waiting w ++ m.values ∷ []) (w.count + 1) bs (All-push (λ x. is_lawful x ≡ true) (wire_waiting w) m.values (wire_lawful w) m.lawful)
        (omega (arith, length_push (wire_waiting w) m.values, w.counted)) (put ∙ line_put))

  -- where a message waits, the bytes without their first line are the lines of the rest
  module _ (m : Message) (all line bs : List ℕ) (some : Some m.values ≡ first (wire_waiting w)) (held : all ≡ items w.bytes) (is : line ≡ first_line all) (left : bs ≡ drop (length line) (items w.bytes)) where
    pub take_settled : Settled (rest (wire_waiting w)) (w.count - 1) bs
    take_settled =
        settled (rest (wire_waiting w)) (w.count - 1) bs (rest_lawful (wire_waiting w) (wire_lawful w)) (omega (arith, w.counted, rest_long (wire_waiting w) m.values some))
        (left ∙ ap (λ l. drop (length l) (items w.bytes)) (is ∙ ap first_line held) ∙ lines_rest (wire_waiting w) m.values (items w.bytes) (wire_lawful w) some w.lines)
