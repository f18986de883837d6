-- The next message carried from the front of the list ws to the end of another, after k of them.
use Rattle.std.proofs.Common.{◌≡◌, ℕ, ◌+◌, ◌<◌, List, [], ◌∷◌, ◌++◌, length, get_or, take, drop, Ok, Err, Result, sym, ap, ◌∙◌, arith}
use Rattle.std.proofs.lemmas.List.{drop_more, take_more, append_assoc, length-append, length-take}
use Rattle.answers.specs.declared.denial.Denial.{Denial}
use Rattle.messages.specs.declared.values.Values.{Values}
use Rattle.waiting_line.specs.Lines.{put_left}
use Rattle.channels.specs.Meaning.{taken}
use Rattle.channels.proofs.Posts.{put_end}

pub some_waits : (ws : List Values) (k : ℕ) (d : Denial) → k < length ws → Err d ≡ taken (drop k ws) → ⊥
some_waits [] k d here e = omega arith
some_waits (w ∷ ws) k d here e =
    let some : ◌≡◌ {A = Result Values Denial} (Err d) (Ok (get_or (w ∷ ws) k w)) = e ∙ ap taken (drop_more (w ∷ ws) k w here) in
    cc

pub put_next : (ws vs held held' : List Values) (k capacity : ℕ) (v : Values) → k < length ws → length vs + k < capacity → Ok v ≡ taken (drop k ws) → held ≡ vs ++ take k ws → held' ≡ put_left capacity held v → held' ≡ vs ++ take (k + 1) ws
put_next ws vs held held' k capacity v here free got so put =
    let same : ◌≡◌ {A = Result Values Denial} (Ok v) (Ok (get_or ws k v)) = got ∙ ap taken (drop_more ws k v here) in
    let is : v ≡ get_or ws k v = cc in
    let size : length held < capacity = omega (arith, ap length so, length-append vs (take k ws), length-take k ws) in
    put ∙ put_end capacity held v size ∙ ap (λ l. l ++ v ∷ []) so ∙ append_assoc vs (take k ws) (v ∷ [])
    ∙ ap (λ l. vs ++ l) (ap (λ x. take k ws ++ x ∷ []) is ∙ sym (take_more ws k v here))
