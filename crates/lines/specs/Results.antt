-- Results that follow one another: each step of a reading goes on from the one before, and the first fault ends it.
-- `and_then` says what `?` does; `on_ok` and `on_err` change what is answered, or what is at fault.
use Rattle.std.specs.Prelude.{Ok, Err, Result}

abbrev pub and_then : {A B E : Type 0} → Result A E → (A → Result B E) → Result B E
and_then (Ok x) next = next x
and_then (Err e) next = Err e

abbrev pub on_ok : {A B E : Type 0} → (A → B) → Result A E → Result B E
on_ok f (Ok x) = Ok (f x)
on_ok f (Err e) = Err e

abbrev pub on_err : {A E F : Type 0} → (E → F) → Result A E → Result A F
on_err f (Ok x) = Ok x
on_err f (Err e) = Err (f e)
