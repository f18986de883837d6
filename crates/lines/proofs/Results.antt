-- What `map` and `map_err` promise, in the words of the readings.
use Rattle.std.proofs.Common.{◌≡◌, Ok, Err, Result, MatchResult, IsOkAnd, IsErrAnd, ap, ◌∙◌}
use Rattle.std.proofs.lemmas.Result.{err_from_is_err_and}
use Rattle.lines.specs.Results.{on_ok, on_err}

pub ok_mapped : {T U E : Type 0} (r : Result T E) (s : Result U E) (f : T → U) → MatchResult r (λ x. IsOkAnd s (λ y. y ≡ f x)) (λ e. s ≡ Err e) → s ≡ on_ok f r
ok_mapped (Ok x) (Ok y) f h = ap (λ v. Ok v) h
ok_mapped (Ok x) (Err e) f h = absurd h
ok_mapped (Err e) s f h = h

pub err_mapped : {T E F : Type 0} (r : Result T E) (s : Result T F) (f : E → F) → MatchResult r (λ x. s ≡ Ok x) (λ e. IsErrAnd s (λ d. d ≡ f e)) → s ≡ on_err f r
err_mapped (Ok x) s f h = h
err_mapped (Err e) s f h = let p = err_from_is_err_and s h in p.1 ∙ ap (λ d. Err d) p.2
