-- What a writer has been given of a log as it is read.
use Rattle.std.proofs.Common.{◌≡◌, ℕ, true, false, cond, nat_lt, Option, None, Some, List, ◌++◌, length, codes, sym, ap, ◌∙◌, subst}
use Rattle.std.proofs.lemmas.List.{append_assoc}
use Rattle.std.specs.Io.KnownBytes.{Appends, Keeps}
use Rattle.wirecheck.specs.Logs.{Progress, ended, told, count_text, piece_read, end_told}

-- these bytes have been read of a log that stood at p: it stands at q now, and the writer went from old to new
pub record Read (p : Progress) (old : Option (List ℕ)) (bytes : List ℕ) (q : Progress) (new : Option (List ℕ)) : Type 0 where
  pub log : q ≡ (piece_read p bytes).log
  pub out : Appends old new (piece_read p bytes).out

pub appends_more : (a b c : Option (List ℕ)) (xs ys : List ℕ) → Appends a b xs → Appends b c ys → Appends a c (xs ++ ys)
appends_more None b c xs ys p q = tt
appends_more (Some x) None c xs ys p q = absurd p
appends_more (Some x) (Some y) None xs ys p q = absurd q
appends_more (Some x) (Some y) (Some z) xs ys p q = q ∙ ap (λ l. l ++ ys) p ∙ append_assoc x xs ys

pub appends_kept : (a b c : Option (List ℕ)) (xs : List ℕ) → Appends a b xs → Keeps b c → Appends a c xs
appends_kept None b c xs p k = tt
appends_kept (Some x) None c xs p k = absurd p
appends_kept (Some x) (Some y) None xs p k = absurd k
appends_kept (Some x) (Some y) (Some z) xs p k = k ∙ p

-- the end of a log: after a line that had no end, and its count
pub end_of : (p q : Progress) (old mid new done : Option (List ℕ)) → nat_lt 0 (length p.held) ≡ true → q ≡ ended p → Appends old mid (told p) → Appends mid new (count_text q ++ codes "\n") → Keeps new done → Appends old done (end_told p)
end_of p q old mid new done begun alike line count kept =
    subst (Appends old done) (sym (ap (λ b. cond b (told p ++ (count_text (ended p) ++ codes "\n")) (count_text p ++ codes "\n")) begun))
    (appends_kept old new done _ (appends_more old mid new _ _ line (subst (λ s. Appends mid new (count_text s ++ codes "\n")) alike count)) kept)

pub end_at : (p : Progress) (old new done : Option (List ℕ)) → nat_lt 0 (length p.held) ≡ false → Appends old new (count_text p ++ codes "\n") → Keeps new done → Appends old done (end_told p)
end_at p old new done begun count kept =
    subst (Appends old done) (sym (ap (λ b. cond b (told p ++ (count_text (ended p) ++ codes "\n")) (count_text p ++ codes "\n")) begun)) (appends_kept old new done _ count kept)
