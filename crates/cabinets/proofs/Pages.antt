-- A page that tells the same of both channels.
use Rattle.std.proofs.Common.{◌≡◌, ℕ, List, ap, ◌∙◌}
use Rattle.cabinets.specs.declared.came.Came.{Came}
use Rattle.cabinets.specs.Page.{both_told}

pub told_alike : {page new_page : List ℕ} {one new_one other new_other : Came} → page ≡ new_page → one ≡ new_one → other ≡ new_other → both_told page one other ≡ both_told new_page new_one new_other
told_alike {page = page} {new_page = new_page} {one = one} {new_one = new_one} {other = other} {new_other = new_other} pages ones others =
    ap (λ p. both_told p one other) pages ∙ ap (λ came. both_told new_page came other) ones ∙ ap (λ came. both_told new_page new_one came) others
