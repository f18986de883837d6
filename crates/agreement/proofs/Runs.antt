-- A run by what its calls told, and a run with one call more.
use Rattle.std.proofs.Common.{◌≡◌, ℕ, zero, suc, List, [], ◌∷◌, ◌++◌, take, sym, refl, ap, ◌∙◌, subst}
use Rattle.agreement.specs.declared.call.Call.{Call}
use Rattle.agreement.specs.World.{World, fresh, step, ran, told}
use Rattle.agreement.specs.History.{History, Life, after, begun, lived, recorded}
use Rattle.agreement.specs.Laws.{Agreement, RunsAgree, CallsAgree}
use Rattle.agreement.proofs.Agrees.{law, law_whole}

pub lived_is : (past : History) (w : World) (cs : List Call) → lived (record { past = past; world = w }) cs ≡ record { past = recorded past cs (told w cs); world = ran w cs }
lived_is past w [] = refl
lived_is past w (c ∷ cs) = lived_is (record { call = c; outcome = (step w c).outcome } ∷ past) (step w c).world cs

pub lived_more : (l : Life) (cs : List Call) (c : Call) → lived l (cs ++ c ∷ []) ≡ after (lived l cs) c
lived_more l [] c = refl
lived_more l (d ∷ cs) c = lived_more (after l d) cs c

-- what later calls told is not in the history of the first ones
recorded_first : (past : History) (w : World) (cs : List Call) (k : ℕ) → recorded past (take k cs) (told w cs) ≡ recorded past (take k cs) (told w (take k cs))
recorded_first past w [] zero = refl
recorded_first past w [] (suc k) = refl
recorded_first past w (c ∷ cs) zero = refl
recorded_first past w (c ∷ cs) (suc k) = recorded_first (record { call = c; outcome = (step w c).outcome } ∷ past) (step w c).world cs k

pub runs_agree : RunsAgree
runs_agree g calls k =
    subst (λ past. Agreement past (ran (fresh g) (take k calls))) (sym (recorded_first [] (fresh g) calls k))
    (subst (λ (l : Life). Agreement l.past l.world) (lived_is [] (fresh g) (take k calls)) (law g calls k))

pub calls_agree : CallsAgree
calls_agree past w c r =
    let start : Life = begun (fresh r.given) in
    let here : lived start r.calls ≡ record { past = past; world = w } = λ i. record { past = r.tells i; world = r.leads i } in
    let there : lived start (r.calls ++ c ∷ []) ≡ after (record { past = past; world = w }) c = lived_more start r.calls c ∙ ap (λ l. after l c) here in (
      record { given = r.given; calls = r.calls ++ c ∷ []; tells = ap (λ (l : Life). l.past) there; leads = ap (λ (l : Life). l.world) there },
      subst (λ (l : Life). Agreement l.past l.world) there (law_whole r.given (r.calls ++ c ∷ [])),
    )
