-- The moves of the originating side, for every transaction.
use Rattle.std.proofs.Common.{◌≡◌, ℕ, ◌+◌, Bool, true, false, eqb, List, [], ◌∷◌, ◌++◌, Some, sym, refl, ap, ◌∙◌, subst, arith}
use Rattle.answers.specs.declared.cause.Cause.{Cause}
use Rattle.answers.specs.declared.answer.Answer.{Answer}
use Rattle.answers.specs.declared.answer.Answer.TheVariants.{Nothing as nothing, Requested as requested_n, Stray as stray, Ended as ended}
use Rattle.tables.specs.Tables.{same, added, became, removed, those, changed}
use Rattle.tables.proofs.Tables.{those_one_own, those_one_other, nil_right}
use Rattle.messages.specs.declared.values.Values.{Values}
use Rattle.messages.specs.Sent.{cancelling}
use Rattle.a_side.specs.declared.record.ARecord.{ARecord}
use Rattle.a_side.specs.Rules.{a_tn}
use Rattle.b_side.specs.declared.record.BRecord.{BRecord}
use Rattle.b_side.specs.Rules.{b_tn}
use Rattle.agreement.specs.declared.call.Call.{Call}
use Rattle.agreement.specs.History.{History, is_a, is_return, asks_for, requests, ends, tells}
use Rattle.agreement.proofs.Spots.{Spot, at, m_tn, words_of, event, words_quiet_a, words_ended_a, words_asked, words_nothing, words_returned, w_asked, w_ended_a, w_returned}
use Rattle.agreement.proofs.Closed.{Closed, requested, terminal, is_q, is_x, is_r, is_f}
use Rattle.agreement.proofs.Frames.{here, other_a, own_a, taken_own, taken_other}

module _ (n : ℕ) (P : Spot → Type 0) (closed : Closed n P) (past : History) (c : Call) (hc : is_a c ≡ true) where
  module _ (x : ℕ) (ra : List ARecord) (rb : List BRecord) (tb ta : List Values) where
    -- its record stands alone
    abbrev pub Stands : ARecord → Type 0
    Stands r = eqb r.tn n ≡ true → those a_tn n ra ≡ r ∷ []

    -- the record of number k ends, and X is sent
    pub leaves_a : (r : ARecord) (cs : ℕ) (cause : Cause) → is_return c ≡ false → (eqb r.tn n ≡ true → those a_tn n ra ≡ r ∷ []) → P (here n past x ra rb tb ta) → P (here n (event c (ended r.tn cause) ∷ past) x (changed a_tn (removed r.tn) ra) rb (tb ++ cancelling r.tn cs ∷ []) ta)
    leaves_a r cs cause hr mine p = go (eqb r.tn n) refl
      where
        go : (b : Bool) → eqb r.tn n ≡ b → P (here n (event c (ended r.tn cause) ∷ past) x (changed a_tn (removed r.tn) ra) rb (tb ++ cancelling r.tn cs ∷ []) ta)
        go false h = other_a n P closed past c (ended r.tn cause) (removed r.tn) (cancelling r.tn cs ∷ []) x ra rb tb ta h h (those_one_other m_tn n (cancelling r.tn cs) h) p
        go true h =
            own_a n P closed past c (ended r.tn cause) (removed r.tn) (cancelling r.tn cs ∷ []) x ra rb tb ta (w_ended_a false (words_of n past)) (r ∷ [])
            (words_ended_a n r.tn c past hc h cause ∙ ap (λ b. w_ended_a b (words_of n past)) hr) (mine h) h (those_one_own m_tn n (cancelling r.tn cs) h)
            (closed.leaves x (words_of n past) (those b_tn n rb) (those m_tn n tb) (those m_tn n ta) r (cancelling r.tn cs) refl
            (subst (λ rs. P (at x (words_of n past) rs (those b_tn n rb) (those m_tn n tb) (those m_tn n ta))) (mine h) p))

    -- T2 over
    pub lapses_a : (r : ARecord) (cause : Cause) → is_return c ≡ false → requested r ≡ true → (eqb r.tn n ≡ true → those a_tn n ra ≡ r ∷ []) → P (here n past x ra rb tb ta) → P (here n (event c (ended r.tn cause) ∷ past) x (changed a_tn (removed r.tn) ra) rb (tb ++ []) ta)
    lapses_a r cause hr hq mine p = go (eqb r.tn n) refl
      where
        go : (b : Bool) → eqb r.tn n ≡ b → P (here n (event c (ended r.tn cause) ∷ past) x (changed a_tn (removed r.tn) ra) rb (tb ++ []) ta)
        go false h = other_a n P closed past c (ended r.tn cause) (removed r.tn) [] x ra rb tb ta h h refl p
        go true h =
            own_a n P closed past c (ended r.tn cause) (removed r.tn) [] x ra rb tb ta (w_ended_a false (words_of n past)) (r ∷ [])
            (words_ended_a n r.tn c past hc h cause ∙ ap (λ b. w_ended_a b (words_of n past)) hr) (mine h) h refl
            (subst (λ ms. P (at x (w_ended_a false (words_of n past)) [] (those b_tn n rb) ms (those m_tn n ta))) (sym (nil_right (those m_tn n tb)))
            (closed.lapses x (words_of n past) (those b_tn n rb) (those m_tn n tb) (those m_tn n ta) r hq
            (subst (λ rs. P (at x (words_of n past) rs (those b_tn n rb) (those m_tn n tb) (those m_tn n ta))) (mine h) p)))

    -- a step of its own, of which B is told: r becomes r', by an answer that is no word of A's
    pub says_a : (r r' : ARecord) (m : Values) (a : Answer) → is_return c ≡ false → r'.tn ≡ r.tn → m.tn ≡ r.tn → ((k : ℕ) → tells k a ≡ eqb r.tn k) → requests n a ≡ false → ends n a ≡ false → requested r ≡ false → requested r' ≡ false → is_q m.kind ≡ false → is_x m.kind ≡ false → (eqb r.tn n ≡ true → those a_tn n ra ≡ r ∷ []) → P (here n past x ra rb tb ta) → P (here n (event c a ∷ past) x (changed a_tn (became r') ra) rb (tb ++ m ∷ []) ta)
    says_a r r' m a hr hn hm ht hq he hs hs' mq mx mine p = go (eqb r.tn n) refl
      where
        go : (b : Bool) → eqb r.tn n ≡ b → P (here n (event c a ∷ past) x (changed a_tn (became r') ra) rb (tb ++ m ∷ []) ta)
        go false h = other_a n P closed past c a (became r') (m ∷ []) x ra rb tb ta (ht n ∙ h) (ap (λ k. eqb k n) hn ∙ h) (those_one_other m_tn n m (ap (λ k. eqb k n) hm ∙ h)) p
        go true h =
            own_a n P closed past c a (became r') (m ∷ []) x ra rb tb ta (words_of n past) (r ∷ [])
            (words_quiet_a n c a past hc hr hq he) (mine h) (ap (λ k. eqb k n) hn ∙ h) (those_one_own m_tn n m (ap (λ k. eqb k n) hm ∙ h))
            (closed.says x (words_of n past) (those b_tn n rb) (those m_tn n tb) (those m_tn n ta) r r' m hs hs' mq mx
            (subst (λ rs. P (at x (words_of n past) rs (those b_tn n rb) (those m_tn n tb) (those m_tn n ta))) (mine h) p))

    -- an answer that tells of no transaction, and changes no table
    pub rests_a : (a : Answer) → tells n a ≡ false → P (here n past x ra rb tb ta) → P (here n (event c a ∷ past) x (changed a_tn same ra) rb (tb ++ []) ta)
    rests_a a h p = other_a n P closed past c a same [] x ra rb tb ta h tt refl p

    -- activation: the number x is given out
    pub asks_a : (r : ARecord) (m : Values) → is_return c ≡ false → r.tn ≡ x → m.tn ≡ x → asks_for c ≡ Some m.destination → requested r ≡ true → is_q m.kind ≡ true → P (here n past x ra rb tb ta) → P (here n (event c (requested_n x) ∷ past) (x + 1) (changed a_tn (added r) ra) rb (tb ++ m ∷ []) ta)
    asks_a r m hr hn hm ha hq mq p = go (eqb x n) refl
      where
        go : (b : Bool) → eqb x n ≡ b → P (here n (event c (requested_n x) ∷ past) (x + 1) (changed a_tn (added r) ra) rb (tb ++ m ∷ []) ta)
        go false h =
            other_a n P closed past c (requested_n x) (added r) (m ∷ []) (x + 1) ra rb tb ta h (ap (λ k. eqb k n) hn ∙ h) (those_one_other m_tn n m (ap (λ k. eqb k n) hm ∙ h))
            (closed.numbers x (words_of n past) (those a_tn n ra) (those b_tn n rb) (those m_tn n tb) (those m_tn n ta) h p)
        go true h =
            own_a n P closed past c (requested_n x) (added r) (m ∷ []) (x + 1) ra rb tb ta (w_asked (Some m.destination) (words_of n past)) (those a_tn n ra)
            (words_asked n x c past hc hr h ∙ ap (λ o. w_asked o (words_of n past)) ha) refl (ap (λ k. eqb k n) hn ∙ h) (those_one_own m_tn n m (ap (λ k. eqb k n) hm ∙ h))
            (closed.asks x (words_of n past) (those a_tn n ra) (those b_tn n rb) (those m_tn n tb) (those m_tn n ta) r m h hq mq p)

    -- Hearing a message m toward A; ta is what waits behind it

    -- the spot with the message taken off, for another transaction
    heard_other : (m : Values) → eqb m.tn n ≡ false → P (here n past x ra rb tb (m ∷ ta)) → P (here n past x ra rb tb ta)
    heard_other m h p = subst (λ ms. P (at x (words_of n past) (those a_tn n ra) (those b_tn n rb) (those m_tn n tb) ms)) (taken_other n m ta h) p

    heard_own : (m : Values) (rs : List ARecord) → eqb m.tn n ≡ true → those a_tn n ra ≡ rs → P (here n past x ra rb tb (m ∷ ta)) → P (at x (words_of n past) rs (those b_tn n rb) (those m_tn n tb) (m ∷ those m_tn n ta))
    heard_own m rs h hr p =
        subst (λ zs. P (at x (words_of n past) zs (those b_tn n rb) (those m_tn n tb) (m ∷ those m_tn n ta))) hr
        (subst (λ ms. P (at x (words_of n past) (those a_tn n ra) (those b_tn n rb) (those m_tn n tb) ms)) (taken_own n m ta h) p)

    -- a stray, answered by X
    pub strays_a : (m : Values) (cs : ℕ) → is_return c ≡ false → (eqb m.tn n ≡ true → those a_tn n ra ≡ []) → P (here n past x ra rb tb (m ∷ ta)) → P (here n (event c (stray m.tn) ∷ past) x (changed a_tn same ra) rb (tb ++ cancelling m.tn cs ∷ []) ta)
    strays_a m cs hr mine p = go (eqb m.tn n) refl
      where
        go : (b : Bool) → eqb m.tn n ≡ b → P (here n (event c (stray m.tn) ∷ past) x (changed a_tn same ra) rb (tb ++ cancelling m.tn cs ∷ []) ta)
        go false h = other_a n P closed past c (stray m.tn) same (cancelling m.tn cs ∷ []) x ra rb tb ta h tt (those_one_other m_tn n (cancelling m.tn cs) h) (heard_other m h p)
        go true h =
            own_a n P closed past c (stray m.tn) same (cancelling m.tn cs ∷ []) x ra rb tb ta (words_of n past) []
            (words_quiet_a n c (stray m.tn) past hc hr refl refl) (mine h) tt (those_one_own m_tn n (cancelling m.tn cs) h)
            (closed.strays x (words_of n past) (those b_tn n rb) (those m_tn n tb) (those m_tn n ta) m (cancelling m.tn cs) refl (heard_own m [] h (mine h) p))

    -- any other stray
    pub ignores_a : (m : Values) → is_return c ≡ false → is_r m.kind ≡ false → is_f m.kind ≡ false → (eqb m.tn n ≡ true → those a_tn n ra ≡ []) → P (here n past x ra rb tb (m ∷ ta)) → P (here n (event c (nothing m.tn) ∷ past) x (changed a_tn same ra) rb (tb ++ []) ta)
    ignores_a m hr kr kf mine p = go (eqb m.tn n) refl
      where
        go : (b : Bool) → eqb m.tn n ≡ b → P (here n (event c (nothing m.tn) ∷ past) x (changed a_tn same ra) rb (tb ++ []) ta)
        go false h = other_a n P closed past c (nothing m.tn) same [] x ra rb tb ta h tt refl (heard_other m h p)
        go true h =
            own_a n P closed past c (nothing m.tn) same [] x ra rb tb ta (words_of n past) []
            (words_nothing n m.tn c past hr) (mine h) tt refl
            (subst (λ ms. P (at x (words_of n past) [] (those b_tn n rb) ms (those m_tn n ta))) (sym (nil_right (those m_tn n tb)))
            (closed.ignores x (words_of n past) (those b_tn n rb) (those m_tn n tb) (those m_tn n ta) m kr kf (heard_own m [] h (mine h) p)))

    -- a message that ends the record
    pub told_end_a : (r : ARecord) (m : Values) (cause : Cause) → is_return c ≡ false → r.tn ≡ m.tn → terminal m ≡ true → (eqb r.tn n ≡ true → those a_tn n ra ≡ r ∷ []) → P (here n past x ra rb tb (m ∷ ta)) → P (here n (event c (ended r.tn cause) ∷ past) x (changed a_tn (removed r.tn) ra) rb (tb ++ []) ta)
    told_end_a r m cause hr hn hm mine p = go (eqb r.tn n) refl
      where
        go : (b : Bool) → eqb r.tn n ≡ b → P (here n (event c (ended r.tn cause) ∷ past) x (changed a_tn (removed r.tn) ra) rb (tb ++ []) ta)
        go false h = other_a n P closed past c (ended r.tn cause) (removed r.tn) [] x ra rb tb ta h h refl (heard_other m (ap (λ k. eqb k n) (sym hn) ∙ h) p)
        go true h =
            own_a n P closed past c (ended r.tn cause) (removed r.tn) [] x ra rb tb ta (w_ended_a false (words_of n past)) (r ∷ [])
            (words_ended_a n r.tn c past hc h cause ∙ ap (λ b. w_ended_a b (words_of n past)) hr) (mine h) h refl
            (subst (λ ms. P (at x (w_ended_a false (words_of n past)) [] (those b_tn n rb) ms (those m_tn n ta))) (sym (nil_right (those m_tn n tb)))
            (closed.told_end x (words_of n past) (those b_tn n rb) (those m_tn n tb) (those m_tn n ta) r m hm (heard_own m (r ∷ []) (ap (λ k. eqb k n) (sym hn) ∙ h) (mine h) p)))

    -- a message that changes nothing
    pub hears_nothing_a : (r : ARecord) (m : Values) → is_return c ≡ false → r.tn ≡ m.tn → terminal m ≡ false → (requested r ≡ true → is_r m.kind ≡ false) → (eqb r.tn n ≡ true → those a_tn n ra ≡ r ∷ []) → P (here n past x ra rb tb (m ∷ ta)) → P (here n (event c (nothing r.tn) ∷ past) x (changed a_tn same ra) rb (tb ++ []) ta)
    hears_nothing_a r m hr hn hm hq mine p = go (eqb r.tn n) refl
      where
        go : (b : Bool) → eqb r.tn n ≡ b → P (here n (event c (nothing r.tn) ∷ past) x (changed a_tn same ra) rb (tb ++ []) ta)
        go false h = other_a n P closed past c (nothing r.tn) same [] x ra rb tb ta h tt refl (heard_other m (ap (λ k. eqb k n) (sym hn) ∙ h) p)
        go true h =
            own_a n P closed past c (nothing r.tn) same [] x ra rb tb ta (words_of n past) (r ∷ [])
            (words_nothing n r.tn c past hr) (mine h) tt refl
            (subst (λ ms. P (at x (words_of n past) (r ∷ []) (those b_tn n rb) ms (those m_tn n ta))) (sym (nil_right (those m_tn n tb)))
            (closed.hears x (words_of n past) (those b_tn n rb) (those m_tn n tb) (those m_tn n ta) r r m hm (λ q. (hq q, q)) (heard_own m (r ∷ []) (ap (λ k. eqb k n) (sym hn) ∙ h) (mine h) p)))

    -- a message by which r becomes r', by an answer that is no word of A's
    pub hears_a : (r r' : ARecord) (m : Values) (a : Answer) → is_return c ≡ false → r.tn ≡ m.tn → r'.tn ≡ r.tn → ((k : ℕ) → tells k a ≡ eqb r.tn k) → requests n a ≡ false → ends n a ≡ false → terminal m ≡ false → requested r' ≡ false → (eqb r.tn n ≡ true → those a_tn n ra ≡ r ∷ []) → P (here n past x ra rb tb (m ∷ ta)) → P (here n (event c a ∷ past) x (changed a_tn (became r') ra) rb (tb ++ []) ta)
    hears_a r r' m a hr hn hn' ht hq he hm hs mine p = go (eqb r.tn n) refl
      where
        go : (b : Bool) → eqb r.tn n ≡ b → P (here n (event c a ∷ past) x (changed a_tn (became r') ra) rb (tb ++ []) ta)
        go false h = other_a n P closed past c a (became r') [] x ra rb tb ta (ht n ∙ h) (ap (λ k. eqb k n) hn' ∙ h) refl (heard_other m (ap (λ k. eqb k n) (sym hn) ∙ h) p)
        go true h =
            own_a n P closed past c a (became r') [] x ra rb tb ta (words_of n past) (r ∷ [])
            (words_quiet_a n c a past hc hr hq he) (mine h) (ap (λ k. eqb k n) hn' ∙ h) refl
            (subst (λ ms. P (at x (words_of n past) (r' ∷ []) (those b_tn n rb) ms (those m_tn n ta))) (sym (nil_right (those m_tn n tb)))
            (closed.hears x (words_of n past) (those b_tn n rb) (those m_tn n tb) (those m_tn n ta) r r' m hm (λ q. let z : true ≡ false = sym q ∙ hs in absurd (let w : ◌≡◌ {A = ℕ} 0 1 = cc in omega arith)) (heard_own m (r ∷ []) (ap (λ k. eqb k n) (sym hn) ∙ h) (mine h) p)))

    -- and B is told
    pub hears_and_says_a : (r r' : ARecord) (m y : Values) (a : Answer) → is_return c ≡ false → r.tn ≡ m.tn → r'.tn ≡ r.tn → y.tn ≡ r.tn → ((k : ℕ) → tells k a ≡ eqb r.tn k) → requests n a ≡ false → ends n a ≡ false → terminal m ≡ false → requested r' ≡ false → is_q y.kind ≡ false → is_x y.kind ≡ false → (eqb r.tn n ≡ true → those a_tn n ra ≡ r ∷ []) → P (here n past x ra rb tb (m ∷ ta)) → P (here n (event c a ∷ past) x (changed a_tn (became r') ra) rb (tb ++ y ∷ []) ta)
    hears_and_says_a r r' m y a hr hn hn' hy ht hq he hm hs yq yx mine p = go (eqb r.tn n) refl
      where
        go : (b : Bool) → eqb r.tn n ≡ b → P (here n (event c a ∷ past) x (changed a_tn (became r') ra) rb (tb ++ y ∷ []) ta)
        go false h = other_a n P closed past c a (became r') (y ∷ []) x ra rb tb ta (ht n ∙ h) (ap (λ k. eqb k n) hn' ∙ h) (those_one_other m_tn n y (ap (λ k. eqb k n) hy ∙ h)) (heard_other m (ap (λ k. eqb k n) (sym hn) ∙ h) p)
        go true h =
            own_a n P closed past c a (became r') (y ∷ []) x ra rb tb ta (words_of n past) (r ∷ [])
            (words_quiet_a n c a past hc hr hq he) (mine h) (ap (λ k. eqb k n) hn' ∙ h) (those_one_own m_tn n y (ap (λ k. eqb k n) hy ∙ h))
            (closed.says x (words_of n past) (those b_tn n rb) (those m_tn n tb) (those m_tn n ta) r' r' y hs hs yq yx
            (closed.hears x (words_of n past) (those b_tn n rb) (those m_tn n tb) (those m_tn n ta) r r' m hm (λ q. let z : true ≡ false = sym q ∙ hs in absurd (let w : ◌≡◌ {A = ℕ} 0 1 = cc in omega arith)) (heard_own m (r ∷ []) (ap (λ k. eqb k n) (sym hn) ∙ h) (mine h) p)))

    -- Returns: the message m comes back; tb is what waits behind it

    back_other : (m : Values) → eqb m.tn n ≡ false → P (here n past x ra rb (m ∷ tb) ta) → P (here n past x ra rb tb ta)
    back_other m h p = subst (λ ms. P (at x (words_of n past) (those a_tn n ra) (those b_tn n rb) ms (those m_tn n ta))) (taken_other n m tb h) p

    back_own : (m : Values) (rs : List ARecord) → eqb m.tn n ≡ true → those a_tn n ra ≡ rs → P (here n past x ra rb (m ∷ tb) ta) → P (at x (words_of n past) rs (those b_tn n rb) (m ∷ those m_tn n tb) (those m_tn n ta))
    back_own m rs h hr p =
        subst (λ zs. P (at x (words_of n past) zs (those b_tn n rb) (m ∷ those m_tn n tb) (those m_tn n ta))) hr
        (subst (λ ms. P (at x (words_of n past) (those a_tn n ra) (those b_tn n rb) ms (those m_tn n ta))) (taken_own n m tb h) p)

    pub back_a' : (m : Values) (k : ℕ) → is_return c ≡ true → k ≡ m.tn → P (here n past x ra rb (m ∷ tb) ta) → P (here n (event c (nothing k) ∷ past) x (changed a_tn same ra) rb (tb ++ []) ta)
    back_a' m k hr hn p = go (eqb k n) refl
      where
        go : (b : Bool) → eqb k n ≡ b → P (here n (event c (nothing k) ∷ past) x (changed a_tn same ra) rb (tb ++ []) ta)
        go false h = other_a n P closed past c (nothing k) same [] x ra rb tb ta h tt refl (back_other m (ap (λ k. eqb k n) (sym hn) ∙ h) p)
        go true h =
            own_a n P closed past c (nothing k) same [] x ra rb tb ta (w_returned (words_of n past)) (those a_tn n ra)
            (words_returned n k c past hr h) refl tt refl
            (subst (λ ms. P (at x (w_returned (words_of n past)) (those a_tn n ra) (those b_tn n rb) ms (those m_tn n ta))) (sym (nil_right (those m_tn n tb)))
            (closed.back_a x (words_of n past) (those a_tn n ra) (those b_tn n rb) (those m_tn n tb) (those m_tn n ta) m (back_own m (those a_tn n ra) (ap (λ k. eqb k n) (sym hn) ∙ h) refl p)))

    pub back_ends_a' : (r : ARecord) (m : Values) (cause : Cause) → is_return c ≡ true → r.tn ≡ m.tn → (eqb r.tn n ≡ true → those a_tn n ra ≡ r ∷ []) → P (here n past x ra rb (m ∷ tb) ta) → P (here n (event c (ended r.tn cause) ∷ past) x (changed a_tn (removed r.tn) ra) rb (tb ++ []) ta)
    back_ends_a' r m cause hr hn mine p = go (eqb r.tn n) refl
      where
        go : (b : Bool) → eqb r.tn n ≡ b → P (here n (event c (ended r.tn cause) ∷ past) x (changed a_tn (removed r.tn) ra) rb (tb ++ []) ta)
        go false h = other_a n P closed past c (ended r.tn cause) (removed r.tn) [] x ra rb tb ta h h refl (back_other m (ap (λ k. eqb k n) (sym hn) ∙ h) p)
        go true h =
            own_a n P closed past c (ended r.tn cause) (removed r.tn) [] x ra rb tb ta (w_ended_a true (words_of n past)) (r ∷ [])
            (words_ended_a n r.tn c past hc h cause ∙ ap (λ b. w_ended_a b (words_of n past)) hr) (mine h) h refl
            (subst (λ ms. P (at x (w_ended_a true (words_of n past)) [] (those b_tn n rb) ms (those m_tn n ta))) (sym (nil_right (those m_tn n tb)))
            (closed.back_ends_a x (words_of n past) (those b_tn n rb) (those m_tn n tb) (those m_tn n ta) r m (back_own m (r ∷ []) (ap (λ k. eqb k n) (sym hn) ∙ h) (mine h) p)))

    pub back_leaves_a : (r : ARecord) (m : Values) (cs : ℕ) (cause : Cause) → is_return c ≡ true → r.tn ≡ m.tn → (eqb r.tn n ≡ true → those a_tn n ra ≡ r ∷ []) → P (here n past x ra rb (m ∷ tb) ta) → P (here n (event c (ended r.tn cause) ∷ past) x (changed a_tn (removed r.tn) ra) rb (tb ++ cancelling r.tn cs ∷ []) ta)
    back_leaves_a r m cs cause hr hn mine p = go (eqb r.tn n) refl
      where
        go : (b : Bool) → eqb r.tn n ≡ b → P (here n (event c (ended r.tn cause) ∷ past) x (changed a_tn (removed r.tn) ra) rb (tb ++ cancelling r.tn cs ∷ []) ta)
        go false h = other_a n P closed past c (ended r.tn cause) (removed r.tn) (cancelling r.tn cs ∷ []) x ra rb tb ta h h (those_one_other m_tn n (cancelling r.tn cs) h) (back_other m (ap (λ k. eqb k n) (sym hn) ∙ h) p)
        go true h =
            own_a n P closed past c (ended r.tn cause) (removed r.tn) (cancelling r.tn cs ∷ []) x ra rb tb ta (w_ended_a true (words_of n past)) (r ∷ [])
            (words_ended_a n r.tn c past hc h cause ∙ ap (λ b. w_ended_a b (words_of n past)) hr) (mine h) h (those_one_own m_tn n (cancelling r.tn cs) h)
            (closed.back_leaves x (words_of n past) (those b_tn n rb) (those m_tn n tb) (those m_tn n ta) r m (cancelling r.tn cs) refl (back_own m (r ∷ []) (ap (λ k. eqb k n) (sym hn) ∙ h) (mine h) p))
