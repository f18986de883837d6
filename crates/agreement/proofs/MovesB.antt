-- The moves of the destination side, for every transaction.
use Rattle.std.proofs.Common.{◌≡◌, ℕ, Bool, true, false, eqb, List, [], ◌∷◌, ◌++◌, sym, refl, ap, ◌∙◌, subst}
use Rattle.answers.specs.declared.cause.Cause.{Cause}
use Rattle.answers.specs.declared.answer.Answer.{Answer}
use Rattle.answers.specs.declared.answer.Answer.TheVariants.{Nothing as nothing, Stored as stored, Rejected as rejected, Ended as ended}
use Rattle.tables.specs.Tables.{same, added, became, removed, those, changed}
use Rattle.tables.proofs.Tables.{those_one_own, those_one_other, nil_right}
use Rattle.messages.specs.declared.values.Values.{Values}
use Rattle.a_side.specs.declared.record.ARecord.{ARecord}
use Rattle.a_side.specs.Rules.{a_tn}
use Rattle.b_side.specs.declared.record.BRecord.{BRecord}
use Rattle.b_side.specs.Rules.{b_tn, is_queued, is_recalling, is_suspended}
use Rattle.agreement.specs.declared.call.Call.{Call}
use Rattle.agreement.specs.History.{History, is_a, is_return, tells}
use Rattle.agreement.proofs.Spots.{Spot, at, m_tn, words_of, event, words_ended_b, words_stored, words_nothing, words_rejected, words_returned, w_stored, w_ended_b, w_states, w_returned}
use Rattle.agreement.proofs.Closed.{Closed, terminal, is_q, is_x, is_r}
use Rattle.agreement.proofs.Frames.{here, other_b, own_b, taken_own, taken_other}

module _ (n : ℕ) (P : Spot → Type 0) (closed : Closed n P) (past : History) (c : Call) (hc : is_a c ≡ false) where
  module _ (x : ℕ) (ra : List ARecord) (rb : List BRecord) (tb ta : List Values) where
    -- the message m toward B is taken; tb is what waits behind it
    heard_other : (m : Values) → eqb m.tn n ≡ false → P (here n past x ra rb (m ∷ tb) ta) → P (here n past x ra rb tb ta)
    heard_other m h p = subst (λ ms. P (at x (words_of n past) (those a_tn n ra) (those b_tn n rb) ms (those m_tn n ta))) (taken_other n m tb h) p

    heard_own : (m : Values) (rs : List BRecord) → eqb m.tn n ≡ true → those b_tn n rb ≡ rs → P (here n past x ra rb (m ∷ tb) ta) → P (at x (words_of n past) (those a_tn n ra) rs (m ∷ those m_tn n tb) (those m_tn n ta))
    heard_own m rs h hr p =
        subst (λ zs. P (at x (words_of n past) (those a_tn n ra) zs (m ∷ those m_tn n tb) (those m_tn n ta))) hr
        (subst (λ ms. P (at x (words_of n past) (those a_tn n ra) (those b_tn n rb) ms (those m_tn n ta))) (taken_own n m tb h) p)

    -- the message m toward A comes back; ta is what waits behind it
    back_other : (m : Values) → eqb m.tn n ≡ false → P (here n past x ra rb tb (m ∷ ta)) → P (here n past x ra rb tb ta)
    back_other m h p = subst (λ ms. P (at x (words_of n past) (those a_tn n ra) (those b_tn n rb) (those m_tn n tb) ms)) (taken_other n m ta h) p

    back_own : (m : Values) (rs : List BRecord) → eqb m.tn n ≡ true → those b_tn n rb ≡ rs → P (here n past x ra rb tb (m ∷ ta)) → P (at x (words_of n past) (those a_tn n ra) rs (those m_tn n tb) (m ∷ those m_tn n ta))
    back_own m rs h hr p =
        subst (λ zs. P (at x (words_of n past) (those a_tn n ra) zs (those m_tn n tb) (m ∷ those m_tn n ta))) hr
        (subst (λ ms. P (at x (words_of n past) (those a_tn n ra) (those b_tn n rb) (those m_tn n tb) ms)) (taken_own n m ta h) p)

    plain_own : (rs : List BRecord) → those b_tn n rb ≡ rs → P (here n past x ra rb tb ta) → P (at x (words_of n past) (those a_tn n ra) rs (those m_tn n tb) (those m_tn n ta))
    plain_own rs hr p = subst (λ zs. P (at x (words_of n past) (those a_tn n ra) zs (those m_tn n tb) (those m_tn n ta))) hr p

    -- it is stored
    pub stores_b : (m : Values) (r : BRecord) (y : Values) → is_return c ≡ false → r.tn ≡ m.tn → y.tn ≡ m.tn → r.destination ≡ m.destination → is_q m.kind ≡ true → is_queued r.state ≡ true → is_r y.kind ≡ true → terminal y ≡ false → (eqb m.tn n ≡ true → those b_tn n rb ≡ []) → P (here n past x ra rb (m ∷ tb) ta) → P (here n (event c (stored m.tn) ∷ past) x ra (changed b_tn (added r) rb) tb (ta ++ y ∷ []))
    stores_b m r y hr hn hy hb mq rq yr yt mine p = go (eqb m.tn n) refl
      where
        go : (b : Bool) → eqb m.tn n ≡ b → P (here n (event c (stored m.tn) ∷ past) x ra (changed b_tn (added r) rb) tb (ta ++ y ∷ []))
        go false h = other_b n P closed past c (stored m.tn) (added r) (y ∷ []) x ra rb tb ta h (ap (λ k. eqb k n) hn ∙ h) (those_one_other m_tn n y (ap (λ k. eqb k n) hy ∙ h)) (heard_other m h p)
        go true h =
            own_b n P closed past c (stored m.tn) (added r) (y ∷ []) x ra rb tb ta (w_stored (words_of n past)) []
            (words_stored n m.tn c past hc hr h) (mine h) (ap (λ k. eqb k n) hn ∙ h) (those_one_own m_tn n y (ap (λ k. eqb k n) hy ∙ h))
            (closed.stores x (words_of n past) (those a_tn n ra) (those m_tn n tb) (those m_tn n ta) m r y mq rq hb yr yt (heard_own m [] h (mine h) p))

    -- it is rejected
    pub rejects_b : (m y : Values) (cause : Cause) → is_return c ≡ false → y.tn ≡ m.tn → is_q m.kind ≡ true → terminal y ≡ true → (eqb m.tn n ≡ true → those b_tn n rb ≡ []) → P (here n past x ra rb (m ∷ tb) ta) → P (here n (event c (rejected m.tn cause) ∷ past) x ra (changed b_tn same rb) tb (ta ++ y ∷ []))
    rejects_b m y cause hr hy mq yt mine p = go (eqb m.tn n) refl
      where
        go : (b : Bool) → eqb m.tn n ≡ b → P (here n (event c (rejected m.tn cause) ∷ past) x ra (changed b_tn same rb) tb (ta ++ y ∷ []))
        go false h = other_b n P closed past c (rejected m.tn cause) same (y ∷ []) x ra rb tb ta h tt (those_one_other m_tn n y (ap (λ k. eqb k n) hy ∙ h)) (heard_other m h p)
        go true h =
            own_b n P closed past c (rejected m.tn cause) same (y ∷ []) x ra rb tb ta (words_of n past) []
            (words_rejected n m.tn c past hr cause) (mine h) tt (those_one_own m_tn n y (ap (λ k. eqb k n) hy ∙ h))
            (closed.rejects x (words_of n past) (those a_tn n ra) (those m_tn n tb) (those m_tn n ta) m y mq yt (heard_own m [] h (mine h) p))

    -- no record stands for the message
    pub drops_b : (m : Values) → is_return c ≡ false → is_q m.kind ≡ false → (eqb m.tn n ≡ true → those b_tn n rb ≡ []) → P (here n past x ra rb (m ∷ tb) ta) → P (here n (event c (nothing m.tn) ∷ past) x ra (changed b_tn same rb) tb (ta ++ []))
    drops_b m hr mq mine p = go (eqb m.tn n) refl
      where
        go : (b : Bool) → eqb m.tn n ≡ b → P (here n (event c (nothing m.tn) ∷ past) x ra (changed b_tn same rb) tb (ta ++ []))
        go false h = other_b n P closed past c (nothing m.tn) same ([]) x ra rb tb ta h tt refl (heard_other m h p)
        go true h =
            own_b n P closed past c (nothing m.tn) same ([]) x ra rb tb ta (words_of n past) []
            (words_nothing n m.tn c past hr) (mine h) tt refl
            (subst (λ ms. P (at x (words_of n past) (those a_tn n ra) [] (those m_tn n tb) ms)) (sym (nil_right (those m_tn n ta))) (closed.drops x (words_of n past) (those a_tn n ra) (those m_tn n tb) (those m_tn n ta) m mq (heard_own m [] h (mine h) p)))

    -- the message changes nothing
    pub skips_b : (m : Values) (r : BRecord) → is_return c ≡ false → r.tn ≡ m.tn → is_x m.kind ≡ false → (eqb r.tn n ≡ true → those b_tn n rb ≡ r ∷ []) → P (here n past x ra rb (m ∷ tb) ta) → P (here n (event c (nothing r.tn) ∷ past) x ra (changed b_tn same rb) tb (ta ++ []))
    skips_b m r hr hn mx mine p = go (eqb r.tn n) refl
      where
        go : (b : Bool) → eqb r.tn n ≡ b → P (here n (event c (nothing r.tn) ∷ past) x ra (changed b_tn same rb) tb (ta ++ []))
        go false h = other_b n P closed past c (nothing r.tn) same ([]) x ra rb tb ta h tt refl (heard_other m (ap (λ k. eqb k n) (sym hn) ∙ h) p)
        go true h =
            own_b n P closed past c (nothing r.tn) same ([]) x ra rb tb ta (words_of n past) (r ∷ [])
            (words_nothing n r.tn c past hr) (mine h) tt refl
            (subst (λ ms. P (at x (words_of n past) (those a_tn n ra) (r ∷ []) (those m_tn n tb) ms)) (sym (nil_right (those m_tn n ta))) (closed.skips x (words_of n past) (those a_tn n ra) (those m_tn n tb) (those m_tn n ta) m r mx (heard_own m (r ∷ []) (ap (λ k. eqb k n) (sym hn) ∙ h) (mine h) p)))

    -- by the message r becomes r'
    pub turns_b : (m : Values) (r r' : BRecord) (a : Answer) (rc sp : Bool) → r.tn ≡ m.tn → is_x m.kind ≡ false → r'.tn ≡ r.tn → r'.destination ≡ r.destination → ((k : ℕ) → tells k a ≡ eqb r.tn k) → (eqb r.tn n ≡ true → words_of n (event c a ∷ past) ≡ w_states rc sp (words_of n past)) → (is_recalling r.state ≡ (words_of n past).rc → is_recalling r'.state ≡ rc) → (is_suspended r.state ≡ (words_of n past).sp → is_suspended r'.state ≡ sp) → (eqb r.tn n ≡ true → those b_tn n rb ≡ r ∷ []) → P (here n past x ra rb (m ∷ tb) ta) → P (here n (event c a ∷ past) x ra (changed b_tn (became r') rb) tb (ta ++ []))
    turns_b m r r' a rc sp hn mx hn' hb ht hw h1 h2 mine p = go (eqb r.tn n) refl
      where
        go : (b : Bool) → eqb r.tn n ≡ b → P (here n (event c a ∷ past) x ra (changed b_tn (became r') rb) tb (ta ++ []))
        go false h = other_b n P closed past c a (became r') ([]) x ra rb tb ta (ht n ∙ h) (ap (λ k. eqb k n) hn' ∙ h) refl (heard_other m (ap (λ k. eqb k n) (sym hn) ∙ h) p)
        go true h =
            own_b n P closed past c a (became r') ([]) x ra rb tb ta (w_states rc sp (words_of n past)) (r ∷ [])
            (hw h) (mine h) (ap (λ k. eqb k n) hn' ∙ h) refl
            (subst (λ ms. P (at x (w_states rc sp (words_of n past)) (those a_tn n ra) (r' ∷ []) (those m_tn n tb) ms)) (sym (nil_right (those m_tn n ta))) (closed.turns x (words_of n past) (those a_tn n ra) (those m_tn n tb) (those m_tn n ta) r r' rc sp hb h1 h2 (closed.skips x (words_of n past) (those a_tn n ra) (those m_tn n tb) (those m_tn n ta) m r mx (heard_own m (r ∷ []) (ap (λ k. eqb k n) (sym hn) ∙ h) (mine h) p))))

    -- and A is told
    pub turns_and_tells_b : (m : Values) (r r' : BRecord) (y : Values) (a : Answer) (rc sp : Bool) → r.tn ≡ m.tn → is_x m.kind ≡ false → r'.tn ≡ r.tn → r'.destination ≡ r.destination → ((k : ℕ) → tells k a ≡ eqb r.tn k) → (eqb r.tn n ≡ true → words_of n (event c a ∷ past) ≡ w_states rc sp (words_of n past)) → (is_recalling r.state ≡ (words_of n past).rc → is_recalling r'.state ≡ rc) → (is_suspended r.state ≡ (words_of n past).sp → is_suspended r'.state ≡ sp) → y.tn ≡ r.tn → terminal y ≡ false → (eqb r.tn n ≡ true → those b_tn n rb ≡ r ∷ []) → P (here n past x ra rb (m ∷ tb) ta) → P (here n (event c a ∷ past) x ra (changed b_tn (became r') rb) tb (ta ++ y ∷ []))
    turns_and_tells_b m r r' y a rc sp hn mx hn' hb ht hw h1 h2 hy yt mine p = go (eqb r.tn n) refl
      where
        go : (b : Bool) → eqb r.tn n ≡ b → P (here n (event c a ∷ past) x ra (changed b_tn (became r') rb) tb (ta ++ y ∷ []))
        go false h = other_b n P closed past c a (became r') (y ∷ []) x ra rb tb ta (ht n ∙ h) (ap (λ k. eqb k n) hn' ∙ h) (those_one_other m_tn n y (ap (λ k. eqb k n) hy ∙ h)) (heard_other m (ap (λ k. eqb k n) (sym hn) ∙ h) p)
        go true h =
            own_b n P closed past c a (became r') (y ∷ []) x ra rb tb ta (w_states rc sp (words_of n past)) (r ∷ [])
            (hw h) (mine h) (ap (λ k. eqb k n) hn' ∙ h) (those_one_own m_tn n y (ap (λ k. eqb k n) hy ∙ h))
            (closed.tells x (w_states rc sp (words_of n past)) (those a_tn n ra) (those m_tn n tb) (those m_tn n ta) r' y yt (closed.turns x (words_of n past) (those a_tn n ra) (those m_tn n tb) (those m_tn n ta) r r' rc sp hb h1 h2 (closed.skips x (words_of n past) (those a_tn n ra) (those m_tn n tb) (those m_tn n ta) m r mx (heard_own m (r ∷ []) (ap (λ k. eqb k n) (sym hn) ∙ h) (mine h) p))))

    -- by itself r becomes r', and A is told
    pub frees_b : (r r' : BRecord) (y : Values) (a : Answer) (rc sp : Bool) → r'.tn ≡ r.tn → r'.destination ≡ r.destination → ((k : ℕ) → tells k a ≡ eqb r.tn k) → (eqb r.tn n ≡ true → words_of n (event c a ∷ past) ≡ w_states rc sp (words_of n past)) → (is_recalling r.state ≡ (words_of n past).rc → is_recalling r'.state ≡ rc) → (is_suspended r.state ≡ (words_of n past).sp → is_suspended r'.state ≡ sp) → y.tn ≡ r.tn → terminal y ≡ false → (eqb r.tn n ≡ true → those b_tn n rb ≡ r ∷ []) → P (here n past x ra rb tb ta) → P (here n (event c a ∷ past) x ra (changed b_tn (became r') rb) tb (ta ++ y ∷ []))
    frees_b r r' y a rc sp hn' hb ht hw h1 h2 hy yt mine p = go (eqb r.tn n) refl
      where
        go : (b : Bool) → eqb r.tn n ≡ b → P (here n (event c a ∷ past) x ra (changed b_tn (became r') rb) tb (ta ++ y ∷ []))
        go false h = other_b n P closed past c a (became r') (y ∷ []) x ra rb tb ta (ht n ∙ h) (ap (λ k. eqb k n) hn' ∙ h) (those_one_other m_tn n y (ap (λ k. eqb k n) hy ∙ h)) p
        go true h =
            own_b n P closed past c a (became r') (y ∷ []) x ra rb tb ta (w_states rc sp (words_of n past)) (r ∷ [])
            (hw h) (mine h) (ap (λ k. eqb k n) hn' ∙ h) (those_one_own m_tn n y (ap (λ k. eqb k n) hy ∙ h))
            (closed.tells x (w_states rc sp (words_of n past)) (those a_tn n ra) (those m_tn n tb) (those m_tn n ta) r' y yt (closed.turns x (words_of n past) (those a_tn n ra) (those m_tn n tb) (those m_tn n ta) r r' rc sp hb h1 h2 (plain_own (r ∷ []) (mine h) p)))

    -- X ends the record
    pub ends_by_b : (m : Values) (r : BRecord) (cause : Cause) → is_return c ≡ false → r.tn ≡ m.tn → is_x m.kind ≡ true → (eqb r.tn n ≡ true → those b_tn n rb ≡ r ∷ []) → P (here n past x ra rb (m ∷ tb) ta) → P (here n (event c (ended r.tn cause) ∷ past) x ra (changed b_tn (removed r.tn) rb) tb (ta ++ []))
    ends_by_b m r cause hr hn mx mine p = go (eqb r.tn n) refl
      where
        go : (b : Bool) → eqb r.tn n ≡ b → P (here n (event c (ended r.tn cause) ∷ past) x ra (changed b_tn (removed r.tn) rb) tb (ta ++ []))
        go false h = other_b n P closed past c (ended r.tn cause) (removed r.tn) ([]) x ra rb tb ta h h refl (heard_other m (ap (λ k. eqb k n) (sym hn) ∙ h) p)
        go true h =
            own_b n P closed past c (ended r.tn cause) (removed r.tn) ([]) x ra rb tb ta (w_ended_b false (words_of n past)) (r ∷ [])
            (words_ended_b n r.tn c past hc h cause ∙ ap (λ b. w_ended_b b (words_of n past)) hr) (mine h) h refl
            (subst (λ ms. P (at x (w_ended_b false (words_of n past)) (those a_tn n ra) [] (those m_tn n tb) ms)) (sym (nil_right (those m_tn n ta))) (closed.ends_by x (words_of n past) (those a_tn n ra) (those m_tn n tb) (those m_tn n ta) m r mx (heard_own m (r ∷ []) (ap (λ k. eqb k n) (sym hn) ∙ h) (mine h) p)))

    -- a call ends the record, and A is told
    pub ends_by_call_b : (m : Values) (r : BRecord) (y : Values) (cause : Cause) → is_return c ≡ false → r.tn ≡ m.tn → is_x m.kind ≡ false → y.tn ≡ r.tn → terminal y ≡ true → (eqb r.tn n ≡ true → those b_tn n rb ≡ r ∷ []) → P (here n past x ra rb (m ∷ tb) ta) → P (here n (event c (ended r.tn cause) ∷ past) x ra (changed b_tn (removed r.tn) rb) tb (ta ++ y ∷ []))
    ends_by_call_b m r y cause hr hn mx hy yt mine p = go (eqb r.tn n) refl
      where
        go : (b : Bool) → eqb r.tn n ≡ b → P (here n (event c (ended r.tn cause) ∷ past) x ra (changed b_tn (removed r.tn) rb) tb (ta ++ y ∷ []))
        go false h = other_b n P closed past c (ended r.tn cause) (removed r.tn) (y ∷ []) x ra rb tb ta h h (those_one_other m_tn n y (ap (λ k. eqb k n) hy ∙ h)) (heard_other m (ap (λ k. eqb k n) (sym hn) ∙ h) p)
        go true h =
            own_b n P closed past c (ended r.tn cause) (removed r.tn) (y ∷ []) x ra rb tb ta (w_ended_b false (words_of n past)) (r ∷ [])
            (words_ended_b n r.tn c past hc h cause ∙ ap (λ b. w_ended_b b (words_of n past)) hr) (mine h) h (those_one_own m_tn n y (ap (λ k. eqb k n) hy ∙ h))
            (closed.ends_with x (words_of n past) (those a_tn n ra) (those m_tn n tb) (those m_tn n ta) r y yt (closed.skips x (words_of n past) (those a_tn n ra) (those m_tn n tb) (those m_tn n ta) m r mx (heard_own m (r ∷ []) (ap (λ k. eqb k n) (sym hn) ∙ h) (mine h) p)))

    -- T7 or T9 is over
    pub expires_b : (r : BRecord) (y : Values) (cause : Cause) → is_return c ≡ false → y.tn ≡ r.tn → terminal y ≡ true → (eqb r.tn n ≡ true → those b_tn n rb ≡ r ∷ []) → P (here n past x ra rb tb ta) → P (here n (event c (ended r.tn cause) ∷ past) x ra (changed b_tn (removed r.tn) rb) tb (ta ++ y ∷ []))
    expires_b r y cause hr hy yt mine p = go (eqb r.tn n) refl
      where
        go : (b : Bool) → eqb r.tn n ≡ b → P (here n (event c (ended r.tn cause) ∷ past) x ra (changed b_tn (removed r.tn) rb) tb (ta ++ y ∷ []))
        go false h = other_b n P closed past c (ended r.tn cause) (removed r.tn) (y ∷ []) x ra rb tb ta h h (those_one_other m_tn n y (ap (λ k. eqb k n) hy ∙ h)) p
        go true h =
            own_b n P closed past c (ended r.tn cause) (removed r.tn) (y ∷ []) x ra rb tb ta (w_ended_b false (words_of n past)) (r ∷ [])
            (words_ended_b n r.tn c past hc h cause ∙ ap (λ b. w_ended_b b (words_of n past)) hr) (mine h) h (those_one_own m_tn n y (ap (λ k. eqb k n) hy ∙ h))
            (closed.ends_with x (words_of n past) (those a_tn n ra) (those m_tn n tb) (those m_tn n ta) r y yt (plain_own (r ∷ []) (mine h) p))

    -- a message comes back
    pub back_b' : (m : Values) (k : ℕ) → is_return c ≡ true → k ≡ m.tn → P (here n past x ra rb tb (m ∷ ta)) → P (here n (event c (nothing k) ∷ past) x ra (changed b_tn same rb) tb (ta ++ []))
    back_b' m k hr hn p = go (eqb k n) refl
      where
        go : (b : Bool) → eqb k n ≡ b → P (here n (event c (nothing k) ∷ past) x ra (changed b_tn same rb) tb (ta ++ []))
        go false h = other_b n P closed past c (nothing k) same ([]) x ra rb tb ta h tt refl (back_other m (ap (λ k. eqb k n) (sym hn) ∙ h) p)
        go true h =
            own_b n P closed past c (nothing k) same ([]) x ra rb tb ta (w_returned (words_of n past)) (those b_tn n rb)
            (words_returned n k c past hr h) refl tt refl
            (subst (λ ms. P (at x (w_returned (words_of n past)) (those a_tn n ra) (those b_tn n rb) (those m_tn n tb) ms)) (sym (nil_right (those m_tn n ta))) (closed.back_b x (words_of n past) (those a_tn n ra) (those b_tn n rb) (those m_tn n tb) (those m_tn n ta) m (back_own m (those b_tn n rb) (ap (λ k. eqb k n) (sym hn) ∙ h) refl p)))

    -- and ends the record
    pub back_ends_b' : (m : Values) (r : BRecord) (cause : Cause) → is_return c ≡ true → r.tn ≡ m.tn → (eqb r.tn n ≡ true → those b_tn n rb ≡ r ∷ []) → P (here n past x ra rb tb (m ∷ ta)) → P (here n (event c (ended r.tn cause) ∷ past) x ra (changed b_tn (removed r.tn) rb) tb (ta ++ []))
    back_ends_b' m r cause hr hn mine p = go (eqb r.tn n) refl
      where
        go : (b : Bool) → eqb r.tn n ≡ b → P (here n (event c (ended r.tn cause) ∷ past) x ra (changed b_tn (removed r.tn) rb) tb (ta ++ []))
        go false h = other_b n P closed past c (ended r.tn cause) (removed r.tn) ([]) x ra rb tb ta h h refl (back_other m (ap (λ k. eqb k n) (sym hn) ∙ h) p)
        go true h =
            own_b n P closed past c (ended r.tn cause) (removed r.tn) ([]) x ra rb tb ta (w_ended_b true (words_of n past)) (r ∷ [])
            (words_ended_b n r.tn c past hc h cause ∙ ap (λ b. w_ended_b b (words_of n past)) hr) (mine h) h refl
            (subst (λ ms. P (at x (w_ended_b true (words_of n past)) (those a_tn n ra) [] (those m_tn n tb) ms)) (sym (nil_right (those m_tn n ta))) (closed.back_ends_b x (words_of n past) (those a_tn n ra) (those m_tn n tb) (those m_tn n ta) r m (back_own m (r ∷ []) (ap (λ k. eqb k n) (sym hn) ∙ h) (mine h) p)))

    -- an answer that tells of no transaction, and changes no table
    pub rests_b : (a : Answer) → tells n a ≡ false → P (here n past x ra rb tb ta) → P (here n (event c a ∷ past) x ra (changed b_tn same rb) tb (ta ++ []))
    rests_b a h p = other_b n P closed past c a same [] x ra rb tb ta h tt refl p
