-- What is on the way: a transaction pending at one side only has a message that tells the other, unless one was returned.
use Rattle.std.proofs.Common.{◌≡◌, Bool, true, false, ◌||◌, List, [], ◌∷◌, ◌++◌, sym, refl, ap, ◌∙◌}
use Rattle.std.proofs.lemmas.Bool.{or_left, or_right, or_parts, false_from_ne_true, false≢true}
use Rattle.std.proofs.lemmas.List.Folds.{list_any-append}
use Rattle.waiting_line.specs.Searches.{some}
use Rattle.tables.proofs.Tables.{never, never_both, rest}
use Rattle.tables.proofs.Counting.{some_push}
use Rattle.messages.specs.Kinds.{letter_of}
use Rattle.messages.specs.declared.kind.Kind.{Kind}
use Rattle.messages.specs.declared.kind.Kind.TheVariants.{Request as Q, Cancel as X}
use Rattle.messages.specs.declared.values.Values.{Values}
use Rattle.a_side.specs.declared.record.ARecord.{ARecord}
use Rattle.b_side.specs.declared.record.BRecord.{BRecord}
use Rattle.agreement.proofs.Closed.{is_q, is_x, is_r, is_f, terminal, requested}
use Rattle.agreement.proofs.Counts.{request, no_request}
use Rattle.agreement.proofs.States.{or_false}

abbrev pub cancels : Values → Bool
cancels m = is_x m.kind

abbrev pub accepts : Values → Bool
accepts m = is_r m.kind

abbrev pub recalls : Values → Bool
recalls m = is_f m.kind

abbrev pub none : {Y : Type 0} → List Y → Bool
none [] = true
none (x ∷ xs) = false

-- no record, or one that is Requested
abbrev pub asking : List ARecord → Bool
asking [] = true
asking (r ∷ rs) = requested r

pub record Local (ra : List ARecord) (rb : List BRecord) (tb ta : List Values) : Type 0 where
  -- while the request is on the way it is not stored, nothing of it is toward A, and A's record is still Requested
  pub q1 : some request tb ≡ true → none rb ≡ true
  pub q2 : some request tb ≡ true → none ta ≡ true
  pub q3 : some request tb ≡ true → asking ra ≡ true
  -- it is the first of its messages toward B
  pub late : some request (rest tb) ≡ false
  -- a message that ends A's record is sent only when B's has ended
  pub t : some terminal ta ≡ true → none rb ≡ true
  -- at A only: the request is on the way to B, or the end on the way to A
  pub a : none ra ≡ false → none rb ≡ true → (some request tb || some terminal ta) ≡ true
  -- at B only: X is on the way to B, or R or F on the way to A
  pub b : none rb ≡ false → none ra ≡ true → (some cancels tb || (some accepts ta || some recalls ta)) ≡ true
  -- Requested at A and stored: R is on the way
  pub r : none ra ≡ false → asking ra ≡ true → some request tb ≡ false → none rb ≡ false → some accepts ta ≡ true
  -- X is sent only by a side that has no record
  pub x : some cancels tb ≡ true → none ra ≡ true

module _ (q : Values → Bool) where
  pub added_yes : (ms : List Values) (m : Values) → q m ≡ true → some q (ms ++ m ∷ []) ≡ true
  added_yes ms m h = list_any-append q ms (m ∷ []) ∙ or_right (some q ms) _ (or_left (q m) false h)

  pub added_keeps : (ms : List Values) (m : Values) → some q ms ≡ true → some q (ms ++ m ∷ []) ≡ true
  added_keeps ms m h = list_any-append q ms (m ∷ []) ∙ or_left (some q ms) _ h

  pub taken_no : (m : Values) (ms : List Values) → q m ≡ false → some q (m ∷ ms) ≡ some q ms
  taken_no m ms h = ap (λ b. b || some q ms) h

  pub taken_keeps : (m : Values) (ms : List Values) → some q ms ≡ true → some q (m ∷ ms) ≡ true
  taken_keeps m ms h = or_right (q m) _ h

  pub rest_no : (ms : List Values) → some q ms ≡ false → some q (rest ms) ≡ false
  rest_no [] h = refl
  rest_no (m ∷ ms) h = (or_parts (q m) _ h).1

  pub none_no : (ms : List Values) → none ms ≡ true → some q ms ≡ false
  none_no [] h = refl
  none_no (m ∷ ms) h = never (sym h)

  pub late_added : (ms : List Values) (m : Values) → q m ≡ false → some q (rest ms) ≡ false → some q (rest (ms ++ m ∷ [])) ≡ false
  late_added [] m h p = refl
  late_added (y ∷ ms) m h p = some_push q ms m h ∙ p

no_cancel : (k : Kind) → is_q k ≡ true → is_x k ≡ false
no_cancel k h = never_both (letter_of k) (letter_of Q) (letter_of X) h refl

module _ (ra : List ARecord) (rb : List BRecord) (tb ta : List Values) where
  pub l_asks : (r : ARecord) (m : Values) → requested r ≡ true → is_q m.kind ≡ true → Local (r ∷ []) [] (m ∷ []) []
  l_asks r m rq mq = record {
    q1 = λ h. refl;
    q2 = λ h. refl;
    q3 = λ h. rq;
    late = refl;
    t = λ h. refl;
    a = λ h k. or_left _ _ (or_left _ _ mq);
    b = λ h k. never h;
    r = λ h k l j. never j;
    x = λ h. never (sym (sym (or_false (is_x m.kind) ∙ no_cancel _ mq) ∙ h));
  }

  pub l_leaves : (r : ARecord) (m : Values) → is_x m.kind ≡ true → Local (r ∷ []) rb tb ta → Local [] rb (tb ++ m ∷ []) ta
  l_leaves r m mx p =
      let same : some request (tb ++ m ∷ []) ≡ some request tb = some_push request tb m (no_request _ mx) in
      record {
        q1 = λ h. p.q1 (sym same ∙ h);
        q2 = λ h. p.q2 (sym same ∙ h);
        q3 = λ h. refl;
        late = late_added request tb m (no_request _ mx) p.late;
        t = p.t;
        a = λ h k. never h;
        b = λ h k. or_left _ _ (added_yes cancels tb m mx);
        r = λ h k l j. never h;
        x = λ h. refl;
      }

  pub l_lapses : (r : ARecord) → requested r ≡ true → Local (r ∷ []) rb tb ta → Local [] rb tb ta
  l_lapses r rq p = record {
    q1 = p.q1;
    q2 = p.q2;
    q3 = λ h. refl;
    late = p.late;
    t = p.t;
    a = λ h k. never h;
    b = λ h k. or_right (some cancels tb) _ (or_left _ _ (p.r refl rq (false_from_ne_true (some request tb) (λ e. false≢true (sym h ∙ p.q1 e))) h));
    r = λ h k l j. never h;
    x = λ h. refl;
  }

  pub l_ages : (r r' : ARecord) → requested r' ≡ requested r → Local (r ∷ []) rb tb ta → Local (r' ∷ []) rb tb ta
  l_ages r r' e p = record {
    q1 = p.q1;
    q2 = p.q2;
    q3 = λ h. e ∙ p.q3 h;
    late = p.late;
    t = p.t;
    a = p.a;
    b = p.b;
    r = λ h k l j. p.r h (sym e ∙ k) l j;
    x = p.x;
  }

  pub l_says : (r r' : ARecord) (m : Values) → requested r ≡ false → requested r' ≡ false → is_q m.kind ≡ false → is_x m.kind ≡ false → Local (r ∷ []) rb tb ta → Local (r' ∷ []) rb (tb ++ m ∷ []) ta
  l_says r r' m rq rq' mq mx p =
      let same : some request (tb ++ m ∷ []) ≡ some request tb = some_push request tb m mq in
      record {
        q1 = λ h. p.q1 (sym same ∙ h);
        q2 = λ h. p.q2 (sym same ∙ h);
        q3 = λ h. never (sym (p.q3 (sym same ∙ h)) ∙ rq);
        late = late_added request tb m mq p.late;
        t = p.t;
        a = λ h k. ap (λ b. b || some terminal ta) same ∙ p.a h k;
        b = λ h k. never (sym k);
        r = λ h k l j. never (sym k ∙ rq');
        x = λ h. p.x (sym (some_push cancels tb m mx) ∙ h);
      }

  pub l_strays : (m y : Values) → is_x y.kind ≡ true → Local [] rb tb (m ∷ ta) → Local [] rb (tb ++ y ∷ []) ta
  l_strays m y yx p =
      let same : some request (tb ++ y ∷ []) ≡ some request tb = some_push request tb y (no_request _ yx) in
      record {
        q1 = λ h. p.q1 (sym same ∙ h);
        q2 = λ h. never (sym (p.q2 (sym same ∙ h)));
        q3 = λ h. refl;
        late = late_added request tb y (no_request _ yx) p.late;
        t = λ h. p.t (taken_keeps terminal m ta h);
        a = λ h k. never h;
        b = λ h k. or_left _ _ (added_yes cancels tb y yx);
        r = λ h k l j. never h;
        x = λ h. refl;
      }

  pub l_ignores : (m : Values) → is_r m.kind ≡ false → is_f m.kind ≡ false → Local [] rb tb (m ∷ ta) → Local [] rb tb ta
  l_ignores m mr mf p = record {
    q1 = p.q1;
    q2 = λ h. never (sym (p.q2 h));
    q3 = λ h. refl;
    late = p.late;
    t = λ h. p.t (taken_keeps terminal m ta h);
    a = λ h k. never h;
    b = λ h k.
        let e : (some cancels tb || (some accepts (m ∷ ta) || some recalls (m ∷ ta))) ≡ (some cancels tb || (some accepts ta || some recalls ta)) = λ i. some cancels tb || (taken_no accepts m ta mr i || taken_no recalls m ta mf i) in
        sym e ∙ p.b h k;
    r = λ h k l j. never h;
    x = λ h. refl;
  }

  pub l_told_end : (r : ARecord) (m : Values) → terminal m ≡ true → Local (r ∷ []) rb tb (m ∷ ta) → Local [] rb tb ta
  l_told_end r m mt p = record {
    q1 = p.q1;
    q2 = λ h. never (sym (p.q2 h));
    q3 = λ h. refl;
    late = p.late;
    t = λ h. p.t (taken_keeps terminal m ta h);
    a = λ h k. never h;
    b = λ h k. never (sym (p.t (or_left (terminal m) _ mt)) ∙ h);
    r = λ h k l j. never h;
    x = λ h. refl;
  }

  pub l_hears : (r r' : ARecord) (m : Values) → terminal m ≡ false → (requested r' ≡ true → (is_r m.kind ≡ false) × (requested r ≡ true)) → Local (r ∷ []) rb tb (m ∷ ta) → Local (r' ∷ []) rb tb ta
  l_hears r r' m mt f p = record {
    q1 = p.q1;
    q2 = λ h. never (sym (p.q2 h));
    q3 = λ h. never (sym (p.q2 h));
    late = p.late;
    t = λ h. p.t (taken_keeps terminal m ta h);
    a = λ h k. sym (ap (λ b. some request tb || b) (taken_no terminal m ta mt)) ∙ p.a h k;
    b = λ h k. never (sym k);
    r = λ h k l j. sym (taken_no accepts m ta (f k).0) ∙ p.r refl (f k).1 l j;
    x = p.x;
  }

  pub l_stores : (m : Values) (r : BRecord) (y : Values) → is_r y.kind ≡ true → terminal y ≡ false → is_q m.kind ≡ true → Local ra [] (m ∷ tb) ta → Local ra (r ∷ []) tb (ta ++ y ∷ [])
  l_stores m r y yr yt mq p =
      let here : some request (m ∷ tb) ≡ true = or_left (is_q m.kind) _ mq in
      record {
        q1 = λ h. never (sym h ∙ p.late);
        q2 = λ h. never (sym h ∙ p.late);
        q3 = λ h. never (sym h ∙ p.late);
        late = rest_no request tb p.late;
        t = λ h. never (sym (sym (some_push terminal ta y yt) ∙ h) ∙ none_no terminal ta (p.q2 here));
        a = λ h k. never (sym k);
        b = λ h k. or_right (some cancels tb) _ (or_left _ _ (added_yes accepts ta y yr));
        r = λ h k l j. added_yes accepts ta y yr;
        x = λ h. p.x (taken_keeps cancels m tb h);
      }

  pub l_rejects : (m y : Values) → is_q m.kind ≡ true → terminal y ≡ true → Local ra [] (m ∷ tb) ta → Local ra [] tb (ta ++ y ∷ [])
  l_rejects m y mq yt p = record {
    q1 = λ h. refl;
    q2 = λ h. never (sym h ∙ p.late);
    q3 = λ h. never (sym h ∙ p.late);
    late = rest_no request tb p.late;
    t = λ h. refl;
    a = λ h k. or_right (some request tb) _ (added_yes terminal ta y yt);
    b = λ h k. never h;
    r = λ h k l j. never j;
    x = λ h. p.x (taken_keeps cancels m tb h);
  }

  pub l_drops : (m : Values) → is_q m.kind ≡ false → Local ra [] (m ∷ tb) ta → Local ra [] tb ta
  l_drops m mq p = record {
    q1 = λ h. refl;
    q2 = λ h. p.q2 (taken_keeps request m tb h);
    q3 = λ h. p.q3 (taken_keeps request m tb h);
    late = rest_no request tb p.late;
    t = λ h. refl;
    a = λ h k. sym (ap (λ b. b || some terminal ta) (taken_no request m tb mq)) ∙ p.a h k;
    b = λ h k. never h;
    r = λ h k l j. never j;
    x = λ h. p.x (taken_keeps cancels m tb h);
  }

  pub l_skips : (m : Values) (r : BRecord) → is_x m.kind ≡ false → Local ra (r ∷ []) (m ∷ tb) ta → Local ra (r ∷ []) tb ta
  l_skips m r mx p = record {
    q1 = λ h. p.q1 (taken_keeps request m tb h);
    q2 = λ h. p.q2 (taken_keeps request m tb h);
    q3 = λ h. p.q3 (taken_keeps request m tb h);
    late = rest_no request tb p.late;
    t = p.t;
    a = λ h k. never (sym k);
    b = λ h k. sym (ap (λ b. b || (some accepts ta || some recalls ta)) (taken_no cancels m tb mx)) ∙ p.b h k;
    r = λ h k l j. p.r h k (false_from_ne_true (some request (m ∷ tb)) (λ e. false≢true (p.q1 e))) j;
    x = λ h. p.x (taken_keeps cancels m tb h);
  }

  pub l_turns : (r r' : BRecord) → Local ra (r ∷ []) tb ta → Local ra (r' ∷ []) tb ta
  l_turns r r' p = record { q1 = p.q1; q2 = p.q2; q3 = p.q3; late = p.late; t = p.t; a = p.a; b = p.b; r = p.r; x = p.x }

  pub l_tells : (r : BRecord) (y : Values) → terminal y ≡ false → Local ra (r ∷ []) tb ta → Local ra (r ∷ []) tb (ta ++ y ∷ [])
  l_tells r y yt p = record {
    q1 = p.q1;
    q2 = λ h. never (sym (p.q1 h));
    q3 = p.q3;
    late = p.late;
    t = λ h. p.t (sym (some_push terminal ta y yt) ∙ h);
    a = λ h k. never (sym k);
    b = λ h k. go (some cancels tb) (p.b h k);
    r = λ h k l j. added_keeps accepts ta y (p.r h k l j);
    x = p.x;
  }
    where
      inner : (b d : Bool) → some accepts ta ≡ b → some recalls ta ≡ d → (b || d) ≡ true → (some accepts (ta ++ y ∷ []) || some recalls (ta ++ y ∷ [])) ≡ true
      inner true d e f h = or_left _ _ (added_keeps accepts ta y e)
      inner false true e f h = or_right (some accepts (ta ++ y ∷ [])) _ (added_keeps recalls ta y f)
      inner false false e f h = never (sym h)

      go : (b : Bool) → (b || (some accepts ta || some recalls ta)) ≡ true → (b || (some accepts (ta ++ y ∷ []) || some recalls (ta ++ y ∷ []))) ≡ true
      go true h = refl
      go false h = inner (some accepts ta) (some recalls ta) refl refl h

  pub l_ends_by : (m : Values) (r : BRecord) → is_x m.kind ≡ true → Local ra (r ∷ []) (m ∷ tb) ta → Local ra [] tb ta
  l_ends_by m r mx p = record {
    q1 = λ h. refl;
    q2 = λ h. p.q2 (taken_keeps request m tb h);
    q3 = λ h. p.q3 (taken_keeps request m tb h);
    late = rest_no request tb p.late;
    t = λ h. refl;
    a = λ h k. never (sym (p.x (or_left (is_x m.kind) _ mx)) ∙ h);
    b = λ h k. never h;
    r = λ h k l j. never j;
    x = λ h. p.x (taken_keeps cancels m tb h);
  }

  pub l_ends_with : (r : BRecord) (y : Values) → terminal y ≡ true → Local ra (r ∷ []) tb ta → Local ra [] tb (ta ++ y ∷ [])
  l_ends_with r y yt p = record {
    q1 = λ h. refl;
    q2 = λ h. never (sym (p.q1 h));
    q3 = p.q3;
    late = p.late;
    t = λ h. refl;
    a = λ h k. or_right (some request tb) _ (added_yes terminal ta y yt);
    b = λ h k. never h;
    r = λ h k l j. never j;
    x = p.x;
  }
