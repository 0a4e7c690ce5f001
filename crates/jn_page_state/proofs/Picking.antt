-- What a pick of halves finds after a put, done or stopped.
use Rattle.jn_page_state.proofs.Common.{◌∷◌, ◌≡◌, ◌≢◌, ◌⊎◌, inl, inr, ⊎_elim, ◌<◌, ◌≤◌, ℕ, Bool, true, false, if◌then◌else◌, List, [], refl, sym, ap, subst, ◌∙◌, arith, fun_ext, nat_eq, nat_lt, cases_eq, cases_lt, nat_tests, ServerNo, Counts, page_count, data_place, StableState, Pick, Change, made_by, Changed, Unchanged, StoreView, Candidate, IsClean, HasSamePages, StorePut, with_page, with_same, with_other, same_shrinks, state_in, half_of, pages_by, found_on, contents_of, state_of, IsOfFormat, IsLoadable, IsConsistent, IsFound, NamedAreClean, IsRecoverable, names_block, PagePut, RootPut, RecordPut, HeadPut, BlockPut, MapPut, put_place, put_page, IsPagePut, put_in, IsReadable, contents_by, is_put_at, KeepsClean, KeepsFound, IsPut, IsFewer, IsStopState, whole-stop}
use Rattle.jn_page_state.specs.Puts.{Makes}
use Rattle.jn_page_state.proofs.FilesOnPages.{state_on_pages}
use Rattle.jn_page_state.proofs.PagePuts.{put_is_read, keeps_format}

module _ (v : StoreView) (k : ℕ) (page : List ℕ) (ok : Bool) (w : StoreView) (step : StorePut v k page ok w) (below : k < v.count) (c : Pick) where
  picked : Candidate w k (half_of w k c)
  picked = by (c k)
    where
      by : (b : Bool) → Candidate w k (if b then w.second k else w.first k)
      by true = inr refl
      by false = inl refl

  -- the other pages are as before
  other_half : (j : ℕ) → j < v.count → j ≢ k → half_of w j c ≡ half_of v j c
  other_half j lt ne = let same = step.others j lt ne in by (c j) same.first same.second
    where
      by : (b : Bool) → w.first j ≡ v.first j → w.second j ≡ v.second j → (if b then w.second j else w.first j) ≡ (if b then v.second j else v.first j)
      by true e f = f
      by false e f = e

  abbrev turned : Bool → Pick
  turned b j = if nat_eq k j then b else c j

  turned_here : (b : Bool) → turned b k ≡ b
  turned_here b = let t : nat_eq k k ≡ true = grind (arith, nat_tests) in ap (λ q. if q then b else c k) t

  turned_other : (b : Bool) (j : ℕ) → j ≢ k → turned b j ≡ c j
  turned_other b j ne = let t : nat_eq k j ≡ false = grind (arith, nat_tests, ne) in ap (λ q. if q then b else c j) t

  old_pages : (b : Bool) → half_of w k c ≡ (if b then v.second k else v.first k) → pages_by w c ≡ pages_by v (turned b)
  old_pages b e = fun_ext (λ j. at j)
    where
      here : half_of w k c ≡ half_of v k (turned b)
      here = e ∙ sym (ap (λ q. if q then v.second k else v.first k) (turned_here b))

      inside : (j : ℕ) → j < v.count → half_of w j c ≡ half_of v j (turned b)
      inside j lt = elim (cases_eq j k) [
        | inl same ↦ subst (λ q. half_of w q c ≡ half_of v q (turned b)) (sym same) here
        | inr ne ↦ other_half j lt ne ∙ sym (ap (λ q. if q then v.second j else v.first j) (turned_other b j ne))
      ]

      at : (j : ℕ) → pages_by w c j ≡ pages_by v (turned b) j
      at j = ap (λ n. if nat_lt j n then half_of w j c else []) step.later.count ∙ elim (cases_lt j v.count) [
        | inl lt ↦ ap (λ x. if nat_lt j v.count then x else []) (inside j lt)
        | inr past ↦ let t : nat_lt j v.count ≡ false = grind (arith, nat_tests, past) in
            ap (λ q. if q then half_of w j c else []) t ∙ sym (ap (λ q. if q then half_of v j (turned b) else []) t)
      ]

  new_pages : half_of w k c ≡ page → pages_by w c ≡ with_page (pages_by v c) k page
  new_pages e = fun_ext (λ j. at j)
    where
      inside : (j : ℕ) → j < v.count → pages_by w c j ≡ with_page (pages_by v c) k page j
      inside j lt = let t : nat_lt j v.count ≡ true = grind (arith, nat_tests, lt) in
          ap (λ n. if nat_lt j n then half_of w j c else []) step.later.count ∙ ap (λ q. if q then half_of w j c else []) t ∙ elim (cases_eq k j) [
            | inl same ↦ subst (λ q. half_of w q c ≡ page) same e ∙ sym (with_same (pages_by v c) k page j same)
            | inr ne ↦ other_half j lt (λ e. ne (sym e)) ∙ sym (ap (λ q. if q then half_of v j c else []) t) ∙ sym (with_other (pages_by v c) k page j ne)
          ]

      outside : (j : ℕ) → v.count ≤ j → pages_by w c j ≡ with_page (pages_by v c) k page j
      outside j past = let t : nat_lt j v.count ≡ false = grind (arith, nat_tests, past) in
          ap (λ n. if nat_lt j n then half_of w j c else []) step.later.count ∙ ap (λ q. if q then half_of w j c else []) t
          ∙ sym (ap (λ q. if q then half_of v j c else []) t) ∙ sym (with_other (pages_by v c) k page j (λ e. omega (arith, e, below, past)))

      at : (j : ℕ) → pages_by w c j ≡ with_page (pages_by v c) k page j
      at j = ⊎_elim (λ lt. inside j lt) (λ past. outside j past) (cases_lt j v.count)

  -- the pages are those of a pick before, or so with the new page
  pub picks : ((b : Pick) × (pages_by w c ≡ pages_by v b)) ⊎ (pages_by w c ≡ with_page (pages_by v c) k page)
  picks = ⊎_elim (λ e. inr (new_pages e)) (λ old. inl (⊎_elim (λ e. (turned false, old_pages false e)) (λ e. (turned true, old_pages true e)) old)) (step.part (half_of w k c) picked)

  pub picks_done : ok ≡ true → pages_by w c ≡ with_page (pages_by v c) k page
  picks_done done = new_pages (by (c k))
    where
      by : (b : Bool) → (if b then w.second k else w.first k) ≡ page
      by true = (step.done done).second
      by false = (step.done done).first

module _ (server : ServerNo) (g : Counts) (v : StoreView) (put : PagePut) (ok : Bool) (w : StoreView) (is : IsPut server g v put ok w) where
  abbrev count : page_count g ≡ v.count
  count = is.readable.count

  there : put_place g put < v.count
  there = by put is.page
    where
      by : (put : PagePut) → IsPagePut server g put → put_place g put < v.count
      by (RootPut epoch) h = omega (arith, count)
      by (RecordPut slot r) h = let below = h.0 in omega (arith, count, below)
      by (HeadPut place k) h = let below = h.0 in omega (arith, count, below)
      by (BlockPut d block) h = let below = h.0 in omega (arith, count, below)
      by (MapPut d row) h = let below = h.0 in omega (arith, count, below)

  abbrev step_picks : (c : Pick) → ((b : Pick) × (pages_by w c ≡ pages_by v b)) ⊎ (pages_by w c ≡ with_page (pages_by v c) (put_place g put) (put_page server g put))
  step_picks c = picks v (put_place g put) (put_page server g put) ok w is.step there c

  -- the new pages, by a pick before
  new_format : (c : Pick) → IsOfFormat server g (with_page (pages_by v c) (put_place g put) (put_page server g put))
  new_format c = keeps_format server g (pages_by v c) (is.readable.each c) put is.page (is.may c)

  new_contents : (c : Pick) → contents_of g (with_page (pages_by v c) (put_place g put) (put_page server g put)) ≡ put_in put (contents_by g v c)
  new_contents c = put_is_read server g (pages_by v c) (is.readable.each c) put is.page

  new_state : (c : Pick) → state_of g (with_page (pages_by v c) (put_place g put) (put_page server g put)) ≡ state_in (put_in put (contents_by g v c))
  new_state c = state_on_pages g (with_page (pages_by v c) (put_place g put) (put_page server g put)) (is.readable.each c).root.2.leaves (new_format c).heads ∙ ap (λ x. state_in x) (new_contents c)

  pub still_readable : IsReadable server g w
  still_readable = record {
    count = count ∙ sym is.step.later.count;
    each = λ c. ⊎_elim (λ old. subst (IsOfFormat server g) (sym old.1) (is.readable.each old.0)) (λ new. subst (IsOfFormat server g) (sym new) (new_format c)) (step_picks c);
  }

  -- what is found, old or new
  pub found_old_or_new : (x y : StableState) → ((c : Pick) → found_on g v c ≡ x) → Makes g v put y → (c : Pick) → (found_on g w c ≡ x) ⊎ (found_on g w c ≡ y)
  found_old_or_new x y before makes c = ⊎_elim (λ old. inl (ap (state_of g) old.1 ∙ before old.0)) (λ new. inr (ap (state_of g) new ∙ new_state c ∙ makes c)) (step_picks c)

  pub found_new : (y : StableState) → Makes g v put y → ok ≡ true → (c : Pick) → found_on g w c ≡ y
  found_new y makes done c = ap (state_of g) (picks_done v (put_place g put) (put_page server g put) ok w is.step there c done) ∙ new_state c ∙ makes c

  pub found_picked : (c : Pick) → (b : Pick) × ((found_on g w c ≡ found_on g v b) ⊎ (found_on g w c ≡ state_in (put_in put (contents_by g v b))))
  found_picked c = ⊎_elim (λ old. (old.0, inl (ap (state_of g) old.1))) (λ new. (c, inr (ap (state_of g) new ∙ new_state c))) (step_picks c)

  pub found_done : ok ≡ true → (c : Pick) → found_on g w c ≡ state_in (put_in put (contents_by g v c))
  found_done done c = ap (state_of g) (picks_done v (put_place g put) (put_page server g put) ok w is.step there c done) ∙ new_state c

  pub is_changed : (x : StableState) (step : Change) → ((c : Pick) → found_on g v c ≡ x) → Makes g v put (made_by step x) → Changed x step ok (found_on g w)
  is_changed x step before makes = record { done = found_new (made_by step x) makes; stop = λ _ c. one_stop c (found_old_or_new x (made_by step x) before makes c) }
    where
      one_stop : (c : Pick) → (found_on g w c ≡ x) ⊎ (found_on g w c ≡ made_by step x) → IsStopState x (step ∷ []) (found_on g w c)
      one_stop c (inl e) = whole-stop x (step ∷ []) (found_on g w c) 0 e
      one_stop c (inr e) = whole-stop x (step ∷ []) (found_on g w c) 1 e

  pub is_unchanged : (x : StableState) → ((c : Pick) → found_on g v c ≡ x) → Makes g v put x → Unchanged x (found_on g w)
  is_unchanged x before makes c = ⊎_elim (λ e. e) (λ e. e) (found_old_or_new x x before makes c)

  -- ---- what has one candidate

  -- a data page that isn't written is as before
  clean_on : (d : ℕ) → d < g.leaves → is_put_at put d ≡ false → IsClean v (data_place g d) → IsClean w (data_place g d)
  clean_on d lt out clean =
      let ne : data_place g d ≢ put_place g put = by put is.page out in
      let same = is.step.others (data_place g d) (omega (arith, lt, count)) ne in
      same.first ∙ clean ∙ sym same.second
    where
      by : (put : PagePut) → IsPagePut server g put → is_put_at put d ≡ false → data_place g d ≢ put_place g put
      by (RootPut epoch) h out e = omega (arith, e)
      by (RecordPut slot r) h out e = let below = h.0 in omega (arith, e, below)
      by (HeadPut place k) h out e = let below = h.0 in omega (arith, e, below)
      by (BlockPut k block) h out e = let same : k ≡ d = omega (arith, e) in grind (arith, nat_tests, same, out)
      by (MapPut k row) h out e = let same : k ≡ d = omega (arith, e) in grind (arith, nat_tests, same, out)

  pub still_clean : NamedAreClean g v → KeepsClean g v put → NamedAreClean g w
  still_clean clean keeps c d lt named = ⊎_elim
      (λ old. let before = subst (λ x. names_block (contents_of g x) d ≡ true) old.1 named in clean_on d lt (keeps.unwritten old.0 d lt before) (clean old.0 d lt before))
      (λ new. let after : names_block (put_in put (contents_by g v c)) d ≡ true = sym (ap (λ x. names_block x d) (ap (contents_of g) new ∙ new_contents c)) ∙ named in
      let kept = keeps.names c d lt after in clean_on d lt kept.1 kept.0)
      (step_picks c)

  pub still_recoverable : IsRecoverable server g v → KeepsFound server g v put → KeepsClean g v put → IsRecoverable server g w
  still_recoverable before found keeps = record {
    count = still_readable.count;
    each = λ c. record {
      of_format = still_readable.each c;
      consistent = ⊎_elim (λ old. subst (λ x. IsConsistent g (contents_of g x)) (sym old.1) (before.each old.0).consistent)
          (λ new. subst (λ x. IsConsistent g x) (sym (ap (contents_of g) new ∙ new_contents c)) (found.consistent c)) (step_picks c);
      loadable = ⊎_elim (λ old. subst (λ x. IsLoadable server g.heads (state_of g x)) (sym old.1) (before.each old.0).loadable)
          (λ new. subst (λ x. IsLoadable server g.heads x) (sym (ap (state_of g) new ∙ new_state c)) (found.loadable c)) (step_picks c);
    };
    clean = still_clean before.clean keeps;
  }

-- where no candidate came
module _ (v w : StoreView) (fewer : IsFewer v w) where
  abbrev second_of : (j : ℕ) (x : List ℕ) → Candidate v j x → Bool
  second_of j x (inl e) = false
  second_of j x (inr e) = true

  abbrev picked_in : (b : Bool) (j : ℕ) → Candidate w j (if b then w.second j else w.first j)
  picked_in true j = inr refl
  picked_in false j = inl refl

  abbrev side : (c : Pick) (j : ℕ) → (j < v.count) ⊎ (v.count ≤ j) → Bool
  side c j (inl lt) = second_of j (half_of w j c) (fewer.shrinks j lt (half_of w j c) (picked_in (c j) j))
  side c j (inr past) = false

  is_side : (j : ℕ) (x : List ℕ) (o : Candidate v j x) → x ≡ (if second_of j x o then v.second j else v.first j)
  is_side j x (inl e) = e
  is_side j x (inr e) = e

  at_side : (c : Pick) (j : ℕ) (o : (j < v.count) ⊎ (v.count ≤ j)) → j < v.count → half_of w j c ≡ (if side c j o then v.second j else v.first j)
  at_side c j (inl lt) h = is_side j (half_of w j c) (fewer.shrinks j lt (half_of w j c) (picked_in (c j) j))
  at_side c j (inr past) h = absurd (omega (arith, past, h))

  abbrev earlier : Pick → Pick
  earlier c j = side c j (cases_lt j v.count)

  pub earlier_pages : (c : Pick) → pages_by w c ≡ pages_by v (earlier c)
  earlier_pages c = fun_ext (λ j. at j)
    where
      at : (j : ℕ) → pages_by w c j ≡ pages_by v (earlier c) j
      at j = ap (λ n. if nat_lt j n then half_of w j c else []) fewer.count ∙ ⊎_elim
          (λ lt. ap (λ x. if nat_lt j v.count then x else []) (at_side c j (cases_lt j v.count) lt))
          (λ past. let t : nat_lt j v.count ≡ false = grind (arith, nat_tests, past) in
          ap (λ q. if q then half_of w j c else []) t ∙ sym (ap (λ q. if q then half_of v j (earlier c) else []) t))
          (cases_lt j v.count)

  pub fewer_found : (g : Counts) (x : StableState) → ((c : Pick) → found_on g v c ≡ x) → Unchanged x (found_on g w)
  fewer_found g x before c = ap (state_of g) (earlier_pages c) ∙ before (earlier c)

  pub fewer_picked : (g : Counts) (c : Pick) → (b : Pick) × (found_on g w c ≡ found_on g v b)
  fewer_picked g c = (earlier c, ap (state_of g) (earlier_pages c))

  -- a page with one candidate keeps it
  pub fewer_clean : (j : ℕ) → j < v.count → IsClean v j → IsClean w j
  fewer_clean j lt clean = one (w.first j) (fewer.shrinks j lt (w.first j) (inl refl)) ∙ sym (one (w.second j) (fewer.shrinks j lt (w.second j) (inr refl)))
    where
      one : (x : List ℕ) → Candidate v j x → x ≡ v.first j
      one x (inl e) = e
      one x (inr e) = e ∙ sym clean

  pub fewer_recoverable : (server : ServerNo) (g : Counts) → IsRecoverable server g v → IsRecoverable server g w
  fewer_recoverable server g before = record {
    count = before.count ∙ sym fewer.count;
    each = λ c. subst (IsFound server g) (sym (earlier_pages c)) (before.each (earlier c));
    clean = λ c d lt named. fewer_clean (data_place g d) (let e : page_count g ≡ v.count = before.count in omega (arith, lt, e))
        (before.clean (earlier c) d lt (sym (ap (λ x. names_block (contents_of g x) d) (earlier_pages c)) ∙ named));
  }

-- where each page's candidates stay
module _ (v w : StoreView) (same : HasSamePages v w) where
  pub same_fewer : IsFewer v w
  same_fewer = record { count = same.count; shrinks = λ j lt. same_shrinks v w j (same.pages j) }

  pub same_pages_by : (c : Pick) → pages_by w c ≡ pages_by v c
  same_pages_by c = fun_ext (λ k. page c k)
    where
      halves : (b : Bool) (k : ℕ) → (if b then w.second k else w.first k) ≡ (if b then v.second k else v.first k)
      halves true k = (same.pages k).second
      halves false k = (same.pages k).first

      page : (c : Pick) (k : ℕ) → pages_by w c k ≡ pages_by v c k
      page c k = ap (λ n. if nat_lt k n then (if c k then w.second k else w.first k) else []) same.count ∙ ap (λ x. if nat_lt k v.count then x else []) (halves (c k) k)

  pub same_found : (g : Counts) → found_on g w ≡ found_on g v
  same_found g = fun_ext (λ c. ap (state_of g) (same_pages_by c))

  pub same_recoverable : (server : ServerNo) (g : Counts) → IsRecoverable server g v → IsRecoverable server g w
  same_recoverable server g before = fewer_recoverable v w same_fewer server g before
