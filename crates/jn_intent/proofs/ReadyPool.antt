-- The records once the ready record of a work stands behind its intentions.
use Rattle.jn_intent.proofs.Common.{◌≡◌, inl, inr, ⊎_elim, ◌<◌, ◌≤◌, ◌+◌, ℕ, zero, suc, Bool, true, false, not, ◌||◌, if◌then◌else◌, List, [], ◌∷◌, ◌++◌, length, map, Option, Some, None, refl, sym, ◌∙◌, ap, subst, true≢false, arith, cases_eq, nat_tests, filter-append, is_some, filter, position, slice_set, option_map, option_and_then, find, list_any, LockUnit, Tid, WorkId, work_eq, work_tells, Contents, stored_in, stored_list, with_first, intentions_from, intention_of, heads_name, works_name, PassesOnce, HasAt, Intends, AreFresh, none_passes, any_same, found_once, found_written, none_at, intentions_kept, names_address, most_cells, Gives, at_set, passes_any, StoredIntention, Record, Free, Intention, Ready, Going, FlagRecord, WorkHead, WorkState, record_in, is_free, free_count, is_prepared, is_intention, is_flag, are_different, name_of, find_by, find-add, find-listed, different-add, map-add, Memory, rubbish_of, rubbish_in, WorksMatch, FlagsMatch, stored_work, work_by, is_at, ArePagesApart, PoolPreparing, free_more, work_stays, flags_stay, layouts_said}
use Rattle.jn_intent.proofs.Listed.{listed_at, listed_any, listed_back}
use Rattle.jn_intent.proofs.Naming.{found_intention, intention_has, gives_named, or_first, or_rest}
use Rattle.jn_intent.proofs.StoringPool.{is_other, same_work, others_past, free_there, stands_free}

abbrev pub ready_state : WorkHead → List StoredIntention → List LockUnit → WorkState
ready_state head stored reads = record { head = head; list = stored; reads = reads; going = false; next = 0 }

-- ---- intentions by their places

module _ (pool : List Record) (work : WorkId) where
  own_place : (order : ℕ) (u : Tid) (s : StoredIntention) → is_intention work order (Intention work u order s) ≡ true
  own_place order u s = let t = work_tells work work in grind (arith, nat_tests)

  stands_first : (i order : ℕ) (u : Tid) (s : StoredIntention) → record_in pool i ≡ Intention work u order s → PassesOnce (λ j. is_intention work order (record_in pool j)) → intention_of pool work order ≡ Some s
  stands_first i order u s stands once =
      let own = ap (is_intention work order) stands ∙ own_place order u s in
      ap (option_and_then stored_in) (found_once (is_intention work order) Free pool i refl (λ j t. once j i t own) ∙ ap (λ b. if b then Some (record_in pool i) else None) own ∙ ap (λ (r : Record). Some r) stands)

  -- one data page, one place
  places_apart : (a i j k l : ℕ) (u r : Tid) (s t : StoredIntention) → record_in pool i ≡ Intention work u k s → record_in pool j ≡ Intention work r l t → ((order : ℕ) → PassesOnce (λ n. is_intention work order (record_in pool n)))
      → is_at a s ≡ true → is_at a t ≡ true → (order n : ℕ) → ArePagesApart (intentions_from pool work order n) → order ≤ k → k < order + n → order ≤ l → l < order + n → k ≡ l
  places_apart a i j k l u r s t is js once sa ta order zero apart k_low k_high l_low l_high = absurd (omega (arith, k_low, k_high))
  places_apart a i j k l u r s t is js once sa ta order (suc n) apart k_low k_high l_low l_high = ⊎_elim
      (λ e. ⊎_elim (λ f. e ∙ sym f) (λ ne. absurd (first order i k u s is (sym e) sa (listed_back pool work a j r l t js (once l) ta (suc order) n (omega (arith, l_low, ne)) (omega (arith, l_high))) apart)) (cases_eq l order))
      (λ ne. ⊎_elim
      (λ f. absurd (first order j l r t js (sym f) ta (listed_back pool work a i u k s is (once k) sa (suc order) n (omega (arith, k_low, ne)) (omega (arith, k_high))) apart))
      (λ ne2. places_apart a i j k l u r s t is js once sa ta (suc order) n (rest (intention_of pool work order) apart) (omega (arith, k_low, ne)) (omega (arith, k_high)) (omega (arith, l_low, ne2)) (omega (arith, l_high)))
      (cases_eq l order))
      (cases_eq k order)
    where
      rest : (o : Option StoredIntention) → ArePagesApart (with_first o (intentions_from pool work (suc order) n)) → ArePagesApart (intentions_from pool work (suc order) n)
      rest None apart = apart
      rest (Some x) apart = apart.2

      first : (order i k : ℕ) (u : Tid) (s : StoredIntention) → record_in pool i ≡ Intention work u k s → order ≡ k → is_at a s ≡ true → list_any (is_at a) (intentions_from pool work (suc order) n) ≡ true
          → ArePagesApart (with_first (intention_of pool work order) (intentions_from pool work (suc order) n)) → ⊥
      first order i k u s stands e names listed apart =
          let here = stands_first i order u s (stands ∙ ap (λ o. Intention work u o s) (sym e)) (once order) in
          let all = subst (λ o. ArePagesApart (with_first o (intentions_from pool work (suc order) n))) here apart in
          true≢false (sym listed ∙ all.1 a names)

  -- and an intention's two are apart
  two_apart : (i k : ℕ) (u : Tid) (s : StoredIntention) → record_in pool i ≡ Intention work u k s → PassesOnce (λ n. is_intention work k (record_in pool n)) → (order n : ℕ) → order ≤ k → k < order + n → ArePagesApart (intentions_from pool work order n)
      → (a : ℕ) → s.address ≡ suc a → s.map ≡ suc a → ⊥
  two_apart i k u s is once order zero low high apart = absurd (omega (arith, low, high))
  two_apart i k u s is once order (suc n) low high apart = ⊎_elim
      (λ e. first (subst (λ o. ArePagesApart (with_first o (intentions_from pool work (suc order) n))) (ap (λ o. intention_of pool work o) (sym e) ∙ stands_first i k u s is once) apart))
      (λ ne. two_apart i k u s is once (suc order) n (omega (arith, low, ne)) (omega (arith, high)) (rest (intention_of pool work order) apart))
      (cases_eq k order)
    where
      first : ArePagesApart (s ∷ intentions_from pool work (suc order) n) → (a : ℕ) → s.address ≡ suc a → s.map ≡ suc a → ⊥
      first apart = apart.0

      rest : (o : Option StoredIntention) → ArePagesApart (with_first o (intentions_from pool work (suc order) n)) → ArePagesApart (intentions_from pool work (suc order) n)
      rest None apart = apart
      rest (Some x) apart = apart.2

-- ---- the work's own data pages

module _ (m : Memory) (work : WorkId) (stored : List StoredIntention) (records : List Record) (p : PoolPreparing m work stored records) where
  place_below : (i : ℕ) (s : StoredIntention) (h : HasAt records work i s) → h.order < length stored
  place_below i s h = p.first.intentions.no_more h.order i (ap (is_intention work h.order) h.stands ∙ own_place records work h.order h.tid s)

  -- what its intention passes, one of the list does
  pub listed_one : (p : StoredIntention → Bool) (i : ℕ) (s : StoredIntention) → HasAt records work i s → p s ≡ true → list_any p stored ≡ true
  listed_one q i s h passes = ap (list_any q) (sym p.first.list_stands)
      ∙ listed_any records work q i h.tid h.order s h.stands (p.first.intentions.once h.order) passes 0 (length stored) (omega arith) (let lt = place_below i s h in omega (arith, lt))

  pub listed_page : (i a : ℕ) (s : StoredIntention) → HasAt records work i s → is_at a s ≡ true → list_any (is_at a) stored ≡ true
  listed_page i a s h names = listed_one (is_at a) i s h names

  pub are_fresh : (leaves : ℕ) (c : Contents) → c.pool ≡ records → ArePagesApart stored → ((a : ℕ) → list_any (is_at a) stored ≡ true → (a < leaves) × ((heads_name most_cells (layouts_said c) (suc a) || works_name records (suc a)) ≡ false)) → AreFresh leaves c work
  are_fresh leaves c same apart own = record {
    fit = λ d i q s h g. (own d (listed_page i d s (in_records i s h) (gives_named s d q g))).0;
    unnamed = λ d i q s h g. ap (λ l. heads_name most_cells (layouts_said c) (suc d) || works_name l (suc d)) same ∙ (own d (listed_page i d s (in_records i s h) (gives_named s d q g))).1;
    differ = λ d i j q r s t h k sg tg. both_same d i j q r s t (in_records i s h) (in_records j t k) sg tg;
  }
    where
      in_records : (i : ℕ) (s : StoredIntention) → HasAt c.pool work i s → HasAt records work i s
      in_records i s h = subst (λ l. HasAt l work i s) same h

      apart_there : ArePagesApart (intentions_from records work 0 (length stored))
      apart_there = subst ArePagesApart (sym p.first.list_stands) apart

      one_slot : (d i j q r : ℕ) (s t : StoredIntention) → HasAt records work i s → HasAt records work j t → Gives s d q → Gives t d r → i ≡ j
      one_slot d i j q r s t a b sg tg =
          let la = place_below i s a in let lb = place_below j t b in
          let orders = places_apart records work d i j a.order b.order a.tid b.tid s t a.stands b.stands p.first.intentions.once (gives_named s d q sg) (gives_named t d r tg) 0 (length stored) apart_there (omega arith) (omega (arith, la)) (omega arith) (omega (arith, lb)) in
          p.first.intentions.once a.order i j (ap (is_intention work a.order) a.stands ∙ own_place records work a.order a.tid s)
          (subst (λ o. is_intention work o (record_in records j) ≡ true) (sym orders) (ap (is_intention work b.order) b.stands ∙ own_place records work b.order b.tid t))

      both_same : (d i j q r : ℕ) (s t : StoredIntention) → HasAt records work i s → HasAt records work j t → Gives s d q → Gives t d r → (i ≡ j) × (q ≡ r)
      both_same d i j q r s t a b sg tg =
          let slots = one_slot d i j q r s t a b sg tg in
          let is : s ≡ t = one_record (sym a.stands ∙ ap (record_in records) slots ∙ b.stands) in
          (slots, cells (subst (λ x. Gives x d q) is sg) tg)
        where
          one_record : {w u : WorkId} {x y : Tid} {k l : ℕ} {s t : StoredIntention} → Intention w x k s ≡ Intention u y l t → s ≡ t
          one_record e = cc e

          two : (d : ℕ) → t.address ≡ suc d → t.map ≡ suc d → ⊥
          two = two_apart records work j b.order b.tid t b.stands (p.first.intentions.once b.order) 0 (length stored) (omega arith) (let lt = place_below j t b in omega (arith, lt)) apart_there

          cells : Gives t d q → Gives t d r → q ≡ r
          cells (inl x) (inl y) = x.1 ∙ sym y.1
          cells (inr x) (inr y) = x.1 ∙ sym y.1
          cells (inl x) (inr y) = absurd (two d x.0 y.0)
          cells (inr x) (inl y) = absurd (two d y.0 x.0)

-- ---- with the ready record

module _ (m : Memory) (head : WorkHead) (stored : List StoredIntention) (records : List Record) (p : PoolPreparing m head.work stored records) (slot : ℕ) (at : position is_free records ≡ Some slot) (n : ℕ) (all : length stored ≡ n) (reads : List LockUnit) where
  was_free : record_in records slot ≡ Free
  was_free = stands_free m head.work stored records p slot at

  there : slot < length records
  there = free_there m head.work stored records p slot at

  pub ready_flags : FlagsMatch (slice_set records slot (Ready head n reads)) m.flags
  ready_flags = flags_stay records slot (Ready head n reads) m.flags (λ t. ap (is_flag t) was_free) (λ t. refl) p.flags

  pub ready_free : free_count (slice_set records slot (Ready head n reads)) + n + 1 ≡ free_count m.records
  ready_free = let less = free_more records slot (Ready head n reads) there (ap is_free was_free) refl in let before = p.free in omega (arith, less, before, all)

  -- the works in memory

  pub absent : find_by work_eq name_of m.works head.work ≡ None
  absent = nothing (find_by work_eq name_of m.works head.work) (p.works.each head.work ∙ ap (option_and_then (work_by records head.work)) (none_passes (is_prepared head.work) Free records p.alone))
    where
      nothing : (o : Option WorkState) → option_map stored_work o ≡ None → o ≡ None
      nothing None e = refl
      nothing (Some s) e = absurd (cc e)

  pub work_found : (w : WorkId) → find_by work_eq name_of (m.works ++ ready_state head stored reads ∷ []) w ≡ (if work_eq head.work w then Some (ready_state head stored reads) else find_by work_eq name_of m.works w)
  work_found w = find-add work_eq name_of m.works (ready_state head stored reads) w ∙ ⊎_elim (λ h. own h.1) (λ h. other (find_by work_eq name_of m.works w) (work_eq head.work w) h.0) (work_tells head.work w)
    where
      own : head.work ≡ w → (if is_some (find_by work_eq name_of m.works w) then find_by work_eq name_of m.works w else if work_eq head.work w then Some (ready_state head stored reads) else None)
          ≡ (if work_eq head.work w then Some (ready_state head stored reads) else find_by work_eq name_of m.works w)
      own e = let gone = subst (λ u. find_by work_eq name_of m.works u ≡ None) e absent in
          ap (λ o. if is_some o then o else if work_eq head.work w then Some (ready_state head stored reads) else None) gone ∙ ap (λ o. if work_eq head.work w then Some (ready_state head stored reads) else o) (sym gone)

      other : (o : Option WorkState) (b : Bool) → b ≡ false → (if is_some o then o else if b then Some (ready_state head stored reads) else None) ≡ (if b then Some (ready_state head stored reads) else o)
      other o true h = absurd (true≢false h)
      other None false h = refl
      other (Some s) false h = refl

  its_list : stored_list (slice_set records slot (Ready head n reads)) head.work n ≡ stored
  its_list = intentions_kept records slot (Ready head n reads) head.work (λ order. ap (is_intention head.work order) was_free) (λ order. refl) 0 n ∙ ap (stored_list records head.work) (sym all) ∙ p.first.list_stands

  its_record : find (is_prepared head.work) (slice_set records slot (Ready head n reads)) ≡ Some (Ready head n reads)
  its_record = found_written (is_prepared head.work) Free records slot (Ready head n reads) there refl (λ j t. absurd (true≢false (sym t ∙ none_at (is_prepared head.work) Free records j refl p.alone)))
      ∙ ap (λ b. if b then Some (Ready head n reads) else None) (same_work head.work)

  pub ready_works : WorksMatch (slice_set records slot (Ready head n reads)) (m.works ++ ready_state head stored reads ∷ [])
  ready_works = record {
    differ = subst (λ ks. are_different work_eq ks ≡ true) (sym (map-add name_of m.works (ready_state head stored reads)))
        (different-add work_eq work_tells head.work (map name_of m.works) p.works.differ (find-listed work_eq name_of m.works head.work ∙ ap is_some absent));
    each = λ w. ap (option_map stored_work) (work_found w) ∙ ⊎_elim (λ h. own w h.1 h.0) (λ h. other w h.0) (work_tells head.work w);
  }
    where
      own : (w : WorkId) → head.work ≡ w → work_eq head.work w ≡ true → option_map stored_work (if work_eq head.work w then Some (ready_state head stored reads) else find_by work_eq name_of m.works w)
          ≡ option_and_then (work_by (slice_set records slot (Ready head n reads)) w) (find (is_prepared w) (slice_set records slot (Ready head n reads)))
      own w e h = ap (λ b. option_map stored_work (if b then Some (ready_state head stored reads) else find_by work_eq name_of m.works w)) h
          ∙ ap (λ l. Some (record { head = head; list = l; reads = reads; going = false })) (sym its_list)
          ∙ subst (λ u. Some (record { head = head; list = stored_list (slice_set records slot (Ready head n reads)) head.work n; reads = reads; going = false })
          ≡ option_and_then (work_by (slice_set records slot (Ready head n reads)) u) (find (is_prepared u) (slice_set records slot (Ready head n reads)))) e
          (sym (ap (option_and_then (work_by (slice_set records slot (Ready head n reads)) head.work)) its_record))

      other : (w : WorkId) → work_eq head.work w ≡ false → option_map stored_work (if work_eq head.work w then Some (ready_state head stored reads) else find_by work_eq name_of m.works w)
          ≡ option_and_then (work_by (slice_set records slot (Ready head n reads)) w) (find (is_prepared w) (slice_set records slot (Ready head n reads)))
      other w h = ap (λ b. option_map stored_work (if b then Some (ready_state head stored reads) else find_by work_eq name_of m.works w)) h ∙ p.works.each w
          ∙ sym (work_stays records slot (Ready head n reads) w (λ order. ap (is_intention w order) was_free) (λ order. refl) (ap (is_prepared w) was_free) h)

  -- which works are prepared

  stands_ready : record_in (slice_set records slot (Ready head n reads)) slot ≡ Ready head n reads
  stands_ready = ⊎_elim (λ h. h.1) (λ h. absurd (h.0 refl)) (at_set Free records slot (Ready head n reads) there slot)

  pub ready_prepared : (w : WorkId) → list_any (is_prepared w) (slice_set records slot (Ready head n reads)) ≡ (list_any (is_prepared w) records || work_eq head.work w)
  ready_prepared w = ⊎_elim
      (λ h. passes_any (is_prepared w) Free (slice_set records slot (Ready head n reads)) slot refl (ap (is_prepared w) stands_ready ∙ h.0) ∙ sym (or_rest (list_any (is_prepared w) records) (work_eq head.work w) h.0))
      (λ h. any_same (is_prepared w) Free records slot (Ready head n reads) (ap (is_prepared w) was_free ∙ sym h.0) ∙ sym (no_or (list_any (is_prepared w) records) (work_eq head.work w) h.0))
      (work_tells head.work w)
    where
      no_or : (b c : Bool) → c ≡ false → (b || c) ≡ b
      no_or true c h = refl
      no_or false c h = h

  -- the work's records are no rubbish any more

  rubbish_less : (rs : List Record) → rubbish_in (slice_set records slot (Ready head n reads)) rs ≡ filter (is_other head.work) (rubbish_in records rs)
  rubbish_less [] = refl
  rubbish_less (r ∷ rs) = ap (λ l. l ++ rubbish_in (slice_set records slot (Ready head n reads)) rs) (one_less r) ∙ ap (λ l. filter (is_other head.work) (rubbish_of records r) ++ l) (rubbish_less rs)
      ∙ sym (filter-append (is_other head.work) (rubbish_of records r) (rubbish_in records rs))
    where
      one_less : (r : Record) → rubbish_of (slice_set records slot (Ready head n reads)) r ≡ filter (is_other head.work) (rubbish_of records r)
      one_less Free = refl
      one_less (Intention w u k i) = ap (λ b. if b then [] else w ∷ []) (ready_prepared w) ∙ by (list_any (is_prepared w) records)
        where
          flips : (b : Bool) → (if b then [] else w ∷ []) ≡ (if not b then w ∷ [] else [])
          flips true = refl
          flips false = refl

          by : (b : Bool) → (if b || work_eq head.work w then [] else w ∷ []) ≡ filter (is_other head.work) (if b then [] else w ∷ [])
          by true = refl
          by false = flips (work_eq head.work w)
      one_less (Ready h k rs) = refl
      one_less (Going h k rs) = refl
      one_less (FlagRecord f) = refl

  pub ready_rubbish : rubbish_in (slice_set records slot (Ready head n reads)) (slice_set records slot (Ready head n reads)) ≡ rubbish_in m.records m.records
  ready_rubbish = rubbish_less (slice_set records slot (Ready head n reads)) ∙ others_past (is_other head.work) records records slot (Ready head n reads) (ap (λ r. filter (is_other head.work) (rubbish_of records r)) was_free) ∙ p.rubbish

  -- which data pages the prepared works name

  was : (i : ℕ) (w : WorkId) (u : Tid) (k : ℕ) (s : StoredIntention) → record_in (slice_set records slot (Ready head n reads)) i ≡ Intention w u k s → record_in records i ≡ Intention w u k s
  was i w u k s e = ⊎_elim (λ h. absurd (no_ready (sym h.1 ∙ e))) (λ h. sym h.1 ∙ e) (at_set Free records slot (Ready head n reads) there i)
    where
      no_ready : Ready head n reads ≡ Intention w u k s → ⊥
      no_ready e = cc e

  is_still : (i : ℕ) (w : WorkId) (u : Tid) (k : ℕ) (s : StoredIntention) → record_in records i ≡ Intention w u k s → record_in (slice_set records slot (Ready head n reads)) i ≡ Intention w u k s
  is_still i w u k s e = ⊎_elim (λ h. absurd (no_free (sym was_free ∙ ap (record_in records) (sym h.0) ∙ e))) (λ h. h.1 ∙ e) (at_set Free records slot (Ready head n reads) there i)
    where
      no_free : Free ≡ Intention w u k s → ⊥
      no_free e = cc e

  goes : (a : ℕ) → works_name (slice_set records slot (Ready head n reads)) (suc a) ≡ true → (works_name records (suc a) || list_any (is_at a) stored) ≡ true
  goes a named = let at = found_intention (names_address (suc a)) (slice_set records slot (Ready head n reads)) named in
      by at.0 at.1 at.2 at.3 (list_any (is_prepared at.2.work) records) refl (sym (ready_prepared at.2.work) ∙ at.2.prepared)
    where
      by : (i : ℕ) (s : StoredIntention) (it : Intends (slice_set records slot (Ready head n reads)) i s) → is_at a s ≡ true → (b : Bool) → list_any (is_prepared it.work) records ≡ b → (list_any (is_prepared it.work) records || work_eq head.work it.work) ≡ true
          → (works_name records (suc a) || list_any (is_at a) stored) ≡ true
      by i s it names true e h = or_first (works_name records (suc a)) (list_any (is_at a) stored)
          (intention_has (names_address (suc a)) records i s (record { work = it.work; tid = it.tid; order = it.order; stands = was i it.work it.tid it.order s it.stands; prepared = e }) names)
      by i s it names false e h =
          let same : it.work ≡ head.work = (let t = work_tells head.work it.work in let f = ap (λ b. b || work_eq head.work it.work) (sym e) ∙ h in grind (arith, f)) in
          or_rest (works_name records (suc a)) (list_any (is_at a) stored)
          (listed_page m head.work stored records p i a s (record { tid = it.tid; order = it.order; stands = was i it.work it.tid it.order s it.stands ∙ ap (λ w. Intention w it.tid it.order s) same }) names)

  comes : (a : ℕ) (b : Bool) → works_name records (suc a) ≡ b → (works_name records (suc a) || list_any (is_at a) stored) ≡ true → works_name (slice_set records slot (Ready head n reads)) (suc a) ≡ true
  comes a true named h =
      let at = found_intention (names_address (suc a)) records named in let it = at.2 in
      intention_has (names_address (suc a)) (slice_set records slot (Ready head n reads)) at.0 at.1
      (record { work = it.work; tid = it.tid; order = it.order; stands = is_still at.0 it.work it.tid it.order at.1 it.stands; prepared = ready_prepared it.work ∙ or_first (list_any (is_prepared it.work) records) (work_eq head.work it.work) it.prepared }) at.3
  comes a false unnamed h =
      let l = listed_at records head.work a 0 (length stored) (ap (list_any (is_at a)) p.first.list_stands ∙ ap (λ b. b || list_any (is_at a) stored) (sym unnamed) ∙ h) in
      intention_has (names_address (suc a)) (slice_set records slot (Ready head n reads)) l.slot l.intention
      (record { work = head.work; tid = l.tid; order = l.order; stands = is_still l.slot head.work l.tid l.order l.intention l.stands; prepared = ready_prepared head.work ∙ or_rest (list_any (is_prepared head.work) records) (work_eq head.work head.work) (same_work head.work) }) l.names

  pub ready_names : (a : ℕ) → works_name (slice_set records slot (Ready head n reads)) (suc a) ≡ (works_name m.records (suc a) || list_any (is_at a) stored)
  ready_names a = same (works_name (slice_set records slot (Ready head n reads)) (suc a)) (works_name records (suc a) || list_any (is_at a) stored) (goes a) (comes a (works_name records (suc a)) refl) ∙ ap (λ b. b || list_any (is_at a) stored) (p.names a)
    where
      same : (b c : Bool) → (b ≡ true → c ≡ true) → (c ≡ true → b ≡ true) → b ≡ c
      same true c x y = sym (x refl)
      same false true x y = y refl
      same false false x y = refl
