-- Everything is counted: of what a recovery finds, and of what it keeps in memory.
use Rattle.jn_recovery.proofs.Common.{◌≡◌, inl, inr, ◌⊎◌, ⊎_elim, ◌<◌, ◌≤◌, ◌^◌, ℕ, zero, suc, Bool, true, false, not, ◌||◌, ◌&&◌, if◌then◌else◌, List, [], ◌∷◌, length, map, Option, Some, None, refl, sym, ◌∙◌, ap, subst, true≢false, arith, cases_lt, nat_tests, get_or_past, sum_by-cons, All, nat_eq, nat_lt, count_by, is_some, option_map, option_and_then, find, list_any, list_all, ServerNo, Tid, WorkId, file_eq, work_eq, file_tells, work_tells, TableView, IsTable, is_held, Contents, state_in, with_first, intended, stored_list, intentions_from, intention_of, heads_name, stored_in, found_once, passes_at, IsConsistent, Intends, PassesOnce, FullIntention, StoredIntention, Head, Record, Free, Intention, Ready, Going, FlagRecord, WorkState, intention_has_page, needs_a_head, is_put, is_put_intention, has_page, RecordFits, Counts, record_in, is_prepared, is_intention, name_of, find_by, total, is_in, are_different, IsCounted, file_there, list_of, intentions_of, Tells, but, is_in-but, different-but, total-but, collected, state_on, works_on, IsFew, record_names, all_needed, stored_work, Memory, accounts_of, held_in, next_in, next_by, stored_by, rubbish_in, heads_needed, heads_of, ◌/◌, slice_get, nat_le, head_blocks, most_blocks, most_cells, unit_eq, table_layouts, layouts_in, entry_of, Gives, IsSuppliedIn, names_address, names_what_it_needs, map_cell, files_in, maps_in, Prepared, IsListing, IsLoadable, is_stored, is_past_head, most_pages, IsApart, HasMaps, HaveMaps, held_of, intends_for}
use Rattle.jn_recovery.proofs.TableCounted.{file_of_head, files_listed, heads_counted, all_units, blocks_listed, all_maps, maps_listed, holds_block, holds_map, pages_counted}
use Rattle.std.proofs.lemmas.List.Elements.{All-nil, All-cons}
use Rattle.jn_alloc.specs.Free.{free_count}
use Rattle.jn_records.specs.declared.intention.What.{What}
use Rattle.jn_records.specs.declared.intention.What.TheVariants.{Fresh, Gone, Cut, Put}
use Rattle.jn_recovery.proofs.Keys.{on_key, keys_total, keys_same}
use Rattle.jn_recovery.proofs.PoolCounted.{named, flagged, on_intention, counts_listed, works_match, prepared_for, IsPreparedAt, prepared_at, works_listed, flags_listed, tested_intentions, records_counted}
use Rattle.jn_recovery.proofs.HeadsNeeded.{heads_are}
use Rattle.jn_recovery.proofs.Telling.{prepared_of, works_by, stored_pages}
use Rattle.jn_recovery.proofs.Totals.{one, total_same, total_ones, total_plus, count_total}
use Rattle.jn_recovery.proofs.Bridge.{same_there}
use Rattle.std.specs.Prelude.{◌+◌, ◌-◌}
use Rattle.jn_recovery.proofs.Cells.{one_layout}

-- ---- two listings of the same keys

module _ {K : Type 0} (eq : K → K → Bool) (tells : Tells eq) where
  same_total : (f : K → ℕ) (xs ys : List K) → are_different eq xs ≡ true → are_different eq ys ≡ true → ((k : K) → is_in eq k xs ≡ is_in eq k ys) → total f xs ≡ total f ys
  same_total f [] [] one two same = refl
  same_total f [] (y ∷ ys) one two same = absurd (true≢false (sym here ∙ sym (same y)))
    where
      here : (eq y y || is_in eq y ys) ≡ true
      here = ⊎_elim (λ h. ap (λ b. b || is_in eq y ys) h.0) (λ h. absurd (h.1 refl)) (tells y y)
  same_total f (x ∷ xs) ys one two same =
      let here : is_in eq x ys ≡ true = sym (same x) ∙ own in
      let rest = same_total f xs (but eq x ys) (grind (arith, one)) (different-but eq tells x ys two) (λ k. less k) in
      let all = total-but eq tells f x ys two here in omega (arith, rest, all)
    where
      own : (eq x x || is_in eq x xs) ≡ true
      own = ⊎_elim (λ h. ap (λ b. b || is_in eq x xs) h.0) (λ h. absurd (h.1 refl)) (tells x x)

      not_later : (k : K) → x ≡ k → is_in eq k xs ≡ false
      not_later k e = subst (λ j. is_in eq j xs ≡ false) e (grind (arith, one))

      less : (k : K) → is_in eq k xs ≡ is_in eq k (but eq x ys)
      less k =
          let fewer = is_in-but eq tells x k ys in
          let both = same k in
          ⊎_elim (λ h. let none = not_later k h.1 in grind (arith, fewer, none, h.0)) (λ h. grind (arith, fewer, both, h.0)) (tells x k)

  same_length : (xs ys : List K) → are_different eq xs ≡ true → are_different eq ys ≡ true → ((k : K) → is_in eq k xs ≡ is_in eq k ys) → length xs ≡ length ys
  same_length xs ys one two same = sym (total_ones xs) ∙ same_total (λ k. 1) xs ys one two same ∙ total_ones ys

list_short : (pool : List Record) (w : WorkId) (order n : ℕ) → length (intentions_from pool w order n) ≤ n
list_short pool w order zero = omega arith
list_short pool w order (suc n) = by (intention_of pool w order) (list_short pool w (suc order) n)
  where
    by : (o : Option StoredIntention) → length (intentions_from pool w (suc order) n) ≤ n → length (with_first o (intentions_from pool w (suc order) n)) ≤ suc n
    by None h = omega (arith, h)
    by (Some s) h = omega (arith, h)

-- ---- the addresses that intentions name

module _ (g : Counts) (c : Contents) (consistent : IsConsistent g c) (none_left : rubbish_in c.pool c.pool ≡ []) where
  intends : (j : ℕ) (w : WorkId) (u : Tid) (k : ℕ) (s : StoredIntention) → record_in c.pool j ≡ Intention w u k s → Intends c.pool j s
  intends j w u k s e = record { work = w; tid = u; order = k; stands = e; prepared = prepared_for g c consistent none_left j w u k s e }

  names_at : (j a : ℕ) → record_names a (record_in c.pool j) ≡ true → (s : StoredIntention) × (p : ℕ) × Intends c.pool j s × Gives s a p
  names_at j a t = by (record_in c.pool j) refl t
    where
      gives : (s : StoredIntention) → names_address (suc a) s ≡ true → (p : ℕ) × Gives s a p
      gives s h = which (nat_eq s.address (suc a)) refl h
        where
          equal : (x : ℕ) → nat_eq x (suc a) ≡ true → x ≡ suc a
          equal x h = grind (arith, nat_tests, h)

          which : (b : Bool) → nat_eq s.address (suc a) ≡ b → (b || nat_eq s.map (suc a)) ≡ true → (p : ℕ) × Gives s a p
          which true e h = (s.block.0, inl (equal s.address e, refl))
          which false e h = (map_cell (s.block.0 / head_blocks - 1), inr (equal s.map h, refl))

      by : (r : Record) → record_in c.pool j ≡ r → record_names a r ≡ true → (s : StoredIntention) × (p : ℕ) × Intends c.pool j s × Gives s a p
      by Free e h = absurd (true≢false (sym h))
      by (Intention w u k s) e h = let its = gives s h in (s, its.0, intends j w u k s e, its.1)
      by (Ready head n reads) e h = absurd (true≢false (sym h))
      by (Going head n reads) e h = absurd (true≢false (sym h))
      by (FlagRecord f) e h = absurd (true≢false (sym h))

  pub pages_fit : (j a : ℕ) → record_names a (record_in c.pool j) ≡ true → a < g.leaves
  pages_fit j a t = let at = names_at j a t in consistent.addresses.works_fit a j at.1 at.0 at.2 at.3

  pub pages_once : (a : ℕ) → PassesOnce (λ i. record_names a (record_in c.pool i))
  pages_once a i j x y = let p = names_at i a x in let q = names_at j a y in (consistent.addresses.works a i j p.1 q.1 p.0 q.0 p.2 q.2 p.3 q.3).0

  -- ---- what the works need

  needs_at : (j : ℕ) (w : WorkId) (at : IsPreparedAt g c consistent none_left j w) → heads_of (list_of (state_in c) w) (file_there (state_in c).files) ≡ heads_needed c.heads at.state.list
  needs_at j w at =
      ap (count_by (λ (i : FullIntention). needs_a_head (file_there (files_in (layouts_in c) c.blocks) i.file) i)) at.list
      ∙ heads_are c.blocks c.heads (file_there (files_in (layouts_in c) c.blocks)) (same_there (entry_of c.blocks) c.heads) (stored_list c.pool w at.count) ∙ ap (heads_needed c.heads) (sym at.listed)

  needs_are : total (λ w. heads_of (list_of (state_in c) w) (file_there (state_in c).files)) (collected named c.pool) ≡ all_needed c.heads (works_on c.pool)
  needs_are =
      keys_total named (λ w. heads_of (list_of (state_in c) w) (file_there (state_in c).files)) c.pool
      ∙ total_same Free (λ r. on_key (λ w. heads_of (list_of (state_in c) w) (file_there (state_in c).files)) (named r)) (λ r. on_key (λ (s : WorkState). heads_needed c.heads s.list) (state_on c.pool r)) c.pool (λ j. by j (record_in c.pool j) refl)
      ∙ sym (keys_total (state_on c.pool) (λ (s : WorkState). heads_needed c.heads s.list) c.pool)
    where
      prepared : (j : ℕ) (w : WorkId) → named (record_in c.pool j) ≡ Some w → heads_of (list_of (state_in c) w) (file_there (state_in c).files) ≡ on_key (λ (s : WorkState). heads_needed c.heads s.list) (state_on c.pool (record_in c.pool j))
      prepared j w e = let at = prepared_at g c consistent none_left j w e in needs_at j w at ∙ sym (ap (on_key (λ (s : WorkState). heads_needed c.heads s.list)) at.state_is)

      by : (j : ℕ) (r : Record) → record_in c.pool j ≡ r → on_key (λ w. heads_of (list_of (state_in c) w) (file_there (state_in c).files)) (named r) ≡ on_key (λ (s : WorkState). heads_needed c.heads s.list) (state_on c.pool r)
      by j Free e = refl
      by j (Intention v u k i) e = refl
      by j (Ready head n reads) e = prepared j head.work (ap named e) ∙ ap (λ r. on_key (λ (s : WorkState). heads_needed c.heads s.list) (state_on c.pool r)) e
      by j (Going head n reads) e = prepared j head.work (ap named e) ∙ ap (λ r. on_key (λ (s : WorkState). heads_needed c.heads s.list) (state_on c.pool r)) e
      by j (FlagRecord f) e = refl

  -- ---- each list is short

  pub lists_few : ((slot : ℕ) → slot < length c.pool → RecordFits (record_in c.pool slot)) → All IsFew (works_on c.pool)
  lists_few fits = all c.pool (λ j s e. few j s (cases_lt j (length c.pool)) e)
    where
      all : (rs : List Record) → ((j : ℕ) (s : WorkState) → state_on c.pool (record_in rs j) ≡ Some s → IsFew s) → All IsFew (collected (state_on c.pool) rs)
      all [] each = All-nil IsFew
      all (r ∷ rs) each = by (state_on c.pool r) refl (all rs (λ j s e. each (suc j) s e))
        where
          by : (o : Option WorkState) → state_on c.pool r ≡ o → All IsFew (collected (state_on c.pool) rs) → All IsFew (with_first o (collected (state_on c.pool) rs))
          by None e rest = rest
          by (Some s) e rest = All-cons IsFew s (collected (state_on c.pool) rs) (each 0 s e) rest

      some_is : {A : Type 0} {a b : A} → Some a ≡ Some b → a ≡ b
      some_is e = cc e

      small : (w : WorkId) (n : ℕ) → n < 2 ^ 8 → length (stored_list c.pool w n) < 2 ^ 32
      small w n lt = let le = list_short c.pool w 0 n in omega (arith, le, lt)

      few : (j : ℕ) (s : WorkState) → (j < length c.pool) ⊎ (length c.pool ≤ j) → state_on c.pool (record_in c.pool j) ≡ Some s → IsFew s
      few j s (inl lt) e = by (record_in c.pool j) (fits j lt) e
        where
          by : (r : Record) → RecordFits r → state_on c.pool r ≡ Some s → IsFew s
          by Free fits e = absurd (cc e)
          by (Intention v u k i) fits e = absurd (cc e)
          by (Ready head n reads) fits e = subst IsFew (some_is e) (small head.work n fits.intentions_fit)
          by (Going head n reads) fits e = subst IsFew (some_is e) (small head.work n fits.intentions_fit)
          by (FlagRecord f) fits e = absurd (cc e)
      few j s (inr past) e = absurd (cc (sym (ap (state_on c.pool) (get_or_past c.pool j Free past)) ∙ e))

  -- ---- each intention is at a block that a file may have

  module _ (server : ServerNo) (most : ℕ) (loadable : IsLoadable server most (state_in c)) where
    listed_place : (w : WorkId) (order n k : ℕ) → ((j : ℕ) → order ≤ j → j < order + n → is_some (intention_of c.pool w j) ≡ true) → k < n → slice_get (intentions_from c.pool w order n) k ≡ intention_of c.pool w (order + k)
    listed_place w order zero k all lt = absurd (omega (arith, lt))
    listed_place w order (suc n) k all lt = by (intention_of c.pool w order) refl (all order (omega arith) (omega arith)) (λ m below. listed_place w (suc order) n m (λ j low high. all j (omega (arith, low)) (omega (arith, high))) below)
      where
        at : (m : ℕ) → m < suc n → (s : StoredIntention) → intention_of c.pool w order ≡ Some s → ((m : ℕ) → m < n → slice_get (intentions_from c.pool w (suc order) n) m ≡ intention_of c.pool w (suc order + m))
            → slice_get (s ∷ intentions_from c.pool w (suc order) n) m ≡ intention_of c.pool w (order + m)
        at zero lt s e again = sym e ∙ ap (intention_of c.pool w) (let h : order ≡ order + 0 = omega arith in h)
        at (suc m) lt s e again = again m (omega (arith, lt)) ∙ ap (intention_of c.pool w) (let h : suc order + m ≡ order + suc m = omega arith in h)

        by : (o : Option StoredIntention) → intention_of c.pool w order ≡ o → is_some o ≡ true → ((m : ℕ) → m < n → slice_get (intentions_from c.pool w (suc order) n) m ≡ intention_of c.pool w (suc order + m))
            → slice_get (with_first o (intentions_from c.pool w (suc order) n)) k ≡ intention_of c.pool w (order + k)
        by None e some again = absurd (true≢false (sym some))
        by (Some s) e some again = at k lt s e again

    in_range_at : (list : List StoredIntention) (k : ℕ) (s : StoredIntention) → list_all (λ (i : FullIntention). nat_lt i.block.0 most_blocks) (map (intended c.blocks) list) ≡ true → slice_get list k ≡ Some s → s.block.0 < most_blocks
    in_range_at [] zero s all e = absurd (cc e)
    in_range_at [] (suc k) s all e = absurd (cc e)
    in_range_at (i ∷ list) zero s all e = subst (λ (z : StoredIntention). z.block.0 < most_blocks) (some_is e) (below i.block.0 (first (nat_lt i.block.0 most_blocks) (list_all (λ (i : FullIntention). nat_lt i.block.0 most_blocks) (map (intended c.blocks) list)) all))
      where
        some_is : {A : Type 0} {a b : A} → Some a ≡ Some b → a ≡ b
        some_is e = cc e

        first : (a b : Bool) → (a && b) ≡ true → a ≡ true
        first a b h = grind (arith, h)

        below : (a : ℕ) → nat_lt a most_blocks ≡ true → a < most_blocks
        below a h = grind (arith, nat_tests, h)
    in_range_at (i ∷ list) (suc k) s all e = in_range_at list k s (rest (nat_lt i.block.0 most_blocks) (list_all (λ (i : FullIntention). nat_lt i.block.0 most_blocks) (map (intended c.blocks) list)) all) e
      where
        rest : (a b : Bool) → (a && b) ≡ true → b ≡ true
        rest a b h = grind (arith, h)

    list_in_range : (w : WorkId) → list_all (λ (i : FullIntention). nat_lt i.block.0 most_blocks) (list_of (state_in c) w) ≡ true
    list_in_range w = by ((state_in c).works w) refl
      where
        by : (o : Option Prepared) → (state_in c).works w ≡ o → list_all (λ (i : FullIntention). nat_lt i.block.0 most_blocks) (intentions_of o) ≡ true
        by None e = refl
        by (Some p) e = (loadable.orderly.prepared w p e).in_range

    block_range : (j : ℕ) (w : WorkId) (u : Tid) (k : ℕ) (s : StoredIntention) → record_in c.pool j ≡ Intention w u k s → s.block.0 < most_blocks
    block_range j w u k s e =
        let place = passes_at (is_prepared w) Free c.pool (prepared_for g c consistent none_left j w u k s e) in
        let at = prepared_at g c consistent none_left place.0 w (name_is (record_in c.pool place.0) place.1) in
        let lt = at.has.no_more k j here in
        let found : intention_of c.pool w k ≡ Some s = ap (option_and_then stored_in) (found_once (is_intention w k) Free c.pool j refl (λ i t. at.has.once k i j t here) ∙ ap (λ (b : Bool). if b then Some (record_in c.pool j) else None) here ∙ ap (λ (r : Record). Some r) e) in
        let listed = listed_place w 0 at.count k (λ j low high. at.has.all j (omega (arith, high))) lt ∙ ap (intention_of c.pool w) (let h : 0 + k ≡ k = omega arith in h) ∙ found in
        in_range_at (stored_list c.pool w at.count) k s (ap (list_all (λ (i : FullIntention). nat_lt i.block.0 most_blocks)) (sym at.list) ∙ list_in_range w) listed
      where
        own : (a b : Bool) → a ≡ true → b ≡ true → (a && b) ≡ true
        own a b x y = grind (arith, x, y)

        here : is_intention w k (record_in c.pool j) ≡ true
        here = ap (is_intention w k) e ∙ own (work_eq w w) (nat_eq k k) (⊎_elim (λ h. h.0) (λ h. absurd (h.1 refl)) (work_tells w w)) (grind (arith, nat_tests))

        same : (v : WorkId) → work_eq v w ≡ true → v ≡ w
        same v h = ⊎_elim (λ t. t.1) (λ t. absurd (true≢false (sym h ∙ t.0))) (work_tells v w)

        name_is : (r : Record) → is_prepared w r ≡ true → named r ≡ Some w
        name_is Free h = absurd (true≢false (sym h))
        name_is (Intention v u k i) h = absurd (true≢false (sym h))
        name_is (Ready head n reads) h = ap (λ (v : WorkId). Some v) (same head.work h)
        name_is (Going head n reads) h = ap (λ (v : WorkId). Some v) (same head.work h)
        name_is (FlagRecord f) h = absurd (true≢false (sym h))

    -- so no intention names a data page for its block and as a map page
    pub pages_apart : (j : ℕ) → IsApart (record_in c.pool j)
    pages_apart j = by (record_in c.pool j) refl
      where
        by : (r : Record) → record_in c.pool j ≡ r → IsApart r
        by Free e = tt
        by (Intention w u k s) e = λ a x y.
            let i = intends j w u k s e in
            let same = (consistent.addresses.works a j j s.block.0 (map_cell (s.block.0 / head_blocks - 1)) s s i i (inl (x, refl)) (inr (y, refl))).1 in
            let lt = block_range j w u k s e in
            far s.block.0 (s.block.0 / 120 - 1) same lt
          where
            far : (b m : ℕ) → b ≡ 2520 + m → b < 2520 → ⊥
            far b m e lt = omega (arith, e, lt)
        by (Ready head n reads) e = tt
        by (Going head n reads) e = tt
        by (FlagRecord f) e = tt

-- ---- what the works of a pool name

-- each put of a work has its map page
pub works_supplied : (heads : List Head) (pool : List Record) → ((j : ℕ) → IsSuppliedIn heads pool (record_in pool j)) → HaveMaps (maps_in heads) (works_on pool)
works_supplied heads pool each w = all pool each
  where
    all : (rs : List Record) → ((j : ℕ) → IsSuppliedIn heads pool (record_in rs j)) → HasMaps (maps_in heads) (find_by work_eq name_of (collected (state_on pool) rs) w)
    all [] each = tt
    all (r ∷ rs) each = by r (each 0) (all rs (λ j. each (suc j)))
      where
        pick : (b : Bool) (s : WorkState) → HasMaps (maps_in heads) (Some s) → HasMaps (maps_in heads) (find_by work_eq name_of (collected (state_on pool) rs) w) → HasMaps (maps_in heads) (if b then Some s else find_by work_eq name_of (collected (state_on pool) rs) w)
        pick true s h again = h
        pick false s h again = again

        by : (q : Record) → IsSuppliedIn heads pool q → HasMaps (maps_in heads) (find_by work_eq name_of (collected (state_on pool) rs) w) → HasMaps (maps_in heads) (find_by work_eq name_of (with_first (state_on pool q) (collected (state_on pool) rs)) w)
        by Free h again = again
        by (Intention v u k i) h again = again
        by (Ready head n reads) h again = pick (work_eq head.work w) (record { head = head; list = stored_list pool head.work n; reads = reads; going = false; next = 0 }) h again
        by (Going head n reads) h again = pick (work_eq head.work w) (record { head = head; list = stored_list pool head.work n; reads = reads; going = true; next = 0 }) h again
        by (FlagRecord f) h again = again

-- ---- with the table

module _ (server : ServerNo) (g : Counts) (epoch : ℕ) (pool : List Record) (t : TableView) (blocks : ℕ → List ℕ) (table : IsTable t) (counts : t.counts ≡ g)
    (consistent : IsConsistent g (record { epoch = epoch; pool = pool; heads = t.heads; blocks = blocks })) (loadable : IsLoadable server g.heads (state_in (record { epoch = epoch; pool = pool; heads = t.heads; blocks = blocks })))
    (layouts : layouts_in (record { epoch = epoch; pool = pool; heads = t.heads; blocks = blocks }) ≡ table_layouts t) (none_left : rubbish_in pool pool ≡ []) where
  abbrev c : Contents
  c = record { epoch = epoch; pool = pool; heads = t.heads; blocks = blocks }

  -- a recovery was promised that the heads are enough
  pub heads_fit : all_needed t.heads (works_on pool) ≤ free_count t.free_heads
  heads_fit =
      let may = loadable in
      let here = works_listed g c consistent none_left in
      let files = files_listed t table (entry_of blocks) blocks in
      let needs = needs_are g c consistent none_left in
      let totals = same_total work_eq work_tells (λ w. heads_of (list_of (state_in c) w) (file_there (state_in c).files)) (collected named pool) may.works here.different may.works_all.different (λ w. here.all w ∙ sym (may.works_all.all w)) in
      let lengths = same_length file_eq file_tells (collected file_of_head t.heads) may.files files.different may.files_all.different (λ f. files.all f ∙ sym (may.files_all.all f)) in
      let all = heads_counted t table (entry_of blocks) blocks in
      let size = ap (λ (k : Counts). k.heads) counts in
      let fits = may.fits in
      omega (arith, needs, totals, lengths, all, size, fits)

  -- of a work's intentions, those that hold the page of their block, and those that hold a map page
  abbrev blocks_held : WorkId → ℕ
  blocks_held w = count_by (λ r. intends_for w r && on_intention (holds_block (table_layouts t)) r) pool

  abbrev maps_held : WorkId → ℕ
  maps_held w = count_by (λ r. intends_for w r && on_intention (holds_map (table_layouts t)) r) pool

  held_list : (list : List StoredIntention) → total (held_of (table_layouts t)) list ≡ count_by (holds_block (table_layouts t)) list + count_by (holds_map (table_layouts t)) list
  held_list list =
      let both = total_plus (λ i. one (holds_block (table_layouts t) i)) (λ i. one (holds_map (table_layouts t) i)) (held_of (table_layouts t)) (λ i. refl) list in
      let a = count_total (holds_block (table_layouts t)) list in let b = count_total (holds_map (table_layouts t)) list in omega (arith, both, a, b)

  held_at : (j : ℕ) (w : WorkId) (at : IsPreparedAt g c consistent none_left j w) → held_in (works_on pool) (table_layouts t) w ≡ blocks_held w + maps_held w
  held_at j w at =
      let first = ap (λ o. total (held_of (table_layouts t)) (stored_by o)) at.found ∙ ap (total (held_of (table_layouts t))) at.listed ∙ held_list (stored_list pool w at.count) in
      let a = counts_listed pool w (holds_block (table_layouts t)) at.count at.has in let b = counts_listed pool w (holds_map (table_layouts t)) at.count at.has in
      omega (arith, first, a, b)

  all_held : total (held_in (works_on pool) (table_layouts t)) (collected named pool) ≡ total (λ r. one (on_intention (holds_block (table_layouts t)) r) + one (on_intention (holds_map (table_layouts t)) r)) pool
  all_held =
      let each = keys_same named Free (held_in (works_on pool) (table_layouts t)) (λ w. blocks_held w + maps_held w) pool (λ j w e. held_at j w (prepared_at g c consistent none_left j w e)) in
      let both = total_plus blocks_held maps_held (λ w. blocks_held w + maps_held w) (λ w. refl) (collected named pool) in
      let a = tested_intentions g c consistent none_left (holds_block (table_layouts t)) in let b = tested_intentions g c consistent none_left (holds_map (table_layouts t)) in
      let sum = total_plus (λ r. one (on_intention (holds_block (table_layouts t)) r)) (λ r. one (on_intention (holds_map (table_layouts t)) r)) (λ r. one (on_intention (holds_block (table_layouts t)) r) + one (on_intention (holds_map (table_layouts t)) r)) (λ r. refl) pool in
      omega (arith, each, both, a, b, sum)

  -- everything is counted, where the pages that intentions name are held, and what the works need is promised
  pub counted : (size : length pool ≡ g.pool) → ((a : ℕ) → is_held t a ≡ list_any (record_names a) pool) → t.free_heads.promised ≡ all_needed t.heads (works_on pool)
      → (m : Memory) → m.records ≡ pool → m.table ≡ t → m.works ≡ works_on pool → IsCounted (state_in (record { epoch = epoch; pool = pool; heads = t.heads; blocks = blocks })) (accounts_of m)
  counted size held promised m records tables works = subst (IsCounted (state_in c)) (sym (accounts_are m records tables works)) (record {
    works = collected named pool;
    flags = collected flagged pool;
    files = collected file_of_head t.heads;
    blocks = all_units (table_layouts t);
    maps = all_maps (table_layouts t);
    works_all = works_listed g c consistent none_left;
    flags_all = flags_listed g c consistent none_left;
    files_all = files_listed t table (entry_of blocks) blocks;
    blocks_all = subst (λ ls. IsListing unit_eq (is_stored (files_in ls blocks)) (all_units (table_layouts t))) (sym layouts) (blocks_listed (table_layouts t) blocks (one_layout t.counts.leaves t.maps t.heads table.heads));
    maps_all = maps_listed t table;
    records = let all = records_counted g c consistent none_left in let none = ap (λ (l : List WorkId). length l) none_left in let e = ap (λ (k : Counts). k.pool) counts in omega (arith, all, none, e, size);
    heads_used = heads_counted t table (entry_of blocks) blocks;
    pages =
        let all = pages_counted t table pool (λ i a h. subst (λ n. a < n) (sym (ap (λ (k : Counts). k.leaves) counts)) (pages_fit g c consistent none_left i a h)) (pages_apart g c consistent none_left server g.heads loadable) (pages_once g c consistent none_left) held in
        let holds = all_held in
        omega (arith, all, holds);
    promises = promised ∙ sym (needs_are g c consistent none_left);
  })
    where
      accounts_are : (m : Memory) → m.records ≡ pool → m.table ≡ t → m.works ≡ works_on pool → accounts_of m ≡ accounts_of (record { server = m.server; epoch = m.epoch; records = pool; table = t; works = works_on pool; flags = m.flags; promised = m.promised })
      accounts_are m records tables works =
          ap (λ r. accounts_of (record m { records = r })) records ∙ ap (λ k. accounts_of (record m { records = pool; table = k })) tables ∙ ap (λ l. accounts_of (record m { records = pool; table = t; works = l })) works

  -- ---- a work's list and what it holds

  list_is : (w : WorkId) → list_of (state_in c) w ≡ intentions_of (option_map (prepared_of blocks) (option_map stored_work (find_by work_eq name_of (works_on pool) w)))
  list_is w = ap intentions_of (works_by pool blocks w (find (is_prepared w) pool) ∙ ap (option_map (prepared_of blocks)) (sym ((works_match pool consistent.distinct.works).each w)))

  pub none_next : (w : WorkId) → next_in (works_on pool) w ≡ 0
  none_next w = all pool
    where
      all : (rs : List Record) → next_by (find_by work_eq name_of (collected (state_on pool) rs) w) ≡ 0
      all [] = refl
      all (r ∷ rs) = by r (all rs)
        where
          pick : (b : Bool) (s : WorkState) → s.next ≡ 0 → next_by (find_by work_eq name_of (collected (state_on pool) rs) w) ≡ 0 → next_by (if b then Some s else find_by work_eq name_of (collected (state_on pool) rs) w) ≡ 0
          pick true s e again = e
          pick false s e again = again

          by : (r : Record) → next_by (find_by work_eq name_of (collected (state_on pool) rs) w) ≡ 0 → next_by (find_by work_eq name_of (with_first (state_on pool r) (collected (state_on pool) rs)) w) ≡ 0
          by Free again = again
          by (Intention v u k i) again = again
          by (Ready head n reads) again = pick (work_eq head.work w) (record { head = head; list = stored_list pool head.work n; reads = reads; going = false; next = 0 }) refl again
          by (Going head n reads) again = pick (work_eq head.work w) (record { head = head; list = stored_list pool head.work n; reads = reads; going = true; next = 0 }) refl again
          by (FlagRecord f) again = again

  -- only a put names a page, and one past the head's blocks a map page
  holds_pages : (list : List StoredIntention) → list_all intention_has_page list ≡ true → total (held_of (table_layouts t)) list ≤ most_pages (map (intended blocks) list)
  holds_pages [] h = omega arith
  holds_pages (i ∷ list) h =
      let a = sum_by-cons (λ (i : FullIntention). if is_put_intention i then 1 else 0) (intended blocks i) (map (intended blocks) list) in
      let b = sum_by-cons (λ (i : FullIntention). if is_past_head i then 1 else 0) (intended blocks i) (map (intended blocks) list) in
      let again = holds_pages list (second (intention_has_page i) (list_all intention_has_page list) h) in
      let here = one_holds i.what i.block.0 i.address i.map (first (intention_has_page i) (list_all intention_has_page list) h) in omega (arith, a, b, again, here)
    where
      first : (a b : Bool) → (a && b) ≡ true → a ≡ true
      first true b h = refl
      first false b h = absurd (true≢false (sym h))

      second : (a b : Bool) → (a && b) ≡ true → b ≡ true
      second true b h = h
      second false b h = absurd (true≢false (sym h))

      least : (b : Bool) → one b ≤ 1
      least true = omega arith
      least false = omega arith

      none : (x : ℕ) (b : Bool) → x ≡ 0 → one (nat_lt 0 x && b) ≡ 0
      none x b e = ap (λ (y : ℕ). one (nat_lt 0 y && b)) e

      zeros : (x y : ℕ) → (nat_eq x 0 && nat_eq y 0) ≡ true → (x ≡ 0) × (y ≡ 0)
      zeros x y h = (grind (arith, nat_tests, h), grind (arith, nat_tests, h))

      free : ℕ → Bool
      free x = not (heads_name most_cells (table_layouts t) x)

      neither : (x y : ℕ) → (x ≡ 0) × (y ≡ 0) → one (nat_lt 0 x && free x) + one (nat_lt 0 y && free y) ≤ 0
      neither x y h = let a = none x (free x) h.0 in let b = none y (free y) h.1 in omega (arith, a, b)

      past : (y p : ℕ) → (nat_eq y 0 || nat_le head_blocks p) ≡ true → one (nat_lt 0 y && free y) ≤ one (nat_le head_blocks p)
      past y p h = by (nat_le head_blocks p) refl
        where
          by : (b : Bool) → nat_le head_blocks p ≡ b → one (nat_lt 0 y && free y) ≤ one b
          by true e = least (nat_lt 0 y && free y)
          by false e = let z : y ≡ 0 = grind (arith, nat_tests, h, e) in let a = none y (free y) z in omega (arith, a)

      one_holds : (w : What) (p x y : ℕ) → names_what_it_needs w p x y ≡ true → one (nat_lt 0 x && free x) + one (nat_lt 0 y && free y) ≤ one (is_put w) + one (is_put w && nat_le head_blocks p)
      one_holds Put p x y h = let a = least (nat_lt 0 x && free x) in let b = past y p (second (not (nat_eq x 0)) (nat_eq y 0 || nat_le head_blocks p) h) in omega (arith, a, b)
      one_holds Fresh p x y h = let a = neither x y (let e : (nat_eq x 0 && nat_eq y 0) ≡ true = grind (arith, h) in zeros x y e) in omega (arith, a)
      one_holds Gone p x y h = let a = neither x y (let e : (nat_eq x 0 && nat_eq y 0) ≡ true = grind (arith, h) in zeros x y e) in omega (arith, a)
      one_holds Cut p x y h = let a = neither x y (zeros x y h) in omega (arith, a)

  pub holds_fit : ((slot : ℕ) → slot < length pool → has_page (record_in pool slot) ≡ true) → (w : WorkId) → held_in (works_on pool) (table_layouts t) w ≤ most_pages (list_of (state_in (record { epoch = epoch; pool = pool; heads = t.heads; blocks = blocks })) w)
  holds_fit pages w = subst (λ l. held_in (works_on pool) (table_layouts t) w ≤ most_pages l) (sym (list_is w)) (by (find_by work_eq name_of (works_on pool) w) refl)
    where
      by : (o : Option WorkState) → find_by work_eq name_of (works_on pool) w ≡ o → total (held_of (table_layouts t)) (stored_by o) ≤ most_pages (intentions_of (option_map (prepared_of blocks) (option_map stored_work o)))
      by None e = omega arith
      by (Some s) e = holds_pages s.list (stored_pages pool w pages (find (is_prepared w) pool) (stored_work s) (sym ((works_match pool consistent.distinct.works).each w) ∙ ap (option_map stored_work) e))
