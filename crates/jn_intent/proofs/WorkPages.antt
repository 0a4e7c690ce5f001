-- How many data pages are held for the intentions of works, and named by no head and no map page.
use Rattle.jn_intent.proofs.Common.{◌≡◌, ◌≢◌, ◌⊎◌, inl, inr, ⊎_elim, ◌<◌, ◌≤◌, ◌+◌, ◌^◌, ℕ, zero, suc, Bool, true, false, not, ◌&&◌, ◌||◌, if◌then◌else◌, List, [], ◌∷◌, length, map, Option, Some, None, refl, sym, ◌∙◌, ap, subst, true≢false, arith, fun_ext, cases_eq, nat_tests, sum_by-cons, nat_lt, nat_le, nat_eq, is_some, count_by, slice_get, option_map, option_and_then, find, list_all, list_any, free_numbers, FileNo, LockUnit, Tid, WorkId, file_eq, work_eq, work_tells, unit_eq, heads_name, works_name, names_address, stored_in, with_first, intentions_from, stored_list, intended, held_contents, block_on, pages_by, IsConsistent, IsCompleteBy, HasIntentions, PassesOnce, found_any, found_passes, StoredIntention, FullIntention, Record, Free, Intention, Ready, Going, FlagRecord, WorkState, RecordFits, StableState, record_in, is_prepared, is_intention, state, name_of, find_by, file_there, is_stored, is_in, are_different, IsListing, total, Tells, but, is_in-but, total-but, total-same, StoreView, Memory, view_of, stored_by, holds_page, held_of, held_in, is_at, ArePagesApart, Matches, stored_work, work_by, one, found_at, counts_plus, none_any, finds, consistent, prepared_of, works_by, Files, Layout, layouts_in, kept_entry, is_layout_of, layout_at, maps_in, most_blocks, most_cells, map_eq, has_map, state_in, layouts_said, layouts_held, file_of_head, files_listed, heads_counted, all_units, blocks_listed, all_maps, maps_listed, named_counted}
use Rattle.jn_records.specs.Layouts.{files_in}
use Rattle.jn_recovery.specs.Gathering.{collected}
use Rattle.jn_intent.proofs.Census.{pages_counted, below_counts}
use Rattle.jn_intent.proofs.HeadPuts.{own_layout}
use Rattle.jn_intent.proofs.ListPages.{pages_of, leads, held_pages, any_page}
use Rattle.jn_intent.proofs.Listed.{IsListed, WorksRanged, listed_at, listed_back, all_listed, listed_named, pages_apart}
use Rattle.jn_intent.proofs.Naming.{AreApart, apart_of, found_intention, given_cell}
use Rattle.jn_intent.proofs.Numbers.{how_many, same_members, total_plus, total_none}
use Rattle.jn_intent.proofs.WorkRecords.{work_record}

-- ---- an intention of a list stands in a record

module _ (pool : List Record) (work : WorkId) where
  abbrev Stands : StoredIntention → Type 0
  Stands i = (slot : ℕ) × (u : Tid) × (k : ℕ) × (record_in pool slot ≡ Intention work u k i) × (slot < length pool)

  pub stands_listed : (order n j : ℕ) (i : StoredIntention) → slice_get (intentions_from pool work order n) j ≡ Some i → (slot : ℕ) × (u : Tid) × (k : ℕ) × (record_in pool slot ≡ Intention work u k i) × (slot < length pool)
  stands_listed order zero j i e = absurd (none j e)
    where
      none : (j : ℕ) → slice_get [] j ≡ Some i → ⊥
      none zero e = cc e
      none (suc j) e = cc e
  stands_listed order (suc n) j i e = by (find (is_intention work order) pool) refl (stands_listed (suc order) n) j e
    where
      own : (v : WorkId) (u : Tid) (k : ℕ) (s : StoredIntention) → find (is_intention work order) pool ≡ Some (Intention v u k s) → Stands s
      own v u k s found =
          let at = found_at Free (is_intention work order) pool (Intention v u k s) found in
          (at.0, u, k, at.2 ∙ ap (λ w. Intention w u k s) (same (ap (is_intention work order) (sym at.2) ∙ at.3)), at.1)
        where
          same : (work_eq v work && nat_eq k order) ≡ true → v ≡ work
          same h = let t = work_tells v work in grind (arith, h)

      some_is : {A : Type 0} {a b : A} → Some a ≡ Some b → a ≡ b
      some_is e = cc e

      by : (o : Option Record) → find (is_intention work order) pool ≡ o → ((j : ℕ) (i : StoredIntention) → slice_get (intentions_from pool work (suc order) n) j ≡ Some i → Stands i)
          → (j : ℕ) → slice_get (with_first (option_and_then stored_in o) (intentions_from pool work (suc order) n)) j ≡ Some i → Stands i
      by None found rest j e = rest j i e
      by (Some Free) found rest j e = rest j i e
      by (Some (Ready head m reads)) found rest j e = rest j i e
      by (Some (Going head m reads)) found rest j e = rest j i e
      by (Some (FlagRecord f)) found rest j e = rest j i e
      by (Some (Intention v u k s)) found rest zero e = subst Stands (some_is e) (own v u k s found)
      by (Some (Intention v u k s)) found rest (suc j) e = rest j i e

-- ---- totals over what passes once

apart_count : (a : ℕ) (list : List StoredIntention) → ArePagesApart list → count_by (leads a) (pages_of list) ≡ one (list_any (is_at a) list)
apart_count a [] apart = refl
apart_count a (i ∷ list) apart = by (nat_eq i.address (suc a)) refl (nat_eq i.map (suc a)) refl (apart_count a list apart.2)
  where
    more : count_by (leads a) (pages_of (i ∷ list)) ≡ one (nat_eq i.address (suc a)) + (one (nat_eq i.map (suc a)) + count_by (leads a) (pages_of list))
    more =
        let x = sum_by-cons (λ (k : ℕ). if nat_eq k (suc a) then 1 else 0) i.address (i.map ∷ pages_of list) in
        let y = sum_by-cons (λ (k : ℕ). if nat_eq k (suc a) then 1 else 0) i.map (pages_of list) in omega (arith, x, y)

    equal : (x : ℕ) → nat_eq x (suc a) ≡ true → x ≡ suc a
    equal x e = grind (arith, nat_tests, e)

    either : (b c : Bool) → (b ≡ true) ⊎ (c ≡ true) → (b || c) ≡ true
    either true c h = refl
    either false c (inl h) = absurd (true≢false (sym h))
    either false c (inr h) = h

    by : (b : Bool) → nat_eq i.address (suc a) ≡ b → (c : Bool) → nat_eq i.map (suc a) ≡ c → count_by (leads a) (pages_of list) ≡ one (list_any (is_at a) list)
        → count_by (leads a) (pages_of (i ∷ list)) ≡ one ((b || c) || list_any (is_at a) list)
    by true e true f again = absurd (apart.0 a (equal i.address e) (equal i.map f))
    by true e false f again =
        let none = again ∙ ap one (apart.1 a (either (nat_eq i.address (suc a)) (nat_eq i.map (suc a)) (inl e))) in
        let x = ap one e in let y = ap one f in let m = more in omega (arith, m, none, x, y)
    by false e true f again =
        let none = again ∙ ap one (apart.1 a (either (nat_eq i.address (suc a)) (nat_eq i.map (suc a)) (inr f))) in
        let x = ap one e in let y = ap one f in let m = more in omega (arith, m, none, x, y)
    by false e false f again = let x = ap one e in let y = ap one f in let m = more in omega (arith, m, again, x, y)

module _ {K : Type 0} (eq : K → K → Bool) (tells : Tells eq) (p : K → Bool) (keys : List K) (differ : are_different eq keys ≡ true) where
  total_once : (once : (k l : K) → p k ≡ true → p l ≡ true → k ≡ l) → (b : Bool) → (b ≡ true → (k : K) × (p k ≡ true) × (is_in eq k keys ≡ true)) → ((k : K) → p k ≡ true → b ≡ true) → total (λ k. one (p k)) keys ≡ one b
  total_once once true some only =
      let it = some refl in
      let split = total-but eq tells (λ k. one (p k)) it.0 keys differ it.2 in
      let rest = total-same eq tells (λ k. one (p k)) (λ k. 0) (but eq it.0 keys) (λ k h. ap one (other it.0 k it.1 (sym (is_in-but eq tells it.0 k keys) ∙ h) (p k) refl)) in
      let none = total_none (λ (k : K). 0) (λ k. refl) (but eq it.0 keys) in
      let here = ap one it.1 in omega (arith, split, rest, none, here)
    where
      other : (k l : K) → p k ≡ true → (is_in eq l keys && not (eq k l)) ≡ true → (c : Bool) → p l ≡ c → c ≡ false
      other k l h out false e = refl
      other k l h out true e = absurd (clash (is_in eq l keys) (eq k l) (equal k l (once k l h e)) out)
        where
          clash : (x y : Bool) → y ≡ true → (x && not y) ≡ true → ⊥
          clash x y e h = grind (arith, e, h)

          equal : (k l : K) → k ≡ l → eq k l ≡ true
          equal k l e = let t = tells k l in grind (arith, e)
  total_once once false some only = total_none (λ k. one (p k)) (λ k. ap one (none k (p k) refl)) keys
    where
      none : (k : K) (c : Bool) → p k ≡ c → c ≡ false
      none k true e = sym (only k e)
      none k false e = refl

-- ---- the works of a storage

-- the blocks of the data pages by the first pick
abbrev pub first_blocks : Memory → StoreView → ℕ → List ℕ
first_blocks m v = block_on m.table.counts (pages_by v (λ n. false))

module _ (m : Memory) (v : StoreView) (now : Matches m v) where
  -- the layouts are those that memory keeps
  pub layouts_kept : layouts_said (held_contents m.table.counts v m.epoch m.records m.table.heads (λ n. false)) ≡ layouts_in m.table
  layouts_kept = layouts_held m.server m.table.counts v m.epoch m.records m.table.heads m.table.maps now.standing.held (λ n. false)

  pub said : IsConsistent m.table.counts (held_contents m.table.counts v m.epoch m.records m.table.heads (λ n. false))
  said = consistent m.server m.table.counts v m.epoch m.records m.table.heads m.table.maps now.standing

  pub pages_differ : AreApart m.table.counts.leaves (layouts_in m.table) m.records
  pages_differ = apart_of m.table.counts.leaves (held_contents m.table.counts v m.epoch m.records m.table.heads (λ n. false)) (layouts_in m.table) layouts_kept said.addresses

  pub state_found : state (view_of m v) ≡ state_in (held_contents m.table.counts v m.epoch m.records m.table.heads (λ n. false))
  state_found = finds m.server m.table.counts v m.epoch m.records m.table.heads m.table.maps now.standing (λ n. false)

  pub files_found : (state (view_of m v)).files ≡ files_in (layouts_in m.table) (first_blocks m v)
  files_found = ap (λ (x : StableState). x.files) state_found ∙ ap (λ l. files_in l (first_blocks m v)) layouts_kept

  -- what is seen of a work is what is kept of it
  pub work_told : (w : WorkId) → (state (view_of m v)).works w ≡ option_map (prepared_of (first_blocks m v)) (option_map stored_work (find_by work_eq name_of m.works w))
  work_told w = ap (λ (x : StableState). x.works w) state_found
      ∙ works_by m.records (first_blocks m v) w (find (is_prepared w) m.records) ∙ sym (ap (option_map (prepared_of (first_blocks m v))) (now.works.each w))

  pub record IsStored (w : WorkId) (list : List StoredIntention) : Type 0 where
    pub count : ℕ
    pub list_is : list ≡ stored_list m.records w count
    pub has : HasIntentions m.records w count
    pub prepared : list_any (is_prepared w) m.records ≡ true
    pub few : count < 2 ^ 8

  -- the list of a work is that of its records
  pub its_list : (w : WorkId) (s : WorkState) → find_by work_eq name_of m.works w ≡ Some s → IsStored w s.list
  its_list w s here = by (find (is_prepared w) m.records) refl (sym (now.works.each w) ∙ ap (option_map stored_work) here)
    where
      by : (o : Option Record) → find (is_prepared w) m.records ≡ o → option_and_then (work_by m.records w) o ≡ Some (stored_work s) → IsStored w s.list
      by None e is = absurd (cc is)
      by (Some r) e is =
          let at = found_at Free (is_prepared w) m.records r e in
          let it = work_record m.records w r (found_passes (is_prepared w) Free m.records r e) (subst (IsCompleteBy m.records) at.2 (said.complete at.0)) (subst RecordFits at.2 (now.standing.held.pool at.0 at.1).of_format.fits) in
          record { count = it.count; list_is = it.listed (stored_work s) is; has = it.has; prepared = found_any (is_prepared w) Free m.records r e; few = it.few }

  abbrev list_kept : WorkId → List StoredIntention
  list_kept w = stored_by (find_by work_eq name_of m.works w)

  kept_or_none : (w : WorkId) → (list_kept w ≡ []) ⊎ IsStored w (list_kept w)
  kept_or_none w = by (find_by work_eq name_of m.works w) refl
    where
      by : (o : Option WorkState) → find_by work_eq name_of m.works w ≡ o → (stored_by o ≡ []) ⊎ IsStored w (stored_by o)
      by None e = inl refl
      by (Some s) e = inr (its_list w s e)

  -- a work that is prepared is listed
  listed_work : (w : WorkId) → list_any (is_prepared w) m.records ≡ true → (s : WorkState) × (find_by work_eq name_of m.works w ≡ Some s)
  listed_work w prepared = by (find_by work_eq name_of m.works w) refl
    where
      by : (o : Option WorkState) → find_by work_eq name_of m.works w ≡ o → (s : WorkState) × (find_by work_eq name_of m.works w ≡ Some s)
      by (Some s) e = (s, e)
      by None e = absurd (none (find (is_prepared w) m.records) refl (sym (now.works.each w) ∙ ap (option_map stored_work) e))
        where
          none : (o : Option Record) → find (is_prepared w) m.records ≡ o → option_and_then (work_by m.records w) o ≡ None → ⊥
          none None f is = true≢false (sym prepared ∙ none_any (is_prepared w) m.records f)
          none (Some r) f is = gone r (found_passes (is_prepared w) Free m.records r f) is
            where
              gone : (r : Record) → is_prepared w r ≡ true → work_by m.records w r ≡ None → ⊥
              gone Free h is = true≢false (sym h)
              gone (Intention v u k i) h is = true≢false (sym h)
              gone (Ready head n reads) h is = cc is
              gone (Going head n reads) h is = cc is
              gone (FlagRecord f) h is = true≢false (sym h)

  own_place : (w : WorkId) (k : ℕ) → (work_eq w w && nat_eq k k) ≡ true
  own_place w k = let t = work_tells w w in grind (arith, nat_tests)

  -- each intention that stands is of a block that there is
  pub ranged : WorksRanged m.records
  ranged slot s it =
      let at = listed_work it.work it.prepared in
      let is = its_list it.work at.0 at.1 in
      let lt = is.has.no_more it.order slot (ap (is_intention it.work it.order) it.stands ∙ own_place it.work it.order) in
      let of = (now.standing.recoverable.each (λ n. false)).loadable.orderly.prepared it.work (prepared_of (first_blocks m v) (stored_work at.0))
      (work_told it.work ∙ ap (λ o. option_map (prepared_of (first_blocks m v)) (option_map stored_work o)) at.1) in
      below s.block.0 (all_listed (λ i. nat_lt i.block.0 most_blocks) m.records it.work slot it.tid it.order s it.stands (is.has.once it.order) 0 is.count (omega arith) (omega (arith, lt))
      (subst (λ l. list_all (λ (i : StoredIntention). nat_lt i.block.0 most_blocks) l ≡ true) is.list_is (bare_range at.0.list of.in_range)))
    where
      below : (n : ℕ) → nat_lt n most_blocks ≡ true → n < most_blocks
      below n h = grind (arith, nat_tests, h)

      bare_range : (list : List StoredIntention) → list_all (λ (i : FullIntention). nat_lt i.block.0 most_blocks) (map (intended (first_blocks m v)) list) ≡ true → list_all (λ (i : StoredIntention). nat_lt i.block.0 most_blocks) list ≡ true
      bare_range [] h = refl
      bare_range (i ∷ list) h = by (nat_lt i.block.0 most_blocks) (list_all (λ (i : FullIntention). nat_lt i.block.0 most_blocks) (map (intended (first_blocks m v)) list)) h (bare_range list)
        where
          by : (b c : Bool) → (b && c) ≡ true → (c ≡ true → list_all (λ (i : StoredIntention). nat_lt i.block.0 most_blocks) list ≡ true) → (b && list_all (λ (i : StoredIntention). nat_lt i.block.0 most_blocks) list) ≡ true
          by true c h again = again h
          by false c h again = absurd (true≢false (sym h))

  -- where it has a page
  its_page : (w : WorkId) (a : ℕ) → list_any (is_at a) (list_kept w) ≡ true → IsListed m.records w a 0 × (list_any (is_prepared w) m.records ≡ true)
  its_page w a h = ⊎_elim
      (λ none. absurd (true≢false (sym h ∙ ap (list_any (is_at a)) none)))
      (λ is. (listed_at m.records w a 0 is.count (ap (list_any (is_at a)) (sym is.list_is) ∙ h), is.prepared))
      (kept_or_none w)

  pub kept_apart : (w : WorkId) → ArePagesApart (list_kept w)
  kept_apart w = ⊎_elim
      (λ none. subst ArePagesApart (sym none) tt)
      (λ is. subst ArePagesApart (sym is.list_is) (pages_apart m.records pages_differ.works w is.prepared ranged 0 is.count))
      (kept_or_none w)

  one_work : (a : ℕ) (w u : WorkId) → list_any (is_at a) (list_kept w) ≡ true → list_any (is_at a) (list_kept u) ≡ true → w ≡ u
  one_work a w u h k =
      let l = its_page w a h in let o = its_page u a k in
      let p = given_cell l.0.intention a l.0.names in let q = given_cell o.0.intention a o.0.names in
      let slots = pages_differ.works a l.0.slot o.0.slot p.0 q.0 l.0.intention o.0.intention
      (record { work = w; tid = l.0.tid; order = l.0.order; stands = l.0.stands; prepared = l.1 }) (record { work = u; tid = o.0.tid; order = o.0.order; stands = o.0.stands; prepared = o.1 }) p.1 q.1 in
      same (sym l.0.stands ∙ ap (record_in m.records) slots.0 ∙ o.0.stands)
    where
      same : {w u : WorkId} {t q : Tid} {j k : ℕ} {i s : StoredIntention} → Intention w t j i ≡ Intention u q k s → w ≡ u
      same e = cc e

  pub its_work : (a : ℕ) → works_name m.records (suc a) ≡ true → (w : WorkId) × (list_any (is_at a) (list_kept w) ≡ true) × (is_some (find_by work_eq name_of m.works w) ≡ true)
  its_work a named =
      let at = found_intention (names_address (suc a)) m.records named in let it = at.2 in
      let s = listed_work it.work it.prepared in
      let is = its_list it.work s.0 s.1 in
      let lt = is.has.no_more it.order at.0 (ap (is_intention it.work it.order) it.stands ∙ own_place it.work it.order) in (
        it.work,
        ap (λ o. list_any (is_at a) (stored_by o)) s.1 ∙ ap (list_any (is_at a)) is.list_is
            ∙ listed_back m.records it.work a at.0 it.tid it.order at.1 it.stands (is.has.once it.order) at.3 0 is.count (omega arith) (omega (arith, lt)),
        ap is_some s.1,
      )

  pub named_by_list : (w : WorkId) (a : ℕ) → list_any (is_at a) (list_kept w) ≡ true → works_name m.records (suc a) ≡ true
  named_by_list w a h = let l = its_page w a h in listed_named m.records pages_differ.works w l.1 a 0 l.0

  module _ (works : List WorkId) (all : IsListing work_eq (λ w. is_some ((state (view_of m v)).works w)) works) where
    listed : (w : WorkId) → is_some (find_by work_eq name_of m.works w) ≡ true → is_in work_eq w works ≡ true
    listed w h = all.all w ∙ ap is_some (work_told w) ∙ still (find_by work_eq name_of m.works w) h
      where
        still : (o : Option WorkState) → is_some o ≡ true → is_some (option_map (prepared_of (first_blocks m v)) (option_map stored_work o)) ≡ true
        still None h = absurd (true≢false (sym h))
        still (Some s) h = refl

    -- a page is that of one intention where works name it
    page_once : (a : ℕ) → total (λ w. count_by (leads a) (pages_of (list_kept w))) works ≡ one (works_name m.records (suc a))
    page_once a =
        total-same work_eq work_tells (λ w. count_by (leads a) (pages_of (list_kept w))) (λ w. one (list_any (is_at a) (list_kept w))) works (λ w h. apart_count a (list_kept w) (kept_apart w))
        ∙ total_once work_eq work_tells (λ w. list_any (is_at a) (list_kept w)) works all.different (λ w u h k. one_work a w u h k) (works_name m.records (suc a))
        (λ named. let it = its_work a named in (it.0, it.1, listed it.0 it.2)) (λ w h. named_by_list w a h)

    module _ (layouts : List Layout) where
      abbrev held_below : ℕ → ℕ → Bool
      held_below n k = (nat_lt 0 k && nat_le k n) && not (heads_name most_cells layouts k)

      abbrev held_at : ℕ → ℕ → Bool
      held_at n k = nat_eq k (suc n) && not (heads_name most_cells layouts (suc n))

      held_step : (n k : ℕ) → one (held_below (suc n) k) ≡ one (held_below n k) + one (held_at n k)
      held_step n k = ⊎_elim (λ e. own k e) (λ ne. other k ne) (cases_eq k (suc n))
        where
          own : (k : ℕ) → k ≡ suc n → one ((nat_lt 0 k && nat_le k (suc n)) && not (heads_name most_cells layouts k)) ≡ one ((nat_lt 0 k && nat_le k n) && not (heads_name most_cells layouts k)) + one (nat_eq k (suc n) && not (heads_name most_cells layouts (suc n)))
          own k e = subst (λ k. one ((nat_lt 0 k && nat_le k (suc n)) && not (heads_name most_cells layouts k)) ≡ one ((nat_lt 0 k && nat_le k n) && not (heads_name most_cells layouts k)) + one (nat_eq k (suc n) && not (heads_name most_cells layouts (suc n)))) (sym e)
              (tests (nat_lt 0 (suc n)) (nat_le (suc n) (suc n)) (nat_le (suc n) n) (nat_eq (suc n) (suc n)) (not (heads_name most_cells layouts (suc n))) (grind (arith, nat_tests)) (grind (arith, nat_tests)) (grind (arith, nat_tests)) (grind (arith, nat_tests)))
            where
              tests : (p q r s b : Bool) → p ≡ true → q ≡ true → r ≡ false → s ≡ true → one ((p && q) && b) ≡ one ((p && r) && b) + one (s && b)
              tests p q r s b e f g h = grind (arith, e, f, g, h)

          other : (k : ℕ) → k ≢ suc n → one ((nat_lt 0 k && nat_le k (suc n)) && not (heads_name most_cells layouts k)) ≡ one ((nat_lt 0 k && nat_le k n) && not (heads_name most_cells layouts k)) + one (nat_eq k (suc n) && not (heads_name most_cells layouts (suc n)))
          other k ne = tests (nat_lt 0 k) (nat_le k (suc n)) (nat_le k n) (nat_eq k (suc n)) (not (heads_name most_cells layouts k)) (not (heads_name most_cells layouts (suc n))) (same k ne) (none k ne)
            where
              same : (k : ℕ) → k ≢ suc n → nat_le k (suc n) ≡ nat_le k n
              same k ne = grind (arith, nat_tests, ne)

              none : (k : ℕ) → k ≢ suc n → nat_eq k (suc n) ≡ false
              none k ne = grind (arith, nat_tests, ne)

              tests : (p q r s b c : Bool) → q ≡ r → s ≡ false → one ((p && q) && b) ≡ one ((p && r) && b) + one (s && c)
              tests p q r s b c e f = grind (arith, e, f)

      page_held : (n : ℕ) → total (λ w. count_by (held_at n) (pages_of (list_kept w))) works ≡ one (works_name m.records (suc n) && not (heads_name most_cells layouts (suc n)))
      page_held n = by (heads_name most_cells layouts (suc n)) refl
        where
          by : (b : Bool) → heads_name most_cells layouts (suc n) ≡ b → total (λ w. count_by (λ i. nat_eq i (suc n) && not b) (pages_of (list_kept w))) works ≡ one (works_name m.records (suc n) && not b)
          by true e = total_none (λ w. count_by (λ i. nat_eq i (suc n) && false) (pages_of (list_kept w))) (λ w. none (pages_of (list_kept w))) works ∙ no (works_name m.records (suc n))
            where
              none : (list : List ℕ) → count_by (λ i. nat_eq i (suc n) && false) list ≡ 0
              none [] = refl
              none (i ∷ list) = let again = none list in let more = sum_by-cons (λ i. if nat_eq i (suc n) && false then 1 else 0) i list in let here = no (nat_eq i (suc n)) in omega (arith, again, more, here)
                where
                  no : (b : Bool) → one (b && false) ≡ 0
                  no true = refl
                  no false = refl

              no : (b : Bool) → 0 ≡ one (b && false)
              no true = refl
              no false = refl
          by false e = total-same work_eq work_tells (λ w. count_by (λ i. nat_eq i (suc n) && true) (pages_of (list_kept w))) (λ w. count_by (λ k. nat_eq k (suc n)) (pages_of (list_kept w))) works (λ w h. same_members (λ i. nat_eq i (suc n) && true) (λ k. nat_eq k (suc n)) (pages_of (list_kept w)) (λ j i e. and_true (nat_eq i (suc n))))
              ∙ page_once n ∙ ap one (sym (and_true (works_name m.records (suc n))))
            where
              and_true : (b : Bool) → (b && true) ≡ b
              and_true true = refl
              and_true false = refl

      pages_below : (n : ℕ) → total (λ w. count_by (held_below n) (pages_of (list_kept w))) works ≡ how_many (λ a. works_name m.records (suc a) && not (heads_name most_cells layouts (suc a))) n
      pages_below zero = total_none (λ w. count_by (held_below 0) (pages_of (list_kept w))) (λ w. none (pages_of (list_kept w))) works
        where
          none : (list : List ℕ) → count_by (held_below 0) list ≡ 0
          none [] = refl
          none (i ∷ list) = let again = none list in let more = sum_by-cons (λ i. if held_below 0 i then 1 else 0) i list in let here = no i (heads_name most_cells layouts i) in omega (arith, again, more, here)
            where
              no : (k : ℕ) (b : Bool) → one ((nat_lt 0 k && nat_le k 0) && not b) ≡ 0
              no k b = grind (arith, nat_tests)
      pages_below (suc n) =
          let split = total_plus (λ w. count_by (held_below n) (pages_of (list_kept w))) (λ w. count_by (held_at n) (pages_of (list_kept w))) (λ w. count_by (held_below (suc n)) (pages_of (list_kept w)))
          (λ w. counts_plus (held_below n) (held_at n) (held_below (suc n)) (held_step n) (pages_of (list_kept w))) works in
          let again = pages_below n in let here = page_held n in omega (arith, split, again, here)

      -- the data pages that works hold
      pub held_counted : total (λ w. total (held_of layouts) (list_kept w)) works ≡ how_many (λ a. works_name m.records (suc a) && not (heads_name most_cells layouts (suc a))) m.table.counts.leaves
      held_counted = total-same work_eq work_tells (λ w. total (held_of layouts) (list_kept w)) (λ w. count_by (held_below m.table.counts.leaves) (pages_of (list_kept w))) works
          (λ w h. held_pages layouts (list_kept w) ∙ same_members (holds_page layouts) (held_below m.table.counts.leaves) (pages_of (list_kept w)) (λ j k e. within k (heads_name most_cells layouts k) (fits w j k e)))
          ∙ pages_below m.table.counts.leaves
        where
          within : (k : ℕ) (b : Bool) → k ≤ m.table.counts.leaves → (nat_lt 0 k && not b) ≡ ((nat_lt 0 k && nat_le k m.table.counts.leaves) && not b)
          within k b le = grind (arith, nat_tests, le)

          fits : (w : WorkId) (j k : ℕ) → slice_get (pages_of (list_kept w)) j ≡ Some k → k ≤ m.table.counts.leaves
          fits w j zero e = omega arith
          fits w j (suc a) e =
              let l = its_page w a (any_page a (list_kept w) ∙ member (pages_of (list_kept w)) j e) in
              let p = given_cell l.0.intention a l.0.names in
              let lt = pages_differ.works_fit a l.0.slot p.0 l.0.intention (record { work = w; tid = l.0.tid; order = l.0.order; stands = l.0.stands; prepared = l.1 }) p.1 in omega (arith, lt)
            where
              member : (xs : List ℕ) (j : ℕ) → slice_get xs j ≡ Some (suc a) → list_any (leads a) xs ≡ true
              member [] zero e = absurd (cc e)
              member [] (suc j) e = absurd (cc e)
              member (x ∷ xs) zero e = let is : x ≡ suc a = cc e in first (nat_eq x (suc a)) (list_any (leads a) xs) (grind (arith, nat_tests, is))
                where
                  first : (b c : Bool) → b ≡ true → (b || c) ≡ true
                  first b c h = grind (arith, h)
              member (x ∷ xs) (suc j) e = second (nat_eq x (suc a)) (list_any (leads a) xs) (member xs j e)
                where
                  second : (b c : Bool) → c ≡ true → (b || c) ≡ true
                  second b c h = grind (arith, h)

    -- each data page, and each head, once
    pub record IsCensus (files : List FileNo) (blocks : List LockUnit) (maps : List (FileNo × ℕ)) : Type 0 where
      pub files_all : IsListing file_eq (file_there (state (view_of m v)).files) files
      pub heads : free_numbers m.table.free_heads + length files ≡ m.table.counts.heads
      pub blocks_all : IsListing unit_eq (is_stored (state (view_of m v)).files) blocks
      pub maps_all : IsListing map_eq (has_map (maps_in m.table.heads)) maps
      pub pages : free_numbers m.table.free_leaves + length blocks + length maps + total (held_in m.works (layouts_in m.table)) works ≡ m.table.counts.leaves

    pub census : (files : List FileNo) × (blocks : List LockUnit) × (maps : List (FileNo × ℕ)) × IsCensus files blocks maps
    census = (
      collected file_of_head m.table.heads,
      all_units (layouts_in m.table),
      all_maps (layouts_in m.table),
      record {
        files_all = subst (λ (files : Files). IsListing file_eq (file_there files) (collected file_of_head m.table.heads)) (sym files_found) (files_listed m.table now.table (kept_entry m.table.maps) (first_blocks m v));
        heads = heads_counted m.table now.table (kept_entry m.table.maps) (first_blocks m v);
        blocks_all = subst (λ (files : Files). IsListing unit_eq (is_stored files) (all_units (layouts_in m.table))) (sym files_found) (blocks_listed (layouts_in m.table) (first_blocks m v) once);
        maps_all = maps_listed m.table now.table;
        pages =
            let pages = pages_counted m.table now.table in let held = held_counted (layouts_in m.table) in
            let same = ap (λ h. how_many h m.table.counts.leaves) (fun_ext (λ a. ap (λ b. b && not (heads_name most_cells (layouts_in m.table) (suc a))) (now.held a))) in
            let named = sym (below_counts (λ a. heads_name most_cells (layouts_in m.table) (suc a)) m.table.counts.leaves) ∙ named_counted m.table now.table in omega (arith, pages, held, same, named);
      },
    )
      where
        once : (f : FileNo) → PassesOnce (λ i. is_layout_of f (layout_at (layouts_in m.table) i))
        once f i j x y = now.table.heads.files f i j (sym (own_layout m.table f i) ∙ x) (sym (own_layout m.table f j) ∙ y)
