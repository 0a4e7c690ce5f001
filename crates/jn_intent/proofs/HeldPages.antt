-- What works hold once an intention is carried out.
use Rattle.jn_intent.proofs.Common.{◌≡◌, ◌≢◌, ◌⊎◌, inl, inr, ⊎_elim, ◌<◌, ◌≤◌, ◌+◌, ◌-◌, ◌*◌, ◌/◌, ℕ, zero, suc, Bool, true, false, not, ◌&&◌, if◌then◌else◌, List, length, Option, Some, None, refl, sym, ◌∙◌, ap, subst, true≢false, arith, cases_lt, false_from_ne_true, nat_tests, slice_get-map, nat_lt, nat_le, nat_eq, slice_get, slice_set, option_map, option_and_then, find, BlockNo, FileNo, Block, Tid, WorkId, file_tells, work_eq, layouts_in, address_after, map_after, serves_for, IsHeadPut, intended, heads_name, is_at, Intends, Gives, FullIntention, StoredIntention, What, Fresh, Gone, Cut, Put, Intention, WorkState, intention_has_page, is_put, in_order, place_by, has_page, Files, record_in, is_prepared, state, name_of, find_by, total, IsServing, StoreView, Matches, stored_work, Memory, view_of, stored_by, holds_page, held_of, one, prepared_of, stored_pages, at_set, found_once, head_blocks, most_blocks, most_maps, most_cells, Layout, Unused, Of, at_cell, layout_at, is_layout_of, map_cell, maps_in, lacks_map, kept_entry, behind, block_in, bare, is_in_range, entry_map}
use Rattle.jn_intent.proofs.Listed.{not_map_cell}
use Rattle.jn_intent.proofs.MapsAfter.{both_ways, map_before}
use Rattle.jn_intent.proofs.Naming.{found_cell, cell_named, given_cell, gives_named, put_gives, map_of_head_put}
use Rattle.jn_intent.proofs.NetOrder.{all_at, one_index}
use Rattle.jn_intent.proofs.NextIntention.{its_slot, brought, together}
use Rattle.jn_intent.proofs.Numbers.{total_members, total_but_one}
use Rattle.jn_intent.proofs.WorkPages.{first_blocks, its_list, work_told, stands_listed, pages_differ, ranged, files_found}

-- ---- where an address stands after an intention: it was there, or is the intention's own

came_block : (w : What) (n a p old d : ℕ) → address_after w n a p old ≡ suc d → (old ≡ suc d) ⊎ ((a ≡ suc d) × (p ≡ n))
came_block Fresh n a p old d e = absurd (omega (arith, e))
came_block Gone n a p old d e = absurd (omega (arith, e))
came_block Cut n a p old d e = by (nat_le n p) e
  where
    by : (b : Bool) → (if b then 0 else old) ≡ suc d → (old ≡ suc d) ⊎ ((a ≡ suc d) × (p ≡ n))
    by true e = absurd (omega (arith, e))
    by false e = inl e
came_block Put n a p old d e = by (nat_eq n p) refl e
  where
    same : nat_eq n p ≡ true → p ≡ n
    same h = grind (arith, nat_tests, h)

    by : (b : Bool) → nat_eq n p ≡ b → (if b then a else old) ≡ suc d → (old ≡ suc d) ⊎ ((a ≡ suc d) × (p ≡ n))
    by true h e = inr (e, same h)
    by false h e = inl e

came_map : (w : What) (n m j old d : ℕ) → map_after w n m j old ≡ suc d → (old ≡ suc d) ⊎ ((m ≡ suc d) × (j ≡ n / head_blocks - 1))
came_map Fresh n m j old d e = absurd (omega (arith, e))
came_map Gone n m j old d e = absurd (omega (arith, e))
came_map Cut n m j old d e = by (nat_lt (head_blocks * (j + 1)) n) e
  where
    by : (b : Bool) → (if b then old else 0) ≡ suc d → (old ≡ suc d) ⊎ ((m ≡ suc d) × (j ≡ n / head_blocks - 1))
    by true e = inl e
    by false e = absurd (omega (arith, e))
came_map Put n m j old d e = by (is_in_range j n) refl (nat_eq old 0) e
  where
    its : is_in_range j n ≡ true → j ≡ n / head_blocks - 1
    its h = let r : n / 120 ≡ j + 1 = grind (arith, nat_tests, h) in omega (arith, r)

    by : (b : Bool) → is_in_range j n ≡ b → (c : Bool) → (if b && c then m else old) ≡ suc d → (old ≡ suc d) ⊎ ((m ≡ suc d) × (j ≡ n / head_blocks - 1))
    by true h true e = inr (e, its h)
    by true h false e = inl e
    by false h c e = inl e

-- the file of a layout at which an intention may be carried out
served_file : (w : What) (f g : FileNo) (l : Layout) → serves_for w f l ≡ true → is_layout_of g l ≡ true → f ≡ g
served_file w f g Unused s t = absurd (true≢false (sym t))
served_file Fresh f g (Of k cells) s t = grind (arith, file_tells, s, t)
served_file Gone f g (Of k cells) s t = grind (arith, file_tells, s, t)
served_file Cut f g (Of k cells) s t = grind (arith, file_tells, s, t)
served_file Put f g (Of k cells) s t = grind (arith, file_tells, s, t)

pub put_layout : (w : What) (f : FileNo) (l : Layout) → w ≡ Put → serves_for w f l ≡ true → is_layout_of f l ≡ true
put_layout w f Unused e t = subst (λ w. serves_for w f Unused ≡ true) e t
put_layout w f (Of g cells) e t = subst (λ w. serves_for w f (Of g cells) ≡ true) e t

block_is : (p q : BlockNo) → p.0 ≡ q.0 → p ≡ q
block_is p q e = ap (λ (n : ℕ). let x : BlockNo = record { 0 = n } in x) e

module _ (m : Memory) (v : StoreView) (now : Matches m v) (serving : IsServing (view_of m v)) (work : WorkId) (s : WorkState) (here : find_by work_eq name_of m.works work ≡ Some s)
    (i : StoredIntention) (at : slice_get s.list s.next ≡ Some i) (place : ℕ) (new : Layout) (put : IsHeadPut (layouts_in m.table) i place new) where
  abbrev later : List Layout
  later = slice_set (layouts_in m.table) place new

  abbrev old : Layout
  old = layout_at (layouts_in m.table) place

  abbrev full : StoredIntention → FullIntention
  full j = intended (first_blocks m v) j

  its : (slot : ℕ) × Intends m.records slot i
  its = its_slot m v now serving work s here i at

  -- ---- which pages layouts name then

  old_or_own : (q d : ℕ) → q < most_cells → at_cell new q ≡ suc d → (at_cell old q ≡ suc d) ⊎ Gives i d q
  old_or_own q d lt e = ⊎_elim
      (λ low. ⊎_elim (λ was. inl was) (λ own. inr (inl own)) (came_block i.what i.block.0 i.address q (at_cell old q) d (sym (put.addresses q low) ∙ e)))
      (λ high.
      let j : ℕ = q - most_blocks in
      let cell : q ≡ map_cell (q - most_blocks) = omega (arith, high) in
      let below : q - most_blocks < most_maps = omega (arith, high, lt) in
      ⊎_elim
      (λ was. inl (ap (at_cell old) cell ∙ was))
      (λ own. inr (inr (own.0, cell ∙ ap map_cell own.1)))
      (came_map i.what i.block.0 i.map (q - most_blocks) (at_cell old (map_cell (q - most_blocks))) d (sym (put.maps (q - most_blocks) below) ∙ ap (at_cell new) (sym cell) ∙ e)))
      (cases_lt q most_blocks)

  -- a page that is named then was named, or is the intention's
  pub named_before : (a : ℕ) → heads_name most_cells later (suc a) ≡ true → (heads_name most_cells (layouts_in m.table) (suc a) ≡ true) ⊎ (is_at a i ≡ true)
  named_before a named =
      let it = found_cell most_cells later (suc a) named in
      ⊎_elim
      (λ e. ⊎_elim
      (λ was. inl (cell_named most_cells (layouts_in m.table) a place it.1 it.2 was))
      (λ own. inr (gives_named i a it.1 own))
      (old_or_own it.1 a it.2 (ap (λ l. at_cell l it.1) (sym e.1) ∙ it.3)))
      (λ e. inl (cell_named most_cells (layouts_in m.table) a it.0 it.1 it.2 (ap (λ l. at_cell l it.1) (sym e.1) ∙ it.3)))
      (at_set Unused (layouts_in m.table) place new put.there it.0)

  -- an address that the put leaves
  keeps : (a slot q : ℕ) → q < most_cells → at_cell (layout_at (layouts_in m.table) slot) q ≡ suc a → (slot ≡ place → at_cell new q ≡ suc a) → heads_name most_cells later (suc a) ≡ true
  keeps a slot q lt h stays = ⊎_elim
      (λ e. cell_named most_cells later a slot q lt (ap (λ l. at_cell l q) e.1 ∙ stays e.0))
      (λ e. cell_named most_cells later a slot q lt (ap (λ l. at_cell l q) e.1 ∙ h))
      (at_set Unused (layouts_in m.table) place new put.there slot)

  -- a put leaves all other cells
  put_keeps_block : i.what ≡ Put → (q : ℕ) → q < most_blocks → i.block.0 ≢ q → at_cell new q ≡ at_cell old q
  put_keeps_block e q lt ne = put.addresses q lt ∙ ap (λ w. address_after w i.block.0 i.address q (at_cell old q)) e ∙ ap (λ b. if b then i.address else at_cell old q) (differ ne)
    where
      differ : i.block.0 ≢ q → nat_eq i.block.0 q ≡ false
      differ ne = grind (arith, nat_tests, ne)

  put_keeps_map : i.what ≡ Put → (j d : ℕ) → j < most_maps → at_cell old (map_cell j) ≡ suc d → at_cell new (map_cell j) ≡ suc d
  put_keeps_map e j d lt some = put.maps j lt ∙ ap (λ w. map_after w i.block.0 i.map j (at_cell old (map_cell j))) e ∙ ap (λ (k : ℕ). if is_in_range j i.block.0 && nat_eq k 0 then i.map else k) some ∙ by (is_in_range j i.block.0)
    where
      no : nat_eq (suc d) 0 ≡ false
      no = grind (arith, nat_tests)

      by : (b : Bool) → (if b && nat_eq (suc d) 0 then i.map else suc d) ≡ suc d
      by true = ap (λ b. if b then i.map else suc d) no
      by false = refl

  -- ---- an intention of a listed work

  module _ (o : WorkId) (t : WorkState) (found : find_by work_eq name_of m.works o ≡ Some t) (k : ℕ) (j : StoredIntention) (listed : slice_get t.list k ≡ Some j) where
    prepared_there : (state (view_of m v)).works o ≡ Some (prepared_of (first_blocks m v) (stored_work t))
    prepared_there = work_told m v now o ∙ ap (λ o. option_map (prepared_of (first_blocks m v)) (option_map stored_work o)) found

    full_there : slice_get (prepared_of (first_blocks m v) (stored_work t)).list k ≡ Some (full j)
    full_there = slice_get-map (intended (first_blocks m v)) t.list k ∙ ap (option_map (intended (first_blocks m v))) listed

    record_there : (slot : ℕ) × (u : Tid) × (n : ℕ) × (record_in m.records slot ≡ Intention o u n j) × (slot < length m.records)
    record_there = let is = its_list m v now o t found in stands_listed m.records o 0 is.count k j (ap (λ l. slice_get l k) (sym is.list_is) ∙ listed)

    intends_there : Intends m.records record_there.0 j
    intends_there = record { work = o; tid = record_there.1; order = record_there.2; stands = record_there.3; prepared = (its_list m v now o t found).prepared }

    names_it : intention_has_page j ≡ true
    names_it = all_at (λ i. intention_has_page i) t.list k j
        (stored_pages m.records o pages (find (is_prepared o) m.records) (stored_work t) (sym (now.works.each o) ∙ ap (option_map stored_work) found)) listed
      where
        pages : (slot : ℕ) → slot < length m.records → has_page (record_in m.records slot) ≡ true
        pages slot lt = (now.standing.held.pool slot lt).of_format.whole

    -- whether a layout names a page of it doesn't change, where the intention takes nothing of its
    module _ (other_page : (a : ℕ) → is_at a i ≡ true → is_at a j ≡ true → ⊥) (other_block : i.file ≡ j.file → (i.what ≡ Put) × (j.what ≡ Put → i.block ≡ j.block → ⊥)) where
      same_page : (a q : ℕ) → Gives j a q → heads_name most_cells later (suc a) ≡ heads_name most_cells (layouts_in m.table) (suc a)
      same_page a q g = both_ways (heads_name most_cells later (suc a)) (heads_name most_cells (layouts_in m.table) (suc a))
          (λ named. ⊎_elim (λ old. old) (λ own. absurd (other_page a own (gives_named j a q g))) (named_before a named))
          (λ named.
          let it = found_cell most_cells (layouts_in m.table) (suc a) named in
          let stands = (pages_differ m v now).carried a record_there.0 it.0 q it.1 j intends_there g it.3 in
          keeps a it.0 it.1 it.2 it.3 (λ e. stays it.1 stands.1 (ap (λ k. at_cell (layout_at (layouts_in m.table) k) it.1) (sym e) ∙ it.3)
          (other_block (served_file i.what i.file j.file old put.serves (ap (λ k. is_layout_of j.file (layout_at (layouts_in m.table) k)) (sym e) ∙ stands.0)))))
        where
          block_below : j.block.0 < most_blocks
          block_below = ranged m v now record_there.0 j intends_there

          is_put_so : j.what ≡ Put
          is_put_so = put_gives j a q names_it g

          stays : (p : ℕ) → p ≡ q → at_cell old p ≡ suc a → (i.what ≡ Put) × (j.what ≡ Put → i.block ≡ j.block → ⊥) → at_cell new p ≡ suc a
          stays p same stood apart = by g
            where
              by : Gives j a q → at_cell new p ≡ suc a
              by (inl own) =
                  let block : p ≡ j.block.0 = same ∙ own.1 in
                  put_keeps_block apart.0 p (omega (arith, block, block_below)) (λ e. apart.1 is_put_so (block_is i.block j.block (e ∙ block))) ∙ stood
              by (inr own) =
                  let cell : p ≡ map_cell (j.block.0 / head_blocks - 1) = same ∙ own.1 in
                  ap (at_cell new) cell ∙ put_keeps_map apart.0 (j.block.0 / head_blocks - 1) a (omega (arith, block_below)) (ap (at_cell old) (sym cell) ∙ stood)

      same_held : held_of later j ≡ held_of (layouts_in m.table) j
      same_held =
          let x = ap one (each j.address j.address refl (λ a e. (j.block.0, inl (e, refl)))) in
          let y = ap one (each j.map j.map refl (λ a e. (map_cell (j.block.0 / head_blocks - 1), inr (e, refl)))) in omega (arith, x, y)
        where
          each : (k n : ℕ) → k ≡ n → ((a : ℕ) → n ≡ suc a → (q : ℕ) × Gives j a q) → holds_page later k ≡ holds_page (layouts_in m.table) k
          each k zero e gives = ap (λ n. nat_lt 0 n && not (heads_name most_cells later n)) e ∙ ap (λ n. nat_lt 0 n && not (heads_name most_cells (layouts_in m.table) n)) (sym e)
          each k (suc a) e gives = ap (λ n. nat_lt 0 n && not (heads_name most_cells later n)) e ∙ ap (λ b. nat_lt 0 (suc a) && not b) (let g = gives a refl in same_page a g.0 g.1)
              ∙ ap (λ n. nat_lt 0 n && not (heads_name most_cells (layouts_in m.table) n)) (sym e)

    -- of another work
    module _ (other : work ≢ o) where
      not_its_page : (a : ℕ) → is_at a i ≡ true → is_at a j ≡ true → ⊥
      not_its_page a x y =
          let own = its_record in
          let p = given_cell i a x in let q = given_cell j a y in
          let slots = (pages_differ m v now).works a own.0 record_there.0 p.0 q.0 i j
          (record { work = work; tid = own.1; order = own.2; stands = own.3; prepared = (its_list m v now work s here).prepared }) intends_there p.1 q.1 in
          other (works (sym own.3 ∙ ap (record_in m.records) slots.0 ∙ record_there.3))
        where
          its_record : (slot : ℕ) × (u : Tid) × (n : ℕ) × (record_in m.records slot ≡ Intention work u n i) × (slot < length m.records)
          its_record = let is = its_list m v now work s here in stands_listed m.records work 0 is.count s.next i (ap (λ l. slice_get l s.next) (sym is.list_is) ∙ at)

          works : {w u : WorkId} {t q : Tid} {j k : ℕ} {i s : StoredIntention} → Intention w t j i ≡ Intention u q k s → w ≡ u
          works e = cc e

      other_same : held_of later j ≡ held_of (layouts_in m.table) j
      other_same = same_held not_its_page (λ file. together m v now serving work s here i at o other t found k j listed file)

  -- ---- what other works hold

  pub other_holds : (o : WorkId) → work ≢ o → total (held_of later) (stored_by (find_by work_eq name_of m.works o)) ≡ total (held_of (layouts_in m.table)) (stored_by (find_by work_eq name_of m.works o))
  other_holds o other = by (find_by work_eq name_of m.works o) refl
    where
      by : (t : Option WorkState) → find_by work_eq name_of m.works o ≡ t → total (held_of later) (stored_by t) ≡ total (held_of (layouts_in m.table)) (stored_by t)
      by None e = refl
      by (Some t) e = total_members (held_of later) (held_of (layouts_in m.table)) t.list (λ k j listed. other_same o t e k j listed other)

  -- ---- a put

  module _ (is : i.what ≡ Put) (d : ℕ) (address : i.address ≡ suc d) where
    own_layout_is : is_layout_of i.file old ≡ true
    own_layout_is = put_layout i.what i.file old is put.serves

    -- the other intentions of its work
    own_order : in_order None (prepared_of (first_blocks m v) (stored_work s)).list ≡ true
    own_order = (serving.orderly.prepared work (prepared_of (first_blocks m v) (stored_work s)) (prepared_there work s here s.next i at)).order.order

    own_same : (k : ℕ) (j : StoredIntention) → k ≢ s.next → slice_get s.list k ≡ Some j → held_of later j ≡ held_of (layouts_in m.table) j
    own_same k j ne listed = same_held work s here k j listed other_page (λ file. (is, λ also block. ne (sym (index file also block))))
      where
        index : i.file ≡ j.file → j.what ≡ Put → i.block ≡ j.block → s.next ≡ k
        index file also block = one_index (prepared_of (first_blocks m v) (stored_work s)).list None s.next k (full i) (full j) own_order (full_there work s here s.next i at) (full_there work s here k j listed) file
            (ap (λ w. place_by w i.block) is ∙ ap (λ b. place_by Put b) block ∙ sym (ap (λ w. place_by w j.block) also))

        other_page : (a : ℕ) → is_at a i ≡ true → is_at a j ≡ true → ⊥
        other_page a x y =
            let own = record_there work s here s.next i at in let theirs = record_there work s here k j listed in
            let p = given_cell i a x in let q = given_cell j a y in
            let slots = (pages_differ m v now).works a own.0 theirs.0 p.0 q.0 i j (intends_there work s here s.next i at) (intends_there work s here k j listed) p.1 q.1 in
            let one_is = one_record (sym own.3 ∙ ap (record_in m.records) slots.0 ∙ theirs.3) in
            ne (sym (index (ap (λ (x : StoredIntention). x.file) one_is) (ap (λ (x : StoredIntention). x.what) (sym one_is) ∙ is) (ap (λ (x : StoredIntention). x.block) one_is)))
          where
            one_record : {w u : WorkId} {t q : Tid} {j k : ℕ} {i s : StoredIntention} → Intention w t j i ≡ Intention u q k s → i ≡ s
            one_record e = cc e

    -- so what its work holds changes by what is held for the intention
    own_moves : total (held_of later) s.list + held_of (layouts_in m.table) i ≡ total (held_of (layouts_in m.table)) s.list + held_of later i
    own_moves = total_but_one (held_of later) (held_of (layouts_in m.table)) s.list s.next i at own_same

    -- ---- its block's page

    abbrev stood : ℕ
    stood = at_cell old i.block.0

    block_cell : i.block.0 < most_cells
    block_cell = let lt = put.range in omega (arith, lt)

    new_address : at_cell new i.block.0 ≡ suc d
    new_address = put.addresses i.block.0 put.range ∙ ap (λ w. address_after w i.block.0 i.address i.block.0 stood) is ∙ ap (λ b. if b then i.address else stood) self ∙ address
      where
        self : nat_eq i.block.0 i.block.0 ≡ true
        self = grind (arith, nat_tests)

    at_place : layout_at later place ≡ new
    at_place = ⊎_elim (λ h. h.1) (λ h. absurd (h.0 refl)) (at_set Unused (layouts_in m.table) place new put.there place)

    named_then : heads_name most_cells later (suc d) ≡ true
    named_then = cell_named most_cells later d place i.block.0 block_cell (ap (λ l. at_cell l i.block.0) at_place ∙ new_address)

    -- a page of it stands at its cell of this slot alone
    here_alone : (a q slot p : ℕ) → Gives i a q → at_cell (layout_at (layouts_in m.table) slot) p ≡ suc a → at_cell old q ≡ suc a
    here_alone a q slot p g e =
        let stands = (pages_differ m v now).carried a its.0 slot q p i its.1 g e in
        let same = put.only slot stands.0 in
        (λ k. at_cell (layout_at (layouts_in m.table) (sym same k)) (sym stands.1 k)) ∙ e

    -- unless it stood there no layout named it
    not_named : stood ≢ suc d → heads_name most_cells (layouts_in m.table) (suc d) ≡ false
    not_named ne = false_from_ne_true (heads_name most_cells (layouts_in m.table) (suc d)) (λ named.
        let it = found_cell most_cells (layouts_in m.table) (suc d) named in ne (here_alone d i.block.0 it.0 it.1 (inl (address, refl)) it.3))

    -- ---- its map page

    abbrev range : ℕ
    range = i.block.0 / head_blocks - 1

    range_below : i.block.0 / head_blocks - 1 < most_maps
    range_below = let lt = put.range in omega (arith, lt)

    -- a map page that is there stays, so no name of its own changes
    same_map : at_cell old (map_cell (i.block.0 / head_blocks - 1)) ≢ 0 → (e : ℕ) → i.map ≡ suc e → heads_name most_cells later (suc e) ≡ heads_name most_cells (layouts_in m.table) (suc e)
    same_map there e map = by (at_cell old (map_cell range)) refl
      where
        stays : (q k : ℕ) → q ≡ map_cell range → at_cell old (map_cell range) ≡ suc k → at_cell new q ≡ at_cell old q
        stays q k cell some = ap (at_cell new) cell ∙ put_keeps_map is range k range_below some ∙ sym some ∙ ap (at_cell old) (sym cell)

        by : (c : ℕ) → at_cell old (map_cell range) ≡ c → heads_name most_cells later (suc e) ≡ heads_name most_cells (layouts_in m.table) (suc e)
        by zero none = absurd (there none)
        by (suc k) some = both_ways (heads_name most_cells later (suc e)) (heads_name most_cells (layouts_in m.table) (suc e))
            (λ named.
            let it = found_cell most_cells later (suc e) named in
            ⊎_elim
            (λ h. ⊎_elim
            (λ was. cell_named most_cells (layouts_in m.table) e place it.1 it.2 was)
            (λ own. own_named it.1 it.2 (ap (λ l. at_cell l it.1) (sym h.1) ∙ it.3) own)
            (old_or_own it.1 e it.2 (ap (λ l. at_cell l it.1) (sym h.1) ∙ it.3)))
            (λ h. cell_named most_cells (layouts_in m.table) e it.0 it.1 it.2 (ap (λ l. at_cell l it.1) (sym h.1) ∙ it.3))
            (at_set Unused (layouts_in m.table) place new put.there it.0))
            (λ named.
            let it = found_cell most_cells (layouts_in m.table) (suc e) named in
            let stands = (pages_differ m v now).carried e its.0 it.0 (map_cell range) it.1 i its.1 (inr (map, refl)) it.3 in
            keeps e it.0 it.1 it.2 it.3 (λ same. stays it.1 k stands.1 some ∙ ap (λ k. at_cell (layout_at (layouts_in m.table) k) it.1) (sym same) ∙ it.3))
          where
            own_named : (q : ℕ) → q < most_cells → at_cell new q ≡ suc e → Gives i e q → heads_name most_cells (layouts_in m.table) (suc e) ≡ true
            own_named q lt h (inl own) = absurd (not_map_cell i.block.0 range put.range
                ((pages_differ m v now).works e its.0 its.0 i.block.0 (map_cell range) i i its.1 its.1 (inl (own.0, refl)) (inr (map, refl))).1)
            own_named q lt h (inr own) = cell_named most_cells (layouts_in m.table) e place q lt (sym (stays q k own.1 some) ∙ h)

    holds_map_same : (at_cell old (map_cell (i.block.0 / head_blocks - 1)) ≢ 0) ⊎ (i.map ≡ 0) → holds_page later i.map ≡ holds_page (layouts_in m.table) i.map
    holds_map_same why = by i.map refl
      where
        by : (k : ℕ) → i.map ≡ k → holds_page later i.map ≡ holds_page (layouts_in m.table) i.map
        by zero e = ap (λ n. nat_lt 0 n && not (heads_name most_cells later n)) e ∙ ap (λ n. nat_lt 0 n && not (heads_name most_cells (layouts_in m.table) n)) (sym e)
        by (suc a) e = ap (λ n. nat_lt 0 n && not (heads_name most_cells later n)) e
            ∙ ap (λ b. nat_lt 0 (suc a) && not b) (⊎_elim (λ there. same_map there a e) (λ none. absurd (omega (arith, none, e))) why)
            ∙ ap (λ n. nat_lt 0 n && not (heads_name most_cells (layouts_in m.table) n)) (sym e)

    -- whether it lacks its map page
    abbrev lacks : Bool
    lacks = lacks_map (maps_in m.table.heads) (bare i)

    pub own_maps : maps_in m.table.heads i.file range ≡ nat_lt 0 (at_cell old (map_cell range))
    own_maps = map_before m.table now.table i place new put range own_layout_is

    lacks_is : lacks_map (maps_in m.table.heads) (bare i) ≡ (nat_le head_blocks i.block.0 && not (nat_lt 0 (at_cell old (map_cell range))))
    lacks_is = ap (λ w. is_put w && nat_le head_blocks i.block.0 && not (maps_in m.table.heads i.file range)) is ∙ ap (λ b. true && nat_le head_blocks i.block.0 && not b) own_maps ∙ drop_true (nat_le head_blocks i.block.0) (not (nat_lt 0 (at_cell old (map_cell range))))
      where
        drop_true : (b c : Bool) → (true && b && c) ≡ (b && c)
        drop_true b c = grind arith

    -- where it doesn't, its map page is there, or it needs none
    has_none_new : lacks_map (maps_in m.table.heads) (bare i) ≡ false → (at_cell old (map_cell (i.block.0 / head_blocks - 1)) ≢ 0) ⊎ (i.map ≡ 0)
    has_none_new e = by (nat_le head_blocks i.block.0) refl (nat_lt 0 (at_cell old (map_cell range))) refl (sym lacks_is ∙ e)
      where
        by : (b : Bool) → nat_le head_blocks i.block.0 ≡ b → (c : Bool) → nat_lt 0 (at_cell old (map_cell range)) ≡ c → (b && not c) ≡ false → (at_cell old (map_cell (i.block.0 / head_blocks - 1)) ≢ 0) ⊎ (i.map ≡ 0)
        by true x true y h = inl (λ none. some (at_cell old (map_cell range)) none y)
          where
            some : (k : ℕ) → k ≡ 0 → nat_lt 0 k ≡ true → ⊥
            some k e h = grind (arith, nat_tests, e, h)
        by true x false y h = absurd (true≢false h)
        by false x c y h = inr (map_of_head_put i.what i.block.0 i.address i.map put.names is (grind (arith, nat_tests, x)))

    -- and where it does, it names one that no layout does
    module _ (e : lacks_map (maps_in m.table.heads) (bare i) ≡ true) where
      none_there : at_cell old (map_cell range) ≡ 0
      none_there = by (nat_lt 0 (at_cell old (map_cell range))) refl (sym lacks_is ∙ e)
        where
          by : (b : Bool) → nat_lt 0 (at_cell old (map_cell range)) ≡ b → (nat_le head_blocks i.block.0 && not b) ≡ true → at_cell old (map_cell range) ≡ 0
          by true x h = absurd (true≢false (sym h ∙ no (nat_le head_blocks i.block.0)))
            where
              no : (b : Bool) → (b && false) ≡ false
              no true = refl
              no false = refl
          by false x h = grind (arith, nat_tests, x)

      far : head_blocks ≤ i.block.0
      far = by (nat_le head_blocks i.block.0) refl (sym lacks_is ∙ e)
        where
          by : (b : Bool) → nat_le head_blocks i.block.0 ≡ b → (b && not (nat_lt 0 (at_cell old (map_cell range)))) ≡ true → head_blocks ≤ i.block.0
          by true x h = grind (arith, nat_tests, x)
          by false x h = absurd (true≢false (sym h))

      its_map : (page : ℕ) × (i.map ≡ suc page)
      its_map = brought m v now serving work s here i at e

      map_not_named : heads_name most_cells (layouts_in m.table) (suc its_map.0) ≡ false
      map_not_named = false_from_ne_true (heads_name most_cells (layouts_in m.table) (suc its_map.0)) (λ named.
          let it = found_cell most_cells (layouts_in m.table) (suc its_map.0) named in
          let stands = here_alone its_map.0 (map_cell range) it.0 it.1 (inr (its_map.1, refl)) it.3 in
          let none = none_there in omega (arith, stands, none))

      map_named_then : heads_name most_cells later (suc its_map.0) ≡ true
      map_named_then = cell_named most_cells later its_map.0 place (map_cell range) (let lt = range_below in omega (arith, lt)) (ap (λ l. at_cell l (map_cell range)) at_place ∙ comes)
        where
          in_it : is_in_range range i.block.0 ≡ true
          in_it = let h = far in let r : i.block.0 / 120 ≡ i.block.0 / 120 - 1 + 1 = omega (arith, h) in grind (arith, nat_tests, r)

          comes : at_cell new (map_cell range) ≡ suc its_map.0
          comes = put.maps range range_below ∙ ap (λ w. map_after w i.block.0 i.map range (at_cell old (map_cell range))) is
              ∙ ap (λ b. if b && nat_eq (at_cell old (map_cell range)) 0 then i.map else at_cell old (map_cell range)) in_it
              ∙ ap (λ (k : ℕ). if nat_eq k 0 then i.map else k) none_there ∙ its_map.1

    -- ---- what is held for it

    holds_of : (ls : List Layout) (k a : ℕ) (b : Bool) → k ≡ suc a → heads_name most_cells ls (suc a) ≡ b → holds_page ls k ≡ not b
    holds_of ls k a b e named = ap (λ n. nat_lt 0 n && not (heads_name most_cells ls n)) e ∙ ap (λ c. nat_lt 0 (suc a) && not c) named ∙ pos (nat_lt 0 (suc a)) (not b) (grind (arith, nat_tests))
      where
        pos : (p q : Bool) → p ≡ true → (p && q) ≡ q
        pos p q h = grind (arith, h)

    map_moves : one (holds_page later i.map) + one (lacks_map (maps_in m.table.heads) (bare i)) ≡ one (holds_page (layouts_in m.table) i.map)
    map_moves = by (lacks_map (maps_in m.table.heads) (bare i)) refl
      where
        by : (b : Bool) → lacks_map (maps_in m.table.heads) (bare i) ≡ b → one (holds_page later i.map) + one b ≡ one (holds_page (layouts_in m.table) i.map)
        by false e = let same = ap one (holds_map_same (has_none_new e)) in omega (arith, same)
        by true e =
            let it = its_map e in
            let held_now = ap one (holds_of later i.map it.0 true it.1 (map_named_then e)) in
            let was = ap one (holds_of (layouts_in m.table) i.map it.0 false it.1 (map_not_named e)) in omega (arith, held_now, was)

    -- its page is taken
    pub taken : stood ≢ suc d → total (held_of later) s.list + 1 + one (lacks_map (maps_in m.table.heads) (bare i)) ≡ total (held_of (layouts_in m.table)) s.list
    taken ne =
        let moves = own_moves in let maps = map_moves in
        let now_held = ap one (holds_of later i.address d true address named_then) in
        let was_held = ap one (holds_of (layouts_in m.table) i.address d false address (not_named ne)) in omega (arith, moves, maps, now_held, was_held)

    -- or it is in its place already
    pub in_its_place : stood ≡ suc d → (total (held_of later) s.list ≡ total (held_of (layouts_in m.table)) s.list) × (lacks_map (maps_in m.table.heads) (bare i) ≡ false)
    in_its_place e =
        let moves = own_moves in let maps = map_moves in let none = ap one lacks_none in
        let now_held = ap one (holds_of later i.address d true address named_then) in
        let was_held = ap one (holds_of (layouts_in m.table) i.address d true address (cell_named most_cells (layouts_in m.table) d place i.block.0 block_cell e)) in (omega (arith, moves, maps, none, now_held, was_held), lacks_none)
      where
        lacks_none : lacks_map (maps_in m.table.heads) (bare i) ≡ false
        lacks_none = false_from_ne_true (lacks_map (maps_in m.table.heads) (bare i)) (λ lacks. let none = no_entry lacks in omega (arith, none, e))
          where
            no_entry : lacks_map (maps_in m.table.heads) (bare i) ≡ true → stood ≡ 0
            no_entry lacks = by (at_cell old i.block.0) refl
              where
                in_it : is_in_range range i.block.0 ≡ true
                in_it = let h = far lacks in let r : i.block.0 / 120 ≡ i.block.0 / 120 - 1 + 1 = omega (arith, h) in grind (arith, nat_tests, r)

                by : (k : ℕ) → at_cell old i.block.0 ≡ k → at_cell old i.block.0 ≡ 0
                by zero f = f
                by (suc k) f = absurd (entry_map (kept_entry m.table.maps) m.table.heads place range i.block.0 put.range in_it (λ none. omega (arith, none, f)) range_below (none_there lacks))

    -- ---- what is stored there

    pub in_place : (state (view_of m v)).files (Block i.file i.block) ≡ behind (first_blocks m v) (at_cell (layout_at (layouts_in m.table) place) i.block.0)
    in_place = ap (λ (files : Files). files (Block i.file i.block)) (files_found m v now) ∙ ap (option_and_then (block_in (first_blocks m v) i.block)) its_find ∙ ap (λ b. if b then behind (first_blocks m v) stood else None) in_blocks
      where
        in_blocks : nat_lt i.block.0 most_blocks ≡ true
        in_blocks = let lt = put.range in grind (arith, nat_tests, lt)

        its_find : find (is_layout_of i.file) (layouts_in m.table) ≡ Some old
        its_find = found_once (is_layout_of i.file) Unused (layouts_in m.table) place refl put.only ∙ ap (λ b. if b then Some old else None) own_layout_is
