-- Which map pages heads name, and what the put of a layout leaves of them.
use Rattle.jn_page_state.proofs.Common.{◌≡◌, ◌≢◌, ◌⊎◌, inl, inr, ⊎_elim, ℕ, ◌<◌, Bool, true, false, not, ◌&&◌, ◌||◌, if◌then◌else◌, List, length, cases_lt, get_or_past, slice_index, refl, sym, ◌∙◌, ap, subst, true≢false, and_parts, arith, nat_tests, nat_eq, nat_lt, nat_le, FileNo, file_eq, file_tells, head_blocks, most_maps, most_blocks, Head, FreeHead, Used, has_page, StoredIntention, What, Fresh, Gone, Cut, Put, is_in_range, keeps_map, maps_in, Layout, Unused, Of, map_cell, at_cell, layout_by, layouts_by, layout_at, is_layout_of, Contents, head_in, entry_of, layouts_in, address_after, map_after, serves_for, is_head_after, IsHeadPut, IsPartPut, LaysOut, names_what_it_needs, names_map, has_map_after, places_after, bare, get-map, laid-none, map-cell-is}
use Rattle.jn_page_state.proofs.Slots.{passes_at, passes_any, at_set}

both : (a b : Bool) → a ≡ true → b ≡ true → (a && b) ≡ true
both a b h k = grind (arith, h, k)

above : (a : ℕ) → nat_lt 0 a ≡ true → a ≢ 0
above a h e = true≢false (sym h ∙ ap (nat_lt 0) e)

is_above : (a : ℕ) → a ≢ 0 → nat_lt 0 a ≡ true
is_above a ne = grind (arith, nat_tests, ne)

same_file : (f g : FileNo) → file_eq f g ≡ true → f ≡ g
same_file f g h = grind (arith, nat_tests, h)

pub one_file : (f g : FileNo) (h : Layout) → is_layout_of f h ≡ true → is_layout_of g h ≡ true → f ≡ g
one_file f g Unused s t = absurd (true≢false (sym s))
one_file f g (Of k cells) s t = grind (arith, file_tells)

-- where a file's layout serves an intention, the file is the intention's
pub serves_one : (what : What) (f g : FileNo) (h : Layout) → serves_for what f h ≡ true → is_layout_of g h ≡ true → f ≡ g
serves_one what f g Unused s t = absurd (true≢false (sym t))
serves_one Fresh f g (Of k cells) s t = one_file f g (Of k cells) s t
serves_one Gone f g (Of k cells) s t = one_file f g (Of k cells) s t
serves_one Cut f g (Of k cells) s t = one_file f g (Of k cells) s t
serves_one Put f g (Of k cells) s t = one_file f g (Of k cells) s t

-- ---- map pages by layouts

-- the head's page j, where it has so many
map_below : (f : FileNo) (j : ℕ) (h : Head) → has_page h ≡ true → names_map f j h ≡ true → j < most_maps
map_below f j FreeHead page named = absurd (true≢false (sym named))
map_below f j (Used g xs ms) page named = below ms j (and_parts (nat_eq (length xs) head_blocks) (nat_eq (length ms) most_maps) page).1 (and_parts (file_eq g f) (nat_lt 0 (slice_index ms j)) named).1
  where
    low : (n j : ℕ) → nat_eq n most_maps ≡ true → j < n → j < most_maps
    low n j e h = grind (arith, nat_tests, e, h)

    within : (ms : List ℕ) (j : ℕ) → nat_lt 0 (slice_index ms j) ≡ true → j < length ms
    within ms j h = elim (cases_lt j (length ms)) [
      | inl lt ↦ lt
      | inr le ↦ absurd (true≢false (sym h ∙ ap (nat_lt 0) (get_or_past ms j 0 le)))
    ]

    below : (ms : List ℕ) (j : ℕ) → nat_eq (length ms) most_maps ≡ true → nat_lt 0 (slice_index ms j) ≡ true → j < most_maps
    below ms j size h = low (length ms) j size (within ms j h)

pub map_within : (heads : List Head) (f : FileNo) (j : ℕ) → ((k : ℕ) → has_page (head_in heads k) ≡ true) → maps_in heads f j ≡ true → j < most_maps
map_within heads f j pages there = let at = passes_at (names_map f j) FreeHead heads there in map_below f j (head_in heads at.0) (pages at.0) at.1

module _ (maps : ℕ → ℕ → ℕ) where
  named_is : (h : Head) (f : FileNo) (j : ℕ) → j < most_maps → names_map f j h ≡ (is_layout_of f (layout_by maps h) && nat_lt 0 (at_cell (layout_by maps h) (map_cell j)))
  named_is FreeHead f j below = refl
  named_is (Used g xs ms) f j below = ap (λ a. file_eq g f && nat_lt 0 a) (sym (map-cell-is maps (Used g xs ms) j below))

  -- the file has a layout with the page
  pub map_there : (heads : List Head) (f : FileNo) (j : ℕ) → j < most_maps → maps_in heads f j ≡ true
      → (k : ℕ) × (is_layout_of f (layout_at (layouts_by maps heads) k) ≡ true) × (at_cell (layout_at (layouts_by maps heads) k) (map_cell j) ≢ 0)
  map_there heads f j below there =
      let at = passes_at (names_map f j) FreeHead heads there in
      let here : (is_layout_of f (layout_by maps (head_in heads at.0)) && nat_lt 0 (at_cell (layout_by maps (head_in heads at.0)) (map_cell j))) ≡ true = sym (named_is (head_in heads at.0) f j below) ∙ at.1 in
      let is : layout_at (layouts_by maps heads) at.0 ≡ layout_by maps (head_in heads at.0) = get-map (layout_by maps) heads at.0 FreeHead in (
        at.0,
        ap (is_layout_of f) is ∙ (and_parts (is_layout_of f (layout_by maps (head_in heads at.0))) (nat_lt 0 (at_cell (layout_by maps (head_in heads at.0)) (map_cell j))) here).0,
        λ e. above (at_cell (layout_by maps (head_in heads at.0)) (map_cell j)) (and_parts (is_layout_of f (layout_by maps (head_in heads at.0))) (nat_lt 0 (at_cell (layout_by maps (head_in heads at.0)) (map_cell j))) here).1 (ap (λ l. at_cell l (map_cell j)) (sym is) ∙ e),
      )

  pub there_map : (heads : List Head) (f : FileNo) (j k : ℕ) → j < most_maps → is_layout_of f (layout_at (layouts_by maps heads) k) ≡ true → at_cell (layout_at (layouts_by maps heads) k) (map_cell j) ≢ 0 → maps_in heads f j ≡ true
  there_map heads f j k below file has =
      let is : layout_at (layouts_by maps heads) k ≡ layout_by maps (head_in heads k) = get-map (layout_by maps) heads k FreeHead in
      passes_any (names_map f j) FreeHead heads k refl (named_is (head_in heads k) f j below
      ∙ both (is_layout_of f (layout_by maps (head_in heads k))) (nat_lt 0 (at_cell (layout_by maps (head_in heads k)) (map_cell j)))
      (ap (is_layout_of f) (sym is) ∙ file) (is_above (at_cell (layout_by maps (head_in heads k)) (map_cell j)) (λ e. has (ap (λ l. at_cell l (map_cell j)) is ∙ e))))

  -- a block behind the head's is there only with its map page
  pub entry_map : (heads : List Head) (k j n : ℕ) → n < most_blocks → is_in_range j n ≡ true → at_cell (layout_at (layouts_by maps heads) k) n ≢ 0 → j < most_maps → at_cell (layout_at (layouts_by maps heads) k) (map_cell j) ≢ 0
  entry_map heads k j n low range has below none = by (head_in heads k)
      (λ e. has (ap (λ l. at_cell l n) is ∙ e)) (ap (λ l. at_cell l (map_cell j)) (sym is) ∙ none)
    where
      is : layout_at (layouts_by maps heads) k ≡ layout_by maps (head_in heads k)
      is = get-map (layout_by maps) heads k FreeHead

      by : (h : Head) → at_cell (layout_by maps h) n ≢ 0 → at_cell (layout_by maps h) (map_cell j) ≡ 0 → ⊥
      by FreeHead has none = has refl
      by (Used g xs ms) has none = has (laid-none maps (λ p. slice_index xs p) (λ j. slice_index ms j) j n (sym (map-cell-is maps (Used g xs ms) j below) ∙ none) low range)

-- ---- the layouts after a put

module _ (c later : Contents) (place : ℕ) (new : Layout) (there : place < length (layouts_in c)) (lays : LaysOut c place new later) where
  pub at_later : (j : ℕ) → ((j ≡ place) × (layout_at (layouts_in later) j ≡ new)) ⊎ ((j ≢ place) × (layout_at (layouts_in later) j ≡ layout_at (layouts_in c) j))
  at_later j = subst (λ ls. ((j ≡ place) × (layout_at ls j ≡ new)) ⊎ ((j ≢ place) × (layout_at ls j ≡ layout_at (layouts_in c) j))) (sym lays.layouts) (at_set Unused (layouts_in c) place new there j)

  pub at_place : layout_at (layouts_in later) place ≡ new
  at_place = elim (at_later place) [
    | inl h ↦ h.1
    | inr h ↦ absurd (h.0 refl)
  ]

  -- a page of another layout stays, and so does one at this place if the new layout has it
  stays : (f : FileNo) (j k : ℕ) → j < most_maps → is_layout_of f (layout_at (layouts_in c) k) ≡ true → at_cell (layout_at (layouts_in c) k) (map_cell j) ≢ 0
      → (k ≡ place → (is_layout_of f new ≡ true) × (at_cell new (map_cell j) ≢ 0)) → maps_in later.heads f j ≡ true
  stays f j k below file has here = ⊎_elim
      (λ e. let h = here e.0 in there_map (entry_of later.blocks) later.heads f j k below (ap (is_layout_of f) e.1 ∙ h.0) (λ none. h.1 (ap (λ l. at_cell l (map_cell j)) (sym e.1) ∙ none)))
      (λ e. there_map (entry_of later.blocks) later.heads f j k below (ap (is_layout_of f) e.1 ∙ file) (λ none. has (ap (λ l. at_cell l (map_cell j)) (sym e.1) ∙ none)))
      (at_later k)

module _ (c later : Contents) (i : StoredIntention) (place : ℕ) (new : Layout) (put : IsHeadPut (layouts_in c) i place new) (lays : LaysOut c place new later) (pages : (k : ℕ) → has_page (head_in c.heads k) ≡ true) where
  -- the pages of other files
  other_maps : (f : FileNo) (j : ℕ) → file_eq i.file f ≡ false → maps_in c.heads f j ≡ true → maps_in later.heads f j ≡ true
  other_maps f j other h =
      let below = map_within c.heads f j pages h in
      let at = map_there (entry_of c.blocks) c.heads f j below h in
      stays c later place new put.there lays f j at.0 below at.1 at.2
      (λ e. absurd (differ (serves_one i.what i.file f (layout_at (layouts_in c) place) put.serves (ap (λ k. is_layout_of f (layout_at (layouts_in c) k)) (sym e) ∙ at.1))))
    where
      differ : i.file ≡ f → ⊥
      differ e = true≢false (sym (itself f) ∙ sym (ap (λ g. file_eq g f) e) ∙ other)
        where
          itself : (f : FileNo) → file_eq f f ≡ true
          itself f = grind (arith, nat_tests)

  -- a page of the intention's file that its layout keeps
  own_maps : (f : FileNo) (j : ℕ) → i.file ≡ f → maps_in c.heads f j ≡ true → is_layout_of i.file new ≡ true
      → (at_cell (layout_at (layouts_in c) place) (map_cell j) ≢ 0 → map_after i.what i.block.0 i.map j (at_cell (layout_at (layouts_in c) place) (map_cell j)) ≢ 0) → maps_in later.heads f j ≡ true
  own_maps f j same h file keeps =
      let below = map_within c.heads f j pages h in
      let at = map_there (entry_of c.blocks) c.heads f j below h in
      stays c later place new put.there lays f j at.0 below at.1 at.2
      (λ e. (ap (λ g. is_layout_of g new) (sym same) ∙ file, λ none. keeps (λ gone. at.2 (ap (λ k. at_cell (layout_at (layouts_in c) k) (map_cell j)) e ∙ gone)) (sym (put.maps j below) ∙ none)))

  -- the page that the intention's block needs
  brought : (f : FileNo) (j : ℕ) → i.file ≡ f → i.what ≡ Put → is_layout_of i.file new ≡ true → is_in_range j i.block.0 ≡ true → maps_in later.heads f j ≡ true
  brought f j same what file range = there_map (entry_of later.blocks) later.heads f j place (low i.block.0 put.range range)
      (ap (is_layout_of f) (at_place c later place new put.there lays) ∙ ap (λ g. is_layout_of g new) (sym same) ∙ file)
      (entry_map (entry_of later.blocks) later.heads place j i.block.0 put.range range has (low i.block.0 put.range range))
    where
      low : (n : ℕ) → n < most_blocks → is_in_range j n ≡ true → j < most_maps
      low n lt r = grind (arith, nat_tests, lt, r)

      named : i.address ≢ 0
      named e = true≢false (sym (subst (λ w. names_what_it_needs w i.block.0 i.address i.map ≡ true) what put.names) ∙ ap (λ a. not (nat_eq a 0) && (nat_eq i.map 0 || nat_le head_blocks i.block.0)) e)

      itself : nat_eq i.block.0 i.block.0 ≡ true
      itself = grind (arith, nat_tests)

      its : at_cell new i.block.0 ≡ i.address
      its = put.addresses i.block.0 put.range ∙ ap (λ w. address_after w i.block.0 i.address i.block.0 (at_cell (layout_at (layouts_in c) place) i.block.0)) what
          ∙ ap (λ b. if b then i.address else at_cell (layout_at (layouts_in c) place) i.block.0) itself

      has : at_cell (layout_at (layouts_in later) place) i.block.0 ≢ 0
      has none = named (sym its ∙ ap (λ l. at_cell l i.block.0) (sym (at_place c later place new put.there lays)) ∙ none)

  -- those that are there after the intention
  pub head_maps : (f : FileNo) (j : ℕ) → places_after (bare i) (maps_in c.heads) f j ≡ true → maps_in later.heads f j ≡ true
  head_maps f j h = by (file_eq i.file f) refl h
    where
      kept : (b : Bool) (old : ℕ) → b ≡ true → old ≢ 0 → (if b then old else 0) ≢ 0
      kept true old e ne = ne
      kept false old e ne = absurd (true≢false (sym e))

      not_brought : (b : Bool) (m old : ℕ) → old ≢ 0 → (if b && nat_eq old 0 then m else old) ≢ 0
      not_brought b m old ne = by b (nat_eq old 0) (no_zero old ne)
        where
          no_zero : (old : ℕ) → old ≢ 0 → nat_eq old 0 ≡ false
          no_zero old ne = grind (arith, nat_tests, ne)

          by : (b z : Bool) → z ≡ false → (if b && z then m else old) ≢ 0
          by true true e = absurd (true≢false e)
          by true false e = ne
          by false z e = ne

      by_what : (what : What) → i.what ≡ what → i.file ≡ f → has_map_after what i.block.0 j (maps_in c.heads f j) ≡ true → maps_in later.heads f j ≡ true
      by_what Fresh e same h = absurd (true≢false (sym h))
      by_what Gone e same h = absurd (true≢false (sym h))
      by_what Cut e same h = own_maps f j same (and_parts (maps_in c.heads f j) (keeps_map i.block.0 j) h).0 (subst (λ w. is_head_after w i.file new ≡ true) e put.file_after)
          (λ ne none. kept (keeps_map i.block.0 j) (at_cell (layout_at (layouts_in c) place) (map_cell j)) (and_parts (maps_in c.heads f j) (keeps_map i.block.0 j) h).1 ne
          (ap (λ w. map_after w i.block.0 i.map j (at_cell (layout_at (layouts_in c) place) (map_cell j))) (sym e) ∙ none))
      by_what Put e same h = either (maps_in c.heads f j) refl h
        where
          file : is_layout_of i.file new ≡ true
          file = subst (λ w. is_head_after w i.file new ≡ true) e put.file_after

          either : (b : Bool) → maps_in c.heads f j ≡ b → (b || is_in_range j i.block.0) ≡ true → maps_in later.heads f j ≡ true
          either true was h = own_maps f j same was file
              (λ ne none. not_brought (is_in_range j i.block.0) i.map (at_cell (layout_at (layouts_in c) place) (map_cell j)) ne
              (ap (λ w. map_after w i.block.0 i.map j (at_cell (layout_at (layouts_in c) place) (map_cell j))) (sym e) ∙ none))
          either false was h = brought f j same e file h

      by : (b : Bool) → file_eq i.file f ≡ b → (if b then has_map_after i.what i.block.0 j (maps_in c.heads f j) else maps_in c.heads f j) ≡ true → maps_in later.heads f j ≡ true
      by true e h = by_what i.what refl (same_file i.file f e) h
      by false e h = other_maps f j e h

-- ---- a cut that is done in part takes no map page away

pub used_there : (layouts : List Layout) (f : FileNo) (k : ℕ) → is_layout_of f (layout_at layouts k) ≡ true → k < length layouts
used_there layouts f k h = elim (cases_lt k (length layouts)) [
  | inl lt ↦ lt
  | inr le ↦ absurd (true≢false (sym h ∙ ap (is_layout_of f) (get_or_past layouts k Unused le)))
]

pub part_maps : (c later : Contents) (i : StoredIntention) (m place : ℕ) (new : Layout) → IsPartPut (layouts_in c) i m place new → LaysOut c place new later → ((k : ℕ) → has_page (head_in c.heads k) ≡ true)
    → (f : FileNo) (j : ℕ) → maps_in c.heads f j ≡ true → maps_in later.heads f j ≡ true
part_maps c later i m place new put lays pages f j h =
    let below = map_within c.heads f j pages h in
    let at = map_there (entry_of c.blocks) c.heads f j below h in
    stays c later place new (used_there (layouts_in c) i.file place put.part.serves) lays f j at.0 below at.1 at.2
    (λ e. (its (ap (λ k. is_layout_of f (layout_at (layouts_in c) k)) (sym e) ∙ at.1), λ none. at.2 (ap (λ k. at_cell (layout_at (layouts_in c) k) (map_cell j)) e ∙ sym (put.maps j below) ∙ none)))
  where
    its : is_layout_of f (layout_at (layouts_in c) place) ≡ true → is_layout_of f new ≡ true
    its file = subst (λ g. is_layout_of g new ≡ true) (one_file i.file f (layout_at (layouts_in c) place) put.part.serves file) put.part.file_after
