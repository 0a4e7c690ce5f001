-- What a load has read: the heads that the store holds, and their map pages.
use Rattle.jn_files.proofs.Common.{◌≡◌, inl, inr, ◌<◌, ◌^◌, ℕ, suc, List, length, refl, sym, ap, subst, ◌∙◌, arith, cases_eq, cases_lt, get_or_past, most_maps, most_blocks, Head, Free, head_page, map_page, IsMapPage, Layout, at_cell, head_map, kept_entry, layout_at, map_cell, IsNoMap, maps_named, Counts, head_place, data_place, page_count, StoreView, IsOnly, Candidate, IsChoice, with_page, with_same, with_other, later_trans, same_trans, same_shrinks, head_in, row_at, layouts_of, AreHeads, AreNamedOnce, HoldsHeads, MapsLoadable, IsMapChoice, layouts_on, LoadedFrom, StoreRead, IsMapOfHeads, AreMapPages, MapsCleaned, MapsHeld, MapsMended, MendsMaps, IsReadFrom}
use Rattle.jn_files.proofs.Cutting.{map_page_below}
use Rattle.jn_files.proofs.Lookup.{map_at_cell}
use Rattle.jn_files.proofs.Said.{layouts_said, named_below, same_leaf, same_only}

-- what a head names as a map page
pub named_map : (heads : List Head) (slot j d : ℕ) → j < most_maps → head_map (head_in heads slot) j ≡ suc d → IsMapOfHeads heads (length heads) d
named_map heads slot j d lt e = elim (cases_lt slot (length heads)) [
  | inl below ↦ record { slot = slot; before = below; of_head = record { map = j; below = lt; names = e } }
  | inr past ↦ absurd (let none : head_map (head_in heads slot) j ≡ 0 = ap (λ (h : Head). head_map h j) (get_or_past heads slot Free past) in omega (arith, none, e))
]

module _ (g : Counts) (heads : List Head) (u : StoreView) (loadable : MapsLoadable g heads u) (fits : u.count ≡ page_count g) where
  map_low : (slot j d : ℕ) → head_map (head_in heads slot) j ≡ suc d → d < g.leaves
  map_low slot j d e = map_page_below g.leaves (head_in heads slot) (loadable.each slot) j d e

  -- each candidate of a map page is one: there is a choice that takes it
  module _ (v : StoreView) (read : StoreRead u g.heads v) where
    pub are_map_pages : AreMapPages g (IsMapOfHeads heads (length heads)) v
    are_map_pages d is page here =
        subst (IsMapPage g.leaves) (with_same u.first (data_place g d) page (data_place g d) refl)
        ((loadable.choices (with_page u.first (data_place g d) page) choice).whole is.slot is.of_head.map d is.of_head.below is.of_head.names)
      where
        choice : IsChoice u (with_page u.first (data_place g d) page)
        choice i lt = elim (cases_eq (data_place g d) i) [
          | inl e ↦ subst (λ (k : ℕ). Candidate u k (with_page u.first (data_place g d) page k)) e
              (subst (Candidate u (data_place g d)) (sym (with_same u.first (data_place g d) page (data_place g d) refl)) (same_shrinks u v (data_place g d) (read.same (data_place g d)) page here))
          | inr ne ↦ subst (Candidate u i) (sym (with_other u.first (data_place g d) page i ne)) (inl refl)
        ]

    -- ---- once they are read

    module _ (w : StoreView) (cleaned : MapsCleaned g (IsMapOfHeads heads (length heads)) (maps_named heads) v w) where
      pub loaded_from : LoadedFrom g heads u w
      loaded_from = record {
        later = later_trans u v w read.later cleaned.later;
        calls = let a = read.calls in let b = cleaned.calls in omega (arith, a, b);
        fewer = λ i lt x here. same_shrinks u v i (read.same i) x (cleaned.fewer i (on i lt) x here);
        others = λ i lt none. same_trans u v w i (read.same i) (cleaned.others i (on i lt) (λ d is e. none d e is.slot is.of_head.map is.of_head.below is.of_head.names));
      }
        where
          on : (i : ℕ) → i < u.count → i < v.count
          on i lt = let e = read.later.count in omega (arith, e, lt)

      pub mends_maps : MapsMended g (IsMapOfHeads heads (length heads)) v w → MendsMaps g heads u w
      mends_maps mended = λ calm d slot j lt low e. mended (read.later.calm calm) d lt (named_map heads slot j d low e)

      module _ (rows : List (List ℕ)) (held : MapsHeld g (IsMapOfHeads heads (length heads)) rows w) (small : g.leaves < 2 ^ 16) where
        first_choice : IsChoice u w.first
        first_choice i lt = loaded_from.fewer i lt (w.first i) (inl refl)

        maps_only : (slot j d : ℕ) → j < most_maps → head_map (head_in heads slot) j ≡ suc d → IsOnly w (data_place g d) (map_page (row_at rows d))
        maps_only slot j d lt e = (held.read d (map_low slot j d e) (named_map heads slot j d lt e)).only

        layouts_are : layouts_on g heads w.first ≡ layouts_of rows heads
        layouts_are = layouts_said g w.first rows small held.rows_are heads loadable.each (λ slot j d lt e. (maps_only slot j d lt e).first)

        chosen : IsMapChoice g heads u w.first
        chosen = loadable.choices w.first first_choice

        once : AreNamedOnce (layouts_of rows heads)
        once = subst AreNamedOnce layouts_are chosen.once

        pub read_heads : AreHeads g.leaves rows heads
        read_heads = record { each = loadable.each; files = loadable.files; map_rows = held.rows_are; addresses = once }

        -- the page of a block isn't that of a map page
        no_map : (slot p a : ℕ) → p < most_blocks → at_cell (layout_at (layouts_of rows heads) slot) p ≡ suc a → (d : ℕ) → data_place g a ≡ data_place g d → IsNoMap heads d
        no_map slot p a lt e d same i j low names =
            let here : at_cell (layout_at (layouts_of rows heads) i) (map_cell j) ≡ suc a = map_at_cell (kept_entry rows) heads i j low ∙ names ∙ ap suc (let k : d ≡ a = omega (arith, same) in k) in
            let cell = (once a slot p i (map_cell j) e here).1 in
            omega (arith, cell, lt)

        pub read_holds : HoldsHeads g rows heads w
        read_holds = record {
          stored = λ slot lt. same_only u w (head_place g slot) (head_page (head_in heads slot))
              (loaded_from.others (head_place g slot) (let s = loadable.slots in omega (arith, lt, s, fits)) (λ d same. absurd (let s = loadable.slots in omega (arith, lt, s, same)))) (loadable.stored slot lt);
          maps = maps_only;
          leaves = λ slot p a lt e.
              let low = named_below g rows heads read_heads slot p a e in
              same_leaf u w (data_place g a) (loaded_from.others (data_place g a) (omega (arith, low, fits)) (no_map slot p a lt e))
              (chosen.leaves slot p a lt (subst (λ (ls : List Layout). at_cell (layout_at ls slot) p ≡ suc a) (sym layouts_are) e));
        }

        pub read_from : (slots : List Head) → slots ≡ heads → IsReadFrom g heads slots rows w
        read_from slots e = record { slots_are = e; heads_are = read_heads; holds = read_holds }
