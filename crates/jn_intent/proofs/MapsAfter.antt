-- Which map pages heads name once an intention is carried out.
use Rattle.jn_intent.proofs.Common.{◌≡◌, ◌≢◌, ⊎_elim, ◌<◌, ◌≤◌, ◌+◌, ◌/◌, ℕ, zero, suc, Bool, true, false, ◌&&◌, ◌||◌, if◌then◌else◌, List, [], ◌∷◌, length, refl, sym, ◌∙◌, ap, subst, true≢false, arith, fun_ext, cases_lt, false_from_ne_true, nat_tests, nat_eq, nat_lt, slice_set, slice_index, slice_index_or, list_any, FileNo, file_eq, file_tells, TableView, IsTable, head_in, layouts_in, serves_for, is_head_after, map_after, IsHeadPut, any_same, at_set, passes_any, passes_at, Head, FreeHead, Used, StoredIntention, What, Fresh, Gone, Cut, Put, most_maps, most_cells, Layout, Unused, Of, at_cell, layout_at, is_layout_of, map_cell, layout_by, layouts_by, kept_entry, maps_in, places_after, get_or_past, bare, has_map_after, is_in_range, keeps_map, laid-map, laid-past, head_has_page}
use Rattle.jn_intent.proofs.Census.{cell_below}

pub both_ways : (b c : Bool) → (b ≡ true → c ≡ true) → (c ≡ true → b ≡ true) → b ≡ c
both_ways true true f g = refl
both_ways true false f g = absurd (true≢false (sym (f refl)))
both_ways false true f g = absurd (true≢false (sym (g refl)))
both_ways false false f g = refl

-- where one place alone passes
any_only : {X : Type 0} (p : X → Bool) (d : X) (xs : List X) (i : ℕ) → p d ≡ false → ((j : ℕ) → p (slice_index_or xs j d) ≡ true → j ≡ i) → list_any p xs ≡ p (slice_index_or xs i d)
any_only p d xs i out only = both_ways (list_any p xs) (p (slice_index_or xs i d))
    (λ t. let at = passes_at p d xs t in subst (λ j. p (slice_index_or xs j d) ≡ true) (only at.0 at.1) at.1)
    (λ t. passes_any p d xs i out t)

-- a layout of a file with a map page
abbrev has_map : FileNo → ℕ → Layout → Bool
has_map f j l = is_layout_of f l && nat_lt 0 (at_cell l (map_cell j))

maps_laid : (maps : ℕ → ℕ → ℕ) (heads : List Head) (f : FileNo) (j : ℕ) → ((k : ℕ) → head_has_page (head_in heads k) ≡ true) → maps_in heads f j ≡ list_any (has_map f j) (layouts_by maps heads)
maps_laid maps [] f j pages = refl
maps_laid maps (FreeHead ∷ heads) f j pages = maps_laid maps heads f j (λ k. pages (suc k))
maps_laid maps (Used g xs ms ∷ heads) f j pages =
    ap (λ b. (file_eq g f && b) || maps_in heads f j) (⊎_elim
    (λ lt. ap (nat_lt 0) (sym (laid-map maps (λ p. slice_index xs p) (λ k. slice_index ms k) j lt)))
    (λ ge. ap (nat_lt 0) (past ge) ∙ ap (nat_lt 0) (sym (laid-past maps (λ p. slice_index xs p) (λ k. slice_index ms k) (map_cell j) (far j ge))))
    (cases_lt j most_maps))
    ∙ ap (λ b. (file_eq g f && nat_lt 0 (at_cell (layout_by maps (Used g xs ms)) (map_cell j))) || b) (maps_laid maps heads f j (λ k. pages (suc k)))
  where
    far : (j : ℕ) → most_maps ≤ j → most_cells ≤ map_cell j
    far j ge = omega (arith, ge)

    long : length ms ≡ most_maps
    long = by (length xs) (length ms) (pages 0)
      where
        by : (a b : ℕ) → (nat_eq a 120 && nat_eq b 20) ≡ true → b ≡ 20
        by a b h = grind (arith, nat_tests, h)

    past : most_maps ≤ j → slice_index ms j ≡ 0
    past ge = get_or_past ms j 0 (omega (arith, long, ge))

-- the file of a layout that an intention may be carried out at, and of the one that it leaves
served : (w : What) (f g : FileNo) (l : Layout) → serves_for w f l ≡ true → is_layout_of g l ≡ true → f ≡ g
served w f g Unused s t = absurd (true≢false (sym t))
served Fresh f g (Of k cells) s t = grind (arith, file_tells, s, t)
served Gone f g (Of k cells) s t = grind (arith, file_tells, s, t)
served Cut f g (Of k cells) s t = grind (arith, file_tells, s, t)
served Put f g (Of k cells) s t = grind (arith, file_tells, s, t)

left : (w : What) (f g : FileNo) (l : Layout) → is_head_after w f l ≡ true → is_layout_of g l ≡ true → f ≡ g
left w f g Unused s t = absurd (true≢false (sym t))
left Fresh f g (Of k cells) s t = grind (arith, file_tells, s, t)
left Gone f g (Of k cells) s t = absurd (true≢false (sym s))
left Cut f g (Of k cells) s t = grind (arith, file_tells, s, t)
left Put f g (Of k cells) s t = grind (arith, file_tells, s, t)

module _ (t : TableView) (is : IsTable t) (i : StoredIntention) (place : ℕ) (new : Layout) (put : IsHeadPut (layouts_in t) i place new) where
  abbrev old : Layout
  old = layout_at (layouts_in t) place

  here : layout_at (slice_set (layouts_in t) place new) place ≡ new
  here = ⊎_elim (λ h. h.1) (λ h. absurd (h.0 refl)) (at_set Unused (layouts_in t) place new put.there place)

  before : (f : FileNo) (j : ℕ) → maps_in t.heads f j ≡ list_any (has_map f j) (layouts_in t)
  before f j = maps_laid (kept_entry t.maps) t.heads f j (λ k. (is.heads.each k).is_head.whole)

  not_of : (b c : Bool) → b ≡ false → (b && c) ≡ false
  not_of b c e = grind (arith, e)

  both : (b c : Bool) → (b && c) ≡ true → b ≡ true
  both b c e = grind (arith, e)

  -- the intention's own
  own_before : (j : ℕ) → maps_in t.heads i.file j ≡ has_map i.file j old
  own_before j = before i.file j ∙ any_only (has_map i.file j) Unused (layouts_in t) place refl
      (λ k h. put.only k (both (is_layout_of i.file (layout_at (layouts_in t) k)) (nat_lt 0 (at_cell (layout_at (layouts_in t) k) (map_cell j))) h))

  -- the file's map pages, before
  pub map_before : (j : ℕ) → is_layout_of i.file (layout_at (layouts_in t) place) ≡ true → maps_in t.heads i.file j ≡ nat_lt 0 (at_cell (layout_at (layouts_in t) place) (map_cell j))
  map_before j own = own_before j ∙ ap (λ b. b && nat_lt 0 (at_cell old (map_cell j))) own

  module _ (u : TableView) (will : IsTable u) (layouts : layouts_in u ≡ slice_set (layouts_in t) place new) where
    after : (f : FileNo) (j : ℕ) → maps_in u.heads f j ≡ list_any (has_map f j) (slice_set (layouts_in t) place new)
    after f j = maps_laid (kept_entry u.maps) u.heads f j (λ k. (will.heads.each k).is_head.whole) ∙ ap (list_any (has_map f j)) layouts

    -- another file
    other : (f : FileNo) (j : ℕ) → i.file ≢ f → maps_in u.heads f j ≡ maps_in t.heads f j
    other f j ne = after f j
        ∙ any_same (has_map f j) Unused (layouts_in t) place new
        (not_of (is_layout_of f old) (nat_lt 0 (at_cell old (map_cell j))) (false_from_ne_true (is_layout_of f old) (λ t. ne (served i.what i.file f old put.serves t)))
        ∙ sym (not_of (is_layout_of f new) (nat_lt 0 (at_cell new (map_cell j))) (false_from_ne_true (is_layout_of f new) (λ t. ne (left i.what i.file f new put.file_after t)))))
        ∙ sym (before f j)

    own_after : (j : ℕ) → maps_in u.heads i.file j ≡ has_map i.file j new
    own_after j = after i.file j ∙ any_only (has_map i.file j) Unused (slice_set (layouts_in t) place new) place refl
        (λ k h. ⊎_elim
        (λ e. e.0)
        (λ ne. put.only k (ap (is_layout_of i.file) (sym ne.1) ∙ both (is_layout_of i.file (layout_at (slice_set (layouts_in t) place new) k)) (nat_lt 0 (at_cell (layout_at (slice_set (layouts_in t) place new) k) (map_cell j))) h))
        (at_set Unused (layouts_in t) place new put.there k))
        ∙ ap (has_map i.file j) here

    module _ (j : ℕ) (brings : i.what ≡ Put → is_in_range j i.block.0 ≡ true → at_cell old (map_cell j) ≡ 0 → i.map ≢ 0) where
      own_same : maps_in u.heads i.file j ≡ has_map_after i.what i.block.0 j (maps_in t.heads i.file j)
      own_same = own_after j ∙ ⊎_elim low high (cases_lt j most_maps) ∙ ap (has_map_after i.what i.block.0 j) (sym (own_before j))
        where
          old_file : (w : What) → i.what ≡ w → serves_for w i.file old ≡ true
          old_file w e = subst (λ w. serves_for w i.file old ≡ true) e put.serves

          new_file : (w : What) → i.what ≡ w → is_head_after w i.file new ≡ true
          new_file w e = subst (λ w. is_head_after w i.file new ≡ true) e put.file_after

          with_file : (l : Layout) → is_layout_of i.file l ≡ true → has_map i.file j l ≡ nat_lt 0 (at_cell l (map_cell j))
          with_file l h = ap (λ b. b && nat_lt 0 (at_cell l (map_cell j))) h

          cut_file : (l : Layout) → serves_for Cut i.file l ≡ true → is_layout_of i.file l ≡ true
          cut_file Unused h = h
          cut_file (Of g cells) h = h

          put_file : (l : Layout) → serves_for Put i.file l ≡ true → is_layout_of i.file l ≡ true
          put_file Unused h = h
          put_file (Of g cells) h = h

          cut_left : (l : Layout) → is_head_after Cut i.file l ≡ true → is_layout_of i.file l ≡ true
          cut_left Unused h = h
          cut_left (Of g cells) h = h

          put_left : (l : Layout) → is_head_after Put i.file l ≡ true → is_layout_of i.file l ≡ true
          put_left Unused h = h
          put_left (Of g cells) h = h

          gone_left : (l : Layout) → is_head_after Gone i.file l ≡ true → has_map i.file j l ≡ false
          gone_left Unused h = refl
          gone_left (Of g cells) h = absurd (true≢false (sym h))

          none_lt : nat_lt 0 0 ≡ false
          none_lt = grind (arith, nat_tests)

          no_cell : (l : Layout) → at_cell l (map_cell j) ≡ 0 → has_map i.file j l ≡ false
          no_cell l e = ap (λ (k : ℕ). is_layout_of i.file l && nat_lt 0 k) e ∙ ap (λ b. is_layout_of i.file l && b) none_lt ∙ nothing (is_layout_of i.file l)
            where
              nothing : (b : Bool) → (b && false) ≡ false
              nothing true = refl
              nothing false = refl

          -- a map page that a head may have
          low : j < most_maps → has_map i.file j new ≡ has_map_after i.what i.block.0 j (has_map i.file j old)
          low lt = by i.what refl
            where
              cell : (w : What) → i.what ≡ w → at_cell new (map_cell j) ≡ map_after w i.block.0 i.map j (at_cell old (map_cell j))
              cell w e = put.maps j lt ∙ ap (λ w. map_after w i.block.0 i.map j (at_cell old (map_cell j))) e

              by : (w : What) → i.what ≡ w → has_map i.file j new ≡ has_map_after w i.block.0 j (has_map i.file j old)
              by Fresh e = no_cell new (cell Fresh e)
              by Gone e = gone_left new (new_file Gone e)
              by Cut e = with_file new (cut_left new (new_file Cut e)) ∙ ap (nat_lt 0) (cell Cut e) ∙ kept (keeps_map i.block.0 j) (at_cell old (map_cell j))
                  ∙ ap (λ b. b && keeps_map i.block.0 j) (sym (with_file old (cut_file old (old_file Cut e))))
                where
                  kept : (b : Bool) (c : ℕ) → nat_lt 0 (if b then c else 0) ≡ (nat_lt 0 c && b)
                  kept true c = and_true (nat_lt 0 c)
                    where
                      and_true : (b : Bool) → b ≡ (b && true)
                      and_true true = refl
                      and_true false = refl
                  kept false c = none_lt ∙ and_false (nat_lt 0 c)
                    where
                      and_false : (b : Bool) → false ≡ (b && false)
                      and_false true = refl
                      and_false false = refl
              by Put e = with_file new (put_left new (new_file Put e)) ∙ ap (nat_lt 0) (cell Put e) ∙ comes (is_in_range j i.block.0) refl (at_cell old (map_cell j)) refl
                  ∙ ap (λ b. b || is_in_range j i.block.0) (sym (with_file old (put_file old (old_file Put e))))
                where
                  some : (m : ℕ) → m ≢ 0 → nat_lt 0 m ≡ true
                  some m ne = grind (arith, nat_tests, ne)

                  comes : (b : Bool) → is_in_range j i.block.0 ≡ b → (c : ℕ) → at_cell old (map_cell j) ≡ c → nat_lt 0 (if b && nat_eq c 0 then i.map else c) ≡ (nat_lt 0 c || b)
                  comes false f c g = or_false (nat_lt 0 c)
                    where
                      or_false : (b : Bool) → b ≡ (b || false)
                      or_false true = refl
                      or_false false = refl
                  comes true f zero g = some i.map (brings e f g) ∙ ap (λ b. b || true) (sym none_lt)
                  comes true f (suc c) g = there c
                    where
                      there : (c : ℕ) → nat_lt 0 (if true && nat_eq (suc c) 0 then i.map else suc c) ≡ (nat_lt 0 (suc c) || true)
                      there c = let a : nat_eq (suc c) 0 ≡ false = grind (arith, nat_tests) in let b : nat_lt 0 (suc c) ≡ true = grind (arith, nat_tests) in grind (arith, a, b)

          -- and none past those
          high : most_maps ≤ j → has_map i.file j new ≡ has_map_after i.what i.block.0 j (has_map i.file j old)
          high ge = no_cell new none_after ∙ by i.what refl
            where
              zero_cell : (k : ℕ) → (a : ℕ) → k ≡ a → ((d : ℕ) → k ≡ suc d → ⊥) → k ≡ 0
              zero_cell k zero e none = e
              zero_cell k (suc a) e none = absurd (none a e)

              past : (d : ℕ) → map_cell j < most_cells → ⊥
              past d lt = omega (arith, lt, ge)

              none_after : at_cell new (map_cell j) ≡ 0
              none_after = zero_cell (at_cell new (map_cell j)) (at_cell new (map_cell j)) refl
                  (λ d e. past d (cell_below (kept_entry u.maps) u.heads place (map_cell j) d (ap (λ ls. at_cell (layout_at ls place) (map_cell j)) layouts ∙ ap (λ l. at_cell l (map_cell j)) here ∙ e)))

              none_before : at_cell old (map_cell j) ≡ 0
              none_before = zero_cell (at_cell old (map_cell j)) (at_cell old (map_cell j)) refl (λ d e. past d (cell_below (kept_entry t.maps) t.heads place (map_cell j) d e))

              out_of_range : is_in_range j i.block.0 ≡ false
              out_of_range = let lt = put.range in let r : nat_eq (i.block.0 / 120) (j + 1) ≡ false = (let ne : i.block.0 / 120 ≢ j + 1 = (λ e. let no_way : ⊥ = omega (arith, e, lt, ge) in no_way) in grind (arith, nat_tests, ne)) in r

              was : has_map i.file j old ≡ false
              was = no_cell old none_before

              by : (w : What) → i.what ≡ w → false ≡ has_map_after w i.block.0 j (has_map i.file j old)
              by Fresh e = refl
              by Gone e = refl
              by Cut e = sym (ap (λ b. b && keeps_map i.block.0 j) was)
              by Put e = sym (ap (λ b. b || is_in_range j i.block.0) was ∙ out_of_range)

    -- all of them
    pub maps_after : ((j : ℕ) → i.what ≡ Put → is_in_range j i.block.0 ≡ true → at_cell (layout_at (layouts_in t) place) (map_cell j) ≡ 0 → i.map ≢ 0) → maps_in u.heads ≡ places_after (bare i) (maps_in t.heads)
    maps_after brings = fun_ext (λ f. fun_ext (λ j. ⊎_elim
        (λ same. subst (λ g. maps_in u.heads g j ≡ places_after (bare i) (maps_in t.heads) g j) same.1 (own_same j (brings j) ∙ sym (ap (λ b. if b then has_map_after i.what i.block.0 j (maps_in t.heads i.file j) else maps_in t.heads i.file j) self)))
        (λ ne. other f j ne.1 ∙ sym (ap (λ b. if b then has_map_after i.what i.block.0 j (maps_in t.heads f j) else maps_in t.heads f j) ne.0))
        (file_tells i.file f)))
      where
        self : file_eq i.file i.file ≡ true
        self = grind (arith, nat_tests)
