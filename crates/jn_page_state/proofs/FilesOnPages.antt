-- The files of pages are those of the layouts of the heads that stand on them.
use Rattle.jn_page_state.proofs.Common.{most_blocks, ◌≡◌, ◌<◌, ◌≤◌, ◌+◌, ◌^◌, ℕ, zero, suc, Bool, true, false, if◌then◌else◌, List, Option, Some, None, refl, sym, ap, subst, ◌∙◌, true≢false, arith, fun_ext, slice_index, nat_lt, option_map, option_and_then, find, nat_tests, FileNo, BlockNo, LockUnit, File, Block, there, ServerNo, Head, FreeHead, Used, head_page, IsHead, FileFits, Counts, Pages, head_place, data_place, address_in, map_in, entry_in, address_by, is_page_of, head_from, head_of, block_behind, block_on_page, files_of_pages, head_is_read, Layout, at_cell, layout_by, layouts_by, is_layout_of, behind, block_in, files_in, entry_of, layouts_in, state_in, head_or_free, head_on, block_on, listed, IsHeadPage, IsOfFormat, IsLoadable, state_of, contents_of, free_unused, used_kind, used_file, used_address, used_map, block_entry}
use Rattle.jn_page_state.proofs.Laying.{laid_as}

module _ (g : Counts) (pages : Pages) (few : g.leaves < 2 ^ 16) where
  abbrev on_pages : ℕ → ℕ → ℕ
  on_pages d k = entry_in (pages (data_place g d)) k

  abbrev laid_out : Head → Layout
  laid_out h = layout_by (entry_of (block_on g pages)) h

  -- a head's page and its layout: for each block they lead to the same
  abbrev SameBlocks : List ℕ → Layout → Type 0
  SameBlocks page h = (p : BlockNo) → block_on_page g pages p page ≡ block_in (block_on g pages) p h

  behind_same : (a : ℕ) → block_behind g pages a ≡ behind (block_on g pages) a
  behind_same zero = refl
  behind_same (suc d) = refl

  pub same_cells : (page : List ℕ) (f : FileNo) (xs maps : List ℕ) → IsHead g.leaves (Used f xs maps) → FileFits (Used f xs maps) → page ≡ head_page (Used f xs maps)
      → (q : ℕ) → address_by g pages page q ≡ at_cell (layout_by (entry_of (block_on g pages)) (Used f xs maps)) q
  same_cells page f xs maps is fits e q = laid_as (entry_of (block_on g pages)) on_pages (λ p. slice_index xs p) (address_in page) (λ j. slice_index maps j) (map_in page)
      (λ p below. used_address g.leaves page few f xs maps is fits e p below)
      (λ j below. used_map g.leaves page few f xs maps is fits e j below)
      (λ j d k below low at. sym (block_entry (pages (data_place g d)) k low)) q

  same_blocks : (page : List ℕ) (f : FileNo) (xs maps : List ℕ) → IsHead g.leaves (Used f xs maps) → FileFits (Used f xs maps) → page ≡ head_page (Used f xs maps) → SameBlocks page (laid_out (Used f xs maps))
  same_blocks page f xs maps is fits e p = ap (λ (o : Option (List ℕ)). if nat_lt p.0 most_blocks then o else None) (ap (block_behind g pages) (same_cells page f xs maps is fits e p.0) ∙ behind_same (at_cell (laid_out (Used f xs maps)) p.0))

  -- a head stands on its page
  pub stands : (page : List ℕ) (h : Head) (is : IsHead g.leaves h) (fits : FileFits h) (e : page ≡ head_page h) (f : FileNo) → is_page_of f page ≡ is_layout_of f (layout_by (entry_of (block_on g pages)) h)
  stands page FreeHead is fits e f = grind (arith, free_unused g.leaves page few e)
  stands page (Used k xs maps) is fits e f = grind (arith, nat_tests, used_kind g.leaves page few k xs maps is fits e, used_file g.leaves page few k xs maps is fits e)

  blocks_if : (page : List ℕ) (h : Head) → IsHead g.leaves h → FileFits h → page ≡ head_page h → (f : FileNo) → is_layout_of f (laid_out h) ≡ true → SameBlocks page (laid_out h)
  blocks_if page FreeHead is fits e f t = absurd (nothing t)
    where
      nothing : false ≡ true → ⊥
      nothing t = grind arith
  blocks_if page (Used k xs maps) is fits e f t = same_blocks page k xs maps is fits e

  -- what is found of a file on the pages, and in the heads
  data Pairs (o : Option (List ℕ)) (q : Option Layout) : Type 0 where
    Neither : o ≡ None → q ≡ None → Pairs o q
    Both : (page : List ℕ) (h : Layout) → o ≡ Some page → q ≡ Some h → SameBlocks page h → Pairs o q

  one_more : (page : List ℕ) (h : Layout) (one two : Bool) (o : Option (List ℕ)) (q : Option Layout) → one ≡ two → (two ≡ true → SameBlocks page h) → Pairs o q → Pairs (if one then Some page else o) (if two then Some h else q)
  one_more page h true true o q e same rest = Both page h refl refl (same refl)
  one_more page h false false o q e same rest = rest
  one_more page h true false o q e same rest = absurd (true≢false e)
  one_more page h false true o q e same rest = absurd (true≢false (sym e))

  pairs : ((i : ℕ) → i < g.heads → IsHeadPage g.leaves (pages (head_place g i))) → (f : FileNo) (i n : ℕ) → i + n ≤ g.heads
      → Pairs (head_from g pages f i n) (find (is_layout_of f) (layouts_by (entry_of (block_on g pages)) (listed (head_on g pages) i n)))
  pairs format f i zero fits = Neither refl refl
  pairs format f i (suc n) fits =
      let at = format i (omega (arith, fits)) in
      let page = pages (head_place g i) in
      let on : head_on g pages i ≡ at.0 = ap head_or_free (head_is_read g.leaves page at.0 few at.1 at.2 at.3) in
      let next : suc i ≡ i + 1 = omega arith in
      one_more page (laid_out (head_on g pages i)) (is_page_of f page) (is_layout_of f (laid_out (head_on g pages i))) (head_from g pages f (i + 1) n) (find (is_layout_of f) (layouts_by (entry_of (block_on g pages)) (listed (head_on g pages) (suc i) n)))
      (stands page at.0 at.1 at.2 at.3 f ∙ ap (λ h. is_layout_of f (laid_out h)) (sym on))
      (λ t. subst (λ h. SameBlocks page (laid_out h)) (sym on) (blocks_if page at.0 at.1 at.2 at.3 f (ap (λ h. is_layout_of f (laid_out h)) (sym on) ∙ t)))
      (subst (λ k. Pairs (head_from g pages f k n) (find (is_layout_of f) (layouts_by (entry_of (block_on g pages)) (listed (head_on g pages) (suc i) n)))) next (pairs format f (suc i) n (omega (arith, fits))))

  file_same : (o : Option (List ℕ)) (q : Option Layout) → Pairs o q → option_map (λ head. there) o ≡ option_map (λ h. there) q
  file_same o q (Neither a b) = rw (a, b) refl
  file_same o q (Both page h a b same) = rw (a, b) refl

  block_same : (o : Option (List ℕ)) (q : Option Layout) (p : BlockNo) → Pairs o q → option_and_then (block_on_page g pages p) o ≡ option_and_then (block_in (block_on g pages) p) q
  block_same o q p (Neither a b) = rw (a, b) refl
  block_same o q p (Both page h a b same) = rw (a, b) (same p)

  pub files_on_pages : ((i : ℕ) → i < g.heads → IsHeadPage g.leaves (pages (head_place g i))) → files_of_pages g pages ≡ files_in (layouts_in (contents_of g pages)) (block_on g pages)
  files_on_pages format = fun_ext (λ u. at u)
    where
      at : (u : LockUnit) → files_of_pages g pages u ≡ files_in (layouts_in (contents_of g pages)) (block_on g pages) u
      at (File f) = file_same (head_of g pages f) (find (is_layout_of f) (layouts_in (contents_of g pages))) (pairs format f 0 g.heads (omega arith))
      at (Block f p) = block_same (head_of g pages f) (find (is_layout_of f) (layouts_in (contents_of g pages))) p (pairs format f 0 g.heads (omega arith))

  pub state_on_pages : ((i : ℕ) → i < g.heads → IsHeadPage g.leaves (pages (head_place g i))) → state_of g pages ≡ state_in (contents_of g pages)
  state_on_pages format = ap (λ f. record (state_in (contents_of g pages)) { files = f }) (files_on_pages format)

-- what a recovery may load is said of the pages and of what they say alike
module _ (server : ServerNo) (g : Counts) (pages : Pages) (format : IsOfFormat server g pages) where
  pub state_said : state_of g pages ≡ state_in (contents_of g pages)
  state_said = state_on_pages g pages format.root.2.leaves format.heads

  pub loadable_said : IsLoadable server g.heads (state_of g pages) → IsLoadable server g.heads (state_in (contents_of g pages))
  loadable_said is = subst (IsLoadable server g.heads) state_said is

  pub loadable_found : IsLoadable server g.heads (state_in (contents_of g pages)) → IsLoadable server g.heads (state_of g pages)
  loadable_found is = subst (IsLoadable server g.heads) (sym state_said) is
