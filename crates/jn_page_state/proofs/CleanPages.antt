-- Where what is read has one candidate, all picks find one state.
use Rattle.jn_page_state.proofs.Common.{◌≡◌, ◌⊎◌, inl, inr, ⊎_elim, ◌<◌, ◌≤◌, ◌-◌, ℕ, suc, Bool, true, false, if◌then◌else◌, [], refl, sym, ap, ◌∙◌, arith, cases_lt, nat_tests, nat_lt, take, ServerNo, head_at, root_at, record_at, most_blocks, most_maps, most_cells, map_cell, at_cell, layout_at, Counts, page_count, slot_place, head_place, data_place, Pick, IsUp, StoreView, IsClean, entry_of, layouts_in, heads_name, works_have, names_for_block, state_in, half_of, pages_by, found_on, contents_of, epoch_by, record_or_free, head_or_free, record_on, head_on, heads_on, block_on, NamedAreClean, MapsAreClean, is_read, Addresses, IsReadable, IsFrontClean, or_left, or_right}
use Rattle.jn_page_state.proofs.FilesOnPages.{state_on_pages}
use Rattle.jn_page_state.proofs.FillLaws.{named_read}
use Rattle.jn_page_state.proofs.Laying.{map_at}
use Rattle.jn_page_state.proofs.MapPages.{said_map}
use Rattle.jn_page_state.proofs.Naming.{either, cell_named, named_cell}
use Rattle.jn_page_state.proofs.PageChanges.{contents_as, listed_same}

module _ (server : ServerNo) (g : Counts) (v : StoreView) (readable : IsReadable server g v) (front : IsFrontClean g v) (maps : MapsAreClean g v) (clean : NamedAreClean g v) where
  one_half : (k : ℕ) (b : Bool) → IsClean v k → (if b then v.second k else v.first k) ≡ v.first k
  one_half k true e = sym e
  one_half k false e = refl

  one_page : (c : Pick) (k : ℕ) → IsClean v k → pages_by v c k ≡ pages_by v (λ n. false) k
  one_page c k e = ap (λ x. if nat_lt k v.count then x else []) (one_half k (c k) e)

  past_page : (c : Pick) (d : ℕ) → g.leaves ≤ d → pages_by v c (data_place g d) ≡ pages_by v (λ n. false) (data_place g d)
  past_page c d past =
      let e : page_count g ≡ v.count = readable.count in
      let t : nat_lt (data_place g d) v.count ≡ false = outside (data_place g d) v.count (omega (arith, e, past)) in
      ap (λ b. if b then half_of v (data_place g d) c else []) t ∙ sym (ap (λ b. if b then half_of v (data_place g d) (λ n. false) else []) t)
    where
      outside : (a b : ℕ) → b ≤ a → nat_lt a b ≡ false
      outside a b h = grind (arith, nat_tests)

  -- what is read is named for a block, or is a map page
  clean_read : (d : ℕ) → d < g.leaves → is_read (contents_of g (pages_by v (λ n. false))) d ≡ true → IsClean v (data_place g d)
  clean_read d lt read = by (either (heads_name most_cells (layouts_in (contents_of g (pages_by v (λ n. false)))) (suc d)) (works_have (names_for_block (suc d)) (contents_of g (pages_by v (λ n. false))).pool) read)
    where
      map : (i q : ℕ) → q < most_cells → most_blocks ≤ q → Addresses (layouts_in (contents_of g (pages_by v (λ n. false)))) i q d → IsClean v (data_place g d)
      map i q below past at =
          let low : q - most_blocks < most_maps = omega (arith, below, past) in
          let its : map_cell (q - most_blocks) ≡ q = omega (arith, past) in
          maps (λ n. false) d lt (said_map g (pages_by v (λ n. false)) (readable.each (λ n. false)).root.2.leaves (readable.each (λ n. false)).heads i (q - most_blocks) d low
          (sym (map_at (entry_of (block_on g (pages_by v (λ n. false)))) (heads_on g (pages_by v (λ n. false))) i (q - most_blocks) low)
          ∙ ap (at_cell (layout_at (layouts_in (contents_of g (pages_by v (λ n. false)))) i)) its ∙ at))

      cell : (i : ℕ) × (q : ℕ) × (q < most_cells) × Addresses (layouts_in (contents_of g (pages_by v (λ n. false)))) i q d → IsClean v (data_place g d)
      cell at = ⊎_elim
          (λ block. clean (λ n. false) d lt (or_left (heads_name most_blocks (layouts_in (contents_of g (pages_by v (λ n. false)))) (suc d)) (works_have (names_for_block (suc d)) (contents_of g (pages_by v (λ n. false))).pool)
          (cell_named most_blocks (layouts_in (contents_of g (pages_by v (λ n. false)))) at.0 at.1 d block at.3)))
          (λ past. map at.0 at.1 at.2 past at.3)
          (cases_lt at.1 most_blocks)

      by : (heads_name most_cells (layouts_in (contents_of g (pages_by v (λ n. false)))) (suc d) ≡ true) ⊎ (works_have (names_for_block (suc d)) (contents_of g (pages_by v (λ n. false))).pool ≡ true) → IsClean v (data_place g d)
      by (inl t) = cell (named_cell most_cells (layouts_in (contents_of g (pages_by v (λ n. false)))) d t)
      by (inr t) = clean (λ n. false) d lt (or_right (heads_name most_blocks (layouts_in (contents_of g (pages_by v (λ n. false)))) (suc d)) (works_have (names_for_block (suc d)) (contents_of g (pages_by v (λ n. false))).pool) t)

  block_read : (c : Pick) (d : ℕ) → is_read (contents_of g (pages_by v (λ n. false))) d ≡ true → block_on g (pages_by v c) d ≡ block_on g (pages_by v (λ n. false)) d
  block_read c d read = ap (take 448) (⊎_elim (λ lt. one_page c (data_place g d) (clean_read d lt read)) (λ past. past_page c d past) (cases_lt d g.leaves))

  same_front : (c : Pick) → contents_of g (pages_by v c) ≡ record (contents_of g (pages_by v (λ n. false))) { blocks = block_on g (pages_by v c) }
  same_front c = contents_as (contents_of g (pages_by v c)) (record (contents_of g (pages_by v (λ n. false))) { blocks = block_on g (pages_by v c) })
      (ap (λ x. epoch_by (root_at x)) (one_page c 0 front.root))
      (listed_same (record_on g (pages_by v (λ n. false))) (record_on g (pages_by v c)) 0 g.pool (λ i low high. ap (λ x. record_or_free (record_at x)) (one_page c (slot_place g i) (front.pool i (omega (arith, high))))))
      (listed_same (head_on g (pages_by v (λ n. false))) (head_on g (pages_by v c)) 0 g.heads (λ i low high. ap (λ x. head_or_free (head_at x)) (one_page c (head_place g i) (front.heads i (omega (arith, high))))))
      refl

  as_said : (c : Pick) → found_on g v c ≡ state_in (contents_of g (pages_by v c))
  as_said c = state_on_pages g (pages_by v c) (readable.each c).root.2.leaves (readable.each c).heads

  pub one_state : IsUp (found_on g v)
  one_state c = as_said c ∙ ap (λ x. state_in x) (same_front c) ∙ named_read (contents_of g (pages_by v (λ n. false))) (block_on g (pages_by v c)) (λ d read. block_read c d read) ∙ sym (as_said (λ n. false))
