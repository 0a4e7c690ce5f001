-- What is found on the pages of a sound image: its files alone.
use Rattle.jn_page_state.proofs.Common.{◌≡◌, ◌<◌, ◌^◌, ◌||◌, ℕ, suc, Bool, true, false, [], sym, ◌∙◌, ap, subst, arith, fun_ext, take, None, ServerNo, head_at, root_page, Image, IsSound, Counts, Pages, page_count, head_place, data_place, files_of_pages, IsWholeMap, root_is_read, StableState, Pick, StoreView, Contents, layouts_by, entry_of, layouts_in, files_in, heads_name, state_in, most_cells, CountsFit, IsStoreOf, IsFresh, only_files, head_on, heads_on, head_or_free, block_on, epoch_by, root_by, pages_by, found_on, contents_of, IsHeadPage, is_read}
use Rattle.jn_page_state.proofs.FillLaws.{named_read}
use Rattle.jn_page_state.proofs.FilesOnPages.{files_on_pages, state_on_pages}
use Rattle.jn_page_state.proofs.PageChanges.{listed_same}
use Rattle.jn_page_state.proofs.Naming.{named_cell}
use Rattle.jn_page_state.proofs.Spots.{cell_within}
use Rattle.jn_page_state.proofs.SoundImages.{no_works, no_flags, page_at, all_free, image_format, image_recoverable}

-- pages that agree wherever there is one have the same files
module _ (g : Counts) (one two : Pages) (few : g.leaves < 2 ^ 16) (format : (i : ℕ) → i < g.heads → IsHeadPage g.leaves (one (head_place g i))) (maps : (d : ℕ) → IsWholeMap g one d) (same : (k : ℕ) → k < page_count g → one k ≡ two k) where
  heads_same : heads_on g one ≡ heads_on g two
  heads_same = listed_same (head_on g two) (head_on g one) 0 g.heads (λ i low high. ap (λ x. head_or_free (head_at x)) (same (head_place g i) (omega (arith, high))))

  block_same : (d : ℕ) → d < g.leaves → block_on g two d ≡ block_on g one d
  block_same d lt = ap (take 448) (sym (same (data_place g d) (omega (arith, lt))))

  abbrev heads_alone : Contents
  heads_alone = record { epoch = 0; pool = []; heads = heads_on g one; blocks = block_on g one }

  named_within : (d : ℕ) → is_read heads_alone d ≡ true → d < g.leaves
  named_within d named =
      let at = named_cell most_cells (layouts_in heads_alone) d (left (heads_name most_cells (layouts_in heads_alone) (suc d)) named) in
      cell_within g one few format maps at.0 at.1 d at.3
    where
      left : (a : Bool) → (a || false) ≡ true → a ≡ true
      left a h = grind (arith, h)

  pub files_agree : files_of_pages g one ≡ files_of_pages g two
  files_agree =
      files_on_pages g one few format
      ∙ sym (ap (λ (x : StableState). x.files) (named_read heads_alone (block_on g two) (λ d named. block_same d (named_within d named))))
      ∙ ap (λ l. files_in (layouts_by (entry_of (block_on g two)) l) (block_on g two)) heads_same
      ∙ sym (files_on_pages g two few (λ i lt. subst (IsHeadPage g.leaves) (same (head_place g i) (omega (arith, lt))) (format i lt)))

module _ (s : ServerNo) (m : Image) (v : StoreView) (sound : IsSound s m) (fit : CountsFit s m.counts) (store : IsStoreOf m v) (epoch : ℕ) (fits : epoch < 2 ^ 32) (root : m.bytes 0 ≡ root_page (record (root_by m.server m.counts epoch) { version = m.version })) where
  image_found : (c : Pick) → found_on m.counts v c ≡ only_files epoch (files_of_pages m.counts m.bytes)
  image_found c =
      let format = image_format s m sound fit v store c in
      state_on_pages m.counts (pages_by v c) fit.leaves format.heads
      ∙ ap (λ w. record (state_in (contents_of m.counts (pages_by v c))) { works = w }) (fun_ext (λ w. no_works (contents_of m.counts (pages_by v c)) (all_free s m sound fit v store c) w))
      ∙ ap (λ f. record (state_in (contents_of m.counts (pages_by v c))) { works = λ w. None; flags = f }) (fun_ext (λ t. no_flags (contents_of m.counts (pages_by v c)) (all_free s m sound fit v store c) t))
      ∙ ap (λ n. record { epoch = n; files = files_in (layouts_in (contents_of m.counts (pages_by v c))) (block_on m.counts (pages_by v c)); works = λ w. None; flags = λ t. None })
      (ap epoch_by (root_is_read (pages_by v c 0) (record (root_by s m.counts epoch) { version = m.version })
      (record { version = sound.root.3; server = fit.server_fits; pool = fit.pool; heads = fit.heads; leaves = fit.leaves; epoch = fits })
      (page_at s m sound fit v store c 0 (omega arith) ∙ root ∙ ap (λ q. root_page (record (root_by q m.counts epoch) { version = m.version })) sound.server)))
      ∙ ap (only_files epoch) (sym (files_on_pages m.counts (pages_by v c) fit.leaves format.heads)
      ∙ files_agree m.counts (pages_by v c) m.bytes fit.leaves format.heads format.maps (λ k lt. page_at s m sound fit v store c k lt))

  pub image_fresh : IsFresh s m.counts epoch (files_of_pages m.counts m.bytes) v
  image_fresh = record { recoverable = image_recoverable s m v sound fit store; found = image_found }
