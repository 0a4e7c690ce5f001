-- What is found on a store that stands, and what it holds in the words of the table of files.
use Rattle.jn_recovery.proofs.Common.{◌≡◌, ⊎_elim, ◌<◌, ◌||◌, ℕ, suc, true, false, if◌then◌else◌, List, [], sym, ◌∙◌, ap, subst, arith, cases_lt, get_or_past, nat_tests, is_some, drop, nat_lt, BlockNo, FileNo, File, Block, ServerNo, exists, is_mapped, AreHeads, state_in, held_contents, found_on, pages_by, block_on, IsConsistent, IsStanding, contents_held, front_held, same_recoverable, Head, FreeHead, Record, head_page, record_page, Counts, page_count, head_place, data_place, Pick, IsUp, stable, slot_page, record_in, file_there, StoreView, HasSamePages, heads_name, most_blocks, HoldsHeads, leaves_in, layouts_of, row_at, files_said, same_leaves, says_choice, files_first, same_only, layouts_in, entry_of, names_for_block, works_have, names_block, pick_chooses, maps_held, layouts_held, map_page, at_cell, head_map, kept_entry, layout_at, layouts_by, IsLoadable, head_in}
use Rattle.jn_files.specs.Pages.{files_in}
use Rattle.jn_page_state.specs.Puts.{IsReadable}
use Rattle.jn_page_state.proofs.CleanPages.{one_state}
use Rattle.jn_page_state.proofs.FilesOnPages.{state_said}
use Rattle.jn_recovery.proofs.Bridge.{same_there, same_mapped}
use Rattle.jn_recovery.proofs.Cells.{named_cell, table_below}

module _ (server : ServerNo) (g : Counts) (v : StoreView) (epoch : ℕ) (records : List Record) (heads : List Head) (rows : List (List ℕ)) (standing : IsStanding server g v epoch records heads rows) where
  readable : IsReadable server g v
  readable = record { count = standing.recoverable.count; each = λ c. (standing.recoverable.each c).of_format }

  pub finds : (c : Pick) → found_on g v c ≡ state_in (held_contents g v epoch records heads c)
  finds c = state_said server g (pages_by v c) (standing.recoverable.each c).of_format ∙ ap (λ x. state_in x) (contents_held server g v epoch records heads rows standing.held c)

  pub consistent : IsConsistent g (held_contents g v epoch records heads (λ n. false))
  consistent = subst (IsConsistent g) (contents_held server g v epoch records heads rows standing.held (λ n. false)) (standing.recoverable.each (λ n. false)).consistent

  -- a recovery would take what is found
  pub loads : IsLoadable server g.heads (state_in (held_contents g v epoch records heads (λ n. false)))
  loads = subst (IsLoadable server g.heads) (finds (λ n. false)) (standing.recoverable.each (λ n. false)).loadable

  -- the layouts are those of the rows in memory
  pub laid_out : layouts_in (held_contents g v epoch records heads (λ n. false)) ≡ layouts_by (kept_entry rows) heads
  laid_out = layouts_held server g v epoch records heads rows standing.held (λ n. false)

  pub up : IsUp (found_on g v)
  up = one_state server g v readable (front_held server g v epoch records heads rows standing.held) (maps_held server g v epoch records heads rows standing.held) standing.recoverable.clean

  pub there_found : (f : FileNo) → exists heads f ≡ file_there (stable (found_on g v)).files f
  there_found f = same_there (entry_of (block_on g (pages_by v (λ n. false)))) heads f ∙ sym (ap (λ x. is_some (x.files (File f))) (finds (λ n. false)))

  pub mapped_found : (f : FileNo) (p : BlockNo) → is_mapped (layouts_by (kept_entry rows) heads) f p.0 ≡ is_some ((stable (found_on g v)).files (Block f p))
  mapped_found f p = ap (λ ls. is_mapped ls f p.0) (sym laid_out)
      ∙ same_mapped (layouts_in (held_contents g v epoch records heads (λ n. false))) (block_on g (pages_by v (λ n. false))) f p
      ∙ sym (ap (λ x. is_some (x.files (Block f p))) (finds (λ n. false)))

  page_first : (k : ℕ) → k < page_count g → pages_by v (λ n. false) k ≡ v.first k
  page_first k lt = ap (λ b. if b then v.first k else []) (let e = standing.held.count in inside k v.count (omega (arith, lt, e)))
    where
      inside : (a b : ℕ) → a < b → nat_lt a b ≡ true
      inside a b h = grind (arith, nat_tests)

  -- what is named for a block has one candidate, with zeros behind its block
  module _ (are : AreHeads g.leaves rows heads) where
    -- a map page is named by a head that there is
    map_place : (slot j d : ℕ) → head_map (head_in heads slot) j ≡ suc d → slot < g.heads
    map_place slot j d e = ⊎_elim
        (λ lt. lt)
        (λ past. let size = standing.held.places in let free : head_in heads slot ≡ FreeHead = get_or_past heads slot FreeHead (omega (arith, past, size)) in
        let none = ap (λ h. head_map h j) free in absurd (omega (arith, none, e)))
        (cases_lt slot g.heads)

    block_named : (slot p a : ℕ) → p < most_blocks → at_cell (layout_at (layouts_of rows heads) slot) p ≡ suc a → names_block (held_contents g v epoch records heads (λ n. false)) a ≡ true
    block_named slot p a below e =
        ap (λ b. b || works_have (names_for_block (suc a)) records) (ap (λ ls. heads_name most_blocks ls (suc a)) laid_out ∙ named_cell (layouts_of rows heads) most_blocks slot p a below e)

    pub holds : HoldsHeads g rows heads v
    holds = record {
      stored = λ slot lt. (standing.held.heads_stored slot (let e = standing.held.places in omega (arith, lt, e))).only;
      maps = λ slot j d below e. (standing.held.maps_stored slot (map_place slot j d e) j d below e).only;
      leaves = λ slot p a below e. let lt : a < g.leaves = table_below g.leaves rows heads are slot p a e in record {
        clean = standing.recoverable.clean (λ n. false) a lt (ap (λ x. names_block x a) (contents_held server g v epoch records heads rows standing.held (λ n. false)) ∙ block_named slot p a below e);
        tail = ap (drop 448) (sym (page_first (data_place g a) (omega (arith, lt)))) ∙ (standing.recoverable.each (λ n. false)).of_format.data_pages a lt;
      };
    }

    -- the files are those of the first candidates
    pub files_are : files_in g v ≡ (stable (found_on g v)).files
    files_are =
        let small = standing.held.root_fits.leaves in
        let fits : v.count ≡ page_count g = sym standing.held.count in
        let choice = pick_chooses v (λ n. false) in
        files_first g rows heads v standing.held.places small are fits holds
        ∙ same_leaves rows heads (leaves_in g v.first) (leaves_in g (pages_by v (λ n. false)))
        (λ slot p a below e. sym (page_first (data_place g a) (let lt = table_below g.leaves rows heads are slot p a e in omega (arith, lt))))
        ∙ sym (files_said g rows heads (pages_by v (λ n. false)) standing.held.places small are (says_choice g rows heads v standing.held.places small are fits holds (pages_by v (λ n. false)) choice))

  -- gets change no page
  module _ (w : StoreView) (same : HasSamePages v w) where
    pub standing_same : IsStanding server g w epoch records heads rows
    standing_same = record {
      held = record {
        count = standing.held.count ∙ sym same.count;
        version = standing.held.version;
        root_fits = standing.held.root_fits;
        root = same_only v w 0 _ (same.pages 0) standing.held.root;
        slots = standing.held.slots;
        pool = λ slot lt. let at = standing.held.pool slot lt in record { of_format = at.of_format; only = same_only v w (slot_page slot) (record_page (record_in records slot)) (same.pages (slot_page slot)) at.only };
        places = standing.held.places;
        heads_stored = λ place lt. let at = standing.held.heads_stored place lt in record { whole = at.whole; fits = at.fits; only = same_only v w (head_place g place) (head_page (head_in heads place)) (same.pages (head_place g place)) at.only };
        pages = standing.held.pages;
        maps_stored = λ place lt j d below e. let at = standing.held.maps_stored place lt j d below e in record { below = at.below; whole = at.whole; only = same_only v w (data_place g d) (map_page (row_at rows d)) (same.pages (data_place g d)) at.only };
      };
      recoverable = same_recoverable v w same server g standing.recoverable;
    }
