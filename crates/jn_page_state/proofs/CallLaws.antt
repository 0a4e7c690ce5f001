-- The puts of a storage's calls on a store that stands.
use Rattle.jn_page_state.proofs.Common.{◌≡◌, ⊎_elim, ◌<◌, ◌≤◌, ◌||◌, ℕ, suc, Bool, true, false, List, [], ◌∷◌, refl, sym, ap, subst, ◌∙◌, true≢false, arith, nat_tests, nat_eq, take, LockUnit, ServerNo, Tid, WorkId, Flag, Head, StoredIntention, Record, Free, Ready, Going, FlagRecord, WorkHead, map_page, Counts, data_place, StableState, Pick, AddReady, MarkGoing, RemoveWork, AddFlag, DropFlag, Change, IsLoadable, StoreView, IsClean, most_blocks, most_cells, layouts_by, kept_entry, IsNoMap, layouts_in, heads_name, works_have, names_for_block, state_in, IsIdlePut, IsReadyPut, IsReadySlot, IsPreparedSlot, IsFlagPut, IsFlagSlot, with_block, held_contents, MayStand, block_on, pages_by, RootPut, RecordPut, BlockPut, MapPut, put_in, contents_by, IsPut, HasAt, IsWholeWork, IsRecoverable, names_block, reads_page, is_read, IsStanding, IsPutStep, MayChange, Makes, MakesNothing, MakesFirst, MakesEpoch, standing_state, or_left, or_right, whole-stop}
use Rattle.jn_records.specs.declared.intention.Intention.{Intention}
use Rattle.jn_page_state.proofs.ConsistentPuts.{idle_consistent, idle_named, going_consistent, going_named, removed_consistent, removed_named, flag_consistent, flag_named, dropped_consistent, dropped_named}
use Rattle.jn_page_state.proofs.FillLaws.{read_block, fill_layouts, fill_law}
use Rattle.jn_page_state.proofs.HeldLaws.{layouts_held}
use Rattle.jn_page_state.proofs.Naming.{either}
use Rattle.jn_page_state.proofs.OtherPuts.{no_map_read, block_consistent, root_consistent, later_loadable}
use Rattle.jn_page_state.proofs.Picking.{found_new, found_old_or_new}
use Rattle.jn_page_state.proofs.PoolLaws.{idle_law, ready_law, going_law, removed_law, flag_law, dropped_law}
use Rattle.jn_page_state.proofs.ReadyPut.{ready_consistent, ready_named}
use Rattle.jn_page_state.proofs.StandingLaws.{as_said, up, state_said, consistent, loadable, is_put, standing_after, recoverable_after, makes, makes_nothing, makes_first, clean_before}

equal : (m n : ℕ) → nat_eq m n ≡ true → m ≡ n
equal m n h = grind (arith, nat_tests, h)

module _ (server : ServerNo) (g : Counts) (v w : StoreView) (epoch : ℕ) (records : List Record) (heads : List Head) (rows : List (List ℕ)) (ok : Bool) (standing : IsStanding server g v epoch records heads rows) where
  layouts_said : (c : Pick) → layouts_in (held_contents g v epoch records heads c) ≡ layouts_by (kept_entry rows) heads
  layouts_said c = layouts_held server g v epoch records heads rows standing.held c

  -- ---- a data page that nothing reads

  module _ (d : ℕ) (bytes : List ℕ) (unread : reads_page (layouts_by (kept_entry rows) heads) records d ≡ false) where
    unread_by : (c : Pick) → is_read (held_contents g v epoch records heads c) d ≡ false
    unread_by c = ap (λ l. reads_page l records d) (layouts_said c) ∙ unread

    no_map : IsNoMap heads d
    no_map = no_map_read (held_contents g v epoch records heads (λ n. false)) d (unread_by (λ n. false))

    apart : (c : Pick) (k : ℕ) → names_block (held_contents g v epoch records heads c) k ≡ true → nat_eq d k ≡ false
    apart c k named = by (nat_eq d k) refl
      where
        read : is_read (held_contents g v epoch records heads c) k ≡ true
        read = ⊎_elim
            (λ t. or_left (heads_name most_cells (layouts_in (held_contents g v epoch records heads c)) (suc k)) (works_have (names_for_block (suc k)) records) (read_block (held_contents g v epoch records heads c) k t))
            (λ t. or_right (heads_name most_cells (layouts_in (held_contents g v epoch records heads c)) (suc k)) (works_have (names_for_block (suc k)) records) t)
            (either (heads_name most_blocks (layouts_in (held_contents g v epoch records heads c)) (suc k)) (works_have (names_for_block (suc k)) records) named)

        by : (b : Bool) → nat_eq d k ≡ b → b ≡ false
        by false e = refl
        by true e = absurd (true≢false (sym read ∙ subst (λ j. is_read (held_contents g v epoch records heads c) j ≡ false) (equal d k e) (unread_by c)))

    -- another block there brings no name
    named_still : (c : Pick) (k : ℕ) → names_block (with_block (held_contents g v epoch records heads c) d bytes) k ≡ true → names_block (held_contents g v epoch records heads c) k ≡ true
    named_still c k named = ap (λ l. heads_name most_blocks l (suc k) || works_have (names_for_block (suc k)) records) (sym (fill_layouts (held_contents g v epoch records heads c) d bytes (unread_by c))) ∙ named

  pub fills : (d : ℕ) (block : List ℕ) → IsPutStep server g v (BlockPut d block) ok w → reads_page (layouts_by (kept_entry rows) heads) records d ≡ false → MakesNothing server g v epoch records heads rows (BlockPut d block) ok w
  fills d block is unread = makes_nothing server g v epoch records heads rows standing (BlockPut d block) ok w is may
      (λ c. block_consistent g (held_contents g v epoch records heads c) d block (unread_by d block unread c) (consistent server g v epoch records heads rows standing (BlockPut d block) ok w is may c))
      (λ c k lt named. let before = named_still d block unread c k named in
      (clean_before server g v epoch records heads rows standing (BlockPut d block) ok w is may c k lt before, apart d block unread c k before))
      (λ c k named. apart d block unread c k named)
      (λ c. fill_law (held_contents g v epoch records heads c) d block (unread_by d block unread c))
    where
      may : MayStand g v heads rows (BlockPut d block)
      may = no_map d block unread

  -- the fresh map page of a put
  pub fresh_map : (d : ℕ) (row : List ℕ) (step : Change) → IsPutStep server g v (MapPut d row) ok w → reads_page (layouts_by (kept_entry rows) heads) records d ≡ false → MakesFirst server g v epoch records heads rows (MapPut d row) step ok w
  fresh_map d row step is unread = makes_first server g v epoch records heads rows standing (MapPut d row) ok w is tt
      (λ c. block_consistent g (held_contents g v epoch records heads c) d bytes (unread_by d bytes unread c) (consistent server g v epoch records heads rows standing (MapPut d row) ok w is tt c))
      (λ c k lt named. let before = named_still d bytes unread c k named in
      (clean_before server g v epoch records heads rows standing (MapPut d row) ok w is tt c k lt before, apart d bytes unread c k before))
      (λ c k named. apart d bytes unread c k named)
      step
      (λ c. whole-stop (state_in (held_contents g v epoch records heads c)) (step ∷ []) (state_in (put_in (MapPut d row) (held_contents g v epoch records heads c))) 0 (same c))
      (λ c. subst (IsLoadable server g.heads) (sym (same c)) (loadable server g v epoch records heads rows standing (MapPut d row) ok w is tt c))
    where
      bytes : List ℕ
      bytes = take 448 (map_page row)

      same : (c : Pick) → state_in (with_block (held_contents g v epoch records heads c) d (take 448 (map_page row))) ≡ state_in (held_contents g v epoch records heads c)
      same c = fill_law (held_contents g v epoch records heads c) d (take 448 (map_page row)) (unread_by d (take 448 (map_page row)) unread c)

  -- ---- records

  pub idles : (slot : ℕ) (new : Record) → IsPutStep server g v (RecordPut slot new) ok w → IsIdlePut records slot new → MakesNothing server g v epoch records heads rows (RecordPut slot new) ok w
  idles slot new is idle = makes_nothing server g v epoch records heads rows standing (RecordPut slot new) ok w is tt
      (λ c. idle_consistent (held_contents g v epoch records heads c) slot new idle g (consistent server g v epoch records heads rows standing (RecordPut slot new) ok w is tt c))
      (λ c k lt named. (clean_before server g v epoch records heads rows standing (RecordPut slot new) ok w is tt c k lt (idle_named (held_contents g v epoch records heads c) slot new idle most_blocks names_for_block k named), refl))
      (λ c k named. refl)
      (λ c. idle_law (held_contents g v epoch records heads c) slot new idle)

  pub readies : (slot : ℕ) (head : WorkHead) (n : ℕ) (list : List Intention) (reads : List LockUnit) → IsPutStep server g v (RecordPut slot (Ready head n reads)) ok w
      → ((c : Pick) → IsReadyPut records (block_on g (pages_by v c)) slot head n list) → ((c : Pick) → IsWholeWork g.leaves (held_contents g v epoch records heads c) head.work n)
      → ((i d : ℕ) (s : StoredIntention) → HasAt records head.work i s → s.address ≡ suc d → d < g.leaves → IsClean v (data_place g d))
      → MayChange server g v (AddReady head list reads) → Makes server g v epoch records heads rows (RecordPut slot (Ready head n reads)) (AddReady head list reads) ok w
  readies slot head n list reads is put whole filled fits = makes server g v epoch records heads rows standing (RecordPut slot (Ready head n reads)) ok w is tt
      (λ c. ready_consistent (held_contents g v epoch records heads c) slot head n list reads (put c) g (whole c) (consistent server g v epoch records heads rows standing (RecordPut slot (Ready head n reads)) ok w is tt c))
      (λ c k lt named. (
        ⊎_elim
            (λ old. clean_before server g v epoch records heads rows standing (RecordPut slot (Ready head n reads)) ok w is tt c k lt old)
            (λ own. filled own.0 k own.1 own.2 (equal own.1.address (suc k) own.3) lt)
            (ready_named (held_contents g v epoch records heads c) slot head n list reads (put c) most_blocks names_for_block k named),
        refl,
      ))
      (λ c k named. refl)
      (AddReady head list reads)
      (λ c. ready_law (held_contents g v epoch records heads c) slot (put c).slot_free head n list reads (put c))
      fits

  pub marks : (slot : ℕ) (head : WorkHead) (n : ℕ) (reads : List LockUnit) → IsPutStep server g v (RecordPut slot (Going head n reads)) ok w → IsReadySlot records slot head n reads
      → MayChange server g v (MarkGoing head.work) → Makes server g v epoch records heads rows (RecordPut slot (Going head n reads)) (MarkGoing head.work) ok w
  marks slot head n reads is at fits = makes server g v epoch records heads rows standing (RecordPut slot (Going head n reads)) ok w is tt
      (λ c. going_consistent (held_contents g v epoch records heads c) slot head n reads at g (consistent server g v epoch records heads rows standing (RecordPut slot (Going head n reads)) ok w is tt c))
      (λ c k lt named. (clean_before server g v epoch records heads rows standing (RecordPut slot (Going head n reads)) ok w is tt c k lt (going_named (held_contents g v epoch records heads c) slot head n reads at most_blocks names_for_block k named), refl))
      (λ c k named. refl)
      (MarkGoing head.work)
      (λ c. going_law (held_contents g v epoch records heads c) slot head n reads at)
      fits

  pub removes : (slot : ℕ) (work : WorkId) → IsPutStep server g v (RecordPut slot Free) ok w → IsPreparedSlot records slot work
      → MayChange server g v (RemoveWork work) → Makes server g v epoch records heads rows (RecordPut slot Free) (RemoveWork work) ok w
  removes slot work is at fits = makes server g v epoch records heads rows standing (RecordPut slot Free) ok w is tt
      (λ c. removed_consistent (held_contents g v epoch records heads c) slot work at g (consistent server g v epoch records heads rows standing (RecordPut slot Free) ok w is tt c))
      (λ c k lt named. (clean_before server g v epoch records heads rows standing (RecordPut slot Free) ok w is tt c k lt (removed_named (held_contents g v epoch records heads c) slot work at most_blocks names_for_block k named), refl))
      (λ c k named. refl)
      (RemoveWork work)
      (λ c. removed_law (held_contents g v epoch records heads c) slot work at)
      fits

  pub flags : (slot : ℕ) (flag : Flag) → IsPutStep server g v (RecordPut slot (FlagRecord flag)) ok w → IsFlagPut records slot flag
      → MayChange server g v (AddFlag flag) → Makes server g v epoch records heads rows (RecordPut slot (FlagRecord flag)) (AddFlag flag) ok w
  flags slot flag is put fits = makes server g v epoch records heads rows standing (RecordPut slot (FlagRecord flag)) ok w is tt
      (λ c. flag_consistent (held_contents g v epoch records heads c) slot flag put g (consistent server g v epoch records heads rows standing (RecordPut slot (FlagRecord flag)) ok w is tt c))
      (λ c k lt named. (clean_before server g v epoch records heads rows standing (RecordPut slot (FlagRecord flag)) ok w is tt c k lt (flag_named (held_contents g v epoch records heads c) slot flag put most_blocks names_for_block k named), refl))
      (λ c k named. refl)
      (AddFlag flag)
      (λ c. flag_law (held_contents g v epoch records heads c) slot put.slot_free flag put)
      fits

  pub drops : (slot : ℕ) (t : Tid) → IsPutStep server g v (RecordPut slot Free) ok w → IsFlagSlot records slot t
      → MayChange server g v (DropFlag t) → Makes server g v epoch records heads rows (RecordPut slot Free) (DropFlag t) ok w
  drops slot t is at fits = makes server g v epoch records heads rows standing (RecordPut slot Free) ok w is tt
      (λ c. dropped_consistent (held_contents g v epoch records heads c) slot t at g (consistent server g v epoch records heads rows standing (RecordPut slot Free) ok w is tt c))
      (λ c k lt named. (clean_before server g v epoch records heads rows standing (RecordPut slot Free) ok w is tt c k lt (dropped_named (held_contents g v epoch records heads c) slot t at most_blocks names_for_block k named), refl))
      (λ c k named. refl)
      (DropFlag t)
      (λ c. dropped_law (held_contents g v epoch records heads c) slot t at)
      fits

  -- ---- the root

  pub counts_on : (later : ℕ) → IsPutStep server g v (RootPut later) ok w → epoch ≤ later → MakesEpoch server g v records heads rows later ok w
  counts_on later is le = record {
    done = λ done. found_new server g v (RootPut later) ok w put (record (standing_state g v) { epoch = later }) now done;
    stop = found_old_or_new server g v (RootPut later) ok w put (standing_state g v) (record (standing_state g v) { epoch = later }) (up server g v epoch records heads rows standing (RootPut later) ok w is tt) now;
    recoverable = recoverable;
    standing = standing_after server g v epoch records heads rows standing (RootPut later) ok w is tt recoverable;
  }
    where
      put : IsPut server g v (RootPut later) ok w
      put = is_put server g v epoch records heads rows standing (RootPut later) ok w is tt

      now : (c : Pick) → state_in (put_in (RootPut later) (contents_by g v c)) ≡ record (standing_state g v) { epoch = later }
      now c = ap (λ x. state_in (put_in (RootPut later) x)) (as_said server g v epoch records heads rows standing (RootPut later) ok w is tt c)
          ∙ ap (λ (x : StableState). record x { epoch = later }) (sym (state_said server g v epoch records heads rows standing (RootPut later) ok w is tt c))

      recoverable : IsRecoverable server g w
      recoverable = recoverable_after server g v epoch records heads rows standing (RootPut later) ok w is tt
          (λ c. root_consistent g (held_contents g v epoch records heads c) later (consistent server g v epoch records heads rows standing (RootPut later) ok w is tt c))
          (λ c k lt named. (clean_before server g v epoch records heads rows standing (RootPut later) ok w is tt c k lt named, refl))
          (λ c k named. refl)
          (λ c. later_loadable server g.heads later (state_in (held_contents g v epoch records heads c)) le (loadable server g v epoch records heads rows standing (RootPut later) ok w is tt c))
