-- What a recovery keeps in memory is what stands on the pages, and the storage serves.
use Rattle.jn_recovery.proofs.Common.{◌≡◌, inr, ◌<◌, ◌≤◌, ◌+◌, ◌*◌, ℕ, suc, true, false, List, [], Option, Some, None, get_or, refl, sym, ◌∙◌, ap, subst, arith, count_by-le-length, is_some, list_any, ServerNo, Tid, WorkId, work_eq, TableView, IsTable, is_held, is_touched, state_in, held_contents, found_on, pages_by, block_on, IsConsistent, IsRecoverable, Head, Record, Root, WorkState, Counts, slot_place, head_place, StableState, IsServing, state, TellsFlags, name_of, find_by, StoreView, works_on, flags_on, record_names, all_needed, MayHold, MayPromise, IsGathered, IsLoaded, IsDown, IsUntouched, Recovering, most_calls, Matches, IsMade, Memory, accounts_of, view_of, next_by, rubbish_in, Stands, IsBegun, NoMemory, Opened, IsOnly, root_page, root_by, table_layouts, layouts_in, maps_held, named_held, maps_in, maps_named, IsLoadable}
use Rattle.jn_recovery.specs.Kept.{memory_kept}
use Rattle.jn_recovery.specs.declared.gathering.Kept.{Kept as KeptParts}
use Rattle.jn_recovery.specs.declared.load.Found.{Found}
use Rattle.jn_recovery.proofs.Begins.{same_or_next_at}
use Rattle.jn_recovery.proofs.CleanBehind.{standing_behind}
use Rattle.jn_recovery.proofs.Counted.{pages_fit, pages_apart, pages_once, works_supplied, lists_few, heads_fit, counted, none_next, holds_fit}
use Rattle.jn_recovery.proofs.Downs.{recovering_by, memory_down}
use Rattle.jn_recovery.proofs.FlagCalls.{tells_flags}
use Rattle.jn_recovery.proofs.PoolCounted.{works_match, flags_match, works_name_is}
use Rattle.jn_recovery.proofs.Serving.{Serves, serving_by, loadable_found}
use Rattle.jn_recovery.proofs.Standing.{finds, up, consistent, loads, laid_out}
use Rattle.jn_recovery.proofs.Supplies.{supplied_matches}
use Rattle.jn_recovery.proofs.TableCounted.{maps_fit as table_maps_fit}

-- what a recovery keeps in memory
abbrev pub memory_at : ServerNo → ℕ → List Record → TableView → Memory
memory_at server epoch pool u = record { server = server; epoch = epoch; records = pool; table = u; works = works_on pool; flags = flags_on pool; promised = 0 }

nothing_made : (heads : List Head) (o : Option WorkState) → next_by o ≡ 0 → IsMade heads o
nothing_made heads None e = tt
nothing_made heads (Some s) e = λ k i lt at fresh. absurd (omega (arith, lt, e))

module _ (server : ServerNo) (g : Counts) (v : StoreView) (most was : ℕ) (records : List Record) (heads : List Head) (maps : List (List ℕ)) (w : StoreView) (stands : Stands server g v most was (was + 1) records heads maps w) (few : most ≤ most_calls g 0) where
  calls_few : (m n : ℕ) → w.calls ≤ v.calls + (most + 24 * m) → m ≡ n → w.calls ≤ v.calls + most_calls g n
  calls_few m n c e = omega (arith, c, e, few)

  recovering : Recovering server g v stands.before w
  recovering = recovering_by server g v stands.before w stands.later (let c = stands.calls in let e = ap maps_named stands.heads_read in calls_few _ _ c e) stands.standing.recoverable
      (λ c. (stands.before, same_or_next_at (found_on g v stands.before) (found_on g w c) (was + 1) (stands.found c) (inr (let old = stands.old in omega (arith, old)))))
      (inr (standing_behind server g w (was + 1) records heads maps stands.standing)) stands.data_pages

  memory_gone : was < 4294967295 → IsDown server g v NoMemory w
  memory_gone last = memory_down server g v stands.before w recovering (record { read = stands.before; before_last = subst (λ n. n < 4294967295) (sym stands.old) last })

module _ (server : ServerNo) (v : StoreView) (most was : ℕ) (pool : List Record) (w : StoreView) (u : TableView) (stands : Stands server u.counts v most was (was + 1) pool u.heads u.maps w) (power : w.power ≡ true)
    (none_left : rubbish_in pool pool ≡ []) (root : IsOnly w 0 (root_page (root_by server u.counts (was + 1)))) (table : IsTable u) (held : (a : ℕ) → is_held u a ≡ list_any (record_names a) pool) (promised : u.free_heads.promised ≡ all_needed u.heads (works_on pool)) where
  whole : IsConsistent u.counts (held_contents u.counts w (was + 1) pool u.heads (λ n. false))
  whole = consistent server u.counts w (was + 1) pool u.heads u.maps stands.standing

  may : IsLoadable server u.counts.heads (state_in (held_contents u.counts w (was + 1) pool u.heads (λ n. false)))
  may = loads server u.counts w (was + 1) pool u.heads u.maps stands.standing

  layouts : layouts_in (held_contents u.counts w (was + 1) pool u.heads (λ n. false)) ≡ table_layouts u
  layouts = laid_out server u.counts w (was + 1) pool u.heads u.maps stands.standing

  pub matches : Matches (memory_at server (was + 1) pool u) w
  matches = record {
    standing = stands.standing;
    root = root;
    table = table;
    works = works_match pool whole.distinct.works;
    made = λ n. nothing_made u.heads (find_by work_eq name_of (works_on pool) n) (none_next server u.counts (was + 1) pool u (block_on u.counts (pages_by w (λ k. false))) table refl whole may layouts none_left n);
    supplied = works_supplied u.heads pool whole.supplied;
    flags = flags_match pool whole.distinct.flags;
    held = λ a. held a ∙ sym (works_name_is u.counts (held_contents u.counts w (was + 1) pool u.heads (λ n. false)) whole none_left a);
  }

  serves : Serves (state_in (held_contents u.counts w (was + 1) pool u.heads (λ n. false))) (accounts_of (memory_at server (was + 1) pool u))
  serves = record {
    orderly = may.orderly;
    counted = counted server u.counts (was + 1) pool u (block_on u.counts (pages_by w (λ n. false))) table refl whole may layouts none_left stands.standing.held.slots held promised (memory_at server (was + 1) pool u) refl refl refl;
    records_fit = omega arith;
    heads_fit = let fit = heads_fit server u.counts (was + 1) pool u (block_on u.counts (pages_by w (λ n. false))) table refl whole may layouts none_left in omega (arith, fit, promised);
    next_fits = λ n. let e = none_next server u.counts (was + 1) pool u (block_on u.counts (pages_by w (λ n. false))) table refl whole may layouts none_left n in omega (arith, e);
    held_fits = holds_fit server u.counts (was + 1) pool u (block_on u.counts (pages_by w (λ n. false))) table refl whole may layouts none_left (λ slot lt. (stands.standing.held.pool slot lt).of_format.whole);
    maps_fit = table_maps_fit u table;
  }

  serving : IsServing (view_of (memory_at server (was + 1) pool u) w)
  serving = serving_by (memory_at server (was + 1) pool u) w (state_in (held_contents u.counts w (was + 1) pool u.heads (λ n. false)))
      (λ c. up server u.counts w (was + 1) pool u.heads u.maps stands.standing c ∙ finds server u.counts w (was + 1) pool u.heads u.maps stands.standing (λ n. false)) power serves

  -- what some pick found before is of an epoch that has passed
  module _ (first : IsRecoverable server u.counts v) where
    was_given : IsLoadable server u.counts.heads (found_on u.counts v stands.before)
    was_given = loadable_found server u.counts v first stands.before

    works_before : (n : WorkId) → is_some ((state (view_of (memory_at server (was + 1) pool u) w)).works n) ≡ true → n.epoch < (state (view_of (memory_at server (was + 1) pool u) w)).epoch
    works_before n there =
        let given = was_given.orderly.works_given n (ap (λ (x : StableState). is_some (x.works n)) (sym (stands.found (λ k. false))) ∙ there) in
        let past = given.past in
        let old = stands.old in
        subst (λ e. n.epoch < e) (sym (ap (λ (x : StableState). x.epoch) (stands.found (λ k. false)))) (omega (arith, past, old))

    flags_before : (t : Tid) → is_some ((state (view_of (memory_at server (was + 1) pool u) w)).flags t) ≡ true → t.epoch < (state (view_of (memory_at server (was + 1) pool u) w)).epoch
    flags_before t there =
        let given = was_given.orderly.flags_given t (ap (λ (x : StableState). is_some (x.flags t)) (sym (stands.found (λ k. false))) ∙ there) in
        let past = given.past in
        let old = stands.old in
        subst (λ e. t.epoch < e) (sym (ap (λ (x : StableState). x.epoch) (stands.found (λ k. false)))) (omega (arith, past, old))

  pub loaded : IsRecoverable server u.counts v → was < 4294967295 → most ≤ most_calls u.counts 0 → (told : Found) → told.epoch ≡ was + 1 → told.flags ≡ flags_on pool → IsLoaded server u.counts v told (view_of (memory_at server (was + 1) pool u) w)
  loaded first last few told epoch flags = record {
    before = stands.before;
    recovering = recovering server u.counts v most was pool u.heads u.maps w stands few;
    server_is = refl;
    pool = refl;
    heads = refl;
    leaves = refl;
    recovered = record {
      serving = serving;
      promised = refl;
      rubbish = none_left;
      next = none_next server u.counts (was + 1) pool u (block_on u.counts (pages_by w (λ n. false))) table refl whole may layouts none_left;
    };
    maps = ap maps_in stands.heads_read;
    supplied = supplied_matches pool (works_on pool) (works_match pool whole.distinct.works) ∙ stands.supplied;
    found = λ c. stands.found c ∙ ap (λ k. record (found_on u.counts v stands.before) { epoch = k }) (let old = stands.old in let e : was + 1 ≡ suc (found_on u.counts v stands.before).epoch = omega (arith, old) in e);
    epoch = epoch ∙ sym (ap (λ (x : StableState). x.epoch) (stands.found (λ n. false)));
    flags = subst (TellsFlags (view_of (memory_at server (was + 1) pool u) w)) (sym flags) (tells_flags (memory_at server (was + 1) pool u) w matches serving);
    epoch_fits = let fits : was + 1 < 4294967296 = omega (arith, last) in subst (λ n. n < 4294967296) (sym epoch) fits;
    root = subst (λ n. IsOnly w 0 (root_page (root_by server u.counts n))) (sym epoch) root;
    works_earlier = works_before first;
    flags_earlier = flags_before first;
    front = record {
      root = stands.clean 0 (omega arith);
      pool = λ i lt. stands.clean (slot_place u.counts i) (omega (arith, lt));
      heads = λ i lt. stands.clean (head_place u.counts i) (omega (arith, lt));
    };
    front_whole = λ calm. record {
      root = stands.whole calm 0 (omega arith);
      pool = λ i lt. stands.whole calm (slot_place u.counts i) (omega (arith, lt));
      heads = λ i lt. stands.whole calm (head_place u.counts i) (omega (arith, lt));
      maps = λ k d lt names. let at = named_held server u.counts w (was + 1) pool u.heads u.maps stands.standing.held k d names in stands.mended calm d at.0 at.1 lt at.2 at.3;
    };
    maps_clean = maps_held server u.counts w (was + 1) pool u.heads u.maps stands.standing.held;
    named = stands.standing.recoverable.clean;
    no_stop = stands.stops;
  }

-- ---- of what the code has begun with

module _ (server : ServerNo) (g : Counts) (v : StoreView) (p : Opened) (epoch : ℕ) (w : StoreView) (at : IsBegun server g v p epoch w) where
  begins : Stands server g v (most_calls g 0) p.root.epoch (p.root.epoch + 1) p.sets p.table.heads p.table.maps w
  begins = subst (λ n. Stands server g v (most_calls g 0) p.root.epoch n p.sets p.table.heads p.table.maps w) at.next at.stands

  pub no_memory : IsDown server g v NoMemory w
  no_memory = memory_gone server g v (most_calls g 0) p.root.epoch p.sets p.table.heads p.table.maps w begins (omega arith) at.last

  all : IsConsistent g (held_contents g w epoch p.sets p.table.heads (λ n. false))
  all = consistent server g w epoch p.sets p.table.heads p.table.maps at.stands.standing

  loads_there : IsLoadable server g.heads (state_in (held_contents g w epoch p.sets p.table.heads (λ n. false)))
  loads_there = loads server g w epoch p.sets p.table.heads p.table.maps at.stands.standing

  layouts_there : layouts_in (held_contents g w epoch p.sets p.table.heads (λ n. false)) ≡ table_layouts p.table
  layouts_there = laid_out server g w epoch p.sets p.table.heads p.table.maps at.stands.standing

  pub may_hold : MayHold p.table p.sets
  may_hold = record {
    loose = at.table.loose;
    unpromised = at.table.promised_leaves;
    size = at.table.table.leaves;
    fit = λ i a h. subst (λ n. a < n) (sym (ap (λ (k : Counts). k.leaves) at.table.counts)) (pages_fit g (held_contents g w epoch p.sets p.table.heads (λ n. false)) all at.none_left i a h);
    apart = pages_apart g (held_contents g w epoch p.sets p.table.heads (λ n. false)) all at.none_left server g.heads loads_there;
    once = pages_once g (held_contents g w epoch p.sets p.table.heads (λ n. false)) all at.none_left;
  }

  pub may_promise : MayPromise p.table (works_on p.sets)
  may_promise =
      let enough = heads_fit server g epoch p.sets p.table (block_on g (pages_by w (λ n. false))) at.table.table at.table.counts all loads_there layouts_there at.none_left in record {
        few = lists_few g (held_contents g w epoch p.sets p.table.heads (λ n. false)) all at.none_left (λ slot lt. (at.stands.standing.held.pool slot lt).of_format.fits);
        unpromised = at.table.promised_heads;
        enough = enough;
        fits = let le = count_by-le-length (λ free. free) p.table.free_heads.flags in let size = at.table.table.head_count in let small = at.table.table.few_heads in omega (arith, enough, le, size, small);
      }

  module _ (k : KeptParts) (server_is : k.server ≡ p.root.server) (epoch_is : k.epoch ≡ epoch) (sets : k.sets ≡ p.sets) (works : k.works.items ≡ works_on p.sets) (flags : k.flags.items ≡ flags_on p.sets)
      (table : IsGathered p.table p.sets k.table) (is_table : IsTable k.table) where
    memory_is : memory_kept k ≡ memory_at server (p.root.epoch + 1) p.sets k.table
    memory_is =
        ap (λ n. record (memory_kept k) { server = n }) (server_is ∙ ap (λ (r : Root). r.server) at.root)
        ∙ ap (λ n. record (memory_kept k) { server = server; epoch = n }) (epoch_is ∙ at.next)
        ∙ ap (λ l. record (memory_kept k) { server = server; epoch = p.root.epoch + 1; records = l }) sets
        ∙ ap (λ l. record (memory_kept k) { server = server; epoch = p.root.epoch + 1; records = p.sets; works = l }) works
        ∙ ap (λ l. record (memory_kept k) { server = server; epoch = p.root.epoch + 1; records = p.sets; works = works_on p.sets; flags = l }) flags

    counts_are : k.table.counts ≡ g
    counts_are = ap (λ (t : TableView). t.counts) table.promises ∙ table.holds.counts ∙ at.table.counts

    heads_are : k.table.heads ≡ p.table.heads
    heads_are = ap (λ (t : TableView). t.heads) table.promises ∙ table.holds.heads

    maps_are : k.table.maps ≡ p.table.maps
    maps_are = ap (λ (t : TableView). t.maps) table.promises ∙ table.holds.maps

    pub kept_untouched : IsUntouched k.table
    kept_untouched a = ap (λ t. is_touched t a) table.promises ∙ ap (λ l. get_or l a false) table.holds.touched ∙ at.table.untouched a

    held : (a : ℕ) → is_held k.table a ≡ list_any (record_names a) p.sets
    held a = ap (λ t. is_held t a) table.promises ∙ table.holds.held a

    promised : k.table.free_heads.promised ≡ all_needed k.table.heads (works_on p.sets)
    promised = ap (λ (t : TableView). t.free_heads.promised) table.promises ∙ ap (λ l. all_needed l (works_on p.sets)) (sym heads_are)

    stood : Stands server k.table.counts v (most_calls g 0) p.root.epoch (p.root.epoch + 1) p.sets k.table.heads k.table.maps w
    stood = subst (λ c. Stands server c v (most_calls g 0) p.root.epoch (p.root.epoch + 1) p.sets k.table.heads k.table.maps w) (sym counts_are)
        (subst (λ l. Stands server g v (most_calls g 0) p.root.epoch (p.root.epoch + 1) p.sets l k.table.maps w) (sym heads_are)
        (subst (λ r. Stands server g v (most_calls g 0) p.root.epoch (p.root.epoch + 1) p.sets p.table.heads r w) (sym maps_are) begins))

    written : IsOnly w 0 (root_page (root_by server k.table.counts (p.root.epoch + 1)))
    written = subst (λ c. IsOnly w 0 (root_page (root_by server c (p.root.epoch + 1)))) (sym counts_are) (subst (λ n. IsOnly w 0 (root_page (root_by server g n))) at.next at.written)

    pub kept_matches : Matches (memory_kept k) w
    kept_matches = subst (λ m. Matches m w) (sym memory_is) (matches server v (most_calls g 0) p.root.epoch p.sets w k.table stood at.power at.none_left written is_table held promised)

    pub kept_loaded : IsRecoverable server g v → (told : Found) → told.epoch ≡ epoch → told.flags ≡ flags_on p.sets → IsLoaded server g v told (view_of (memory_kept k) w)
    kept_loaded first told e f = subst (λ m. IsLoaded server g v told (view_of m w)) (sym memory_is)
        (subst (λ c. IsLoaded server c v told (view_of (memory_at server (p.root.epoch + 1) p.sets k.table) w)) counts_are
        (loaded server v (most_calls g 0) p.root.epoch p.sets w k.table stood at.power at.none_left written is_table held promised
        (subst (λ c. IsRecoverable server c v) (sym counts_are) first) at.last (subst (λ c. most_calls g 0 ≤ most_calls c 0) (sym counts_are) (omega arith)) told (e ∙ at.next) f))
