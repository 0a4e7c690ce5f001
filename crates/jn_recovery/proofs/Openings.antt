-- A store is cleaned and read.
use Rattle.jn_recovery.proofs.Common.{◌≡◌, ◌≢◌, inr, ◌<◌, ◌≤◌, ◌+◌, ◌*◌, ℕ, Bool, true, false, if◌then◌else◌, List, [], length, Result, Ok, Err, refl, sym, ◌∙◌, ap, subst, true≢false, arith, nat_tests, nat_lt, ServerNo, TableView, IsTableLoaded, MendsMaps, root_page, IsRoot, IsReadable, HoldsRecords, SetsRead, found_on, root_by, epoch_by, heads_on, half_of, pages_by, IsFewer, IsRecoverable, IsStanding, fewer_trans, fewer_picked, fewer_recoverable, Head, Record, Root, counts_of, Counts, data_place, root_is_read, StableState, Pick, StoreView, StoreLater, IsSamePage, IsCalm, IsStop, IsServed, IsOnly, later_trans, same_shrinks, same_trans, stop_since, down_of, Recovering, IsDown, IsNotUsedUp, front_count, reading_calls, most_calls, Stands, RootRead, IsOpened, Cleans, Opened, Stopped, EpochsUsedUp, IsClean, IsWholePage, KeepsDataPages, contents_held, held_contents, Contents, LoadedFrom, MapsLoadable, HoldsHeads, HoldsTable, AreRows, same_only, state_of, pool_on, contents_by, IsNoMap, maps_named, calls_by, KeepsAllData, supplied_on}
use Rattle.jn_base.specs.declared.fault.CallFault.{CallFault}
use Rattle.jn_base.specs.declared.fault.CallFault.TheVariants as faults
use Rattle.jn_recovery.specs.declared.load.DownCause.{DownCause}
use Rattle.jn_recovery.specs.declared.load.DownCause.TheVariants.{Memory}
use Rattle.jn_recovery.proofs.CleanStore.{root_version, root_epoch, root_there, root_is, root_only, root_found, slots_readable, heads_there, standing, loadable, fewer_pages}
use Rattle.jn_recovery.proofs.Downs.{recovering_fewer, stopped_down, memory_down, used_down, few_calls}
use Rattle.jn_recovery.proofs.Standing.{up, finds}

-- root, records and heads were cleaned, and pages were read
pub record IsRead (server : ServerNo) (g : Counts) (v : StoreView) (most : ℕ) (w : StoreView) : Type 0 where
  pub later : StoreLater v w
  pub calls : w.calls ≤ v.calls + most
  pub fewer : IsFewer v w
  pub recoverable : IsRecoverable server g w
  pub clean : (i : ℕ) → i < front_count g → IsClean w i
  pub whole : IsCalm v → (i : ℕ) → i < front_count g → IsWholePage w i
  pub data_pages : KeepsAllData g v w

-- and then map pages were, those of heads that some pick finds
pub record IsReadOn (server : ServerNo) (g : Counts) (v : StoreView) (most : ℕ) (pick : Pick) (w : StoreView) : Type 0 where
  pub later : StoreLater v w
  pub calls : w.calls ≤ v.calls + (most + 24 * maps_named (heads_on g (pages_by v pick)))
  pub fewer : IsFewer v w
  pub recoverable : IsRecoverable server g w
  pub clean : (i : ℕ) → i < front_count g → IsClean w i
  pub whole : IsCalm v → (i : ℕ) → i < front_count g → IsWholePage w i
  pub data_pages : KeepsDataPages g v w

module _ (server : ServerNo) (g : Counts) (v : StoreView) where
  pub reads_none : (u : StoreView) → IsRecoverable server g v → Cleans v 0 (front_count g) u → IsRead server g v (16 * front_count g) u
  reads_none u before to = record {
    later = to.later;
    calls = let a = to.calls in omega (arith, a);
    fewer = to.fewer;
    recoverable = fewer_recoverable v u to.fewer server g before;
    clean = λ i lt. to.clean i (omega arith) lt;
    whole = λ calm i lt. to.whole calm i (omega arith) lt;
    data_pages = λ d lt. to.others (data_place g d) (let e = before.count in omega (arith, e, lt)) (inr (omega arith));
  }

  module _ (most : ℕ) (u : StoreView) (before : IsRead server g v most u) where
    reads_more : (k : ℕ) (w : StoreView) → StoreLater u w → w.calls ≤ u.calls + k → ((j : ℕ) → IsSamePage u w j) → IsRead server g v (most + k) w
    reads_more k w later calls same = record {
      later = later_trans v u w before.later later;
      calls = let a = before.calls in omega (arith, a, calls);
      fewer = fewer_trans v u w before.fewer fewer;
      recoverable = fewer_recoverable u w fewer server g before.recoverable;
      clean = λ i lt. (same i).first ∙ before.clean i lt ∙ sym (same i).second;
      whole = λ calm i lt. later.whole (before.later.calm calm) i (let e = before.recoverable.count in omega (arith, e, lt)) (before.whole calm i lt);
      data_pages = λ d lt. same_trans v u w (data_place g d) (before.data_pages d lt) (same (data_place g d));
    }
      where
        fewer : IsFewer u w
        fewer = record { count = later.count; shrinks = λ j lt. same_shrinks u w j (same j) }

    -- the pick whose root is read
    root_pick : (b : Pick) × ((found_on g v b).epoch ≡ root_epoch server g u before.recoverable before.clean)
    root_pick = let h = fewer_picked v u before.fewer g (λ n. false) in (h.0, ap (λ (x : StableState). x.epoch) (sym h.1) ∙ root_found server g u before.recoverable before.clean)

    not_used_up : root_epoch server g u before.recoverable before.clean < 4294967295 → IsNotUsedUp g v
    not_used_up lt = record { read = root_pick.0; before_last = subst (λ n. n < 4294967295) (sym root_pick.1) lt }

    -- and each pick reads it once pages are clean
    root_by_each : (w : StoreView) → StoreLater u w → ((j : ℕ) → IsSamePage u w j) → (c : Pick) → (found_on g w c).epoch ≡ root_epoch server g u before.recoverable before.clean
    root_by_each w later same c = ap epoch_by (root_is_read (pages_by w c 0) (root_there server g u before.recoverable before.clean) (root_is server g u before.recoverable before.clean) (ap (λ b. if b then half_of w 0 c else []) inside ∙ half (c 0)))
      where
        only : IsOnly w 0 (root_page (root_there server g u before.recoverable before.clean))
        only = same_only u w 0 _ (same 0) (root_only server g u before.recoverable before.clean)

        inside : nat_lt 0 w.count ≡ true
        inside = let a = later.count in let b = before.recoverable.count in grind (arith, nat_tests, a, b)

        half : (b : Bool) → (if b then w.second 0 else w.first 0) ≡ root_page (root_there server g u before.recoverable before.clean)
        half true = only.second
        half false = only.first

    module _ (k : ℕ) (w : StoreView) (later : StoreLater u w) (calls : w.calls ≤ u.calls + k) (same : (j : ℕ) → IsSamePage u w j) (few : most + k ≤ most_calls g 0) (first : IsRecoverable server g v) where
      recovering : Recovering server g v (λ n. false) w
      recovering = let now = reads_more k w later calls same in recovering_fewer server g v (λ n. false) w first now.fewer now.later (few_calls g v (λ n. false) w.calls (most + k) now.calls few) (λ d lt none. now.data_pages d lt)

      stop_down : IsStop u w → (IsCalm u → ⊥) → IsDown server g v Stopped w
      stop_down stop calm = stopped_down server g v (λ n. false) w recovering (stop_since v u w before.later later stop) (λ quiet. calm (before.later.calm quiet))

      root_down : (cause : DownCause) → RootRead (root_there server g u before.recoverable before.clean) (Err cause) → (cause ≡ Stopped → IsStop u w) → (IsCalm u → cause ≡ Stopped → ⊥) → (cause ≡ EpochsUsedUp → w.power ≡ true) → IsDown server g v cause w
      root_down Stopped read stop calm served = stop_down (stop refl) (λ quiet. calm quiet refl)
      root_down Memory read stop calm served = absurd read
      root_down EpochsUsedUp read stop calm served = used_down server g v (λ n. false) w recovering (record { read = root_pick.0; last = root_pick.1 ∙ read; fewer = (reads_more k w later calls same).fewer; all = λ c. root_by_each w later same c ∙ read; power = served refl })

      load_down : IsNotUsedUp g v → (fault : CallFault) → (fault ≡ faults.Stopped → IsStop u w) → (IsCalm u → fault ≡ faults.Stopped → ⊥) → IsDown server g v (down_of fault) w
      load_down left faults.Stopped stop calm = stop_down (stop refl) (λ quiet. calm quiet refl)
      load_down left faults.Memory stop calm = memory_down server g v (λ n. false) w recovering left

    -- the map pages of the heads that stand there are read
    module _ (w : StoreView) (read : LoadedFrom g (heads_there server g u before.recoverable before.clean) u w) where
      heads_pick : (b : Pick) × (heads_there server g u before.recoverable before.clean ≡ heads_on g (pages_by v b))
      heads_pick = let h = fewer_pages v u before.fewer (λ n. false) in (h.0, ap (heads_on g) h.1)

      load_fewer : IsFewer u w
      load_fewer = record { count = read.later.count; shrinks = read.fewer }

      front_same : (i : ℕ) → i < front_count g → IsSamePage u w i
      front_same i lt = read.others i (let e = before.recoverable.count in omega (arith, e, lt)) (λ d e. absurd (omega (arith, lt, e)))

      -- a data page that no pick finds named as a map page is none of them
      data_kept : KeepsDataPages g v w
      data_kept d lt none = same_trans v u w (data_place g d) (before.data_pages d lt)
          (read.others (data_place g d) (let e = before.recoverable.count in omega (arith, e, lt)) (λ e at. subst (IsNoMap (heads_there server g u before.recoverable before.clean)) (let same : d ≡ e = omega (arith, at) in same) (subst (λ hs. IsNoMap hs d) (sym heads_pick.1) (none heads_pick.0))))

      reads_on : IsReadOn server g v (most + 8 * g.heads) heads_pick.0 w
      reads_on = record {
        later = later_trans v u w before.later read.later;
        calls = let a = before.calls in let b = read.calls in let e = ap maps_named heads_pick.1 in sum _ _ _ _ _ _ a b e;
        fewer = fewer_trans v u w before.fewer load_fewer;
        recoverable = fewer_recoverable u w load_fewer server g before.recoverable;
        clean = λ i lt. (front_same i lt).first ∙ before.clean i lt ∙ sym (front_same i lt).second;
        whole = λ calm i lt. read.later.whole (before.later.calm calm) i (let e = before.recoverable.count in omega (arith, e, lt)) (before.whole calm i lt);
        data_pages = data_kept;
      }
        where
          sum : (n k o h m l : ℕ) → k ≤ o + most → n ≤ k + (8 * h + 24 * m) → m ≡ l → n ≤ o + (most + 8 * h + 24 * l)
          sum n k o h m l a b e = omega (arith, a, b, e)

      load_exit : most + 8 * g.heads ≤ reading_calls g → IsRecoverable server g v → IsNotUsedUp g v → (fault : CallFault) → (fault ≡ faults.Stopped → IsStop u w) → (IsCalm u → fault ≡ faults.Stopped → ⊥) → IsDown server g v (down_of fault) w
      load_exit few first left fault stop calm = by fault stop calm
        where
          calls_few : w.calls ≤ v.calls + calls_by g v heads_pick.0
          calls_few = let a = reads_on.calls in sum (maps_named (heads_on g (pages_by v heads_pick.0))) a
            where
              sum : (m : ℕ) → w.calls ≤ v.calls + (most + 8 * g.heads + 24 * m) → w.calls ≤ v.calls + most_calls g m
              sum m a = omega (arith, a, few)

          going : Recovering server g v heads_pick.0 w
          going = recovering_fewer server g v heads_pick.0 w first reads_on.fewer reads_on.later calls_few data_kept

          by : (fault : CallFault) → (fault ≡ faults.Stopped → IsStop u w) → (IsCalm u → fault ≡ faults.Stopped → ⊥) → IsDown server g v (down_of fault) w
          by faults.Stopped stop calm = stopped_down server g v heads_pick.0 w going (stop_since v u w before.later read.later (stop refl)) (λ quiet. calm (before.later.calm quiet) refl)
          by faults.Memory stop calm = memory_down server g v heads_pick.0 w going left

  -- where root, records, heads and map pages are known
  module _ (most : ℕ) (pick : Pick) (u : StoreView) (before : IsReadOn server g v most pick u) (epoch : ℕ) (records : List Record) (heads : List Head) (rows : List (List ℕ)) (same_heads : heads ≡ heads_on g (pages_by v pick)) (standing : IsStanding server g u epoch records heads rows) where
    -- the pages of a pick before
    abbrev earlier : Pick
    earlier = (fewer_pages v u before.fewer (λ n. false)).0

    found_there : found_on g u (λ n. false) ≡ found_on g v earlier
    found_there = ap (state_of g) (fewer_pages v u before.fewer (λ n. false)).1

    said : contents_by g u (λ n. false) ≡ held_contents g u epoch records heads (λ n. false)
    said = contents_held server g u epoch records heads rows standing.held (λ n. false)

    epoch_there : (found_on g v earlier).epoch ≡ epoch
    epoch_there = ap (λ (x : StableState). x.epoch) (sym found_there ∙ finds server g u epoch records heads rows standing (λ n. false))

    heads_earlier : heads ≡ heads_on g (pages_by v earlier)
    heads_earlier = sym (ap (λ (x : Contents). x.heads) said) ∙ ap (heads_on g) (fewer_pages v u before.fewer (λ n. false)).1

    pub stands : MendsMaps g heads v u → u.stops ≡ v.stops → Stands server g v most epoch epoch records heads rows u
    stands mended stops = record {
      later = before.later;
      calls = let a = before.calls in let e = ap maps_named same_heads in sum _ _ a e;
      stops = stops;
      standing = standing;
      before = earlier;
      heads_read = heads_earlier;
      supplied = ap supplied_on (sym (ap (λ (x : Contents). x.pool) said) ∙ ap (pool_on g) (fewer_pages v u before.fewer (λ n. false)).1);
      old = epoch_there;
      found = λ c. up server g u epoch records heads rows standing c ∙ found_there ∙ ap (λ k. record (found_on g v earlier) { epoch = k }) epoch_there;
      clean = before.clean;
      whole = before.whole;
      mended = mended;
      data_pages = before.data_pages;
    }
      where
        sum : (m l : ℕ) → u.calls ≤ v.calls + (most + 24 * l) → m ≡ l → u.calls ≤ v.calls + (most + 24 * m)
        sum m l a e = omega (arith, a, e)

-- ---- what the code has read, step by step

module _ (server : ServerNo) (g : Counts) (v : StoreView) (before : IsRecoverable server g v) (u : StoreView) (to : Cleans v 0 (front_count g) u)
    (r : Result Root DownCause) (x : StoreView) (read : SetsRead u 1 x) (root : (root : Root) → IsRoot root → IsOnly u 0 (root_page root) → RootRead root r) where
  abbrev cleaned : IsRead server g v (16 * front_count g) u
  cleaned = reads_none server g v u before to

  abbrev its_version : ℕ
  its_version = root_version server g u cleaned.recoverable cleaned.clean

  abbrev its_epoch : ℕ
  its_epoch = root_epoch server g u cleaned.recoverable cleaned.clean

  abbrev its_root : Root
  its_root = root_there server g u cleaned.recoverable cleaned.clean

  root_read : RootRead its_root r
  root_read = root its_root (root_is server g u cleaned.recoverable cleaned.clean) (root_only server g u cleaned.recoverable cleaned.clean)

  abbrev is_last : Result Root DownCause → Bool
  is_last (Err EpochsUsedUp) = true
  is_last _ = false

  pub root_exit : (cause : DownCause) → r ≡ Err cause → (r ≡ Err Stopped → IsStop u x) → (IsCalm u → r ≢ Err Stopped) → (r ≢ Err Stopped → IsServed u x) → IsDown server g v cause x
  root_exit cause is stop calm served = root_down server g v (16 * front_count g) u cleaned (8 * 1) x read.later read.calls read.same (omega arith) before cause (subst (RootRead its_root) is root_read)
      (λ e. stop (is ∙ ap (λ (k : DownCause). Err k) e)) (λ quiet e. calm quiet (is ∙ ap (λ (k : DownCause). Err k) e)) (λ e. (served (λ k. true≢false (sym (ap is_last (is ∙ ap (λ (k : DownCause). Err k) e)) ∙ ap is_last k))).power)

  module _ (o : Root) (is : r ≡ Ok o) where
    good : (o ≡ its_root) × (its_epoch < 4294967295)
    good = subst (RootRead its_root) is root_read

    left : IsNotUsedUp g v
    left = not_used_up server g v (16 * front_count g) u cleaned good.1

    with_root : IsRead server g v (16 * front_count g + 8 * 1) x
    with_root = reads_more server g v (16 * front_count g) u cleaned (8 * 1) x read.later read.calls read.same

    pool_is : o.pool ≡ g.pool
    pool_is = ap (λ (k : Root). k.pool) good.0

    counts_are : counts_of o ≡ g
    counts_are = ap (λ (k : Root). counts_of k) good.0

    pub counts_fit : (y : StoreView) → y.count ≡ x.count → y.count ≡ 1 + o.pool + o.heads + o.leaves
    counts_fit y e = e ∙ sym with_root.recoverable.count ∙ ap (λ (k : Root). 1 + k.pool + k.heads + k.leaves) (sym good.0)

    pub readable : (slot : ℕ) → slot < o.pool → IsReadable x slot
    readable slot lt = slots_readable server g x with_root.recoverable with_root.clean slot (subst (λ n. slot < n) pool_is lt)

    module _ (y : StoreView) (more : SetsRead x o.pool y) where
      pub sets_exit : (fault : CallFault) → (fault ≡ faults.Stopped → IsStop x y) → (IsCalm x → fault ≡ faults.Stopped → ⊥) → IsDown server g v (down_of fault) y
      sets_exit fault stop calm = load_down server g v (16 * front_count g + 8 * 1) x with_root (8 * o.pool) y more.later more.calls more.same (let e = pool_is in omega (arith, e)) before left fault stop calm

      with_pool : IsRead server g v (16 * front_count g + 8 * 1 + 8 * o.pool) y
      with_pool = reads_more server g v (16 * front_count g + 8 * 1) x with_root (8 * o.pool) y more.later more.calls more.same

      root_here : IsOnly y 0 (root_page its_root)
      root_here = same_only x y 0 _ (more.same 0) (same_only u x 0 _ (read.same 0) (root_only server g u cleaned.recoverable cleaned.clean))

      -- the heads that stand there may be loaded
      pub heads_loadable : MapsLoadable (counts_of o) (heads_on g (pages_by y (λ n. false))) y
      heads_loadable = subst (λ c. MapsLoadable c (heads_on g (pages_by y (λ n. false))) y) (sym counts_are) (loadable server g y with_pool.recoverable with_pool.clean)

      module _ (z : StoreView) (last : LoadedFrom (counts_of o) (heads_on g (pages_by y (λ n. false))) y z) where
        loaded_from : LoadedFrom g (heads_on g (pages_by y (λ n. false))) y z
        loaded_from = subst (λ c. LoadedFrom c (heads_on g (pages_by y (λ n. false))) y z) counts_are last

        few : 16 * front_count g + 8 * 1 + 8 * o.pool + 8 * g.heads ≤ reading_calls g
        few = let e = pool_is in omega (arith, e)

        pub table_exit : (fault : CallFault) → (fault ≡ faults.Stopped → IsStop y z) → (IsCalm y → fault ≡ faults.Stopped → ⊥) → IsDown server g v (down_of fault) z
        table_exit fault stop calm = load_exit server g v (16 * front_count g + 8 * 1 + 8 * o.pool) y with_pool z loaded_from few before left fault stop calm

        abbrev heads_were : (b : Pick) × (heads_on g (pages_by y (λ n. false)) ≡ heads_on g (pages_by v b))
        heads_were = heads_pick server g v (16 * front_count g + 8 * 1 + 8 * o.pool) y with_pool z loaded_from

        with_heads : IsReadOn server g v (reading_calls g) heads_were.0 z
        with_heads = subst (λ n. IsReadOn server g v n heads_were.0 z) (let e = pool_is in omega (arith, e))
            (reads_on server g v (16 * front_count g + 8 * 1 + 8 * o.pool) y with_pool z loaded_from)

        pub opened : (records : List Record) → length records ≡ o.pool → HoldsRecords records y → (t : TableView) → IsTableLoaded (counts_of o) t → t.heads ≡ heads_on g (pages_by y (λ n. false)) → HoldsTable t z → MendsMaps (counts_of o) (heads_on g (pages_by y (λ n. false))) y z
            → IsServed u x → y.stops ≡ x.stops → z.stops ≡ y.stops → (w : Opened) → w.root ≡ o → w.sets ≡ records → w.table ≡ t → IsOpened server g v w z
        opened records size hold t loaded heads holds mended one two three w a b c = record {
          root = a ∙ good.0 ∙ sym (ap (λ (k : Root). record (root_by server g k.epoch) { version = k.version }) (a ∙ good.0));
          last = subst (λ n. n < 4294967295) (sym (ap (λ (k : Root). k.epoch) (a ∙ good.0))) good.1;
          table = subst (IsTableLoaded g) (sym c) (subst (λ k. IsTableLoaded k t) counts_are loaded);
          stands = stands server g v (reading_calls g) heads_were.0 z with_heads w.root.epoch w.sets w.table.heads w.table.maps (ap (λ (k : TableView). k.heads) c ∙ heads ∙ heads_were.1) now mended_here
              (three ∙ two ∙ one.stops ∙ to.stops);
        }
          where
            table_counts : t.counts ≡ g
            table_counts = loaded.counts ∙ counts_are

            mended_here : MendsMaps g w.table.heads v z
            mended_here = λ calm. subst (λ hs. MendsMaps g hs y z) (sym (ap (λ (k : TableView). k.heads) c ∙ heads)) (subst (λ k. MendsMaps k (heads_on g (pages_by y (λ n. false))) y z) counts_are mended) (with_pool.later.calm calm)

            rows_are : AreRows g.leaves t.maps
            rows_are = subst (λ (k : Counts). AreRows k.leaves t.maps) table_counts loaded.table.heads.map_rows

            holds_here : HoldsHeads g t.maps (heads_on g (pages_by y (λ n. false))) z
            holds_here = subst (λ hs. HoldsHeads g t.maps hs z) heads (subst (λ k. HoldsHeads k t.maps t.heads z) table_counts holds)

            there : IsStanding server g z its_epoch records (heads_on g (pages_by y (λ n. false))) t.maps
            there = standing server g y with_pool.recoverable with_pool.clean its_version its_epoch (root_is server g u cleaned.recoverable cleaned.clean) root_here records (size ∙ pool_is) hold z loaded_from t.maps rows_are holds_here

            now : IsStanding server g z w.root.epoch w.sets w.table.heads w.table.maps
            now = subst (λ n. IsStanding server g z n w.sets w.table.heads w.table.maps) (sym (ap (λ (k : Root). k.epoch) (a ∙ good.0)))
                (subst (λ l. IsStanding server g z its_epoch l w.table.heads w.table.maps) (sym b)
                (subst (λ (k : TableView). IsStanding server g z its_epoch records k.heads k.maps) (sym c)
                (subst (λ l. IsStanding server g z its_epoch records l t.maps) (sym heads) there)))
