-- What the puts that carry out an intention leave of the store.
use Rattle.jn_intent.proofs.Common.{◌≡◌, ◌≢◌, ⊎_elim, ◌<◌, ◌≤◌, ◌+◌, ℕ, zero, suc, Bool, true, false, ◌||◌, if◌then◌else◌, List, [], ◌∷◌, take, refl, sym, ◌∙◌, ap, subst, true≢false, arith, cases_eq, false_from_ne_true, get_or-set_same, get_or-set_other, length-set, length-map, nat_lt, slice_set, WorkId, TableView, IsTable, IsUnnamed, layouts_in, row_at, intended, bytes_by, heads_name, works_have, names_for_block, Intends, block_on, pages_by, found_on, PagePut, HeadPut, MapPut, RecordPut, BlockPut, IsRecoverable, IsStanding, Makes, standing_state, fresh_map, Record, StoredIntention, FullIntention, What, Fresh, Gone, Cut, Put, Counts, data_place, Pick, StableState, Changed, CarryOut, made_by, IsLoadable, StoreView, StoreLater, IsServed, IsStop, IsOnly, IsSamePage, later_trans, stop_since, same_only, PutsOne, PutsWhole, PutsPart, PutsMapPage, PutsInTurn, KeepsMaps, without_promise, Head, most_cells, Layout, layout_by, kept_entry, ServerNo, AreRows, AreNamedOnce, IsMapRow, MayStand, IsLayoutPut, epoch_after, records_after, heads_after, rows_after, put_place, RootPut, reads_page, MakesFirst, used_there, IsStopState}
use Rattle.jn_page_state.proofs.Carrying.{carried, parted_first}
use Rattle.jn_page_state.proofs.Twos.{made_again, changed_on}
use Rattle.jn_intent.proofs.Laid.{same_layouts}
use Rattle.jn_intent.proofs.Naming.{found_cell}

-- ---- puts of heads and map pages

after_epoch : (heads : List Head) (put : PagePut) (epoch : ℕ) → IsLayoutPut heads put → epoch_after put epoch ≡ epoch
after_epoch heads (HeadPut place h) epoch kind = refl
after_epoch heads (MapPut d row) epoch kind = refl
after_epoch heads (RootPut later) epoch kind = absurd kind
after_epoch heads (RecordPut slot r) epoch kind = absurd kind
after_epoch heads (BlockPut d block) epoch kind = absurd kind

after_records : (heads : List Head) (put : PagePut) (records : List Record) → IsLayoutPut heads put → records_after put records ≡ records
after_records heads (HeadPut place h) records kind = refl
after_records heads (MapPut d row) records kind = refl
after_records heads (RootPut later) records kind = absurd kind
after_records heads (RecordPut slot r) records kind = absurd kind
after_records heads (BlockPut d block) records kind = absurd kind

-- none is the root's
off_root : (g : Counts) (heads : List Head) (put : PagePut) → IsLayoutPut heads put → 0 ≢ put_place g put
off_root g heads (HeadPut place h) kind e = omega (arith, e)
off_root g heads (MapPut d row) kind e = omega (arith, e)
off_root g heads (RootPut later) kind e = kind
off_root g heads (RecordPut slot r) kind e = kind
off_root g heads (BlockPut d block) kind e = kind

-- the map pages of a head that is put are stored
may_stand : (server : ServerNo) (t : TableView) (v : StoreView) (epoch : ℕ) (records : List Record) (slot : ℕ) (put : PagePut) → IsStanding server t.counts v epoch records t.heads t.maps → slot < t.counts.heads → IsLayoutPut t.heads put
    → KeepsMaps t v slot put → MayStand t.counts v t.heads t.maps put
may_stand server t v epoch records slot (HeadPut place h) standing below kind keeps = λ j d lt e. ⊎_elim (λ old. standing.held.maps_stored slot below j d lt old) (λ new. new) (keeps j d lt e)
may_stand server t v epoch records slot (MapPut d row) standing below kind keeps = tt
may_stand server t v epoch records slot (RootPut later) standing below kind keeps = tt
may_stand server t v epoch records slot (RecordPut at r) standing below kind keeps = tt
may_stand server t v epoch records slot (BlockPut d block) standing below kind keeps = absurd kind

-- where the bytes of its block stay, an intention is the same
same_intended : (one two : ℕ → List ℕ) (i : StoredIntention) → ((a : ℕ) → i.what ≡ Put → i.address ≡ suc a → one a ≡ two a) → intended one i ≡ intended two i
same_intended one two i same = ap (λ (bytes : List ℕ). let x : FullIntention = record { what = i.what; file = i.file; block = i.block; bytes = bytes } in x) (by i.what i.address refl refl)
  where
    by : (w : What) (a : ℕ) → i.what ≡ w → i.address ≡ a → bytes_by one w a ≡ bytes_by two w a
    by Put (suc a) e f = same a e f
    by Put zero e f = refl
    by Fresh a e f = refl
    by Gone a e f = refl
    by Cut a e f = refl

-- a page that stays is read as it was
pub block_same : (g : Counts) (w x : StoreView) (c : Pick) (a : ℕ) → x.count ≡ w.count → IsSamePage w x (data_place g a) → block_on g (pages_by x c) a ≡ block_on g (pages_by w c) a
block_same g w x c a count same = ap (take 448) (ap (λ n. if nat_lt (data_place g a) n then half (c (data_place g a)) x else []) count ∙ ap (λ (p : List ℕ). if nat_lt (data_place g a) w.count then p else []) (halves (c (data_place g a))))
  where
    half : Bool → StoreView → List ℕ
    half b v = if b then v.second (data_place g a) else v.first (data_place g a)

    halves : (b : Bool) → (if b then x.second (data_place g a) else x.first (data_place g a)) ≡ (if b then w.second (data_place g a) else w.first (data_place g a))
    halves true = same.second
    halves false = same.first

-- ---- what is left

-- of a store that stood, once the intention is carried out or was stopped
pub record IsCarried (most : ℕ) (server : ServerNo) (g : Counts) (epoch : ℕ) (records : List Record) (x : StableState) (work : WorkId) (full : FullIntention) (v : StoreView) (ok : Bool) (u : TableView) (w : StoreView) : Type 0 where
  pub counts : u.counts ≡ g
  pub later : StoreLater v w
  pub calls : w.calls ≤ v.calls + most
  pub changed : Changed x (CarryOut work full) ok (found_on g w)
  pub recoverable : IsRecoverable server g w
  pub served : ok ≡ true → IsServed v w
  pub stop : ok ≡ false → IsStop v w
  pub standing : ok ≡ true → IsStanding server g w epoch records u.heads u.maps
  pub root : (page : List ℕ) → ok ≡ true → IsOnly v 0 page → IsOnly w 0 page

module _ (server : ServerNo) (epoch : ℕ) (records : List Record) (slot : ℕ) (work : WorkId) (i : StoredIntention) (full : FullIntention) (intends : Intends records slot i) where
  -- one put of a page, on a table and a store that stand
  module _ (t : TableView) (v : StoreView) (standing : IsStanding server t.counts v epoch records t.heads t.maps) (ok : Bool) (u : TableView) (w : StoreView) (place : ℕ) (new : Layout) (one : PutsOne t v place new ok u w) where
    kept_root : (page : List ℕ) → IsOnly v 0 page → IsOnly w 0 page
    kept_root page root = same_only v w 0 page ((one.step server).others 0 (let e = standing.held.count in omega (arith, e)) (off_root t.counts t.heads one.put one.lays.kind)) root

    on_standing : ok ≡ true → IsStanding server t.counts w (epoch_after one.put epoch) (records_after one.put records) (heads_after one.put t.heads) (rows_after one.put t.maps) → IsStanding server t.counts w epoch records u.heads u.maps
    on_standing done after = let changed = one.done done in
        subst (λ n. IsStanding server t.counts w n records u.heads u.maps) (after_epoch t.heads one.put epoch one.lays.kind)
        (subst (λ rs. IsStanding server t.counts w (epoch_after one.put epoch) rs u.heads u.maps) (after_records t.heads one.put records one.lays.kind)
        (subst (λ hs. IsStanding server t.counts w (epoch_after one.put epoch) (records_after one.put records) hs u.maps) (sym changed.heads)
        (subst (λ rows. IsStanding server t.counts w (epoch_after one.put epoch) (records_after one.put records) (heads_after one.put t.heads) rows) (sym changed.maps) after)))

    counts_stay : u.counts ≡ t.counts
    counts_stay = by ok refl
      where
        by : (b : Bool) → ok ≡ b → u.counts ≡ t.counts
        by true e = (one.done e).counts
        by false e = one.stopped e

  -- by one put
  module _ (t : TableView) (v : StoreView) (standing : IsStanding server t.counts v epoch records t.heads t.maps) (is : IsTable t) (same : (c : Pick) → intended (block_on t.counts (pages_by v c)) i ≡ full)
      (may : IsLoadable server t.counts.heads (made_by (CarryOut work full) (standing_state t.counts v))) (ok : Bool) (u : TableView) (w : StoreView) where
    module _ (p : PutsWhole t v i ok u w) where
      slot_below : p.slot < t.counts.heads
      slot_below = let lt = p.carries.there in let long = length-map t.heads (layout_by (kept_entry t.maps)) in let slots = is.slots in omega (arith, lt, long, slots)

      makes : Makes server t.counts v epoch records t.heads t.maps p.one.put (CarryOut work full) ok w
      makes = carried server t.counts v w epoch records t.heads t.maps ok standing p.one.put (record { page = p.one.page server; step = p.one.step server })
          (may_stand server t v epoch records p.slot p.one.put standing slot_below p.one.lays.kind p.one.maps) p.slot p.new p.one.lays slot i p.carries intends work full same may

      pub carried_once : IsCarried 16 server t.counts epoch records (standing_state t.counts v) work full v ok u w
      carried_once = record {
        counts = counts_stay (without_promise t i) v standing ok u w p.slot p.new p.one;
        later = (p.one.step server).later;
        calls = (p.one.step server).calls;
        changed = makes.change;
        recoverable = makes.recoverable;
        served = (p.one.step server).served;
        stop = (p.one.step server).stop;
        standing = λ done. on_standing (without_promise t i) v standing ok u w p.slot p.new p.one done (makes.standing done);
        root = λ page done root. kept_root (without_promise t i) v standing ok u w p.slot p.new p.one page root;
      }

  -- by two
  module _ (t : TableView) (v : StoreView) (standing : IsStanding server t.counts v epoch records t.heads t.maps) (is : IsTable t) (same : (c : Pick) → intended (block_on t.counts (pages_by v c)) i ≡ full)
      (may : IsLoadable server t.counts.heads (made_by (CarryOut work full) (standing_state t.counts v))) (ok : Bool) (u : TableView) (w : StoreView)
      (fits : (a : ℕ) → i.address ≡ suc a → a < t.counts.leaves) (differs : (a d : ℕ) → i.address ≡ suc a → i.map ≡ suc d → d ≢ a) (unread : (d : ℕ) → i.map ≡ suc d → works_have (names_for_block (suc d)) records ≡ false) (p : PutsInTurn t v i ok u w) where
    -- the table and the store between them
    record IsFirst : Type 0 where
      pub counts : p.table.counts ≡ t.counts
      pub later : StoreLater v p.store
      pub calls : p.store.calls ≤ v.calls + 16
      pub found : (c : Pick) → IsStopState (standing_state t.counts v) (CarryOut work full ∷ []) (found_on t.counts p.store c)
      pub recoverable : IsRecoverable server t.counts p.store
      pub served : p.ready ≡ true → IsServed v p.store
      pub stop : p.ready ≡ false → IsStop v p.store
      pub stood : p.ready ≡ true → IsStanding server t.counts p.store epoch records p.table.heads p.table.maps
      pub bytes : (c : Pick) → intended (block_on t.counts (pages_by p.store c)) i ≡ full
      pub table : p.ready ≡ true → IsTable p.table
      pub root : (page : List ℕ) → IsOnly v 0 page → IsOnly p.store 0 page

    first_part : PutsPart t v i p.ready p.table p.store → IsFirst
    first_part f = record {
      counts = counts_stay t v standing p.ready p.table p.store f.slot f.new f.one;
      later = (f.one.step server).later;
      calls = (f.one.step server).calls;
      found = parts.found;
      recoverable = parts.recoverable;
      served = (f.one.step server).served;
      stop = (f.one.step server).stop;
      stood = λ ready. on_standing t v standing p.ready p.table p.store f.slot f.new f.one ready (parts.standing ready);
      bytes = λ c. same_intended (block_on t.counts (pages_by p.store c)) (block_on t.counts (pages_by v c)) i (λ a put address. absurd (no_put (sym f.part.cuts ∙ put))) ∙ same c;
      table = λ ready. (f.one.done ready).table;
      root = λ page root. kept_root t v standing p.ready p.table p.store f.slot f.new f.one page root;
    }
      where
        no_put : Cut ≡ Put → ⊥
        no_put e = cc e

        below : f.slot < t.counts.heads
        below = let long = length-map t.heads (layout_by (kept_entry t.maps)) in let slots = is.slots in let lt = used_there (layouts_in t) i.file f.slot f.part.part.serves in omega (arith, long, slots, lt)

        parts : MakesFirst server t.counts v epoch records t.heads t.maps f.one.put (CarryOut work full) p.ready p.store
        parts = parted_first server t.counts v p.store epoch records t.heads t.maps p.ready standing f.one.put (record { page = f.one.page server; step = f.one.step server })
            (may_stand server t v epoch records f.slot f.one.put standing below f.one.lays.kind f.one.maps) f.slot f.new f.one.lays i f.range f.part work full same

    first_map : PutsMapPage t v i p.ready p.table p.store → IsFirst
    first_map f = record {
      counts = by_ready (λ ready. ap (λ (x : TableView). x.counts) (f.done ready)) (λ stopped. ap (λ (x : TableView). x.counts) (f.stopped stopped));
      later = f.put.later;
      calls = f.put.calls;
      found = fresh.found;
      recoverable = fresh.recoverable;
      served = f.put.served;
      stop = f.put.stop;
      stood = λ ready. subst (λ (x : TableView). IsStanding server t.counts p.store epoch records x.heads x.maps) (sym (f.done ready)) (fresh.standing ready);
      bytes = λ c. same_intended (block_on t.counts (pages_by p.store c)) (block_on t.counts (pages_by v c)) i (λ a put address. block_same t.counts v p.store c a f.put.later.count (stays a address)) ∙ same c;
      table = λ ready. subst IsTable (sym (f.done ready)) (record {
        heads = record {
          each = is.heads.each;
          files = is.heads.files;
          map_rows = rows_are;
          addresses = subst AreNamedOnce (sym same_names) is.heads.addresses;
        };
        slots = is.slots;
        leaves = is.leaves;
        touches = is.touches;
        few_heads = is.few_heads;
        few_leaves = is.few_leaves;
        head_count = is.head_count;
        free_heads = is.free_heads;
        leaf_count = is.leaf_count;
        free_leaves = λ a. (
          λ free. let at = (is.free_leaves a).0 free in record { below = at.below; loose = at.loose; unnamed = subst (λ ls. IsUnnamed ls a) (sym same_names) at.unnamed },
          λ at. (is.free_leaves a).1 (record { below = at.below; loose = at.loose; unnamed = subst (λ ls. IsUnnamed ls a) same_names at.unnamed }),
        );
      });
      root = λ page root. same_only v p.store 0 page (f.put.others 0 (let e = standing.held.count in omega (arith, e)) (λ e. omega (arith, e))) root;
    }
      where
        by_ready : (p.ready ≡ true → p.table.counts ≡ t.counts) → (p.ready ≡ false → p.table.counts ≡ t.counts) → p.table.counts ≡ t.counts
        by_ready x y = by p.ready refl
          where
            by : (b : Bool) → p.ready ≡ b → p.table.counts ≡ t.counts
            by true e = x e
            by false e = y e

        stays : (a : ℕ) → i.address ≡ suc a → IsSamePage v p.store (data_place t.counts a)
        stays a address = f.put.others (data_place t.counts a) (let lt = fits a address in let count = standing.held.count in omega (arith, lt, count)) (λ e. differs a f.page address f.brings (omega (arith, e)))

        same_names : layouts_in (record t { maps = slice_set t.maps f.page f.row }) ≡ layouts_in t
        same_names = same_layouts t f.page f.row is f.below f.unnamed

        rows_are : AreRows t.counts.leaves (slice_set t.maps f.page f.row)
        rows_are = record {
          count = length-set t.maps f.page f.row ∙ is.heads.map_rows.count;
          each = λ d lt. ⊎_elim
              (λ e. subst (λ k. IsMapRow t.counts.leaves (row_at (slice_set t.maps f.page f.row) k)) (sym e)
              (subst (IsMapRow t.counts.leaves) (sym (get_or-set_same t.maps f.page f.row [] (let n = is.heads.map_rows.count in let below = f.below in omega (arith, n, below)))) (record { count = f.whole.count; within_leaves = f.whole.within_leaves })))
              (λ ne. subst (IsMapRow t.counts.leaves) (sym (get_or-set_other t.maps f.page d f.row [] ne)) (is.heads.map_rows.each d lt))
              (cases_eq d f.page);
        }

        unread_now : reads_page (layouts_in t) records f.page ≡ false
        unread_now = neither (heads_name most_cells (layouts_in t) (suc f.page)) (works_have (names_for_block (suc f.page)) records) unnamed_all (unread f.page f.brings)
          where
            neither : (b c : Bool) → b ≡ false → c ≡ false → (b || c) ≡ false
            neither b c x y = grind (arith, x, y)

            unnamed_all : heads_name most_cells (layouts_in t) (suc f.page) ≡ false
            unnamed_all = false_from_ne_true (heads_name most_cells (layouts_in t) (suc f.page)) (λ named. let at = found_cell most_cells (layouts_in t) (suc f.page) named in f.unnamed at.0 at.1 at.3)

        fresh : MakesFirst server t.counts v epoch records t.heads t.maps (MapPut f.page f.row) (CarryOut work full) p.ready p.store
        fresh = fresh_map server t.counts v p.store epoch records t.heads t.maps p.ready standing f.page f.row (CarryOut work full) (record { page = (f.below, f.whole); step = f.put }) unread_now

    the_first : IsFirst
    the_first = ⊎_elim first_part first_map p.first

    second : p.ready ≡ true → IsCarried 16 server t.counts epoch records (standing_state t.counts p.store) work full p.store ok u w
    second ready = let f = the_first in let counts = f.counts in
        subst (λ g. IsCarried 16 server g epoch records (standing_state g p.store) work full p.store ok u w) counts
        (carried_once p.table p.store (subst (λ g. IsStanding server g p.store epoch records p.table.heads p.table.maps) (sym counts) (f.stood ready)) (f.table ready)
        (subst (λ g. (c : Pick) → intended (block_on g (pages_by p.store c)) i ≡ full) (sym counts) f.bytes)
        (subst (λ g. IsLoadable server g.heads (made_by (CarryOut work full) (standing_state g p.store))) (sym counts)
        (subst (λ y. IsLoadable server t.counts.heads y) (sym (made_again work full (standing_state t.counts v) (standing_state t.counts p.store) (f.found (λ n. false)))) may)) ok u w (p.whole ready))

    pub carried_twice : IsCarried 32 server t.counts epoch records (standing_state t.counts v) work full v ok u w
    carried_twice = by p.ready refl
      where
        f : IsFirst
        f = the_first

        by : (b : Bool) → p.ready ≡ b → IsCarried 32 server t.counts epoch records (standing_state t.counts v) work full v ok u w
        by true ready = let s = second ready in record {
          counts = s.counts;
          later = later_trans v p.store w f.later s.later;
          calls = let a = f.calls in let b = s.calls in omega (arith, a, b);
          changed = changed_on work full (standing_state t.counts v) (standing_state t.counts p.store) ok (found_on t.counts w) (f.found (λ n. false)) s.changed;
          recoverable = s.recoverable;
          served = λ done. record { power = (s.served done).power; stops = (s.served done).stops ∙ (f.served ready).stops };
          stop = λ stopped. stop_since v p.store w f.later s.later (s.stop stopped);
          standing = s.standing;
          root = λ page done root. s.root page done (f.root page root);
        }
        by false stopped = let is_so = p.stopped stopped in record {
          counts = ap (λ (x : TableView). x.counts) is_so.1 ∙ f.counts;
          later = subst (λ x. StoreLater v x) (sym is_so.2) f.later;
          calls = let a = f.calls in let e = ap (λ (x : StoreView). x.calls) is_so.2 in omega (arith, a, e);
          changed = record { done = λ done. absurd (true≢false (sym done ∙ is_so.0)); stop = λ e c. subst (λ x. IsStopState (standing_state t.counts v) (CarryOut work full ∷ []) (found_on t.counts x c)) (sym is_so.2) (f.found c) };
          recoverable = subst (λ x. IsRecoverable server t.counts x) (sym is_so.2) f.recoverable;
          served = λ done. absurd (true≢false (sym done ∙ is_so.0));
          stop = λ e. subst (λ x. IsStop v x) (sym is_so.2) (f.stop stopped);
          standing = λ done. absurd (true≢false (sym done ∙ is_so.0));
          root = λ page done root. absurd (true≢false (sym done ∙ is_so.0));
        }
