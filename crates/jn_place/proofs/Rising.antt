-- A restart, from the store with power to the server.
use Rattle.jn_place.proofs.Common.{◌≡◌, ◌≤◌, ◌<◌, ◌+◌, ℕ, suc, Bool, true, false, true≢false, List, [], ◌∷◌, ◌++◌, map, Option, Some, None, is_some, ⊎_elim, ◌||◌, refl, sym, ◌∙◌, ap, subst, arith, Result, Ok, Err, IfOk, ServerNo, Tid, DeviceState, PowersUp, powered_off, cleared, found_on, fewer_picked, restored, Memory, Counts, Found, Transaction, restored_transaction, restored_transactions, StableState, FlagState, IsRestarted, IsNotRestarted, Parts, view_with, memory_of, StoreView, IsCalm, When, Line, Accounts, StoreLater, Restarted, Slot, Up, Down, Gone, lines_at, texts_of_step, IsTried, IsUpAt, IsStoppedUp, IsUsedUpAt, CameTo, IsRestart, IsCalmAt, ComesCalm, is_stopped, IsRisen, IsCutUp, IsAtLast, SaysSame, StaysAs, StandsUp, Rises, Lifts, told_at, CameUp, IsHeld, with_epoch, slot_place, head_place, pairs_view, IsWholePage, root_by, IsOnly, length, Pages, Pick, heads_on, pages_by, state_of, MapsAreClean, calls_by, most_calls, beside_of, IsSpent, data_place}
use Rattle.jn_base.specs.Names.{tid_eq, work_eq}
use Rattle.jn_base.proofs.Tells.{tid_tells}
use Rattle.jn_records.specs.MapPlaces.{maps_named}
use Rattle.jn_recovery.specs.Loading.{IsSameOrNext}
use Rattle.jn_server.specs.Standing.{beside_on}
use Rattle.std.specs.List.{list_any}
use Rattle.jn_page_state.specs.Puts.{IsFrontClean, IsFrontWhole}
use Rattle.jn_system.specs.WholeSystem.Steps.{AreNames, tid_before}
use Rattle.jn_recovery.specs.declared.load.DownCause.{DownCause}
use Rattle.jn_recovery.specs.declared.load.DownCause.TheVariants.{Stopped, EpochsUsedUp}
use Rattle.jn_locks.specs.Locks.{work_before}
use Rattle.jn_records.specs.Pages.{root_page}
use Rattle.jn_place.specs.declared.place.Restarted.TheVariants as came
use Rattle.jn_place.proofs.Ending.{Sees, spent, spent-on, calm-cleared}

-- ---- the names of the flags

abbrev tid_of : Transaction → Tid
tid_of x = x.tid

is-head : (T : Tid) (rest : Bool) → (tid_eq T T || rest) ≡ true
is-head T rest = ⊎_elim (λ h. ap (λ b. b || rest) h.0) (λ h. absurd (h.1 refl)) (tid_tells T T)

in-tail : (b rest : Bool) → rest ≡ true → (b || rest) ≡ true
in-tail true rest h = refl
in-tail false rest h = h

names-told : (x : StableState) (Ts : List Tid) → ((T : Tid) → list_any (λ b. tid_eq b T) Ts ≡ true → is_some (x.flags T) ≡ true) → map tid_of (restored_transactions x Ts) ≡ Ts
names-told x [] h = refl
names-told x (T ∷ Ts) h = by (x.flags T) (h T (is-head T (list_any (λ b. tid_eq b T) Ts))) (names-told x Ts (λ U e. h U (in-tail (tid_eq T U) (list_any (λ b. tid_eq b U) Ts) e)))
  where
    by : (o : Option FlagState) → is_some o ≡ true → map tid_of (restored_transactions x Ts) ≡ Ts → map tid_of (restored_transaction T o ++ restored_transactions x Ts) ≡ T ∷ Ts
    by (Some flag) e rest = ap (λ (l : List Tid). T ∷ l) rest
    by None e rest = absurd (true≢false (sym e))

pub names-are : (x : StableState) (Ts : List Tid) → AreNames tid_eq tid_before x.flags Ts → map (λ (t : Transaction). t.tid) (restored_transactions x Ts) ≡ Ts
names-are x Ts h = names-told x Ts (λ T e. sym (h.each T) ∙ e)

-- ---- the three ways

module _ {S : Type 0} (look : S → StoreView) (device : S → DeviceState) (q : ServerNo) (g : Counts) (s : S) where
  pub risen : (told : Found) (tids : List Tid) (p : Parts S) → IsRestarted q g (look s) told (view_with look p) → tids ≡ map (λ (t : Transaction). t.tid) p.coordinator.transactions → IsRisen look q g s told.epoch tids p
  risen told tids p r e = record {
    later = r.loaded.recovering.later;
    few = r.loaded.recovering.calls;
    power = r.serves.works.serving.power;
    pick = r.loaded.before;
    works = r.works;
    work_names = r.work_names;
    flag_names = subst (λ l. AreNames tid_eq tid_before x.flags l) (sym same) r.flag_names;
    remembers = r.remembers ∙ ap (λ l. restored q x r.works l) (sym same);
    finds = λ c. r.loaded.found c ∙ ap (λ (n : ℕ). record x { epoch = n }) (one-more x.epoch);
    epoch_is = told-epoch;
    before_last = let fits = r.loaded.epoch_fits in omega (arith, told-epoch, fits);
    beside = λ i. record { rubbish = length (r.loaded.recovered.rubbish i); maps = r.loaded.maps i; supplied = r.loaded.supplied i };
    clean = r.loaded.recovered.rubbish;
    maps = r.loaded.maps_clean;
    front = r.loaded.front;
    front_whole = r.loaded.front_whole;
    root = r.loaded.root;
  }
    where
      x : StableState
      x = found_on g (look s) r.loaded.before

      same : tids ≡ r.tids
      same = e ∙ ap (λ (m : Memory). map (λ (t : Transaction). t.tid) m.coordinator.transactions) r.remembers ∙ names-are x r.tids r.flag_names

      one-more : (n : ℕ) → suc n ≡ n + 1
      one-more n = omega arith

      told-epoch : told.epoch ≡ x.epoch + 1
      told-epoch = r.loaded.epoch ∙ ap (λ (y : StableState). y.epoch) (r.loaded.found (λ n. false)) ∙ one-more x.epoch

  pub risen-ok : {E : Type 0} (answer : Result Restarted E) (told : Found) (p : Parts S) (b : Slot S) → IsRestarted q g (look s) told (view_with look p) → IfOk answer (λ r. StandsUp p told.epoch r b) → IfOk answer (λ r. Rises look device q g s r b)
  risen-ok (Ok (came.Up e tids)) told p b r h = subst (λ (x : Slot S). Rises look device q g s (came.Up e tids) x) (sym h.0) (subst (λ (n : ℕ). IsRisen look q g s n tids.items p) (sym h.1) (risen told tids.items p r h.2))
  risen-ok (Ok came.Stopped) told p b r h = absurd h
  risen-ok (Ok came.UsedUp) told p b r h = absurd h
  risen-ok (Err e) told p b r h = tt

  pub came-ok : {E : Type 0} (answer : Result Restarted E) (epoch : ℕ) (p : Parts S) (b : Slot S) → IsHeld q g 0 true (view_with look p) → IfOk answer (λ r. StandsUp p epoch r b) → IfOk answer (λ r. CameUp look q g b r)
  came-ok (Ok (came.Up e tids)) epoch p b held h = subst (λ (x : Slot S). CameUp look q g x (came.Up e tids)) (sym h.0) held
  came-ok (Ok came.Stopped) epoch p b held h = absurd h
  came-ok (Ok came.UsedUp) epoch p b held h = absurd h
  came-ok (Err e) epoch p b held h = tt

  pub cut-up : (cause : DownCause) (s' : S) → cause ≡ Stopped → IsNotRestarted q g (look s) cause (look s') → IsCutUp look g s s'
  cut-up cause s' is d = record {
    later = d.down.recovering.later;
    some = d.down.some;
    few = d.down.recovering.calls;
    dark = (d.down.stop is).dark;
    each = d.down.recovering.each;
    not_calm = λ calm. d.down.calm calm is;
  }

  pub at-last : (cause : DownCause) (called s' : S) → cause ≡ EpochsUsedUp → IsNotRestarted q g (look s) cause (look called) → device s' ≡ powered_off (device called) → SaysSame look called s' → IsAtLast look device g s s'
  at-last cause called s' is d off same = let used = d.down.used_up is in record {
    called = called;
    later = d.down.recovering.later;
    some = d.down.some;
    few = d.down.recovering.calls;
    power = used.power;
    device_is = off;
    each = λ c. let h = fewer_picked (look s) (look called) used.fewer g c in (h.0, ap (state_of g) (same c) ∙ h.1);
    last = λ c. ap (λ (p : Pages). let x : StableState = state_of g p in x.epoch) (same c) ∙ used.all c;
  }

-- ---- with the power that came before, and what follows

module _ {S : Type 0} (look : S → StoreView) (device : S → DeviceState) (sees : Sees look device) (q : ServerNo) (g : Counts) where
  pub lifted : (a : Slot S) (s lit : S) (r : Restarted) (b : Slot S) → a ≡ Down s → PowersUp (device s) (device lit) → SaysSame look s lit → Rises look device q g lit r b → Lifts look device q g a r b
  lifted a s lit r b is powers same h = subst (λ (x : Slot S). Lifts look device q g x r b) (sym is) (record { lit = lit; powers = powers; same = same; rises = h })

  lit-calm : (s lit : S) → PowersUp (device s) (device lit) → (look s).waiting ≡ [] → IsCalm (look lit)
  lit-calm s lit powers quiet = record {
    quiet = ap (λ (v : StoreView). v.waiting) (sees lit) ∙ powers.waiting ∙ sym (ap (λ (v : StoreView). v.waiting) (sees s)) ∙ quiet;
    power = ap (λ (v : StoreView). v.power) (sees lit) ∙ powers.power_is;
  }

  -- what the device reported is forgotten, and no page changes by that
  clean-stays : (s t : S) → device t ≡ cleared (device s) → IsFrontClean g (look s) → IsFrontClean g (look t)
  clean-stays s t after h = subst (λ (v : StoreView). IsFrontClean g v) (sym (sees t)) (subst (λ (d : DeviceState). IsFrontClean g (pairs_view d)) (sym after) (by (subst (λ (v : StoreView). IsFrontClean g v) (sees s) h)))
    where
      by : IsFrontClean g (pairs_view (device s)) → IsFrontClean g (pairs_view (cleared (device s)))
      by f = record { root = f.root; pool = f.pool; heads = f.heads }

  maps-stay : (s t : S) → device t ≡ cleared (device s) → MapsAreClean g (look s) → MapsAreClean g (look t)
  maps-stay s t after h = subst (λ (v : StoreView). MapsAreClean g v) (sym (sees t)) (subst (λ (d : DeviceState). MapsAreClean g (pairs_view d)) (sym after) (by (subst (λ (v : StoreView). MapsAreClean g v) (sees s) h)))
    where
      by : MapsAreClean g (pairs_view (device s)) → MapsAreClean g (pairs_view (cleared (device s)))
      by f = λ c d below names. f c d below names

  only-stays : (s t : S) (k : ℕ) (page : List ℕ) → device t ≡ cleared (device s) → IsOnly (look s) k page → IsOnly (look t) k page
  only-stays s t k page after h = subst (λ (v : StoreView). IsOnly v k page) (sym (sees t)) (subst (λ (d : DeviceState). IsOnly (pairs_view d) k page) (sym after) (by (subst (λ (v : StoreView). IsOnly v k page) (sees s) h)))
    where
      by : IsOnly (pairs_view (device s)) k page → IsOnly (pairs_view (cleared (device s))) k page
      by o = record { first = o.first; second = o.second }

  whole-stays : (s t : S) → device t ≡ cleared (device s) → IsFrontWhole g (look s) → IsFrontWhole g (look t)
  whole-stays s t after h = subst (λ (v : StoreView). IsFrontWhole g v) (sym (sees t)) (subst (λ (d : DeviceState). IsFrontWhole g (pairs_view d)) (sym after) (by (subst (λ (v : StoreView). IsFrontWhole g v) (sees s) h)))
    where
      page : (i : ℕ) → IsWholePage (pairs_view (device s)) i → IsWholePage (pairs_view (cleared (device s))) i
      page i w = record { both = w.both; clean = w.clean }

      by : IsFrontWhole g (pairs_view (device s)) → IsFrontWhole g (pairs_view (cleared (device s)))
      by f = record { root = page 0 f.root; pool = λ i below. page (slot_place g i) (f.pool i below); heads = λ i below. page (head_place g i) (f.heads i below); maps = λ c d below names. page (data_place g d) (f.maps c d below names) }

  module _ (s lit : S) (powers : PowersUp (device s) (device lit)) (same : SaysSame look s lit) where
    -- the pages that a pick finds are those that the device has
    found-same : (c : Pick) → pages_by (look lit) c ≡ pages_by (pairs_view (device s)) c
    found-same c = same c ∙ ap (λ (v : StoreView). pages_by v c) (sees s)

    bound-same : (c : Pick) → calls_by g (look lit) c ≡ calls_by g (pairs_view (device s)) c
    bound-same c = ap (λ (p : Pages). most_calls g (maps_named (heads_on g p))) (found-same c)

    tried : (c : Pick) (t u : S) (power : Bool) → StoreLater (look lit) (look t) → (look t).calls ≤ (look lit).calls + calls_by g (look lit) c → (look t).power ≡ power → device u ≡ cleared (device t) → IsTried g c (device t).told power (device s) (device u)
    tried c t u power later few lit-is after = record {
      powered = device lit;
      up = powers;
      spent = subst (λ (n : ℕ). IsSpent n (device t).told power (device lit) (device u)) (bound-same c) (spent look device sees (calls_by g (look lit) c) lit t u power later few lit-is after);
    }

    up-at : (epoch : ℕ) (tids : List Tid) (m b : Parts S) → IsRisen look q g lit epoch tids m → StaysAs look device cleared (Up m) (Up b) → IsUpAt look device q g (device m.storage.0).told s epoch tids b
    up-at epoch tids m b h stays = record {
      tried = tried h.pick m.storage.0 b.storage.0 true h.later h.few h.power stays.1;
      pick = h.pick;
      works = h.works;
      work_names = subst (λ (x : StableState). AreNames work_eq work_before x.works h.works) at h.work_names;
      flag_names = subst (λ (x : StableState). AreNames tid_eq tid_before x.flags tids) at h.flag_names;
      remembers = stays.0.memory ∙ subst (λ (x : StableState). memory_of (view_with look m) ≡ restored q x h.works tids) at h.remembers;
      finds = λ c. ap (λ f. f c) stays.0.found ∙ subst (λ (x : StableState). (view_with look m).storage.found c ≡ with_epoch x) at (h.finds c);
      epoch_is = subst (λ (x : StableState). epoch ≡ x.epoch + 1) at h.epoch_is;
      before_last = subst (λ (x : StableState). x.epoch < 4294967295) at h.before_last;
      beside = ap beside_of stays.0.accounts ∙ h.beside ∙ ap (λ (p : Pages). record (beside_on g p) { rubbish = 0 }) (found-same h.pick);
      clean = ap (λ (a : Accounts). a.rubbish) stays.0.accounts ∙ h.clean;
      maps = maps-stay m.storage.0 b.storage.0 stays.1 h.maps;
      front = clean-stays m.storage.0 b.storage.0 stays.1 h.front;
      front_whole = λ quiet. whole-stays m.storage.0 b.storage.0 stays.1 (h.front_whole (lit-calm s lit powers (ap (λ (v : StoreView). v.waiting) (sees s) ∙ quiet)));
      root = only-stays m.storage.0 b.storage.0 0 (root_page (root_by q g epoch)) stays.1 h.root;
    }
      where
        at : found_on g (look lit) h.pick ≡ found_on g (look s) h.pick
        at = ap (state_of g) (same h.pick)

    stopped-up : (m b : S) → IsCutUp look g lit m → StaysAs look device cleared (Down m) (Down b) → IsStoppedUp look device g (device m).told s b
    stopped-up m b h stays = record {
      some = h.some;
      tried = tried h.some m b false h.later h.few h.dark stays.1;
      each = λ c. let (k, e) = h.each c in (
        k,
        subst (λ (x : StableState). IsSameOrNext x (found_on g (look b) c)) (ap (state_of g) (same k))
            (subst (λ (y : StableState). IsSameOrNext (found_on g (look lit) k) y) (sym (ap (state_of g) (stays.0 c))) e),
      );
    }

    used-up : (m b : S) → IsAtLast look device g lit m → StaysAs look device cleared (Down m) (Down b) → IsUsedUpAt look device g (device m).told s b
    used-up m b h stays = record {
      called = cleared (device h.called);
      some = h.some;
      tried = record {
        powered = device lit;
        up = powers;
        spent = subst (λ (n : ℕ). IsSpent n (device m).told true (device lit) (cleared (device h.called))) (bound-same h.some)
            (spent-on look device sees (calls_by g (look lit) h.some) lit h.called (cleared (device h.called)) (device m).told true (ap (λ (d : DeviceState). d.told) h.device_is) h.later h.few h.power refl);
      };
      device_is = stays.1 ∙ ap cleared h.device_is;
      each = λ c. let (k, e) = h.each c in (k, ap (state_of g) (stays.0 c) ∙ e ∙ ap (state_of g) (same k));
      last = λ c. ap (λ (p : Pages). let x : StableState = state_of g p in x.epoch) (stays.0 c) ∙ h.last c;
    }

    came-to : (r : Restarted) (m b : Slot S) → Rises look device q g lit r m → StaysAs look device cleared m b → CameTo look device q g (told_at device m) (Down s) r b
    came-to (came.Up epoch tids) (Up m) (Up b) h stays = up-at epoch tids.items m b h stays
    came-to (came.Up epoch tids) (Up m) (Down b) h stays = absurd stays
    came-to (came.Up epoch tids) (Up m) Gone h stays = absurd stays
    came-to (came.Up epoch tids) (Down m) b h stays = absurd h
    came-to (came.Up epoch tids) Gone b h stays = absurd h
    came-to came.Stopped (Down m) (Down b) h stays = stopped-up m b h stays
    came-to came.Stopped (Down m) (Up b) h stays = absurd stays
    came-to came.Stopped (Down m) Gone h stays = absurd stays
    came-to came.Stopped (Up m) b h stays = absurd h
    came-to came.Stopped Gone b h stays = absurd h
    came-to came.UsedUp (Down m) (Down b) h stays = used-up m b h stays
    came-to came.UsedUp (Down m) (Up b) h stays = absurd stays
    came-to came.UsedUp (Down m) Gone h stays = absurd stays
    came-to came.UsedUp (Up m) b h stays = absurd h
    came-to came.UsedUp Gone b h stays = absurd h

  pub restarted : (when : When) (lines lines' : List Line) (a m b : Slot S) (r : Restarted) → Lifts look device q g a r m → StaysAs look device cleared m b → lines' ≡ lines ++ lines_at when (texts_of_step q (told_at device m) true)
      → IsRestart look device q g when a r b lines lines'
  restarted when lines lines' (Down s) m b r h stays e = record { told = told_at device m; came = came-to s h.lit h.powers h.same r m b h.rises stays; lines_are = e }
  restarted when lines lines' (Up p) m b r h stays e = absurd h
  restarted when lines lines' Gone m b r h stays e = absurd h

  -- ---- while no fault waits

  used-quiet : (lit m b : S) → IsAtLast look device g lit m → device b ≡ cleared (device m) → IsCalm (look lit) → (look b).waiting ≡ []
  used-quiet lit m b h after calm =
      ap (λ (v : StoreView). v.waiting) (sees b) ∙ ap (λ (d : DeviceState). d.waiting) after ∙ ap (λ (d : DeviceState). d.waiting) h.device_is ∙ sym (ap (λ (v : StoreView). v.waiting) (sees h.called)) ∙ h.later.quiet calm.quiet

  rises-calm : (lit : S) (r : Restarted) (m b : Slot S) → Rises look device q g lit r m → StaysAs look device cleared m b → IsCalm (look lit) → (is_stopped r ≡ false) × IsCalmAt look b
  rises-calm lit (came.Up epoch tids) (Up m) (Up b) h stays calm = (refl, calm-cleared look device sees m.storage.0 b.storage.0 stays.1 (h.later.calm calm))
  rises-calm lit (came.Up epoch tids) (Up m) (Down b) h stays calm = absurd stays
  rises-calm lit (came.Up epoch tids) (Up m) Gone h stays calm = absurd stays
  rises-calm lit (came.Up epoch tids) (Down m) b h stays calm = absurd h
  rises-calm lit (came.Up epoch tids) Gone b h stays calm = absurd h
  rises-calm lit came.Stopped (Down m) b h stays calm = absurd (h.not_calm calm)
  rises-calm lit came.Stopped (Up m) b h stays calm = absurd h
  rises-calm lit came.Stopped Gone b h stays calm = absurd h
  rises-calm lit came.UsedUp (Down m) (Down b) h stays calm = (refl, used-quiet lit m b h stays.1 calm)
  rises-calm lit came.UsedUp (Down m) (Up b) h stays calm = absurd stays
  rises-calm lit came.UsedUp (Down m) Gone h stays calm = absurd stays
  rises-calm lit came.UsedUp (Up m) b h stays calm = absurd h
  rises-calm lit came.UsedUp Gone b h stays calm = absurd h

  pub comes-calm : (a m b : Slot S) (r : Restarted) → Lifts look device q g a r m → StaysAs look device cleared m b → ComesCalm look a r b
  comes-calm (Down s) m b r h stays calm = rises-calm h.lit r m b h.rises stays (lit-calm s h.lit h.powers calm)
  comes-calm (Up p) m b r h stays calm = absurd h
  comes-calm Gone m b r h stays calm = absurd h

  pub lifted-ok : {E : Type 0} (a : Slot S) (s lit : S) (answer : Result Restarted E) (b : Slot S) → a ≡ Down s → PowersUp (device s) (device lit) → SaysSame look s lit → IfOk answer (λ r. Rises look device q g lit r b) → IfOk answer (λ r. Lifts look device q g a r b)
  lifted-ok a s lit (Ok r) b is powers same h = lifted a s lit r b is powers same h
  lifted-ok a s lit (Err e) b is powers same h = tt
