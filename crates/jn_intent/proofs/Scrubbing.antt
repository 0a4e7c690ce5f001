-- What a scrub of a storage leaves, and what befalls its device.
use Rattle.jn_intent.proofs.Common.{◌≡◌, ◌<◌, ◌≤◌, ◌+◌, ◌*◌, ℕ, Bool, true, false, refl, sym, ◌∙◌, ap, subst, arith, DeviceState, TableView, IsTable, TouchesAll, found_on, IsFewer, IsRecoverable, IsStanding, fewer_found, fewer_recoverable, same_found, same_recoverable, Pick, StableState, Unchanged, IsServing, state, StoreView, StoreLater, HasSamePages, IsCalm, IsWholePage, IsStop, shrinks_only, Memory, view_of, Matches, IsKeptMemory, Befalls, Cleans, Scrubbed, serves_of, serving_by, loadable_found, standing_same, same_only}
use Rattle.jn_page_state.specs.Images.{IsImage}
use Rattle.jn_page_state.proofs.ImageEnds.{is_image}
use Rattle.jn_store.specs.Pairs.{pairs_view}
use Rattle.jn_intent.proofs.Idle.{idle_free}

-- ---- what a scrub leaves

module _ (m : Memory) (v w : StoreView) (kept : IsKeptMemory m v) (fewer : IsFewer v w) where
  standing_fewer : v.power ≡ true → IsStanding m.server m.table.counts w m.epoch m.records m.table.heads m.table.maps
  standing_fewer power = let held = (kept power).standing.held in record {
    held = record {
      count = held.count ∙ sym fewer.count;
      version = held.version;
      root_fits = held.root_fits;
      root = shrinks_only v w 0 _ held.root (fewer.shrinks 0 (let e = held.count in omega (arith, e)));
      slots = held.slots;
      pool = λ slot lt. let at = held.pool slot lt in record { of_format = at.of_format; only = shrinks_only v w _ _ at.only (fewer.shrinks _ (let e = held.count in let s = held.slots in omega (arith, e, s, lt))) };
      places = held.places;
      heads_stored = λ place lt. let at = held.heads_stored place lt in record { whole = at.whole; fits = at.fits; only = shrinks_only v w _ _ at.only (fewer.shrinks _ (let e = held.count in omega (arith, e, lt))) };
      pages = held.pages;
      maps_stored = λ place lt j d below e. let at = held.maps_stored place lt j d below e in record { below = at.below; whole = at.whole; only = shrinks_only v w _ _ at.only (fewer.shrinks _ (let count = held.count in let d_lt = at.below in omega (arith, count, d_lt))) };
    };
    recoverable = fewer_recoverable v w fewer m.server m.table.counts (kept power).standing.recoverable;
  }

  pub fewer_kept : v.power ≡ true → Matches m w
  fewer_kept power = let now = kept power in record { standing = standing_fewer power; root = shrinks_only v w 0 _ now.root (fewer.shrinks 0 (let e = now.standing.held.count in omega (arith, e))); table = now.table; works = now.works; made = now.made; supplied = now.supplied; flags = now.flags; held = now.held }

  -- of a table that is the same but for what is touched
  pub touched_kept : v.power ≡ true → (u : TableView) → TouchesAll m.table u → IsTable u → Matches (record m { table = u }) w
  touched_kept power u touches table = let now = fewer_kept power in subst (λ k. Matches (record m { table = k }) w) (sym touches.rest)
      (record { standing = now.standing; root = now.root; table = subst IsTable touches.rest table; works = now.works; made = now.made; supplied = now.supplied; flags = now.flags; held = now.held })

  module _ (serving : IsServing (view_of m v)) (ok : Bool) (later : StoreLater v w) (calls : w.calls ≤ v.calls + 16 * v.count) (done : ok ≡ true → Cleans v 0 v.count w) (stopped : ok ≡ false → IsStop v w) (calm : IsCalm v → ok ≡ true) where
    same : Unchanged (state (view_of m v)) (found_on m.table.counts w)
    same = fewer_found v w fewer m.table.counts (state (view_of m v)) serving.up

    whole : IsCalm v → (i : ℕ) → i < v.count → IsWholePage w i
    whole quiet i lt = (done (calm quiet)).whole quiet i (omega arith) lt

    pub scrubbed : Scrubbed (view_of m v) ok (view_of m w)
    scrubbed = record {
      called = record {
        later = record { server = refl; pool = refl; heads = refl; leaves = refl; store = later };
        calls = calls;
        loadable = loadable_found m.server m.table.counts w (standing_fewer serving.power).recoverable;
        no_stop = λ e. (done e).stops;
        serving = λ e. serving_by m w (state (view_of m v)) same ((done e).power serving.power) (serves_of m v serving);
        stop = stopped;
      };
      unchanged = same;
      same = refl;
      clean = λ e i lt. (done e).clean i (omega arith) lt;
      whole = whole;
      image = λ quiet idle. subst (λ (x : StableState). IsImage m.server m.table.counts x.files w) (same (λ n. false))
          (is_image m.server m.table.counts w m.epoch m.records m.table.heads m.table.maps (standing_fewer serving.power) (fewer_kept serving.power).root (idle_free m v serving idle (kept serving.power).standing.held.slots)
          (λ i lt. whole quiet i (subst (λ n. i < n) later.count lt)));
    }

    pub scrubbed_touched : (u : TableView) → TouchesAll m.table u → Scrubbed (view_of m v) ok (view_of (record m { table = u }) w)
    scrubbed_touched u touches = subst (λ k. Scrubbed (view_of m v) ok (view_of (record m { table = k }) w)) (sym touches.rest) scrubbed

-- ---- events of the device

-- with power or without
abbrev pub IsSafe : Memory → StoreView → Type 0
IsSafe m v = IsKeptMemory m v × IsRecoverable m.server m.table.counts v

module _ (m : Memory) (v w : StoreView) (same : HasSamePages v w) (power : w.power ≡ v.power) where
  -- what the power doesn't take and no page's candidates tell is kept
  pub same_kept : IsSafe m v → IsSafe m w
  same_kept safe = (
    λ on. let now = safe.0 (sym power ∙ on) in record {
      standing = standing_same m.server m.table.counts v m.epoch m.records m.table.heads m.table.maps now.standing w same;
      root = same_only v w 0 _ (same.pages 0) now.root;
      table = now.table;
      works = now.works;
      made = now.made;
      supplied = now.supplied;
      flags = now.flags;
      held = now.held;
    },
    same_recoverable v w same m.server m.table.counts safe.1,
  )

  pub befalls : Befalls (view_of m v) (view_of m w)
  befalls = record {
    found = same_found v w same m.table.counts;
    same = refl;
    pages = same;
    serving = λ s. serving_by m w (state (view_of m v)) (λ c. ap (λ (f : Pick → StableState). f c) (same_found v w same m.table.counts) ∙ s.up c) (power ∙ s.power) (serves_of m v s);
  }

-- the power below, as a store's users see it
pub same_power : (v w : StoreView) (s t : DeviceState) → v ≡ pairs_view s → w ≡ pairs_view t → t.power ≡ s.power → w.power ≡ v.power
same_power v w s t before after e = ap (λ (x : StoreView). x.power) after ∙ e ∙ sym (ap (λ (x : StoreView). x.power) before)
