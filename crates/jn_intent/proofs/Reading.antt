-- Reading files changes nothing that is found.
use Rattle.jn_intent.proofs.Common.{◌≡◌, ◌<◌, ◌≤◌, ◌+◌, ℕ, zero, suc, Bool, true, false, List, Option, Some, None, Result, Ok, refl, sym, ◌∙◌, ap, subst, true≢false, arith, nat_tests, is_some, is_ok, slice_set, Stopped, BlockNo, FileNo, Block, Files, TableView, IsTable, layouts_in, address_for, exists, is_mapped, is_touched, NextHead, Touches, BlockGot, Unchanged, found_on, IsFewer, fewer_found, IsServing, file_there, state, NextFile, BlockRead, StoreView, StoreLater, IsSamePage, IsServed, IsStop, later_refl, same_refl, same_shrinks, Memory, view_of, IsKeptMemory, Matches, serves_of, serving_by, loadable_found, there_found, mapped_found, holds, files_are, NextHeadBlock, NextBlock, HoldsTable, files_in}
use Rattle.jn_intent.proofs.Scrubbing.{IsSafe, fewer_kept}
use Rattle.jn_index.specs.Least.{NextAfter}

-- what stands while it serves
pub kept_now : (m : Memory) (v : StoreView) → IsKeptMemory m v → IsServing (view_of m v) → Matches m v
kept_now m v kept serving = kept serving.power

pub there_seen : (m : Memory) (v : StoreView) → IsKeptMemory m v → IsServing (view_of m v) → (f : FileNo) → exists m.table.heads f ≡ file_there (state (view_of m v)).files f
there_seen m v kept serving f = there_found m.server m.table.counts v m.epoch m.records m.table.heads m.table.maps (kept_now m v kept serving).standing f

pub mapped_seen : (m : Memory) (v : StoreView) → IsKeptMemory m v → IsServing (view_of m v) → (f : FileNo) (p : BlockNo) → is_mapped (layouts_in m.table) f p.0 ≡ is_some ((state (view_of m v)).files (Block f p))
mapped_seen m v kept serving f p = mapped_found m.server m.table.counts v m.epoch m.records m.table.heads m.table.maps (kept_now m v kept serving).standing f p

pub next_of : (m : Memory) (v : StoreView) → IsKeptMemory m v → IsServing (view_of m v) → (after r : Option FileNo) → NextHead m.table.heads after r → NextFile (state (view_of m v)).files after r
next_of m v kept serving after r is = subst (λ (test : FileNo → Bool). NextAfter (λ (f : FileNo). f.0) test after r) (λ i f. there_seen m v kept serving f i) is

pub next_block_of : (m : Memory) (v : StoreView) → IsKeptMemory m v → IsServing (view_of m v) → (f : FileNo) (after r : Option BlockNo) → NextHeadBlock m.table f after r → NextBlock (state (view_of m v)).files f after r
next_block_of m v kept serving f after r is = subst (λ (test : BlockNo → Bool). NextAfter (λ (p : BlockNo). p.0) test after r) (λ i p. mapped_seen m v kept serving f p i) is

pub holds_seen : (m : Memory) (v : StoreView) → IsKeptMemory m v → IsServing (view_of m v) → HoldsTable m.table v
holds_seen m v kept serving = let now = kept_now m v kept serving in holds m.server m.table.counts v m.epoch m.records m.table.heads m.table.maps now.standing now.table.heads

-- ---- a block is read

-- tables that are one but for what is touched
touched_only : (t u : TableView) (xs : List Bool) → u ≡ record t { touched = xs } → u ≡ record t { touched = u.touched }
touched_only t u xs e = e ∙ ap (λ (k : TableView). record t { touched = k.touched }) (sym e)

touch_rest : (t : TableView) (v : StoreView) (a : ℕ) (ok : Bool) (u : TableView) (w : StoreView) → Touches t v a ok u w → u ≡ record t { touched = u.touched }
touch_rest t v a ok u w touches = by (is_touched t a) ok refl refl
  where
    by : (before b : Bool) → is_touched t a ≡ before → ok ≡ b → u ≡ record t { touched = u.touched }
    by true b e is = touched_only t u t.touched (touches.again e).1
    by false true e is = touched_only t u (slice_set t.touched a true) ((touches.first e).done is)
    by false false e is = touched_only t u t.touched ((touches.first e).stopped is)

module _ (m : Memory) (v : StoreView) (kept : IsKeptMemory m v) (serving : IsServing (view_of m v)) (w : StoreView) (later : StoreLater v w) (same : (j : ℕ) → j < v.count → IsSamePage v w j) where
  fewer : IsFewer v w
  fewer = record { count = later.count; shrinks = λ j lt. same_shrinks v w j (same j lt) }

  now : Matches m w
  now = fewer_kept m v w kept fewer serving.power

  still : Unchanged (state (view_of m v)) (found_on m.table.counts w)
  still = fewer_found v w fewer m.table.counts (state (view_of m v)) serving.up

  module _ (u : TableView) (rest : u ≡ record m.table { touched = u.touched }) (table : IsTable u) where
    matches_touched : Matches (record m { table = u }) w
    matches_touched = subst (λ k. Matches (record m { table = k }) w) (sym rest)
        (record { standing = now.standing; root = now.root; table = subst IsTable rest table; works = now.works; made = now.made; supplied = now.supplied; flags = now.flags; held = now.held })

    pub safe_touched : IsSafe (record m { table = u }) w
    safe_touched = (λ power. matches_touched, matches_touched.standing.recoverable)

    view_touched : view_of m w ≡ view_of (record m { table = u }) w
    view_touched = ap (λ k. view_of (record m { table = k }) w) (sym rest)

    pub read_touched : (f : FileNo) (p : BlockNo) (answer : Result (Option (List ℕ)) Stopped) → w.calls ≤ v.calls + 24 → (is_ok answer ≡ true → IsServed v w) → (is_ok answer ≡ false → IsStop v w)
        → ((block : Option (List ℕ)) → answer ≡ Ok block → block ≡ files_in m.table.counts v (Block f p)) → BlockRead (view_of m v) f p answer (view_of (record m { table = u }) w)
    read_touched f p answer calls served stop found = subst (BlockRead (view_of m v) f p answer) view_touched (record {
      called = record {
        later = record { server = refl; pool = refl; heads = refl; leaves = refl; store = later };
        calls = calls;
        loadable = λ c. loadable_found m.server m.table.counts w now.standing.recoverable c;
        no_stop = λ e. (served e).stops;
        serving = λ e. serving_by m w (state (view_of m v)) still (served e).power (serves_of m v serving);
        stop = stop;
      };
      found = λ block e. found block e ∙ ap (λ (files : Files). files (Block f p)) (files_are m.server m.table.counts v m.epoch m.records m.table.heads m.table.maps (kept serving.power).standing (kept serving.power).table.heads);
      unchanged = still;
      same = λ e. refl;
    })

-- A block is read as the code reads it: its page is touched, or the device isn't asked.
module _ (m : Memory) (v : StoreView) (kept : IsKeptMemory m v) (serving : IsServing (view_of m v)) (f : FileNo) (p : BlockNo) (answer : Result (Option (List ℕ)) Stopped) (u : TableView) (w : StoreView) (table : IsTable u)
    (got : (a : ℕ) → address_for (layouts_in m.table) f p.0 ≡ suc a → BlockGot m.table v f p a answer u w) (unasked : is_mapped (layouts_in m.table) f p.0 ≡ false → (answer ≡ Ok None) × (u ≡ m.table) × (w ≡ v)) where
  none_mapped : address_for (layouts_in m.table) f p.0 ≡ zero → is_mapped (layouts_in m.table) f p.0 ≡ false
  none_mapped e = grind (arith, nat_tests, e)

  none_found : address_for (layouts_in m.table) f p.0 ≡ zero → files_in m.table.counts v (Block f p) ≡ None
  none_found e = ap (λ (files : Files). files (Block f p)) (files_are m.server m.table.counts v m.epoch m.records m.table.heads m.table.maps (kept serving.power).standing (kept serving.power).table.heads)
      ∙ no_some ((state (view_of m v)).files (Block f p)) (sym (mapped_seen m v kept serving f p) ∙ none_mapped e)
    where
      no_some : (o : Option (List ℕ)) → is_some o ≡ false → o ≡ None
      no_some None h = refl
      no_some (Some x) h = absurd (true≢false h)

  -- what holds where the device isn't asked
  none_read : address_for (layouts_in m.table) f p.0 ≡ zero → BlockRead (view_of m v) f p answer (view_of (record m { table = u }) w)
  none_read e = let h = unasked (none_mapped e) in subst (λ x. BlockRead (view_of m v) f p x (view_of (record m { table = u }) w)) (sym h.0)
      (subst (λ y. BlockRead (view_of m v) f p (Ok None) (view_of (record m { table = u }) y)) (sym h.2)
      (read_touched m v kept serving v (later_refl v) (λ j lt. same_refl v j) u (touched_only m.table u m.table.touched h.1) table f p (Ok None)
      (omega arith) (λ _. record { power = serving.power; stops = refl }) (λ bad. absurd (true≢false bad)) (λ block b. let none : None ≡ block = cc b in sym none ∙ sym (none_found e))))

  none_safe : address_for (layouts_in m.table) f p.0 ≡ zero → IsSafe (record m { table = u }) w
  none_safe e = let h = unasked (none_mapped e) in subst (λ y. IsSafe (record m { table = u }) y) (sym h.2)
      (safe_touched m v kept serving v (later_refl v) (λ j lt. same_refl v j) u (touched_only m.table u m.table.touched h.1) table)

  pub read_now : BlockRead (view_of m v) f p answer (view_of (record m { table = u }) w)
  read_now = by (address_for (layouts_in m.table) f p.0) refl
    where
      by : (x : ℕ) → address_for (layouts_in m.table) f p.0 ≡ x → BlockRead (view_of m v) f p answer (view_of (record m { table = u }) w)
      by zero e = none_read e
      by (suc a) e = let g = got a e in read_touched m v kept serving w g.later g.same u (touch_rest m.table v a g.ready u g.between g.touches) table f p answer g.calls g.served g.stop g.found

  pub read_safe : IsSafe (record m { table = u }) w
  read_safe = by (address_for (layouts_in m.table) f p.0) refl
    where
      by : (x : ℕ) → address_for (layouts_in m.table) f p.0 ≡ x → IsSafe (record m { table = u }) w
      by zero e = none_safe e
      by (suc a) e = let g = got a e in safe_touched m v kept serving w g.later g.same u (touch_rest m.table v a g.ready u g.between g.touches) table

  -- and the storage is as it was
  pub unasked_now : (state (view_of m v)).files (Block f p) ≡ None → (answer ≡ Ok None) × (view_of (record m { table = u }) w ≡ view_of m v)
  unasked_now none = let h = unasked (mapped_seen m v kept serving f p ∙ ap (λ o. is_some o) none) in (h.0, ap (λ k. view_of (record m { table = k }) w) h.1 ∙ ap (view_of m) h.2)
