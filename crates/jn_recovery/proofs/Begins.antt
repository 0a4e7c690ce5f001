-- A restart is counted in the root, and rubbish is erased.
use Rattle.jn_recovery.proofs.Common.{◌≡◌, ◌⊎◌, inl, inr, ⊎_elim, ◌<◌, ◌≤◌, ◌+◌, ◌*◌, ℕ, suc, Bool, true, false, List, [], refl, sym, ◌∙◌, ap, subst, true≢false, arith, cases_eq, ServerNo, TableView, IsTableLoaded, found_on, root_by, RootPut, IsPutStep, MakesEpoch, standing_state, counts_on, Head, Record, Root, root_page, Counts, data_place, StableState, StoreView, StorePut, IsClean, IsOnly, IsWholePage, later_trans, same_trans, only_clean, stop_since, calm_on, IsSameOrNext, IsDown, front_count, reading_calls, most_calls, KeepsDataPages, rubbish_in, next_root, Stands, IsOpened, ErasesAll, EraseStopped, IsBegun, Stopped, Opened, same_only, maps_named, IsCleanBehindRoot}
use Rattle.jn_recovery.proofs.CleanBehind.{root_behind}
use Rattle.jn_recovery.proofs.Downs.{recovering_by, stopped_down}

pub same_or_next_at : (x y : StableState) (e : ℕ) → y ≡ record x { epoch = e } → (e ≡ x.epoch) ⊎ (e ≡ suc x.epoch) → IsSameOrNext x y
same_or_next_at x y e is which = record {
  same = is ∙ ap (λ k. record x { epoch = k }) (sym (ap (λ (z : StableState). z.epoch) is));
  epoch = ⊎_elim (λ h. inl (ap (λ (z : StableState). z.epoch) is ∙ h)) (λ h. inr (ap (λ (z : StableState). z.epoch) is ∙ h)) which;
}

module _ (server : ServerNo) (g : Counts) (v : StoreView) (o : Opened) (u : StoreView) (at : IsOpened server g v o u) where
  pub has_root : 0 < u.count
  has_root = let e = at.stands.standing.held.count in omega (arith, e)

  state_was : standing_state g u ≡ record (found_on g v at.stands.before) { epoch = o.root.epoch }
  state_was = at.stands.found (λ n. false)

  module _ (ok : Bool) (x : StoreView) (put : StorePut u 0 (root_page (next_root o.root)) ok x) where
    next_is : next_root o.root ≡ root_by server g (o.root.epoch + 1)
    next_is = ap next_root at.root

    step : IsPutStep server g u (RootPut (o.root.epoch + 1)) ok x
    step = record {
      page = let fits = at.stands.standing.held.root_fits in record { version = inr refl; server = fits.server; pool = fits.pool; heads = fits.heads; leaves = fits.leaves; epoch = let last = at.last in omega (arith, last) };
      step = subst (λ (r : Root). StorePut u 0 (root_page r) ok x) next_is put;
    }

    within : (i : ℕ) → i < front_count g → i < u.count
    within i lt = let e = at.stands.standing.held.count in omega (arith, e, lt)

    kept : KeepsDataPages g v x
    kept d lt none = same_trans v u x (data_place g d) (at.stands.data_pages d lt none) (put.others (data_place g d) (let e = at.stands.standing.held.count in omega (arith, e, lt)) (λ e. omega (arith, e)))

    makes : MakesEpoch server g u o.sets o.table.heads o.table.maps (o.root.epoch + 1) ok x
    makes = counts_on server g u x o.root.epoch o.sets o.table.heads o.table.maps ok at.stands.standing (o.root.epoch + 1) step (omega arith)

    behind : IsCleanBehindRoot g x
    behind = root_behind server g u o.root.epoch o.sets o.table.heads o.table.maps at.stands.standing (o.root.epoch + 1) ok x step.step

    pub put_down : ok ≡ false → IsDown server g v Stopped x
    put_down bad = stopped_down server g v at.stands.before x
        (recovering_by server g v at.stands.before x (later_trans v u x at.stands.later put.later) (let a = at.stands.calls in let b = put.calls in let e = ap maps_named at.stands.heads_read in put_calls _ _ a b e) makes.recoverable
        (λ c. (
          at.stands.before,
          ⊎_elim
              (λ e. same_or_next_at (found_on g v at.stands.before) (found_on g x c) o.root.epoch (e ∙ state_was) (inl (sym at.stands.old)))
              (λ e. same_or_next_at (found_on g v at.stands.before) (found_on g x c) (o.root.epoch + 1) (e ∙ ap (λ (s : StableState). record s { epoch = o.root.epoch + 1 }) state_was) (inr (let old = at.stands.old in omega (arith, old))))
              (makes.stop c),
        )) (inr behind) kept)
        (stop_since v u x at.stands.later put.later (put.stop bad)) (λ quiet. true≢false (sym (put.calm (at.stands.later.calm quiet)).0 ∙ bad))
      where
        put_calls : (m n : ℕ) → u.calls ≤ v.calls + (reading_calls g + 24 * m) → x.calls ≤ u.calls + 16 → m ≡ n → x.calls ≤ v.calls + most_calls g n
        put_calls m n a b e = omega (arith, a, b, e)

    pub put_stands : ok ≡ true → Stands server g v (reading_calls g + 16) o.root.epoch (o.root.epoch + 1) o.sets o.table.heads o.table.maps x
    put_stands done = record {
      later = later_trans v u x at.stands.later put.later;
      calls = let a = at.stands.calls in let b = put.calls in omega (arith, a, b);
      stops = (put.served done).stops ∙ at.stands.stops;
      standing = makes.standing done;
      before = at.stands.before;
      heads_read = at.stands.heads_read;
      supplied = at.stands.supplied;
      old = at.stands.old;
      found = λ c. makes.done done c ∙ ap (λ (s : StableState). record s { epoch = o.root.epoch + 1 }) state_was;
      clean = λ i lt. ⊎_elim
          (λ e. subst (IsClean x) (sym e) (only_clean x 0 _ (put.done done)))
          (λ ne. let same = put.others i (within i lt) ne in same.first ∙ at.stands.clean i lt ∙ sym same.second)
          (cases_eq i 0);
      whole = λ quiet i lt. ⊎_elim
          (λ e. subst (IsWholePage x) (sym e) (put.calm (at.stands.later.calm quiet)).1)
          (λ ne. put.later.whole (at.stands.later.calm quiet) i (within i lt) (at.stands.whole quiet i lt))
          (cases_eq i 0);
      mended = λ quiet d slot j lt low names. put.later.whole (at.stands.later.calm quiet) (data_place g d) (let e = at.stands.standing.held.count in omega (arith, e, lt)) (at.stands.mended quiet d slot j lt low names);
      data_pages = kept;
    }

-- ---- rubbish is erased

module _ (server : ServerNo) (g : Counts) (v : StoreView) (most was : ℕ) (records : List Record) (heads : List Head) (maps : List (List ℕ)) (x : StoreView) (at : Stands server g v most was (was + 1) records heads maps x) where
  pub erase_down : most + 16 * g.pool ≤ most_calls g 0 → (y : StoreView) → EraseStopped server g x g.pool y → IsDown server g v Stopped y
  erase_down few y stopped = stopped_down server g v at.before y
      (recovering_by server g v at.before y (later_trans v x y at.later stopped.later) (let a = at.calls in let b = stopped.calls in let e = ap maps_named at.heads_read in erase_calls _ _ a b e) stopped.recoverable
      (λ c. (at.before, same_or_next_at (found_on g v at.before) (found_on g y c) (was + 1) (stopped.unchanged c ∙ at.found (λ n. false)) (inr (let old = at.old in omega (arith, old)))))
      (inr stopped.clean)
      (λ d lt none. same_trans v x y (data_place g d) (at.data_pages d lt none) (stopped.data_pages d lt)))
      (stop_since v x y at.later stopped.later stopped.stop) (λ quiet. calm_on x y stopped.later stopped.stop (at.later.calm quiet))
    where
      erase_calls : (m n : ℕ) → x.calls ≤ v.calls + (most + 24 * m) → y.calls ≤ x.calls + 16 * g.pool → m ≡ n → y.calls ≤ v.calls + most_calls g n
      erase_calls m n a b e = omega (arith, a, b, e, few)

  erase_stands : (new : List Record) (y : StoreView) → ErasesAll server g x (was + 1) heads maps records new y → Stands server g v (most + 16 * g.pool) was (was + 1) new heads maps y
  erase_stands new y all = record {
    later = later_trans v x y at.later all.erases.later;
    calls = let a = at.calls in let b = all.erases.calls in omega (arith, a, b);
    stops = all.erases.stops ∙ at.stops;
    standing = all.erases.standing;
    before = at.before;
    heads_read = at.heads_read;
    supplied = all.erases.supplied ∙ at.supplied;
    old = at.old;
    found = λ c. all.erases.unchanged c ∙ at.found (λ n. false);
    clean = λ i lt. all.erases.clean i (within i lt) (at.clean i lt);
    whole = λ quiet i lt. all.erases.later.whole (at.later.calm quiet) i (within i lt) (at.whole quiet i lt);
    mended = λ quiet d slot j lt low names. all.erases.later.whole (at.later.calm quiet) (data_place g d) (let e = at.standing.held.count in omega (arith, e, lt)) (at.mended quiet d slot j lt low names);
    data_pages = λ d lt none. same_trans v x y (data_place g d) (at.data_pages d lt none) (all.erases.data_pages d lt);
  }
    where
      within : (i : ℕ) → i < front_count g → i < x.count
      within i lt = let e = at.standing.held.count in omega (arith, e, lt)

pub begun : (server : ServerNo) (g : Counts) (v : StoreView) (o : Opened) (u x : StoreView) (at : IsOpened server g v o u) → StorePut u 0 (root_page (next_root o.root)) true x
    → (new : List Record) (y : StoreView) → ErasesAll server g x (o.root.epoch + 1) o.table.heads o.table.maps o.sets new y → (p : Opened) → p.root ≡ o.root → p.sets ≡ new → p.table ≡ o.table → IsBegun server g v p (o.root.epoch + 1) y
begun server g v o u x at put new y all p a b c = record {
  root = a ∙ at.root ∙ ap (λ (r : Root). record (root_by server g r.epoch) { version = r.version }) (sym a);
  last = subst (λ (r : Root). r.epoch < 4294967295) (sym a) at.last;
  next = ap (λ (r : Root). r.epoch + 1) (sym a);
  table = subst (IsTableLoaded g) (sym c) at.table;
  stands = subst (λ n. Stands server g v n p.root.epoch (o.root.epoch + 1) p.sets p.table.heads p.table.maps y) (let e : reading_calls g + 16 + 16 * g.pool ≡ most_calls g 0 = omega arith in e)
      (subst (λ (r : Root). Stands server g v (reading_calls g + 16 + 16 * g.pool) r.epoch (o.root.epoch + 1) p.sets p.table.heads p.table.maps y) (sym a)
      (subst (λ l. Stands server g v (reading_calls g + 16 + 16 * g.pool) o.root.epoch (o.root.epoch + 1) l p.table.heads p.table.maps y) (sym b)
      (subst (λ (t : TableView). Stands server g v (reading_calls g + 16 + 16 * g.pool) o.root.epoch (o.root.epoch + 1) new t.heads t.maps y) (sym c)
      (erase_stands server g v (reading_calls g + 16) o.root.epoch o.sets o.table.heads o.table.maps x (put_stands server g v o u at true x put refl) new y all))));
  written = same_only x y 0 _ all.erases.root (subst (λ (r : Root). IsOnly x 0 (root_page r)) (next_is server g v o u at true x put) (put.done refl));
  power = all.erases.power (put.served refl).power;
  none_left = subst (λ l. rubbish_in l l ≡ []) (sym b) all.none_left;
}
