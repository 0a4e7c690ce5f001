-- When a storage serves, and what its calls keep.
use Rattle.jn_recovery.proofs.Common.{◌≡◌, ◌≤◌, ℕ, Bool, true, false, List, length, sym, ◌∙◌, ap, subst, arith, ServerNo, WorkId, found_on, IsRecoverable, Counts, Pick, StableState, stable, IsOrderly, Accounts, IsServing, IsCounted, list_of, state, Called, StoreView, StorePut, Memory, accounts_of, view_of, ◌<◌, FileNo, most_maps, IsLoadable, most_pages}

-- a storage that serves, apart from its store
pub record Serves (x : StableState) (a : Accounts) : Type 0 where
  pub orderly : IsOrderly a.server x
  pub counted : IsCounted x a
  pub records_fit : a.promised_records ≤ a.free_records
  pub heads_fit : a.promised_heads ≤ a.free_heads
  pub next_fits : (w : WorkId) → a.next w ≤ length (list_of x w)
  pub held_fits : (w : WorkId) → a.held w ≤ most_pages (list_of x w)
  pub maps_fit : (f : FileNo) (j : ℕ) → a.maps f j ≡ true → j < most_maps

pub serves_of : (m : Memory) (v : StoreView) → IsServing (view_of m v) → Serves (state (view_of m v)) (accounts_of m)
serves_of m v s = record { orderly = s.orderly; counted = s.counted; records_fit = s.records_fit; heads_fit = s.heads_fit; next_fits = s.next_fits; held_fits = s.held_fits; maps_fit = s.maps_fit }

pub serving_by : (m : Memory) (v : StoreView) (x : StableState) → ((c : Pick) → found_on m.table.counts v c ≡ x) → v.power ≡ true → Serves x (accounts_of m) → IsServing (view_of m v)
serving_by m v x finds power s = with_state (subst (λ y. Serves y (accounts_of m)) (sym (finds (λ n. false))) s)
  where
    with_state : Serves (stable (found_on m.table.counts v)) (accounts_of m) → IsServing (view_of m v)
    with_state s = record {
      up = λ c. finds c ∙ sym (finds (λ n. false));
      power = power;
      orderly = s.orderly;
      counted = s.counted;
      records_fit = s.records_fit;
      heads_fit = s.heads_fit;
      next_fits = s.next_fits;
      held_fits = s.held_fits;
      maps_fit = s.maps_fit;
    }

-- a recovery would take such a state
pub may_load : (x : StableState) (a : Accounts) → Serves x a → IsLoadable a.server a.heads x
may_load x a s = record {
  orderly = s.orderly;
  works = s.counted.works;
  files = s.counted.files;
  works_all = s.counted.works_all;
  files_all = s.counted.files_all;
  fits = omega (arith, s.counted.heads_used, s.counted.promises, s.heads_fit);
}

pub loadable_found : (server : ServerNo) (g : Counts) (w : StoreView) → IsRecoverable server g w → (c : Pick) → IsLoadable server g.heads (found_on g w c)
loadable_found server g w r c = (r.each c).loadable

-- a call that puts one page
pub called_put : (m n : Memory) (v w : StoreView) (i : ℕ) (page : List ℕ) (ok : Bool) (most : ℕ) → 16 ≤ most → n.server ≡ m.server → n.table.counts ≡ m.table.counts → StorePut v i page ok w
    → IsRecoverable m.server m.table.counts w → (ok ≡ true → IsServing (view_of n w)) → Called (view_of m v) most ok (view_of n w)
called_put m n v w i page ok most fits server counts put recoverable serving = record {
  later = record { server = server; pool = ap (λ (g : Counts). g.pool) counts; heads = ap (λ (g : Counts). g.heads) counts; leaves = ap (λ (g : Counts). g.leaves) counts; store = put.later };
  calls = let c = put.calls in omega (arith, c, fits);
  loadable = λ c. subst (λ g. IsLoadable m.server m.table.counts.heads (found_on g w c)) (sym counts) (loadable_found m.server m.table.counts w recoverable c);
  no_stop = λ e. (put.served e).stops;
  serving = serving;
  stop = put.stop;
}
