-- The laws of what every run of calls of a storage keeps.
use Rattle.jn_storage.proofs.Common.{ℕ, true, refl, sym, ◌∙◌, subst, arith, Pick, StorageView, StorageLater, IsLoadable, IsServing, state, Called}
use Rattle.jn_store.proofs.Laws.{later_refl, later_trans}

pub storage_refl : (v : StorageView) → StorageLater v v
storage_refl v = record { server = refl; pool = refl; heads = refl; leaves = refl; store = later_refl v.store }

pub storage_trans : (a b c : StorageView) → StorageLater a b → StorageLater b c → StorageLater a c
storage_trans a b c f g = record {
  server = g.server ∙ f.server;
  pool = g.pool ∙ f.pool;
  heads = g.heads ∙ f.heads;
  leaves = g.leaves ∙ f.leaves;
  store = later_trans a.store b.store c.store f.store g.store;
}

-- a recovery would take the state of a storage that serves
pub loadable : (v : StorageView) → IsServing v → (c : Pick) → IsLoadable v.accounts.server v.accounts.heads (v.found c)
loadable v serving c = subst (IsLoadable v.accounts.server v.accounts.heads) (sym (serving.up c)) (record {
  orderly = serving.orderly;
  works = serving.counted.works;
  files = serving.counted.files;
  works_all = serving.counted.works_all;
  files_all = serving.counted.files_all;
  fits = omega (arith, serving.counted.heads_used, serving.counted.promises, serving.heads_fit);
})

-- a call that did nothing
pub called_not : (v : StorageView) (most : ℕ) → IsServing v → Called v most true v
called_not v most serving = record {
  later = storage_refl v;
  calls = omega arith;
  loadable = loadable v serving;
  no_stop = λ _. refl;
  serving = λ _. serving;
  stop = λ e. absurd (cc e);
}

-- ---- what a caller may go on with
