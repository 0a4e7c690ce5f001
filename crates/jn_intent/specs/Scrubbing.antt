-- What a scrub does: it cleans each page, and changes nothing that is found.
use Rattle.std.specs.Prelude.{◌≡◌, ℕ, ◌*◌, ◌<◌, Bool, true, [], None}
use Rattle.jn_base.specs.declared.names.Tid.{Tid}
use Rattle.jn_base.specs.declared.names.WorkId.{WorkId}
use Rattle.jn_page_state.specs.Images.{IsImage}
use Rattle.jn_records.specs.StablePages.{Counts}
use Rattle.jn_rows.specs.Stable.{Unchanged}
use Rattle.jn_storage.specs.Storage.{Accounts, StorageView}
use Rattle.jn_storage.specs.Calls.{state, Called}
use Rattle.jn_store.specs.Store.{IsCalm, IsClean, IsWholePage}

-- no work is prepared, no transaction has a flag, and no record is left over
pub record IsIdle (v : StorageView) : Type 0 where
  pub works : (w : WorkId) → (state v).works w ≡ None
  pub flags : (t : Tid) → (state v).flags t ≡ None
  pub rubbish : v.accounts.rubbish ≡ []

abbrev pub counts_in : Accounts → Counts
counts_in a = record { pool = a.pool; heads = a.heads; leaves = a.leaves }

-- Each page is clean then, and whole where no fault waits. Of a storage that has nothing but files the store is then that of a
-- sound image.
pub record Scrubbed (v : StorageView) (ok : Bool) (w : StorageView) : Type 0 where
  pub called : Called v (16 * v.store.count) ok w
  pub unchanged : Unchanged (state v) w.found
  pub same : w.accounts ≡ v.accounts
  pub clean : ok ≡ true → (i : ℕ) → i < v.store.count → IsClean w.store i
  pub whole : IsCalm v.store → (i : ℕ) → i < v.store.count → IsWholePage w.store i
  pub image : IsCalm v.store → IsIdle v → IsImage v.accounts.server (counts_in v.accounts) (state v).files w.store
