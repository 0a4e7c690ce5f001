-- What befalls the device below a storage between two calls.
use Rattle.std.specs.Prelude.{◌≡◌}
use Rattle.jn_storage.specs.Storage.{StorageView, IsServing}
use Rattle.jn_store.specs.Store.{HasSamePages}

-- What is found and what is counted stays, and a storage that serves still serves.
pub record Befalls (v w : StorageView) : Type 0 where
  pub found : w.found ≡ v.found
  pub same : w.accounts ≡ v.accounts
  pub pages : HasSamePages v.store w.store
  pub serving : IsServing v → IsServing w
