-- A store on which a server may start, and the storage of a server.
use Rattle.std.specs.Prelude.{◌≡◌}
use Rattle.jn_base.specs.declared.names.ServerNo.{ServerNo}
use Rattle.jn_page_state.specs.Recoverable.{IsRecoverable}
use Rattle.jn_recovery.specs.declared.counts.PageCounts.{PageCounts}
use Rattle.jn_recovery.specs.Counts.{counts_by}
use Rattle.jn_storage.specs.Storage.{StorageView}
use Rattle.jn_store.specs.Store.{StoreView}

-- a store of the server, of so many pages, from which a recovery may begin
abbrev pub MayBegin : ServerNo → PageCounts → StoreView → Type 0
MayBegin server n v = IsRecoverable server (counts_by n) v

-- a storage of the server, of so many pages
pub record IsOf (server : ServerNo) (n : PageCounts) (v : StorageView) : Type 0 where
  pub server_is : v.accounts.server ≡ server
  pub pool : v.accounts.pool ≡ n.pool
  pub heads : v.accounts.heads ≡ n.heads
  pub leaves : v.accounts.leaves ≡ n.leaves
