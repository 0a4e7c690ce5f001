-- What a recovery finds, and what stays of a store that is stopped.
use Rattle.std.proofs.Common.{◌≡◌, ◌∙◌, ap, subst}
use Rattle.jn_base.specs.declared.names.ServerNo.{ServerNo}
use Rattle.jn_page_state.specs.Recoverable.{IsRecoverable}
use Rattle.jn_recovery.specs.declared.counts.PageCounts.{PageCounts}
use Rattle.jn_recovery.specs.declared.load.Found.{Found}
use Rattle.jn_recovery.specs.Loading.{IsLoaded}
use Rattle.jn_recovery.specs.Counts.{counts_by}
use Rattle.jn_records.specs.StablePages.{Counts}
use Rattle.jn_storage.specs.Storage.{StorageView, StorageLater}
use Rattle.jn_store.specs.Store.{StoreView}
use Rattle.jn_server_tests.specs.Restarts.{MayBegin, IsOf}

pub loaded_of : (server : ServerNo) (n : PageCounts) (v : StoreView) (told : Found) (w : StorageView) → IsLoaded server (counts_by n) v told w → IsOf server n w
loaded_of server n v told w l = record { server_is = l.server_is; pool = l.pool; heads = l.heads; leaves = l.leaves }

-- every call keeps whose storage it is
pub later_of : (server : ServerNo) (n : PageCounts) (v w : StorageView) → StorageLater v w → IsOf server n v → IsOf server n w
later_of server n v w later of = record { server_is = later.server ∙ of.server_is; pool = later.pool ∙ of.pool; heads = later.heads ∙ of.heads; leaves = later.leaves ∙ of.leaves }

same_counts : (g : Counts) (n : PageCounts) → g.pool ≡ n.pool → g.heads ≡ n.heads → g.leaves ≡ n.leaves → g ≡ counts_by n
same_counts g n pool heads leaves =
    ap (λ k. record { pool = k; heads = g.heads; leaves = g.leaves }) pool
    ∙ ap (λ k. record { pool = n.pool; heads = k; leaves = g.leaves }) heads
    ∙ ap (λ k. record { pool = n.pool; heads = n.heads; leaves = k }) leaves

pub may_begin : (server own : ServerNo) (g : Counts) (n : PageCounts) (v : StoreView) → own ≡ server → g.pool ≡ n.pool → g.heads ≡ n.heads → g.leaves ≡ n.leaves → IsRecoverable own g v → MayBegin server n v
may_begin server own g n v is pool heads leaves r = subst (λ s. IsRecoverable s (counts_by n) v) is (subst (λ c. IsRecoverable own c v) (same_counts g n pool heads leaves) r)
