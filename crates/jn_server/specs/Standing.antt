-- What is free on the pages of a server that is up, and what stands there beside the files, works and flags.
use Rattle.std.specs.Prelude.{ℕ, ◌+◌, ◌-◌, Bool, false, not, List, [], ◌∷◌, count_by}
use Rattle.std.specs.List.{list_any}
use Rattle.jn_records.specs.Heads.{is_free}
use Rattle.jn_records.specs.declared.net_list.Need.{Need}
use Rattle.jn_records.specs.declared.record.Record.{Record}
use Rattle.jn_records.specs.MapPlaces.{maps_in}
use Rattle.jn_records.specs.NetLists.{heads_of}
use Rattle.jn_records.specs.StablePages.{Counts, Pages}
use Rattle.jn_recovery.specs.Pages.{supplied_on}
use Rattle.jn_sets.specs.Pool.{free_count, is_rubbish, rubbish_count}
use Rattle.jn_store.specs.Store.{StoreView}
use Rattle.jn_page_state.specs.Pages.{contents_of, pool_on, heads_on, listed, pages_by}
use Rattle.jn_page_state.specs.Recoverable.{is_named}
use Rattle.jn_rows.specs.Stable.{StableState}
use Rattle.jn_rows.specs.Worker.{WorkerTable, intentions_of}
use Rattle.jn_rows.specs.Coordinator.{promised}
use Rattle.jn_storage.specs.Orderly.{file_there}
use Rattle.jn_system.specs.WholeSystem.World.{Memory}
use Rattle.jn_worker.specs.Leaving.{Beside}

-- by one pick: all find the same records and heads while a server is up
abbrev pub standing_pages : StoreView → Pages
standing_pages v = pages_by v (λ n. false)

-- no head, no map page and no prepared work names the data page
abbrev pub is_free_page : Counts → Pages → ℕ → Bool
is_free_page g pages d = not (is_named (contents_of g pages) d)

-- the heads that are promised to prepared works
abbrev pub promised_heads : StableState → WorkerTable → ℕ
promised_heads x [] = 0
promised_heads x (w ∷ ws) = heads_of (intentions_of (x.works w.name)) (file_there x.files) + promised_heads x ws

-- what is free and not promised; a prepared work has its data pages already
abbrev pub free_on : Counts → Pages → StableState → Memory → Need
free_on g pages x m = record {
  records = free_count (pool_on g pages) - promised m.coordinator.transactions;
  heads = count_by is_free (heads_on g pages) - promised_heads x m.worker;
  pages = count_by (is_free_page g pages) (listed (λ d. d) 0 g.leaves);
}

-- rubbish records, map pages, and which intentions name one
abbrev pub beside_on : Counts → Pages → Beside
beside_on g pages = record { rubbish = rubbish_count (pool_on g pages); maps = maps_in (heads_on g pages); supplied = supplied_on (pool_on g pages) }

abbrev pub has_rubbish : List Record → Bool
has_rubbish pool = list_any (is_rubbish pool) pool
