-- How many pages a server is given, and how often a recovery calls its device.
use Rattle.std.specs.Prelude.{ℕ, ◌+◌, ◌*◌}
use Rattle.jn_page_state.specs.Pages.{heads_on, pages_by}
use Rattle.jn_records.specs.MapPlaces.{maps_named}
use Rattle.jn_records.specs.StablePages.{Counts}
use Rattle.jn_rows.specs.Stable.{Pick}
use Rattle.jn_store.specs.Store.{StoreView}
use Rattle.jn_recovery.specs.declared.counts.PageCounts.{PageCounts}

-- the numbers that a server is given
abbrev pub counts_by : PageCounts → Counts
counts_by n = record { pool = n.pool; heads = n.heads; leaves = n.leaves }

-- The root, the records, the heads and so many map pages are cleaned and read; the root, and each record at most, are put.
abbrev pub most_calls : Counts → ℕ → ℕ
most_calls g maps = 24 * (1 + g.pool + g.heads + maps) + 16 * (1 + g.pool)

-- with the map pages that heads name by a pick
abbrev pub calls_by : Counts → StoreView → Pick → ℕ
calls_by g v c = most_calls g (maps_named (heads_on g (pages_by v c)))
