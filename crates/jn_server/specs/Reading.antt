-- What the rows of a server read of its storage, as it stands on the pages.
use Rattle.std.specs.Prelude.{◌≡◌, true, count_by}
use Rattle.jn_records.specs.Heads.{is_free}
use Rattle.jn_page_state.specs.Pages.{pool_on, heads_on}
use Rattle.jn_page_state.specs.Recoverable.{IsRecoverable}
use Rattle.jn_intent.specs.Scrubbing.{counts_in}
use Rattle.jn_records.specs.MapPlaces.{maps_in}
use Rattle.jn_sets.specs.Pool.{free_count}
use Rattle.jn_server.specs.Counted.{CountsAll}
use Rattle.jn_server.specs.Seen.{ServerView, memory_of, room_of, IsServer}
use Rattle.jn_server.specs.Standing.{standing_pages, free_on, beside_on, has_rubbish}
use Rattle.jn_storage.specs.Calls.{state}
use Rattle.jn_worker.specs.Leaving.{beside_of}

-- what is free, which map pages there are and whether a record is rubbish, no more and no less
pub record IsRoomOfPages (v : ServerView) : Type 0 where
  pub free : (room_of v.storage).free ≡ free_on (counts_in v.storage.accounts) (standing_pages v.storage.store) (state v.storage) (memory_of v)
  pub maps : (room_of v.storage).maps ≡ maps_in (heads_on (counts_in v.storage.accounts) (standing_pages v.storage.store))
  pub rubbish : (room_of v.storage).rubbish ≡ has_rubbish (pool_on (counts_in v.storage.accounts) (standing_pages v.storage.store))

-- What its storage counts is on its pages, while the store has power: free records, free heads, and what stands beside files, works and flags.
pub record AreCountsOfPages (v : ServerView) : Type 0 where
  pub free : v.storage.accounts.free_records ≡ free_count (pool_on (counts_in v.storage.accounts) (standing_pages v.storage.store))
  pub beside : beside_of v.storage.accounts ≡ beside_on (counts_in v.storage.accounts) (standing_pages v.storage.store)
  pub heads : v.storage.accounts.free_heads ≡ count_by is_free (heads_on (counts_in v.storage.accounts) (standing_pages v.storage.store))

abbrev pub CountsPages : ServerView → Type 0
CountsPages v = v.storage.store.power ≡ true → AreCountsOfPages v

-- A recovery may begin from its pages, with power or without, and it counts what is on them. While it serves, nothing else is there.
pub record StandsOnPages (v : ServerView) : Type 0 where
  pub counts : CountsPages v
  pub all : IsServer v → CountsAll (counts_in v.storage.accounts) (state v.storage) (standing_pages v.storage.store)
  pub recoverable : IsRecoverable v.storage.accounts.server (counts_in v.storage.accounts) v.storage.store
