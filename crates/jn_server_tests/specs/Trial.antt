-- A server between two moves of a test.
use Rattle.std.specs.Prelude.{◌≡◌, ◌≤◌, ℕ, ⊤, Result, Ok, Err}
use Rattle.jn_base.specs.declared.names.ServerNo.{ServerNo}
use Rattle.jn_recovery.specs.declared.counts.PageCounts.{PageCounts}
use Rattle.jn_recovery.specs.Counts.{counts_by}
use Rattle.jn_records.specs.StablePages.{page_count}
use Rattle.jn_server_tests.specs.Restarts.{IsOf}
use Rattle.jn_base.specs.declared.fault.CallFault.{CallFault}
use Rattle.jn_base.specs.declared.fault.CallFault.TheVariants.{Stopped, Memory}
use Rattle.jn_server.specs.Seen.{ServerView, IsServer}

abbrev pub the_server : ServerNo
the_server = record { 0 = 0 }

-- it serves, has so many pages, and has drawn at most so many names in its epoch
pub record IsOn (n : PageCounts) (names : ℕ) (v : ServerView) : Type 0 where
  pub serves : IsServer v
  pub of : IsOf the_server n v.storage
  pub count : v.storage.store.count ≡ page_count (counts_by n)
  pub drawn : v.tickets.next ≤ names

-- After a call. Where it was stopped a restart may begin; without memory the server is of no use any more.
abbrev pub LeavesServer : {A : Type 0} → PageCounts → ℕ → Result A CallFault → ServerView → Type 0
LeavesServer n names (Ok x) v = IsOn n names v
LeavesServer n names (Err Stopped) v = IsOf the_server n v.storage
LeavesServer n names (Err Memory) v = ⊤
