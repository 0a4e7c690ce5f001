-- How much is in a server's tables: sizes that hold between any two rows.
use Rattle.std.specs.Prelude.{◌≡◌, ◌≤◌, ℕ, Bool, true, false, ◌&&◌, if◌then◌else◌, List, [], ◌∷◌, length, Option, is_some}
use Rattle.jn_base.specs.declared.names.Tid.{Tid}
use Rattle.jn_base.specs.declared.names.WorkId.{WorkId}
use Rattle.jn_base.specs.declared.names.Tickets.{Tickets}
use Rattle.jn_base.specs.Names.{tid_eq}
use Rattle.jn_rows.specs.Coordinator.{is_committed}
use Rattle.jn_rows.specs.declared.coordinator.Transaction.{Transaction}
use Rattle.jn_rows.specs.Stable.{StableState, Prepared, FlagState}
use Rattle.jn_rows.specs.Worker.{WorkerTable, work_at, name_from}
use Rattle.jn_lock_rows.specs.Matching.{are_rising, is_after}
use Rattle.jn_system.specs.WholeSystem.World.{Memory}
use Rattle.jn_system.specs.WholeSystem.Near.{is_small_stage}

-- ---- a coordinator's transactions

abbrev pub are_small_stages : ℕ → List Transaction → Bool
are_small_stages servers [] = true
are_small_stages servers (x ∷ xs) = is_small_stage servers x.stage && are_small_stages servers xs

-- whether the first transaction of this name has committed
abbrev pub committed_at : Tid → List Transaction → Bool
committed_at T [] = false
committed_at T (x ∷ xs) = if tid_eq x.tid T then is_committed x.stage else committed_at T xs

-- each flag is that of a committed transaction
abbrev pub AreFlagsOf : List Transaction → (Tid → Option FlagState) → Type 0
AreFlagsOf xs flags = (T : Tid) → is_some (flags T) ≡ true → committed_at T xs ≡ true

-- ---- a worker's works

-- each name stands once, new ones come after them all, and each stable work is among them
pub record AreOrderly (t : WorkerTable) (k : Tickets) (stored : WorkId → Option Prepared) : Type 0 where
  pub rising : are_rising t ≡ true
  pub before : is_after (name_from k) t ≡ true
  pub live : (W : WorkId) → is_some (stored W) ≡ true → is_some (work_at W t) ≡ true

-- ---- a server

-- At most 64 works and 64 transactions, which name no more works than there are servers, in this stable state.
pub record HasSizes (servers : ℕ) (m : Memory) (x : StableState) : Type 0 where
  pub works : length m.worker ≤ 64
  pub orderly : AreOrderly m.worker m.tickets x.works
  pub transactions : length m.coordinator.transactions ≤ 64
  pub stages : are_small_stages servers m.coordinator.transactions ≡ true
  pub flags : AreFlagsOf m.coordinator.transactions x.flags
