-- What holds of the sizes of tables and messages between any two steps.
use Rattle.std.specs.Prelude.{◌≡◌, ◌≤◌, ℕ, Bool, true, List, length, Option, Some, None, is_some, All}
use Rattle.std.specs.List.{list_any}
use Rattle.jn_base.specs.declared.names.ClientNo.{ClientNo}
use Rattle.jn_base.specs.declared.names.ServerNo.{ServerNo}
use Rattle.jn_base.specs.declared.names.Tid.{Tid}
use Rattle.jn_base.specs.Names.{tid_eq, work_eq}
use Rattle.jn_rows.specs.declared.client.Outstanding.{Outstanding}
use Rattle.jn_rows.specs.Client.{ClientTable}
use Rattle.jn_rows.specs.ClientLaws.{IsClient}
use Rattle.jn_rows.specs.Outcomes.{Sent}
use Rattle.jn_rows.specs.Stable.{StableState, FlagState, Pick, stable}
use Rattle.jn_system.specs.WholeSystem.World.{World, Memory}
use Rattle.jn_msgs.specs.Ranges.{is_few, is_small}
use Rattle.jn_row_ranges.specs.Sizes.{are_small_stages, AreFlagsOf}

-- ---- messages and clients

abbrev pub IsSmall : ℕ → Sent → Type 0
IsSmall servers message = is_small servers message.1 ≡ true

abbrev pub sends_small : ℕ → Option Outstanding → Bool
sends_small servers None = true
sends_small servers (Some o) = is_small servers o.message

pub record ClientSizes (servers : ℕ) (t : ClientTable) : Type 0 where
  pub client : IsClient t
  pub servers_are : t.servers ≡ servers
  pub again : sends_small servers t.outstanding ≡ true

-- ---- servers

abbrev pub AreSmallFlags : ℕ → (Tid → Option FlagState) → Type 0
AreSmallFlags servers flags = (T : Tid) (flag : FlagState) → flags T ≡ Some flag → is_few servers flag.works ≡ true

-- all that is there has its name in a list of at most 64
pub record AreAtMost64 {A B : Type 0} (eq : A → A → Bool) (there : A → Option B) : Type 0 where
  pub names : List A
  pub few : length names ≤ 64
  pub each : (a : A) → is_some (there a) ≡ true → list_any (eq a) names ≡ true

-- of a state that may be found at a server that is down
pub record StoredSizes (servers : ℕ) (x : StableState) : Type 0 where
  pub works : AreAtMost64 work_eq x.works
  pub flags : AreAtMost64 tid_eq x.flags
  pub small : AreSmallFlags servers x.flags

-- of a server that is up, in this stable state
pub record TableSizes (servers : ℕ) (m : Memory) (x : StableState) : Type 0 where
  pub works : length m.worker ≤ 64
  pub transactions : length m.coordinator.transactions ≤ 64
  pub stages : are_small_stages servers m.coordinator.transactions ≡ true
  pub flags : AreFlagsOf m.coordinator.transactions x.flags
  pub small : AreSmallFlags servers x.flags

abbrev pub ServerSizes : ℕ → Option Memory → (Pick → StableState) → Type 0
ServerSizes servers None found = (c : Pick) → StoredSizes servers (found c)
ServerSizes servers (Some m) found = TableSizes servers m (stable found)

-- Each End and Abort names no more works than there are servers, all at these, and each server has at most 64 works and 64 transactions.
pub record Sizes (servers : ℕ) (w : World) : Type 0 where
  pub sent : All (IsSmall servers) w.sent
  pub clients : (c : ClientNo) → ClientSizes servers (w.clients c)
  pub tables : (s : ServerNo) → ServerSizes servers (w.memory s) (w.found s)
