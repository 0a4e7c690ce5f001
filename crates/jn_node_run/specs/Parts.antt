-- Parts of serving a node: what each leaves, by its status.
use Rattle.std.specs.Prelude.{◌≡◌, ◌<◌, List, ℕ, Option}
use Rattle.jn_device.specs.Device.{DeviceState}
use Rattle.jn_host.specs.Outside.{Contents}
use Rattle.jn_image_files.specs.Kept.{Has, image_name}
use Rattle.jn_image_files.specs.Opened.{IsStoreOf}
use Rattle.jn_node.specs.Running.{Running, state_of}
use Rattle.jn_node.specs.declared.fault.NodeFault.{NodeFault}
use Rattle.jn_node.specs.declared.fault.NodeFault.TheVariants.{UsedUp, Memory}
use Rattle.jn_options.specs.declared.asked.Node.{Node}
use Rattle.jn_records.specs.StablePages.{Counts}
use Rattle.jn_recovery.specs.declared.counts.PageCounts.{PageCounts}
use Rattle.jn_server.specs.Settled.{IsSettledState}
use Rattle.jn_serving.specs.declared.fault.StreamFault.{StreamFault}
use Rattle.jn_serving.specs.declared.fault.StreamFault.TheVariants as streams
use Rattle.jn_store.specs.Store.{StoreView}
use Rattle.jn_node_run.specs.Outcome.{KeepsOwn, SavesOwn}
use Rattle.jn_records.specs.Pages.{last_epoch}
use Rattle.jn_writing.specs.Outside.{KeeperState, KeeperFails}
use Rattle.jn_status.specs.declared.status.Status.{Status}
use Rattle.jn_status.specs.declared.status.Status.TheVariants as statuses

-- the store of the image that the keeper has under the server's name
pub record IsOwnStore {S : Type 0} (look : S → StoreView) (device : S → DeviceState) (node : Node) (kept : Option Contents) (x : S × PageCounts) : Type 0 where
  pub content : Option (List ℕ)
  pub has : Has kept (image_name node.opening node.server.0) content
  pub store : IsStoreOf look device node.server content x

-- the disk of a server that was closed is saved, or it isn't, and nothing was changed
abbrev pub DiskKept : Node → Counts → DeviceState → KeeperState → Status → KeeperState → Type 0
DiskKept node g d before statuses.Done after = KeepsOwn node g d before after
DiskKept node g d before statuses.Keep after = KeeperFails before after
DiskKept node g d before statuses.Memory after = after ≡ before
DiskKept node g d before _ after = ⊥

-- a server whose stream was served to its end goes down, and its disk is saved, where nobody waits for it and an epoch is left
abbrev pub ServerKept : Node → Counts → Running → KeeperState → Status → KeeperState → Type 0
ServerKept node g x before statuses.Done after = IsSettledState (state_of g x) × SavesOwn node g x before after
ServerKept node g x before statuses.Unsettled after = (IsSettledState (state_of g x) → ⊥) × (after ≡ before)
ServerKept node g x before statuses.Limit after = IsSettledState (state_of g x) × ((state_of g x).epoch ≡ last_epoch) × (after ≡ before)
ServerKept node g x before statuses.Keep after = IsSettledState (state_of g x) × ((state_of g x).epoch < last_epoch) × KeeperFails before after
ServerKept node g x before statuses.Memory after = after ≡ before
ServerKept node g x before _ after = ⊥

-- why a server doesn't come up
abbrev pub status_of : NodeFault → Status
status_of UsedUp = statuses.Limit
status_of Memory = statuses.Memory

-- why a stream isn't served to its end
abbrev pub status_then : StreamFault → Status
status_then streams.Read = statuses.Read
status_then streams.Write = statuses.Write
status_then streams.TooLong = statuses.Limit
status_then streams.NoFrame = statuses.Frame
status_then streams.Memory = statuses.Memory
