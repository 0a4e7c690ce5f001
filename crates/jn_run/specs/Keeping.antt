-- The disks that a run leaves are kept.
use Rattle.std.specs.Prelude.{◌≡◌, ◌<◌, ℕ, List, length, Option, Some, None}
use Rattle.jn_device.specs.Device.{DeviceState}
use Rattle.jn_base.specs.Counts.{Rose}
use Rattle.jn_image_files.specs.Saved.{SavedTo}
use Rattle.jn_recovery.specs.declared.counts.PageCounts.{PageCounts}
use Rattle.jn_writing.specs.Outside.{KeeperState}
use Rattle.jn_status.specs.declared.status.Status.{Status}
use Rattle.jn_status.specs.declared.status.Status.TheVariants as statuses

-- the stores are kept as images of this name, or the first of them where a save failed or memory ran out
abbrev pub KeptAs : {S : Type 0} → (S → DeviceState) → List S → List PageCounts → List ℕ → KeeperState → Status → KeeperState → Type 0
KeptAs device stores counts name before statuses.Done after = SavedTo device name stores counts (length stores) before.kept after.kept × (after.faults ≡ before.faults)
KeptAs device stores counts name before statuses.Keep after = Rose before.faults after.faults × ((n : ℕ) × (n < length stores) × SavedTo device name stores counts n before.kept after.kept)
KeptAs device stores counts name before statuses.Memory after = (after.faults ≡ before.faults) × ((n : ℕ) × (n < length stores) × SavedTo device name stores counts n before.kept after.kept)
KeptAs device stores counts name before _ after = ⊥

-- where that is asked for
abbrev pub KeptWith : {S : Type 0} → (S → DeviceState) → List S → List PageCounts → Option (List ℕ) → KeeperState → Status → KeeperState → Type 0
KeptWith device stores counts None before status after = (status ≡ statuses.Done) × (after ≡ before)
KeptWith device stores counts (Some name) before status after = KeptAs device stores counts name before status after
