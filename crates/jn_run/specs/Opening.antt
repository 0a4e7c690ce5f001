-- The disks that a run begins with.
use Rattle.std.specs.Prelude.{◌≡◌, ◌≢◌, ◌<◌, ℕ, List, length, slice_get, Option, Some, Result, Err}
use Rattle.jn_device.specs.Device.{DeviceState}
use Rattle.jn_disks.specs.Disks.{IsNewDisk, HasNewDevice}
use Rattle.jn_host.specs.Outside.{Contents}
use Rattle.jn_base.specs.Counts.{Rose}
use Rattle.jn_image_files.specs.Opened.{AreStoresOf}
use Rattle.jn_image_files.specs.Kept.{Has, image_name}
use Rattle.jn_options.specs.declared.asked.Geometry.{Geometry}
use Rattle.jn_options.specs.declared.asked.Opening.{Opening}
use Rattle.jn_options.specs.declared.asked.Opening.TheVariants.{New, Images}
use Rattle.jn_recovery.specs.declared.counts.PageCounts.{PageCounts}
use Rattle.jn_records.specs.StablePages.{root_by}
use Rattle.jn_store.specs.Store.{StoreView}
use Rattle.jn_run.specs.Outcome.{geometry_counts}
use Rattle.jn_run.specs.declared.opening.OpenFault.{OpenFault}
use Rattle.jn_run.specs.declared.opening.OpenFault.TheVariants as opens

-- a new one, of so many pages as are asked for
pub record IsDisk {S : Type 0} (look : S → StoreView) (g : Geometry) (n : ℕ) (x : S × PageCounts) : Type 0 where
  pub counts : x.1 ≡ record { pool = g.pool; heads = g.heads; leaves = g.leaves }
  pub new : IsNewDisk (root_by (record { 0 = n }) (geometry_counts g) 0) (look x.0)
  pub device : HasNewDevice (root_by (record { 0 = n }) (geometry_counts g) 0) (look x.0).device

abbrev pub AreDisks : {S : Type 0} → (S → StoreView) → Geometry → List (S × PageCounts) → Type 0
AreDisks {S} look g stores = (n : ℕ) (x : S × PageCounts) → slice_get stores n ≡ Some x → IsDisk look g n x

-- new ones, or those of the images that the keeper had under this name
abbrev pub AreOpened : {S : Type 0} → (S → StoreView) → (S → DeviceState) → Opening → Option Contents → List (S × PageCounts) → Type 0
AreOpened look device (New g) kept stores = AreDisks look g stores
AreOpened look device (Images name) kept stores = (found : ℕ → Option (List ℕ)) × ((n : ℕ) → n < length stores → Has kept (image_name name n) (found n)) × AreStoresOf look device found stores

-- Opening changes nothing that is kept. Where it fails for the keeper's sake, a call to that has failed, to load an image.
pub record FailsToOpen {A : Type 0} (opening : Opening) (kept : Option Contents) (faults : ℕ) (answer : Result A OpenFault) (kept' : Option Contents) (faults' : ℕ) : Type 0 where
  pub same : kept' ≡ kept
  pub rose : answer ≡ Err opens.Keep → Rose faults faults'
  pub no_fault : answer ≢ Err opens.Keep → faults' ≡ faults
  pub images : answer ≡ Err opens.Keep → (name : List ℕ) × (opening ≡ Images name)
