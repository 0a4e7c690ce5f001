-- What saves of images leave.
use Rattle.std.specs.Prelude.{◌≡◌, ◌≢◌, ◌≤◌, ◌<◌, ℕ, true, false, List, length, slice_get, Option, Some, Result, Err, is_ok, is_some}
use Rattle.jn_base.specs.declared.names.ServerNo.{ServerNo}
use Rattle.jn_device.specs.Device.{DeviceState}
use Rattle.jn_host.specs.Outside.{Contents, kept_at}
use Rattle.jn_base.specs.Counts.{Rose}
use Rattle.jn_host.specs.declared.KeepFailure.{KeepFailure}
use Rattle.jn_host.specs.declared.KeepFailure.TheVariants.{Failed as CallFailed}
use Rattle.jn_records.specs.StablePages.{Counts}
use Rattle.jn_recovery.specs.Counts.{counts_by}
use Rattle.jn_recovery.specs.declared.counts.PageCounts.{PageCounts}
use Rattle.jn_image_files.specs.Kept.{IsSaved, image_name, OthersStay}

-- the image of one server's disk was saved, or nothing was changed
pub record SavesOne (name : List ℕ) (g : Counts) (q : ServerNo) (d : DeviceState) (kept : Option Contents) (faults : ℕ) (answer : Result (Unit {0}) KeepFailure) (kept' : Option Contents) (faults' : ℕ) : Type 0 where
  pub count : faults ≤ faults'
  pub told : is_some kept' ≡ is_some kept
  pub saved : is_ok answer ≡ true → IsSaved kept' name g q d
  pub unsaved : is_ok answer ≡ false → (other : List ℕ) → kept_at kept' other ≡ kept_at kept other
  pub others : (other : List ℕ) → other ≢ image_name name q.0 → kept_at kept' other ≡ kept_at kept other
  pub rose : answer ≡ Err CallFailed → Rose faults faults'
  pub no_fault : answer ≢ Err CallFailed → faults' ≡ faults

-- the first n of these stores, with their counts of pages, were saved, and nothing else was changed
pub record SavedTo {S : Type 0} (device : S → DeviceState) (name : List ℕ) (stores : List S) (counts : List PageCounts) (n : ℕ) (kept kept' : Option Contents) : Type 0 where
  pub stay : OthersStay kept name n kept'
  pub are_kept : (q : ServerNo) (s : S) (g : PageCounts) → q.0 < n → slice_get stores q.0 ≡ Some s → slice_get counts q.0 ≡ Some g → IsSaved kept' name (counts_by g) q (device s)

-- all were saved, or those before the one whose save failed
pub record SavesAll {S : Type 0} (device : S → DeviceState) (name : List ℕ) (stores : List S) (counts : List PageCounts) (kept : Option Contents) (faults : ℕ) (answer : Result (Unit {0}) KeepFailure) (kept' : Option Contents) (faults' : ℕ) : Type 0 where
  pub count : faults ≤ faults'
  pub saved : is_ok answer ≡ true → SavedTo device name stores counts (length stores) kept kept'
  pub failed : is_ok answer ≡ false → (n : ℕ) × (n < length stores) × SavedTo device name stores counts n kept kept'
  pub rose : answer ≡ Err CallFailed → Rose faults faults'
  pub no_fault : answer ≢ Err CallFailed → faults' ≡ faults
