-- What the end of a run leaves: stores of sound images.
use Rattle.std.specs.Prelude.{◌≡◌, ℕ, List, length, slice_get, Some}
use Rattle.jn_between.specs.Between.{files_told}
use Rattle.jn_device.specs.Device.{DeviceState}
use Rattle.jn_page_state.specs.Images.{IsImage}
use Rattle.jn_order.specs.Files.{AllFiles}
use Rattle.jn_records.specs.StablePages.{page_count}
use Rattle.jn_report.specs.declared.line.Line.{Line}
use Rattle.jn_schedule.specs.declared.Event.{Event}
use Rattle.jn_store.specs.Pairs.{pairs_view}
use Rattle.jn_machine.specs.Chances.{Setup}

-- Each server's store is that of a sound image, with as many pages as its counts say. It holds the files that the commits of these lines leave, one after another, where the run began with these.
pub record LeavesImages {S : Type 0} (device : S → DeviceState) (x : Setup) (files : AllFiles) (schedule : List Event) (lines : List Line) (stores : List S) : Type 0 where
  pub servers : length stores ≡ x.servers
  pub images : (n : ℕ) (s : S) → slice_get stores n ≡ Some s → IsImage (record { 0 = n }) (x.counts (record { 0 = n })) (files_told files schedule lines (record { 0 = n })) (pairs_view (device s))
  pub counts : (n : ℕ) (s : S) → slice_get stores n ≡ Some s → page_count (x.counts (record { 0 = n })) ≡ (pairs_view (device s)).count
