-- What a call leaves of a disk's pages, and how a disk begins.
use Rattle.std.specs.Prelude.{◌≡◌, ◌≢◌, ℕ, ◌<◌, ◌/◌, true, false, List, [], length, vec_len, Option}
use Rattle.jn_base.specs.declared.device.FaultKind.{FaultKind}
use Rattle.jn_device.specs.declared.Half.{Half}
use Rattle.jn_device.specs.Device.{PageState, DeviceState, met_at, blank_page}
use Rattle.jn_memdisk.specs.declared.pages.Pages.{Pages}
use Rattle.jn_memdisk.specs.Pages.{half_at, pages_at}

abbrev pub pages_of : Pages → ℕ → PageState
pages_of d = pages_at d.halves.items d.marks.items

abbrev pub half_of : Pages → ℕ
half_of d = vec_len d.halves / 2

-- a call at page p with this fault leaves this page there, and the others as it met them
pub record LeavesPages (before : Pages) (p : ℕ) (kind : Option FaultKind) (page : PageState) (after : Pages) : Type 0 where
  pub count : vec_len after.halves ≡ vec_len before.halves
  pub page_is : pages_of after p ≡ page
  pub others : (q : ℕ) → q ≢ p → pages_of after q ≡ met_at (half_of before) (pages_of before) kind q

-- these are the device's pages
pub record HasHalves (halves : List Half) (s : DeviceState) : Type 0 where
  pub count : length halves ≡ s.count
  pub good : (q : ℕ) → q < s.count → (s.pages q).good ≡ (half_at halves q).good
  pub bytes : (q : ℕ) → q < s.count → (s.pages q).bytes ≡ (half_at halves q).bytes

-- a device that no call was made to
pub record IsNew (s : DeviceState) : Type 0 where
  pub power : s.power ≡ true
  pub missed : (q : ℕ) → q < s.count → (s.pages q).missed ≡ false
  pub fails : (q : ℕ) → q < s.count → (s.pages q).fails ≡ 0
  pub waiting : s.waiting ≡ []
  pub told : s.told ≡ []
  pub calls : s.calls ≡ 0
  pub puts : s.puts ≡ 0
  pub stops : s.stops ≡ 0

-- so many good pages of zeros
pub record IsBlank (count : ℕ) (s : DeviceState) : Type 0 where
  pub count_is : s.count ≡ count
  pub good : (q : ℕ) → q < count → (s.pages q).good ≡ true
  pub bytes : (q : ℕ) → q < count → (s.pages q).bytes ≡ blank_page
