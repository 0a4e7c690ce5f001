-- A server's store in memory: how it starts, and what its pages are in the end.
use Rattle.std.specs.Prelude.{◌≡◌, ◌≤◌, ◌<◌, ◌*◌, ◌/◌, ◌^◌, ℕ, nat_eq, if◌then◌else◌, List, [], length, None}
use Rattle.jn_base.specs.declared.names.ServerNo.{ServerNo}
use Rattle.jn_device.specs.Device.{DeviceState, blank_page}
use Rattle.jn_device.specs.declared.Half.{Half}
use Rattle.jn_memdisk.specs.Pages.{half_at}
use Rattle.jn_order.specs.Files.{Files}
use Rattle.jn_records.specs.declared.root.Root.{Root}
use Rattle.jn_records.specs.Pages.{root_page}
use Rattle.jn_records.specs.Sound.{Image, IsSound}
use Rattle.jn_records.specs.StablePages.{root_by, Counts, counts_of, page_count, files_of_pages}
use Rattle.jn_store.specs.DeviceCalls.{put_calls}
use Rattle.jn_store.specs.Store.{StoreView, IsCalm, IsWholePage, IsOnly}
use Rattle.jn_page_state.specs.Images.{CountsFit, IsFresh}

-- no fault waits, none was reported, and both halves of each page are good and equal
pub record IsUntouched (v : StoreView) : Type 0 where
  pub calm : IsCalm v
  pub told : v.told ≡ []
  pub whole : (i : ℕ) → i < v.count → IsWholePage v i

-- ---- a new server

abbrev pub no_files : Files
no_files u = None

-- zeros behind the root
abbrev pub new_page : Root → ℕ → List ℕ
new_page root i = if nat_eq i 0 then root_page root else blank_page

-- both halves of each page are so, and good
pub record IsNewStore (root : Root) (v : StoreView) : Type 0 where
  pub count : v.count ≡ page_count (counts_of root)
  pub pages : (i : ℕ) → i < v.count → IsOnly v i (new_page root i)
  pub untouched : IsUntouched v

-- so a recovery may begin there, and finds nothing but the root's epoch
pub record IsNewDisk (root : Root) (v : StoreView) : Type 0 where
  pub store : IsNewStore root v
  pub fresh : IsFresh root.server (counts_of root) root.epoch no_files v

-- its device has two pages for each stable page, and was called for one put at most
pub record HasNewDevice (root : Root) (d : DeviceState) : Type 0 where
  pub count : d.count ≡ 2 * page_count (counts_of root)
  pub calls : d.calls ≤ put_calls

-- ---- a server that was closed

abbrev pub image_of : ℕ → ServerNo → Counts → List Half → Image
image_of version server g halves = record { version = version; server = server; counts = g; good = λ p. (half_at halves p).good; bytes = λ p. (half_at halves p).bytes }

-- these are the pages of a sound image of this version
pub record AreSound (version : ℕ) (server : ServerNo) (g : Counts) (halves : List Half) : Type 0 where
  pub size : length halves ≡ 2 * page_count g
  pub fit : CountsFit server g
  pub sound : IsSound server (image_of version server g halves)

abbrev pub files_in : Counts → List Half → Files
files_in g halves = files_of_pages g (λ p. (half_at halves p).bytes)

-- a store of such pages, two of its device for each stable page, whose root has this epoch: the image's files are found, no work and no flag
pub record IsStoreOfPages (version : ℕ) (server : ServerNo) (g : Counts) (halves : List Half) (v : StoreView) : Type 0 where
  pub fresh : (epoch : ℕ) → epoch < 2 ^ 32 → (half_at halves 0).bytes ≡ root_page (record (root_by server g epoch) { version = version }) → IsFresh server g epoch (files_in g halves) v
  pub untouched : IsUntouched v
  pub device : v.device.count ≡ 2 * page_count g

-- ---- the pages themselves

-- these are the disk's pages, two for each stable page: each is good or bad as it is there, with the bytes that it has there
pub record HasPages (halves : List Half) (d : DeviceState) : Type 0 where
  pub count : length halves ≡ 2 * (d.count / 2)
  pub good : (p : ℕ) → p < length halves → (d.pages p).good ≡ (half_at halves p).good
  pub bytes : (p : ℕ) → p < length halves → (d.pages p).bytes ≡ (half_at halves p).bytes
