-- The disks that a run is opened with and those that it leaves, by the images.
use Rattle.std.specs.Prelude.{◌≡◌, ◌<◌, ℕ, List, length, slice_get, get_or, Option, Some, None, Vec}
use Rattle.std.specs.declared.alloc.Global.{Global}
use Rattle.jn_base.specs.declared.names.ServerNo.{ServerNo}
use Rattle.jn_device.specs.Device.{DeviceState}
use Rattle.jn_disks.specs.Disks.{HasPages, IsStoreOfPages, files_in}
use Rattle.jn_host.specs.Outside.{Contents, found_bytes}
use Rattle.jn_page_state.specs.Images.{IsImage}
use Rattle.jn_image.specs.Form.{IsWithin, image_counts, image_bytes}
use Rattle.jn_image.specs.declared.image.Image.{Image}
use Rattle.jn_order.specs.Files.{Files}
use Rattle.jn_records.specs.StablePages.{Counts, page_count}
use Rattle.jn_recovery.specs.Counts.{counts_by}
use Rattle.jn_recovery.specs.declared.counts.PageCounts.{PageCounts}
use Rattle.jn_store.specs.Pairs.{pairs_view}
use Rattle.jn_memdisk.specs.Disk.{IsNew}
use Rattle.jn_store.specs.Store.{StoreView}
use Rattle.jn_image_files.specs.Kept.{IsSoundImage, IsKept, image_name, Has}

-- how many pages of each kind an image may have
pub record AreWithin (g : Counts) : Type 0 where
  pub pool : IsWithin 1000 g.pool
  pub heads : IsWithin 1000 g.heads
  pub leaves : IsWithin 8000 g.leaves

-- the disk of a server that was closed: its pages are those of a sound image with these counts
pub record IsClosed (q : ServerNo) (g : Counts) (d : DeviceState) : Type 0 where
  pub within : AreWithin g
  pub files : Files
  pub image : IsImage q g files (pairs_view d)
  pub count : page_count g ≡ (pairs_view d).count

abbrev pub AreClosed : {S : Type 0} → (S → DeviceState) → List S → List PageCounts → Type 0
AreClosed {S} device stores counts = (q : ServerNo) (s : S) (g : PageCounts) → slice_get stores q.0 ≡ Some s → slice_get counts q.0 ≡ Some g → IsClosed q (counts_by g) (device s)

-- what was found of the image of each server, server 0 first
abbrev pub found_at : List (Option (Vec ℕ Global)) → ℕ → Option (List ℕ)
found_at found n = found_bytes (get_or found n None)

pub record AreLoaded (kept : Option Contents) (name : List ℕ) (servers : ℕ) (found : List (Option (Vec ℕ Global))) : Type 0 where
  pub count : length found ≡ servers
  pub each : (n : ℕ) → n < servers → Has kept (image_name name n) (found_at found n)

-- the disk has the pages of the sound image of this server with these bytes, and no call was made to it
pub record IsDiskOf (q : ServerNo) (content : Option (List ℕ)) (g : Counts) (d : DeviceState) : Type 0 where
  pub image : Image
  pub is_sound : IsSoundImage q image
  pub bytes : content ≡ Some (image_bytes image)
  pub counts : image_counts image ≡ g
  pub pages : HasPages image.pages d
  pub new : IsNew d

-- so does the store's, where a restart finds the image's files
pub record IsStoreOf {S : Type 0} (look : S → StoreView) (device : S → DeviceState) (q : ServerNo) (content : Option (List ℕ)) (x : S × PageCounts) : Type 0 where
  pub disk : IsDiskOf q content (counts_by x.1) (device x.0)
  pub store : IsStoreOfPages disk.image.version q (counts_by x.1) disk.image.pages (look x.0)

abbrev pub AreStoresOf : {S : Type 0} → (S → StoreView) → (S → DeviceState) → (ℕ → Option (List ℕ)) → List (S × PageCounts) → Type 0
AreStoresOf {S} look device found stores = (n : ℕ) (x : S × PageCounts) → slice_get stores n ≡ Some x → IsStoreOf look device (record { 0 = n }) (found n) x

-- a server's disk is that of a kept image, sound for it, with these files; no call was made yet
pub record IsOpened (kept : Option Contents) (name : List ℕ) (g : Counts) (files : Files) (q : ServerNo) (d : DeviceState) : Type 0 where
  pub disk : IsKept kept name g q d
  pub files_are : files_in g disk.image.pages ≡ files
  pub new : IsNew d
