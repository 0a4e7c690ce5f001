-- What a keeper has of images.
use Rattle.std.specs.Prelude.{◌≡◌, ◌<◌, ◌++◌, ℕ, List, codes, decimal, Option, Some, None, ◌≢◌, is_some}
use Rattle.jn_base.specs.declared.names.ServerNo.{ServerNo}
use Rattle.jn_device.specs.Device.{DeviceState}
use Rattle.jn_disks.specs.Disks.{HasPages}
use Rattle.jn_host.specs.Outside.{Contents, kept_at}
use Rattle.jn_image.specs.Form.{HasForm, image_counts, image_bytes}
use Rattle.jn_image.specs.Unsound.{seen}
use Rattle.jn_image.specs.declared.image.Image.{Image}
use Rattle.jn_records.specs.Pages.{format_version}
use Rattle.jn_records.specs.Sound.{IsSound}
use Rattle.jn_records.specs.StablePages.{Counts}

-- the name of the image of the server of this number
abbrev pub image_name : List ℕ → ℕ → List ℕ
image_name name n = name ++ codes "." ++ decimal n

-- the name holds this, where the keeper tells it
abbrev pub Has : Option Contents → List ℕ → Option (List ℕ) → Type 0
Has None name content = Unit {0}
Has (Some holds) name content = holds name ≡ content

-- an image that has bytes, and is a sound one of this server: a recovery may begin from its pages
pub record IsSoundImage (q : ServerNo) (m : Image) : Type 0 where
  pub form : HasForm m
  pub sound : IsSound q (seen m)

-- A sound image of this server, with these counts of pages, has the pages of the disk, and its bytes stand under the server's name.
pub record IsKept (kept : Option Contents) (name : List ℕ) (g : Counts) (q : ServerNo) (d : DeviceState) : Type 0 where
  pub image : Image
  pub is_sound : IsSoundImage q image
  pub counts : image_counts image ≡ g
  pub pages : HasPages image.pages d
  pub bytes : Has kept (image_name name q.0) (Some (image_bytes image))

-- so it was saved, as an image of the version that is written
pub record IsSaved (kept : Option Contents) (name : List ℕ) (g : Counts) (q : ServerNo) (d : DeviceState) : Type 0 where
  pub is_kept : IsKept kept name g q d
  pub version : is_kept.image.version ≡ format_version

-- all but the names of the first n images hold what they held
pub record OthersStay (kept : Option Contents) (name : List ℕ) (n : ℕ) (kept' : Option Contents) : Type 0 where
  pub told : is_some kept' ≡ is_some kept
  pub others : (other : List ℕ) → ((q : ℕ) → q < n → other ≢ image_name name q) → kept_at kept' other ≡ kept_at kept other
