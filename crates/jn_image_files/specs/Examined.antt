-- Which images a run may begin with, and the first that it may not.
use Rattle.std.specs.Prelude.{◌≡◌, ◌<◌, ℕ, List, Option, Some, None}
use Rattle.jn_base.specs.declared.names.ServerNo.{ServerNo}
use Rattle.jn_image.specs.Faults.{bad_of}
use Rattle.jn_image.specs.Form.{HasForm, PagesFit, image_bytes}
use Rattle.jn_image.specs.Unsound.{seen, IsFirstFault}
use Rattle.jn_image.specs.declared.image.Image.{Image}
use Rattle.jn_image_files.specs.Kept.{IsSoundImage}
use Rattle.jn_image_files.specs.declared.refusal.Cause.{Cause}
use Rattle.jn_image_files.specs.declared.refusal.Cause.TheVariants.{Missing, Bad, Unsound}
use Rattle.jn_image_files.specs.declared.refusal.Refusal.{Refusal}

-- these are the bytes of a sound image of this server
abbrev pub IsAccepted : ServerNo → Option (List ℕ) → Type 0
IsAccepted q content = (m : Image) × IsSoundImage q m × (content ≡ Some (image_bytes m))

-- there are none, or they are no image and this is their first fault, or they are an image with 512 bytes a page and this is why it is unsound
abbrev pub IsRefused : ServerNo → Option (List ℕ) → Cause → Type 0
IsRefused q content Missing = content ≡ None
IsRefused q content (Bad fault) = (bytes : List ℕ) × (content ≡ Some bytes) × (bad_of bytes ≡ Some fault)
IsRefused q content (Unsound fault) = (m : Image) × HasForm m × PagesFit m × (content ≡ Some (image_bytes m)) × IsFirstFault q (seen m) fault

-- of the images of so many servers this is the first that is refused, and why
pub record IsFirstRefused (found : ℕ → Option (List ℕ)) (servers : ℕ) (r : Refusal) : Type 0 where
  pub there : r.server.0 < servers
  pub before : (n : ℕ) → n < r.server.0 → IsAccepted (record { 0 = n }) (found n)
  pub cause : IsRefused r.server (found r.server.0) r.cause
