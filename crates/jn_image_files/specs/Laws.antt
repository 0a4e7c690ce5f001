-- Which images are accepted, and which are refused: not both, and for one cause.
use Rattle.std.specs.Prelude.{◌≡◌, ◌<◌, ℕ, List, Option, Some}
use Rattle.jn_base.specs.declared.names.ServerNo.{ServerNo}
use Rattle.jn_image.specs.Form.{image_bytes}
use Rattle.jn_image.specs.declared.image.Image.{Image}
use Rattle.jn_image_files.specs.Examined.{IsAccepted, IsRefused, IsFirstRefused}
use Rattle.jn_image_files.specs.Kept.{IsSoundImage}
use Rattle.jn_image_files.specs.declared.refusal.Cause.{Cause}
use Rattle.jn_image_files.specs.declared.refusal.Refusal.{Refusal}

-- what is accepted is refused by no cause
abbrev pub AcceptedIsNotRefused : Type 0
AcceptedIsNotRefused = (q : ServerNo) (content : Option (List ℕ)) (cause : Cause) → IsAccepted q content → IsRefused q content cause → ⊥

-- where each image is accepted, none is the first that is refused
abbrev pub AllAcceptedNoneRefused : Type 0
AllAcceptedNoneRefused = (found : ℕ → Option (List ℕ)) (servers : ℕ) (r : Refusal) → ((n : ℕ) → n < servers → IsAccepted (record { 0 = n }) (found n)) → IsFirstRefused found servers r → ⊥

-- what is refused is refused by one cause
abbrev pub OneCauseRefuses : Type 0
OneCauseRefuses = (q : ServerNo) (content : Option (List ℕ)) (cause other : Cause) → IsRefused q content cause → IsRefused q content other → cause ≡ other

-- the bytes of a sound image, of whatever server, are those of one image
abbrev pub BytesTellTheSoundImage : Type 0
BytesTellTheSoundImage = (q s : ServerNo) (content : Option (List ℕ)) (m n : Image) → IsSoundImage q m → content ≡ Some (image_bytes m) → IsSoundImage s n → content ≡ Some (image_bytes n) → m ≡ n
