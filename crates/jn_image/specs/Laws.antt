-- What a sound image is for, and that its bytes tell which it is.
use Rattle.std.specs.Prelude.{◌≡◌}
use Rattle.jn_base.specs.declared.names.ServerNo.{ServerNo}
use Rattle.jn_disks.specs.Disks.{AreSound}
use Rattle.jn_records.specs.Sound.{IsSound}
use Rattle.jn_image.specs.declared.image.Image.{Image}
use Rattle.jn_image.specs.Form.{image_counts, image_bytes, HasForm, PagesFit}
use Rattle.jn_image.specs.Unsound.{seen}

-- a store may be made of the pages of a sound image
abbrev pub SoundImagesHaveSoundPages : Type 0
SoundImagesHaveSoundPages = (m : Image) (s : ServerNo) → HasForm m → IsSound s (seen m) → AreSound m.version s (image_counts m) m.pages

-- each page of a sound image has 512 bytes
abbrev pub SoundImagesFit : Type 0
SoundImagesFit = (m : Image) (s : ServerNo) → HasForm m → IsSound s (seen m) → PagesFit m

-- images whose pages have 512 bytes each are equal where their bytes are
abbrev pub BytesTellTheImage : Type 0
BytesTellTheImage = (m n : Image) → HasForm m → PagesFit m → HasForm n → PagesFit n → image_bytes m ≡ image_bytes n → m ≡ n
