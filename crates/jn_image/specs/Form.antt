-- An image as bytes. Numbers have their highest byte first.
use Rattle.std.specs.Prelude.{◌≡◌, ◌≤◌, ◌+◌, ◌*◌, ◌++◌, ℕ, List, ◌∷◌, length, codes, flat_map, if◌then◌else◌}
use Rattle.std.specs.List.{AllByRecursion}
use Rattle.byteorder.specs.Endian.{big_bytes}
use Rattle.sha2.specs.Sha256.{sha256}
use Rattle.jn_device.specs.declared.Half.{Half}
use Rattle.jn_records.specs.Pages.{IsVersion}
use Rattle.jn_records.specs.StablePages.{Counts, page_count}
use Rattle.jn_image.specs.declared.image.Image.{Image}

abbrev pub image_counts : Image → Counts
image_counts m = record { pool = m.pool; heads = m.heads; leaves = m.leaves }

-- the format's name, its version, the server and the counts: 16 bytes
abbrev pub header_bytes : Image → List ℕ
header_bytes m = codes "JUNIMAGE" ++ big_bytes 1 m.version ++ big_bytes 1 m.server.0 ++ big_bytes 2 m.pool ++ big_bytes 2 m.heads ++ big_bytes 2 m.leaves

-- a physical page: its status, 1 where it is good, and its own bytes
abbrev pub half_bytes : Half → List ℕ
half_bytes h = (if h.good then 1 else 0) ∷ h.bytes

abbrev pub body_bytes : Image → List ℕ
body_bytes m = header_bytes m ++ flat_map (λ h. half_bytes h) m.pages

-- behind all that stands its digest
unfoldable pub image_bytes : Image → List ℕ
image_bytes m = body_bytes m ++ sha256 (body_bytes m)

abbrev pub body_size : Counts → ℕ
body_size g = 16 + 513 * (2 * page_count g)

abbrev pub image_size : Counts → ℕ
image_size g = body_size g + 32

-- ---- which images have such bytes

abbrev pub IsWithin : ℕ → ℕ → Type 0
IsWithin limit n = (1 ≤ n) × (n ≤ limit)

pub record HasForm (m : Image) : Type 0 where
  pub version : IsVersion m.version
  pub server_within : m.server.0 ≤ 7
  pub pool_within : IsWithin 1000 m.pool
  pub heads_within : IsWithin 1000 m.heads
  pub leaves_within : IsWithin 8000 m.leaves
  pub both_halves : length m.pages ≡ 2 * page_count (image_counts m)

-- pages of their type
abbrev pub PagesFit : Image → Type 0
PagesFit m = AllByRecursion (λ h. length h.bytes ≡ 512) m.pages
