-- What is wrong with bytes that are no image: the first of these faults, in this order.
use Rattle.std.specs.Prelude.{◌≡◌, ◌*◌, ℕ, zero, suc, Bool, true, ◌&&◌, not, nat_lt, nat_le, List, length, take, drop, codes, slice_index, bytes_eq, Option, Some, None, Result, Ok, Err, if◌then◌else◌}
use Rattle.byteorder.specs.Endian.{big_number}
use Rattle.sha2.specs.Sha256.{sha256}
use Rattle.jn_records.specs.Pages.{format_version}
use Rattle.jn_records.specs.StablePages.{Counts, page_count}
use Rattle.jn_image.specs.declared.fault.BadImage.{BadImage}
use Rattle.jn_image.specs.declared.fault.BadImage.TheVariants.{Short, Magic, Version, Geometry, Status, Digest, Trailing}
use Rattle.jn_image.specs.declared.fault.DecodeError.{DecodeError}
use Rattle.jn_image.specs.declared.fault.DecodeError.TheVariants.{Bad, Memory}
use Rattle.jn_image.specs.Form.{body_size, image_size}

-- the number by which a fault is reported
abbrev pub image_fault_number : BadImage → ℕ
image_fault_number Short = 1
image_fault_number Magic = 2
image_fault_number Version = 3
image_fault_number Geometry = 4
image_fault_number Status = 5
image_fault_number Digest = 6
image_fault_number Trailing = 7

-- ---- what stands in the header

abbrev pub version_in : List ℕ → ℕ
version_in bytes = slice_index bytes 8

abbrev pub server_in : List ℕ → ℕ
server_in bytes = slice_index bytes 9

abbrev pub counts_in : List ℕ → Counts
counts_in bytes = record { pool = big_number 2 (drop 10 bytes); heads = big_number 2 (drop 12 bytes); leaves = big_number 2 (drop 14 bytes) }

abbrev pub within : ℕ → ℕ → Bool
within limit n = nat_le 1 n && nat_le n limit

-- the server and the counts are in their ranges
abbrev pub in_range : ℕ → Counts → Bool
in_range server g = nat_le server 7 && within 1000 g.pool && within 1000 g.heads && within 8000 g.leaves

-- ---- what stands behind it

-- each of n pages begins with 0 or 1
abbrev pub statuses_fit : ℕ → List ℕ → Bool
statuses_fit zero pages = true
statuses_fit (suc n) pages = nat_le (slice_index pages 0) 1 && statuses_fit n (drop 513 pages)

-- behind so many bytes stands their digest
abbrev pub has_digest : ℕ → List ℕ → Bool
has_digest size bytes = bytes_eq (take 32 (drop size bytes)) (sha256 (take size bytes))

abbrev pub bad_behind_header : Counts → List ℕ → Option BadImage
bad_behind_header g bytes =
    if nat_lt (length bytes) (image_size g) then Some Short
    else if not (statuses_fit (2 * page_count g) (drop 16 bytes)) then Some Status
    else if not (has_digest (body_size g) bytes) then Some Digest
    else if nat_lt (image_size g) (length bytes) then Some Trailing
    else None

unfoldable pub bad_of : List ℕ → Option BadImage
bad_of bytes =
    if nat_lt (length bytes) 16 then Some Short
    else if not (bytes_eq (take 8 bytes) (codes "JUNIMAGE")) then Some Magic
    else if not (within format_version (version_in bytes)) then Some Version
    else if not (in_range (server_in bytes) (counts_in bytes)) then Some Geometry
    else bad_behind_header (counts_in bytes) bytes

-- bytes are an image where nothing is wrong with them, and a fault is the first one; memory may run out
abbrev pub TellsImage : {V : Type 0} → Option BadImage → Result V DecodeError → Type 0
TellsImage bad (Ok _) = bad ≡ None
TellsImage bad (Err (Bad fault)) = bad ≡ Some fault
TellsImage bad (Err Memory) = Unit {0}
