-- The heads of files and their map pages: their bytes, and how they are read.
use Rattle.std.specs.Prelude.{◌≡◌, ◌<◌, ◌^◌, ◌++◌, ◌&&◌, ◌||◌, not, ℕ, List, [], length, Option, Some, None, nat_eq, nat_le, Bool, true, false, flat_map, if◌then◌else◌, slice_index_or}
use Rattle.std.specs.List.{list_all}
use Rattle.jn_base.specs.Limits.{head_blocks, most_maps}
use Rattle.jn_base.specs.declared.names.FileNo.{FileNo}
use Rattle.jn_base.specs.Names.{file_eq}
use Rattle.byteorder.specs.Endian.{big_bytes}
use Rattle.jn_records.specs.declared.head.Head.{Head}
use Rattle.jn_records.specs.declared.head.Head.TheVariants.{Free, Used}
use Rattle.jn_records.specs.Pages.{padded}
use Rattle.jn_fields.specs.Reading.{◌>>=◌, number_at, list_at}

-- two bytes for each
abbrev pub addresses_bytes : List ℕ → List ℕ
addresses_bytes addresses = flat_map (λ a. big_bytes 2 a) addresses

-- A free head is zeros. A used one has kind 1, its file, the addresses of its blocks and those of its map pages.
abbrev pub head_bytes : Head → List ℕ
head_bytes Free = []
head_bytes (Used file addresses maps) = big_bytes 1 1 ++ big_bytes 4 file.0 ++ addresses_bytes addresses ++ addresses_bytes maps

unfoldable pub head_page : Head → List ℕ
head_page h = padded (head_bytes h)

-- a head has room for the addresses of so many blocks and map pages
abbrev pub has_page : Head → Bool
has_page Free = true
has_page (Used file addresses maps) = nat_eq (length addresses) head_blocks && nat_eq (length maps) most_maps

-- the head at a place: free past the last one
abbrev pub head_in : List Head → ℕ → Head
head_in heads place = slice_index_or heads place Free

abbrev pub is_free : Head → Bool
is_free Free = true
is_free (Used file addresses maps) = false

-- the head is that of the file
abbrev pub is_of : FileNo → Head → Bool
is_of f Free = false
is_of f (Used g addresses maps) = file_eq g f

-- no file has two heads
abbrev pub HaveOneHead : List Head → Type 0
HaveOneHead heads = (f : FileNo) (i j : ℕ) → is_of f (head_in heads i) ≡ true → is_of f (head_in heads j) ≡ true → i ≡ j

-- no address is past the data pages: 0 is none, and a page's is its index and 1
abbrev pub all_within : ℕ → List ℕ → Bool
all_within leaves addresses = list_all (λ a. nat_le a leaves) addresses

abbrev pub within : ℕ → Head → Bool
within leaves Free = true
within leaves (Used file addresses maps) = all_within leaves addresses && all_within leaves maps

-- a head of version 1 names no map page
abbrev pub fits_version : ℕ → Head → Bool
fits_version version Free = true
fits_version version (Used file addresses maps) = not (nat_eq version 1) || all_within 0 maps

-- a head whose pages are so many
pub record IsHead (leaves : ℕ) (h : Head) : Type 0 where
  pub whole : has_page h ≡ true
  pub within_leaves : within leaves h ≡ true

-- a number of its type
abbrev pub FileFits : Head → Type 0
FileFits Free = Unit {0}
FileFits (Used file addresses maps) = file.0 < 2 ^ 32

-- a used head, of which the addresses of its map pages are still to be read
unfoldable pub maps_at : FileNo → List ℕ → List ℕ → Option Head
maps_at file addresses bytes = do
  maps ← list_at (λ b. number_at 2 b) most_maps bytes
  Some (Used file addresses maps.0)

unfoldable pub used_at : List ℕ → Option Head
used_at bytes = do
  file ← number_at 4 bytes
  addresses ← list_at (λ b. number_at 2 b) head_blocks file.1
  maps_at (record { 0 = file.0 }) addresses.0 addresses.1

unfoldable pub head_at : List ℕ → Option Head
head_at bytes = do
  kind ← number_at 1 bytes
  if nat_eq kind.0 0 then Some Free else if nat_eq kind.0 1 then used_at kind.1 else None

-- ---- map pages

-- a data page with the addresses of so many blocks as a head has
unfoldable pub map_page : List ℕ → List ℕ
map_page entries = padded (addresses_bytes entries)

-- the entries of a map page: one for each of its blocks, and none past the data pages
pub record IsMapRow (leaves : ℕ) (row : List ℕ) : Type 0 where
  pub count : length row ≡ head_blocks
  pub within_leaves : all_within leaves row ≡ true

pub record IsMapPage (leaves : ℕ) (page : List ℕ) : Type 0 where
  pub entries : List ℕ
  pub row : IsMapRow leaves entries
  pub is_page : page ≡ map_page entries
