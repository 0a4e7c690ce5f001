-- Which map pages files have, and what preparing a list needs.
use Rattle.std.specs.Prelude.{◌≡◌, ℕ, ◌+◌, ◌*◌, ◌/◌, ◌-◌, Bool, true, false, not, ◌&&◌, ◌||◌, nat_eq, nat_lt, nat_le, if◌then◌else◌, List, [], ◌∷◌, length, map, count_by, slice_get, slice_index, Some}
use Rattle.std.specs.List.{list_any}
use Rattle.jn_base.specs.declared.names.FileNo.{FileNo}
use Rattle.jn_base.specs.Limits.{head_blocks}
use Rattle.jn_base.specs.Names.{file_eq}
use Rattle.jn_order.specs.Files.{zeros}
use Rattle.jn_records.specs.declared.head.Head.{Head}
use Rattle.jn_records.specs.declared.head.Head.TheVariants.{Free, Used}
use Rattle.jn_records.specs.declared.intention.What.{What}
use Rattle.jn_records.specs.declared.intention.What.TheVariants.{Fresh, Gone, Cut, Put}
use Rattle.jn_records.specs.declared.intention.Intention.{Intention}
use Rattle.jn_records.specs.declared.intention.StoredIntention.{StoredIntention}
use Rattle.jn_records.specs.declared.net_list.Need.{Need}
use Rattle.jn_records.specs.NetLists.{is_put_intention, heads_of}

-- of each file, which of its map pages there are
abbrev pub MapPlaces : Type 0
MapPlaces = FileNo → ℕ → Bool

abbrev pub no_maps : MapPlaces
no_maps f j = false

-- Map page j is for as many blocks as a head has, from head_blocks * (j + 1) on.
abbrev pub is_in_range : ℕ → ℕ → Bool
is_in_range j p = nat_eq (p / head_blocks) (j + 1)

-- the map page of a block that is past those of a head
abbrev pub range_of : ℕ → ℕ
range_of p = p / head_blocks - 1

-- a cut at block n keeps it where its first block stays
abbrev pub keeps_map : ℕ → ℕ → Bool
keeps_map n j = nat_lt (head_blocks * (j + 1)) n

-- those that heads name
abbrev pub names_map : FileNo → ℕ → Head → Bool
names_map f j Free = false
names_map f j (Used g addresses maps) = file_eq g f && nat_lt 0 (slice_index maps j)

abbrev pub maps_in : List Head → MapPlaces
maps_in heads f j = list_any (names_map f j) heads

-- how many map pages a head names
abbrev pub map_count : Head → ℕ
map_count Free = 0
map_count (Used g addresses maps) = count_by (nat_lt 0) maps

abbrev pub maps_named : List Head → ℕ
maps_named [] = 0
maps_named (h ∷ heads) = map_count h + maps_named heads

-- whether page j is there after an intention of its file
abbrev pub has_map_after : What → ℕ → ℕ → Bool → Bool
has_map_after Fresh n j there = false
has_map_after Gone n j there = false
has_map_after Cut n j there = there && keeps_map n j
has_map_after Put p j there = there || is_in_range j p

abbrev pub places_after : Intention → MapPlaces → MapPlaces
places_after i places f j = if file_eq i.file f then has_map_after i.what i.block.0 j (places f j) else places f j

-- those that are there after a list
abbrev pub places_then : List Intention → MapPlaces → MapPlaces
places_then [] places = places
places_then (i ∷ list) places = places_then list (places_after i places)

-- a put past the head's blocks, whose address stands in a map page
abbrev pub is_past_head : Intention → Bool
is_past_head i = is_put_intention i && nat_le head_blocks i.block.0

-- and whose map page isn't there
abbrev pub lacks_map : MapPlaces → Intention → Bool
lacks_map places i = is_past_head i && not (places i.file (range_of i.block.0))

-- of each intention of a list that is carried out, whether it is such a put in its turn
abbrev pub lacking : MapPlaces → List Intention → List Bool
lacking places [] = []
lacking places (i ∷ list) = lacks_map places i ∷ lacking (places_after i places) list

-- a record for each intention and the ready record, its heads, a page for each put, and one for each map page that is lacking
abbrev pub need_of : List Intention → (FileNo → Bool) → MapPlaces → Need
need_of list there places = record { records = length list + 1; heads = heads_of list there; pages = count_by is_put_intention list + count_by (λ b. b) (lacking places list) }

abbrev pub names_a_map : StoredIntention → Bool
names_a_map s = nat_lt 0 s.map

-- which records of a list name a map page
abbrev pub names_maps : List StoredIntention → List Bool
names_maps stored = map names_a_map stored

-- what a record says, without the bytes of a put
abbrev pub bare : StoredIntention → Intention
bare s = record { what = s.what; file = s.file; block = s.block; bytes = zeros }

-- Each put of a list that lacks its map page in its turn names one: of each intention, whether its record does.
abbrev pub IsSupplied : MapPlaces → List Intention → List Bool → Type 0
IsSupplied places list named = (k : ℕ) → slice_get (lacking places list) k ≡ Some true → slice_get named k ≡ Some true

abbrev pub IsSuppliedBy : MapPlaces → List StoredIntention → Type 0
IsSuppliedBy places stored = IsSupplied places (map bare stored) (names_maps stored)
