-- A bucket of a directory: six places, each free or with an entry, as the 448 bytes of a block.
use Rattle.std.specs.Prelude.{◌≡◌, ◌<◌, ◌^◌, ⊤, ℕ, zero, suc, ◌-◌, ◌++◌, Bool, true, ◌&&◌, nat_eq, bytes_eq, List, [], ◌∷◌, length, replicate, take, drop, slice_set, Option, Some, None, is_none, option_map, if◌then◌else◌}
use Rattle.byteorder.specs.Endian.{big_bytes, big_number}
use Rattle.jn_base.specs.declared.names.FileNo.{FileNo}
use Rattle.jn_order.specs.Changes.{or_also}
use Rattle.jn_names.specs.declared.entry.Entry.{Entry}
use Rattle.jn_base.specs.Names.{is_name}
use Rattle.jn_names.specs.Names.{bucket_of}

-- a free place, or an entry
abbrev pub Slot : Type 0
Slot = Option Entry

-- ---- the bytes

-- the name's length, the name filled to 64 bytes, and the file
abbrev pub slot_bytes : Slot → List ℕ
slot_bytes None = replicate 69 0
slot_bytes (Some e) = length e.name ∷ e.name ++ replicate (64 - length e.name) 0 ++ big_bytes 4 e.file.0

abbrev pub slots_bytes : List Slot → List ℕ
slots_bytes [] = replicate 34 0
slots_bytes (slot ∷ slots) = slot_bytes slot ++ slots_bytes slots

unfoldable pub bucket_bytes : List Slot → List ℕ
bucket_bytes slots = slots_bytes slots

-- ---- what stands in a bucket

-- the file of a name
abbrev pub find_in : List ℕ → List Slot → Option FileNo
find_in name [] = None
find_in name (None ∷ slots) = find_in name slots
find_in name (Some e ∷ slots) = if bytes_eq e.name name then Some e.file else find_in name slots

-- a place is free, or has a name of this bucket that doesn't stand in the places behind it
abbrev pub belongs : ℕ → Slot → List Slot → Bool
belongs k None slots = true
belongs k (Some e) slots = is_name e.name && nat_eq (bucket_of e.name) k && is_none (find_in e.name slots)

abbrev pub all_belong : ℕ → List Slot → Bool
all_belong k [] = true
all_belong k (slot ∷ slots) = belongs k slot slots && all_belong k slots

abbrev pub FileFits : Slot → Type 0
FileFits None = ⊤
FileFits (Some e) = e.file.0 < 2 ^ 32

abbrev pub AllFit : List Slot → Type 0
AllFit [] = ⊤
AllFit (slot ∷ slots) = FileFits slot × AllFit slots

-- six places of bucket k
pub record IsBucket (k : ℕ) (slots : List Slot) : Type 0 where
  pub six : length slots ≡ 6
  pub belong : all_belong k slots ≡ true
  pub fit : AllFit slots

-- ---- a block as a bucket: what its places would be, if those are of the bucket and are spelled so

abbrev pub slot_front : List ℕ → Slot
slot_front [] = None
slot_front (zero ∷ bytes) = None
slot_front (suc n ∷ bytes) = Some (record { name = take (suc n) bytes; file = record { 0 = big_number 4 (drop 64 bytes) } })

abbrev pub slots_front : ℕ → List ℕ → List Slot
slots_front zero bytes = []
slots_front (suc n) bytes = slot_front bytes ∷ slots_front n (drop 69 bytes)

unfoldable pub places_in : List ℕ → List Slot
places_in block = slots_front 6 block

unfoldable pub bucket_in : ℕ → List ℕ → Option (List Slot)
bucket_in k block = if bytes_eq block (bucket_bytes (places_in block)) && all_belong k (places_in block) then Some (places_in block) else None

-- ---- how a bucket changes

-- the name in a place, which is empty where the place is free
abbrev pub name_in : Slot → List ℕ
name_in None = []
name_in (Some e) = e.name

-- the first place with this name
abbrev pub place_of : List ℕ → List Slot → Option ℕ
place_of name [] = None
place_of name (slot ∷ slots) = if bytes_eq (name_in slot) name then Some 0 else option_map suc (place_of name slots)

-- the entry of a name in the name's place, or else in the first free one
abbrev pub bound_in : List ℕ → FileNo → List Slot → Option (List Slot)
bound_in name file slots = option_map (λ place. slice_set slots place (Some (record { name = name; file = file }))) (or_also (place_of name slots) (place_of [] slots))

-- the place of a name free
abbrev pub unbound_in : List ℕ → List Slot → Option (List Slot)
unbound_in name slots = option_map (λ place. slice_set slots place None) (place_of name slots)
