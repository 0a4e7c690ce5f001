-- The places of a bucket at the front of bytes, and what is made of a bucket's block.
use Rattle.std.specs.Prelude.{◌≡◌, ℕ, Bool, true, false, ◌&&◌, bytes_eq, List, [], ◌∷◌, drop, take, Option, Some, None, Result, Ok, Err}
use Rattle.byteorder.specs.Endian.{big_number}
use Rattle.jn_base.specs.declared.names.FileNo.{FileNo}
use Rattle.jn_names.specs.declared.next.NameNext.{NameNext}
use Rattle.jn_base.specs.Names.{is_name}
use Rattle.jn_names.specs.Buckets.{Slot, slot_front, slots_front, slot_bytes, bucket_bytes, belongs}

-- the file of an entry
abbrev pub file_at : List ℕ → FileNo
file_at bytes = record { 0 = big_number 4 (drop 65 bytes) }

-- a free place, or an entry of the bucket
abbrev pub is_place : ℕ → List ℕ → Bool
is_place k bytes = bytes_eq (take 69 bytes) (slot_bytes (slot_front bytes)) && belongs k (slot_front bytes) []

-- the same, with a name that doesn't stand in so many places behind it
abbrev pub is_only_place : ℕ → ℕ → List ℕ → Bool
is_only_place k n bytes = bytes_eq (take 69 bytes) (slot_bytes (slot_front bytes)) && belongs k (slot_front bytes) (slots_front n (drop 69 bytes))

-- each entry has a name
abbrev pub are_named : List Slot → Bool
are_named [] = true
are_named (None ∷ slots) = are_named slots
are_named (Some e ∷ slots) = is_name e.name && are_named slots

-- whether the places are put, and the block then
abbrev pub IsPut : Option (List Slot) → Bool → List ℕ → Type 0
IsPut None put block = put ≡ false
IsPut (Some slots) put block = (put ≡ true) × (block ≡ bucket_bytes slots)

-- the reply, or the block that is to be written
abbrev pub IsMade : Result (List Slot) NameNext → Option NameNext → List ℕ → Type 0
IsMade (Ok slots) None block = block ≡ bucket_bytes slots
IsMade (Ok slots) (Some reply) block = ⊥
IsMade (Err last) None block = ⊥
IsMade (Err last) (Some reply) block = reply ≡ last
