-- Intentions as they are stored: their bytes, and how they are read.
use Rattle.std.specs.Prelude.{◌<◌, ◌^◌, ◌++◌, ℕ, List, Option, Some, None, nat_eq, nat_le, not, ◌&&◌, ◌||◌, Bool, if◌then◌else◌}
use Rattle.byteorder.specs.Endian.{big_bytes}
use Rattle.jn_base.specs.Limits.{head_blocks}
use Rattle.jn_records.specs.declared.intention.What.{What}
use Rattle.jn_records.specs.declared.intention.What.TheVariants.{Fresh, Gone, Cut, Put}
use Rattle.jn_records.specs.declared.intention.StoredIntention.{StoredIntention}
use Rattle.jn_fields.specs.Reading.{◌>>=◌, number_at}

abbrev pub what_code : What → ℕ
what_code Fresh = 1
what_code Gone = 2
what_code Cut = 3
what_code Put = 4

abbrev pub what_of : ℕ → Option What
what_of code = if nat_eq code 1 then Some Fresh else if nat_eq code 2 then Some Gone else if nat_eq code 3 then Some Cut else if nat_eq code 4 then Some Put else None

abbrev pub intention_bytes : StoredIntention → List ℕ
intention_bytes i = big_bytes 1 (what_code i.what) ++ big_bytes 4 i.file.0 ++ big_bytes 2 i.block.0 ++ big_bytes 2 i.address ++ big_bytes 2 i.map

-- fresh and gone name no block, a put alone names a data page, and one past the head's blocks may name a map page
abbrev pub names_what_it_needs : What → ℕ → ℕ → ℕ → Bool
names_what_it_needs Fresh block address map = nat_eq block 0 && nat_eq address 0 && nat_eq map 0
names_what_it_needs Gone block address map = nat_eq block 0 && nat_eq address 0 && nat_eq map 0
names_what_it_needs Cut block address map = nat_eq address 0 && nat_eq map 0
names_what_it_needs Put block address map = not (nat_eq address 0) && (nat_eq map 0 || nat_le head_blocks block)

-- it names the data page of this address, for its block or as a map page
abbrev pub names_address : ℕ → StoredIntention → Bool
names_address a i = nat_eq i.address a || nat_eq i.map a

abbrev pub intention_has_page : StoredIntention → Bool
intention_has_page i = names_what_it_needs i.what i.block.0 i.address i.map

-- numbers of their types
pub record IntentionFits (i : StoredIntention) : Type 0 where
  pub file : i.file.0 < 2 ^ 32
  pub block : i.block.0 < 2 ^ 16
  pub address : i.address < 2 ^ 16
  pub map : i.map < 2 ^ 16

unfoldable pub intention_at : List ℕ → Option (StoredIntention × List ℕ)
intention_at bytes = do
  code ← number_at 1 bytes
  what ← what_of code.0
  file ← number_at 4 code.1
  block ← number_at 2 file.1
  address ← number_at 2 block.1
  map ← number_at 2 address.1
  Some (record { what = what; file = record { 0 = file.0 }; block = record { 0 = block.0 }; address = address.0; map = map.0 }, map.1)
