-- How the code finds the first record, step by step. Contracts of private functions alone name these words; what is read is said in `Reading`.
use Rattle.std.specs.Prelude.{◌+◌, ◌-◌, ◌&&◌, ◌||◌, ℕ, Bool, true, false, nat_eq, nat_lt, if◌then◌else◌, List, [], ◌∷◌, length, take, drop, bytes_eq}
use Rattle.byteorder.specs.Endian.{big_number}
use Rattle.jn_journal.specs.declared.reading.Ending.{Ending}
use Rattle.jn_journal.specs.declared.reading.Ending.TheVariants.{Torn, Damaged}
use Rattle.jn_journal.specs.Format.{zeros_in, next_chain}

-- each pair of bytes has the sum 255
abbrev pub is_doubled : List ℕ → Bool
is_doubled [] = true
is_doubled (a ∷ []) = false
is_doubled (a ∷ b ∷ bytes) = nat_eq (a + b) 255 && is_doubled bytes

-- each pair of bytes has it, or lacks one of the two
abbrev pub may_be_doubled : List ℕ → Bool
may_be_doubled [] = true
may_be_doubled (a ∷ []) = true
may_be_doubled (a ∷ b ∷ bytes) = (nat_eq (a + b) 255 || (nat_eq a 0 || nat_eq b 0)) && may_be_doubled bytes

-- the first of each pair
abbrev pub halved : List ℕ → List ℕ
halved [] = []
halved (a ∷ []) = a ∷ []
halved (a ∷ b ∷ bytes) = a ∷ halved bytes

pub data Step : Type 0 where
  -- a whole record with this content, and the bytes behind it
  Whole : (content rest : List ℕ) → Step
  Stops : Ending → Step

-- how bytes end that are no whole header
abbrev pub header_ending : List ℕ → Ending
header_ending bytes = if may_be_doubled bytes then Torn else Damaged

-- how a body ends of which only a part is there; what isn't there counts as zeros
abbrev pub part_ending : ℕ → ℕ → List ℕ → Ending
part_ending size zeros part = if nat_lt (zeros_in part + (size - length part)) zeros then Damaged else Torn

-- a body of which nothing is missing
abbrev pub digest_step : List ℕ → List ℕ → List ℕ → Step
digest_step chain body rest = if bytes_eq (take 32 body) (next_chain chain (drop 32 body)) then Whole (drop 32 body) rest else Stops Damaged

-- a body of a record that has so many zeros
abbrev pub body_step : List ℕ → ℕ → List ℕ → List ℕ → Step
body_step chain zeros body rest =
    if nat_lt (zeros_in body) zeros then Stops Damaged
    else if nat_lt zeros (zeros_in body) then Stops Torn
    else digest_step chain body rest

-- what stands behind a header that says so
abbrev pub sized_step : List ℕ → ℕ → ℕ → List ℕ → Step
sized_step chain size zeros rest =
    if nat_lt size 32 then Stops Damaged
    else if nat_lt (length rest) size then Stops (part_ending size zeros rest)
    else body_step chain zeros (take size rest) (drop size rest)

abbrev pub numbers_step : List ℕ → List ℕ → List ℕ → Step
numbers_step chain numbers rest = sized_step chain (big_number 4 numbers) (big_number 4 (drop 4 numbers)) rest

-- the first record
abbrev pub step : List ℕ → List ℕ → Step
step chain bytes =
    if nat_lt (length bytes) 16 then Stops (header_ending bytes)
    else if is_doubled (take 16 bytes) then numbers_step chain (halved (take 16 bytes)) (drop 16 bytes)
    else Stops (header_ending (take 16 bytes))
