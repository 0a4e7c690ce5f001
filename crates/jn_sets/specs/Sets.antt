-- What the calls of a set of records do to it and to its store.
use Rattle.std.specs.Prelude.{◌≡◌, ◌⊎◌, ℕ, ◌+◌, ◌^◌, ◌≤◌, ◌<◌, Bool, true, false, if◌then◌else◌, List, length, count_by, slice_set, Option}
use Rattle.std.specs.List.{enumerate_from}
use Rattle.std.specs.Map.{values_of}
use Rattle.jn_records.specs.declared.record.Record.{Record}
use Rattle.jn_records.specs.Records.{record_page, has_page}
use Rattle.jn_store.specs.Store.{StoreView, StorePut}
use Rattle.jn_store.specs.Choices.{IsChoice}
use Rattle.jn_sets.specs.Pool.{slot_page, record_in, record_number, is_free, free_count, prepares, is_rubbish, rubbish_count, HoldsRecords, Says}
use Rattle.jn_index.specs.Numbers.{number_at}

-- an index: it numbers its records from 0 on, and each has a page
pub record IsIndex (entries : List (ℕ × Record)) : Type 0 where
  pub few : length (values_of entries) < 2 ^ 16
  pub numbered : entries ≡ enumerate_from 0 (values_of entries)
  pub pages : (slot : ℕ) → has_page (record_in (values_of entries) slot) ≡ true

-- each record's number, how many are free, and how many make their works prepared ones
pub record AreCounted (numbers : List (Option ℕ)) (free prepared : ℕ) (records : List Record) : Type 0 where
  pub each : (slot : ℕ) → slot < length records → number_at numbers slot ≡ record_number (record_in records slot)
  pub free_is : free ≡ free_count records
  pub prepared_is : prepared ≡ count_by prepares records

abbrev pub ones : Bool → ℕ
ones b = if b then 1 else 0

-- no record below the slot is rubbish
abbrev pub AreCleanTo : List Record → ℕ → Type 0
AreCleanTo records slot = (k : ℕ) → k < slot → is_rubbish records (record_in records k) ≡ false

-- the records in memory, and how they are found
pub record AreInOrder (entries : List (ℕ × Record)) (numbers : List (Option ℕ)) (free prepared : ℕ) : Type 0 where
  pub index : IsIndex entries
  pub slots : length numbers ≡ length (values_of entries)
  pub counted : AreCounted numbers free prepared (values_of entries)

-- no slot below this one is free
abbrev pub AreUsedTo : List Record → ℕ → Type 0
AreUsedTo records slot = (k : ℕ) → k < slot → is_free (record_in records k) ≡ false

-- how many of them are rubbish, below which slot none is, and below which none is free
pub record IsWatched (records : List Record) (rubbish clean used : ℕ) : Type 0 where
  pub few : length records < 2 ^ 16
  pub count : rubbish ≡ rubbish_count records
  pub none_below : AreCleanTo records clean
  pub used_below : AreUsedTo records used

-- one slot gets this record by one put of its page: the set and the store before, then after
pub record Puts (old : List Record) (v : StoreView) (slot : ℕ) (value : Record) (ok : Bool) (new : List Record) (w : StoreView) : Type 0 where
  pub put : StorePut v (slot_page slot) (record_page value) ok w
  pub done : ok ≡ true → new ≡ slice_set old slot value
  pub slots : length new ≡ length old
  -- the set is as before a stop, whatever the store holds
  pub stopped : ok ≡ false → new ≡ old
  pub holds : HoldsRecords old v → ok ≡ true → HoldsRecords new w
  -- and the pages, as they turn out to be, say the old records or the new
  pub old_or_new : HoldsRecords old v → (d : ℕ → List ℕ) → IsChoice w d → Says d old ⊎ Says d (slice_set old slot value)
