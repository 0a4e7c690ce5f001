-- The pool: a record for each of its slots, and the pages on which they stand.
use Rattle.std.specs.Prelude.{◌≡◌, ℕ, ◌+◌, ◌*◌, ◌%◌, ◌<◌, List, length, slice_index_or, filter, count_by, not, ◌&&◌, nat_eq, if◌then◌else◌, Bool, true, false, Option, Some, None}
use Rattle.std.specs.List.{list_any, enumerate_from}
use Rattle.jn_base.specs.declared.names.Tid.{Tid}
use Rattle.jn_base.specs.declared.names.WorkId.{WorkId}
use Rattle.jn_base.specs.Names.{tid_eq, work_eq}
use Rattle.jn_records.specs.declared.record.Record.{Record}
use Rattle.jn_records.specs.declared.record.Record.TheVariants.{Free, Intention, Ready, Going, Flag as FlagRecord}
use Rattle.jn_records.specs.Records.{record_page, has_page, RecordFits, record_at}
use Rattle.jn_sets.specs.declared.find.Wanted.{Wanted}
use Rattle.jn_sets.specs.declared.find.Wanted.TheVariants.{Prepared, Intention as WantedIntention, Flag as WantedFlag}
use Rattle.jn_store.specs.Store.{StoreView, IsClean, IsOnly}

-- ---- records by slot

-- a slot's record: free past the last slot
abbrev pub record_in : List Record → ℕ → Record
record_in records slot = slice_index_or records slot Free

abbrev pub is_free : Record → Bool
is_free Free = true
is_free _ = false

-- how many slots hold no record
abbrev pub free_count : List Record → ℕ
free_count records = count_by is_free records

-- the slots that hold a record, with it, ascending
abbrev pub members_of : List Record → List (ℕ × Record)
members_of records = filter (λ m. not (is_free m.1)) (enumerate_from 0 records)

-- the ready or going record of a work
abbrev pub is_prepared : WorkId → Record → Bool
is_prepared work (Ready head intentions reads) = work_eq head.work work
is_prepared work (Going head intentions reads) = work_eq head.work work
is_prepared work _ = false

abbrev pub is_ready : Record → Bool
is_ready (Ready head intentions reads) = true
is_ready _ = false

-- a record that makes its work a prepared one
abbrev pub prepares : Record → Bool
prepares (Ready head intentions reads) = true
prepares (Going head intentions reads) = true
prepares _ = false

-- an intention, of whichever work
abbrev pub intends : Record → Bool
intends (Intention work tid order i) = true
intends _ = false

-- a ready record as a going one, and the other way round
abbrev pub going_of : Record → Record
going_of (Ready head intentions reads) = Going head intentions reads
going_of r = r

abbrev pub ready_of : Record → Record
ready_of (Going head intentions reads) = Ready head intentions reads
ready_of r = r

abbrev pub marked : Bool → Record → Record
marked going r = if going then going_of r else ready_of r

-- one of a work's intentions, by its place among them
abbrev pub is_intention : WorkId → ℕ → Record → Bool
is_intention work order (Intention w t o i) = work_eq w work && nat_eq o order
is_intention work order _ = false

abbrev pub is_flag : Tid → Record → Bool
is_flag tid (FlagRecord f) = tid_eq f.tid tid
is_flag tid _ = false

abbrev pub is_wanted : Wanted → Record → Bool
is_wanted (Prepared work) = is_prepared work
is_wanted (WantedIntention work order) = is_intention work order
is_wanted (WantedFlag tid) = is_flag tid

-- ---- numbers by which records are found, of which several records may have one

unfoldable pub spread : ℕ → ℕ → ℕ
spread ticket kind = (ticket % 134217728) * 32 + kind % 32

abbrev pub number_wanted : Wanted → ℕ
number_wanted (Prepared work) = spread work.ticket 0
number_wanted (WantedFlag tid) = spread tid.ticket 1
number_wanted (WantedIntention work order) = spread work.ticket (order + 2)

-- a free slot has none
abbrev pub record_number : Record → Option ℕ
record_number Free = None
record_number (Intention work tid order i) = Some (spread work.ticket (order + 2))
record_number (Ready head intentions reads) = Some (spread head.work.ticket 0)
record_number (Going head intentions reads) = Some (spread head.work.ticket 0)
record_number (FlagRecord f) = Some (spread f.tid.ticket 1)

-- an intention whose work has no ready or going record
abbrev pub is_rubbish : List Record → Record → Bool
is_rubbish records (Intention work tid order i) = not (list_any (is_prepared work) records)
is_rubbish records _ = false

abbrev pub rubbish_count : List Record → ℕ
rubbish_count records = count_by (is_rubbish records) records

-- any of a work's intentions
abbrev pub intends_for : WorkId → Record → Bool
intends_for work (Intention w t o i) = work_eq w work
intends_for work _ = false

-- how many intentions a work without a ready or going record has
abbrev pub left_of : List Record → WorkId → ℕ
left_of records work = if list_any (is_prepared work) records then 0 else count_by (intends_for work) records

-- how many intentions a record keeps from being rubbish, where it comes to these
abbrev pub kept_by : List Record → Record → ℕ
kept_by records (Ready head intentions reads) = left_of records head.work
kept_by records (Going head intentions reads) = left_of records head.work
kept_by records _ = 0

-- ---- records on pages

-- a slot's page stands behind the root
abbrev pub slot_page : ℕ → ℕ
slot_page slot = slot + 1

-- what the pool's pages say: of each slot its record, where its page is one
abbrev pub members_in : (ℕ → List ℕ) → ℕ → Option Record
members_in pages slot = record_at (pages (slot_page slot))

-- a value that a page of the pool can have
pub record IsRecord (r : Record) : Type 0 where
  pub whole : has_page r ≡ true
  -- numbers of their types
  pub fits : RecordFits r

-- a page of the format
abbrev pub IsRecordPage : List ℕ → Type 0
IsRecordPage page = (r : Record) × IsRecord r × (page ≡ record_page r)

-- a slot's page has one candidate, which is of the format
pub record IsReadable (v : StoreView) (slot : ℕ) : Type 0 where
  pub clean : IsClean v (slot_page slot)
  pub page : IsRecordPage (v.first (slot_page slot))

-- the one candidate of a slot's page is the page of this record
pub record IsStored (v : StoreView) (slot : ℕ) (r : Record) : Type 0 where
  pub of_format : IsRecord r
  pub only : IsOnly v (slot_page slot) (record_page r)

-- so it is with each slot
abbrev pub HoldsRecords : List Record → StoreView → Type 0
HoldsRecords records v = (slot : ℕ) → slot < length records → IsStored v slot (record_in records slot)

-- the pool's pages say these records
abbrev pub Says : (ℕ → List ℕ) → List Record → Type 0
Says pages records = (slot : ℕ) → slot < length records → members_in pages slot ≡ Some (record_in records slot)
