-- The records of the pool: their bytes, and how they are read.
use Rattle.std.specs.Prelude.{◌<◌, ◌^◌, ◌++◌, ◌+◌, ℕ, List, [], ◌∷◌, length, Option, Some, None, nat_eq, nat_lt, nat_le, ◌&&◌, ◌||◌, Bool, true, false, flat_map, if◌then◌else◌}
use Rattle.std.specs.List.{list_all, AllByRecursion}
use Rattle.byteorder.specs.Endian.{big_bytes}
use Rattle.jn_base.specs.declared.names.LockUnit.{LockUnit}
use Rattle.jn_base.specs.declared.names.LockUnit.TheVariants.{File, Block}
use Rattle.jn_fields.specs.Reading.{◌>>=◌, number_at, list_at}
use Rattle.jn_fields.specs.Names.{tid_bytes, work_bytes, unit_bytes, TidFits, WorkFits, UnitFits, unit_has_page, tid_at, work_at, unit_at}
use Rattle.jn_records.specs.declared.flag.Flag.{Flag}
use Rattle.jn_records.specs.declared.work.WorkHead.{WorkHead}
use Rattle.jn_records.specs.declared.record.Record.{Record}
use Rattle.jn_records.specs.declared.record.Record.TheVariants.{Free, Intention, Ready, Going, Flag as FlagRecord}
use Rattle.jn_records.specs.Pages.{padded}
use Rattle.jn_records.specs.Intentions.{intention_bytes, intention_has_page, IntentionFits, intention_at}

-- ---- bytes

-- a prepared work: its kind, its names, its client, how many intentions and read units it has, and the units
abbrev pub prepared_bytes : ℕ → WorkHead → ℕ → List LockUnit → List ℕ
prepared_bytes kind head intentions reads =
    big_bytes 1 kind ++ work_bytes head.work ++ tid_bytes head.tid ++ big_bytes 1 head.client.0 ++ big_bytes 1 intentions ++ big_bytes 1 (length reads) ++ flat_map (λ u. unit_bytes u) reads

abbrev pub flag_bytes : Flag → List ℕ
flag_bytes f =
    big_bytes 1 4 ++ tid_bytes f.tid ++ big_bytes 1 f.client.0 ++ big_bytes 4 f.request.0 ++ big_bytes 1 (length f.works) ++ flat_map (λ w. work_bytes w) f.works

abbrev pub record_bytes : Record → List ℕ
record_bytes Free = []
record_bytes (Intention work tid order i) = big_bytes 1 1 ++ work_bytes work ++ tid_bytes tid ++ big_bytes 1 order ++ intention_bytes i
record_bytes (Ready head intentions reads) = prepared_bytes 2 head intentions reads
record_bytes (Going head intentions reads) = prepared_bytes 3 head intentions reads
record_bytes (FlagRecord f) = flag_bytes f

unfoldable pub record_page : Record → List ℕ
record_page r = padded (record_bytes r)

-- ---- which records have a page

-- the order of units: by file, a file before its blocks, then by block
abbrev pub unit_file : LockUnit → ℕ
unit_file (File f) = f.0
unit_file (Block f p) = f.0

abbrev pub place_in_file : LockUnit → ℕ
place_in_file (File f) = 0
place_in_file (Block f p) = p.0 + 1

abbrev pub unit_lt : LockUnit → LockUnit → Bool
unit_lt a b = nat_lt (unit_file a) (unit_file b) || (nat_eq (unit_file a) (unit_file b) && nat_lt (place_in_file a) (place_in_file b))

abbrev pub follows : Option LockUnit → LockUnit → Bool
follows None unit = true
follows (Some last) unit = unit_lt last unit

-- units that ascend, behind a last one if there is one
abbrev pub ascends : Option LockUnit → List LockUnit → Bool
ascends last [] = true
ascends last (unit ∷ units) = follows last unit && ascends (Some unit) units

-- 81 units have room, and they ascend
abbrev pub reads_have_page : List LockUnit → Bool
reads_have_page reads = nat_le (length reads) 81 && ascends None reads && list_all (λ u. unit_has_page u) reads

-- 55 works have room
abbrev pub has_page : Record → Bool
has_page Free = true
has_page (Intention work tid order i) = intention_has_page i
has_page (Ready head intentions reads) = reads_have_page reads
has_page (Going head intentions reads) = reads_have_page reads
has_page (FlagRecord f) = nat_le (length f.works) 55

-- ---- numbers of their types

pub record PreparedFits (head : WorkHead) (intentions : ℕ) (reads : List LockUnit) : Type 0 where
  pub work : WorkFits head.work
  pub tid : TidFits head.tid
  pub client : head.client.0 < 2 ^ 8
  pub intentions_fit : intentions < 2 ^ 8
  pub reads_fit : AllByRecursion UnitFits reads

pub record FlagFits (f : Flag) : Type 0 where
  pub tid : TidFits f.tid
  pub client : f.client.0 < 2 ^ 8
  pub request : f.request.0 < 2 ^ 32
  pub works : AllByRecursion WorkFits f.works

abbrev pub RecordFits : Record → Type 0
RecordFits Free = Unit {0}
RecordFits (Intention work tid order i) = WorkFits work × TidFits tid × (order < 2 ^ 8) × IntentionFits i
RecordFits (Ready head intentions reads) = PreparedFits head intentions reads
RecordFits (Going head intentions reads) = PreparedFits head intentions reads
RecordFits (FlagRecord f) = FlagFits f

-- ---- reading, behind the kind

unfoldable pub intention_record_at : List ℕ → Option Record
intention_record_at bytes = do
  work ← work_at bytes
  tid ← tid_at work.1
  order ← number_at 1 tid.1
  i ← intention_at order.1
  Some (Intention work.0 tid.0 order.0 i.0)

-- a work's names and client
unfoldable pub work_head_at : List ℕ → Option (WorkHead × List ℕ)
work_head_at bytes = do
  work ← work_at bytes
  tid ← tid_at work.1
  client ← number_at 1 tid.1
  Some (record { work = work.0; tid = tid.0; client = record { 0 = client.0 } }, client.1)

abbrev pub prepared : Bool → WorkHead → ℕ → List LockUnit → Record
prepared true head intentions reads = Going head intentions reads
prepared false head intentions reads = Ready head intentions reads

unfoldable pub prepared_at : Bool → List ℕ → Option Record
prepared_at going bytes = do
  head ← work_head_at bytes
  intentions ← number_at 1 head.1
  count ← number_at 1 intentions.1
  reads ← list_at (λ b. unit_at b) count.0 count.1
  Some (prepared going head.0 intentions.0 reads.0)

unfoldable pub flag_at : List ℕ → Option Record
flag_at bytes = do
  tid ← tid_at bytes
  client ← number_at 1 tid.1
  request ← number_at 4 client.1
  count ← number_at 1 request.1
  works ← list_at (λ b. work_at b) count.0 count.1
  Some (FlagRecord (record { tid = tid.0; client = record { 0 = client.0 }; request = record { 0 = request.0 }; works = works.0 }))

unfoldable pub record_at : List ℕ → Option Record
record_at bytes = do
  kind ← number_at 1 bytes
  if nat_eq kind.0 0 then Some Free
      else if nat_eq kind.0 1 then intention_record_at kind.1
      else if nat_eq kind.0 2 then prepared_at false kind.1
      else if nat_eq kind.0 3 then prepared_at true kind.1
      else if nat_eq kind.0 4 then flag_at kind.1
      else None
