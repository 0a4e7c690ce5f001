-- What becomes of the works that are listed in memory.
use Rattle.std.specs.Prelude.{◌≡◌, true, List, map, option_map, if◌then◌else◌}
use Rattle.jn_base.specs.declared.names.WorkId.{WorkId}
use Rattle.jn_base.specs.Names.{work_eq}
use Rattle.jn_records.specs.declared.work.WorkState.{WorkState}
use Rattle.jn_storage.specs.Calls.{name_of}
use Rattle.jn_storage.specs.Finding.{find_by}
use Rattle.jn_storage.specs.Listing.{are_different}

abbrev pub going_on : WorkState → WorkState
going_on s = record s { going = true }

-- a work is going now, and the others are as they were
pub record MarksWork (old : List WorkState) (work : WorkId) (new : List WorkState) : Type 0 where
  pub names : map name_of new ≡ map name_of old
  pub found : are_different work_eq (map name_of old) ≡ true → (w : WorkId) → find_by work_eq name_of new w ≡ (if work_eq work w then option_map going_on (find_by work_eq name_of old w) else find_by work_eq name_of old w)
