-- What stands before a run begins, and what befalls one step of it.
use Rattle.std.specs.Prelude.{ℕ, ◌+◌, Bool, true, List, [], Option}
use Rattle.jn_base.specs.declared.names.ServerNo.{ServerNo}
use Rattle.jn_base.specs.declared.names.Tid.{Tid}
use Rattle.jn_base.specs.declared.names.WorkId.{WorkId}
use Rattle.jn_base.specs.declared.device.Outside.{Outside}
use Rattle.jn_records.specs.declared.net_list.Need.{Need}
use Rattle.jn_records.specs.MapPlaces.{MapPlaces, no_maps}
use Rattle.jn_records.specs.StablePages.{Counts, page_count}
use Rattle.jn_rows.specs.Stable.{Pick, Left}
use Rattle.jn_system.specs.WholeSystem.Printing.{Printed}

pub record Setup : Type 0 where
  -- how many servers there are, and how many stable pages of each kind each has
  pub servers : ℕ
  pub counts : ServerNo → Counts
  -- whether each message has a line
  pub trace : Bool

-- each stable page is kept on two physical ones
abbrev pub physical_pages : Setup → ServerNo → ℕ
physical_pages x q = page_count (x.counts q) + page_count (x.counts q)

-- What a step finds at its server, by what it does there.
pub data Finding : Type 0 where
  -- a message or a background step: what is free and not promised, and which map pages there are
  Free : Need → MapPlaces → Finding
  -- a show: what there is to print
  Prints : List Printed → Finding
  -- a restart: each pick finds, once pages are cleaned, what another one found before; and the names of works and flags, rising
  Recovered : (Pick → Pick) → List WorkId → List Tid → Finding
  -- a decay or a fault that is armed: whether the device allows it
  Allows : Bool → Finding

-- What befalls one step of a run. All that a schedule leaves open is in this.
pub record Chance : Type 0 where
  -- whether a rubbish record is left on a server's pages
  pub rubbish : ServerNo → Bool
  pub found : Finding
  -- where the step's server is stopped: what is left of the changes by each pick; of a restart the one change is the new epoch
  pub stop : Option (Pick → Left)
  -- the faults that its device reports, the oldest first
  pub told : List Outside

-- ---- what is read of a finding; a step that does something else reads none

abbrev pub none_free : Need
none_free = record { records = 0; heads = 0; pages = 0 }

abbrev pub free_found : Finding → Need
free_found (Free need maps) = need
free_found other = none_free

abbrev pub maps_found : Finding → MapPlaces
maps_found (Free need maps) = maps
maps_found other = no_maps

abbrev pub prints_found : Finding → List Printed
prints_found (Prints prints) = prints
prints_found other = []

abbrev pub halves_found : Finding → Pick → Pick
halves_found (Recovered halves works tids) = halves
halves_found other = λ c. c

abbrev pub works_found : Finding → List WorkId
works_found (Recovered halves works tids) = works
works_found other = []

abbrev pub tids_found : Finding → List Tid
tids_found (Recovered halves works tids) = tids
tids_found other = []

abbrev pub allowed : Finding → Bool
allowed (Allows is_so) = is_so
allowed other = true
