-- What the changes of a row leave beside the stable state: records that are rubbish, map pages, and which map pages works name.
use Rattle.std.specs.Prelude.{ℕ, ◌+◌, Bool, List, [], ◌∷◌, length}
use Rattle.jn_base.specs.declared.names.WorkId.{WorkId}
use Rattle.jn_records.specs.MapPlaces.{MapPlaces, lacking, places_after}
use Rattle.jn_rows.specs.Stable.{Change, AddReady, CarryOut, RemoveWork, StableState, at_work}
use Rattle.jn_storage.specs.Orderly.{list_of}
use Rattle.jn_storage.specs.Storage.{Accounts}

-- what stands on a server's pages beside its stable state
pub record Beside : Type 0 where
  -- how many records are rubbish
  pub rubbish : ℕ
  -- which map pages there are
  pub maps : MapPlaces
  -- of each prepared work, which of its intentions name a map page
  pub supplied : WorkId → List Bool

abbrev pub beside_of : Accounts → Beside
beside_of a = record { rubbish = length a.rubbish; maps = a.maps; supplied = a.supplied }

-- A work that is prepared names a map page exactly at the puts that lack one, and the map pages there are go along with the
-- intentions that are carried out. The records of a removed work's intentions are rubbish.
abbrev pub left_by : StableState → Change → Beside → Beside
left_by x (AddReady head list reads) b = record b { supplied = at_work b.supplied head.work (lacking b.maps list) }
left_by x (CarryOut W i) b = record b { maps = places_after i b.maps }
left_by x (RemoveWork W) b = record b { rubbish = b.rubbish + length (list_of x W); supplied = at_work b.supplied W [] }
left_by x c b = b

abbrev pub left_over : StableState → List Change → Beside → Beside
left_over x [] b = b
left_over x (c ∷ cs) b = left_over x cs (left_by x c b)
