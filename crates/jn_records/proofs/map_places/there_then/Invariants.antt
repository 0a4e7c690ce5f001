use Rattle.std.proofs.Common.{◌≡◌, drop}
use Rattle.jn_records.proofs.MapPlaces.{there_at}
use Rattle.jn_records.proofs.map_places.there_then.Given as goal

abbrev pub invariant-loop-intention : goal.invariant-loop-intention
invariant-loop-intention l = there_at (drop l.intention-index l.list) l.file l.map l.found ≡ there_at l.list l.file l.map l.there
