-- How many messages a settle of the code's world hands over.
use Rattle.std.specs.Prelude.{◌≤◌, ℕ, ◌+◌, ◌*◌, ◌-◌, List, [], ◌∷◌, length}
use Rattle.jn_net.specs.Carried.{Carried}
use Rattle.jn_place.specs.declared.place.Place.{Place}
use Rattle.jn_place.specs.declared.place.Slot.{Slot}
use Rattle.jn_place.specs.declared.place.Slot.TheVariants.{Up, Down, Gone}
use Rattle.jn_world_refines.specs.Waiting.{waiting_numbers}
use Rattle.jn_rows.specs.Stable.{stable}
use Rattle.jn_server.specs.Seen.{view_with, memory_of}
use Rattle.jn_world_refines.specs.Stands.{Standing}
use Rattle.jn_store.specs.Store.{StoreView}
use Rattle.jn_row_ranges.specs.Weighing.{goings}

-- how many messages wait, and how many were sent and don't wait any more
abbrev pub how_many_wait : Carried → ℕ
how_many_wait net = length (waiting_numbers net)

abbrev pub how_many_wait_no_more : Carried → ℕ
how_many_wait_no_more net = length net.sent - how_many_wait net

-- how many works of a server that is up go
abbrev pub goings_on : {S : Type 0} → (S → StoreView) → Slot S → ℕ
goings_on look (Up p) = let v = view_with look p in goings (stable v.storage.found).works (memory_of v).worker
goings_on look (Down s) = 0
goings_on look Gone = 0

abbrev pub goings_of : {S : Type 0} → (S → StoreView) → List (Place S) → ℕ
goings_of look [] = 0
goings_of look (p ∷ places) = goings_on look p.slot + goings_of look places

-- 161 for each message that waits and each that one of eight clients or of the servers may send again, and one for each work that goes
abbrev pub most_messages_of_a_settle : {S : Type 0} → (S → StoreView) → Standing S → ℕ
most_messages_of_a_settle look w = 161 * (how_many_wait w.net + 8 + 640 * length w.places) + goings_of look w.places

-- no more are handed over than that, and so many are sent, fewer by those that waited
pub record IsBoundedWorld {S : Type 0} (look : S → StoreView) (before after : Standing S) : Type 0 where
  pub handed : how_many_wait_no_more after.net ≤ how_many_wait_no_more before.net + most_messages_of_a_settle look before
  pub sent : length after.net.sent + how_many_wait before.net ≤ length before.net.sent + most_messages_of_a_settle look before
