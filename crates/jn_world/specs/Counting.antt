-- Counting
use Rattle.jn_net.specs.declared.Sent.{Sent as Posted}
use Rattle.jn_place.specs.Remaining.{steps_at}
use Rattle.jn_place.specs.declared.place.Place.{Place}
use Rattle.jn_store.specs.Store.{StoreView}
use Rattle.std.specs.Prelude.{◌+◌, ℕ, if◌then◌else◌, List, [], ◌∷◌}

-- how many messages were handed over, which are no more than were sent
abbrev pub handed : List Posted → ℕ
handed [] = 0
handed (m ∷ ms) = (if m.delivered then 1 else 0) + handed ms

-- how many steps the servers have still to make, while they take no message
abbrev pub steps_of_all : {S : Type 0} → (S → StoreView) → List (Place S) → ℕ
steps_of_all look [] = 0
steps_of_all look (p ∷ ps) = steps_at look p.slot + steps_of_all look ps
