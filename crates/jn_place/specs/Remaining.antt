-- How many background steps what stands at a place has still to make.
use Rattle.std.specs.Prelude.{ℕ}
use Rattle.jn_server.specs.Remaining.{steps_left}
use Rattle.jn_server.specs.Seen.{view_with}
use Rattle.jn_store.specs.Store.{StoreView}
use Rattle.jn_place.specs.declared.place.Slot.{Slot}
use Rattle.jn_place.specs.declared.place.Slot.TheVariants.{Up, Down, Gone}

-- a server that is down makes none
abbrev pub steps_at : {S : Type 0} → (S → StoreView) → Slot S → ℕ
steps_at look (Up p) = steps_left (view_with look p)
steps_at look (Down s) = 0
steps_at look Gone = 0
