-- While no fault waits no call is stopped: a server that is up stays up, and one that is down comes up.
use Rattle.jn_place.specs.Exact.{IsCalmAt}
use Rattle.jn_place.specs.Places.{is_up}
use Rattle.jn_place.specs.declared.place.Place.{Place}
use Rattle.jn_place.specs.declared.place.Slot.{Slot}
use Rattle.jn_place.specs.declared.place.Slot.TheVariants.{Up, Down, Gone}
use Rattle.jn_store.specs.Store.{StoreView}
use Rattle.jn_world.specs.Standing.{is_up_at}
use Rattle.std.specs.Prelude.{◌≡◌, [], List, All, true, ℕ, false}

-- no fault waits at this place
abbrev pub IsQuietAt : {S : Type 0} → (S → StoreView) → Slot S → Type 0
IsQuietAt look (Up p) = (look p.storage.0).waiting ≡ []
IsQuietAt look (Down s) = (look s).waiting ≡ []
IsQuietAt look Gone = ⊥

-- nor at any of these
abbrev pub AreQuiet : {S : Type 0} → (S → StoreView) → List (Place S) → Type 0
AreQuiet {S} look places = All (λ (p : Place S). IsQuietAt look p.slot) places

-- the server is up, no fault waits, and there is power
pub record IsUpAndCalm {S : Type 0} (look : S → StoreView) (p : Place S) : Type 0 where
  pub up : is_up p.slot ≡ true
  pub calm : IsCalmAt look p.slot

-- and so at each of these
abbrev pub AreUpAndCalm : {S : Type 0} → (S → StoreView) → List (Place S) → Type 0
AreUpAndCalm {S} look places = All (λ (p : Place S). IsUpAndCalm look p) places

-- a call leaves them so
abbrev pub StayUp : {S : Type 0} → (S → StoreView) → List (Place S) → List (Place S) → Type 0
StayUp look before after = AreUpAndCalm look before → AreUpAndCalm look after

-- this one is down now, and those that were down are
pub record IsTakenDown {S : Type 0} (n : ℕ) (before after : List (Place S)) : Type 0 where
  pub down : is_up_at n after ≡ false
  pub others : (i : ℕ) → is_up_at i before ≡ false → is_up_at i after ≡ false
