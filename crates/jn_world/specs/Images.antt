-- Servers whose stores are left as images: no record of them is rubbish, and their pages are cleaned.
use Rattle.jn_base.specs.declared.names.ServerNo.{ServerNo}
use Rattle.jn_page_state.specs.Images.{IsImage}
use Rattle.jn_place.specs.declared.place.Place.{Place}
use Rattle.jn_place.specs.declared.place.Slot.{Slot}
use Rattle.jn_place.specs.declared.place.Slot.TheVariants.{Up, Down, Gone}
use Rattle.jn_records.specs.StablePages.{Counts}
use Rattle.jn_recovery.specs.Counts.{counts_by}
use Rattle.jn_server.specs.Seen.{view_with}
use Rattle.jn_server.specs.Settled.{IsSettledState}
use Rattle.jn_storage.specs.Calls.{state}
use Rattle.jn_store.specs.Store.{StoreView}
use Rattle.jn_world.specs.Calm.{AreUpAndCalm}
use Rattle.std.specs.Prelude.{◌≡◌, ⊤, [], List, All, ℕ, slice_get, Some}

-- no record of a server that is up is rubbish
abbrev pub HasNoRubbish : {S : Type 0} → (S → StoreView) → Slot S → Type 0
HasNoRubbish look (Up p) = (view_with look p).storage.accounts.rubbish ≡ []
HasNoRubbish look (Down s) = ⊤
HasNoRubbish look Gone = ⊤

abbrev pub AreClean : {S : Type 0} → (S → StoreView) → List (Place S) → Type 0
AreClean {S} look places = All (λ (p : Place S). HasNoRubbish look p.slot) places

-- a call leaves them so
abbrev pub StayClean : {S : Type 0} → (S → StoreView) → List (Place S) → List (Place S) → Type 0
StayClean look before after = AreUpAndCalm look before → AreClean look before → AreClean look after

-- A server is up, and where it has nothing but files its store is that of a sound image, which holds these files.
abbrev pub HoldsImage : {S : Type 0} → (S → StoreView) → ServerNo → Counts → Slot S → Type 0
HoldsImage look q g (Up p) = let y = state (view_with look p).storage in IsSettledState y → IsImage q g y.files (look p.storage.0)
HoldsImage look q g (Down s) = ⊥
HoldsImage look q g Gone = ⊥

abbrev pub HoldsImageAt : {S : Type 0} → (S → StoreView) → ℕ → Place S → Type 0
HoldsImageAt look n p = HoldsImage look (record { 0 = n }) (counts_by p.counts) p.slot

-- this one does now, and the others are as they were
pub record IsScrubbedAt {S : Type 0} (look : S → StoreView) (n : ℕ) (before after : List (Place S)) : Type 0 where
  pub here : (p : Place S) → slice_get after n ≡ Some p → HoldsImageAt look n p
  pub others : (i : ℕ) → (n ≡ i → ⊥) → slice_get after i ≡ slice_get before i
