-- The tasks of a settle, in parts, and which server makes the next step.
use Rattle.jn_base.specs.declared.names.ClientNo.{ClientNo}
use Rattle.jn_base.specs.declared.names.ServerNo.{ServerNo}
use Rattle.jn_device.specs.Device.{DeviceState}
use Rattle.jn_machine.specs.Chances.{Setup}
use Rattle.jn_machine.specs.Events.{servers_of}
use Rattle.jn_machine.specs.Tasks.{Task, Acts}
use Rattle.jn_net.specs.Carried.{Carried, waiting}
use Rattle.jn_place.specs.declared.place.Place.{Place}
use Rattle.jn_recovery.specs.Counts.{counts_by}
use Rattle.jn_schedule.specs.declared.Event.TheVariants.{Again, Nudge}
use Rattle.jn_store.specs.Store.{StoreView}
use Rattle.jn_system.specs.WholeSystem.World.{clients_from}
use Rattle.jn_world.specs.Standing.{is_up_at, works_at}
use Rattle.jn_world_refines.specs.Pages.{ReadsPages, IsIdleAt}
use Rattle.std.specs.Prelude.{List, map, ◌≡◌, slice_get, Some, ◌<◌, ℕ, true, Bool, false, length, Option, None}

-- each client, and each server, sends once more what waits for an answer
abbrev pub asking_clients : Setup → List Task
asking_clients x = map (λ (c : ClientNo). Acts (Again c)) (clients_from 1 8)

abbrev pub asking_servers : Setup → List Task
asking_servers x = map (λ (q : ServerNo). Acts (Nudge q)) (servers_of x)

-- ---- who has something to do

-- the server of this number, of whose pages the code tells rightly
abbrev pub ReadsAt : {S : Type 0} → (S → StoreView) → (S → DeviceState) → ServerNo → List (Place S) → Type 0
ReadsAt {S} look device q ps = (p : Place S) → slice_get ps q.0 ≡ Some p → ReadsPages look device (counts_by p.counts) p.slot

-- the first servers, so many, have nothing to do
abbrev pub AreIdleBelow : {S : Type 0} → (S → StoreView) → (S → DeviceState) → ℕ → List (Place S) → Type 0
AreIdleBelow {S} look device n ps = (i : ℕ) (p : Place S) → i < n → slice_get ps i ≡ Some p → IsIdleAt look device p

-- a server is up and has something to do
pub record IsBusyAt {S : Type 0} (look : S → StoreView) (device : S → DeviceState) (q : ServerNo) (ps : List (Place S)) : Type 0 where
  pub up : is_up_at q.0 ps ≡ true
  pub works : works_at look q.0 ps ≡ true
  pub reads : ReadsAt look device q ps

-- or has nothing
abbrev pub TellsBusy : {S : Type 0} → (S → StoreView) → (S → DeviceState) → ServerNo → List (Place S) → Bool → Type 0
TellsBusy look device q ps true = IsBusyAt look device q ps
TellsBusy {S} look device q ps false = (p : Place S) → slice_get ps q.0 ≡ Some p → IsIdleAt look device p

-- the first one that has
pub record IsFirstBusy {S : Type 0} (look : S → StoreView) (device : S → DeviceState) (q : ServerNo) (ps : List (Place S)) : Type 0 where
  pub busy : IsBusyAt look device q ps
  pub before : AreIdleBelow look device q.0 ps

abbrev pub TellsFirst : {S : Type 0} → (S → StoreView) → (S → DeviceState) → List (Place S) → Option ServerNo → Type 0
TellsFirst look device ps (Some q) = IsFirstBusy look device q ps
TellsFirst look device ps None = AreIdleBelow look device (length ps) ps

-- where no message waits nothing is left to do
abbrev pub RestsUnlessWaiting : {S : Type 0} → (S → StoreView) → (S → DeviceState) → Carried → List (Place S) → Type 0
RestsUnlessWaiting look device net ps = waiting net ≡ None → AreIdleBelow look device (length ps) ps

-- no message waits, and nothing is left to do
pub record IsAtRest {S : Type 0} (look : S → StoreView) (device : S → DeviceState) (net : Carried) (ps : List (Place S)) : Type 0 where
  pub waits : waiting net ≡ None
  pub idle : AreIdleBelow look device (length ps) ps
