-- What the parts of a call at a place do: the server's own call, and what follows it.
use Rattle.std.specs.Prelude.{◌≡◌, ◌≤◌, ◌<◌, ◌+◌, ◌*◌, ℕ, Bool, true, false, ⊤, List, [], map, Option, Some, is_some}
use Rattle.jn_base.specs.declared.names.ServerNo.{ServerNo}
use Rattle.jn_base.specs.declared.names.Tid.{Tid}
use Rattle.jn_base.specs.declared.names.WorkId.{WorkId}
use Rattle.jn_base.specs.declared.device.Outside.{Outside}
use Rattle.jn_base.specs.Names.{tid_eq, work_eq}
use Rattle.jn_device.specs.Device.{DeviceState}
use Rattle.jn_device.specs.Events.{PowersUp, powered_off, cleared}
use Rattle.jn_page_state.specs.Pages.{found_on, pages_by}
use Rattle.jn_page_state.specs.Puts.{IsFrontClean, IsFrontWhole}
use Rattle.jn_page_state.specs.Recoverable.{MapsAreClean}
use Rattle.jn_intent.specs.Scrubbing.{counts_in}
use Rattle.jn_locks.specs.Locks.{work_before}
use Rattle.jn_msgs.specs.declared.message.Message.{Message}
use Rattle.jn_msgs.specs.Collected.{Collected}
use Rattle.jn_system.specs.WholeSystem.Servers.{server_row, of_coordinator, restored}
use Rattle.jn_system.specs.WholeSystem.Steps.{AreNames, tid_before}
use Rattle.jn_system.specs.WholeSystem.World.{Memory, with_epoch}
use Rattle.jn_records.specs.Pages.{root_page, last_epoch}
use Rattle.jn_records.specs.StablePages.{Counts, root_by}
use Rattle.jn_recovery.specs.Loading.{IsSameOrNext}
use Rattle.jn_recovery.specs.Counts.{calls_by}
use Rattle.jn_rows.specs.declared.coordinator.Transaction.{Transaction}
use Rattle.jn_rows.specs.Coordinator.{close_clients_row}
use Rattle.jn_rows.specs.Outcomes.{RowOutcome}
use Rattle.jn_rows.specs.Stable.{Pick, IsStopState, made_all}
use Rattle.jn_server.specs.declared.show.Shown.{Shown}
use Rattle.jn_server.specs.Remaining.{steps_left}
use Rattle.jn_server.specs.Seen.{Parts, ServerView, view_with, memory_of, room_of}
use Rattle.jn_server.specs.Standing.{beside_on}
use Rattle.jn_storage.specs.Calls.{state}
use Rattle.jn_storage.specs.DeviceCalls.{step_calls, row_calls}
use Rattle.jn_storage.specs.Storage.{StorageLater}
use Rattle.jn_store.specs.DeviceCalls.{put_calls, cleaned_get_calls}
use Rattle.jn_store.specs.Store.{StoreView, StoreLater, IsCalm, IsOnly}
use Rattle.jn_worker.specs.Leaving.{beside_of}
use Rattle.jn_place.specs.declared.place.Restarted.{Restarted}
use Rattle.jn_place.specs.declared.place.Restarted.TheVariants as came
use Rattle.jn_place.specs.declared.place.Slot.{Slot}
use Rattle.jn_place.specs.declared.place.Slot.TheVariants.{Up, Down, Gone}
use Rattle.jn_place.specs.Exact.{Sends, Prints, WhereUp, LeavesImage, idle_row, work_of}

-- ---- a call of a server that is up, which leaves it where it is

-- its row is done, with so many calls of the device at most
pub record IsRowDone {S : Type 0} (look : S → StoreView) (most : ℕ) (row : RowOutcome Memory) (p p' : Parts S) : Type 0 where
  pub memory : memory_of (view_with look p') ≡ row.table
  pub found : (c : Pick) → (view_with look p').storage.found c ≡ made_all row.changes (state (view_with look p).storage)
  pub later : StorageLater (view_with look p).storage (view_with look p').storage
  pub few : (look p'.storage.0).calls ≤ (look p.storage.0).calls + most
  pub power : (look p'.storage.0).power ≡ true

-- or stopped, which doesn't happen while no fault waits
pub record IsRowStopped {S : Type 0} (look : S → StoreView) (most : ℕ) (row : RowOutcome Memory) (p p' : Parts S) : Type 0 where
  pub some : (c : Pick) → IsStopState (state (view_with look p).storage) row.changes ((view_with look p').storage.found c)
  pub later : StorageLater (view_with look p).storage (view_with look p').storage
  pub few : (look p'.storage.0).calls ≤ (look p.storage.0).calls + most
  pub dark : (look p'.storage.0).power ≡ false
  pub not_calm : IsCalm (look p.storage.0) → ⊥

abbrev pub RowEnds : {S : Type 0} → (S → StoreView) → ℕ → RowOutcome Memory → Parts S → Bool → Slot S → Type 0
RowEnds look most row p true (Up p') = IsRowDone look most row p p'
RowEnds look most row p false (Up p') = IsRowStopped look most row p p'
RowEnds look most row p done after = ⊥

-- a message
abbrev pub Handles : {S : Type 0} → (S → StoreView) → Message → Slot S → Option Collected → Slot S → Type 0
Handles look message (Up p) answer after =
    let v = view_with look p in
    let row = server_row (memory_of v) (state v.storage) (room_of v.storage) message in
    RowEnds look row_calls row p (is_some answer) after × Sends row answer
Handles look message before answer after = ⊥

-- a background step
pub record IsWorking {S : Type 0} (look : S → StoreView) (p : Parts S) (answer : Option Collected) (after : Slot S) : Type 0 where
  pub row : RowOutcome Memory
  pub row_is : work_of (view_with look p) ≡ Some row
  pub ends : RowEnds look step_calls row p (is_some answer) after
  pub sends : Sends row answer

abbrev pub Works : {S : Type 0} → (S → StoreView) → Slot S → Option Collected → Slot S → Type 0
Works look (Up p) answer after = IsWorking look p answer after
Works look before answer after = ⊥

-- it leaves fewer to make, and where it was stopped there was one to make
abbrev pub LeavesFewer : {S : Type 0} → (S → StoreView) → Slot S → Bool → Slot S → Type 0
LeavesFewer look (Up p) true (Up p') = steps_left (view_with look p') < steps_left (view_with look p)
LeavesFewer look (Up p) false after = 0 < steps_left (view_with look p)
LeavesFewer look before done after = ⊥

-- one that changes nothing
abbrev pub Idles : {S : Type 0} → (S → StoreView) → ℕ → Parts S → Bool → Slot S → Type 0
Idles look most p done after = RowEnds look most (idle_row (memory_of (view_with look p))) p done after

-- a scrub
abbrev pub Scrubs : {S : Type 0} → (S → StoreView) → Slot S → Bool → Slot S → Type 0
Scrubs look (Up p) done after = Idles look (put_calls * (look p.storage.0).count) p done after
Scrubs look before done after = ⊥

-- a show
abbrev pub Shows : {S : Type 0} → (S → StoreView) → Slot S → Option (List Shown) → Slot S → Type 0
Shows look (Up p) list after = Idles look (cleaned_get_calls * (view_with look p).storage.accounts.leaves) p (is_some list) after × Prints (view_with look p) list
Shows look before list after = ⊥

-- the clients' end
abbrev pub Closes : {S : Type 0} → (S → StoreView) → Slot S → Bool → Slot S → Type 0
Closes look (Up p) done after = let m = memory_of (view_with look p) in RowEnds look row_calls (of_coordinator m (close_clients_row m.coordinator m.tickets)) p done after
Closes look before done after = ⊥

-- this holds of the server before and after a call that is done
abbrev pub WhereDone : {S : Type 0} → (S → StoreView) → (ServerView → ServerView → Type 0) → Slot S → Bool → Slot S → Type 0
WhereDone look so before true after = WhereUp look so before after
WhereDone look so before false after = ⊤

-- the server's own image, by its root
abbrev pub LeavesOwnImage : ServerView → ServerView → Type 0
LeavesOwnImage v w = LeavesImage v.storage.accounts.server (counts_in v.storage.accounts) v w

-- ---- what follows

-- what the device below has reported
abbrev pub told_at : {S : Type 0} → (S → DeviceState) → Slot S → List Outside
told_at device (Up p) = (device p.storage.0).told
told_at device (Down s) = (device s).told
told_at device Gone = []

-- each pick finds the same pages
abbrev pub SaysSame : {S : Type 0} → (S → StoreView) → S → S → Type 0
SaysSame look s t = (c : Pick) → pages_by (look t) c ≡ pages_by (look s) c

-- all is as it was, but for the device
pub record IsAsBefore {S : Type 0} (look : S → StoreView) (p p' : Parts S) : Type 0 where
  pub memory : memory_of (view_with look p') ≡ memory_of (view_with look p)
  pub found : (view_with look p').storage.found ≡ (view_with look p).storage.found
  pub accounts : (view_with look p').storage.accounts ≡ (view_with look p).storage.accounts

abbrev pub StaysAs : {S : Type 0} → (S → StoreView) → (S → DeviceState) → (DeviceState → DeviceState) → Slot S → Slot S → Type 0
StaysAs look device f (Up p) (Up p') = IsAsBefore look p p' × (device p'.storage.0 ≡ f (device p.storage.0))
StaysAs look device f (Down s) (Down s') = SaysSame look s s' × (device s' ≡ f (device s))
StaysAs look device f before after = ⊥

-- what follows a call: what the device reported is forgotten, and a server that was stopped is down
abbrev pub Follows : {S : Type 0} → (S → StoreView) → (S → DeviceState) → Slot S → Bool → Slot S → Type 0
Follows look device (Up p) true (Up p') = StaysAs look device cleared (Up p) (Up p')
Follows look device (Up p) false (Down s) = StaysAs look device cleared (Down p.storage.0) (Down s)
Follows look device before done after = ⊥

-- ---- a restart

-- from a store with power: the server is up
pub record IsRisen {S : Type 0} (look : S → StoreView) (q : ServerNo) (g : Counts) (s : S) (epoch : ℕ) (tids : List Tid) (p' : Parts S) : Type 0 where
  pub later : StoreLater (look s) (look p'.storage.0)
  pub pick : Pick
  pub few : (look p'.storage.0).calls ≤ (look s).calls + calls_by g (look s) pick
  pub power : (look p'.storage.0).power ≡ true
  pub works : List WorkId
  pub work_names : AreNames work_eq work_before (found_on g (look s) pick).works works
  pub flag_names : AreNames tid_eq tid_before (found_on g (look s) pick).flags tids
  pub remembers : memory_of (view_with look p') ≡ restored q (found_on g (look s) pick) works tids
  pub finds : (c : Pick) → (view_with look p').storage.found c ≡ with_epoch (found_on g (look s) pick)
  pub epoch_is : epoch ≡ (found_on g (look s) pick).epoch + 1
  pub before_last : (found_on g (look s) pick).epoch < last_epoch
  pub beside : beside_of (view_with look p').storage.accounts ≡ record (beside_on g (pages_by (look s) pick)) { rubbish = 0 }
  pub clean : (view_with look p').storage.accounts.rubbish ≡ []
  pub front : IsFrontClean g (look p'.storage.0)
  pub maps : MapsAreClean g (look p'.storage.0)
  pub front_whole : IsCalm (look s) → IsFrontWhole g (look p'.storage.0)
  pub root : IsOnly (look p'.storage.0) 0 (root_page (root_by q g epoch))

-- or it was stopped
pub record IsCutUp {S : Type 0} (look : S → StoreView) (g : Counts) (s s' : S) : Type 0 where
  pub later : StoreLater (look s) (look s')
  pub some : Pick
  pub few : (look s').calls ≤ (look s).calls + calls_by g (look s) some
  pub dark : (look s').power ≡ false
  pub each : (c : Pick) → (b : Pick) × IsSameOrNext (found_on g (look s) b) (found_on g (look s') c)
  pub not_calm : IsCalm (look s) → ⊥

-- or it found the last epoch
pub record IsAtLast {S : Type 0} (look : S → StoreView) (device : S → DeviceState) (g : Counts) (s s' : S) : Type 0 where
  pub called : S
  pub later : StoreLater (look s) (look called)
  pub some : Pick
  pub few : (look called).calls ≤ (look s).calls + calls_by g (look s) some
  pub power : (look called).power ≡ true
  pub device_is : device s' ≡ powered_off (device called)
  pub each : (c : Pick) → (b : Pick) × (found_on g (look s') c ≡ found_on g (look s) b)
  pub last : (c : Pick) → (found_on g (look s') c).epoch ≡ last_epoch

abbrev pub Rises : {S : Type 0} → (S → StoreView) → (S → DeviceState) → ServerNo → Counts → S → Restarted → Slot S → Type 0
Rises look device q g s (came.Up epoch tids) (Up p') = IsRisen look q g s epoch tids.items p'
Rises look device q g s came.Stopped (Down s') = IsCutUp look g s s'
Rises look device q g s came.UsedUp (Down s') = IsAtLast look device g s s'
Rises look device q g s restarted after = ⊥

-- the server stands there, with the names of its transactions
abbrev pub StandsUp : {S : Type 0} → Parts S → ℕ → Restarted → Slot S → Type 0
StandsUp p epoch (came.Up e tids) after = (after ≡ Up p) × (e ≡ epoch) × (tids.items ≡ map (λ (t : Transaction). t.tid) p.coordinator.transactions)
StandsUp p epoch restarted after = ⊥

-- a server that is down gets power first
pub record IsLifted {S : Type 0} (look : S → StoreView) (device : S → DeviceState) (q : ServerNo) (g : Counts) (s : S) (restarted : Restarted) (after : Slot S) : Type 0 where
  pub lit : S
  pub powers : PowersUp (device s) (device lit)
  pub same : SaysSame look s lit
  pub rises : Rises look device q g lit restarted after

abbrev pub Lifts : {S : Type 0} → (S → StoreView) → (S → DeviceState) → ServerNo → Counts → Slot S → Restarted → Slot S → Type 0
Lifts look device q g (Down s) restarted after = IsLifted look device q g s restarted after
Lifts look device q g before restarted after = ⊥
