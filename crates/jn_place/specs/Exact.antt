-- What each call of a place does, exactly: to the server, to its device, and in lines.
use Rattle.std.specs.Prelude.{◌≡◌, ◌≤◌, ◌<◌, ◌+◌, ◌*◌, ℕ, Bool, true, false, ⊤, if◌then◌else◌, List, [], ◌∷◌, ◌++◌, map, Option, Some, None, is_some}
use Rattle.jn_report.specs.Lines.{lines_at}
use Rattle.std.specs.Global.{Vec}
use Rattle.jn_base.specs.declared.names.ServerNo.{ServerNo}
use Rattle.jn_base.specs.declared.names.Tid.{Tid}
use Rattle.jn_base.specs.declared.names.WorkId.{WorkId}
use Rattle.jn_base.specs.declared.device.Outside.{Outside}
use Rattle.jn_base.specs.Names.{tid_eq, work_eq}
use Rattle.jn_device.specs.Device.{DeviceState}
use Rattle.jn_device.specs.Events.{PowersUp, powered_off, cleared}
use Rattle.jn_device.specs.Happens.{Happens}
use Rattle.jn_page_state.specs.Images.{IsImage}
use Rattle.jn_page_state.specs.Puts.{IsFrontClean, IsFrontWhole}
use Rattle.jn_page_state.specs.Recoverable.{MapsAreClean}
use Rattle.jn_page_state.specs.Pages.{found_on, pages_by}
use Rattle.jn_intent.specs.Scrubbing.{IsIdle}
use Rattle.jn_locks.specs.Locks.{work_before}
use Rattle.jn_msgs.specs.declared.message.Message.{Message}
use Rattle.jn_msgs.specs.Collected.{Collected}
use Rattle.jn_system.specs.WholeSystem.Printing.{ArePrints, prints_in}
use Rattle.jn_system.specs.WholeSystem.Servers.{server_row, server_step, server_again, server_timeout, of_coordinator, restored}
use Rattle.jn_system.specs.WholeSystem.Steps.{AreNames, tid_before}
use Rattle.jn_system.specs.WholeSystem.World.{Memory, with_epoch}
use Rattle.jn_records.specs.Pages.{root_page, last_epoch}
use Rattle.jn_records.specs.StablePages.{Counts, root_by}
use Rattle.jn_recovery.specs.Loading.{IsSameOrNext}
use Rattle.jn_recovery.specs.Counts.{calls_by}
use Rattle.jn_report.specs.declared.line.When.{When}
use Rattle.jn_report.specs.declared.line.Text.{Text}
use Rattle.jn_report.specs.declared.line.Text.TheVariants as says
use Rattle.jn_report.specs.declared.line.Line.{Line}
use Rattle.jn_rows.specs.Coordinator.{close_clients_row}
use Rattle.jn_rows.specs.Outcomes.{RowOutcome}
use Rattle.jn_rows.specs.Stable.{Pick, IsStopState, made_all}
use Rattle.jn_rows.specs.Worker.{timeout_row}
use Rattle.jn_server.specs.declared.show.Shown.{Shown}
use Rattle.jn_server.specs.Handling.{LeavesBeside, StepLeaves, LeavesByWork}
use Rattle.jn_server.specs.Seen.{Parts, ServerView, view_with, memory_of, room_of}
use Rattle.jn_server.specs.Showing.{print_of}
use Rattle.jn_server.specs.Reading.{IsRoomOfPages}
use Rattle.jn_server.specs.Standing.{beside_on}
use Rattle.jn_storage.specs.Calls.{state}
use Rattle.jn_storage.specs.DeviceCalls.{step_calls, row_calls}
use Rattle.jn_store.specs.DeviceCalls.{put_calls, cleaned_get_calls}
use Rattle.jn_store.specs.Pairs.{pairs_view}
use Rattle.jn_store.specs.Store.{StoreView, IsCalm, IsClean, IsOnly, IsWholePage}
use Rattle.jn_worker.specs.Leaving.{beside_of}
use Rattle.jn_place.specs.declared.place.Restarted.{Restarted}
use Rattle.jn_place.specs.declared.place.Restarted.TheVariants as came
use Rattle.jn_place.specs.declared.place.Slot.{Slot}
use Rattle.jn_place.specs.declared.place.Slot.TheVariants.{Up, Down, Gone}
use Rattle.jn_place.specs.Places.{is_up}

-- ---- the device

-- A device was called so many times at most. These faults were reported, and then forgotten, and it has power or none.
pub record IsSpent (most : ℕ) (told : List Outside) (power : Bool) (d e : DeviceState) : Type 0 where
  pub last : DeviceState
  pub happens : Happens d last
  pub few : last.calls ≤ d.calls + most
  pub whole : IsCalm (pairs_view d) → (i : ℕ) → i < (pairs_view d).count → IsWholePage (pairs_view d) i → IsWholePage (pairs_view last) i
  pub told_is : told ≡ last.told
  pub power_is : last.power ≡ power
  pub after : e ≡ cleared last

-- ---- lines

-- the faults that the device refused, and that the server was stopped
abbrev pub texts_of_step : ServerNo → List Outside → Bool → List Text
texts_of_step q told done = map (λ (fault : Outside). says.Outside q fault) told ++ (if done then [] else says.Stopped q ∷ [])

-- ---- a row

-- all its changes are made
pub record IsDoneAt {S : Type 0} (look : S → StoreView) (device : S → DeviceState) (most : ℕ) (told : List Outside) (row : RowOutcome Memory) (p p' : Parts S) : Type 0 where
  pub memory : memory_of (view_with look p') ≡ row.table
  pub found : (c : Pick) → (view_with look p').storage.found c ≡ made_all row.changes (state (view_with look p).storage)
  pub spent : IsSpent most told true (device p.storage.0) (device p'.storage.0)

-- by each pick some of them are, from the first one on, and the server is down
pub record IsStoppedAt {S : Type 0} (look : S → StoreView) (device : S → DeviceState) (g : Counts) (most : ℕ) (told : List Outside) (row : RowOutcome Memory) (p : Parts S) (s : S) : Type 0 where
  pub some : (c : Pick) → IsStopState (state (view_with look p).storage) row.changes (found_on g (look s) c)
  pub spent : IsSpent most told false (device p.storage.0) (device s)

abbrev pub Ends : {S : Type 0} → (S → StoreView) → (S → DeviceState) → Counts → ℕ → List Outside → RowOutcome Memory → Slot S → Bool → Slot S → Type 0
Ends look device g most told row (Up p) true (Up p') = IsDoneAt look device most told row p p'
Ends look device g most told row (Up p) false (Down s) = IsStoppedAt look device g most told row p s
Ends look device g most told row before done after = ⊥

-- A step of a server that is up by this row, with so many calls of its device at most: it was done or stopped, and these lines were added.
pub record IsStepOf {S : Type 0} (look : S → StoreView) (device : S → DeviceState) (q : ServerNo) (g : Counts) (most : ℕ) (when : When) (row : RowOutcome Memory) (before : Slot S) (done : Bool) (after : Slot S) (lines lines' : List Line) : Type 0 where
  pub told : List Outside
  pub ends : Ends look device g most told row before done after
  pub lines_are : lines' ≡ lines ++ lines_at when (texts_of_step q told done)

-- what a step sends and notes is its row's
abbrev pub Sends : RowOutcome Memory → Option Collected → Type 0
Sends row None = ⊤
Sends row (Some out) = out ≡ record { messages = row.messages; notes = row.notes }

-- a row that changes nothing
abbrev pub idle_row : Memory → RowOutcome Memory
idle_row m = record { table = m; changes = []; messages = []; notes = []; tickets = m.tickets }

-- ---- each call of a server that is up

-- it took a message
abbrev pub Took : {S : Type 0} → (S → StoreView) → (S → DeviceState) → ServerNo → Counts → When → Message → Slot S → Option Collected → Slot S → List Line → List Line → Type 0
Took look device q g when message (Up p) answer after lines lines' =
    let v = view_with look p in
    let row = server_row (memory_of v) (state v.storage) (room_of v.storage) message in
    IsStepOf look device q g row_calls when row (Up p) (is_some answer) after lines lines' × Sends row answer
Took look device q g when message before answer after lines lines' = ⊥

-- its next background step, if there is something to do
abbrev pub work_of : ServerView → Option (RowOutcome Memory)
work_of v = server_step (memory_of v) (state v.storage) (room_of v.storage)

abbrev pub has_work_at : {S : Type 0} → (S → StoreView) → Slot S → Bool
has_work_at look (Up p) = is_some (work_of (view_with look p))
has_work_at look (Down s) = false
has_work_at look Gone = false

-- what its rows read of the storage is what stands on its pages
abbrev pub ReadsPages : {S : Type 0} → (S → StoreView) → Slot S → Type 0
ReadsPages look (Up p) = IsRoomOfPages (view_with look p)
ReadsPages look before = ⊥

-- it made a background step
pub record IsWorked {S : Type 0} (look : S → StoreView) (device : S → DeviceState) (q : ServerNo) (g : Counts) (when : When) (p : Parts S) (answer : Option Collected) (after : Slot S) (lines lines' : List Line) : Type 0 where
  pub row : RowOutcome Memory
  pub row_is : work_of (view_with look p) ≡ Some row
  pub step : IsStepOf look device q g step_calls when row (Up p) (is_some answer) after lines lines'
  pub sends : Sends row answer

abbrev pub WorkedBy : {S : Type 0} → (S → StoreView) → (S → DeviceState) → ServerNo → Counts → When → Slot S → Option Collected → Slot S → List Line → List Line → Type 0
WorkedBy look device q g when (Up p) answer after lines lines' = IsWorked look device q g when p answer after lines lines'
WorkedBy look device q g when before answer after lines lines' = ⊥

-- each pair of its pages is clean then, and whole where no fault waited
pub record LeavesClean (v w : ServerView) : Type 0 where
  pub clean : (i : ℕ) → i < v.storage.store.count → IsClean w.storage.store i
  pub whole : IsCalm v.storage.store → (i : ℕ) → i < v.storage.store.count → IsWholePage w.storage.store i

-- it cleaned its pages, and nothing else changed
abbrev pub ScrubbedBy : {S : Type 0} → (S → StoreView) → (S → DeviceState) → ServerNo → Counts → When → Slot S → Bool → Slot S → List Line → List Line → Type 0
ScrubbedBy look device q g when (Up p) done after lines lines' =
    IsStepOf look device q g (put_calls * (look p.storage.0).count) when (idle_row (memory_of (view_with look p))) (Up p) done after lines lines'
ScrubbedBy look device q g when before done after lines lines' = ⊥

-- what it reported of its files
abbrev pub Prints : ServerView → Option (List Shown) → Type 0
Prints v None = ⊤
Prints v (Some list) = ArePrints (prints_in v.worker.table (state v.storage).files) (map print_of list)

-- the items of a list that was reported
abbrev pub items_of : Option (Vec Shown) → Option (List Shown)
items_of None = None
items_of (Some list) = Some list.items

abbrev pub Showed : {S : Type 0} → (S → StoreView) → (S → DeviceState) → ServerNo → Counts → When → Slot S → Option (List Shown) → Slot S → List Line → List Line → Type 0
Showed look device q g when (Up p) list after lines lines' =
    IsStepOf look device q g (cleaned_get_calls * (view_with look p).storage.accounts.leaves) when (idle_row (memory_of (view_with look p))) (Up p) (is_some list) after lines lines' × Prints (view_with look p) list
Showed look device q g when before list after lines lines' = ⊥

-- each outcome counts as thanked
abbrev pub Closed : {S : Type 0} → (S → StoreView) → (S → DeviceState) → ServerNo → Counts → When → Slot S → Bool → Slot S → List Line → List Line → Type 0
Closed look device q g when (Up p) done after lines lines' =
    let m = memory_of (view_with look p) in
    IsStepOf look device q g row_calls when (of_coordinator m (close_clients_row m.coordinator m.tickets)) (Up p) done after lines lines'
Closed look device q g when before done after lines lines' = ⊥

-- it would send this again
abbrev pub AsksAgain : {S : Type 0} → (S → StoreView) → Slot S → Collected → Type 0
AsksAgain look (Up p) out = let v = view_with look p in out ≡ record { messages = server_again (memory_of v) (state v.storage); notes = [] }
AsksAgain look before out = ⊥

-- a work of the transaction may be broken from now on
pub record IsTimedOut {S : Type 0} (look : S → StoreView) (T : Tid) (p : Parts S) (answer : Bool) (p' : Parts S) : Type 0 where
  pub live : answer ≡ is_some (timeout_row (memory_of (view_with look p)).worker T)
  pub memory : memory_of (view_with look p') ≡ server_timeout (memory_of (view_with look p)) T
  pub storage : p'.storage ≡ p.storage

abbrev pub TimedOut : {S : Type 0} → (S → StoreView) → Tid → Slot S → Bool → Slot S → Type 0
TimedOut look T (Up p) answer (Up p') = IsTimedOut look T p answer p'
TimedOut look T before answer after = ⊥

-- ---- what stands beside files, works and flags

-- this holds of the server before and after a call that leaves it up
abbrev pub WhereUp : {S : Type 0} → (S → StoreView) → (ServerView → ServerView → Type 0) → Slot S → Slot S → Type 0
WhereUp look so (Up p) (Up p') = so (view_with look p) (view_with look p')
WhereUp look so before after = ⊤

-- a message leaves what its row's changes leave
abbrev pub TakeLeaves : Message → ServerView → ServerView → Type 0
TakeLeaves message v w = LeavesBeside v (server_row (memory_of v) (state v.storage) (room_of v.storage) message) w

-- a background step erases a rubbish record, or leaves what its row's change leaves
abbrev pub WorkLeaves : ServerView → ServerView → Type 0
WorkLeaves v w = (row : RowOutcome Memory) → work_of v ≡ Some row → StepLeaves v row w × LeavesByWork v row w

-- any other call leaves it as it is
abbrev pub KeepsBeside : ServerView → ServerView → Type 0
KeepsBeside v w = beside_of w.storage.accounts ≡ beside_of v.storage.accounts

-- ---- an image

-- Where no fault waits and it has nothing but files, its store is that of a sound image then, which holds these files.
abbrev pub LeavesImage : ServerNo → Counts → ServerView → ServerView → Type 0
LeavesImage q g v w = IsCalm v.storage.store → IsIdle v.storage → IsImage q g (state v.storage).files w.storage.store

-- ---- down and up

-- it went down, and its power went
pub record IsCrashed {S : Type 0} (look : S → StoreView) (device : S → DeviceState) (g : Counts) (p : Parts S) (s : S) : Type 0 where
  pub found : (c : Pick) → found_on g (look s) c ≡ (view_with look p).storage.found c
  pub device_is : device s ≡ powered_off (device p.storage.0)

abbrev pub Crashed : {S : Type 0} → (S → StoreView) → (S → DeviceState) → Counts → Slot S → Slot S → Type 0
Crashed look device g (Up p) (Down s) = IsCrashed look device g p s
Crashed look device g before after = ⊥

-- the power came, and then the device was called, as often as a recovery may that reads the map pages that this pick finds
pub record IsTried (g : Counts) (pick : Pick) (told : List Outside) (power : Bool) (d e : DeviceState) : Type 0 where
  pub powered : DeviceState
  pub up : PowersUp d powered
  pub spent : IsSpent (calls_by g (pairs_view d) pick) told power powered e

-- It came up with what this pick found, in the next epoch: it remembers its works and flags, and nothing else. The transactions of the flags
-- are reported in rising order.
pub record IsUpAt {S : Type 0} (look : S → StoreView) (device : S → DeviceState) (q : ServerNo) (g : Counts) (told : List Outside) (s : S) (epoch : ℕ) (tids : List Tid) (p' : Parts S) : Type 0 where
  pub pick : Pick
  pub tried : IsTried g pick told true (device s) (device p'.storage.0)
  pub works : List WorkId
  pub work_names : AreNames work_eq work_before (found_on g (look s) pick).works works
  pub flag_names : AreNames tid_eq tid_before (found_on g (look s) pick).flags tids
  pub remembers : memory_of (view_with look p') ≡ restored q (found_on g (look s) pick) works tids
  pub finds : (c : Pick) → (view_with look p').storage.found c ≡ with_epoch (found_on g (look s) pick)
  pub epoch_is : epoch ≡ (found_on g (look s) pick).epoch + 1
  pub before_last : (found_on g (look s) pick).epoch < last_epoch
  -- map pages are those that this pick found, and no record is rubbish any more
  pub beside : beside_of (view_with look p').storage.accounts ≡ record (beside_on g (pages_by (pairs_view (device s)) pick)) { rubbish = 0 }
  pub clean : (view_with look p').storage.accounts.rubbish ≡ []
  -- and root, records and heads are clean, and whole where no fault waited, and map pages are clean
  pub front : IsFrontClean g (look p'.storage.0)
  pub maps : MapsAreClean g (look p'.storage.0)
  pub front_whole : (device s).waiting ≡ [] → IsFrontWhole g (look p'.storage.0)
  -- the root has the epoch, and is of the version that is written
  pub root : IsOnly (look p'.storage.0) 0 (root_page (root_by q g epoch))

-- It was stopped: each pick finds what some pick found before, in the same epoch or the next.
pub record IsStoppedUp {S : Type 0} (look : S → StoreView) (device : S → DeviceState) (g : Counts) (told : List Outside) (s s' : S) : Type 0 where
  pub some : Pick
  pub tried : IsTried g some told false (device s) (device s')
  pub each : (c : Pick) → (b : Pick) × IsSameOrNext (found_on g (look s) b) (found_on g (look s') c)

-- It found the last epoch, and its power went again: each pick finds what some pick found before, in that epoch.
pub record IsUsedUpAt {S : Type 0} (look : S → StoreView) (device : S → DeviceState) (g : Counts) (told : List Outside) (s s' : S) : Type 0 where
  pub called : DeviceState
  pub some : Pick
  pub tried : IsTried g some told true (device s) called
  pub device_is : device s' ≡ powered_off called
  pub each : (c : Pick) → (b : Pick) × (found_on g (look s') c ≡ found_on g (look s) b)
  pub last : (c : Pick) → (found_on g (look s') c).epoch ≡ last_epoch

abbrev pub CameTo : {S : Type 0} → (S → StoreView) → (S → DeviceState) → ServerNo → Counts → List Outside → Slot S → Restarted → Slot S → Type 0
CameTo look device q g told (Down s) (came.Up epoch tids) (Up p') = IsUpAt look device q g told s epoch tids.items p'
CameTo look device q g told (Down s) came.Stopped (Down s') = IsStoppedUp look device g told s s'
CameTo look device q g told (Down s) came.UsedUp (Down s') = IsUsedUpAt look device g told s s'
CameTo look device q g told before restarted after = ⊥

-- a restart, with the faults that its device refused as lines
pub record IsRestart {S : Type 0} (look : S → StoreView) (device : S → DeviceState) (q : ServerNo) (g : Counts) (when : When) (before : Slot S) (restarted : Restarted) (after : Slot S) (lines lines' : List Line) : Type 0 where
  pub told : List Outside
  pub came : CameTo look device q g told before restarted after
  pub lines_are : lines' ≡ lines ++ lines_at when (texts_of_step q told true)

-- ---- what befalls the device

-- what is remembered and what is found stays
abbrev pub IsSameAt : {S : Type 0} → (S → StoreView) → Counts → Slot S → Slot S → Type 0
IsSameAt look g (Up p) (Up p') = (memory_of (view_with look p') ≡ memory_of (view_with look p)) × ((view_with look p').storage.found ≡ (view_with look p).storage.found)
IsSameAt look g (Down s) (Down s') = found_on g (look s') ≡ found_on g (look s)
IsSameAt look g before after = ⊥

-- and the device becomes another so
abbrev pub Befell : {S : Type 0} → (S → StoreView) → (S → DeviceState) → Counts → (DeviceState → DeviceState → Type 0) → Slot S → Slot S → Type 0
Befell look device g becomes (Up p) (Up p') = IsSameAt look g (Up p) (Up p') × becomes (device p.storage.0) (device p'.storage.0)
Befell look device g becomes (Down s) (Down s') = IsSameAt look g (Down s) (Down s') × becomes (device s) (device s')
Befell look device g becomes before after = ⊥

-- ---- while no fault waits

-- none waits, and below a server that is up there is power
abbrev pub IsCalmAt : {S : Type 0} → (S → StoreView) → Slot S → Type 0
IsCalmAt look (Up p) = IsCalm (look p.storage.0)
IsCalmAt look (Down s) = (look s).waiting ≡ []
IsCalmAt look Gone = ⊥

-- then a call is done, the server is up afterwards, and none waits
abbrev pub StaysCalm : {S : Type 0} → (S → StoreView) → Slot S → Bool → Slot S → Type 0
StaysCalm look before done after = IsCalmAt look before → (done ≡ true) × (is_up after ≡ true) × IsCalmAt look after

-- and a restart isn't stopped
abbrev pub is_stopped : Restarted → Bool
is_stopped came.Stopped = true
is_stopped restarted = false

abbrev pub ComesCalm : {S : Type 0} → (S → StoreView) → Slot S → Restarted → Slot S → Type 0
ComesCalm look before restarted after = IsCalmAt look before → (is_stopped restarted ≡ false) × IsCalmAt look after
