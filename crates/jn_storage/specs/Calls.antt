-- What each call of a server's storage does.
use Rattle.std.specs.Prelude.{◌≡◌, ◌≢◌, ◌⊎◌, ◌≤◌, ◌<◌, ◌+◌, ◌-◌, ℕ, Bool, true, false, nat_lt, if◌then◌else◌, List, [], ◌∷◌, map, All, slice_get, length, Option, Some, None, is_some, Result, Ok, Err, is_ok, nat_eq, count_by}
use Rattle.std.specs.List.{list_all, list_any}
use Rattle.jn_base.specs.declared.device.Stopped.{Stopped}
use Rattle.jn_base.specs.declared.names.FileNo.{FileNo}
use Rattle.jn_base.specs.declared.names.BlockNo.{BlockNo}
use Rattle.jn_base.specs.declared.names.LockUnit.{LockUnit}
use Rattle.jn_base.specs.declared.names.LockUnit.TheVariants.{Block}
use Rattle.jn_base.specs.declared.names.Short.{Short}
use Rattle.jn_base.specs.declared.names.Tid.{Tid}
use Rattle.jn_base.specs.declared.names.WorkId.{WorkId}
use Rattle.jn_base.specs.Names.{tid_eq, work_eq}
use Rattle.jn_order.specs.Files.{Files}
use Rattle.jn_records.specs.declared.flag.Flag.{Flag}
use Rattle.jn_records.specs.declared.intention.Intention.{Intention}
use Rattle.jn_records.specs.declared.intention.StoredIntention.{StoredIntention}
use Rattle.jn_records.specs.declared.intention.What.{What}
use Rattle.jn_records.specs.declared.net_list.Need.{Need}
use Rattle.jn_records.specs.declared.work.WorkHead.{WorkHead}
use Rattle.jn_records.specs.declared.work.WorkState.{WorkState}
use Rattle.jn_records.specs.Intentions.{intention_has_page}
use Rattle.jn_records.specs.MapPlaces.{lacks_map, lacking, places_after}
use Rattle.jn_records.specs.NetLists.{is_put, is_put_intention}
use Rattle.jn_store.specs.Store.{StoreView, IsSamePage, IsStop}
use Rattle.jn_store.specs.DeviceCalls.{cleaned_get_calls, put_calls}
use Rattle.jn_rows.specs.Stable.{StableState, Prepared, Pick, stable, AddReady, MarkGoing, CarryOut, RemoveWork, AddFlag, DropFlag, made_by, Changed, Unchanged, at_work, flag_state, is_ready, is_going}
use Rattle.jn_storage.specs.declared.faults.PrepareFault.{PrepareFault}
use Rattle.jn_storage.specs.declared.faults.PrepareFault.TheVariants.{Records, Pages, Heads, Stopped as Stops, Memory}
use Rattle.jn_storage.specs.declared.faults.PromiseFault.{PromiseFault}
use Rattle.jn_storage.specs.declared.faults.PromiseFault.TheVariants.{Short as Shortage}
use Rattle.jn_storage.specs.Listing.{is_in, IsListing, AtMost}
use Rattle.jn_storage.specs.Orderly.{IsOrderly, IsGiven, file_there, needed, list_of, IsLoadable}
use Rattle.jn_storage.specs.Storage.{Accounts, StorageView, StorageLater, IsServing, is_stored}
use Rattle.jn_storage.specs.DeviceCalls.{prepare_calls, step_calls}
use Rattle.jn_index.specs.Least.{NextAfter}

-- the state, while no call has been stopped
abbrev pub state : StorageView → StableState
state v = stable v.found

-- What each call that reaches the device keeps, stopped or not. It makes so many device calls at most,
-- and is answered Stopped only where the count of stops rose.
pub record Called (v : StorageView) (most : ℕ) (ok : Bool) (w : StorageView) : Type 0 where
  pub later : StorageLater v w
  pub calls : w.store.calls ≤ v.store.calls + most
  pub loadable : (c : Pick) → IsLoadable v.accounts.server v.accounts.heads (w.found c)
  pub no_stop : ok ≡ true → w.store.stops ≡ v.store.stops
  pub serving : ok ≡ true → IsServing w
  pub stop : ok ≡ false → IsStop v.store w.store

-- ---- reading

-- the least file above another, or the least of all
abbrev pub NextFile : Files → Option FileNo → Option FileNo → Type 0
NextFile files after next = NextAfter (λ (f : FileNo). f.0) (file_there files) after next

-- and the least stored block of a file
abbrev pub NextBlock : Files → FileNo → Option BlockNo → Option BlockNo → Type 0
NextBlock files f after next = NextAfter (λ (p : BlockNo). p.0) (λ p. is_stored files (Block f p)) after next

-- a block is read, or none is stored there
pub record BlockRead (v : StorageView) (f : FileNo) (p : BlockNo) (answer : Result (Option (List ℕ)) Stopped) (w : StorageView) : Type 0 where
  pub called : Called v cleaned_get_calls (is_ok answer) w
  pub found : (block : Option (List ℕ)) → answer ≡ Ok block → block ≡ (state v).files (Block f p)
  pub unchanged : Unchanged (state v) w.found
  pub same : is_ok answer ≡ true → w.accounts ≡ v.accounts

-- an intention without its bytes
abbrev pub outline : Intention → What × FileNo × BlockNo
outline i = (i.what, i.file, i.block)

abbrev pub outline_of : StoredIntention → What × FileNo × BlockNo
outline_of i = (i.what, i.file, i.block)

-- a prepared work as it is listed: each put names a data page, and nothing else does
pub record IsTold (v : StorageView) (s : WorkState) : Type 0 where
  pub work : Prepared
  pub stands : (state v).works s.head.work ≡ Some work
  pub tid : s.head.tid ≡ work.tid
  pub client : s.head.client ≡ work.client
  pub list : map outline_of s.list ≡ map outline work.list
  pub addresses : list_all intention_has_page s.list ≡ true
  pub reads : s.reads ≡ work.reads
  pub going : s.going ≡ work.going
  pub next : s.next ≡ v.accounts.next s.head.work

abbrev pub name_of : WorkState → WorkId
name_of s = s.head.work

-- each prepared work once, in no order that is promised
pub record TellsWorks (v : StorageView) (list : List WorkState) : Type 0 where
  pub all : IsListing work_eq (λ w. is_some ((state v).works w)) (map name_of list)
  pub each : All (IsTold v) list

abbrev pub tid_of : Flag → Tid
tid_of flag = flag.tid

-- each flag once, in no order that is promised
pub record TellsFlags (v : StorageView) (list : List Flag) : Type 0 where
  pub all : IsListing tid_eq (λ t. is_some ((state v).flags t)) (map tid_of list)
  pub each : All (λ flag. (state v).flags flag.tid ≡ Some (flag_state flag)) list

-- ---- works

abbrev pub short_of : ℕ → ℕ → Short
short_of free need = record { free = free; need = need }

-- the first kind of which less is free than is needed, where so many are free and not promised
abbrev pub first_short : ℕ → ℕ → ℕ → Need → Option PrepareFault
first_short records pages heads need =
    if nat_lt records need.records then Some (Records (short_of records need.records)) else if nat_lt pages need.pages then Some (Pages (short_of pages need.pages)) else if nat_lt heads need.heads then Some (Heads (short_of heads need.heads)) else None

abbrev pub shortage : Accounts → Need → Option PrepareFault
shortage a need = first_short (a.free_records - a.promised_records) a.free_pages (a.free_heads - a.promised_heads) need

-- whether a preparation reached the device: it wasn't refused, and had memory
abbrev pub reached : {A : Type 0} → Result A PrepareFault → Bool
reached (Ok x) = true
reached (Err Stops) = true
reached (Err _) = false

abbrev pub is_shortage : PrepareFault → Bool
is_shortage Stops = false
is_shortage Memory = false
is_shortage _ = true

-- the work's pages are taken: a map page for each intention that lacks one
abbrev pub with_work : Accounts → WorkId → Need → List Bool → Accounts
with_work a work need lacks = record a {
  free_records = a.free_records - need.records;
  free_pages = a.free_pages - need.pages;
  promised_heads = a.promised_heads + need.heads;
  next = at_work a.next work 0;
  held = at_work a.held work need.pages;
  supplied = at_work a.supplied work lacks;
}

-- at most so many pages have other candidates: those of all others stay
pub record PutsFew (n : ℕ) (v w : StoreView) : Type 0 where
  pub pages : List ℕ
  pub few : length pages ≤ n
  pub others : (j : ℕ) → j < v.count → list_any (nat_eq j) pages ≡ false → IsSamePage v w j

-- A work is prepared, whole or not at all. It names a map page exactly at the puts that lack one in their turn. Where
-- something is short, or there is no memory for it, nothing changed and no device call was made.
pub record WorkPrepared {A : Type 0} (v : StorageView) (head : WorkHead) (list : List Intention) (reads : List LockUnit) (answer : Result A PrepareFault) (w : StorageView) : Type 0 where
  pub refused : (fault : PrepareFault) → answer ≡ Err fault → is_shortage fault ≡ true → shortage v.accounts (needed v.accounts.maps (state v) list) ≡ Some fault
  pub enough : reached answer ≡ true → shortage v.accounts (needed v.accounts.maps (state v) list) ≡ None
  pub kept : reached answer ≡ false → w ≡ v
  pub called : reached answer ≡ true → Called v prepare_calls (is_ok answer) w
  -- no more pages change than there are blocks of puts, records of intentions, and the ready record
  pub written : reached answer ≡ true → PutsFew (count_by is_put_intention list + length list + 1) v.store w.store
  pub change : reached answer ≡ true → Changed (state v) (AddReady head list reads) (is_ok answer) w.found
  pub accounts : is_ok answer ≡ true → w.accounts ≡ with_work v.accounts head.work (needed v.accounts.maps (state v) list) (lacking v.accounts.maps list)

pub record MarkedGoing (v : StorageView) (work : WorkId) (ok : Bool) (w : StorageView) : Type 0 where
  pub called : Called v put_calls ok w
  pub change : Changed (state v) (MarkGoing work) ok w.found
  pub accounts : ok ≡ true → w.accounts ≡ v.accounts

-- the intention of a work that is to be carried out next
abbrev pub next_of : StorageView → WorkId → Option Intention
next_of v work = slice_get (list_of (state v) work) (v.accounts.next work)

-- What carrying out an intention keeps, and which map pages there are then. The heads that are free follow from the files,
-- the pages from the files, the map pages and what is held.
pub record CountsOn (a : Accounts) (work : WorkId) (i : Intention) (b : Accounts) : Type 0 where
  pub next : b.next ≡ at_work a.next work (a.next work + 1)
  pub free_records : b.free_records ≡ a.free_records
  pub promised_records : b.promised_records ≡ a.promised_records
  pub rubbish : b.rubbish ≡ a.rubbish
  -- no page is taken
  pub free_pages : a.free_pages ≤ b.free_pages
  -- what another work holds stays held
  pub others_hold : (w : WorkId) → work_eq work w ≡ false → b.held w ≡ a.held w
  pub supplied : b.supplied ≡ a.supplied
  pub maps : b.maps ≡ places_after i a.maps

-- A put's page is its block's from then on, and its work holds it no more; so it is with the map page of a put that lacks
-- one. The page that it replaces is free.
pub record PageTaken (a : Accounts) (work : WorkId) (i : Intention) (replaces : Bool) (b : Accounts) : Type 0 where
  pub held : b.held work + 1 + (if lacks_map a.maps i then 1 else 0) ≡ a.held work
  pub free_pages : b.free_pages ≡ a.free_pages + (if replaces then 1 else 0)

-- a put that was carried out before a recovery: its page is its block's already
pub record PageStands (x : StableState) (i : Intention) (a : Accounts) (work : WorkId) (b : Accounts) : Type 0 where
  pub stands : x.files (Block i.file i.block) ≡ Some i.bytes
  pub held : b.held work ≡ a.held work
  pub free_pages : b.free_pages ≡ a.free_pages

-- One intention is carried out; a stop may leave a cut in part. It is answered false, and nothing is done, exactly where
-- none is left.
pub record StepApplied (v : StorageView) (work : WorkId) (answer : Result Bool Stopped) (w : StorageView) : Type 0 where
  pub called : Called v step_calls (is_ok answer) w
  pub none_left : next_of v work ≡ None → (answer ≡ Ok false) × (w ≡ v)
  pub carried : (i : Intention) → next_of v work ≡ Some i → Changed (state v) (CarryOut work i) (is_ok answer) w.found
  pub done : (i : Intention) → next_of v work ≡ Some i → is_ok answer ≡ true → (answer ≡ Ok true) × CountsOn v.accounts work i w.accounts
  pub put : (i : Intention) → next_of v work ≡ Some i → is_put i.what ≡ true → is_ok answer ≡ true
      → PageTaken v.accounts work i (is_stored (state v).files (Block i.file i.block)) w.accounts ⊎ PageStands (state v) i v.accounts work w.accounts

-- what is free once a work is removed: the records of its intentions are rubbish
pub record CountsOff (a : Accounts) (work : WorkId) (intentions : ℕ) (b : Accounts) : Type 0 where
  pub free_records : b.free_records ≡ a.free_records + 1
  pub promised_records : b.promised_records ≡ a.promised_records
  pub free_heads : b.free_heads ≡ a.free_heads
  pub free_pages : b.free_pages ≡ a.free_pages + a.held work
  pub next : b.next ≡ at_work a.next work 0
  pub held : b.held ≡ at_work a.held work 0
  pub supplied : b.supplied ≡ at_work a.supplied work []
  pub maps : b.maps ≡ a.maps
  pub rubbish_more : length b.rubbish ≡ length a.rubbish + intentions
  pub rubbish_names : (n : WorkId) → is_in work_eq n b.rubbish ≡ true → is_in work_eq n (work ∷ a.rubbish) ≡ true

-- a work is forgotten or dropped
pub record WorkRemoved (v : StorageView) (work : WorkId) (ok : Bool) (w : StorageView) : Type 0 where
  pub called : Called v put_calls ok w
  pub change : Changed (state v) (RemoveWork work) ok w.found
  pub accounts : ok ≡ true → CountsOff v.accounts work (length (list_of (state v) work)) w.accounts

-- one rubbish record less
pub record CountsErased (a b : Accounts) : Type 0 where
  pub others : b ≡ record a { free_records = a.free_records + 1; rubbish = b.rubbish }
  pub rubbish_less : length b.rubbish + 1 ≡ length a.rubbish
  pub rubbish_names : (n : WorkId) → is_in work_eq n b.rubbish ≡ true → is_in work_eq n a.rubbish ≡ true

-- One rubbish record is erased, which is no change of the stable state. It is answered false, and nothing
-- is done, exactly where there is none.
pub record RecordErased (v : StorageView) (answer : Result Bool Stopped) (w : StorageView) : Type 0 where
  pub called : Called v put_calls (is_ok answer) w
  pub unchanged : Unchanged (state v) w.found
  pub none : v.accounts.rubbish ≡ [] → (answer ≡ Ok false) × (w ≡ v)
  pub one : v.accounts.rubbish ≢ [] → is_ok answer ≡ true → (answer ≡ Ok true) × CountsErased v.accounts w.accounts

-- ---- flags

abbrev pub with_promises : Accounts → ℕ → Accounts
with_promises a n = record a { promised_records = n }

-- A record is promised for a flag, and there is memory for the flag; else nothing changed.
pub record FlagPromised {A : Type 0} (v : StorageView) (answer : Result A PromiseFault) (w : StorageView) : Type 0 where
  pub enough : is_ok answer ≡ true → v.accounts.promised_records < v.accounts.free_records
  pub promised : is_ok answer ≡ true → w ≡ record v { accounts = with_promises v.accounts (v.accounts.promised_records + 1) }
  pub refused : (short : Short) → answer ≡ Err (Shortage short) → (short ≡ short_of (v.accounts.free_records - v.accounts.promised_records) 1) × (v.accounts.free_records ≤ v.accounts.promised_records)
  pub kept : is_ok answer ≡ false → w ≡ v
  pub serving : IsServing w

-- a promise is given back
pub record PromiseReleased (v w : StorageView) : Type 0 where
  pub released : w ≡ record v { accounts = with_promises v.accounts (v.accounts.promised_records - 1) }
  pub serving : IsServing w

-- a flag of a transaction of this server has its room: a promise, and fewer than 64 flags
pub record MayPutFlag (v : StorageView) (flag : Flag) : Type 0 where
  pub promise : 0 < v.accounts.promised_records
  pub works_fit : length flag.works ≤ 8
  pub room : AtMost 63 tid_eq (λ t. is_some ((state v).flags t))
  pub new : (state v).flags flag.tid ≡ None
  pub given : IsGiven v.accounts.server (state v).epoch flag.tid.server flag.tid.epoch

-- a flag is put, which uses up its promise
pub record FlagPut (v : StorageView) (flag : Flag) (ok : Bool) (w : StorageView) : Type 0 where
  pub called : Called v put_calls ok w
  pub change : Changed (state v) (AddFlag flag) ok w.found
  pub accounts : ok ≡ true → w.accounts ≡ record v.accounts { free_records = v.accounts.free_records - 1; promised_records = v.accounts.promised_records - 1 }

pub record FlagDropped (v : StorageView) (t : Tid) (ok : Bool) (w : StorageView) : Type 0 where
  pub called : Called v put_calls ok w
  pub change : Changed (state v) (DropFlag t) ok w.found
  pub accounts : ok ≡ true → w.accounts ≡ record v.accounts { free_records = v.accounts.free_records + 1 }

-- ---- what a caller has to show

-- a work that may be prepared: its name is new, and the state with it is orderly
pub record MayPrepare (v : StorageView) (head : WorkHead) (list : List Intention) (reads : List LockUnit) : Type 0 where
  pub new : (state v).works head.work ≡ None
  pub no_rubbish : is_in work_eq head.work v.accounts.rubbish ≡ false
  pub orderly : IsOrderly v.accounts.server (made_by (AddReady head list reads) (state v))

abbrev pub IsReady : StorageView → WorkId → Type 0
IsReady v work = is_ready ((state v).works work) ≡ true

abbrev pub IsGoing : StorageView → WorkId → Type 0
IsGoing v work = is_going ((state v).works work) ≡ true

-- a going work whose intentions were all carried out
pub record IsCarriedOut (v : StorageView) (work : WorkId) : Type 0 where
  pub going : IsGoing v work
  pub none_left : next_of v work ≡ None

abbrev pub HasFlag : StorageView → Tid → Type 0
HasFlag v t = is_some ((state v).flags t) ≡ true
