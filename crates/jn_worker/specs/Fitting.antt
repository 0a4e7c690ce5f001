-- When a worker's table and its storage fit.
use Rattle.std.specs.Prelude.{◌≡◌, ◌≤◌, Bool, true, false, not, ◌-◌, ◌∷◌, [], List, length, Option, Some, None, is_some}
use Rattle.std.specs.List.{list_all}
use Rattle.jn_base.specs.declared.names.LockUnit.{LockUnit}
use Rattle.jn_base.specs.declared.names.Tid.{Tid}
use Rattle.jn_base.specs.declared.names.Tickets.{Tickets}
use Rattle.jn_base.specs.declared.names.WorkId.{WorkId}
use Rattle.jn_base.specs.Names.{work_eq}
use Rattle.jn_base.specs.Limits.{most_works}
use Rattle.jn_order.specs.Files.{Files}
use Rattle.jn_records.specs.declared.intention.Intention.{Intention}
use Rattle.jn_locks.specs.Locks.{is_unit, work_before}
use Rattle.jn_rows.specs.declared.worker.Work.{Work}
use Rattle.jn_rows.specs.declared.worker.Phase.{Phase}
use Rattle.jn_rows.specs.declared.worker.Phase.TheVariants.{Active, Prepared as Stored}
use Rattle.jn_rows.specs.declared.worker.ActiveWork.{ActiveWork}
use Rattle.jn_rows.specs.declared.worker.PreparedWork.{PreparedWork}
use Rattle.jn_rows.specs.Stable.{Prepared, is_going}
use Rattle.jn_rows.specs.Worker.{WorkerTable, WorkStorage, work_at, name_from}
use Rattle.jn_lock_rows.specs.Matching.{is_after}
use Rattle.jn_storage.specs.Listing.{is_in}
use Rattle.jn_storage.specs.Orderly.{IsGiven, IsPrepared, unit_of}
use Rattle.jn_storage.specs.Storage.{StorageView, IsServing}
use Rattle.jn_storage.specs.Calls.{state}

-- a worker: its live works, and the names of those whose transactions are known to have committed
pub record WorkerView : Type 0 where
  pub table : WorkerTable
  pub going : List WorkId

abbrev pub is_none : {A : Type 0} → List A → Bool
is_none [] = true
is_none (x ∷ xs) = false

-- what the rows see of a storage
abbrev pub seen : StorageView → WorkStorage
seen v = record {
  state = state v;
  free = record { records = v.accounts.free_records - v.accounts.promised_records; heads = v.accounts.free_heads - v.accounts.promised_heads; pages = v.accounts.free_pages };
  maps = v.accounts.maps;
  next = v.accounts.next;
  rubbish = not (is_none v.accounts.rubbish);
}

-- each intention's unit is among these
abbrev pub are_written : List LockUnit → List Intention → Bool
are_written units list = list_all (λ (i : Intention). is_unit units (unit_of i)) list

-- a prepared work is stored, with what it read; it writes no more than it holds for commit
pub record IsStored (q : PreparedWork) (T : Tid) (p : Prepared) : Type 0 where
  pub tid : p.tid ≡ T
  pub reads : p.reads ≡ q.reads
  pub writes : are_written q.writes p.list ≡ true

-- whether a work is prepared
abbrev pub is_stored : Phase → Bool
is_stored (Stored q) = true
is_stored phase = false

-- whether a work is active
abbrev pub is_active_phase : Phase → Bool
is_active_phase (Active a) = true
is_active_phase phase = false

abbrev pub is_active : Option Work → Bool
is_active None = false
is_active (Some w) = is_active_phase w.phase

abbrev pub PhaseFits : Phase → Tid → Option Prepared → Type 0
PhaseFits (Stored q) T (Some p) = IsStored q T p
PhaseFits (Stored q) T None = ⊥
PhaseFits phase T None = Unit {0}
PhaseFits phase T (Some p) = ⊥

-- a work is prepared exactly where it is stored
abbrev pub WorkFits : Option Work → Option Prepared → Type 0
WorkFits (Some w) p = PhaseFits w.phase w.tid p
WorkFits None None = Unit {0}
WorkFits None (Some p) = ⊥

-- an active work could be prepared, as to its list and what it read
pub record ActiveFits (files : Files) (a : ActiveWork) : Type 0 where
  pub prepared : IsPrepared files a.list a.reads
  pub writes : are_written a.writes a.list ≡ true

abbrev pub ListFits : Files → Phase → Type 0
ListFits files (Active a) = ActiveFits files a
ListFits files phase = Unit {0}

abbrev pub WorkListFits : Files → Option Work → Type 0
WorkListFits files None = Unit {0}
WorkListFits files (Some w) = ListFits files w.phase

-- the name is one that the server has given, and no rubbish record's
pub record NameFits (v : StorageView) (W : WorkId) : Type 0 where
  pub given : IsGiven v.accounts.server (state v).epoch W.server W.epoch
  pub no_rubbish : is_in work_eq W v.accounts.rubbish ≡ false

-- the works and the storage fit: no more are live than a server may have
pub record Fits (t : WorkerView) (v : StorageView) : Type 0 where
  pub serving : IsServing v
  pub few : length t.table ≤ most_works
  pub stored : (W : WorkId) → WorkFits (work_at W t.table) ((state v).works W)
  pub going : (W : WorkId) → is_in work_eq W t.going ≡ is_going ((state v).works W)
  pub lists : (W : WorkId) → WorkListFits (state v).files (work_at W t.table)
  pub names : (W : WorkId) → is_some (work_at W t.table) ≡ true → NameFits v W

-- the next ticket is after all names that are live or rubbish
pub record TicketsFit (t : WorkerTable) (v : StorageView) (k : Tickets) : Type 0 where
  pub server : k.server ≡ v.accounts.server
  pub epoch : k.epoch ≡ (state v).epoch
  pub live : is_after (name_from k) t ≡ true
  pub rubbish : (W : WorkId) → is_in work_eq W v.accounts.rubbish ≡ true → work_before W (name_from k) ≡ true
