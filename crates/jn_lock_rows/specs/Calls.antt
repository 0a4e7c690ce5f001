-- What the lock table's answers are to the rows.
use Rattle.std.specs.Prelude.{◌≡◌, if◌then◌else◌, List, [], ◌∷◌, ◌++◌, Option, Some, None, Bool}
use Rattle.jn_base.specs.declared.names.WorkId.{WorkId}
use Rattle.jn_base.specs.declared.names.Tid.{Tid}
use Rattle.jn_base.specs.declared.names.LockUnit.{LockUnit}
use Rattle.jn_base.specs.declared.op.Op.{Op}
use Rattle.jn_base.specs.Names.{work_eq}
use Rattle.jn_locks.specs.declared.words.Conflict.{Conflict}
use Rattle.jn_locks.specs.declared.words.LockFault.{LockFault}
use Rattle.jn_locks.specs.declared.words.LockFault.TheVariants.{Conflict as Conflicts, Memory as NoMemory}
use Rattle.jn_locks.specs.declared.words.Mode.TheVariants.{Read, IntentionWrite}
use Rattle.jn_locks.specs.declared.words.Broken.{Broken as BrokenAt}
use Rattle.jn_msgs.specs.declared.message.Note.{Note}
use Rattle.jn_msgs.specs.declared.message.Note.TheVariants.{Broke}
use Rattle.jn_rows.specs.declared.worker.Work.{Work}
use Rattle.jn_rows.specs.declared.worker.Phase.{Phase}
use Rattle.jn_rows.specs.declared.worker.ActiveWork.{ActiveWork}
use Rattle.jn_rows.specs.declared.worker.Phase.TheVariants.{Active, Broken, Prepared as Stored}
use Rattle.jn_rows.specs.Worker.{Wanted, work_at, with_phase, conflict, breaks_at, after_grant, break_notes, with_units, units_for, wants_of}
use Rattle.jn_lock_rows.specs.declared.grants.Refused.{Refused}
use Rattle.jn_lock_rows.specs.declared.grants.Refused.TheVariants.{Held, Memory}

-- a conflict of the lock table is that of the rows
pub record FindsConflict (works : List Work) (W : WorkId) (wants : List Wanted) (c : Conflict) : Type 0 where
  pub holder : Work
  pub found : work_at c.holder works ≡ Some holder
  pub is : conflict W wants works ≡ Some (c.unit, holder.tid)

-- the works that break, each with its unit
abbrev pub broken_if : WorkId → Option LockUnit → List BrokenAt
broken_if V None = []
broken_if V (Some u) = (record { work = V; unit = u }) ∷ []

abbrev pub broken_list : WorkId → List Wanted → List Work → List BrokenAt
broken_list W wants [] = []
broken_list W wants (v ∷ vs) = broken_if v.name (breaks_at W wants v) ++ broken_list W wants vs

-- the works once each of these is broken by T, one by one
abbrev pub after_breaks : Tid → List BrokenAt → List Work → List Work
after_breaks T [] works = works
after_breaks T (b ∷ bs) works = after_breaks T bs (with_phase b.work (Broken b.unit T) works)

abbrev pub note_if : Tid → LockUnit → Option Work → List Note
note_if T u None = []
note_if T u (Some v) = Broke v.tid u T ∷ []

-- and the notes of it
abbrev pub notes_of : Tid → List BrokenAt → List Work → List Note
notes_of T [] works = []
notes_of T (b ∷ bs) works = note_if T b.unit (work_at b.work works) ++ notes_of T bs works

-- what a grant breaks is what the rows break
pub record BreaksAs (works : List Work) (T : Tid) (W : WorkId) (wants : List Wanted) (bs : List BrokenAt) : Type 0 where
  pub free : conflict W wants works ≡ None
  pub broken : bs ≡ broken_list W wants works
  pub after : after_breaks T bs works ≡ after_grant T W wants works
  pub notes : notes_of T bs works ≡ break_notes T W wants works
  -- the works may be reported once they are broken
  pub notes_after : (phase : Phase) → notes_of T bs (with_phase W phase (after_grant T W wants works)) ≡ break_notes T W wants works

-- What a grant to T's work did to the works, and the notes of it.
pub record Grants (before : List Work) (T : Tid) (W : WorkId) (wants : List Wanted) (phase : Phase) (bs : List BrokenAt) (now : List Work) : Type 0 where
  pub free : conflict W wants before ≡ None
  pub works : now ≡ with_phase W phase (after_grant T W wants before)
  pub notes : notes_of T bs now ≡ break_notes T W wants before

-- why nothing is granted: the rows' conflict; want of memory is free
abbrev pub IsRefused : List Work → WorkId → List Wanted → Refused → Type 0
IsRefused works W wants (Held u T) = conflict W wants works ≡ Some (u, T)
IsRefused works W wants Memory = Unit {0}

-- what a fault of the lock table is reported as
abbrev pub held_as : LockUnit → Option Work → Refused
held_as u (Some v) = Held u v.tid
held_as u None = Memory

abbrev pub refused_by : List Work → LockFault → Refused
refused_by works (Conflicts c) = held_as c.unit (work_at c.holder works)
refused_by works NoMemory = Memory

-- an active work of T that will be so once what an operation wants is granted
pub record Becomes (works : List Work) (T : Tid) (W : WorkId) (op : Op) (fit : Bool) (next : ActiveWork) : Type 0 where
  pub work : Work
  pub found : work_at W works ≡ Some work
  pub tid : work.tid ≡ T
  pub active : ActiveWork
  pub phase : work.phase ≡ Active active
  pub reads : next.reads ≡ with_units (units_for Read (wants_of op fit)) active.reads
  pub writes : next.writes ≡ with_units (units_for IntentionWrite (wants_of op fit)) active.writes
  pub vulnerable : next.vulnerable ≡ active.vulnerable

-- an active work of T
pub record IsActive (works : List Work) (T : Tid) (W : WorkId) (a : ActiveWork) : Type 0 where
  pub work : Work
  pub found : work_at W works ≡ Some work
  pub tid : work.tid ≡ T
  pub phase : work.phase ≡ Active a

-- an active work's phase once it is stored
abbrev pub stored : Phase → Phase
stored (Active a) = Stored (record { reads = a.reads; writes = a.writes })
stored phase = phase

-- a work's phase changes
abbrev pub rephased : WorkId → (Phase → Phase) → List Work → List Work
rephased W f [] = []
rephased W f (w ∷ ws) = if work_eq w.name W then (record w { phase = f w.phase }) ∷ ws else w ∷ rephased W f ws

-- the works as a grant leaves them, where this work has the phase that it asked for
abbrev pub granted : Work → List Wanted → Phase → List Work → List Work
granted w wants phase works = with_phase w.name phase (after_grant w.tid w.name wants works)
