-- When each step of the machine may come.
use Rattle.std.specs.Prelude.{◌≡◌, ◌≢◌, ◌⊎◌, ℕ, true, false, List, [], ◌∷◌, take, Option, Some, None, is_some}
use Rattle.jn_base.specs.declared.names.ServerNo.{ServerNo}
use Rattle.jn_base.specs.declared.names.LockUnit.{LockUnit}
use Rattle.jn_base.specs.declared.names.Tid.{Tid}
use Rattle.jn_base.specs.declared.names.WorkId.{WorkId}
use Rattle.jn_order.specs.Files.{change, answer_to}
use Rattle.jn_order.specs.Changes.{and_then}
use Rattle.jn_records.specs.declared.intention.Intention.{Intention}
use Rattle.jn_records.specs.declared.flag.Flag.{Flag}
use Rattle.jn_records.specs.declared.work.WorkHead.{WorkHead}
use Rattle.jn_records.specs.NetLists.{intention_change, list_change}
use Rattle.jn_rows.specs.Stable.{StableState, Prepared, Pick, Change, AddReady, MarkGoing, CarryOut, RemoveWork, AddFlag, DropFlag}
use Rattle.jn_locks.specs.Locks.{is_unit}
use Rattle.jn_order.specs.Answers.{Answered}
use Rattle.jn_system.specs.SmallSteps.Traces.{effect_of, asks}
use Rattle.jn_system.specs.SmallSteps.Held.{HoldsForCommit, HasRead, Writes, ReadsFiles}
use Rattle.jn_lock_rows.specs.Matching.{commit_units}
use Rattle.jn_system.specs.SmallSteps.World.{World, Working, Knowledge}
use Rattle.jn_system.specs.SmallSteps.Transactions.{AllReady, AllOver, AreParts, Knows}
use Rattle.jn_system.specs.SmallSteps.Steps.{Atom, Prepare, Begin, Open, Perform, Lose, End, Learn, NoteReady, NoteOver, Abort, Close, Make, CarryPart, Count, Name, Decide, Narrow, RaiseEpoch, Crash, Restart, server_of, after}

-- ---- in memory

-- the name has the server's epoch and its next ticket
pub record MayBegin (w : World) (T : Tid) : Type 0 where
  pub up : w.up T.server ≡ true
  pub ticket : T.ticket ≡ w.ticket T.server
  pub epoch : (c : Pick) → T.epoch ≡ (w.found T.server c).epoch

pub record MayOpen (w : World) (W : WorkId) (T : Tid) : Type 0 where
  pub up : w.up W.server ≡ true
  pub begun : w.begun T ≡ true
  pub ticket : W.ticket ≡ w.ticket W.server
  pub epoch : (c : Pick) → W.epoch ≡ (w.found W.server c).epoch

-- the locks are granted, and the answer is that of the stable files seen through the work's intentions
pub record MayPerform (w : World) (W : WorkId) (answered : Answered) (a : Working) : Type 0 where
  pub before : Working
  pub is : w.active W ≡ Some before
  pub list : (u : LockUnit) → list_change a.list u ≡ and_then (list_change before.list) (effect_of answered) u
  pub kept : (u : LockUnit) → HasRead before.reads u → HasRead a.reads u
  pub reads : (u : LockUnit) → asks answered u ≡ true → HasRead a.reads u
  pub reads_files : ReadsFiles a.list a.reads
  pub seen : Pick
  pub answers : answered.answer ≡ answer_to answered.op (change (list_change before.list) (w.found W.server seen).files)
  pub no_commit : (c : Pick) (V : WorkId) (q : Prepared) → (w.found W.server c).works V ≡ Some q → (u : LockUnit) → HoldsForCommit q.list u → is_unit a.reads u ≡ false

-- the works are of the transaction, and it had no end before
pub record MayEnd (w : World) (T : Tid) (works : ServerNo → Option WorkId) : Type 0 where
  pub fresh : w.ended T ≡ false
  pub place : (s : ServerNo) (W : WorkId) → works s ≡ Some W → W.server ≡ s
  pub opened : (s : ServerNo) (W : WorkId) → works s ≡ Some W → w.opened W ≡ true
  pub owner : (s : ServerNo) (W : WorkId) → works s ≡ Some W → w.owner W ≡ T

-- what it learns is so
pub record MayLearn (w : World) (T : Tid) (k : Knowledge) : Type 0 where
  pub up : w.up T.server ≡ true
  pub begun : w.begun T ≡ true
  pub not_aborted : w.aborted T ≡ false
  pub knows : Knows w T k

pub record MayBeOver (w : World) (W : WorkId) : Type 0 where
  pub opened : w.opened W ≡ true
  pub not_active : w.active W ≡ None
  pub nowhere : (c : Pick) → (w.found W.server c).works W ≡ None

pub record MayAbort (w : World) (T : Tid) : Type 0 where
  pub up : w.up T.server ≡ true
  pub begun : w.begun T ≡ true
  pub not_named : w.named T ≡ false

-- ---- in the stable states

-- It goes on with these intentions and reads, and is a part of its transaction's end. What it will hold for commit no
-- other work holds, and what another holds for commit it doesn't hold.
pub record MayPrepare (w : World) (x : StableState) (head : WorkHead) (list : List Intention) (reads : List LockUnit) : Type 0 where
  pub active : w.active head.work ≡ Some (record { list = list; reads = reads })
  pub tid : head.tid ≡ w.owner head.work
  pub part : w.part head.tid head.work.server ≡ Some head.work
  pub mine : (V : WorkId) (q : Prepared) → x.works V ≡ Some q → (u : LockUnit) → HoldsForCommit list u → (is_unit (commit_units q.list) u ≡ false) × (is_unit q.reads u ≡ false)
  pub others : (V : WorkId) (q : Prepared) → x.works V ≡ Some q → (u : LockUnit) → HoldsForCommit q.list u → (is_unit (commit_units list) u ≡ false) × (is_unit reads u ≡ false)
  pub no_reader : (V : WorkId) (a : Working) → w.active V ≡ Some a → head.work ≢ V → V.server ≡ head.work.server → (u : LockUnit) → HoldsForCommit list u → is_unit a.reads u ≡ false

-- its transaction has committed, and it is carried out from its first intention
pub record MayGoOn (w : World) (W : WorkId) : Type 0 where
  pub named : w.named (w.owner W) ≡ true
  pub none : w.next W ≡ 0

-- nothing counts as carried out while an intention is
pub record MayCarryOut (w : World) (x : StableState) (W : WorkId) (i : Intention) : Type 0 where
  pub work : Prepared
  pub is : x.works W ≡ Some work
  pub going : work.going ≡ true
  pub none : w.next W ≡ 0
  pub writes : (u : LockUnit) → is_some (intention_change i u) ≡ true → Writes work.list u

-- all its intentions were carried out, or its transaction is aborted
pub record MayRemove (w : World) (x : StableState) (W : WorkId) : Type 0 where
  pub why : (w.named (w.owner W) ≡ true) ⊎ (w.aborted (w.owner W) ≡ true)
  pub done : (p : Prepared) → x.works W ≡ Some p → w.named (w.owner W) ≡ true → (u : LockUnit) (v : Option (List ℕ)) → list_change p.list u ≡ Some v → x.files u ≡ v

-- each of its works was ready
pub record MayFlag (w : World) (flag : Flag) : Type 0 where
  pub begun : w.begun flag.tid ≡ true
  pub ended : w.ended flag.tid ≡ true
  pub not_aborted : w.aborted flag.tid ≡ false
  pub ready : AllReady w flag.tid
  pub works : AreParts w flag.tid flag.works

-- Of a state that may be found. A work is prepared by a step of its own, and a flag that is put alone is of a stop: its
-- server is down.
abbrev pub MayMake : World → StableState → Change → Type 0
MayMake w x (AddReady head list reads) = ⊥
MayMake w x (MarkGoing W) = MayGoOn w W
MayMake w x (CarryOut W i) = MayCarryOut w x W i
MayMake w x (RemoveWork W) = MayRemove w x W
MayMake w x (AddFlag flag) = MayFlag w flag × (w.up flag.tid.server ≡ false)
MayMake w x (DropFlag T) = AllOver w T

-- the count holds in each state
pub record MayCount (w : World) (W : WorkId) (n : ℕ) : Type 0 where
  pub up : w.up W.server ≡ true
  pub counts : (c : Pick) (p : Prepared) → (w.found W.server c).works W ≡ Some p → p.going ≡ true → (u : LockUnit) (v : Option (List ℕ)) → list_change (take n p.list) u ≡ Some v → (w.found W.server c).files u ≡ v

pub record MayName (w : World) (T : Tid) : Type 0 where
  pub flagged : (c : Pick) → is_some ((w.found T.server c).flags T) ≡ true
  pub not_named : w.named T ≡ false

-- one state is found, and each flag in it is named
pub record MayRestart (w : World) (s : ServerNo) (x : StableState) : Type 0 where
  pub down : w.up s ≡ false
  pub one : (c : Pick) → w.found s c ≡ x
  pub all_named : (T : Tid) → is_some (x.flags T) ≡ true → w.named T ≡ true

-- ---- every step

abbrev pub May : Atom → World → Type 0
May (Begin T) w = MayBegin w T
May (Open W T) w = MayOpen w W T
May (Perform W answered a) w = MayPerform w W answered a
May (Lose W) w = Unit {0}
May (Prepare done head list reads) w = (c : Pick) → MayPrepare w (w.found head.work.server c) head list reads
May (End T works) w = MayEnd w T works
May (Learn T k) w = MayLearn w T k
May (NoteReady W) w = (c : Pick) → is_some ((w.found W.server c).works W) ≡ true
May (NoteOver W) w = MayBeOver w W
May (Abort T) w = MayAbort w T
May (Close T) w = Unit {0}
May (Make done step) w = (c : Pick) → MayMake w (w.found (server_of step) c) step
May (CarryPart W i is) w = (c : Pick) → MayCarryOut w (w.found W.server c) W i
May (Count W n) w = MayCount w W n
May (Name T) w = MayName w T
May (Decide flag) w = MayFlag w flag × (w.named flag.tid ≡ false)
May (Narrow s g) w = Unit {0}
May (RaiseEpoch s done) w = w.up s ≡ false
May (Crash s) w = Unit {0}
May (Restart s x) w = MayRestart w s x

-- each of the atoms may come in its turn
abbrev pub MayRun : List Atom → World → Type 0
MayRun [] w = Unit {0}
MayRun (atom ∷ atoms) w = May atom w × MayRun atoms (after atom w)
