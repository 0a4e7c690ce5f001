-- What holds between any two steps of the machine.
use Rattle.jn_system.proofs.Common.{ServerNo, Files, World, replay, Working, Unknown, IsSerial, LockUnit, Tid, WorkId, list_change, StableState, Prepared, FlagState, Pick, is_unit, asked, effects, FilesAnswer, commit_units, HoldsForCommit, HasRead, ReadsFiles, AllReady, AllOver, AreParts, Knows}
use Rattle.std.specs.Prelude.{◌≡◌, ◌≢◌, ◌⊎◌, true, false, List, take, Option, Some, None, is_some, ℕ, ◌≤◌, ◌<◌, Bool, []}

-- the files of a server after the commits so far
abbrev pub base : World → ServerNo → Files
base w s = replay w.opening w.history s

-- ---- each stable state that may be found at a server; none looks at the states found by other picks

-- a prepared work of a state that may be found
abbrev pub IsPrepared : World → ServerNo → StableState → WorkId → Prepared → Type 0
IsPrepared w s x W p = record {
  place : W.server ≡ s;
  opened : w.opened W ≡ true;
  tid : p.tid ≡ w.owner W;
  part : w.part (w.owner W) s ≡ Some W;
  -- its intentions do what it did
  list : (u : LockUnit) → list_change p.list u ≡ effects (w.trace W) u;
  reads : (u : LockUnit) → asked (w.trace W) u ≡ true → HasRead p.reads u;
  reads_files : ReadsFiles p.list p.reads;
  not_over : w.over W ≡ false;
  -- it doesn't go on in memory
  not_active : w.active W ≡ None;
  going : p.going ≡ true → w.named (w.owner W) ≡ true;
  -- what was carried out since its server came up
  next : p.going ≡ true → (u : LockUnit) (v : Option (List ℕ)) → list_change (take (w.next W) p.list) u ≡ Some v → x.files u ≡ v;
  -- until it is named, its answers are those of the commits so far
  agrees : w.named (w.owner W) ≡ false → FilesAnswer (base w s) (w.trace W);
  -- once it is named, the commits so far have left what it will write
  written : w.named (w.owner W) ≡ true → (u : LockUnit) (v : Option (List ℕ)) → list_change p.list u ≡ Some v → base w s u ≡ v;
}

-- a flag of a state that may be found
abbrev pub HasFlag : World → ServerNo → Tid → FlagState → Type 0
HasFlag w s T flag = record {
  place : T.server ≡ s;
  begun : w.begun T ≡ true;
  ended : w.ended T ≡ true;
  ready : AllReady w T;
  works : AreParts w T flag.works;
}

abbrev pub MayBeFound : World → ServerNo → StableState → Type 0
MayBeFound w s x = record {
  prepared : (W : WorkId) (p : Prepared) → x.works W ≡ Some p → IsPrepared w s x W p;
  -- what one prepared work holds for commit, no other holds
  apart : (W V : WorkId) (p q : Prepared) → x.works W ≡ Some p → x.works V ≡ Some q → W ≢ V → (u : LockUnit) → HoldsForCommit p.list u → (is_unit (commit_units q.list) u ≡ false) × (is_unit q.reads u ≡ false);
  -- a register that no named work will write is as the commits so far leave it
  disk : (u : LockUnit) → ((W : WorkId) (p : Prepared) → x.works W ≡ Some p → w.named (w.owner W) ≡ true → is_some (list_change p.list u) ≡ false) → base w s u ≡ x.files u;
  -- no work that goes on has read what a prepared one holds for commit
  no_reader : (W V : WorkId) (a : Working) (q : Prepared) → w.active W ≡ Some a → x.works V ≡ Some q → W.server ≡ s → (u : LockUnit) → HoldsForCommit q.list u → is_unit a.reads u ≡ false;
  -- what was ready is prepared, until its transaction is aborted or named
  ready : (W : WorkId) → W.server ≡ s → w.was_ready W ≡ true → w.aborted (w.owner W) ≡ false → w.named (w.owner W) ≡ false → is_some (x.works W) ≡ true;
  flag : (T : Tid) (flag : FlagState) → x.flags T ≡ Some flag → HasFlag w s T flag;
  aborted : (T : Tid) → T.server ≡ s → w.aborted T ≡ true → x.flags T ≡ None;
  -- the flag of a transaction that has committed stays until all its works are over
  named : (T : Tid) → T.server ≡ s → w.named T ≡ true → (is_some (x.flags T) ≡ true) ⊎ AllOver w T;
}

-- ---- the works that go on

abbrev pub IsActive : World → WorkId → Working → Type 0
IsActive w W a = record {
  up : w.up W.server ≡ true;
  opened : w.opened W ≡ true;
  -- its intentions do what it did
  list : (u : LockUnit) → list_change a.list u ≡ effects (w.trace W) u;
  reads : (u : LockUnit) → asked (w.trace W) u ≡ true → HasRead a.reads u;
  reads_files : ReadsFiles a.list a.reads;
  not_over : w.over W ≡ false;
  not_ready : w.was_ready W ≡ false;
  -- its answers are those of the commits so far
  agrees : FilesAnswer (base w W.server) (w.trace W);
}

abbrev pub ActiveFact : World → Type 0
ActiveFact w = (W : WorkId) (a : Working) → w.active W ≡ Some a → IsActive w W a

-- ---- the transactions, and what their coordinators know

-- the works of an end
abbrev pub IsPart : World → Tid → ServerNo → WorkId → Type 0
IsPart w T s W = record {
  place : W.server ≡ s;
  opened : w.opened W ≡ true;
  owner : w.owner W ≡ T;
  ended : w.ended T ≡ true;
}

abbrev pub PartFact : World → Type 0
PartFact w = (T : Tid) (s : ServerNo) (W : WorkId) → w.part T s ≡ Some W → IsPart w T s W

abbrev pub IsAborted : World → Tid → Type 0
IsAborted w T = record {
  begun : w.begun T ≡ true;
  not_named : w.named T ≡ false;
  unknown : w.knowledge T ≡ Unknown;
}

abbrev pub AbortedFact : World → Type 0
AbortedFact w = (T : Tid) → w.aborted T ≡ true → IsAborted w T

abbrev pub IsNamed : World → Tid → Type 0
IsNamed w T = record {
  begun : w.begun T ≡ true;
  ended : w.ended T ≡ true;
  ready : AllReady w T;
}

abbrev pub NamedFact : World → Type 0
NamedFact w = (T : Tid) → w.named T ≡ true → IsNamed w T

abbrev pub KnowledgeFact : World → Type 0
KnowledgeFact w = (T : Tid) → w.up T.server ≡ true → w.begun T ≡ true → Knows w T (w.knowledge T)

-- ---- names, each given once, and flags

-- A name of this epoch and ticket isn't ahead of its server, which is up or not, has a next ticket and may be found in
-- an epoch: its epoch is no later, and while the server is up in it, its ticket is below the next one.
abbrev pub IsGiven : Bool → ℕ → ℕ → ℕ → ℕ → Type 0
IsGiven up next now epoch ticket = (epoch ≤ now) × (up ≡ true → epoch ≡ now → ticket < next)

pub record NamesFact (w : World) : Type 0 where
  pub works : (W : WorkId) (c : Pick) → w.opened W ≡ true → IsGiven (w.up W.server) (w.ticket W.server) (w.found W.server c).epoch W.epoch W.ticket
  pub tids : (T : Tid) (c : Pick) → w.begun T ≡ true → IsGiven (w.up T.server) (w.ticket T.server) (w.found T.server c).epoch T.epoch T.ticket

-- where a flag may be found, its transaction has committed
abbrev pub FlagFact : World → Type 0
FlagFact w = (s : ServerNo) (c : Pick) (T : Tid) → w.up s ≡ true → is_some ((w.found s c).flags T) ≡ true → w.named T ≡ true

-- ---- all of it

-- nothing is known of what was not made, and a server that is down has nothing in memory
abbrev pub Rest : World → Type 0
Rest w = record {
  no_trace : (W : WorkId) → w.opened W ≡ false → w.trace W ≡ [];
  of_begun : (W : WorkId) → w.opened W ≡ true → w.begun (w.owner W) ≡ true;
  no_end : (T : Tid) → w.ended T ≡ false → (s : ServerNo) → w.part T s ≡ None;
  down : (W : WorkId) → w.up W.server ≡ false → w.next W ≡ 0;
  down_knowledge : (T : Tid) → w.up T.server ≡ false → w.knowledge T ≡ Unknown;
  not_begun : (T : Tid) → w.begun T ≡ false → w.knowledge T ≡ Unknown;
  part_of : (W : WorkId) → w.was_ready W ≡ true → w.part (w.owner W) W.server ≡ Some W;
  over : (W : WorkId) → w.over W ≡ true → (w.opened W ≡ true) × (w.active W ≡ None);
}

pub record CoreFacts (w : World) : Type 0 where
  pub serial : IsSerial w.opening w.history
  pub states : (s : ServerNo) (c : Pick) → MayBeFound w s (w.found s c)
  pub active : ActiveFact w
  pub parts : PartFact w
  pub aborted : AbortedFact w
  pub named : NamedFact w
  pub knowledge : KnowledgeFact w
  pub rest : Rest w

pub record Invariant (w : World) : Type 0 where
  pub core : CoreFacts w
  pub names : NamesFact w
  pub flags : FlagFact w
