-- What is stable at one server, how it changes, and what may be found of it after a stop.
use Rattle.std.specs.Prelude.{◌≡◌, ℕ, ◌+◌, Bool, true, false, List, [], ◌∷◌, take, slice_get, Option, Some, None, if◌then◌else◌}
use Rattle.jn_base.specs.declared.names.BlockNo.{BlockNo}
use Rattle.jn_base.specs.declared.names.ClientNo.{ClientNo}
use Rattle.jn_base.specs.declared.names.LockUnit.{LockUnit}
use Rattle.jn_base.specs.declared.names.RequestNo.{RequestNo}
use Rattle.jn_base.specs.declared.names.Tid.{Tid}
use Rattle.jn_base.specs.declared.names.WorkId.{WorkId}
use Rattle.jn_base.specs.Names.{tid_eq, work_eq}
use Rattle.jn_order.specs.Files.{Files, Change as FilesChange, change, nothing}
use Rattle.jn_records.specs.declared.intention.Intention.{Intention}
use Rattle.jn_records.specs.declared.intention.What.{What}
use Rattle.jn_records.specs.declared.intention.What.TheVariants.{Cut}
use Rattle.jn_records.specs.declared.work.WorkHead.{WorkHead}
use Rattle.jn_records.specs.declared.flag.Flag.{Flag}
use Rattle.jn_records.specs.NetLists.{intention_change, among}

-- ---- the state

-- a prepared work: its transaction, its client, its intentions with the blocks of the puts, and what it read
pub record Prepared : Type 0 where
  pub tid : Tid
  pub client : ClientNo
  pub list : List Intention
  pub reads : List LockUnit
  -- whether its transaction is known to have committed
  pub going : Bool

-- a committed transaction, until every work of it is done and its client knows the outcome: its client, the request that
-- ended it, its works
pub record FlagState : Type 0 where
  pub client : ClientNo
  pub request : RequestNo
  pub works : List WorkId

-- works and flags by name, as no order of them is stable
pub record StableState : Type 0 where
  pub epoch : ℕ
  pub files : Files
  pub works : WorkId → Option Prepared
  pub flags : Tid → Option FlagState

abbrev pub ready_work : WorkHead → List Intention → List LockUnit → Prepared
ready_work head list reads = record { tid = head.tid; client = head.client; list = list; reads = reads; going = false }

abbrev pub flag_state : Flag → FlagState
flag_state flag = record { client = flag.client; request = flag.request; works = flag.works }

abbrev pub is_ready : Option Prepared → Bool
is_ready None = false
is_ready (Some p) = if p.going then false else true

abbrev pub is_going : Option Prepared → Bool
is_going None = false
is_going (Some p) = p.going

-- ---- its changes

pub data Change : Type 0 where
  -- a work is prepared, with all its intentions
  AddReady : WorkHead → List Intention → List LockUnit → Change
  MarkGoing : WorkId → Change
  -- an intention of a going work is carried out
  CarryOut : WorkId → Intention → Change
  -- a going work is forgotten, or a ready one dropped
  RemoveWork : WorkId → Change
  AddFlag : Flag → Change
  DropFlag : Tid → Change

abbrev pub at_work : {A : Type 0} → (WorkId → A) → WorkId → A → WorkId → A
at_work f w x v = if work_eq w v then x else f v

abbrev pub at_tid : {A : Type 0} → (Tid → A) → Tid → A → Tid → A
at_tid f t x u = if tid_eq t u then x else f u

abbrev pub gone_on : Option Prepared → Option Prepared
gone_on None = None
gone_on (Some p) = Some (record p { going = true })

abbrev pub made_by : Change → StableState → StableState
made_by (AddReady head list reads) x = record x { works = at_work x.works head.work (Some (ready_work head list reads)) }
made_by (MarkGoing w) x = record x { works = at_work x.works w (gone_on (x.works w)) }
made_by (CarryOut w i) x = record x { files = change (intention_change i) x.files }
made_by (RemoveWork w) x = record x { works = at_work x.works w None }
made_by (AddFlag flag) x = record x { flags = at_tid x.flags flag.tid (Some (flag_state flag)) }
made_by (DropFlag t) x = record x { flags = at_tid x.flags t None }

-- the first of the changes first
abbrev pub made_all : List Change → StableState → StableState
made_all [] x = x
made_all (c ∷ cs) x = made_all cs (made_by c x)

-- how many intentions of each work a server has carried out, where it had carried out so many
abbrev pub next_by : Change → (WorkId → ℕ) → WorkId → ℕ
next_by (CarryOut w i) next = at_work next w (next w + 1)
next_by (RemoveWork w) next = at_work next w 0
next_by step next = next

abbrev pub next_after : List Change → (WorkId → ℕ) → WorkId → ℕ
next_after [] next = next
next_after (c ∷ cs) next = next_after cs (next_by c next)

-- What a stop has left of changes: how many are made whole, from the first on, and of the next one, where it carries out a cut,
-- which blocks are gone.
pub record Left : Type 0 where
  pub whole : ℕ
  pub gone : Option (BlockNo → Bool)

abbrev pub whole_only : ℕ → Left
whole_only n = record { whole = n; gone = None }

-- a cut alone is found in part
abbrev pub part_by : (BlockNo → Bool) → What → FilesChange → FilesChange
part_by gone Cut c = among gone c
part_by gone _ c = nothing

abbrev pub part_of : (BlockNo → Bool) → Option Change → FilesChange
part_of gone (Some (CarryOut w i)) = part_by gone i.what (intention_change i)
part_of gone _ = nothing

abbrev pub parted : Option (BlockNo → Bool) → Option Change → Files → Files
parted None step files = files
parted (Some gone) step files = change (part_of gone step) files

-- works, flags and epoch are those after the whole changes
abbrev pub left_of : Left → List Change → StableState → StableState
left_of l changes x = record (made_all (take l.whole changes) x) { files = parted l.gone (slice_get changes l.whole) (made_all (take l.whole changes) x).files }

-- what a stop may leave
pub record IsStopState (x : StableState) (changes : List Change) (y : StableState) : Type 0 where
  pub left : Left
  pub is_after : y ≡ left_of left changes x

-- the changes that may be found in part
abbrev pub is_cut : What → Bool
is_cut Cut = true
is_cut _ = false

abbrev pub carries_cut : Change → Bool
carries_cut (CarryOut w i) = is_cut i.what
carries_cut _ = false

abbrev pub carried_at : (LockUnit → Bool) → Intention → StableState → StableState
carried_at is i x = record x { files = λ u. if is u then change (intention_change i) x.files u else x.files u }

-- ---- what may be found

-- which half is read of each stable page
abbrev pub Pick : Type 0
Pick = ℕ → Bool

-- what is found by a pick, where all picks find one state
abbrev pub stable : (Pick → StableState) → StableState
stable found = found (λ n. false)

-- all picks find one state: so it is while no call has been stopped
abbrev pub IsUp : (Pick → StableState) → Type 0
IsUp found = (c : Pick) → found c ≡ stable found

-- a call with one change: it is done, and at a stop it is whole or not at all, or of a cut some blocks are gone, by each pick
pub record Changed (x : StableState) (step : Change) (ok : Bool) (found : Pick → StableState) : Type 0 where
  pub done : ok ≡ true → (c : Pick) → found c ≡ made_by step x
  pub stop : ok ≡ false → (c : Pick) → IsStopState x (step ∷ []) (found c)

-- a call with these changes in turn: they are done, and at a stop some of them, by each pick
pub record ChangedAll (x : StableState) (steps : List Change) (ok : Bool) (found : Pick → StableState) : Type 0 where
  pub done : ok ≡ true → (c : Pick) → found c ≡ made_all steps x
  pub stop : ok ≡ false → (c : Pick) → IsStopState x steps (found c)

-- a call without a change, stopped or not
abbrev pub Unchanged : StableState → (Pick → StableState) → Type 0
Unchanged x found = (c : Pick) → found c ≡ x
