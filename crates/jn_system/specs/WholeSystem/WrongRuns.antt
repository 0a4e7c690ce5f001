-- Runs of the machine with one wrong row each, after which the commits are not in order: so the theorem says something.
-- Server 1 has the coordinator, and server 0 the worker.
use Rattle.std.specs.Prelude.{ℕ, false, if◌then◌else◌, List, [], ◌∷◌, ◌++◌, Option, Some, None}
use Rattle.jn_base.specs.declared.names.ServerNo.{ServerNo}
use Rattle.jn_base.specs.declared.names.ClientNo.{ClientNo}
use Rattle.jn_base.specs.declared.names.FileNo.{FileNo}
use Rattle.jn_base.specs.declared.names.LockUnit.TheVariants.{File}
use Rattle.jn_base.specs.declared.names.Tid.{Tid}
use Rattle.jn_base.specs.declared.names.WorkId.{WorkId}
use Rattle.jn_base.specs.declared.op.Op.TheVariants.{Create, Read}
use Rattle.jn_base.specs.declared.op.Answer.{Answer}
use Rattle.jn_base.specs.declared.op.Answer.TheVariants.{Did, NoFile, Read as Found}
use Rattle.jn_base.specs.Names.{server_eq, request_of}
use Rattle.jn_order.specs.Files.{no_files, zeros}
use Rattle.jn_records.specs.declared.intention.Intention.{Intention}
use Rattle.jn_records.specs.declared.intention.What.TheVariants.{Fresh}
use Rattle.jn_records.specs.declared.flag.Flag.{Flag}
use Rattle.jn_rows.specs.Stable.{StableState, MarkGoing, CarryOut, RemoveWork, DropFlag}
use Rattle.jn_system.specs.SmallSteps.World.{World}
use Rattle.jn_system.specs.SmallSteps.Steps.{Atom, Begin, Open, Perform, Prepare, End, NoteReady, Abort, Close, Make, Name, Decide, Crash, Restart, always, run, opening_world}

abbrev pub worker : ServerNo
worker = record { 0 = 0 }

abbrev pub coordinator : ServerNo
coordinator = record { 0 = 1 }

abbrev pub client : ClientNo
client = record { 0 = 1 }

abbrev pub transaction : ℕ → Tid
transaction n = record { server = coordinator; epoch = 0; ticket = n }

abbrev pub work : ℕ → WorkId
work n = record { server = worker; epoch = 0; ticket = n }

abbrev pub file : ℕ → FileNo
file n = record { 0 = n }

abbrev pub fresh : ℕ → Intention
fresh f = record { what = Fresh; file = file f; block = record { 0 = 0 }; bytes = zeros }

abbrev pub of_work : ℕ → ServerNo → Option WorkId
of_work n s = if server_eq worker s then Some (work n) else None

abbrev pub flag : ℕ → Flag
flag n = record { tid = transaction n; client = client; request = request_of 2; works = work n ∷ [] }

abbrev pub begins : ℕ → List Atom
begins n = Begin (transaction n) ∷ Open (work n) (transaction n) ∷ []

-- file f is made, and the work's reads are as they were
abbrev pub creates : ℕ → ℕ → Atom
creates n f = Perform (work n) (record { op = Create (file f); answer = Did }) (record { list = fresh f ∷ []; reads = File (file f) ∷ [] })

-- block 0 of file f is read, with this answer
abbrev pub reads : ℕ → ℕ → Answer → Atom
reads n f answer = Perform (work n) (record { op = Read (file f) (record { 0 = 0 }); answer = answer }) (record { list = []; reads = File (file f) ∷ [] })

-- its client ends it, and its work, which makes file f, is prepared
abbrev pub prepares : ℕ → ℕ → List Atom
prepares n f =
    End (transaction n) (of_work n)
    ∷ Prepare always (record { work = work n; tid = transaction n; client = client }) (fresh f ∷ []) (File (file f) ∷ [])
    ∷ NoteReady (work n)
    ∷ []

-- it goes on, and its intention is carried out
abbrev pub carries : ℕ → ℕ → List Atom
carries n f = Make always (MarkGoing (work n)) ∷ Make always (CarryOut (work n) (fresh f)) ∷ Make always (RemoveWork (work n)) ∷ []

abbrev pub start : World
start = opening_world no_files (λ s. 0)

-- a transaction makes file 7, and its work is ready
abbrev pub to_the_vote : List Atom
to_the_vote = begins 1 ++ (creates 1 7 ∷ prepares 1 7)

abbrev pub found_at : ServerNo → List Atom → StableState
found_at s atoms = (run atoms start).found s (λ n. false)

-- ---- one wrong row each

-- the commit is named before the flag is put, and the coordinator stops between
abbrev pub named_before_the_flag : List Atom
named_before_the_flag = to_the_vote ++ (Name (transaction 1) ∷ Crash coordinator ∷ Restart coordinator (found_at coordinator to_the_vote)
    ∷ Abort (transaction 1) ∷ Make always (RemoveWork (work 1)) ∷ [])

-- a restart drops a ready work
abbrev pub ready_work_dropped : List Atom
ready_work_dropped = to_the_vote ++ (Crash worker ∷ Make always (RemoveWork (work 1)) ∷ Restart worker (found_at worker []) ∷ Decide (flag 1) ∷ [])

-- a restart keeps a work that has no ready record, and votes for it
abbrev pub kept_without_a_record : List Atom
kept_without_a_record = begins 1 ++ (creates 1 7 ∷ End (transaction 1) (of_work 1) ∷ Crash worker ∷ Restart worker (found_at worker []) ∷ NoteReady (work 1) ∷ Decide (flag 1) ∷ [])

-- a work of a committed transaction is dropped
abbrev pub committed_work_dropped : List Atom
committed_work_dropped = to_the_vote ++ (Decide (flag 1) ∷ Make always (RemoveWork (work 1)) ∷ [])

-- a timeout breaks a prepared work
abbrev pub prepared_work_broken : List Atom
prepared_work_broken = to_the_vote ++ (Make always (RemoveWork (work 1)) ∷ Decide (flag 1) ∷ [])

-- an old Begin counts as thanks after a restart: the flag goes, and then the work is dropped
abbrev pub old_begin_thanks : List Atom
old_begin_thanks = to_the_vote ++ (Decide (flag 1) ∷ Crash coordinator ∷ Restart coordinator (found_at coordinator (to_the_vote ++ Decide (flag 1) ∷ []))
    ∷ Close (transaction 1) ∷ Make always (DropFlag (transaction 1)) ∷ Make always (RemoveWork (work 1)) ∷ [])

-- a going work is forgotten before its last intention
abbrev pub forgotten_too_soon : List Atom
forgotten_too_soon = to_the_vote ++ (Decide (flag 1) ∷ Make always (MarkGoing (work 1)) ∷ Make always (RemoveWork (work 1)) ∷ [])

-- Two transactions each read that the other's file isn't there, and then make their own: what one has read is free once it
-- is prepared, or after a restart.
abbrev pub one_reads_and_prepares : List Atom
one_reads_and_prepares = begins 1 ++ (reads 1 8 NoFile ∷ creates 1 7 ∷ prepares 1 7)

abbrev pub the_other_too : List Atom
the_other_too = begins 2 ++ (reads 2 7 NoFile ∷ creates 2 8 ∷ prepares 2 8 ++ (Decide (flag 1) ∷ Decide (flag 2) ∷ []))

abbrev pub reads_freed_at_prepare : List Atom
reads_freed_at_prepare = one_reads_and_prepares ++ the_other_too

abbrev pub reads_not_rebuilt : List Atom
reads_not_rebuilt = one_reads_and_prepares ++ (Crash worker ∷ Restart worker (found_at worker one_reads_and_prepares) ∷ the_other_too)

-- the second transaction reads what the first has made, and is named first
abbrev pub named_in_another_order : List Atom
named_in_another_order = to_the_vote ++ (carries 1 7 ++ (begins 2 ++ (reads 2 7 (Found zeros) ∷ creates 2 8 ∷ prepares 2 8 ++ (Decide (flag 2) ∷ Decide (flag 1) ∷ []))))
