-- A run in which a transaction makes a file at one server, which stops while the flag is put, and once more while the
-- work is carried out.
use Rattle.std.specs.Prelude.{Bool, true, false, if◌then◌else◌, List, [], ◌∷◌, ◌++◌, Option, Some, None}
use Rattle.jn_base.specs.declared.names.ServerNo.{ServerNo}
use Rattle.jn_base.specs.declared.names.ClientNo.{ClientNo}
use Rattle.jn_base.specs.declared.names.FileNo.{FileNo}
use Rattle.jn_base.specs.declared.names.LockUnit.{LockUnit}
use Rattle.jn_base.specs.declared.names.LockUnit.TheVariants.{File}
use Rattle.jn_base.specs.declared.names.Tid.{Tid}
use Rattle.jn_base.specs.declared.names.WorkId.{WorkId}
use Rattle.jn_base.specs.declared.op.Op.TheVariants.{Create}
use Rattle.jn_base.specs.declared.op.Answer.TheVariants.{Did}
use Rattle.jn_base.specs.Names.{server_eq, request_of}
use Rattle.jn_order.specs.Files.{no_files, zeros}
use Rattle.jn_records.specs.declared.intention.What.TheVariants.{Fresh}
use Rattle.jn_records.specs.declared.intention.Intention.{Intention}
use Rattle.jn_records.specs.declared.work.WorkHead.{WorkHead}
use Rattle.jn_records.specs.declared.flag.Flag.{Flag}
use Rattle.jn_rows.specs.Stable.{StableState, MarkGoing, CarryOut, RemoveWork, AddFlag, DropFlag, at_work}
use Rattle.jn_order.specs.Answers.{Answered}
use Rattle.jn_system.specs.SmallSteps.World.{World, Working, Voting}
use Rattle.jn_system.specs.SmallSteps.Steps.{Atom, Begin, Open, Perform, Prepare, End, Learn, NoteReady, NoteOver, Close, Make, Count, Name, Narrow, Crash, Restart, always, run, opening_world}

abbrev pub example_server : ServerNo
example_server = record { 0 = 0 }

abbrev pub example_file : FileNo
example_file = record { 0 = 7 }

abbrev pub example_client : ClientNo
example_client = record { 0 = 1 }

abbrev pub example_transaction : Tid
example_transaction = record { server = example_server; epoch = 0; ticket = 0 }

abbrev pub example_work : WorkId
example_work = record { server = example_server; epoch = 0; ticket = 1 }

abbrev pub its_answer : Answered
its_answer = record { op = Create example_file; answer = Did }

abbrev pub its_intention : Intention
its_intention = record { what = Fresh; file = example_file; block = record { 0 = 0 }; bytes = zeros }

abbrev pub its_reads : List LockUnit
its_reads = File example_file ∷ []

abbrev pub its_working : Working
its_working = record { list = its_intention ∷ []; reads = its_reads }

abbrev pub its_head : WorkHead
its_head = record { work = example_work; tid = example_transaction; client = example_client }

abbrev pub its_flag : Flag
its_flag = record { tid = example_transaction; client = example_client; request = request_of 2; works = example_work ∷ [] }

abbrev pub its_works : ServerNo → Option WorkId
its_works s = if server_eq example_server s then Some example_work else None

abbrev pub no_works : WorkId → Bool
no_works W = false

abbrev pub example_opening : World
example_opening = opening_world no_files (λ s. 0)

-- the work is prepared, and voted for
abbrev pub to_the_vote : List Atom
to_the_vote =
    Begin example_transaction
    ∷ Open example_work example_transaction
    ∷ Perform example_work its_answer its_working
    ∷ End example_transaction its_works
    ∷ Learn example_transaction (Voting no_works)
    ∷ Prepare always its_head (its_intention ∷ []) its_reads
    ∷ NoteReady example_work
    ∷ Learn example_transaction (Voting (at_work no_works example_work true))
    ∷ []

-- the server stops while the flag is put, which is then found by the picks that read the first half of page 3, and
-- each pick finds from then on what they find
abbrev pub to_the_flag : List Atom
to_the_flag =
    Crash example_server
    ∷ Make (λ c. c 3) (AddFlag its_flag)
    ∷ Narrow example_server (λ c n. true)
    ∷ Name example_transaction
    ∷ []

abbrev pub found_by_now : List Atom → StableState
found_by_now atoms = (run atoms example_opening).found example_server (λ n. true)

abbrev pub first_found : StableState
first_found = found_by_now (to_the_vote ++ to_the_flag)

-- its intention is carried out, and the server stops again
abbrev pub to_the_second_stop : List Atom
to_the_second_stop =
    Restart example_server first_found
    ∷ Make always (MarkGoing example_work)
    ∷ Make always (CarryOut example_work its_intention)
    ∷ Crash example_server
    ∷ []

abbrev pub second_found : StableState
second_found = found_by_now (to_the_vote ++ (to_the_flag ++ to_the_second_stop))

-- it is carried out again, and all of it goes
abbrev pub to_the_end : List Atom
to_the_end =
    Restart example_server second_found
    ∷ Make always (CarryOut example_work its_intention)
    ∷ Count example_work 1
    ∷ Make always (RemoveWork example_work)
    ∷ NoteOver example_work
    ∷ Close example_transaction
    ∷ Make always (DropFlag example_transaction)
    ∷ []

abbrev pub example_atoms : List Atom
example_atoms = to_the_vote ++ (to_the_flag ++ (to_the_second_stop ++ to_the_end))
