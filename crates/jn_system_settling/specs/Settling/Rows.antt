-- Runs of the whole system as schedules give them.
use Rattle.std.specs.Prelude.{ℕ, Bool, true, false, nat_eq, if◌then◌else◌, List, [], ◌∷◌, ◌++◌, filter, Some, None}
use Rattle.jn_schedule.specs.Grammar.{filled}
use Rattle.jn_records.specs.MapPlaces.{no_maps}
use Rattle.jn_base.specs.declared.names.ServerNo.{ServerNo}
use Rattle.jn_base.specs.declared.names.ClientNo.{ClientNo}
use Rattle.jn_base.specs.declared.names.Tid.{Tid}
use Rattle.jn_base.specs.declared.names.WorkId.{WorkId}
use Rattle.jn_base.specs.declared.op.Op.TheVariants as ops
use Rattle.jn_base.specs.declared.op.Command.{Command}
use Rattle.jn_base.specs.declared.op.Command.TheVariants.{Begin, Open, Do, End, Abort}
use Rattle.jn_order.specs.Files.{no_files}
use Rattle.jn_report.specs.declared.line.Line.{Line}
use Rattle.jn_report.specs.declared.line.Text.{Text}
use Rattle.jn_report.specs.declared.line.Text.TheVariants as says
use Rattle.jn_rows.specs.Stable.{Pick, whole_only, Left}
use Rattle.jn_system.specs.WholeSystem.Servers.{Room}
use Rattle.jn_system.specs.WholeSystem.Steps.{Tell, Again, Restart, Timeout}
use Rattle.jn_system.specs.WholeSystem.Course.{opening_course, Course}
use Rattle.jn_system.specs.WholeSystem.Settle.{Chance}
use Rattle.jn_system_settling.specs.Settling.Events.{Event, Does, Settles, Told, told_by}
use Rattle.jn_system.specs.WholeSystem.ExampleNames.{s0, s1, c1, c2, tid, file, block, the_work, half_made}

-- ---- events

-- there is room, and nothing is stopped
abbrev pub much : Room
much = record { free = record { records = 32; pages = 128; heads = 16 }; maps = no_maps; rubbish = false }

abbrev pub calm : Chance
calm = record { room = much; stop = None }

abbrev pub enough : ℕ
enough = 60

abbrev pub settle : Event
settle = Settles (record { first = λ n. calm; second = λ n. calm; steps = enough })

-- a settle whose step of this number, from 0, is stopped
abbrev pub settle_with_stop : ℕ → (Pick → Left) → Event
settle_with_stop k made = Settles (record { first = λ n. if nat_eq n k then record { room = much; stop = Some made } else calm; second = λ n. calm; steps = enough })

abbrev pub tells : ClientNo → Command → Event
tells c command = Does (Tell c command ∷ [])

-- a command, and a settle
abbrev pub then_settle : ClientNo → Command → List Event → List Event
then_settle c command events = tells c command ∷ settle ∷ events

-- an event that does nothing yet, as where a fault is to strike later, in a settle that says so
abbrev pub no_event : Event
no_event = Does []

-- a restart reads what this pick does, where these are the works and flags that it finds
abbrev pub restarts_by : Pick → ServerNo → List WorkId → List Tid → Event
restarts_by pick s works tids = Does (Restart s pick works tids ∷ [])

-- it reads the first halves
abbrev pub restarts : ServerNo → List WorkId → List Tid → Event
restarts s works tids = restarts_by (λ n. true) s works tids

-- what a run of these events on so many servers reports
abbrev pub start : ℕ → Course
start servers = opening_course servers no_files (λ s. 1)

abbrev pub told : ℕ → List Event → Told
told servers events = told_by servers events (start servers)

abbrev pub report : ℕ → List Event → List Line
report servers events = (told servers events).report

-- ---- one client and one server

-- a file is made and a block of it is written, with a settle after each command
abbrev pub one_write : List ℕ → List Event
one_write bytes =
    then_settle c1 (Begin s0) (then_settle c1 (Open s0) (then_settle c1 (Do s0 (ops.Create (file 7)))
    (then_settle c1 (Do s0 (ops.Write (file 7) (block 0) bytes)) (then_settle c1 End []))))

-- the server is stopped at a prepare, before its work is stable
abbrev pub stopped_at_prepare : List Event
stopped_at_prepare =
    then_settle c1 (Begin s0) (then_settle c1 (Open s0) (then_settle c1 (Do s0 (ops.Create (file 7)))
    (no_event ∷ tells c1 End ∷ settle_with_stop 1 (λ c. whole_only 0) ∷ restarts s0 [] [] ∷ settle ∷ [])))

-- ---- two clients and one server

-- one reads the block that the other has written anew, so the other waits
abbrev pub two_at_a_block : List Event
two_at_a_block =
    one_write (filled (97 ∷ [])) ++ then_settle c1 (Begin s0) (then_settle c1 (Open s0)
    (then_settle c1 (Do s0 (ops.Write (file 7) (block 0) (filled (98 ∷ [])))) (then_settle c2 (Begin s0)
    (then_settle c2 (Open s0) (then_settle c2 (Do s0 (ops.Read (file 7) (block 0))) (then_settle c1 End []))))))

-- and then the reader has had its time
abbrev pub a_reader_breaks : List Event
a_reader_breaks = two_at_a_block ++ Does (Timeout s0 (tid s0 4) ∷ []) ∷ Does (Again c1 ∷ []) ∷ settle ∷ then_settle c2 End []

-- ---- two servers

-- two clients wait for one another's reads, until one gives up
abbrev pub two_wait : List Event
two_wait =
    tells c1 (Begin s0) ∷ then_settle c2 (Begin s0) (tells c1 (Open s0) ∷ then_settle c2 (Open s0)
    (tells c1 (Open s1) ∷ then_settle c2 (Open s1)
    (tells c1 (Do s0 (ops.Read (file 7) (block 0))) ∷ then_settle c2 (Do s1 (ops.Read (file 8) (block 0)))
    (tells c1 (Do s1 (ops.Create (file 8))) ∷ then_settle c2 (Do s0 (ops.Create (file 7)))
    (tells c1 End ∷ then_settle c2 End (then_settle c1 Abort []))))))

-- a file is made at one server, and the other one is to commit it
abbrev pub made_apart : List Event → List Event
made_apart events =
    then_settle c1 (Begin s1) (then_settle c1 (Open s0) (then_settle c1 (Do s0 (ops.Create (file 7))) (no_event ∷ tells c1 End ∷ events)))

-- While that half is bad a restart reads the other one, and doesn't find it. A decay and a revival change nothing that is kept.
abbrev pub restarts_without : ServerNo → List WorkId → List Tid → Event
restarts_without s works tids = restarts_by (λ n. false) s works tids

abbrev pub half_prepared : List Event
half_prepared = made_apart (settle_with_stop 1 half_made ∷ restarts s0 (the_work ∷ []) [] ∷ settle ∷ [])

abbrev pub not_prepared : List Event
not_prepared = made_apart (settle_with_stop 1 half_made ∷ no_event ∷ restarts_without s0 [] [] ∷ settle ∷ [])

-- the half goes bad, and is good again before the restart
abbrev pub revived_and_prepared : List Event
revived_and_prepared = made_apart (settle_with_stop 1 half_made ∷ no_event ∷ no_event ∷ restarts s0 (the_work ∷ []) [] ∷ settle ∷ [])

abbrev pub half_committed : List Event
half_committed = made_apart (settle_with_stop 2 half_made ∷ restarts s1 [] (tid s1 0 ∷ []) ∷ settle ∷ [])

abbrev pub not_committed : List Event
not_committed = made_apart (settle_with_stop 2 half_made ∷ no_event ∷ restarts_without s1 [] [] ∷ settle ∷ [])

-- while the coordinator is down another client goes on at the other server
abbrev pub goes_on_beside : List Event
goes_on_beside = made_apart (settle_with_stop 2 half_made ∷ then_settle c2 (Begin s0) (then_settle c2 (Open s0)
    (then_settle c2 (Do s0 (ops.Read (file 7) (block 0))) (then_settle c2 (Do s0 (ops.Create (file 8))) (then_settle c2 End
    (restarts s1 [] (tid s1 0 ∷ []) ∷ settle ∷ []))))))

-- ---- lines

abbrev pub is_more : Text → Bool
is_more (says.Lost k) = false
is_more (says.Ignored k) = false
is_more text = true

-- the lines that report no message that was lost or ignored
abbrev pub tells_more : Line → Bool
tells_more line = is_more line.text

abbrev pub without_stale : List Line → List Line
without_stale lines = filter tells_more lines
