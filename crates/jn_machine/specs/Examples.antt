-- Runs as schedules give them, with their chances written by hand.
use Rattle.std.specs.Prelude.{ℕ, ◌-◌, Bool, false, nat_eq, if◌then◌else◌, List, [], ◌∷◌, ◌++◌, length, replicate, Option, Some, None}
use Rattle.jn_base.specs.declared.names.ServerNo.{ServerNo}
use Rattle.jn_base.specs.declared.names.ClientNo.{ClientNo}
use Rattle.jn_base.specs.declared.names.Tid.{Tid}
use Rattle.jn_base.specs.declared.names.WorkId.{WorkId}
use Rattle.jn_base.specs.declared.device.FaultKind.TheVariants as faults
use Rattle.jn_base.specs.declared.op.Op.TheVariants as ops
use Rattle.jn_base.specs.declared.op.Command.{Command}
use Rattle.jn_base.specs.declared.op.Command.TheVariants as commands
use Rattle.jn_order.specs.Files.{no_files}
use Rattle.jn_schedule.specs.declared.Event.{Event}
use Rattle.jn_schedule.specs.declared.Event.TheVariants as events
use Rattle.jn_report.specs.declared.line.When.TheVariants.{Event as AtEvent, End}
use Rattle.jn_report.specs.declared.line.Text.{Text}
use Rattle.jn_report.specs.declared.line.Line.{Line}
use Rattle.jn_rows.specs.Stable.{Pick, Left}
use Rattle.jn_system.specs.WholeSystem.World.{World, Memory}
use Rattle.jn_system.specs.WholeSystem.Printing.{Printed, print_files}
use Rattle.jn_system.specs.WholeSystem.PrintedLines.{prints_of}
use Rattle.jn_system.specs.WholeSystem.ExampleNames.{s0, s1, c1, c2, tid, file, block}
use Rattle.jn_records.specs.MapPlaces.{no_maps}
use Rattle.jn_machine.specs.Chances.{Setup, Chance, Free, Prints, Recovered}
use Rattle.jn_machine.specs.Tasks.{Task, Acts, State, next_task}
use Rattle.jn_machine.specs.Steps.{after}
use Rattle.jn_machine.specs.Whole.{before}

-- ---- setups and chances

abbrev pub setup : ℕ → Setup
setup servers = record { servers = servers; counts = λ q. record { pool = 32; heads = 16; leaves = 128 }; trace = false }

-- there is room, nothing is stopped and no fault is reported; restarts find no work and no flag
abbrev pub calm : Chance
calm = record { rubbish = λ q. false; found = Free (record { records = 32; heads = 16; pages = 128 }) no_maps; stop = None; told = [] }

-- of file 7 and its block 0
abbrev pub prints_at : ServerNo → World → Option Memory → List Printed
prints_at q w None = []
prints_at q w (Some m) = print_files (prints_of q w m) (λ f. block 0 ∷ []) (file 7 ∷ [])

-- a show finds what there is to print
abbrev pub calm_at : State → Option Task → Chance
calm_at s (Some (Acts (events.Show q))) = record calm { found = Prints (prints_at q s.course.world (s.course.world.memory q)) }
calm_at s task = calm

abbrev pub calmly : ℕ → State → Chance
calmly n s = calm_at s (next_task s)

-- another chance at the step of this number
abbrev pub at_step : ℕ → Chance → (ℕ → State → Chance) → ℕ → State → Chance
at_step k chance chances n s = if nat_eq n k then chance else chances n s

abbrev pub stopped : (Pick → Left) → Chance
stopped made = record calm { stop = Some made }

-- a restart reads first halves, or second ones
abbrev pub finding : Bool → List WorkId → List Tid → Chance
finding first works tids = record calm { found = Recovered (λ c n. first) works tids }

abbrev pub last_of : ℕ → (ℕ → State → Chance) → ℕ → List Event → State
last_of servers chances steps schedule = after (setup servers) chances 0 steps (before (setup servers) schedule no_files (λ q. 0))

-- the report of so many servers, after so many steps
abbrev pub report : ℕ → (ℕ → State → Chance) → ℕ → List Event → List Line
report servers chances steps schedule = (last_of servers chances steps schedule).lines

abbrev pub line : ℕ → Text → Line
line event text = record { when = AtEvent event; text = text }

abbrev pub at_end : Text → Line
at_end text = record { when = End; text = text }

-- the bytes of a block, with zeros behind these; no step looks at them
unfoldable pub block_of : List ℕ → List ℕ
block_of bytes = bytes ++ replicate (448 - length bytes) 0

-- ---- schedules

abbrev pub tells : ClientNo → Command → Event
tells c command = events.Command c command

-- a command, and a settle
abbrev pub then_settle : ClientNo → Command → List Event → List Event
then_settle c command schedule = tells c command ∷ events.Settle ∷ schedule

-- a client makes file 7 at server 0, where this server coordinates
abbrev pub makes_file : ServerNo → List Event → List Event
makes_file coordinator schedule =
    then_settle c1 (commands.Begin coordinator) (then_settle c1 (commands.Open s0) (then_settle c1 (commands.Do s0 (ops.Create (file 7))) schedule))

-- and writes a block of it
abbrev pub writes_block : List ℕ → List Event → List Event
writes_block bytes schedule = makes_file s0 (then_settle c1 (commands.Do s0 (ops.Write (file 7) (block 0) (block_of bytes))) schedule)

abbrev pub one_write : List ℕ → List Event → List Event
one_write bytes schedule = writes_block bytes (then_settle c1 commands.End schedule)

-- ---- one server

-- another client reads the block that the first one writes anew, and gives way
abbrev pub a_reader_gives_way : List Event
a_reader_gives_way =
    one_write (97 ∷ []) (then_settle c1 (commands.Begin s0) (then_settle c1 (commands.Open s0)
    (then_settle c1 (commands.Do s0 (ops.Write (file 7) (block 0) (block_of (98 ∷ [])))) (then_settle c2 (commands.Begin s0)
    (then_settle c2 (commands.Open s0) (then_settle c2 (commands.Do s0 (ops.Read (file 7) (block 0))) (then_settle c1 commands.End
    (events.Timeout s0 (tid s0 4) ∷ events.Again c1 ∷ events.Settle ∷ then_settle c2 commands.End []))))))))

-- the server is stopped while it prepares a work, before this is stable
abbrev pub a_prepare_is_stopped : List Event
a_prepare_is_stopped = makes_file s0 (events.Arm s0 5 faults.StopTorn ∷ then_settle c1 commands.End (events.Restart s0 ∷ events.Settle ∷ []))

-- two restarts are stopped, the second one at the put of the root, at this call
abbrev pub restarts_are_stopped : Event → List Event
restarts_are_stopped arm = one_write (104 ∷ 105 ∷ []) (events.Crash s0 ∷ events.Arm s0 3 faults.StopAfter ∷ events.Restart s0 ∷ arm ∷ events.Restart s0 ∷ events.Restart s0 ∷ [])

-- decays and puts that miss their page
abbrev pub pages_fail : List Event
pages_fail =
    events.Decay s0 5 ∷ events.Decay s0 182 ∷ makes_file s0 (events.Arm s0 1 faults.Null ∷ events.Arm s0 3 faults.Null
    ∷ events.Arm s0 5 faults.Null ∷ events.Arm s0 7 faults.Null ∷ then_settle c1 commands.End [])

-- what is refused
abbrev pub events_are_refused : List Event
events_are_refused =
    events.Restart s0 ∷ events.Crash s0 ∷ events.Show s0 ∷ events.Deliver 9 ∷ events.Timeout s0 (tid s0 0) ∷ events.Restart s0
    ∷ events.Timeout s0 (tid s0 0) ∷ events.Decay s0 354 ∷ []

-- ---- two servers

-- server 0 is stopped at a put of a ready record
abbrev pub half_prepared : List Event → List Event
half_prepared schedule = makes_file s1 (events.Arm s0 7 faults.StopBefore ∷ then_settle c1 commands.End schedule)

-- server 1 is stopped at a put of a flag
abbrev pub half_committed : List Event → List Event
half_committed schedule = makes_file s1 (events.Arm s1 3 faults.StopBefore ∷ then_settle c1 commands.End schedule)
