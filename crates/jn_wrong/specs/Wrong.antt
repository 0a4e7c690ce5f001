-- Wrong reports, each of a short schedule.
use Rattle.std.specs.Prelude.{◌≤◌, ℕ, List, [], ◌∷◌, ◌++◌}
use Rattle.jn_base.specs.declared.names.Cause.TheVariants as causes
use Rattle.jn_base.specs.declared.names.LockUnit.TheVariants as units
use Rattle.jn_base.specs.declared.device.FaultKind.TheVariants as faults
use Rattle.jn_base.specs.declared.op.Op.TheVariants as ops
use Rattle.jn_base.specs.declared.op.Command.TheVariants as commands
use Rattle.jn_base.specs.declared.names.Resource.{Resource}
use Rattle.jn_schedule.specs.declared.Event.{Event}
use Rattle.jn_schedule.specs.declared.Event.TheVariants as events
use Rattle.jn_report.specs.declared.line.Refusal.TheVariants as refusals
use Rattle.jn_report.specs.declared.line.Text.TheVariants as says
use Rattle.jn_report.specs.declared.line.Line.{Line}
use Rattle.jn_system.specs.WholeSystem.ExampleNames.{s0, s1, c1, tid, file, block}
use Rattle.jn_machine.specs.Chances.{Setup}
use Rattle.jn_machine.specs.Devices.{Devices}
use Rattle.jn_machine.specs.Whole.{IsWhole}
use Rattle.jn_machine.specs.Examples.{block_of, line, at_end, then_settle, makes_file}

-- no whole run of the schedule reports these lines, whatever stands on the images and whatever befalls it
abbrev pub IsNone : List Event → List Line → Type 0
IsNone schedule lines = (x : Setup) (images closing : Devices) → x.servers ≤ 8 → IsWhole x schedule images closing lines → ⊥

-- ---- schedules

-- a client begins, and all settles
abbrev pub begins : List Event
begins = then_settle c1 (commands.Begin s0) []

-- it opens another server, which goes down, and ends
abbrev pub opens_and_loses : List Event
opens_and_loses = then_settle c1 (commands.Begin s0) (then_settle c1 (commands.Open s1) (events.Crash s1 ∷ then_settle c1 commands.End []))

-- it makes a file, and ends
abbrev pub makes_one : List Event
makes_one = makes_file s0 (then_settle c1 commands.End [])

-- it makes a file, reads a block of it, and ends
abbrev pub makes_and_reads : List Event
makes_and_reads = makes_file s0 (then_settle c1 (commands.Do s0 (ops.Read (file 7) (block 0))) (then_settle c1 commands.End []))

-- ---- reports

abbrev pub the_end : List Line
the_end = at_end (says.Down s0) ∷ at_end (says.Up s0 2) ∷ at_end (says.Commits 0) ∷ []

abbrev pub up : Line
up = line 0 (says.Up s0 1)

-- what a run of one server reports in which nothing is answered,
abbrev pub quiet_report : List Line
quiet_report = up ∷ the_end

-- and one in which a client begins
abbrev pub begun_report : List Line
begun_report = up ∷ line 2 (says.Begun c1 1 (tid s0 0)) ∷ the_end

-- an answer stands before its command
abbrev pub answered_too_soon : List Line
answered_too_soon = line 0 (says.Up s0 1) ∷ line 1 (says.Begun c1 3 (tid s0 0)) ∷ the_end

-- a client is told that its transaction lost a server which it refused to open
abbrev pub lost_without_opening : List Line
lost_without_opening = line 0 (says.Up s0 1) ∷ line 0 (says.Up s1 1) ∷ line 2 (says.Begun c1 1 (tid s0 0)) ∷ line 3 (says.Refused c1 3 refusals.AlreadyOpen) ∷ line 5 (says.Down s1)
    ∷ line 7 (says.Aborted c1 6 (tid s0 0) (causes.Lost s1)) ∷ at_end (says.Down s0) ∷ at_end (says.Up s0 2) ∷ at_end (says.Up s1 2) ∷ at_end (says.Commits 0) ∷ []

-- what stands before the end where a file was made
abbrev pub a_file_made : List Line
a_file_made = line 0 (says.Up s0 1) ∷ line 2 (says.Begun c1 1 (tid s0 0)) ∷ line 4 (says.Opened c1 3 s0) ∷ line 6 (says.Did c1 5) ∷ line 8 (says.Commit (tid s0 0)) ∷ line 8 (says.Committed c1 7 (tid s0 0)) ∷ at_end (says.Down s0) ∷ at_end (says.Up s0 2) ∷ []

-- the end leaves the file out
abbrev pub file_left_out : List Line
file_left_out = a_file_made ++ at_end (says.Commits 1) ∷ []

-- the restart names the commit again, and counts it twice
abbrev pub named_again : List Line
named_again = a_file_made ++ at_end (says.Commit (tid s0 0)) ∷ at_end (says.File s0 (file 7)) ∷ at_end (says.Commits 2) ∷ []

-- it aborts for want of these, of which so many are free and so many are needed
abbrev pub full_of : Resource → ℕ → ℕ → List Line
full_of resource free need = line 0 (says.Up s0 1) ∷ line 2 (says.Begun c1 1 (tid s0 0)) ∷ line 4 (says.Opened c1 3 s0) ∷ line 6 (says.Did c1 5) ∷ line 8 (says.Aborted c1 7 (tid s0 0) (causes.Full s0 resource free need)) ∷ the_end

-- it shows the file as locked
abbrev pub file_locked : List Line
file_locked = a_file_made ++ at_end (says.Locked s0 (units.File (file 7)) (tid s0 0)) ∷ at_end (says.Commits 1) ∷ []

-- it prints a page that nobody wrote
abbrev pub page_unwritten : List Line
page_unwritten = a_file_made ++ at_end (says.File s0 (file 7)) ∷ at_end (says.Page s0 (file 7) (block 0) (block_of (104 ∷ []))) ∷ at_end (says.Commits 1) ∷ []

-- a block of a new file is answered with bytes
abbrev pub other_bytes : List Line
other_bytes = line 0 (says.Up s0 1) ∷ line 2 (says.Begun c1 1 (tid s0 0)) ∷ line 4 (says.Opened c1 3 s0) ∷ line 6 (says.Did c1 5) ∷ line 8 (says.Read c1 7 (block_of (104 ∷ [])))
    ∷ line 10 (says.Commit (tid s0 0)) ∷ line 10 (says.Committed c1 9 (tid s0 0)) ∷ at_end (says.Down s0) ∷ at_end (says.Up s0 2) ∷ at_end (says.File s0 (file 7)) ∷ at_end (says.Commits 1) ∷ []

-- a fault is reported as refused though none waited
abbrev pub fault_of_nothing : List Line
fault_of_nothing = line 0 (says.Up s0 1) ∷ line 2 (says.Outside s0 (record { kind = faults.Null; page = 1 })) ∷ line 2 (says.Begun c1 1 (tid s0 0)) ∷ the_end

-- a server is stopped without a stop
abbrev pub stopped_by_nothing : List Line
stopped_by_nothing = line 0 (says.Up s0 1) ∷ line 2 (says.Stopped s0) ∷ at_end (says.Up s0 2) ∷ at_end (says.Commits 0) ∷ []
