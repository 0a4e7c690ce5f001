-- Schedules and their reports, each the only one from new images.
use Rattle.std.specs.Prelude.{List, [], ◌∷◌, ◌++◌}
use Rattle.jn_base.specs.declared.names.Party.TheVariants.{Client, Server}
use Rattle.jn_base.specs.declared.names.MsgKind.TheVariants as kinds
use Rattle.jn_base.specs.declared.names.Cause.TheVariants.{Requested}
use Rattle.jn_base.specs.declared.op.Op.TheVariants as ops
use Rattle.jn_base.specs.declared.op.Command.TheVariants as commands
use Rattle.jn_order.specs.Files.{zeros}
use Rattle.jn_schedule.specs.declared.Event.{Event}
use Rattle.jn_schedule.specs.declared.Event.TheVariants as events
use Rattle.jn_report.specs.declared.line.Text.TheVariants as says
use Rattle.jn_report.specs.declared.line.Line.{Line}
use Rattle.jn_system.specs.WholeSystem.ExampleNames.{s0, s1, c1, c2, tid, file, block}
use Rattle.jn_machine.specs.Examples.{line, at_end, then_settle, makes_file}
use Rattle.jn_wrong.specs.Wrong.{begins, the_end}

-- a client begins, and each message has a line
abbrev pub traced_report : List Line
traced_report = line 0 (says.Up s0 1) ∷ line 1 (says.Message 0 (Client c1) (Server s0) kinds.Begin) ∷ line 2 (says.Message 1 (Server s0) (Client c1) kinds.Begun) ∷ line 2 (says.Begun c1 1 (tid s0 0)) ∷ the_end

-- it settles once more
abbrev pub settles_twice : List Event
settles_twice = begins ++ events.Settle ∷ []

-- two clients begin, and one aborts
abbrev pub two_begin : List Event
two_begin = then_settle c1 (commands.Begin s0) (then_settle c2 (commands.Begin s0) (then_settle c1 commands.Abort []))

abbrev pub two_report : List Line
two_report = line 0 (says.Up s0 1) ∷ line 2 (says.Begun c1 1 (tid s0 0)) ∷ line 4 (says.Begun c2 3 (tid s0 1)) ∷ line 6 (says.Aborted c1 5 (tid s0 0) Requested) ∷ the_end

-- a client makes a file, reads a block of it, and aborts
abbrev pub reads_and_aborts : List Event
reads_and_aborts = makes_file s0 (then_settle c1 (commands.Do s0 (ops.Read (file 7) (block 0))) (then_settle c1 commands.Abort []))

abbrev pub read_report : List Line
read_report = line 0 (says.Up s0 1) ∷ line 2 (says.Begun c1 1 (tid s0 0)) ∷ line 4 (says.Opened c1 3 s0) ∷ line 6 (says.Did c1 5) ∷ line 8 (says.Read c1 7 zeros) ∷ line 10 (says.Aborted c1 9 (tid s0 0) Requested) ∷ the_end

-- of two servers a client opens the one where it didn't begin
abbrev pub opens_other : List Event
opens_other = then_settle c1 (commands.Begin s0) (then_settle c1 (commands.Open s1) [])

abbrev pub opened_report : List Line
opened_report = line 0 (says.Up s0 1) ∷ line 0 (says.Up s1 1) ∷ line 2 (says.Begun c1 1 (tid s0 0)) ∷ line 4 (says.Opened c1 3 s1)
    ∷ at_end (says.Down s0) ∷ at_end (says.Down s1) ∷ at_end (says.Up s0 2) ∷ at_end (says.Up s1 2) ∷ at_end (says.Commits 0) ∷ []

-- a client makes a file, and before it commits the server's files are printed
abbrev pub shows_unmade : List Event
shows_unmade = makes_file s0 (events.Show s0 ∷ [])

abbrev pub shown_report : List Line
shown_report = line 0 (says.Up s0 1) ∷ line 2 (says.Begun c1 1 (tid s0 0)) ∷ line 4 (says.Opened c1 3 s0) ∷ line 6 (says.Did c1 5) ∷ the_end

-- a client begins and aborts, and each message has a line
abbrev pub begins_and_aborts : List Event
begins_and_aborts = then_settle c1 (commands.Begin s0) (then_settle c1 commands.Abort [])

abbrev pub aborted_report : List Line
aborted_report = line 0 (says.Up s0 1) ∷ line 1 (says.Message 0 (Client c1) (Server s0) kinds.Begin) ∷ line 2 (says.Message 1 (Server s0) (Client c1) kinds.Begun) ∷ line 2 (says.Begun c1 1 (tid s0 0))
    ∷ line 3 (says.Message 2 (Client c1) (Server s0) kinds.Abort) ∷ line 4 (says.Message 3 (Server s0) (Client c1) kinds.Outcome) ∷ line 4 (says.Aborted c1 3 (tid s0 0) Requested)
    ∷ line 4 (says.Message 4 (Client c1) (Server s0) kinds.Thanks) ∷ the_end
