-- Reports that no run gives, each of the schedule in which a client makes a file, writes a block and ends, with a settle after each command.
use Rattle.std.specs.Prelude.{◌≡◌, ◌<◌, ℕ, Bool, false, List, [], ◌∷◌, ◌++◌}
use Rattle.jn_base.specs.declared.names.ServerNo.{ServerNo}
use Rattle.jn_base.specs.declared.names.Party.TheVariants.{Client, Server}
use Rattle.jn_base.specs.declared.names.MsgKind.TheVariants as kinds
use Rattle.jn_order.specs.Files.{AllFiles}
use Rattle.jn_schedule.specs.declared.Event.{Event}
use Rattle.jn_report.specs.declared.line.Text.TheVariants as says
use Rattle.jn_report.specs.declared.line.Line.{Line}
use Rattle.jn_system.specs.WholeSystem.ExampleNames.{s0, c1, tid, file, block}
use Rattle.jn_system.specs.WholeSystem.Course.{Course}
use Rattle.jn_machine.specs.Chances.{Setup}
use Rattle.jn_machine.specs.Tasks.{State}
use Rattle.jn_machine.specs.Deeds.{is_busy}
use Rattle.jn_machine.specs.Runs.{MayLead}
use Rattle.jn_machine.specs.Whole.{before}
use Rattle.jn_machine.specs.Examples.{block_of, line, at_end}

-- whatever the schedule and the images are, whatever befalls the run, and wherever it stands
abbrev pub IsNoReport : List Line → Type 0
IsNoReport lines = (x : Setup) (schedule : List Event) (files : AllFiles) (epochs : ServerNo → ℕ) (t : State) → MayLead x (before x schedule files epochs) t → t.lines ≡ lines → ⊥

-- and where no line was asked for messages
abbrev pub IsNoPlainReport : List Line → Type 0
IsNoPlainReport lines = (x : Setup) (schedule : List Event) (files : AllFiles) (epochs : ServerNo → ℕ) (t : State) → MayLead x (before x schedule files epochs) t
    → x.trace ≡ false → t.lines ≡ lines → ⊥

-- no message waits, and no server has anything to do
pub record IsAtRest (x : Setup) (rubbish : ServerNo → Bool) (c : Course) : Type 0 where
  pub waiting : c.waiting ≡ []
  pub idle : (q : ServerNo) → q.0 < x.servers → is_busy rubbish c.world q ≡ false

-- ---- the reports

abbrev pub to_the_write : List Line
to_the_write = line 0 (says.Up s0 1) ∷ line 2 (says.Begun c1 1 (tid s0 0)) ∷ line 4 (says.Opened c1 3 s0) ∷ line 6 (says.Did c1 5) ∷ line 8 (says.Did c1 7) ∷ []

abbrev pub to_the_commit : List Line
to_the_commit = to_the_write ++ line 10 (says.Commit (tid s0 0)) ∷ line 10 (says.Committed c1 9 (tid s0 0)) ∷ []

abbrev pub the_end : List Line
the_end = at_end (says.Down s0) ∷ at_end (says.Up s0 2) ∷ at_end (says.File s0 (file 7)) ∷ at_end (says.Page s0 (file 7) (block 0) (block_of (104 ∷ 105 ∷ []))) ∷ []

-- the answers of two commands change places
abbrev pub out_of_order : List Line
out_of_order = line 0 (says.Up s0 1) ∷ line 2 (says.Begun c1 1 (tid s0 0)) ∷ line 6 (says.Did c1 5) ∷ line 4 (says.Opened c1 3 s0) ∷ []

-- what the server shows stands before its restart
abbrev pub shown_too_soon : List Line
shown_too_soon = at_end (says.File s0 (file 7)) ∷ to_the_commit ++ the_end

-- two commits are counted, or none
abbrev pub counted_twice : List Line
counted_twice = to_the_commit ++ the_end ++ at_end (says.Commits 2) ∷ []

abbrev pub counted_none : List Line
counted_none = to_the_commit ++ the_end ++ at_end (says.Commits 0) ∷ []

-- a message has a line
abbrev pub a_message_told : List Line
a_message_told = line 0 (says.Up s0 1) ∷ line 1 (says.Message 0 (Client c1) (Server s0) kinds.Begin) ∷ []
