-- Short reports written by hand, each with a line at fault.
use Rattle.std.specs.Prelude.{ℕ, List, [], ◌∷◌}
use Rattle.jn_base.specs.declared.op.Op.TheVariants.{Create}
use Rattle.jn_base.specs.declared.op.Command.TheVariants as commands
use Rattle.jn_schedule.specs.declared.Event.{Event}
use Rattle.jn_schedule.specs.declared.Event.TheVariants as events
use Rattle.jn_report.specs.declared.line.Refusal.TheVariants as refusals
use Rattle.jn_report.specs.declared.line.When.TheVariants.{Event as AtEvent, End}
use Rattle.jn_report.specs.declared.line.Text.TheVariants as says
use Rattle.jn_report.specs.declared.line.Line.{Line}
use Rattle.jn_serial.specs.Example.{first_server, one_client, file_7, one_transaction, begun_line}

-- a client makes a file twice and commits
abbrev pub made_twice : List Event
made_twice =
    events.Command one_client (commands.Begin first_server) ∷ events.Settle
    ∷ events.Command one_client (commands.Do first_server (Create file_7)) ∷ events.Settle
    ∷ events.Command one_client (commands.Do first_server (Create file_7)) ∷ events.Settle
    ∷ events.Command one_client commands.End ∷ events.Settle ∷ []

abbrev pub made_line : Line
made_line = record { when = AtEvent 4; text = says.Did one_client 3 }

abbrev pub commit_line : Line
commit_line = record { when = AtEvent 8; text = says.Commit one_transaction }

abbrev pub committed_line : Line
committed_line = record { when = AtEvent 8; text = says.Committed one_client 7 one_transaction }

abbrev pub file_line : Line
file_line = record { when = End; text = says.File first_server file_7 }

abbrev pub count_line : ℕ → Line
count_line n = record { when = End; text = says.Commits n }

-- its report up to the end, with what the second one is answered
abbrev pub answered_then : Line → List Line → List Line
answered_then second rest = begun_line ∷ made_line ∷ second ∷ commit_line ∷ committed_line ∷ rest

-- the file is there already
abbrev pub there_already : Line
there_already = record { when = AtEvent 6; text = says.Refused one_client 5 refusals.Exists }

-- the second one is answered as if it weren't
abbrev pub made_again : Line
made_again = record { when = AtEvent 6; text = says.Did one_client 5 }
