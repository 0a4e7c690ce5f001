-- Runs with one wrong row each, after which the lines report what no order of the commits gives.
use Rattle.std.specs.Prelude.{ℕ, List, [], ◌∷◌, ◌++◌, slice_get, Option, Some}
use Rattle.jn_base.specs.declared.names.ServerNo.{ServerNo}
use Rattle.jn_base.specs.declared.names.Party.TheVariants.{Client, Server}
use Rattle.jn_base.specs.declared.op.Op.TheVariants as ops
use Rattle.jn_base.specs.declared.op.Command.{Command}
use Rattle.jn_base.specs.declared.op.Command.TheVariants.{Begin, Open, Do, End}
use Rattle.jn_order.specs.Files.{no_files, answer_to}
use Rattle.jn_schedule.specs.declared.Event.{Event}
use Rattle.jn_schedule.specs.declared.Event.TheVariants as events
use Rattle.jn_report.specs.declared.line.Line.{Line}
use Rattle.jn_msgs.specs.declared.message.Message.TheVariants as messages
use Rattle.jn_rows.specs.Stable.{stable}
use Rattle.jn_rows.specs.Outcomes.{Sent}
use Rattle.jn_rows.specs.Client.{is_operation, if_waits, idle, told, answer_line}
use Rattle.jn_system.specs.WholeSystem.World.{World, opening}
use Rattle.jn_system.specs.WholeSystem.Steps.{NextEvent, Tell, Work, run, taken_by}
use Rattle.jn_system.specs.WholeSystem.Example.{the_server, the_client, the_file, much, start, delivered}
use Rattle.jn_system_reports.specs.Reporting.Reported.{at_event}

-- which event a line stands at doesn't matter here
abbrev pub lines_in : World → List Line
lines_in w = at_event 1 w.lines

abbrev pub gives : List Command → List Event
gives [] = []
gives (command ∷ commands) = events.Command the_client command ∷ gives commands

-- ---- a client takes an answer to an earlier request

abbrev pub the_other_server : ServerNo
the_other_server = record { 0 = 1 }

abbrev pub two_operations : List Command
two_operations = Begin the_server ∷ Open the_server ∷ Open the_other_server ∷ Do the_server (ops.Create the_file) ∷ Do the_other_server (ops.Remove the_file) ∷ End ∷ []

abbrev pub takes_any : ℕ → Option Sent → World → World
takes_any k (Some (to, messages.Answer c request answer)) w = taken_by c k (if_waits (w.clients c) (w.clients c).outstanding (λ o. is_operation o.command) (λ j. told (idle (w.clients c)) (answer_line c j answer))) w
takes_any k sent w = w

-- a file is made at one server, and it is removed at another where it isn't
abbrev pub asked_twice : World
asked_twice = run (
    NextEvent ∷ Tell the_client (Begin the_server) ∷ delivered 0 ∷ delivered 1
    ∷ NextEvent ∷ Tell the_client (Open the_server) ∷ delivered 2 ∷ delivered 3
    ∷ NextEvent ∷ Tell the_client (Open the_other_server) ∷ delivered 4 ∷ delivered 5
    ∷ NextEvent ∷ Tell the_client (Do the_server (ops.Create the_file)) ∷ delivered 6 ∷ delivered 7
    ∷ NextEvent ∷ Tell the_client (Do the_other_server (ops.Remove the_file)) ∷ delivered 8
    ∷ []
    ) (opening 2 no_files (λ s. 0))

-- the second operation is told the answer of the first
abbrev pub told_an_old_answer : World
told_an_old_answer = run (NextEvent ∷ Tell the_client End ∷ delivered 10 ∷ delivered 11 ∷ delivered 12 ∷ delivered 13 ∷ delivered 14 ∷ []) (takes_any 7 (slice_get asked_twice.sent 7) asked_twice)

-- ---- a worker answers an operation and doesn't keep what it did

abbrev pub one_operation : List Command
one_operation = Begin the_server ∷ Open the_server ∷ Do the_server (ops.Create the_file) ∷ End ∷ []

abbrev pub only_answers : Option Sent → World → World
only_answers (Some (Server s, messages.Op c request W number op)) w = record w { sent = w.sent ++ (Client c, messages.Answer c request (answer_to op (stable (w.found s)).files)) ∷ [] }
only_answers sent w = w

abbrev pub asked_once : World
asked_once = run (
    NextEvent ∷ Tell the_client (Begin the_server) ∷ delivered 0 ∷ delivered 1
    ∷ NextEvent ∷ Tell the_client (Open the_server) ∷ delivered 2 ∷ delivered 3
    ∷ NextEvent ∷ Tell the_client (Do the_server (ops.Create the_file))
    ∷ []
    ) start

-- its transaction commits, and nothing is left of it
abbrev pub answered_and_lost : World
answered_and_lost = run (delivered 5 ∷ NextEvent ∷ Tell the_client End ∷ delivered 6 ∷ delivered 7 ∷ delivered 8 ∷ delivered 9 ∷ Work the_server much ∷ []) (only_answers (slice_get asked_once.sent 4) asked_once)
