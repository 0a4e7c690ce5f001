-- A schedule in which a server goes down with a transaction, and its client is told so.
use Rattle.std.specs.Prelude.{true, List, [], ◌∷◌}
use Rattle.jn_base.specs.declared.names.Cause.TheVariants.{Lost}
use Rattle.jn_base.specs.declared.op.Command.TheVariants.{Begin, End}
use Rattle.jn_schedule.specs.declared.Event.TheVariants.{Command, Settle, Crash, Restart, Deliver}
use Rattle.jn_report.specs.declared.line.When.TheVariants.{Event as AtEvent}
use Rattle.jn_report.specs.declared.line.Text.TheVariants as says
use Rattle.jn_report.specs.declared.line.Line.{Line}
use Rattle.jn_system.specs.WholeSystem.Steps.{Tell, Crash as Crashes, Restart as Restarts}
use Rattle.jn_system.specs.WholeSystem.Example.{the_server, the_client, the_transaction, delivered}
use Rattle.jn_system_reports.specs.Reporting.Reported.{Item, Does}

abbrev pub a_loss : List Item
a_loss =
    record { event = Command the_client (Begin the_server); acts = Does (Tell the_client (Begin the_server)) ∷ [] }
    ∷ record { event = Settle; acts = Does (delivered 0) ∷ Does (delivered 1) ∷ [] }
    ∷ record { event = Crash the_server; acts = Does (Crashes the_server) ∷ [] }
    ∷ record { event = Restart the_server; acts = Does (Restarts the_server (λ n. true) [] []) ∷ [] }
    ∷ record { event = Command the_client End; acts = Does (Tell the_client End) ∷ [] }
    ∷ record { event = Deliver 2; acts = Does (delivered 2) ∷ [] }
    ∷ record { event = Deliver 3; acts = Does (delivered 3) ∷ [] }
    ∷ []

abbrev began : Line
began = record { when = AtEvent 2; text = says.Begun the_client 1 the_transaction }

abbrev went_down : Line
went_down = record { when = AtEvent 3; text = says.Down the_server }

abbrev came_up : Line
came_up = record { when = AtEvent 4; text = says.Up the_server 1 }

abbrev was_lost : Line
was_lost = record { when = AtEvent 7; text = says.Aborted the_client 5 the_transaction (Lost the_server) }

abbrev pub its_lines : List Line
its_lines = began ∷ went_down ∷ came_up ∷ was_lost ∷ []

-- no run reports these: the server didn't go down
abbrev pub without_a_cause : List Line
without_a_cause = began ∷ came_up ∷ was_lost ∷ []
