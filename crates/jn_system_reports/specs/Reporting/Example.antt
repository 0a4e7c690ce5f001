-- A schedule in which a server is stopped while it puts the flag of a commit, and finds it at its restart.
use Rattle.std.specs.Prelude.{true, if◌then◌else◌, List, [], ◌∷◌}
use Rattle.jn_base.specs.declared.op.Op.TheVariants.{Create}
use Rattle.jn_base.specs.declared.op.Command.TheVariants.{Begin, Open, Do, End}
use Rattle.jn_base.specs.declared.device.FaultKind.TheVariants.{StopBefore}
use Rattle.jn_schedule.specs.declared.Event.TheVariants.{Command, Settle, Arm, Restart, Nudge, Deliver}
use Rattle.jn_report.specs.declared.line.When.TheVariants.{Event as AtEvent}
use Rattle.jn_report.specs.declared.line.Text.TheVariants as says
use Rattle.jn_report.specs.declared.line.Line.{Line}
use Rattle.jn_system.specs.WholeSystem.Steps.{Tell, StopDelivery, Restart as Restarts, Nudge as Nudges}
use Rattle.jn_system.specs.WholeSystem.Example.{the_server, the_client, the_file, the_transaction, the_work, much, delivered}
use Rattle.jn_system_reports.specs.Reporting.Reported.{Item, Does}
use Rattle.jn_rows.specs.Stable.{whole_only}

abbrev pub a_run : List Item
a_run =
    record { event = Command the_client (Begin the_server); acts = Does (Tell the_client (Begin the_server)) ∷ [] }
    ∷ record { event = Settle; acts = Does (delivered 0) ∷ Does (delivered 1) ∷ [] }
    ∷ record { event = Command the_client (Open the_server); acts = Does (Tell the_client (Open the_server)) ∷ [] }
    ∷ record { event = Settle; acts = Does (delivered 2) ∷ Does (delivered 3) ∷ [] }
    ∷ record { event = Command the_client (Do the_server (Create the_file)); acts = Does (Tell the_client (Do the_server (Create the_file))) ∷ [] }
    ∷ record { event = Settle; acts = Does (delivered 4) ∷ Does (delivered 5) ∷ [] }
    ∷ record { event = Arm the_server 9 StopBefore; acts = [] }
    ∷ record { event = Command the_client End; acts = Does (Tell the_client End) ∷ [] }
    ∷ record { event = Settle; acts = Does (delivered 6) ∷ Does (delivered 7) ∷ Does (StopDelivery 8 much (λ c. if c 3 then whole_only 1 else whole_only 0)) ∷ [] }
    ∷ record { event = Restart the_server; acts = Does (Restarts the_server (λ n. true) (the_work ∷ []) (the_transaction ∷ [])) ∷ [] }
    ∷ record { event = Nudge the_server; acts = Does (Nudges the_server) ∷ [] }
    ∷ record { event = Deliver 11; acts = Does (delivered 11) ∷ [] }
    ∷ []

abbrev pub its_lines : List Line
its_lines =
    record { when = AtEvent 2; text = says.Begun the_client 1 the_transaction }
    ∷ record { when = AtEvent 4; text = says.Opened the_client 3 the_server }
    ∷ record { when = AtEvent 6; text = says.Did the_client 5 }
    ∷ record { when = AtEvent 9; text = says.Stopped the_server }
    ∷ record { when = AtEvent 10; text = says.Up the_server 1 }
    ∷ record { when = AtEvent 10; text = says.Commit the_transaction }
    ∷ record { when = AtEvent 12; text = says.Committed the_client 8 the_transaction }
    ∷ []
