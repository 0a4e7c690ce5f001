-- A run with its schedule, in which a client makes a file and commits.
use Rattle.std.specs.Prelude.{ℕ, List, [], ◌∷◌}
use Rattle.jn_base.specs.declared.op.Op.TheVariants as ops
use Rattle.jn_base.specs.declared.op.Command.{Command}
use Rattle.jn_base.specs.declared.op.Command.TheVariants.{Begin, Open, Do, End}
use Rattle.jn_schedule.specs.declared.Event.TheVariants as events
use Rattle.jn_system.specs.WholeSystem.Steps.{Tell, Work}
use Rattle.jn_system.specs.WholeSystem.Example.{the_server, the_client, the_file, much, delivered}
use Rattle.jn_system_reports.specs.Reporting.Reported.{Does, Item}

abbrev pub commanded : Command → Item
commanded command = record { event = events.Command the_client command; acts = Does (Tell the_client command) ∷ [] }

abbrev pub handed : ℕ → Item
handed k = record { event = events.Deliver k; acts = Does (delivered k) ∷ [] }

-- all that waits is handed over, and the work is carried out
abbrev pub settled : Item
settled = record {
  event = events.Settle;
  acts = Does (delivered 8) ∷ Does (delivered 10) ∷ Does (delivered 9) ∷ Does (Work the_server much) ∷ Does (Work the_server much) ∷ Does (delivered 12) ∷ Does (delivered 11) ∷ [];
}

abbrev pub a_file_is_made : List Item
a_file_is_made =
    commanded (Begin the_server) ∷ handed 0 ∷ handed 1
    ∷ commanded (Open the_server) ∷ handed 2 ∷ handed 3
    ∷ commanded (Do the_server (ops.Create the_file)) ∷ handed 4 ∷ handed 5
    ∷ commanded End ∷ handed 6 ∷ handed 7
    ∷ settled
    ∷ []
