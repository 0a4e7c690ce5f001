-- Runs in which a server shows its files while one of them is locked and once it is there, and in which it does so at the end.
use Rattle.std.specs.Prelude.{true, List, [], ◌∷◌, ◌++◌}
use Rattle.jn_base.specs.declared.op.Op.TheVariants as ops
use Rattle.jn_base.specs.declared.op.Command.TheVariants.{Begin, Open, Do, End}
use Rattle.jn_base.specs.declared.names.LockUnit.TheVariants.{File}
use Rattle.jn_schedule.specs.declared.Event.TheVariants as events
use Rattle.jn_system.specs.WholeSystem.Steps.{Work, Nudge}
use Rattle.jn_system.specs.WholeSystem.Example.{the_server, the_file, the_transaction, the_work, much, delivered}
use Rattle.jn_system.specs.WholeSystem.Printing.{Printed, FileThere, UnitLocked}
use Rattle.jn_system_reports.specs.Reporting.Reported.{Does, Shows, Item}
use Rattle.jn_system_reports.specs.Reporting.Ending.{Ending}
use Rattle.jn_system_reports.specs.Telling.Example.{commanded, handed}

abbrev pub shown : List Printed → Item
shown prints = record { event = events.Show the_server; acts = Shows the_server prints ∷ [] }

-- the commit is named, and isn't carried out yet
abbrev pub a_commit_is_named : List Item
a_commit_is_named =
    commanded (Begin the_server) ∷ handed 0 ∷ handed 1
    ∷ commanded (Open the_server) ∷ handed 2 ∷ handed 3
    ∷ commanded (Do the_server (ops.Create the_file)) ∷ handed 4 ∷ handed 5
    ∷ commanded End ∷ handed 6 ∷ handed 7 ∷ handed 8
    ∷ []

abbrev pub carried_out : Item
carried_out = record { event = events.Settle; acts = Does (delivered 10) ∷ Does (delivered 9) ∷ Does (Work the_server much) ∷ Does (Work the_server much) ∷ [] }

abbrev pub a_file_is_shown : List Item
a_file_is_shown = a_commit_is_named ++ shown (UnitLocked (File the_file) the_transaction ∷ []) ∷ carried_out ∷ shown (FileThere the_file ∷ []) ∷ []

-- a show that looks at no locks prints what is found there, which is nothing yet
abbrev pub locks_are_passed : List Item
locks_are_passed = a_commit_is_named ++ shown [] ∷ []

-- the restart finds the commit, which is carried out while the world settles
abbrev pub an_end : Ending
an_end = record {
  comebacks = record { pick = λ n. true; works = the_work ∷ []; tids = the_transaction ∷ [] } ∷ [];
  settling = Nudge the_server ∷ delivered 12 ∷ Work the_server much ∷ Work the_server much ∷ delivered 13 ∷ [];
  prints = (FileThere the_file ∷ []) ∷ [];
}
