-- A run that ends by a whole settle: the commit that the restart finds is carried out.
use Rattle.std.specs.Prelude.{[], ◌∷◌, ◌++◌}
use Rattle.jn_system.specs.WholeSystem.World.{servers_from, clients_from}
use Rattle.jn_system.specs.WholeSystem.Steps.{Work}
use Rattle.jn_system.specs.WholeSystem.Example.{the_server, much, delivered}
use Rattle.jn_system.specs.WholeSystem.Settle.{ask_again}
use Rattle.jn_system_reports.specs.Reporting.Ending.{Ending}
use Rattle.jn_system_reports.specs.Showing.Example.{an_end}

abbrev pub an_end_that_settles : Ending
an_end_that_settles = record an_end { settling = ask_again (clients_from 1 8) (servers_from 0 1) ++ (delivered 11 ∷ delivered 12 ∷ delivered 13 ∷ Work the_server much ∷ Work the_server much ∷ delivered 14 ∷ []) }
