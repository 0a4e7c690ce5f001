-- A run of no event, cut off in its end once its server is down.
use Rattle.std.specs.Prelude.{List, [], ◌∷◌}
use Rattle.jn_report.specs.declared.line.When.TheVariants.{End}
use Rattle.jn_report.specs.declared.line.Text.TheVariants.{Down}
use Rattle.jn_report.specs.declared.line.Line.{Line}
use Rattle.jn_system.specs.WholeSystem.Steps.{Crash}
use Rattle.jn_system.specs.WholeSystem.Example.{the_server}
use Rattle.jn_headline.specs.CutReports.Cut.{CutEnd}

abbrev pub a_server_is_down : CutEnd
a_server_is_down = record { steps = Crash the_server ∷ []; printed = [] }

abbrev pub its_lines : List Line
its_lines = record { when = End; text = Down the_server } ∷ []
