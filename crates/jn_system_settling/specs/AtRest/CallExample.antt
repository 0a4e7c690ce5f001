-- A settle in which a client that made a file is told at once to make another one.
use Rattle.std.specs.Prelude.{List, [], ◌∷◌}
use Rattle.jn_base.specs.declared.names.FileNo.{FileNo}
use Rattle.jn_base.specs.declared.op.Op.TheVariants as ops
use Rattle.jn_base.specs.declared.op.Command.TheVariants.{Begin, Open, Do}
use Rattle.jn_order.specs.Files.{no_files}
use Rattle.jn_system.specs.WholeSystem.Steps.{Step, NextEvent, Tell}
use Rattle.jn_system.specs.WholeSystem.Course.{Course, opening_course, go_on}
use Rattle.jn_system.specs.WholeSystem.Example.{the_server, the_client, the_file, delivered}

abbrev pub another_file : FileNo
another_file = record { 0 = 8 }

-- up to the first operation
abbrev pub to_the_call : List Step
to_the_call =
    NextEvent ∷ Tell the_client (Begin the_server) ∷ delivered 0 ∷ delivered 1
    ∷ NextEvent ∷ Tell the_client (Open the_server) ∷ delivered 2 ∷ delivered 3
    ∷ NextEvent ∷ Tell the_client (Do the_server (ops.Create the_file)) ∷ []

abbrev pub at_the_call : Course
at_the_call = go_on to_the_call (opening_course 1 no_files (λ s. 0))

-- its answer, the next operation, and the answer to that
abbrev pub the_call : List Step
the_call = delivered 4 ∷ delivered 5 ∷ Tell the_client (Do the_server (ops.Create another_file)) ∷ delivered 6 ∷ delivered 7 ∷ []

-- behind the askings only the work's question for the outcome is handed over
abbrev pub behind_it : List Step
behind_it = delivered 8 ∷ []
