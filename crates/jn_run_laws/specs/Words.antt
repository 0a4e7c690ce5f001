-- What the program leaves whose words ask for a node, by what that node is given.
use Rattle.std.specs.Prelude.{◌≡◌, ◌≢◌, List, Some, String}
use Rattle.std.specs.declared.alloc.Global.{Global}
use Rattle.jn_node_laws.specs.Ends.{Tell}
use Rattle.jn_node_laws.specs.Given.{EndsAsGiven}
use Rattle.jn_options.specs.Words.{command_of}
use Rattle.jn_options.specs.declared.asked.Command.TheVariants as commands
use Rattle.jn_options.specs.declared.asked.Node.{Node}
use Rattle.jn_run.specs.Outcome.{OutcomeOf}
use Rattle.jn_status.specs.declared.status.Status.{Status}
use Rattle.jn_status.specs.declared.status.Status.TheVariants.{Memory}
use Rattle.jn_writing.specs.Outside.{NoneFails, Outside}

-- where no call failed, the end is the one that was given, or memory ran out
abbrev pub ProgramsEndAsGiven : Type 0
ProgramsEndAsGiven = (words : List (String Global)) (node : Node) (before after : Outside) (status : Status) → command_of words ≡ Some (commands.Node node) → Tell before → NoneFails before after
    → OutcomeOf (command_of words) before after status → EndsAsGiven node before after.sink status

-- so what is said of two ways to end never holds of one call
abbrev pub ProgramsEndOnce : Type 0
ProgramsEndOnce = (words : List (String Global)) (node : Node) (before after : Outside) (status status' : Status) → command_of words ≡ Some (commands.Node node) → Tell before
    → NoneFails before after → OutcomeOf (command_of words) before after status → OutcomeOf (command_of words) before after status' → status ≢ Memory → status' ≢ Memory → status ≡ status'
