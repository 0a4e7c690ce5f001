-- Of words of a node the outcome is that node's.
use Rattle.std.specs.Prelude.{Option}
use Rattle.std.proofs.Common.{subst}
use Rattle.jn_node_laws.specs.Ends.{NodesEndAsGiven, NodesEndOnce}
use Rattle.jn_options.specs.declared.asked.Command.{Command}
use Rattle.jn_run.specs.Outcome.{OutcomeOf}
use Rattle.jn_run_laws.specs.Words.{ProgramsEndAsGiven, ProgramsEndOnce}

pub as-given : NodesEndAsGiven → ProgramsEndAsGiven
as-given law words node before after status asked tells fails h = law node before after status tells fails (subst (λ (o : Option Command). OutcomeOf o before after status) asked h)

pub ends-once : NodesEndOnce → ProgramsEndOnce
ends-once law words node before after a b asked tells fails h k lacks lack = law node before after a b tells fails
    (subst (λ (o : Option Command). OutcomeOf o before after a) asked h) (subst (λ (o : Option Command). OutcomeOf o before after b) asked k) lacks lack
