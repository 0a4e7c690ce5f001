use Rattle.jn_options.proofs.Common.{refl, digits, clap_on_literals, program_app, run_app, trial_app, node_app}
use Rattle.jn_options.proofs.laws.nodes_are_read.Goals as goal

pub returns : goal.returns
unfolding clap_on_literals program_app run_app trial_app node_app digits
returns c = record {
  next_word = refl;
  any_order = refl;
}
