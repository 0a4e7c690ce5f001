use Rattle.jn_options.proofs.Common.{refl, digits, clap_on_literals, program_app, run_app, trial_app, node_app}
use Rattle.jn_options.proofs.laws.defaults_stand_alone.Goals as goal

pub returns : goal.returns
unfolding clap_on_literals program_app run_app trial_app node_app digits
returns c = refl
