use Rattle.jn_options.proofs.Common.{refl, digits, clap_on_literals, program_app, run_app, trial_app, node_app}
use Rattle.jn_options.proofs.laws.other_names_are_refused.Goals as goal

pub returns : goal.returns
unfolding clap_on_literals program_app run_app trial_app node_app digits
returns c = record {
  pool = refl;
  heads = refl;
  leaves = refl;
  same = refl;
  empty = refl;
  too_long = refl;
}
