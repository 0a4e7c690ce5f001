use Rattle.jn_options.proofs.Common.{refl, digits, clap_on_literals, program_app, run_app, trial_app, node_app}
use Rattle.jn_options.proofs.laws.other_trials_are_refused.Goals as goal

pub returns : goal.returns
unfolding clap_on_literals program_app run_app trial_app node_app digits
returns c = record {
  no_events = refl;
  many_events = refl;
  large_seed = refl;
  missing = refl;
  more = refl;
}
