use Rattle.jn_options.proofs.Common.{refl, digits, clap_on_literals, program_app, run_app, trial_app, node_app}
use Rattle.jn_options.proofs.laws.other_words_are_refused.Goals as goal

pub returns : goal.returns
unfolding clap_on_literals program_app run_app trial_app node_app digits
returns c = record {
  no_words = refl;
  no_command = refl;
  other_command = refl;
  more = refl;
  help = refl;
  version = refl;
  twice = refl;
  missing = refl;
  too_large = refl;
  zero_first = refl;
}
