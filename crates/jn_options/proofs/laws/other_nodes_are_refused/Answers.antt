use Rattle.jn_options.proofs.Common.{refl, digits, clap_on_literals, program_app, run_app, trial_app, node_app}
use Rattle.jn_options.proofs.laws.other_nodes_are_refused.Goals as goal

pub returns : goal.returns
unfolding clap_on_literals program_app run_app trial_app node_app digits
returns c = record {
  no_server = refl;
  large_server = refl;
  zero_first = refl;
  more = refl;
  no_opening = refl;
  no_closing = refl;
  same = refl;
  empty = refl;
  too_long = refl;
  twice = refl;
  other = refl;
}
