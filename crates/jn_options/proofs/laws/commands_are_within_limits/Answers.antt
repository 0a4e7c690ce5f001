use Rattle.jn_options.proofs.Limits.{in_range}
use Rattle.jn_options.proofs.laws.commands_are_within_limits.Goals as goal

pub returns : goal.returns
returns c = in_range
