use Rattle.jn_row_ranges.proofs.Taking.{scheduled-in-range}
use Rattle.jn_row_ranges.proofs.clients.a_scheduled_command_is_in_range.Goals as goal

pub returns : goal.returns
returns c = scheduled-in-range
