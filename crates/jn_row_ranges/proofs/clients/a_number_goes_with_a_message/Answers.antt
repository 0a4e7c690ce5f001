use Rattle.jn_row_ranges.proofs.Taking.{command-draws, take-number}
use Rattle.jn_row_ranges.proofs.clients.a_number_goes_with_a_message.Goals as goal

pub returns-clause-commands : goal.returns-clause-commands
returns-clause-commands c = command-draws

pub returns-clause-messages : goal.returns-clause-messages
returns-clause-messages c = take-number
