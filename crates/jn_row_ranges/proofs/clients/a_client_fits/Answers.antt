use Rattle.jn_row_ranges.proofs.Taking.{new-fits, command-fits, take-fits, over-fits}
use Rattle.jn_row_ranges.proofs.clients.a_client_fits.Goals as goal

pub returns-clause-first : goal.returns-clause-first
returns-clause-first c = new-fits

pub returns-clause-commands : goal.returns-clause-commands
returns-clause-commands c = command-fits

pub returns-clause-messages : goal.returns-clause-messages
returns-clause-messages c = take-fits

pub returns-clause-dismissed : goal.returns-clause-dismissed
returns-clause-dismissed c = over-fits
