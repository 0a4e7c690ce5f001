use Rattle.jn_row_ranges.proofs.NamedByClients.{new-within, command-within, take-within, over-within}
use Rattle.jn_row_ranges.proofs.names.a_client_names_servers_that_there_are.Goals as goal

pub returns-clause-first : goal.returns-clause-first
returns-clause-first c = new-within

pub returns-clause-commands : goal.returns-clause-commands
returns-clause-commands c = command-within

pub returns-clause-messages : goal.returns-clause-messages
returns-clause-messages c = take-within

pub returns-clause-dismissed : goal.returns-clause-dismissed
returns-clause-dismissed c = over-within
