use Rattle.jn_row_ranges.proofs.Common.{server_row, server_again}
use Rattle.jn_row_ranges.proofs.Taking.{servers-taken}
use Rattle.jn_row_ranges.proofs.ServerRows.{row-requests, step-requests, again-requests}
use Rattle.jn_row_ranges.proofs.servers.what_a_server_sends_can_be_taken.Goals as goal

pub returns-clause-sent : goal.returns-clause-sent
returns-clause-sent c = servers-taken

pub returns-clause-row : goal.returns-clause-row
returns-clause-row c = λ m x room message. servers-taken (server_row m x room message).messages (row-requests m x room message)

pub returns-clause-step : goal.returns-clause-step
returns-clause-step c = λ m x room row e. servers-taken row.messages (step-requests m x room row e)

pub returns-clause-again : goal.returns-clause-again
returns-clause-again c = λ m x. servers-taken (server_again m x) (again-requests m x)
