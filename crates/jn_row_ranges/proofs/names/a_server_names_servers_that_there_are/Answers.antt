use Rattle.jn_row_ranges.proofs.ServerRows.{row-within, step-row-within, again-within, timeout-memory-within, close-row-within}
use Rattle.jn_row_ranges.proofs.names.a_server_names_servers_that_there_are.Goals as goal

pub returns-clause-row : goal.returns-clause-row
returns-clause-row c = row-within

pub returns-clause-step : goal.returns-clause-step
returns-clause-step c = step-row-within

pub returns-clause-again : goal.returns-clause-again
returns-clause-again c = again-within

pub returns-clause-timeout : goal.returns-clause-timeout
returns-clause-timeout c = timeout-memory-within

pub returns-clause-close : goal.returns-clause-close
returns-clause-close c = close-row-within
