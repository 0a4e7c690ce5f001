use Rattle.std.proofs.Common.{refl}
use Rattle.jn_row_ranges.proofs.ServerRows.{row-drawn, step-tickets, timeout-tickets}
use Rattle.jn_row_ranges.proofs.servers.a_name_goes_with_a_message.Goals as goal

pub returns-clause-row : goal.returns-clause-row
returns-clause-row c = row-drawn

pub returns-clause-step : goal.returns-clause-step
returns-clause-step c = step-tickets

pub returns-clause-timeout : goal.returns-clause-timeout
returns-clause-timeout c = timeout-tickets

pub returns-clause-close : goal.returns-clause-close
returns-clause-close c = λ m. refl
