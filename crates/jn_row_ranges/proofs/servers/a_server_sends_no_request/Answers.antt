use Rattle.std.proofs.Common.{refl}
use Rattle.jn_row_ranges.proofs.ServerRows.{row-requests, step-requests, again-requests}
use Rattle.jn_row_ranges.proofs.servers.a_server_sends_no_request.Goals as goal

pub returns-clause-row : goal.returns-clause-row
returns-clause-row c = row-requests

pub returns-clause-step : goal.returns-clause-step
returns-clause-step c = step-requests

pub returns-clause-again : goal.returns-clause-again
returns-clause-again c = again-requests

pub returns-clause-close : goal.returns-clause-close
returns-clause-close c = λ m. refl
