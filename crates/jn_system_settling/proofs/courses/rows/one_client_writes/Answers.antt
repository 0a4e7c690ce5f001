use Rattle.jn_system_settling.proofs.Settling.Reports.{one_client_writes, one_client_writes_steps, one_client_writes_page}
use Rattle.jn_system_settling.proofs.courses.rows.one_client_writes.Goals as goal

pub returns-clause-steps : goal.returns-clause-steps
returns-clause-steps c = one_client_writes_steps

pub returns-clause-lines : goal.returns-clause-lines
returns-clause-lines c = one_client_writes

pub returns-clause-page : goal.returns-clause-page
returns-clause-page c = one_client_writes_page
