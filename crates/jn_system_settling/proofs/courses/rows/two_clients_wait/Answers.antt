use Rattle.jn_system_settling.proofs.Settling.Reports.{two_clients_wait, two_clients_wait_steps, two_clients_wait_file}
use Rattle.jn_system_settling.proofs.courses.rows.two_clients_wait.Goals as goal

pub returns-clause-steps : goal.returns-clause-steps
returns-clause-steps c = two_clients_wait_steps

pub returns-clause-lines : goal.returns-clause-lines
returns-clause-lines c = two_clients_wait

pub returns-clause-file : goal.returns-clause-file
returns-clause-file c = two_clients_wait_file
