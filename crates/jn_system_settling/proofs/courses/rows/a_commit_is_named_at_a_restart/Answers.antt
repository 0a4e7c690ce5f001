use Rattle.jn_system_settling.proofs.Settling.Reports.{a_commit_is_named_at_a_restart, a_commit_is_named_at_a_restart_steps, a_commit_is_named_at_a_restart_first_file, a_commit_is_named_at_a_restart_second_file}
use Rattle.jn_system_settling.proofs.courses.rows.a_commit_is_named_at_a_restart.Goals as goal

pub returns-clause-steps : goal.returns-clause-steps
returns-clause-steps c = a_commit_is_named_at_a_restart_steps

pub returns-clause-lines : goal.returns-clause-lines
returns-clause-lines c = a_commit_is_named_at_a_restart

pub returns-clause-first_file : goal.returns-clause-first_file
returns-clause-first_file c = a_commit_is_named_at_a_restart_first_file

pub returns-clause-second_file : goal.returns-clause-second_file
returns-clause-second_file c = a_commit_is_named_at_a_restart_second_file
