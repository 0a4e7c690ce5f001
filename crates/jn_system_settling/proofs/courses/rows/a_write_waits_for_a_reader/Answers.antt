use Rattle.jn_system_settling.proofs.Settling.Reports.{a_write_waits_for_a_reader, a_write_waits_for_a_reader_steps}
use Rattle.jn_system_settling.proofs.courses.rows.a_write_waits_for_a_reader.Goals as goal

pub returns-clause-steps : goal.returns-clause-steps
returns-clause-steps c = a_write_waits_for_a_reader_steps

pub returns-clause-lines : goal.returns-clause-lines
returns-clause-lines c = a_write_waits_for_a_reader
