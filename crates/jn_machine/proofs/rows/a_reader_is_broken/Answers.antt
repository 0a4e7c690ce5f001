use Rattle.jn_machine.proofs.Reports.{a_reader_is_broken}
use Rattle.jn_machine.proofs.rows.a_reader_is_broken.Goals as goal

pub returns : goal.returns
returns c = a_reader_is_broken
