use Rattle.jn_system_settling.proofs.Settling.Reports.{a_reader_gives_way, a_reader_gives_way_steps, a_reader_gives_way_page}
use Rattle.jn_system_settling.proofs.courses.rows.a_reader_gives_way.Goals as goal

pub returns-clause-steps : goal.returns-clause-steps
returns-clause-steps c = a_reader_gives_way_steps

pub returns-clause-lines : goal.returns-clause-lines
returns-clause-lines c = a_reader_gives_way

pub returns-clause-page : goal.returns-clause-page
returns-clause-page c = a_reader_gives_way_page
