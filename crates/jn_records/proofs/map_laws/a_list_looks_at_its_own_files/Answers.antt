use Rattle.jn_records.proofs.Supplied.{supplied-more, own-lacking}
use Rattle.jn_records.proofs.map_laws.a_list_looks_at_its_own_files.Goals as goal

pub returns-clause-more : goal.returns-clause-more
returns-clause-more c = supplied-more

pub returns-clause-own : goal.returns-clause-own
returns-clause-own c = own-lacking
