use Rattle.jn_fields.proofs.NamesAgain.{tid_again, work_again, unit_again}
use Rattle.jn_fields.proofs.laws.fields_are_read_back.Goals as goal

pub returns-clause-tids : goal.returns-clause-tids
returns-clause-tids c = tid_again

pub returns-clause-works : goal.returns-clause-works
returns-clause-works c = work_again

pub returns-clause-units : goal.returns-clause-units
returns-clause-units c = λ u rest fits page. unit_again u rest (fits, page)
