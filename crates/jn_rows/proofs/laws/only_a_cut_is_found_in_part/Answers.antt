use Rattle.jn_rows.proofs.Left.{stop-is-whole, one-is-whole, left-files}
use Rattle.jn_rows.proofs.laws.only_a_cut_is_found_in_part.Goals as goal

pub returns-clause-several : goal.returns-clause-several
returns-clause-several c = stop-is-whole

pub returns-clause-one : goal.returns-clause-one
returns-clause-one c = one-is-whole

pub returns-clause-part : goal.returns-clause-part
returns-clause-part c = left-files
