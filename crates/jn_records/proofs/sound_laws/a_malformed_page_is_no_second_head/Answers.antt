use Rattle.jn_records.proofs.Malformed.{begins-used, begins-same, first-head, no-head, one-head}
use Rattle.jn_records.proofs.sound_laws.a_malformed_page_is_no_second_head.Goals as goal

pub returns-clause-used : goal.returns-clause-used
returns-clause-used c = begins-used

pub returns-clause-same_file : goal.returns-clause-same_file
returns-clause-same_file c = begins-same

pub returns-clause-one_head : goal.returns-clause-one_head
returns-clause-one_head c = one-head

pub returns-clause-head : goal.returns-clause-head
returns-clause-head c = first-head

pub returns-clause-no_head : goal.returns-clause-no_head
returns-clause-no_head c = no-head
