use Rattle.jn_records.proofs.FilesThereLemmas.{still-there}
use Rattle.jn_records.proofs.net_laws.an_operation_that_was_done_keeps_the_files_there.Goals as goal

pub returns : goal.returns
returns c = λ old new op files h h' same did t. still-there old new op files h.order h'.order same did t
