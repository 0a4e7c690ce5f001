use Rattle.jn_row_ranges.proofs.Common.{opening}
use Rattle.jn_row_ranges.proofs.WorldNumbers.{run-covered, opening-covered}
use Rattle.jn_row_ranges.proofs.runs.names_are_fewer_than_messages.Goals as goal

pub returns : goal.returns
returns c = λ servers files epochs steps. run-covered steps (opening servers files epochs) (opening-covered servers files epochs)
