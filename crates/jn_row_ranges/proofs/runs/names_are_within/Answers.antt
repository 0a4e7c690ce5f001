use Rattle.jn_row_ranges.proofs.Common.{opening, run}
use Rattle.jn_row_ranges.proofs.WorldSteps.{run-within, opening-within, sent-near}
use Rattle.jn_row_ranges.proofs.runs.names_are_within.Goals as goal

pub returns-clause-names : goal.returns-clause-names
returns-clause-names c = λ servers files epochs steps. run-within servers steps (opening servers files epochs) (opening-within servers files epochs)

pub returns-clause-sent : goal.returns-clause-sent
returns-clause-sent c = λ servers files epochs steps. sent-near servers (run steps (opening servers files epochs)) (run-within servers steps (opening servers files epochs) (opening-within servers files epochs))
