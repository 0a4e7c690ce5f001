use Rattle.jn_system_reports.proofs.Common.{opening, run}
use Rattle.jn_system_reports.proofs.BetweenSteps.Standing.{stand, run-stands}
use Rattle.jn_system_reports.proofs.BetweenSteps.Laws.{works-stay, as-prepared, reads-kept}
use Rattle.jn_system_reports.proofs.facts.works_of_commits_stay.Goals as goal

pub returns-clause-stay : goal.returns-clause-stay
returns-clause-stay c = λ servers files epochs steps i. works-stay files epochs (run steps (opening servers files epochs)) (stand files epochs servers steps i)

pub returns-clause-as_prepared : goal.returns-clause-as_prepared
returns-clause-as_prepared c = λ servers files epochs steps more i j. let h = stand files epochs servers steps i in
    as-prepared files epochs (run steps (opening servers files epochs)) (run more (run steps (opening servers files epochs))) h (run-stands files epochs more (run steps (opening servers files epochs)) h j)

pub returns-clause-reads : goal.returns-clause-reads
returns-clause-reads c = λ servers files epochs steps more i j. let h = stand files epochs servers steps i in
    reads-kept files epochs (run steps (opening servers files epochs)) (run more (run steps (opening servers files epochs))) h (run-stands files epochs more (run steps (opening servers files epochs)) h j)
