use Rattle.jn_system_reports.proofs.Showing.Shows.{run-shown}
use Rattle.jn_system_reports.proofs.shown.shows_are_of_commits.Goals as goal

pub returns : goal.returns
returns c = run-shown
