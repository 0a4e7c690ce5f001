use Rattle.jn_headline.proofs.Headline.{of-commits}
use Rattle.jn_headline.proofs.whole_reports.reports_are_of_their_commits.Goals as goal

pub returns : goal.returns
returns c = of-commits
