use Rattle.jn_headline.proofs.Headline.{whole-run}
use Rattle.jn_headline.proofs.reports_of_whole_runs.Goals as goal

pub returns : goal.returns
returns c = λ x schedule files now few of r stage tasks. whole-run x schedule files now few of r stage tasks
