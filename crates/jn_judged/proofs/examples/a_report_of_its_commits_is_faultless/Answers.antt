use Rattle.jn_judged.proofs.Faultless.{right-report}
use Rattle.jn_judged.proofs.examples.a_report_of_its_commits_is_faultless.Goals as goal

pub returns : goal.returns
returns c = right-report
