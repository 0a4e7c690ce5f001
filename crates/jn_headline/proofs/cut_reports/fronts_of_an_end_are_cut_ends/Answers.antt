use Rattle.jn_headline.proofs.CutReports.Fronts.{fronts}
use Rattle.jn_headline.proofs.cut_reports.fronts_of_an_end_are_cut_ends.Goals as goal

pub returns : goal.returns
returns c = fronts
