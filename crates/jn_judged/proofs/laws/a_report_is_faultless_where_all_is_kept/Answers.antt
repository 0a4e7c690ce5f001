use Rattle.jn_judged.proofs.Kept.{all-kept}
use Rattle.jn_judged.proofs.laws.a_report_is_faultless_where_all_is_kept.Goals as goal

pub returns : goal.returns
returns c = all-kept
