use Rattle.jn_records.proofs.PartCuts.{part-files}
use Rattle.jn_records.proofs.layout_laws.a_layout_in_part_is_a_cut_in_part.Goals as goal

pub returns : goal.returns
returns c = part-files
