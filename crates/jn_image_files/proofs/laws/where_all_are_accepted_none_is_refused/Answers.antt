use Rattle.jn_image_files.proofs.Exclusive.{none_refused}
use Rattle.jn_image_files.proofs.laws.where_all_are_accepted_none_is_refused.Goals as goal

pub returns : goal.returns
returns c = none_refused
