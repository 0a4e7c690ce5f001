use Rattle.jn_records.proofs.FilesThereLemmas.{there-elsewhere}
use Rattle.jn_records.proofs.net_laws.the_files_named_tell_whether_files_are_there.Goals as goal

pub returns : goal.returns
returns c = there-elsewhere
