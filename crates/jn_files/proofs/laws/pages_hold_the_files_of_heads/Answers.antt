use Rattle.jn_files.proofs.Said.{files_said}
use Rattle.jn_files.proofs.laws.pages_hold_the_files_of_heads.Goals as goal

pub returns : goal.returns
returns c = λ g pages rows heads slots small are says. files_said g rows heads pages slots small are says
