use Rattle.jn_aside.proofs.Showing.{agrees-aside}
use Rattle.jn_aside.proofs.answers_agree_aside.Goals as goal

pub returns : goal.returns
returns c = λ files events a b e. agrees-aside events a b e files
