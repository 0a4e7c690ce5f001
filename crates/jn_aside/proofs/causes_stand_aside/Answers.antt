use Rattle.jn_aside.proofs.Causing.{caused-aside}
use Rattle.jn_aside.proofs.causes_stand_aside.Goals as goal

pub returns : goal.returns
returns c = caused-aside
