use Rattle.jn_system_settling.proofs.AtRest.OnTheWay.{on-their-way}
use Rattle.jn_system_settling.proofs.calls.operations_are_on_their_way.Goals as goal

pub returns : goal.returns
returns c = λ servers files epochs steps few is. on-their-way servers few files epochs steps is
