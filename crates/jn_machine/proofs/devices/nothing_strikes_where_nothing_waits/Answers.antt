use Rattle.jn_machine.proofs.Struck.{nothing-strikes}
use Rattle.jn_machine.proofs.devices.nothing_strikes_where_nothing_waits.Goals as goal

pub returns : goal.returns
returns c = nothing-strikes
