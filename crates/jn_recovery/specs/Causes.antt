-- Why there is no storage, by why something wasn't read.
use Rattle.jn_base.specs.declared.fault.CallFault.{CallFault}
use Rattle.jn_base.specs.declared.fault.CallFault.TheVariants as faults
use Rattle.jn_recovery.specs.declared.load.DownCause.{DownCause}
use Rattle.jn_recovery.specs.declared.load.DownCause.TheVariants.{Stopped, Memory}

abbrev pub down_of : CallFault → DownCause
down_of faults.Stopped = Stopped
down_of faults.Memory = Memory
