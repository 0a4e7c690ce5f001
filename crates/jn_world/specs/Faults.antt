-- Why a run ends where a message isn't sent.
use Rattle.jn_net.specs.declared.SendFault.{SendFault}
use Rattle.jn_world.specs.declared.ended.Ended.{Ended}
use Rattle.jn_world.specs.declared.ended.Ended.TheVariants as ends
use Rattle.jn_net.specs.declared.SendFault.TheVariants as faults

abbrev pub ended_by : SendFault → Ended
ended_by faults.Limit = ends.Messages
ended_by faults.Memory = ends.Memory
