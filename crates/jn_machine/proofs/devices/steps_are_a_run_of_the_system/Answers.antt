use Rattle.jn_machine.proofs.Common.{refl, closed_world, before}
use Rattle.jn_machine.proofs.Coursed.{on-course}
use Rattle.jn_machine.proofs.devices.steps_are_a_run_of_the_system.Goals as goal

pub returns : goal.returns
returns c x schedule images now h = (h.files, h.epochs, on-course (closed_world x.servers h.files h.epochs) x (record { state = before x schedule h.files h.epochs; devices = images }) now h.leads (record { steps = tt; world = refl }))
