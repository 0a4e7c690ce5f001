use Rattle.jn_device.proofs.Steps.{decays_sound}
use Rattle.jn_stable.proofs.power.PairsPowered.decay.Goals as goal

pub invariant_of-self : goal.invariant_of-self
invariant_of-self g c = decays_sound _ _ _ _ c.decay.ensures.decays c.self.invariant
