use Rattle.std.proofs.Common.{rules, refl}
use Rattle.jn_coord.proofs.Restart.{restored_as}
use Rattle.jn_coord.proofs.coordinator.Coordinator.restore.Goals as goal

pub returns : goal.returns
returns g c = restored_as _ c.flags-flags.result.now c.reserve.new.self.items _ c.see_all.new.requests c.flags-flags.ensures c.requires.serving c.requires.none c.see_all.ensures.clients refl (search rules) c.see_all.ensures.seen
