use Rattle.jn_locks.proofs.Common.{refl, standing_in, units_in}
use Rattle.jn_locks.proofs.Maps.{work_after}
use Rattle.jn_locks.proofs.works.Works.remove.Goals as goal

pub returns-clause-standing : goal.returns-clause-standing
returns-clause-standing c =
    work_after c.args.self.now.map c.args.work _ c.name_of.ensures standing_in (c.remove.new.self) _ c.remove.ensures.updates _ (refl)

pub returns-clause-units : goal.returns-clause-units
returns-clause-units c =
    work_after c.args.self.now.map c.args.work _ c.name_of.ensures units_in (c.remove.new.self) _ c.remove.ensures.updates _ (refl)
