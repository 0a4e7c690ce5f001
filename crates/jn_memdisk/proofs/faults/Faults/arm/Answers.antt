use Rattle.std.proofs.Common.{◌≡◌, List, true, subst, sym}
use Rattle.jn_device.specs.declared.Armed.{Armed}
use Rattle.jn_memdisk.specs.Faults.{all_within}
use Rattle.jn_memdisk.proofs.Within.{arms_within}
use Rattle.jn_memdisk.proofs.faults.Faults.arm.Goals as goal

pub returns-clause-waits_within : goal.returns-clause-waits_within
returns-clause-waits_within c count h k =
    subst (λ (ws : List Armed). all_within count ws ≡ true) (sym c.push_reserved.ensures.items) (arms_within count c.args.self.now.waiting.items _ h k)
