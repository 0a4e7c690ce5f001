use Rattle.std.proofs.Common.{◌≡◌, List, true, subst, sym}
use Rattle.jn_device.specs.declared.Armed.{Armed}
use Rattle.jn_memdisk.specs.Faults.{all_within}
use Rattle.jn_memdisk.proofs.Within.{strikes_within, waits_within}
use Rattle.jn_memdisk.proofs.faults.Faults.strike.Goals as goal

pub returns-clause-strikes_within : goal.returns-clause-strikes_within
returns-clause-strikes_within c count h = strikes_within count c.args.self.now.waiting.items _ c.strike.ensures.struck h

pub returns-clause-waits_within : goal.returns-clause-waits_within
returns-clause-waits_within c count h =
    subst (λ (ws : List Armed). all_within count ws ≡ true) (sym c.strike.ensures.rest) (waits_within count c.args.self.now.waiting.items h)
