use Rattle.jn_system.proofs.Common.{◌≡◌, NoFile, Found, zeros}
use Rattle.jn_system.specs.WholeSystem.WrongRuns.{worker}
use Rattle.jn_system.proofs.protocol.wrong.wrong_rows_mix_the_order.Goals as goal

not-none : Found zeros ≡ NoFile → ⊥
not-none e = cc

not-found : NoFile ≡ Found zeros → ⊥
not-found e = cc

pub returns-clause-reads_freed_at_prepare : goal.returns-clause-reads_freed_at_prepare
returns-clause-reads_freed_at_prepare c = λ h. not-none (h.serial.0 worker).0

pub returns-clause-reads_not_rebuilt : goal.returns-clause-reads_not_rebuilt
returns-clause-reads_not_rebuilt c = λ h. not-none (h.serial.0 worker).0

pub returns-clause-named_in_another_order : goal.returns-clause-named_in_another_order
returns-clause-named_in_another_order c = λ h. not-found (h.serial.1.0 worker).0
