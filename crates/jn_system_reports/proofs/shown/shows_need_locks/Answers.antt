use Rattle.jn_system_reports.proofs.Common.{◌≡◌, Some, None, refl, the_server, the_file}
use Rattle.jn_system_reports.proofs.shown.shows_need_locks.Goals as goal

none : {A : Type 0} {a : A} → Some a ≡ None → ⊥
none e = cc

pub returns-clause-wrong : goal.returns-clause-wrong
returns-clause-wrong c = λ h. none ((h 14 the_server refl refl).no_other_file the_file refl)
