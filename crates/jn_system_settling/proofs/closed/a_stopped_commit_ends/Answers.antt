use Rattle.jn_system_settling.proofs.Common.{[], ◌∷◌, Some, None, refl, arith, tid_eq, work_eq, work_tells, tid_tells, work_before, Prepared, FlagState, at_work, at_tid, AreNames, tid_before, the_transaction, the_work}
use Rattle.jn_system_settling.proofs.closed.a_stopped_commit_ends.Goals as goal

one_work : (p : Prepared) → AreNames work_eq work_before (at_work (λ V. None) the_work (Some p)) (the_work ∷ [])
one_work p = record { each = λ a. grind (arith, work_tells); rising = refl }

one_flag : (p : FlagState) → AreNames tid_eq tid_before (at_tid (λ V. None) the_transaction (Some p)) (the_transaction ∷ [])
one_flag p = record { each = λ a. grind (arith, tid_tells); rising = refl }

pub returns-clause-steps : goal.returns-clause-steps
returns-clause-steps c = (tt, (tt, (tt, ((one_work _, one_flag _), ((λ d. (refl, refl)), tt)))))
