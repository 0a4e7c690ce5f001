use Rattle.jn_system_reports.proofs.Common.{◌≤◌, [], ◌∷◌, Some, None, refl, arith, tid_eq, work_eq, work_tells, tid_tells, work_before, Prepared, FlagState, at_work, at_tid, AreNames, tid_before, the_transaction, the_work}
use Rattle.jn_system_reports.proofs.reports.a_commit_is_reported.Goals as goal

one_work : (p : Prepared) → AreNames work_eq work_before (at_work (λ V. None) the_work (Some p)) (the_work ∷ [])
one_work p = record { each = λ a. grind (arith, work_tells); rising = refl }

one_flag : (p : FlagState) → AreNames tid_eq tid_before (at_tid (λ V. None) the_transaction (Some p)) (the_transaction ∷ [])
one_flag p = record { each = λ a. grind (arith, tid_tells); rising = refl }

one_waits : 1 ≤ 1
one_waits = omega arith

pub returns-clause-reported : goal.returns-clause-reported
returns-clause-reported c = record {
  under = (refl, (refl, (refl, (refl, (refl, (refl, (refl, (refl, (refl, (refl, (refl, (refl, tt))))))))))));
  steps = (tt, (tt, (tt, (tt, (tt, (tt, (tt, (tt, (tt, (tt, (tt, (tt, (tt, (tt, (tt, (tt, (tt, (tt, (tt, (tt, (tt, (tt, (tt, ((one_work _, one_flag _), (tt, (tt, (tt, (tt, tt))))))))))))))))))))))))))));
  shows = (tt, (tt, (tt, (tt, (tt, (tt, (tt, (tt, (tt, (tt, (tt, (tt, tt))))))))))));
  faults = (tt, ((tt, tt), (tt, ((tt, tt), (tt, ((tt, tt), (tt, (tt, ((one_waits, tt), ((tt, (tt, tt)), (tt, ((tt, tt), tt))))))))))));
}
