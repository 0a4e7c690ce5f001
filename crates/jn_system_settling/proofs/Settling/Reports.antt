-- What the runs report, computed.
use Rattle.jn_system_settling.proofs.Common.{◌≡◌, [], ◌∷◌, Some, None, refl, arith, there, Prepared, FlagState, Pick, at_work, at_tid, AreNames, tid_before, Tid, WorkId, tid_eq, work_eq, work_tells, tid_tells, work_before, line, AreSteps}
use Rattle.jn_base.specs.declared.names.LockUnit.TheVariants.{File, Block}
use Rattle.jn_locks.specs.Locks as locks
use Rattle.jn_report.specs.declared.line.Refusal.TheVariants.{Locked}
use Rattle.jn_report.specs.declared.line.Text.TheVariants as says
use Rattle.jn_system_settling.specs.Settling.Rows.{start, told, report, without_stale, one_write, stopped_at_prepare, two_at_a_block, a_reader_breaks, two_wait, half_prepared, not_prepared, revived_and_prepared, half_committed, not_committed, goes_on_beside}
use Rattle.jn_schedule.specs.Grammar.{filled}
use Rattle.jn_system.specs.WholeSystem.ExampleNames.{s0, s1, c1, c2, tid, file, block, the_work}
use Rattle.jn_system_settling.specs.Settling.RowReports.{one_client_writes_report, a_prepare_is_stopped_report, a_write_waits_for_a_reader_report, a_reader_gives_way_report, two_clients_wait_report, a_stopped_prepare_is_found_report, a_stopped_prepare_is_lost_report, a_stopped_prepare_comes_back_report, a_stopped_commit_is_found_report, a_stopped_commit_is_lost_report}

-- ---- what the restarts find

no-works : AreNames {A = WorkId} {B = Prepared} work_eq work_before (λ V. None) []
no-works = record { each = λ a. refl; rising = refl }

no-flags : AreNames {A = Tid} {B = FlagState} tid_eq tid_before (λ T. None) []
no-flags = record { each = λ a. refl; rising = refl }

one-work : (p : Prepared) → AreNames work_eq work_before (at_work (λ V. None) the_work (Some p)) (the_work ∷ [])
one-work p = record { each = λ a. grind (arith, work_tells); rising = refl }

one-flag : (p : FlagState) → AreNames tid_eq tid_before (at_tid (λ T. None) (tid s1 0) (Some p)) (tid s1 0 ∷ [])
one-flag p = record { each = λ a. grind (arith, tid_tells); rising = refl }

-- ---- the runs

pub one_client_writes_page : (c : Pick) → ((told 1 (one_write (filled (104 ∷ 105 ∷ [])))).course.world.found s0 c).files (Block (file 7) (block 0)) ≡ Some (filled (104 ∷ 105 ∷ []))
unfolding locks.unit_before
one_client_writes_page c = refl

pub one_client_writes : report 1 (one_write (filled (104 ∷ 105 ∷ []))) ≡ one_client_writes_report
unfolding locks.unit_before
one_client_writes = refl

pub one_client_writes_steps : AreSteps 1 (one_write (filled (104 ∷ 105 ∷ []))) (start 1)
unfolding locks.unit_before
one_client_writes_steps = ((tt, tt), ((tt, tt), ((tt, tt), ((tt, tt), ((tt, tt), tt)))))

pub a_prepare_is_stopped : report 1 stopped_at_prepare ≡ a_prepare_is_stopped_report
unfolding locks.unit_before
a_prepare_is_stopped = refl

pub a_prepare_is_stopped_steps : AreSteps 1 stopped_at_prepare (start 1)
unfolding locks.unit_before
a_prepare_is_stopped_steps = ((tt, tt), ((tt, tt), ((tt, tt), (tt, ((tt, tt), (((no-works, no-flags), tt), tt))))))

pub a_write_waits_for_a_reader : report 1 two_at_a_block ≡ a_write_waits_for_a_reader_report
unfolding locks.unit_before
a_write_waits_for_a_reader = refl

pub a_write_waits_for_a_reader_steps : AreSteps 1 two_at_a_block (start 1)
unfolding locks.unit_before
a_write_waits_for_a_reader_steps = ((tt, tt), ((tt, tt), ((tt, tt), ((tt, tt), ((tt, tt), ((tt, tt), ((tt, tt), ((tt, tt), ((tt, tt), ((tt, tt), ((tt, tt), ((tt, tt), tt))))))))))))

pub a_reader_gives_way_page : (c : Pick) → ((told 1 a_reader_breaks).course.world.found s0 c).files (Block (file 7) (block 0)) ≡ Some (filled (98 ∷ []))
unfolding locks.unit_before
a_reader_gives_way_page c = refl

pub a_reader_gives_way : report 1 a_reader_breaks ≡ a_reader_gives_way_report
unfolding locks.unit_before
a_reader_gives_way = refl

pub a_reader_gives_way_steps : AreSteps 1 a_reader_breaks (start 1)
unfolding locks.unit_before
a_reader_gives_way_steps = ((tt, tt), ((tt, tt), ((tt, tt), ((tt, tt), ((tt, tt), ((tt, tt), ((tt, tt), ((tt, tt), ((tt, tt), ((tt, tt), ((tt, tt), ((tt, tt), ((tt, tt), ((tt, tt), ((tt, tt), tt)))))))))))))))

pub two_clients_wait_file : (c : Pick) → ((told 2 two_wait).course.world.found s0 c).files (File (file 7)) ≡ Some there
unfolding locks.unit_before
two_clients_wait_file c = refl

pub two_clients_wait : report 2 two_wait ≡ two_clients_wait_report
unfolding locks.unit_before
two_clients_wait = refl

pub two_clients_wait_steps : AreSteps 2 two_wait (start 2)
unfolding locks.unit_before
two_clients_wait_steps = ((tt, tt), ((tt, tt), ((tt, tt), ((tt, tt), ((tt, tt), ((tt, tt), ((tt, tt), ((tt, tt), ((tt, tt), ((tt, tt), ((tt, tt), ((tt, tt), ((tt, tt), tt)))))))))))))

pub a_stopped_prepare_is_found_or_not_found_file : (c : Pick) → ((told 2 half_prepared).course.world.found s0 c).files (File (file 7)) ≡ Some there
unfolding locks.unit_before
a_stopped_prepare_is_found_or_not_found_file c = refl

pub a_stopped_prepare_is_found_or_not_found : report 2 half_prepared ≡ a_stopped_prepare_is_found_report
unfolding locks.unit_before
a_stopped_prepare_is_found_or_not_found = refl

pub a_stopped_prepare_is_found_or_not_found_steps : AreSteps 2 half_prepared (start 2)
unfolding locks.unit_before
a_stopped_prepare_is_found_or_not_found_steps = ((tt, tt), ((tt, tt), ((tt, tt), (tt, ((tt, tt), (((one-work _, no-flags), tt), tt))))))

pub a_stopped_prepare_is_found_or_not_decayed : report 2 not_prepared ≡ a_stopped_prepare_is_lost_report
unfolding locks.unit_before
a_stopped_prepare_is_found_or_not_decayed = refl

pub a_stopped_prepare_is_found_or_not_decayed_steps : AreSteps 2 not_prepared (start 2)
unfolding locks.unit_before
a_stopped_prepare_is_found_or_not_decayed_steps = ((tt, tt), ((tt, tt), ((tt, tt), (tt, ((tt, tt), (tt, (((no-works, no-flags), tt), tt)))))))

pub a_stopped_prepare_is_found_or_not_revived : report 2 revived_and_prepared ≡ a_stopped_prepare_comes_back_report
unfolding locks.unit_before
a_stopped_prepare_is_found_or_not_revived = refl

pub a_stopped_prepare_is_found_or_not_revived_steps : AreSteps 2 revived_and_prepared (start 2)
unfolding locks.unit_before
a_stopped_prepare_is_found_or_not_revived_steps = ((tt, tt), ((tt, tt), ((tt, tt), (tt, ((tt, tt), (tt, (tt, (((one-work _, no-flags), tt), tt))))))))

pub a_stopped_prepare_is_found_or_not_revived_file : (c : Pick) → ((told 2 revived_and_prepared).course.world.found s0 c).files (File (file 7)) ≡ Some there
unfolding locks.unit_before
a_stopped_prepare_is_found_or_not_revived_file c = refl

pub a_stopped_commit_is_found_or_not_found_file : (c : Pick) → ((told 2 half_committed).course.world.found s0 c).files (File (file 7)) ≡ Some there
unfolding locks.unit_before
a_stopped_commit_is_found_or_not_found_file c = refl

pub a_stopped_commit_is_found_or_not_found : report 2 half_committed ≡ a_stopped_commit_is_found_report
unfolding locks.unit_before
a_stopped_commit_is_found_or_not_found = refl

pub a_stopped_commit_is_found_or_not_found_steps : AreSteps 2 half_committed (start 2)
unfolding locks.unit_before
a_stopped_commit_is_found_or_not_found_steps = ((tt, tt), ((tt, tt), ((tt, tt), (tt, ((tt, tt), (((no-works, one-flag _), tt), tt))))))

pub a_stopped_commit_is_found_or_not_decayed : report 2 not_committed ≡ a_stopped_commit_is_lost_report
unfolding locks.unit_before
a_stopped_commit_is_found_or_not_decayed = refl

pub a_stopped_commit_is_found_or_not_decayed_steps : AreSteps 2 not_committed (start 2)
unfolding locks.unit_before
a_stopped_commit_is_found_or_not_decayed_steps = ((tt, tt), ((tt, tt), ((tt, tt), (tt, ((tt, tt), (tt, (((no-works, no-flags), tt), tt)))))))

pub a_commit_is_named_at_a_restart_first_file : (c : Pick) → ((told 2 goes_on_beside).course.world.found s0 c).files (File (file 7)) ≡ Some there
unfolding locks.unit_before
a_commit_is_named_at_a_restart_first_file c = refl

pub a_commit_is_named_at_a_restart_second_file : (c : Pick) → ((told 2 goes_on_beside).course.world.found s0 c).files (File (file 8)) ≡ Some there
unfolding locks.unit_before
a_commit_is_named_at_a_restart_second_file c = refl

pub a_commit_is_named_at_a_restart : without_stale (report 2 goes_on_beside)
    ≡ line 2 (says.Begun c1 1 (tid s1 0))
    ∷ line 4 (says.Opened c1 3 s0)
    ∷ line 6 (says.Did c1 5)
    ∷ line 9 (says.Stopped s1)
    ∷ line 11 (says.Begun c2 10 (tid s0 1))
    ∷ line 13 (says.Opened c2 12 s0)
    ∷ line 15 (says.Refused c2 14 (Locked (File (file 7)) (tid s1 0)))
    ∷ line 17 (says.Did c2 16)
    ∷ line 19 (says.Commit (tid s0 1))
    ∷ line 19 (says.Committed c2 18 (tid s0 1))
    ∷ line 20 (says.Up s1 2)
    ∷ line 20 (says.Commit (tid s1 0))
    ∷ line 21 (says.Committed c1 8 (tid s1 0))
    ∷ []
unfolding locks.unit_before
a_commit_is_named_at_a_restart = refl

pub a_commit_is_named_at_a_restart_steps : AreSteps 2 goes_on_beside (start 2)
unfolding locks.unit_before
a_commit_is_named_at_a_restart_steps = ((tt, tt), ((tt, tt), ((tt, tt), (tt, ((tt, tt), ((tt, tt), ((tt, tt), ((tt, tt), ((tt, tt), ((tt, tt), (((no-works, one-flag _), tt), tt)))))))))))
