-- What the runs report, computed.
use Rattle.jn_machine.proofs.Common.{◌≡◌, true, false, [], ◌∷◌, Some, refl, Allows, Recovered, whole_only}
use Rattle.jn_base.specs.declared.device.FaultKind.TheVariants as faults
use Rattle.jn_locks.specs.Locks as locks
use Rattle.jn_schedule.specs.declared.Event.TheVariants as events
use Rattle.jn_system.specs.WholeSystem.ExampleNames.{s0, s1, tid, half_made, the_work}
use Rattle.jn_machine.specs.Examples.{calm, calmly, at_step, stopped, finding, report, a_reader_gives_way, a_prepare_is_stopped, restarts_are_stopped, pages_fail, events_are_refused, half_prepared, half_committed}
use Rattle.jn_machine.specs.ExampleReports.{nothing_happens_report, refusals_are_told_report, a_prepare_stops_report, a_half_prepared_work_is_found_report, a_half_prepared_work_decays_report, a_half_written_flag_is_found_report, a_half_written_flag_decays_report, restarts_stop_early_report, restarts_stop_late_report, failing_pages_are_told_report, a_reader_is_broken_report, a_coordinator_is_stopped_twice_report}

pub nothing_happens : report 1 calmly 40 [] ≡ nothing_happens_report
unfolding locks.unit_before
nothing_happens = refl

pub refusals_are_told : report 1 calmly 60 events_are_refused ≡ refusals_are_told_report
unfolding locks.unit_before
refusals_are_told = refl

pub a_prepare_stops : report 1 (at_step 61 (stopped (λ c. whole_only 0)) calmly) 150 a_prepare_is_stopped ≡ a_prepare_stops_report
unfolding locks.unit_before
a_prepare_stops = refl

pub a_half_prepared_work_is_found : report 2 (at_step 65 (stopped half_made) (at_step 81 (finding true (the_work ∷ []) []) calmly)) 200 (half_prepared (events.Restart s0 ∷ events.Settle ∷ [])) ≡ a_half_prepared_work_is_found_report
unfolding locks.unit_before
a_half_prepared_work_is_found = refl

pub a_half_prepared_work_decays : report 2 (at_step 65 (stopped half_made) calmly) 200 (half_prepared (events.Decay s0 2 ∷ events.Restart s0 ∷ events.Settle ∷ [])) ≡ a_half_prepared_work_decays_report
unfolding locks.unit_before
a_half_prepared_work_decays = refl

pub a_half_written_flag_is_found : report 2 (at_step 66 (stopped half_made) (at_step 82 (finding true [] (tid s1 0 ∷ [])) calmly)) 200 (half_committed (events.Restart s1 ∷ events.Settle ∷ [])) ≡ a_half_written_flag_is_found_report
unfolding locks.unit_before
a_half_written_flag_is_found = refl

pub a_half_written_flag_decays : report 2 (at_step 66 (stopped half_made) calmly) 200 (half_committed (events.Decay s1 1 ∷ events.Restart s1 ∷ events.Settle ∷ [])) ≡ a_half_written_flag_decays_report
unfolding locks.unit_before
a_half_written_flag_decays = refl

pub restarts_stop_early : report 1 (at_step 102 (stopped (λ c. whole_only 0)) (at_step 106 (stopped (λ c. whole_only 0)) calmly)) 115 (restarts_are_stopped (events.Arm s0 404 faults.StopTorn)) ≡ restarts_stop_early_report
unfolding locks.unit_before
restarts_stop_early = refl

pub restarts_stop_late : report 1 (at_step 102 (stopped (λ c. whole_only 0)) (at_step 106 (stopped (λ c. whole_only 1)) calmly)) 115 (restarts_are_stopped (events.Arm s0 406 faults.StopBefore)) ≡ restarts_stop_late_report
unfolding locks.unit_before
restarts_stop_late = refl

pub failing_pages_are_told : report 1 (at_step 4 (record calm { found = Allows false }) (at_step 71 (record calm { told = record { kind = faults.Null; page = 1 } ∷ [] }) calmly)) 200 pages_fail ≡ failing_pages_are_told_report
unfolding locks.unit_before
failing_pages_are_told = refl

pub a_reader_is_broken : report 1 calmly 290 a_reader_gives_way ≡ a_reader_is_broken_report
unfolding locks.unit_before
a_reader_is_broken = refl

pub a_coordinator_is_stopped_twice : report 2 (at_step 66 (stopped half_made) (at_step 84 (record calm { stop = Some (λ c. whole_only 0); found = Recovered (λ c n. true) [] [] }) (at_step 86 (finding true [] (tid s1 0 ∷ [])) calmly))) 220 (half_committed (events.Arm s1 9 faults.StopAfter ∷ events.Restart s1 ∷ events.Restart s1 ∷ events.Settle ∷ [])) ≡ a_coordinator_is_stopped_twice_report
unfolding locks.unit_before
a_coordinator_is_stopped_twice = refl
