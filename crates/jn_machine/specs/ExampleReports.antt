-- What the examples report, line by line.
use Rattle.std.specs.Prelude.{List, [], ◌∷◌}
use Rattle.jn_base.specs.declared.device.FaultKind.TheVariants as faults
use Rattle.jn_base.specs.declared.names.Cause.TheVariants.{Lost, Broken}
use Rattle.jn_base.specs.declared.names.LockUnit.TheVariants.{Block}
use Rattle.jn_report.specs.declared.line.EventRefusal.TheVariants as refusals
use Rattle.jn_report.specs.declared.line.Text.TheVariants as says
use Rattle.jn_system.specs.WholeSystem.ExampleNames.{s0, s1, c1, c2, tid, file, block}
use Rattle.jn_machine.specs.Examples.{block_of, line, at_end}
use Rattle.jn_report.specs.declared.line.Line.{Line}

abbrev pub nothing_happens_report : List Line
nothing_happens_report = line 0 (says.Up s0 1)
    ∷ at_end (says.Down s0)
    ∷ at_end (says.Up s0 2)
    ∷ at_end (says.Commits 0)
    ∷ []

abbrev pub refusals_are_told_report : List Line
refusals_are_told_report = line 0 (says.Up s0 1)
    ∷ line 1 (says.RefusedEvent refusals.ServerUp)
    ∷ line 2 (says.Down s0)
    ∷ line 3 (says.RefusedEvent refusals.ServerDown)
    ∷ line 4 (says.RefusedEvent refusals.NoSuchMessage)
    ∷ line 5 (says.RefusedEvent refusals.ServerDown)
    ∷ line 6 (says.Up s0 2)
    ∷ line 7 (says.RefusedEvent refusals.NoSuchWork)
    ∷ line 8 (says.RefusedEvent refusals.NoSuchPage)
    ∷ at_end (says.Down s0)
    ∷ at_end (says.Up s0 3)
    ∷ at_end (says.Commits 0)
    ∷ []

abbrev pub a_prepare_stops_report : List Line
a_prepare_stops_report = line 0 (says.Up s0 1)
    ∷ line 2 (says.Begun c1 1 (tid s0 0))
    ∷ line 4 (says.Opened c1 3 s0)
    ∷ line 6 (says.Did c1 5)
    ∷ line 9 (says.Stopped s0)
    ∷ line 9 (says.Lost 10)
    ∷ line 10 (says.Up s0 2)
    ∷ line 11 (says.Aborted c1 8 (tid s0 0) (Lost s0))
    ∷ line 11 (says.Ignored 13)
    ∷ at_end (says.Down s0)
    ∷ at_end (says.Up s0 3)
    ∷ at_end (says.Commits 0)
    ∷ []

abbrev pub a_half_prepared_work_is_found_report : List Line
a_half_prepared_work_is_found_report = line 0 (says.Up s0 1)
    ∷ line 0 (says.Up s1 1)
    ∷ line 2 (says.Begun c1 1 (tid s1 0))
    ∷ line 4 (says.Opened c1 3 s0)
    ∷ line 6 (says.Did c1 5)
    ∷ line 9 (says.Stopped s0)
    ∷ line 9 (says.Lost 11)
    ∷ line 10 (says.Up s0 2)
    ∷ line 11 (says.Commit (tid s1 0))
    ∷ line 11 (says.Committed c1 8 (tid s1 0))
    ∷ at_end (says.Down s0)
    ∷ at_end (says.Down s1)
    ∷ at_end (says.Up s0 3)
    ∷ at_end (says.Up s1 2)
    ∷ at_end (says.File s0 (file 7))
    ∷ at_end (says.Commits 1)
    ∷ []

abbrev pub a_half_prepared_work_decays_report : List Line
a_half_prepared_work_decays_report = line 0 (says.Up s0 1)
    ∷ line 0 (says.Up s1 1)
    ∷ line 2 (says.Begun c1 1 (tid s1 0))
    ∷ line 4 (says.Opened c1 3 s0)
    ∷ line 6 (says.Did c1 5)
    ∷ line 9 (says.Stopped s0)
    ∷ line 9 (says.Lost 11)
    ∷ line 11 (says.Up s0 2)
    ∷ line 12 (says.Aborted c1 8 (tid s1 0) (Lost s0))
    ∷ at_end (says.Down s0)
    ∷ at_end (says.Down s1)
    ∷ at_end (says.Up s0 3)
    ∷ at_end (says.Up s1 2)
    ∷ at_end (says.Commits 0)
    ∷ []

abbrev pub a_half_written_flag_is_found_report : List Line
a_half_written_flag_is_found_report = line 0 (says.Up s0 1)
    ∷ line 0 (says.Up s1 1)
    ∷ line 2 (says.Begun c1 1 (tid s1 0))
    ∷ line 4 (says.Opened c1 3 s0)
    ∷ line 6 (says.Did c1 5)
    ∷ line 9 (says.Stopped s1)
    ∷ line 9 (says.Lost 11)
    ∷ line 9 (says.Lost 12)
    ∷ line 10 (says.Up s1 2)
    ∷ line 10 (says.Commit (tid s1 0))
    ∷ line 11 (says.Committed c1 8 (tid s1 0))
    ∷ line 11 (says.Ignored 18)
    ∷ line 11 (says.Ignored 20)
    ∷ at_end (says.Down s0)
    ∷ at_end (says.Down s1)
    ∷ at_end (says.Up s0 2)
    ∷ at_end (says.Up s1 3)
    ∷ at_end (says.File s0 (file 7))
    ∷ at_end (says.Commits 1)
    ∷ []

abbrev pub a_half_written_flag_decays_report : List Line
a_half_written_flag_decays_report = line 0 (says.Up s0 1)
    ∷ line 0 (says.Up s1 1)
    ∷ line 2 (says.Begun c1 1 (tid s1 0))
    ∷ line 4 (says.Opened c1 3 s0)
    ∷ line 6 (says.Did c1 5)
    ∷ line 9 (says.Stopped s1)
    ∷ line 9 (says.Lost 11)
    ∷ line 9 (says.Lost 12)
    ∷ line 11 (says.Up s1 2)
    ∷ line 12 (says.Aborted c1 8 (tid s1 0) (Lost s1))
    ∷ line 12 (says.Ignored 17)
    ∷ at_end (says.Down s0)
    ∷ at_end (says.Down s1)
    ∷ at_end (says.Up s0 2)
    ∷ at_end (says.Up s1 3)
    ∷ at_end (says.Commits 0)
    ∷ []

abbrev pub restarts_stop_early_report : List Line
restarts_stop_early_report = line 0 (says.Up s0 1)
    ∷ line 2 (says.Begun c1 1 (tid s0 0))
    ∷ line 4 (says.Opened c1 3 s0)
    ∷ line 6 (says.Did c1 5)
    ∷ line 8 (says.Did c1 7)
    ∷ line 10 (says.Commit (tid s0 0))
    ∷ line 10 (says.Committed c1 9 (tid s0 0))
    ∷ line 11 (says.Down s0)
    ∷ line 13 (says.Stopped s0)
    ∷ line 15 (says.Stopped s0)
    ∷ line 16 (says.Up s0 2)
    ∷ at_end (says.Down s0)
    ∷ at_end (says.Up s0 3)
    ∷ []

abbrev pub restarts_stop_late_report : List Line
restarts_stop_late_report = line 0 (says.Up s0 1)
    ∷ line 2 (says.Begun c1 1 (tid s0 0))
    ∷ line 4 (says.Opened c1 3 s0)
    ∷ line 6 (says.Did c1 5)
    ∷ line 8 (says.Did c1 7)
    ∷ line 10 (says.Commit (tid s0 0))
    ∷ line 10 (says.Committed c1 9 (tid s0 0))
    ∷ line 11 (says.Down s0)
    ∷ line 13 (says.Stopped s0)
    ∷ line 15 (says.Stopped s0)
    ∷ line 16 (says.Up s0 3)
    ∷ at_end (says.Down s0)
    ∷ at_end (says.Up s0 4)
    ∷ []

abbrev pub failing_pages_are_told_report : List Line
failing_pages_are_told_report = line 0 (says.Up s0 1)
    ∷ line 2 (says.Outside s0 (record { kind = faults.Decay 182; page = 182 }))
    ∷ line 4 (says.Begun c1 3 (tid s0 0))
    ∷ line 6 (says.Opened c1 5 s0)
    ∷ line 8 (says.Did c1 7)
    ∷ line 14 (says.Outside s0 (record { kind = faults.Null; page = 1 }))
    ∷ line 14 (says.Commit (tid s0 0))
    ∷ line 14 (says.Committed c1 13 (tid s0 0))
    ∷ at_end (says.Down s0)
    ∷ at_end (says.Up s0 2)
    ∷ at_end (says.File s0 (file 7))
    ∷ at_end (says.Commits 1)
    ∷ []

abbrev pub a_reader_is_broken_report : List Line
a_reader_is_broken_report = line 0 (says.Up s0 1)
    ∷ line 2 (says.Begun c1 1 (tid s0 0))
    ∷ line 4 (says.Opened c1 3 s0)
    ∷ line 6 (says.Did c1 5)
    ∷ line 8 (says.Did c1 7)
    ∷ line 10 (says.Commit (tid s0 0))
    ∷ line 10 (says.Committed c1 9 (tid s0 0))
    ∷ line 12 (says.Begun c1 11 (tid s0 2))
    ∷ line 14 (says.Opened c1 13 s0)
    ∷ line 16 (says.Did c1 15)
    ∷ line 18 (says.Begun c2 17 (tid s0 4))
    ∷ line 20 (says.Opened c2 19 s0)
    ∷ line 22 (says.Read c2 21 (block_of (97 ∷ [])))
    ∷ line 24 (says.Waiting c1 23 s0 (Block (file 7) (block 0)) (tid s0 4))
    ∷ line 24 (says.Waiting c1 23 s0 (Block (file 7) (block 0)) (tid s0 4))
    ∷ line 27 (says.Broke s0 (tid s0 4) (Block (file 7) (block 0)) (tid s0 2))
    ∷ line 27 (says.Commit (tid s0 2))
    ∷ line 27 (says.Committed c1 23 (tid s0 2))
    ∷ line 29 (says.Aborted c2 28 (tid s0 4) (Broken s0 (Block (file 7) (block 0)) (tid s0 2)))
    ∷ at_end (says.Down s0)
    ∷ at_end (says.Up s0 2)
    ∷ []

abbrev pub a_coordinator_is_stopped_twice_report : List Line
a_coordinator_is_stopped_twice_report = line 0 (says.Up s0 1)
    ∷ line 0 (says.Up s1 1)
    ∷ line 2 (says.Begun c1 1 (tid s1 0))
    ∷ line 4 (says.Opened c1 3 s0)
    ∷ line 6 (says.Did c1 5)
    ∷ line 9 (says.Stopped s1)
    ∷ line 9 (says.Lost 11)
    ∷ line 9 (says.Lost 12)
    ∷ line 11 (says.Stopped s1)
    ∷ line 12 (says.Up s1 2)
    ∷ line 12 (says.Commit (tid s1 0))
    ∷ line 13 (says.Committed c1 8 (tid s1 0))
    ∷ line 13 (says.Ignored 18)
    ∷ line 13 (says.Ignored 20)
    ∷ at_end (says.Down s0)
    ∷ at_end (says.Down s1)
    ∷ at_end (says.Up s0 2)
    ∷ at_end (says.Up s1 3)
    ∷ at_end (says.File s0 (file 7))
    ∷ at_end (says.Commits 1)
    ∷ []
