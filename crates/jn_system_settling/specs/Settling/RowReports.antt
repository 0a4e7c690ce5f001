-- What the rows report, line by line.
use Rattle.std.specs.Prelude.{List, [], ◌∷◌}
use Rattle.jn_base.specs.declared.names.LockUnit.TheVariants.{File, Block}
use Rattle.jn_base.specs.declared.names.Cause.TheVariants.{Requested, Lost, Broken}
use Rattle.jn_report.specs.declared.line.Refusal.TheVariants.{NoFile}
use Rattle.jn_report.specs.declared.line.Text.TheVariants as says
use Rattle.jn_system_settling.specs.Settling.Events.{line}
use Rattle.jn_schedule.specs.Grammar.{filled}
use Rattle.jn_system.specs.WholeSystem.ExampleNames.{s0, s1, c1, c2, tid, file, block}
use Rattle.jn_report.specs.declared.line.Line.{Line}

abbrev pub one_client_writes_report : List Line
one_client_writes_report = line 2 (says.Begun c1 1 (tid s0 0))
    ∷ line 4 (says.Opened c1 3 s0)
    ∷ line 6 (says.Did c1 5)
    ∷ line 8 (says.Did c1 7)
    ∷ line 10 (says.Commit (tid s0 0))
    ∷ line 10 (says.Committed c1 9 (tid s0 0))
    ∷ []

abbrev pub a_prepare_is_stopped_report : List Line
a_prepare_is_stopped_report = line 2 (says.Begun c1 1 (tid s0 0))
    ∷ line 4 (says.Opened c1 3 s0)
    ∷ line 6 (says.Did c1 5)
    ∷ line 9 (says.Stopped s0)
    ∷ line 9 (says.Lost 10)
    ∷ line 10 (says.Up s0 2)
    ∷ line 11 (says.Aborted c1 8 (tid s0 0) (Lost s0))
    ∷ line 11 (says.Ignored 13)
    ∷ []

abbrev pub a_write_waits_for_a_reader_report : List Line
a_write_waits_for_a_reader_report = line 2 (says.Begun c1 1 (tid s0 0))
    ∷ line 4 (says.Opened c1 3 s0)
    ∷ line 6 (says.Did c1 5)
    ∷ line 8 (says.Did c1 7)
    ∷ line 10 (says.Commit (tid s0 0))
    ∷ line 10 (says.Committed c1 9 (tid s0 0))
    ∷ line 12 (says.Begun c1 11 (tid s0 2))
    ∷ line 14 (says.Opened c1 13 s0)
    ∷ line 16 (says.Did c1 15)
    ∷ line 18 (says.Begun c2 17 (tid s0 4))
    ∷ line 20 (says.Opened c2 19 s0)
    ∷ line 22 (says.Read c2 21 (filled (97 ∷ [])))
    ∷ line 24 (says.Waiting c1 23 s0 (Block (file 7) (block 0)) (tid s0 4))
    ∷ line 24 (says.Waiting c1 23 s0 (Block (file 7) (block 0)) (tid s0 4))
    ∷ []

abbrev pub a_reader_gives_way_report : List Line
a_reader_gives_way_report = line 2 (says.Begun c1 1 (tid s0 0))
    ∷ line 4 (says.Opened c1 3 s0)
    ∷ line 6 (says.Did c1 5)
    ∷ line 8 (says.Did c1 7)
    ∷ line 10 (says.Commit (tid s0 0))
    ∷ line 10 (says.Committed c1 9 (tid s0 0))
    ∷ line 12 (says.Begun c1 11 (tid s0 2))
    ∷ line 14 (says.Opened c1 13 s0)
    ∷ line 16 (says.Did c1 15)
    ∷ line 18 (says.Begun c2 17 (tid s0 4))
    ∷ line 20 (says.Opened c2 19 s0)
    ∷ line 22 (says.Read c2 21 (filled (97 ∷ [])))
    ∷ line 24 (says.Waiting c1 23 s0 (Block (file 7) (block 0)) (tid s0 4))
    ∷ line 24 (says.Waiting c1 23 s0 (Block (file 7) (block 0)) (tid s0 4))
    ∷ line 27 (says.Broke s0 (tid s0 4) (Block (file 7) (block 0)) (tid s0 2))
    ∷ line 27 (says.Commit (tid s0 2))
    ∷ line 27 (says.Committed c1 23 (tid s0 2))
    ∷ line 29 (says.Aborted c2 28 (tid s0 4) (Broken s0 (Block (file 7) (block 0)) (tid s0 2)))
    ∷ []

abbrev pub two_clients_wait_report : List Line
two_clients_wait_report = line 3 (says.Begun c1 1 (tid s0 0))
    ∷ line 3 (says.Begun c2 2 (tid s0 1))
    ∷ line 6 (says.Opened c1 4 s0)
    ∷ line 6 (says.Opened c2 5 s0)
    ∷ line 9 (says.Opened c1 7 s1)
    ∷ line 9 (says.Opened c2 8 s1)
    ∷ line 12 (says.Refused c1 10 NoFile)
    ∷ line 12 (says.Refused c2 11 NoFile)
    ∷ line 15 (says.Did c1 13)
    ∷ line 15 (says.Did c2 14)
    ∷ line 18 (says.Waiting c1 16 s1 (File (file 8)) (tid s0 1))
    ∷ line 18 (says.Waiting c2 17 s0 (File (file 7)) (tid s0 0))
    ∷ line 18 (says.Waiting c1 16 s1 (File (file 8)) (tid s0 1))
    ∷ line 18 (says.Waiting c2 17 s0 (File (file 7)) (tid s0 0))
    ∷ line 20 (says.Aborted c1 19 (tid s0 0) Requested)
    ∷ line 20 (says.Commit (tid s0 1))
    ∷ line 20 (says.Committed c2 17 (tid s0 1))
    ∷ []

abbrev pub a_stopped_prepare_is_found_report : List Line
a_stopped_prepare_is_found_report = line 2 (says.Begun c1 1 (tid s1 0))
    ∷ line 4 (says.Opened c1 3 s0)
    ∷ line 6 (says.Did c1 5)
    ∷ line 9 (says.Stopped s0)
    ∷ line 9 (says.Lost 11)
    ∷ line 10 (says.Up s0 2)
    ∷ line 11 (says.Commit (tid s1 0))
    ∷ line 11 (says.Committed c1 8 (tid s1 0))
    ∷ []

abbrev pub a_stopped_prepare_is_lost_report : List Line
a_stopped_prepare_is_lost_report = line 2 (says.Begun c1 1 (tid s1 0))
    ∷ line 4 (says.Opened c1 3 s0)
    ∷ line 6 (says.Did c1 5)
    ∷ line 9 (says.Stopped s0)
    ∷ line 9 (says.Lost 11)
    ∷ line 11 (says.Up s0 2)
    ∷ line 12 (says.Aborted c1 8 (tid s1 0) (Lost s0))
    ∷ []

abbrev pub a_stopped_prepare_comes_back_report : List Line
a_stopped_prepare_comes_back_report = line 2 (says.Begun c1 1 (tid s1 0))
    ∷ line 4 (says.Opened c1 3 s0)
    ∷ line 6 (says.Did c1 5)
    ∷ line 9 (says.Stopped s0)
    ∷ line 9 (says.Lost 11)
    ∷ line 12 (says.Up s0 2)
    ∷ line 13 (says.Commit (tid s1 0))
    ∷ line 13 (says.Committed c1 8 (tid s1 0))
    ∷ []

abbrev pub a_stopped_commit_is_found_report : List Line
a_stopped_commit_is_found_report = line 2 (says.Begun c1 1 (tid s1 0))
    ∷ line 4 (says.Opened c1 3 s0)
    ∷ line 6 (says.Did c1 5)
    ∷ line 9 (says.Stopped s1)
    ∷ line 9 (says.Lost 11)
    ∷ line 9 (says.Lost 12)
    ∷ line 10 (says.Up s1 2)
    ∷ line 10 (says.Commit (tid s1 0))
    ∷ line 11 (says.Committed c1 8 (tid s1 0))
    ∷ line 11 (says.Ignored 18)
    ∷ line 11 (says.Ignored 20)
    ∷ []

abbrev pub a_stopped_commit_is_lost_report : List Line
a_stopped_commit_is_lost_report = line 2 (says.Begun c1 1 (tid s1 0))
    ∷ line 4 (says.Opened c1 3 s0)
    ∷ line 6 (says.Did c1 5)
    ∷ line 9 (says.Stopped s1)
    ∷ line 9 (says.Lost 11)
    ∷ line 9 (says.Lost 12)
    ∷ line 11 (says.Up s1 2)
    ∷ line 12 (says.Aborted c1 8 (tid s1 0) (Lost s1))
    ∷ line 12 (says.Ignored 17)
    ∷ []
