-- The names from below that these proofs cite, passed on from one place. Declares nothing.
pub use Rattle.std.proofs.Common.{◌≡◌, ◌⊎◌, inl, inr, ◌≤◌, ◌<◌, ℕ, true, false, List, [], ◌++◌, Option, Some, None, is_some, refl, sym, ◌∙◌, ap, subst, ◌≢◌, ◌/◌, Bool, if◌then◌else◌, arith, ◌+◌, ◌∷◌, append-nil, length, map, drop}
pub use Rattle.std.specs.List.{AllByRecursion, list_all, list_any}
pub use Rattle.jn_base.specs.declared.names.ServerNo.{ServerNo}
pub use Rattle.jn_base.specs.declared.names.Tid.{Tid}
pub use Rattle.jn_base.specs.declared.names.WorkId.{WorkId}
pub use Rattle.jn_order.specs.Files.{AllFiles}
pub use Rattle.jn_schedule.specs.declared.Event.{Event}
pub use Rattle.jn_schedule.specs.Ranges.{EventInRange}
pub use Rattle.jn_report.specs.declared.line.Line.{Line}
pub use Rattle.jn_serial.specs.Lines.{history_of}
pub use Rattle.jn_serial.specs.Order.{replay_operations, replay, operations_of}
pub use Rattle.jn_rows.specs.Stable.{StableState, Pick, IsUp}
pub use Rattle.jn_aside.specs.Aside.{plain}
pub use Rattle.jn_aside.proofs.Showing.{history-aside, replay-aside, ops-aside, operations-aside}
pub use Rattle.jn_system.specs.WholeSystem.World.{World, Memory, opening, commits_in}
pub use Rattle.jn_system_reports.specs.Reporting.Reported.{events_of, steps_of, world_of, IsReported, Item, lines_of}
pub use Rattle.jn_system.specs.WholeSystem.Course.{go_on}
pub use Rattle.jn_system_reports.specs.Telling.Agreement.{AreAsTold}
pub use Rattle.jn_machine.specs.Chances.{Setup, Chance, allowed}
pub use Rattle.jn_machine.specs.Devices.{Devices, AreFound, Alone, IsServed, IsLookedOver, IsRecovery, IsUsed, IsScrubbed, IsCalled}
pub use Rattle.jn_machine.specs.Runs.{Moment, none, more, DoesStep, Leads}
pub use Rattle.jn_machine.specs.Tasks.{AtEnd, CutShort, Task, Dismisses, InSchedule, State, begun, Begins, Stage, first_of_tasks}
pub use Rattle.jn_machine.specs.Whole.{before, IsWritten, IsFresh}
pub use Rattle.jn_machine_refines.specs.Retold.{behind, IsAsIn, IsRetold, IsToldBy, IsRetoldInPart}
pub use Rattle.jn_machine_refines.proofs.Forms.{as-behind, Between, between, meeting, settling, cut, ended, between-part, meeting-part, amid-part}
pub use Rattle.jn_machine_refines.proofs.Items.{run-both, is-run-both}
pub use Rattle.jn_headline.proofs.Headline.{whole-run, part-so-far, run-so-far}
pub use Rattle.jn_between.specs.Between.{IsConsistent, state_on, files_told, IsTrueAtEnd, AreOnPages, IsTrueBetween}
pub use Rattle.jn_serial.proofs.WithCalls.{replay_is_of_operations}
pub use Rattle.jn_system_reports.proofs.Reporting.Following.{no-calls}
pub use Rattle.jn_base.specs.Names.{server_eq, tid_eq}
pub use Rattle.jn_system.specs.WholeSystem.Steps.{Step, IsRun, run, NextEvent, after}
pub use Rattle.jn_machine.specs.Events.{deed_of, ending, dismissing}
pub use Rattle.jn_machine.specs.Steps.{is_too_much, come_to, cut_short}
pub use Rattle.jn_machine_refines.proofs.Going.{goes-or-cut, go-world, Next, does-next}
pub use Rattle.std.specs.Prelude.{◌&&◌, slice_get}
pub use Rattle.jn_machine_refines.proofs.Behind.{ups-name-none, run-behind}
