-- The names from below that these proofs cite, passed on from one place. Declares nothing.
pub use Rattle.std.proofs.Common.{◌≡◌, ◌⊎◌, inl, inr, ◌≤◌, ◌<◌, ℕ, ◌+◌, ◌*◌, List, [], ◌∷◌, ◌++◌, append_assoc, length, Option, Some, None, refl, sym, ◌∙◌, ap, subst, arith, Bool, true, false, drop, zero, suc, append-nil, length-append}
pub use Rattle.std.specs.Prelude.{map, if◌then◌else◌, slice_get, nat_lt}
pub use Rattle.jn_base.specs.declared.names.ServerNo.{ServerNo}
pub use Rattle.jn_base.specs.declared.names.ClientNo.{ClientNo}
pub use Rattle.jn_schedule.specs.declared.Event.{Event}
pub use Rattle.jn_system.specs.WholeSystem.World.{World, servers_from, clients_from, Memory, new_memory}
pub use Rattle.jn_system.specs.WholeSystem.Course.{Course, go_on, go}
pub use Rattle.jn_system_settling.proofs.Settling.Courses.{Sound, IsBalanced, go-sound, go-balance, burden-after, deliveries-more, go-on-sound}
pub use Rattle.jn_system_settling.proofs.Settling.Parts.{Bounded}
pub use Rattle.jn_system_settling.proofs.Settling.Asking.{Asked, servers-length, waiting-light, waiting-weighs, asked}
pub use Rattle.jn_machine.specs.Chances.{Setup, Chance}
pub use Rattle.jn_machine.specs.Tasks.{Task, Acts, Rests, State, begun, Dismisses, Stage, InSchedule, AtEnd, CutShort, next_at, Begins, Meets, GoesDown, ClosesClients, CountsCommits}
pub use Rattle.jn_machine.specs.Events.{servers_of, settling, next_in, resting, deed_of, first_busy, next_event, coming_up, ending, printing}
pub use Rattle.jn_machine.specs.Runs.{none, more, Steps, Moment, DoesStep, Leads}
pub use Rattle.jn_bounds.specs.Settles.{DoesEarlier, Settles, IsWithinBound, IsOver, IsUnderWay, HasSettle, HasItsSettles}
pub use Rattle.jn_rows.specs.Client.{ClientTable}
pub use Rattle.jn_machine.specs.Deeds.{Deed, room, no_room, nothing, served, delivered, delivered_at, is_busy, working_steps}
pub use Rattle.jn_machine.specs.Steps.{is_too_much, come_to, cut_short, done}
pub use Rattle.jn_system.specs.WholeSystem.Steps.{Again, Nudge, Work, StopWork, after, work, works, handing, working, IsRun}
pub use Rattle.jn_machine.specs.Devices.{Devices}
pub use Rattle.jn_machine.specs.Whole.{closed_world, IsWritten, before, IsWhole}
