-- When an event of a schedule is refused before it does anything.
use Rattle.std.specs.Prelude.{ℕ, Bool, false, nat_lt, if◌then◌else◌, length, Option, Some, None, is_some}
use Rattle.jn_base.specs.declared.names.ServerNo.{ServerNo}
use Rattle.jn_base.specs.declared.names.Tid.{Tid}
use Rattle.jn_device.specs.Events.{is_within}
use Rattle.jn_schedule.specs.declared.Event.{Event}
use Rattle.jn_schedule.specs.declared.Event.TheVariants as events
use Rattle.jn_report.specs.declared.line.EventRefusal.{EventRefusal}
use Rattle.jn_report.specs.declared.line.EventRefusal.TheVariants as refusals
use Rattle.jn_rows.specs.Worker.{timeout_row}
use Rattle.jn_system.specs.WholeSystem.World.{World, Memory}
use Rattle.jn_machine.specs.Chances.{Setup, physical_pages}

-- a refusal, or what comes behind it
abbrev pub unless : Bool → EventRefusal → Option EventRefusal → Option EventRefusal
unless is_so refusal more = if is_so then more else Some refusal

abbrev pub if_there : Setup → ServerNo → Option EventRefusal → Option EventRefusal
if_there x q more = unless (nat_lt q.0 x.servers) refusals.NoSuchServer more

abbrev pub if_up : Setup → ServerNo → World → Option EventRefusal → Option EventRefusal
if_up x q w more = if_there x q (unless (is_some (w.memory q)) refusals.ServerDown more)

abbrev pub if_down : Setup → ServerNo → Option Memory → Option EventRefusal
if_down x q None = if_there x q None
if_down x q (Some m) = if_there x q (Some refusals.ServerUp)

abbrev pub if_page : Setup → ServerNo → ℕ → Option EventRefusal
if_page x q p = if_there x q (unless (nat_lt p (physical_pages x q)) refusals.NoSuchPage None)

abbrev pub has_work : Tid → Option Memory → Bool
has_work T None = false
has_work T (Some m) = is_some (timeout_row m.worker T)

-- The first cause that holds. That epochs are used up or that too many faults wait is found while the event is done.
abbrev pub refusal_of : Setup → World → Event → Option EventRefusal
refusal_of x w (events.Deliver k) = unless (nat_lt k (length w.sent)) refusals.NoSuchMessage None
refusal_of x w (events.Step q) = if_up x q w None
refusal_of x w (events.Nudge q) = if_up x q w None
refusal_of x w (events.Timeout q T) = if_up x q w (unless (has_work T (w.memory q)) refusals.NoSuchWork None)
refusal_of x w (events.Scrub q) = if_up x q w None
refusal_of x w (events.Crash q) = if_up x q w None
refusal_of x w (events.Show q) = if_up x q w None
refusal_of x w (events.Restart q) = if_down x q (w.memory q)
refusal_of x w (events.Decay q p) = if_page x q p
refusal_of x w (events.Revive q p) = if_page x q p
refusal_of x w (events.Arm q n kind) = if_there x q (unless (is_within (physical_pages x q) kind) refusals.NoSuchPage None)
refusal_of x w event = None
