-- Events of one server, and why they are refused.
use Rattle.jn_base.specs.declared.names.ServerNo.{ServerNo}
use Rattle.jn_schedule.specs.declared.Event.{Event}
use Rattle.std.specs.Prelude.{◌≡◌}
use Rattle.jn_schedule.specs.declared.Event.TheVariants as events

-- an event of this server, which must be up for it
abbrev pub IsAtUp : ServerNo → Event → Type 0
IsAtUp q (events.Step s) = s ≡ q
IsAtUp q (events.Nudge s) = s ≡ q
IsAtUp q (events.Timeout s T) = s ≡ q
IsAtUp q (events.Scrub s) = s ≡ q
IsAtUp q (events.Crash s) = s ≡ q
IsAtUp q (events.Show s) = s ≡ q
IsAtUp q event = ⊥

-- an event of the device of this server
abbrev pub IsBefalling : ServerNo → Event → Type 0
IsBefalling q (events.Decay s p) = s ≡ q
IsBefalling q (events.Revive s p) = s ≡ q
IsBefalling q (events.Arm s n kind) = s ≡ q
IsBefalling q event = ⊥
