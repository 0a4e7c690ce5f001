-- The schedule of a trial: its events, one after another, from a seed.
use Rattle.std.specs.Prelude.{ℕ, zero, suc, ◌+◌, ◌-◌, ◌*◌, ◌/◌, ◌%◌, ◌^◌, List, [], ◌∷◌, nat_lt, slice_index_or, if◌then◌else◌}
use Rattle.jn_base.specs.declared.device.FaultKind.{FaultKind}
use Rattle.jn_base.specs.declared.device.FaultKind.TheVariants as faults
use Rattle.jn_base.specs.declared.names.Tid.{Tid}
use Rattle.jn_base.specs.declared.op.Command.{Command}
use Rattle.jn_base.specs.declared.op.Command.TheVariants as commands
use Rattle.jn_base.specs.declared.op.Op.{Op}
use Rattle.jn_base.specs.declared.op.Op.TheVariants as ops
use Rattle.jn_schedule.specs.declared.Event.{Event}
use Rattle.jn_schedule.specs.declared.Event.TheVariants as events
use Rattle.jn_schedule.specs.Grammar.{filled}
use Rattle.jn_gen.specs.declared.draws.Draws.{Draws}

-- ---- numbers

-- a draw changes the state to this
unfoldable pub next_state : ℕ → ℕ
next_state x = (x * 6364136223846793005 + 1442695040888963407) % 2 ^ 64

-- and gives a number below the count: the state shifted right by 33, modulo the count
unfoldable pub draw : ℕ → ℕ → ℕ
draw count x = x / 2 ^ 33 % count

-- the state after so many draws
abbrev pub state_after : ℕ → ℕ → ℕ
state_after zero x = x
state_after (suc n) x = next_state (state_after n x)

-- what each draw of an event gives, from the state before the first
abbrev pub draws_from : ℕ → Draws
draws_from x = record {
  choice = draw 16 (state_after 1 x);
  client = record { 0 = 1 + draw 4 (state_after 2 x) };
  server = record { 0 = draw 2 (state_after 3 x) };
  file = record { 0 = draw 4 (state_after 4 x) };
  block = record { 0 = draw 6 (state_after 5 x) };
  byte = draw 256 (state_after 6 x);
}

abbrev pub after_event : ℕ → ℕ
after_event x = state_after 6 x

-- ---- events

-- the fault that is armed, by the number of the file
abbrev pub fault_of : ℕ → FaultKind
fault_of f = slice_index_or (faults.Soft ∷ faults.Null ∷ faults.Bad ∷ []) f faults.StopTorn

-- the client is told to do this
abbrev pub tells : Draws → Command → Event
tells d command = events.Command d.client command

-- the client's operation at the server
abbrev pub does : Draws → Op → Event
does d op = tells d (commands.Do d.server op)

-- a transaction of the server's first epoch
abbrev pub first_epoch : Draws → ℕ → Tid
first_epoch d ticket = record { server = d.server; epoch = 1; ticket = ticket }

-- the events among which the first draw chooses, from 0
abbrev pub choices : Draws → List Event
choices d =
    tells d (commands.Begin d.server)
    ∷ tells d (commands.Open d.server)
    ∷ does d (ops.Create d.file)
    ∷ does d (ops.Write d.file d.block (filled (d.byte ∷ [])))
    ∷ does d (ops.Write d.file d.block (filled (d.byte ∷ [])))
    ∷ does d (ops.Read d.file d.block)
    ∷ tells d commands.End
    ∷ (if nat_lt d.byte 64 then tells d commands.Abort else events.Again d.client)
    ∷ (if nat_lt d.byte 85 then does d (ops.Cut d.file d.block)
    else if nat_lt d.byte 170 then does d (ops.Remove d.file)
    else events.Timeout d.server (first_epoch d (d.byte - 170)))
    ∷ events.Settle
    ∷ events.Settle
    ∷ events.Settle
    ∷ events.Settle
    ∷ events.Arm d.server (d.byte + 1) (fault_of d.file.0)
    ∷ (if nat_lt d.byte 128 then events.Crash d.server else events.Decay d.server d.byte)
    ∷ events.Restart d.server
    ∷ []

abbrev pub event_of : Draws → Event
event_of d = slice_index_or (choices d) d.choice (events.Restart d.server)

-- so many events, from the state before the first draw
unfoldable pub events_from : ℕ → ℕ → List Event
events_from x zero = []
events_from x (suc n) = event_of (draws_from x) ∷ events_from (after_event x) n
