-- What stands before an abort, a stop and a refused fault.
use Rattle.std.specs.Prelude.{◌≡◌, ℕ, ◌+◌, Bool, true, false, nat_lt, nat_le, ◌&&◌, ◌||◌, not, if◌then◌else◌, List, [], ◌∷◌, ◌++◌, filter}
use Rattle.jn_base.specs.declared.names.ServerNo.{ServerNo}
use Rattle.jn_base.specs.declared.names.ClientNo.{ClientNo}
use Rattle.jn_base.specs.declared.names.Tid.{Tid}
use Rattle.jn_base.specs.declared.names.Cause.{Cause}
use Rattle.jn_base.specs.declared.names.Cause.TheVariants as causes
use Rattle.jn_base.specs.declared.op.Command.TheVariants as commands
use Rattle.jn_base.specs.Names.{server_eq, client_eq, is_stop}
use Rattle.jn_schedule.specs.declared.Event.{Event}
use Rattle.jn_schedule.specs.declared.Event.TheVariants as events
use Rattle.jn_report.specs.declared.line.When.{When}
use Rattle.jn_report.specs.declared.line.When.TheVariants.{Event as AtEvent}
use Rattle.jn_report.specs.declared.line.Text.{Text}
use Rattle.jn_report.specs.declared.line.Text.TheVariants as says
use Rattle.jn_report.specs.declared.line.Line.{Line}
use Rattle.jn_serial.specs.Lines.{is_before, lines_at, says, count_lines}
use Rattle.jn_serial.specs.Begun.{is_in}
use Rattle.jn_serial.specs.Follows.{refuses_own}
use Rattle.jn_report.specs.Kinds.{begins, goes_down, breaks, refuses_event, stops, refuses_fault}

-- whether some event, told with its number, passes a test
abbrev pub any_event : (ℕ → Event → Bool) → ℕ → List Event → Bool
any_event test number [] = false
any_event test number (e ∷ es) = test number e || any_event test (number + 1) es

-- how many events, told with their numbers, pass a test
abbrev pub count_events : (ℕ → Event → Bool) → ℕ → List Event → ℕ
count_events test number [] = 0
count_events test number (e ∷ es) = (if test number e then 1 else 0) + count_events test (number + 1) es

-- the lines of later events
abbrev pub lines_after : When → List Line → List Line
lines_after w lines = filter (λ (l : Line). is_before w l.when) lines

-- the event is an `abort` of the client, in T
abbrev pub aborts : ClientNo → Tid → List Line → ℕ → Event → Bool
aborts c t lines number (events.Command d commands.Abort) = client_eq c d && is_in c t number lines
aborts c t lines number _ = false

-- the event is before, and an abort of the client in T
abbrev pub asks : ClientNo → Tid → List Line → When → ℕ → Event → Bool
asks c t lines w number e = is_before (AtEvent number) w && aborts c t lines number e

-- the event is the command that began T, at this server, or one in T that opens the server and that its client didn't refuse
abbrev pub joins : ClientNo → Tid → ServerNo → List Line → ℕ → Event → Bool
joins c t s lines number (events.Command d (commands.Begin r)) = client_eq c d && (server_eq r s && says (begins c number t) lines)
joins c t s lines number (events.Command d (commands.Open r)) =
    client_eq c d && (server_eq r s && (is_in c t number lines && not (says (refuses_own c number) (lines_at (AtEvent number) lines))))
joins c t s lines number _ = false

-- the event is a command by which T came to the server, which went down after it
abbrev pub loses : ClientNo → Tid → ServerNo → List Line → ℕ → Event → Bool
loses c t s lines number e = joins c t s lines number e && says (goes_down s) (lines_after (AtEvent number) lines)

-- the cause of an abort of the client's T stands before it: in the events before its own, and in the lines so far
abbrev pub is_caused_by : List Event → List Line → When → ClientNo → Tid → Cause → Bool
is_caused_by es lines w c t causes.Requested = any_event (asks c t lines w) 1 es
is_caused_by es lines w c t (causes.Broken s u by) = says (breaks s t u by) lines
is_caused_by es lines w c t (causes.Lost s) = any_event (loses c t s lines) 1 es
is_caused_by es lines w c t (causes.Full s refusal free need) = nat_lt free need

-- the event was before, and was not refused
abbrev pub is_accepted : List Line → When → ℕ → Bool
is_accepted lines w number = is_before (AtEvent number) w && not (says refuses_event (lines_at (AtEvent number) lines))

-- the event can have stopped the server
abbrev pub arms_stop : ServerNo → List Line → When → ℕ → Event → Bool
arms_stop s lines w number (events.Arm r n kind) = server_eq r s && (is_stop kind && is_accepted lines w number)
arms_stop s lines w number _ = false

-- the event can have given a fault that was refused: a decay gives one of its own event alone
abbrev pub gives_fault : ServerNo → List Line → When → ℕ → Event → Bool
gives_fault s lines w number (events.Arm r n kind) = server_eq r s && is_accepted lines w number
gives_fault s lines w number (events.Decay r page) = server_eq r s && says (refuses_fault s) (lines_at (AtEvent number) lines)
gives_fault s lines w number _ = false

-- what a line needs, by the lines up to it
abbrev pub is_caused : List Event → List Line → When → Text → Bool
is_caused es lines w (says.Aborted c j t cause) = is_caused_by es lines w c t cause
is_caused es lines w (says.Stopped s) = nat_le (count_lines (stops s) lines) (count_events (arms_stop s lines w) 1 es)
is_caused es lines w (says.Outside s fault) = nat_le (count_lines (refuses_fault s) lines) (count_events (gives_fault s lines w) 1 es)
is_caused es lines w _ = true

abbrev pub CausedFrom : List Event → List Line → List Line → Type 0
CausedFrom es before [] = Unit {0}
CausedFrom es before (l ∷ ls) = (is_caused es (before ++ l ∷ []) l.when l.text ≡ true) × CausedFrom es (before ++ l ∷ []) ls

-- each abort has its cause, and each stop and each refused fault an event of its own
abbrev pub Caused : List Event → List Line → Type 0
Caused es lines = CausedFrom es [] lines
