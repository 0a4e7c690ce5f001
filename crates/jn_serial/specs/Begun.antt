-- Which transaction a client is in, by the lines of a report.
use Rattle.std.specs.Prelude.{ℕ, Bool, false, if◌then◌else◌, List, [], ◌∷◌, Option, Some, None}
use Rattle.jn_base.specs.declared.names.ClientNo.{ClientNo}
use Rattle.jn_base.specs.declared.names.Tid.{Tid}
use Rattle.jn_base.specs.Names.{client_eq, tid_eq}
use Rattle.jn_report.specs.declared.line.When.TheVariants.{Event as AtEvent}
use Rattle.jn_report.specs.declared.line.Text.{Text}
use Rattle.jn_report.specs.declared.line.Text.TheVariants as says
use Rattle.jn_report.specs.declared.line.Line.{Line}
use Rattle.jn_serial.specs.Lines.{lines_before}

-- the transaction that a client began last, by these lines
abbrev pub begun_after : ClientNo → Option Tid → Text → Option Tid
begun_after c now (says.Begun d j t) = if client_eq c d then Some t else now
begun_after c now _ = now

abbrev pub begun_then : ClientNo → Option Tid → List Line → Option Tid
begun_then c now [] = now
begun_then c now (l ∷ ls) = begun_then c (begun_after c now l.text) ls

abbrev pub last_begun : ClientNo → List Line → Option Tid
last_begun c lines = begun_then c None lines

abbrev pub is_tid : Option Tid → Tid → Bool
is_tid None t = false
is_tid (Some u) t = tid_eq u t

-- a command of the client in this event is given in T: T is what the client began last, by the lines of earlier events
abbrev pub is_in : ClientNo → Tid → ℕ → List Line → Bool
is_in c t number lines = is_tid (last_begun c (lines_before (AtEvent number) lines)) t
