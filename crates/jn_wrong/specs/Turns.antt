-- How the lines of any run report a server that comes up and goes down, and at which events they stand.
use Rattle.std.specs.Prelude.{ℕ, Bool, true, false, not, nat_le, nat_lt, ◌&&◌, ◌||◌, if◌then◌else◌, List, [], ◌∷◌}
use Rattle.std.specs.List.{list_all}
use Rattle.jn_base.specs.declared.names.ServerNo.{ServerNo}
use Rattle.jn_base.specs.Names.{server_eq}
use Rattle.jn_report.specs.declared.line.When.{When}
use Rattle.jn_report.specs.declared.line.When.TheVariants.{Event as AtEvent, End}
use Rattle.jn_report.specs.declared.line.Text.{Text}
use Rattle.jn_report.specs.declared.line.Text.TheVariants as says
use Rattle.jn_report.specs.declared.line.Line.{Line}

-- what lines report one after another: each may stand where it does, by what the lines before it reported
abbrev pub are_read : {A : Type 0} → (A → Text → A) → (A → Text → Bool) → A → List Line → Bool
are_read next may was [] = true
are_read next may was (l ∷ lines) = may was l.text && are_read next may (next was l.text) lines

-- ---- servers that come up and go down

-- whether the server is up once this is reported
abbrev pub is_up_after : ServerNo → Bool → Text → Bool
is_up_after q was (says.Up s epoch) = if server_eq s q then true else was
is_up_after q was (says.Down s) = if server_eq s q then false else was
is_up_after q was (says.Stopped s) = if server_eq s q then false else was
is_up_after q was text = was

-- it comes up only where it is down, and goes down only where it is up; a restart of a server that is down may be stopped
abbrev pub may_be_told : ServerNo → Bool → Text → Bool
may_be_told q was (says.Up s epoch) = not (server_eq s q) || not was
may_be_told q was (says.Down s) = not (server_eq s q) || was
may_be_told q was text = true

-- first it is down
abbrev pub takes_turns : ServerNo → List Line → Bool
takes_turns q lines = are_read (is_up_after q) (may_be_told q) false lines

-- the epoch in which it came up last
abbrev pub epoch_after : ServerNo → ℕ → Text → ℕ
epoch_after q last (says.Up s epoch) = if server_eq s q then epoch else last
epoch_after q last text = last

abbrev pub may_rise : ServerNo → ℕ → Text → Bool
may_rise q last (says.Up s epoch) = not (server_eq s q) || nat_lt last epoch
may_rise q last text = true

-- it comes up in a later epoch each time, first in a later one than this
abbrev pub epochs_rise : ServerNo → ℕ → List Line → Bool
epochs_rise q epoch lines = are_read (epoch_after q) (may_rise q) epoch lines

-- ---- events

-- a line stands at an event up to the one of this number, or at the end
abbrev pub is_by : ℕ → When → Bool
is_by n (AtEvent i) = nat_le i n
is_by n End = true

abbrev pub are_by : ℕ → List Line → Bool
are_by n lines = list_all (λ (l : Line). is_by n l.when) lines
