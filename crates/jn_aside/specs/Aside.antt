-- Lines aside: that a server came up, and that a message was sent.
use Rattle.std.specs.Prelude.{Bool, true, false, ◌||◌, not, List, filter}
use Rattle.jn_schedule.specs.declared.Event.{Event}
use Rattle.jn_schedule.specs.declared.Event.TheVariants.{Show}
use Rattle.jn_report.specs.declared.line.Text.{Text}
use Rattle.jn_report.specs.Kinds.{is_up, is_message}
use Rattle.jn_report.specs.declared.line.Line.{Line}

abbrev pub is_aside : Text → Bool
is_aside text = is_up text || is_message text

-- all other lines
abbrev pub plain : List Line → List Line
plain lines = filter (λ (l : Line). not (is_aside l.text)) lines

-- an event that is to print a server's files
abbrev pub is_show : Event → Bool
is_show (Show s) = true
is_show _ = false
