-- What stands before each stop and each refused fault.
use Rattle.std.specs.Prelude.{◌≡◌, true, List, [], ◌∷◌, ◌++◌}
use Rattle.jn_schedule.specs.declared.Event.{Event}
use Rattle.jn_report.specs.declared.line.Line.{Line}
use Rattle.jn_serial.specs.Caused.{is_caused}
use Rattle.jn_report.specs.Kinds.{is_fault}

abbrev pub ArmedFrom : List Event → List Line → List Line → Type 0
ArmedFrom es before [] = Unit {0}
ArmedFrom es before (l ∷ ls) = (is_fault l.text ≡ true → is_caused es (before ++ l ∷ []) l.when l.text ≡ true) × ArmedFrom es (before ++ l ∷ []) ls

-- each stop and each refused fault has an event of its own that can have given it
abbrev pub AreArmed : List Event → List Line → Type 0
AreArmed es lines = ArmedFrom es [] lines
