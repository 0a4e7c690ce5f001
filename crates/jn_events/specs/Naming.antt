-- Which transactions have a commit line, and which a restart names.
use Rattle.jn_base.specs.declared.names.ServerNo.{ServerNo}
use Rattle.jn_base.specs.declared.names.Tid.{Tid}
use Rattle.jn_place.specs.declared.place.Restarted.{Restarted}
use Rattle.jn_report.specs.declared.line.Text.{Text}
use Rattle.jn_serial.specs.Lines.{has_tid}
use Rattle.std.specs.Prelude.{if◌then◌else◌, List, [], ◌∷◌, ◌++◌, Bool, true, false}
use Rattle.jn_place.specs.declared.place.Restarted.TheVariants as came
use Rattle.jn_report.specs.declared.line.Text.TheVariants as says

-- each of these that has no line yet is named, and has one then
abbrev pub newly_named : List Tid → List Tid → List Text
newly_named [] names = []
newly_named (T ∷ Ts) names = if has_tid names T then newly_named Ts names else says.Commit T ∷ newly_named Ts (names ++ T ∷ [])

-- how a restart ended
abbrev pub restart_texts : ServerNo → List Tid → Restarted → List Text
restart_texts q names (came.Up epoch tids) = says.Up q epoch ∷ newly_named tids.items names
restart_texts q names came.Stopped = says.Stopped q ∷ []
restart_texts q names came.UsedUp = []

abbrev pub has_come : Restarted → Bool
has_come came.UsedUp = false
has_come restarted = true
