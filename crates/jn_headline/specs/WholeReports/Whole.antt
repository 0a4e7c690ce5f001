-- The report of a whole run is that of its commits.
use Rattle.std.specs.Prelude.{◌≡◌, ◌≤◌, ℕ, []}
use Rattle.jn_system.specs.WholeSystem.World.{World}
use Rattle.jn_system.specs.WholeSystem.Course.{Course, go_on}
use Rattle.jn_system.specs.WholeSystem.Settle.{Chance, settled}
use Rattle.jn_system_reports.specs.Reporting.Ending.{Ending, steps_at_end}

-- ---- an end that settles until nothing is left to do

-- where it begins to settle: what waited before the end is dropped
abbrev pub course_at_end : ℕ → Ending → World → Course
course_at_end servers e w = go_on (steps_at_end servers (record e { settling = [] })) (record { world = w; waiting = []; steps = [] })

-- Its steps are those of a settle, whatever befalls it, however many more it might take.
pub record IsSettledEnd (servers : ℕ) (e : Ending) (w : World) : Type 0 where
  pub first : ℕ → Chance
  pub second : ℕ → Chance
  pub enough : ℕ
  pub each : (n : ℕ) → enough ≤ n → (settled servers (record { first = first; second = second; steps = n }) (course_at_end servers e w)).steps ≡ steps_at_end servers e
