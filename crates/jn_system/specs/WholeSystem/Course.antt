-- The whole system on its course: the messages that wait, and the steps so far.
use Rattle.std.specs.Prelude.{ℕ, ◌+◌, nat_eq, if◌then◌else◌, List, [], ◌∷◌, ◌++◌, length, drop}
use Rattle.jn_base.specs.declared.names.ServerNo.{ServerNo}
use Rattle.jn_order.specs.Files.{AllFiles}
use Rattle.jn_rows.specs.Outcomes.{Sent}
use Rattle.jn_system.specs.WholeSystem.World.{World, opening}
use Rattle.jn_system.specs.WholeSystem.Steps.{Step, Deliver, StopDelivery, after}

-- A message that is sent waits until it is handed over, to a server that is up or down.
pub record Course : Type 0 where
  pub world : World
  -- the numbers of the messages that wait, rising
  pub waiting : List ℕ
  -- every step so far, in order
  pub steps : List Step

-- so many servers that are up with these files and epochs, and nothing has happened
abbrev pub opening_course : ℕ → AllFiles → (ServerNo → ℕ) → Course
opening_course servers files epochs = record { world = opening servers files epochs; waiting = []; steps = [] }

-- ---- one step

abbrev pub without_number : ℕ → List ℕ → List ℕ
without_number k [] = []
without_number k (j ∷ js) = if nat_eq j k then js else j ∷ without_number k js

abbrev pub still_waiting : Step → List ℕ → List ℕ
still_waiting (Deliver k room) waiting = without_number k waiting
still_waiting (StopDelivery k room made) waiting = without_number k waiting
still_waiting step waiting = waiting

-- the numbers of these messages, of which the first has this one
abbrev pub numbered : ℕ → List Sent → List ℕ
numbered k [] = []
numbered k (message ∷ messages) = k ∷ numbered (k + 1) messages

-- what the second world has sent that the first one hadn't
abbrev pub newly_sent : World → World → List Sent
newly_sent before now = drop (length before.sent) now.sent

abbrev pub course_to : World → Step → Course → Course
course_to now step c = record {
  world = now;
  waiting = still_waiting step c.waiting ++ numbered (length c.world.sent) (newly_sent c.world now);
  steps = c.steps ++ step ∷ [];
}

abbrev pub go : Step → Course → Course
go step c = course_to (after step c.world) step c

abbrev pub go_on : List Step → Course → Course
go_on [] c = c
go_on (step ∷ steps) c = go_on steps (go step c)
