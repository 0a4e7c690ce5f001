-- Settling: what waits is handed over and what goes is carried out, until nothing is left to do; then clients and servers
-- send once more what they wait for, and it goes on in the same way.
use Rattle.std.specs.Prelude.{ℕ, zero, suc, ◌+◌, if◌then◌else◌, List, [], ◌∷◌, ◌++◌, map, Option, Some, None}
use Rattle.jn_base.specs.declared.names.ServerNo.{ServerNo}
use Rattle.jn_base.specs.declared.names.ClientNo.{ClientNo}
use Rattle.jn_rows.specs.Stable.{Pick, stable, Left}
use Rattle.jn_system.specs.WholeSystem.World.{World, servers_from, clients_from}
use Rattle.jn_system.specs.WholeSystem.Servers.{Room, is_busy}
use Rattle.jn_system.specs.WholeSystem.Steps.{Step, Again, Nudge, handing, working}
use Rattle.jn_system.specs.WholeSystem.Course.{Course, go, go_on}

-- What befalls a step: what its server's storage says of itself, and how much of its changes each pick finds where it is
-- stopped. Nothing is said of it here, so whatever holds of all settles holds whatever befalls them.
pub record Chance : Type 0 where
  pub room : Room
  pub stop : Option (Pick → Left)

-- ---- what comes next

-- the first of these servers that has something to do
abbrev pub first_busy : World → List ServerNo → Option ServerNo
first_busy w [] = None
first_busy w (s ∷ servers) = if is_busy (stable (w.found s)) (w.memory s) then Some s else first_busy w servers

-- the least message that waits is handed over; where none waits, the first server that has something to do makes one step
abbrev pub next_step : Chance → List ℕ → Option ServerNo → Option Step
next_step chance (k ∷ waiting) busy = Some (handing k chance.room chance.stop)
next_step chance [] (Some s) = Some (working s chance.room chance.stop)
next_step chance [] None = None

-- ---- until nothing is left to do

abbrev pub onward : Option Step → Course → (Course → Course) → Course
onward None c rest = c
onward (Some step) c rest = rest (go step c)

-- so many steps at most, each with its chance
abbrev pub until_rest : List ServerNo → (ℕ → Chance) → ℕ → Course → Course
until_rest servers chances zero c = c
until_rest servers chances (suc steps) c = onward (next_step (chances 0) c.waiting (first_busy c.world servers)) c (until_rest servers (λ n. chances (n + 1)) steps)

-- each client and each server sends once more what waits for an answer; a server that is down sends nothing
abbrev pub ask_again : List ClientNo → List ServerNo → List Step
ask_again clients servers = map (λ (c : ClientNo). Again c) clients ++ map (λ (s : ServerNo). Nudge s) servers

-- what befalls the steps before and after that, and how many they are at most
pub record Chances : Type 0 where
  pub first : ℕ → Chance
  pub second : ℕ → Chance
  pub steps : ℕ

-- clients and servers that settle
abbrev pub settled_by : List ClientNo → List ServerNo → Chances → Course → Course
settled_by clients servers chances c = until_rest servers chances.second chances.steps (go_on (ask_again clients servers) (until_rest servers chances.first chances.steps c))

-- all eight clients and so many servers
abbrev pub settled : ℕ → Chances → Course → Course
settled servers chances c = settled_by (clients_from 1 8) (servers_from 0 servers) chances c
