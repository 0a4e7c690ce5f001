-- Steps of a loop, each of which is what comes next in its turn.
use Rattle.std.specs.Prelude.{◌≡◌, ◌≤◌, ◌<◌, ◌⊎◌, ℕ, zero, suc, ◌+◌, false, List, [], ◌∷◌, length, Some, None}
use Rattle.jn_records.specs.MapPlaces.{no_maps}
use Rattle.jn_base.specs.declared.names.ServerNo.{ServerNo}
use Rattle.jn_rows.specs.Stable.{Pick, Left}
use Rattle.jn_system.specs.WholeSystem.World.{World, servers_from, clients_from}
use Rattle.jn_system.specs.WholeSystem.Servers.{Room}
use Rattle.jn_system.specs.WholeSystem.Steps.{Step, StopWork}
use Rattle.jn_system.specs.WholeSystem.Course.{Course, go, go_on}
use Rattle.jn_system.specs.WholeSystem.Settle.{Chance, Chances, first_busy, next_step, ask_again}
use Rattle.jn_system_settling.specs.Settling.Bounds.{IsCourse, deliveries, settle_bound}

-- this holds of each step, as the course stands in its turn
abbrev pub EachInTurn : (Course → Step → Type 0) → List Step → Course → Type 0
EachInTurn P [] c = Unit {0}
EachInTurn P (step ∷ steps) c = P c step × EachInTurn P steps (go step c)

-- a step is what comes next, with this chance
pub record ComesNext (servers : List ServerNo) (c : Course) (step : Step) : Type 0 where
  pub chance : Chance
  pub is_next : next_step chance c.waiting (first_busy c.world servers) ≡ Some step

abbrev pub AreNext : List ServerNo → List Step → Course → Type 0
AreNext servers steps c = EachInTurn (ComesNext servers) steps c

-- no message waits, and none of these servers has something to do
pub record NothingIsLeft (servers : List ServerNo) (c : Course) : Type 0 where
  pub waits : c.waiting ≡ []
  pub idle : first_busy c.world servers ≡ None

-- each is what comes next, until nothing is left to do
pub record ComeToRest (servers : List ServerNo) (steps : List Step) (c : Course) : Type 0 where
  pub next : AreNext servers steps c
  pub rest : NothingIsLeft servers (go_on steps c)

-- ---- a settle

abbrev pub no_chance : Chance
no_chance = record { room = record { free = record { records = 0; heads = 0; pages = 0 }; maps = no_maps; rubbish = false }; stop = None }

-- what befell each of them
abbrev pub chances_of : (servers : List ServerNo) (steps : List Step) (c : Course) → AreNext servers steps c → ℕ → Chance
chances_of servers [] c h n = no_chance
chances_of servers (step ∷ steps) c h zero = h.0.chance
chances_of servers (step ∷ steps) c h (suc n) = chances_of servers steps (go step c) h.1 n

-- each client and each server has sent once more what waits for an answer
abbrev pub asked : ℕ → Course → Course
asked servers c = go_on (ask_again (clients_from 1 8) (servers_from 0 servers)) c

-- two lists of steps with the asking between them
abbrev pub in_two : ℕ → List Step → List Step → Course → Course
in_two servers one two c = go_on two (asked servers (go_on one c))

abbrev pub both_parts : (servers : ℕ) (one two : List Step) (c : Course) → AreNext (servers_from 0 servers) one c → AreNext (servers_from 0 servers) two (asked servers (go_on one c)) → Chances
both_parts servers one two c first second = record {
  first = chances_of (servers_from 0 servers) one c first;
  second = chances_of (servers_from 0 servers) two (asked servers (go_on one c)) second;
  steps = length one + length two;
}

-- ---- where a server that only erases may be stopped

-- a server is stopped while it works, whether one of its works goes or not
pub record IsHalt (servers : ℕ) (step : Step) : Type 0 where
  pub server : ServerNo
  pub room : Room
  pub made : Pick → Left
  pub is : step ≡ StopWork server room made
  pub below : server.0 < servers

-- each step is what comes next, or such a stop
abbrev pub EachComes : ℕ → List Step → Course → Type 0
EachComes servers steps c = EachInTurn (λ now step. ComesNext (servers_from 0 servers) now step ⊎ IsHalt servers step) steps c

-- the course that began as the first one and came to the last one is within the bound of a settle
pub record IsBounded (servers : ℕ) (start : World) (c : Course) (last : Course) : Type 0 where
  pub course : IsCourse start last
  pub handed : deliveries last.steps ≤ deliveries c.steps + settle_bound servers c
  pub sent : length last.world.sent + length c.waiting ≤ length c.world.sent + settle_bound servers c
