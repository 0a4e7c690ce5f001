-- That a settle ends, and how many messages it hands over.
use Rattle.std.specs.Prelude.{◌≡◌, ◌≤◌, ◌<◌, ℕ, ◌+◌, ◌*◌, false, List, [], ◌∷◌, length, Some, None}
use Rattle.jn_system.specs.WholeSystem.World.{World, Memory, servers_from}
use Rattle.jn_system.specs.WholeSystem.Steps.{Step, Deliver, StopDelivery, run, IsRun}
use Rattle.jn_system.specs.WholeSystem.Course.{Course}
use Rattle.jn_system.specs.WholeSystem.Settle.{Chance, Chances, first_busy, settled}
use Rattle.jn_system_settling.specs.Settling.Weights.{going_works}
use Rattle.jn_base.specs.declared.names.ServerNo.{ServerNo}
use Rattle.jn_rows.specs.Stable.{Pick, is_going}
use Rattle.jn_base.specs.declared.names.WorkId.{WorkId}

abbrev pub one_if_delivery : Step → ℕ
one_if_delivery (Deliver k room) = 1
one_if_delivery (StopDelivery k room made) = 1
one_if_delivery step = 0

-- how many messages were handed over
abbrev pub deliveries : List Step → ℕ
deliveries [] = 0
deliveries (step ∷ steps) = one_if_delivery step + deliveries steps

-- no message waits, and none of so many servers has something to do
pub record IsAtRest (servers : ℕ) (c : Course) : Type 0 where
  pub waits : c.waiting ≡ []
  pub idle : first_busy c.world (servers_from 0 servers) ≡ None

-- no stable state that may be found at a server that is up has a work that goes
abbrev pub NothingGoes : ℕ → World → Type 0
NothingGoes servers w = (s : ServerNo) (m : Memory) (c : Pick) (W : WorkId) → s.0 < servers → w.memory s ≡ Some m → is_going ((w.found s c).works W) ≡ false

-- the course's steps are a run from the opening, and lead to its world
pub record IsCourse (start : World) (c : Course) : Type 0 where
  pub is_run : IsRun c.steps start
  pub stands : run c.steps start ≡ c.world

-- What a settle hands over: each message that waits and each that a client or a server sends again may lead to 161 at
-- most, and each work that goes to one.
abbrev pub settle_bound : ℕ → Course → ℕ
settle_bound servers c = 161 * (length c.waiting + 8 + 640 * servers) + going_works c.world (servers_from 0 servers)

-- a settle, whatever befalls its steps and however many they are at most
pub record IsSettle (servers : ℕ) (start : World) (chances : Chances) (c : Course) : Type 0 where
  pub course : IsCourse start (settled servers chances c)
  pub handed : deliveries (settled servers chances c).steps ≤ deliveries c.steps + settle_bound servers c
  -- and so many messages are sent, fewer by those that waited
  pub sent : length (settled servers chances c).world.sent + length c.waiting ≤ length c.world.sent + settle_bound servers c

-- from some number of steps on it is at rest, and no further step comes
pub record Ends (servers : ℕ) (first second : ℕ → Chance) (c : Course) : Type 0 where
  pub steps : ℕ
  pub last : Course
  pub rests : IsAtRest servers last
  pub quiet : NothingGoes servers last.world
  pub each : (n : ℕ) → steps ≤ n → settled servers (record { first = first; second = second; steps = n }) c ≡ last
