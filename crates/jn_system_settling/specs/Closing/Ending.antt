-- The end of a run, and that nothing is left after it.
use Rattle.std.specs.Prelude.{◌≡◌, ◌≤◌, ℕ, List, [], ◌∷◌, ◌++◌, map, Some, None}
use Rattle.jn_base.specs.declared.names.ServerNo.{ServerNo}
use Rattle.jn_base.specs.declared.names.Tid.{Tid}
use Rattle.jn_base.specs.declared.names.WorkId.{WorkId}
use Rattle.jn_base.specs.declared.names.LockUnit.{LockUnit}
use Rattle.jn_order.specs.Files.{AllFiles}
use Rattle.jn_rows.specs.Stable.{StableState, Pick}
use Rattle.jn_system.specs.SmallSteps.World.{Commit, IsSerial, replay}
use Rattle.jn_system.specs.SmallSteps.Order.{CommitsOnce}
use Rattle.jn_system.specs.WholeSystem.World.{World, Memory, commits_in, servers_from}
use Rattle.jn_system.specs.WholeSystem.Steps.{Step, Crash, Narrow, Restart, Dismiss, CloseClients}
use Rattle.jn_system_order.specs.Mirroring.Mirrors.{commits_of}
use Rattle.jn_system.specs.WholeSystem.Course.{Course, go_on}
use Rattle.jn_system.specs.WholeSystem.Settle.{Chance, settled}
use Rattle.jn_system_settling.specs.AtRest.Settled.{AreUp}

-- ---- the end

-- How a server comes up: what each pick finds by then, by which pick it reads, and the names that it reads.
pub record Start : Type 0 where
  pub narrowed : Pick → Pick
  pub pick : Pick
  pub works : List WorkId
  pub tids : List Tid

abbrev pub restarts : (ServerNo → Start) → List ServerNo → List Step
restarts starts [] = []
restarts starts (s ∷ servers) = Narrow s (starts s).narrowed ∷ Restart s (starts s).pick (starts s).works (starts s).tids ∷ restarts starts servers

-- The clients are dismissed. Each server goes down, each comes up, and each counts its outcomes as thanked.
abbrev pub end_steps : (ServerNo → Start) → List ServerNo → List Step
end_steps starts servers = Dismiss ∷ map (λ (s : ServerNo). Crash s) servers ++ (restarts starts servers ++ map (λ (s : ServerNo). CloseClients s) servers)

-- what waits is dropped
abbrev pub without_messages : Course → Course
without_messages c = record c { waiting = [] }

abbrev pub ended : ℕ → (ServerNo → Start) → Course → Course
ended servers starts c = go_on (end_steps starts (servers_from 0 servers)) (without_messages c)

-- ---- what is left

-- no work and no transaction at a server that is up, and no work and no flag in any state that may be found
pub record IsEmpty (m : Memory) (found : Pick → StableState) : Type 0 where
  pub works : m.worker ≡ []
  pub transactions : m.coordinator.transactions ≡ []
  pub stored : (c : Pick) (W : WorkId) → (found c).works W ≡ None
  pub flags : (c : Pick) (T : Tid) → (found c).flags T ≡ None

-- no message waits, and nothing is left at a server
pub record IsClosed (c : Course) : Type 0 where
  pub waits : c.waiting ≡ []
  pub servers : (s : ServerNo) (m : Memory) → c.world.memory s ≡ Some m → IsEmpty m (c.world.found s)

-- The commits of the lines have a history: what each transaction is answered in it is what those before it left, and each
-- register of each state that may be found is as they all leave it.
pub record IsAsCommitted (files : AllFiles) (w : World) : Type 0 where
  pub history : List Commit
  pub told : commits_of history ≡ commits_in w.lines
  pub once : CommitsOnce history
  pub serial : IsSerial files history
  pub shown : (s : ServerNo) (c : Pick) (u : LockUnit) → (w.found s c).files u ≡ replay files history s u

-- what is so after a settle, from some number of steps on, where all of so many servers are up then
pub record Leaves (IsSo : Course → Type 0) (servers : ℕ) (first second : ℕ → Chance) (c : Course) : Type 0 where
  pub steps : ℕ
  pub each : (n : ℕ) → steps ≤ n → AreUp servers (settled servers (record { first = first; second = second; steps = n }) c).world
      → IsSo (settled servers (record { first = first; second = second; steps = n }) c)
