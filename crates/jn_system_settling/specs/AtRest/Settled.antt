-- What a settle leaves behind where all of so many servers are up.
-- Rubbish records are no part of these states, so nothing is said of them.
use Rattle.std.specs.Prelude.{◌⊎◌, Option, ◌≡◌, ◌≤◌, ◌<◌, ℕ, Bool, true, false, nat_eq, ◌&&◌, [], Some, None, is_some}
use Rattle.std.specs.List.{list_any}
use Rattle.jn_base.specs.declared.names.ServerNo.{ServerNo}
use Rattle.jn_base.specs.declared.names.ClientNo.{ClientNo}
use Rattle.jn_base.specs.declared.names.Tid.{Tid}
use Rattle.jn_base.specs.declared.names.WorkId.{WorkId}
use Rattle.jn_base.specs.declared.op.Command.TheVariants.{End}
use Rattle.jn_base.specs.Names.{client_eq, tid_eq}
use Rattle.jn_report.specs.declared.line.Text.{Text}
use Rattle.jn_report.specs.declared.line.Text.TheVariants as says
use Rattle.jn_rows.specs.declared.client.Outstanding.{Outstanding}
use Rattle.jn_rows.specs.Stable.{Pick}
use Rattle.jn_rows.specs.declared.worker.Work.{Work}
use Rattle.jn_rows.specs.declared.coordinator.Transaction.{Transaction}
use Rattle.jn_rows.specs.declared.coordinator.Stage.{Stage}
use Rattle.jn_rows.specs.declared.coordinator.Stage.TheVariants.{Open, Voting}
use Rattle.jn_rows.specs.Worker.{work_at}
use Rattle.jn_rows.specs.Coordinator.{transaction_at}
use Rattle.jn_system.specs.WholeSystem.World.{World, Memory, own_texts}
use Rattle.jn_system.specs.WholeSystem.Course.{Course}
use Rattle.jn_system.specs.WholeSystem.Settle.{Chance, settled}
use Rattle.jn_system_settling.specs.Settling.Bounds.{NothingGoes}

abbrev pub AreUp : ℕ → World → Type 0
AreUp servers w = (s : ServerNo) → s.0 < servers → is_some (w.memory s) ≡ true

-- a client waits for nothing but an end
abbrev pub AreAnswered : World → Type 0
AreAnswered w = (c : ClientNo) (o : Outstanding) → 1 ≤ c.0 → c.0 ≤ 8 → (w.clients c).outstanding ≡ Some o → o.command ≡ End

-- the client is told that its end of this event waits
abbrev pub tells_waiting : ClientNo → ℕ → Text → Bool
tells_waiting c j (says.Waiting d i s u by) = client_eq c d && nat_eq j i
tells_waiting c j text = false

-- each end that a client waits for was reported to wait
abbrev pub EndsWait : World → World → Type 0
EndsWait before now = (c : ClientNo) (o : Outstanding) → 1 ≤ c.0 → c.0 ≤ 8 → (now.clients c).outstanding ≡ Some o → list_any (tells_waiting c o.event) (own_texts before now) ≡ true

-- no flag is found at any of so many servers
abbrev pub AreForgotten : ℕ → World → Type 0
AreForgotten servers w = (s : ServerNo) (c : Pick) (T : Tid) → s.0 < servers → (w.found s c).flags T ≡ None

-- ---- live works

-- the work's entry at its server
abbrev pub entry_in : Option Memory → WorkId → Option Work
entry_in None W = None
entry_in (Some m) W = work_at W m.worker

abbrev pub live_at : World → WorkId → Option Work
live_at w W = entry_in (w.memory W.server) W

abbrev pub is_undecided : Stage → Bool
is_undecided Open = true
is_undecided (Voting b) = true
is_undecided stage = false

abbrev pub is_held : Option Transaction → Bool
is_held None = false
is_held (Some x) = is_undecided x.stage

abbrev pub holds_undecided : Option Memory → Tid → Bool
holds_undecided None T = false
holds_undecided (Some m) T = is_held (transaction_at T m.coordinator.transactions)

-- a line of its commit or of its abort
abbrev pub tells_outcome : Tid → Text → Bool
tells_outcome T (says.Commit U) = tid_eq U T
tells_outcome T (says.Aborted c j U cause) = tid_eq U T
tells_outcome T text = false

-- Each live work at any of so many servers belongs to a transaction that its coordinator holds undecided, or whose commit or
-- abort was reported since, or it wasn't live before.
abbrev pub AreDecided : ℕ → World → World → Type 0
AreDecided servers before now = (W : WorkId) (w : Work) → W.server.0 < servers → live_at now W ≡ Some w
    → (holds_undecided (now.memory w.tid.server) w.tid ≡ true) ⊎ ((list_any (tells_outcome w.tid) (own_texts before now) ≡ true) ⊎ (live_at before W ≡ None))

-- ---- the whole

pub record IsSettled (servers : ℕ) (before now : Course) : Type 0 where
  -- no message waits and no work goes
  pub waits : now.waiting ≡ []
  pub goes : NothingGoes servers now.world
  -- a client waits at most for an end that it was told waits
  pub answers : AreAnswered now.world
  pub ends : EndsWait before.world now.world
  pub flags : AreForgotten servers now.world
  pub works : AreDecided servers before.world now.world

-- from some number of steps on, where all of so many servers are up then, this holds of the course before the settle and after it
pub record LeavesBetween (servers : ℕ) (first second : ℕ → Chance) (c : Course) (what : Course → Course → Type 0) : Type 0 where
  pub steps : ℕ
  pub each : (n : ℕ) → steps ≤ n → AreUp servers (settled servers (record { first = first; second = second; steps = n }) c).world
      → what c (settled servers (record { first = first; second = second; steps = n }) c)
