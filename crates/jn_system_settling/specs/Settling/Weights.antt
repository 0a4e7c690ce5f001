-- Weights: what a message may still lead to. A message that is handed over weighs more than all that it leads to.
use Rattle.std.specs.Prelude.{ℕ, ◌+◌, List, [], ◌∷◌, slice_get, Option, Some, None}
use Rattle.jn_base.specs.declared.names.ServerNo.{ServerNo}
use Rattle.jn_rows.specs.Stable.{StableState, stable}
use Rattle.jn_rows.specs.Outcomes.{Sent}
use Rattle.jn_system.specs.WholeSystem.World.{World, Memory}
use Rattle.jn_system.specs.WholeSystem.Course.{Course}
use Rattle.jn_msgs.specs.Weights.{weight}
use Rattle.jn_row_ranges.specs.Weighing.{goings}

abbrev pub weight_at : Option Sent → ℕ
weight_at None = 0
weight_at (Some message) = weight message.1

-- the messages of these numbers
abbrev pub weigh : List Sent → List ℕ → ℕ
weigh sent [] = 0
weigh sent (k ∷ waiting) = weight_at (slice_get sent k) + weigh sent waiting

-- the works that go at a server
abbrev pub goings_at : StableState → Option Memory → ℕ
goings_at x None = 0
goings_at x (Some m) = goings x.works m.worker

abbrev pub sum_over : (ServerNo → ℕ) → List ServerNo → ℕ
sum_over f [] = 0
sum_over f (s ∷ servers) = f s + sum_over f servers

-- the works that go at these servers
abbrev pub going_works : World → List ServerNo → ℕ
going_works w servers = sum_over (λ s. goings_at (stable (w.found s)) (w.memory s)) servers

-- what waits, and what goes
abbrev pub burden : List ServerNo → Course → ℕ
burden servers c = weigh c.world.sent c.waiting + going_works c.world servers
