-- What messages and works may still lead to, and rows that leave less of it.
use Rattle.std.specs.Prelude.{◌≤◌, ℕ, ◌+◌, if◌then◌else◌, List, [], ◌∷◌, Option}
use Rattle.jn_base.specs.declared.names.WorkId.{WorkId}
use Rattle.jn_msgs.specs.Weights.{weight}
use Rattle.jn_rows.specs.Stable.{Prepared, StableState, is_going, made_all}
use Rattle.jn_rows.specs.Outcomes.{RowOutcome, Sent}
use Rattle.jn_rows.specs.Worker.{WorkerTable}
use Rattle.jn_system.specs.WholeSystem.World.{Memory}

-- what all messages of a list weigh
abbrev pub weigh_all : List Sent → ℕ
weigh_all [] = 0
weigh_all (message ∷ messages) = weight message.1 + weigh_all messages

-- how many of the works go
abbrev pub goings : (WorkId → Option Prepared) → WorkerTable → ℕ
goings stored [] = 0
goings stored (w ∷ ws) = if is_going (stored w.name) then goings stored ws + 1 else goings stored ws

-- A row leaves so much less to do than there was with so much more: what it sends, and the works that go then.
abbrev pub Lightens : ℕ → ℕ → Memory → StableState → RowOutcome Memory → Type 0
Lightens less more m x row = weigh_all row.messages + goings (made_all row.changes x).works row.table.worker + less ≤ goings x.works m.worker + more
