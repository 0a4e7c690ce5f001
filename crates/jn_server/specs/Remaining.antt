-- How many background steps a server has still to make.
use Rattle.std.specs.Prelude.{ℕ, ◌+◌, ◌-◌, if◌then◌else◌, [], ◌∷◌, length}
use Rattle.jn_base.specs.declared.names.WorkId.{WorkId}
use Rattle.jn_rows.specs.Stable.{StableState, is_going}
use Rattle.jn_rows.specs.Worker.{WorkerTable, intentions_of}
use Rattle.jn_server.specs.Seen.{ServerView}
use Rattle.jn_storage.specs.Calls.{state}

-- A work that goes with so many intentions, of which so many are carried out: one for each that is left, one for its end, and one for
-- the record of each, which is rubbish by then.
abbrev pub steps_of : ℕ → ℕ → ℕ
steps_of intentions next = (intentions - next) + (intentions + 1)

abbrev pub steps_of_work : StableState → (WorkId → ℕ) → WorkId → ℕ
steps_of_work x next W = if is_going (x.works W) then steps_of (length (intentions_of (x.works W))) (next W) else 0

-- of all works of a table
abbrev pub steps_of_works : StableState → (WorkId → ℕ) → WorkerTable → ℕ
steps_of_works x next [] = 0
steps_of_works x next (w ∷ ws) = steps_of_work x next w.name + steps_of_works x next ws

-- and one for each record that is rubbish by now
abbrev pub steps_left : ServerView → ℕ
steps_left v = steps_of_works (state v.storage) v.storage.accounts.next v.worker.table + length v.storage.accounts.rubbish
