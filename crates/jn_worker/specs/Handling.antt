-- What a worker does with a message.
use Rattle.std.specs.Prelude.{Bool, false, not}
use Rattle.jn_base.specs.declared.names.Tickets.{Tickets}
use Rattle.jn_msgs.specs.declared.message.Message.{Message}
use Rattle.jn_msgs.specs.declared.message.Message.TheVariants.{Op, Prepare, Commit, Drop}
use Rattle.jn_rows.specs.Outcomes.{RowOutcome}
use Rattle.jn_rows.specs.Worker.{WorkerTable, work_at, prepare_row, commit_row, drop_row}
use Rattle.jn_storage.specs.Storage.{StorageView}
use Rattle.jn_worker.specs.Fitting.{is_none, seen}
use Rattle.jn_worker.specs.Reading.{asks_for}

-- whether a row changes what is stable
abbrev pub has_changes : RowOutcome WorkerTable → Bool
has_changes row = not (is_none row.changes)

-- Whether a message may ask the device: a read of a stored block is granted, or a work is prepared, marked as going or
-- removed. A vote that refuses, and an outcome that is ignored, leave the storage alone.
abbrev pub asks_device : WorkerTable → StorageView → Tickets → Message → Bool
asks_device t v k (Op c request W number op) = asks_for t v W number op (work_at W t)
asks_device t v k (Prepare T c W) = has_changes (prepare_row t (seen v) k T c W (work_at W t))
asks_device t v k (Commit T W) = has_changes (commit_row t (seen v) k T W (work_at W t))
asks_device t v k (Drop T W) = has_changes (drop_row t (seen v) k W (work_at W t))
asks_device t v k m = false
