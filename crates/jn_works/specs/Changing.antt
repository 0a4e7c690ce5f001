-- Works in a list, and changes of one of them.
use Rattle.std.specs.Prelude.{ℕ, if◌then◌else◌, List, [], ◌∷◌, Option, Some, None}
use Rattle.jn_base.specs.declared.names.WorkId.{WorkId}
use Rattle.jn_base.specs.declared.op.Answer.{Answer}
use Rattle.jn_base.specs.Names.{work_eq}
use Rattle.jn_records.specs.declared.intention.Intention.{Intention}
use Rattle.jn_rows.specs.declared.worker.Work.{Work}
use Rattle.jn_rows.specs.declared.worker.Phase.{Phase}
use Rattle.jn_rows.specs.declared.worker.Phase.TheVariants.{Active}
use Rattle.jn_rows.specs.Worker.{WorkerTable}
use Rattle.jn_storage.specs.Listing.{is_in}

-- the first work that a list of names has
abbrev pub going_in : List WorkId → WorkerTable → Option Work
going_in going [] = None
going_in going (w ∷ ws) = if is_in work_eq w.name going then Some w else going_in going ws

-- an active work has another list
abbrev pub relisted : List Intention → Phase → Phase
relisted list (Active a) = Active (record a { list = list })
relisted list phase = phase

abbrev pub list_in : List Intention → Phase → List Intention
list_in other (Active a) = a.list
list_in other phase = other

abbrev pub list_of : List Intention → Option Work → List Intention
list_of other None = other
list_of other (Some w) = list_in other w.phase

-- an active work's operation of this number has this answer
abbrev pub tallied : ℕ → Answer → Phase → Phase
tallied number answer (Active a) = Active (record a { last = number; kept = Some answer })
tallied number answer phase = phase
