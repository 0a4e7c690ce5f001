-- No row of a worker says that a transaction has committed.
use Rattle.jn_system_order.proofs.Common.{◌≡◌, List, [], ◌∷◌, ◌++◌, Option, Some, None, refl, Tid, WorkId, LockUnit, Tickets, Message, RowOutcome, WorkerTable, WorkStorage, Wanted, breaks_at, note_of, break_notes, commit_wants, worker_row, worker_step, WorkerCase, performs_next, prepares_it, WorkerStep, erases_rubbish, its_wants, worker-case, worker-step-case}
use Rattle.jn_system_order.proofs.Mirroring.Mirrored.{named_by}

abbrev NamesNone : RowOutcome WorkerTable → Type 0
NamesNone row = named_by row.notes ≡ []

-- a work that breaks names no commit
pub breaks-none : (T : Tid) (W : WorkId) (wants : List Wanted) (t : WorkerTable) → named_by (break_notes T W wants t) ≡ []
breaks-none T W wants [] = refl
breaks-none T W wants (v ∷ vs) = by (breaks_at W wants v) (breaks-none T W wants vs)
  where
    by : (o : Option LockUnit) → named_by (break_notes T W wants vs) ≡ [] → named_by (note_of T o v ++ break_notes T W wants vs) ≡ []
    by None h = h
    by (Some u) h = h

pub worker-none : (t : WorkerTable) (s : WorkStorage) (k : Tickets) (m : Message) → NamesNone (worker_row t s k m)
worker-none t s k m = by m (worker_row t s k m) (worker-case t s k m)
  where
    by : (m : Message) (row : RowOutcome WorkerTable) → WorkerCase t s k m row → NamesNone row
    by _ _ (performs_next c q W n op w a found e l r) = breaks-none w.tid w.name (its_wants s a op) t
    by _ _ (prepares_it T c W w a found e v) = breaks-none w.tid w.name (commit_wants a.writes) t
    by m row case = refl

pub step-none : (t : WorkerTable) (s : WorkStorage) (k : Tickets) (row : RowOutcome WorkerTable) → worker_step t s k ≡ Some row → NamesNone row
step-none t s k row h = by row (worker-step-case t s k row h)
  where
    by : (row : RowOutcome WorkerTable) → WorkerStep t s k row → NamesNone row
    by _ (erases_rubbish e g) = refl
    by row case = refl
