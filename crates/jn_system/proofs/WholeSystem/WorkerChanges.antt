-- No row of a worker puts or drops a flag, and each makes one change and draws one name at most.
use Rattle.jn_system.proofs.Common.{◌≡◌, ◌⊎◌, inl, inr, ◌+◌, List, [], ◌∷◌, Some, refl, sym, ◌∙◌, subst, ◌≤◌, arith, length, AllByRecursion, Tickets, change, Message, StableState, Change, AddReady, MarkGoing, CarryOut, RemoveWork, AddFlag, DropFlag, made_by, made_all, RowOutcome, WorkerTable, WorkStorage, worker_row, worker_step}
use Rattle.jn_system.proofs.WholeSystem.WorkerCases.{WorkerCase, opens_anew, prepares_it, marks_it, removes_it, WorkerStep, erases_rubbish, worker-case, worker-step-case}

-- no flag is put or dropped
abbrev pub IsOfWorks : Change → Type 0
IsOfWorks (AddFlag flag) = ⊥
IsOfWorks (DropFlag T) = ⊥
IsOfWorks change = Unit {0}

-- such changes leave the flags
pub works-flags : (changes : List Change) (x : StableState) → AllByRecursion IsOfWorks changes → (made_all changes x).flags ≡ x.flags
works-flags [] x h = refl
works-flags (c ∷ cs) x h = works-flags cs (made_by c x) h.1 ∙ one c h.0
  where
    one : (change : Change) → IsOfWorks change → (made_by change x).flags ≡ x.flags
    one (AddReady head list reads) k = refl
    one (MarkGoing W) k = refl
    one (CarryOut W i) k = refl
    one (RemoveWork W) k = refl
    one (AddFlag flag) k = absurd k
    one (DropFlag T) k = absurd k

-- the same tickets, or those after one name
abbrev pub DrawsOne : Tickets → Tickets → Type 0
DrawsOne k l = (l ≡ k) ⊎ (l ≡ record k { next = k.next + 1 })

pub record Aside (k : Tickets) (row : RowOutcome WorkerTable) : Type 0 where
  pub works : AllByRecursion IsOfWorks row.changes
  pub few : length row.changes ≤ 1
  pub tickets : DrawsOne k row.tickets

still : (k : Tickets) (row : RowOutcome WorkerTable) → row.changes ≡ [] → row.tickets ≡ k → Aside k row
still k row none same = record { works = subst (AllByRecursion IsOfWorks) (sym none) tt; few = subst (λ (cs : List Change). length cs ≤ 1) (sym none) (omega arith); tickets = inl same }

pub worker-aside : (t : WorkerTable) (s : WorkStorage) (k : Tickets) (m : Message) → Aside k (worker_row t s k m)
worker-aside t s k m = by m (worker_row t s k m) (worker-case t s k m)
  where
    by : (m : Message) (row : RowOutcome WorkerTable) → WorkerCase t s k m row → Aside k row
    by _ _ (opens_anew c q T none room) = record { works = tt; few = omega arith; tickets = inr refl }
    by _ _ (prepares_it T c W w a e f v) = record { works = (tt, tt); few = omega arith; tickets = inl refl }
    by _ _ (marks_it T W w p e f g) = record { works = (tt, tt); few = omega arith; tickets = inl refl }
    by _ _ (removes_it T W w p e f g) = record { works = (tt, tt); few = omega arith; tickets = inl refl }
    by m row case = still k row refl refl

pub step-aside : (t : WorkerTable) (s : WorkStorage) (k : Tickets) (row : RowOutcome WorkerTable) → worker_step t s k ≡ Some row → Aside k row
step-aside t s k row h = by row (worker-step-case t s k row h)
  where
    by : (row : RowOutcome WorkerTable) → WorkerStep t s k row → Aside k row
    by _ (erases_rubbish e g) = still k _ refl refl
    by row case = record { works = (tt, tt); few = omega arith; tickets = inl refl }
