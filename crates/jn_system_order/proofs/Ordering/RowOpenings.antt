-- No row but that of a Begin says that a transaction has begun.
use Rattle.jn_system_order.proofs.Common.{◌≡◌, ℕ, Bool, true, false, List, [], ◌∷◌, ◌++◌, Option, Some, None, refl, ◌∙◌, ap, if◌then◌else◌, ClientNo, Tid, WorkId, Tickets, Server, tid_eq, Message, Transaction, Stage, Open, Voting, Committed, Aborted, StableState, FlagState, Change, is_going, RowOutcome, Sent, WorkerTable, WorkStorage, worker_row, worker_step, worker_again, CoordinatorTable, with_stage, without, besides, drops, commits, prepares, told_again, coordinator_again, restored_transaction, restored_transactions, committed_to, aborted_to, Closes, Empty, Stays, Goes, Waits, Forgets, RequestNo, WorkerCase, replies_only, is_done_already, WorkerStep, erases_rubbish, worker-case, worker-step-case, true≢false, coordinator_row}
use Rattle.jn_msgs.specs.declared.message.Message.TheVariants as messages
use Rattle.jn_system.proofs.WholeSystem.CoordinatorCases.{Saying, says_nothing, says_begun, says_unknown, prepares_again, CoordinatorCase, is_ignored_by, is_left_by, begins_anew, finds_no_room, starts_voting, counts_vote, is_committed_by, is_aborted_by, notes_commit, forgets_commit, forgets_abort, coordinator-case}
use Rattle.jn_system_order.proofs.Ordering.Openings.{Opening, opening_in, openings, openings-more, HaveOpenings}

-- ---- a worker's

abbrev OpensNone : RowOutcome WorkerTable → Type 0
OpensNone row = openings row.messages ≡ []

pub worker-none : (t : WorkerTable) (s : WorkStorage) (k : Tickets) (m : Message) → OpensNone (worker_row t s k m)
worker-none t s k m = by m (worker_row t s k m) (worker-case t s k m)
  where
    by : (m : Message) (row : RowOutcome WorkerTable) → WorkerCase t s k m row → OpensNone row
    by _ _ (replies_only _ _ (is_done_already T W e)) = refl
    by m row case = refl

pub step-none : (t : WorkerTable) (s : WorkStorage) (k : Tickets) (row : RowOutcome WorkerTable) → worker_step t s k ≡ Some row → OpensNone row
step-none t s k row h = by row (worker-step-case t s k row h)
  where
    by : (row : RowOutcome WorkerTable) → WorkerStep t s k row → OpensNone row
    by _ (erases_rubbish e g) = refl
    by row case = refl

pub again-none : (x : StableState) (t : WorkerTable) → openings (worker_again x t) ≡ []
again-none x [] = refl
again-none x (w ∷ ws) = by (is_going (x.works w.name)) (again-none x ws)
  where
    by : (b : Bool) → openings (worker_again x ws) ≡ [] → openings (if b then worker_again x ws else (Server w.tid.server, messages.Inquire w.tid w.name) ∷ worker_again x ws) ≡ []
    by true h = h
    by false h = h

-- ---- a coordinator's

drops-quiet : (T : Tid) (works : List WorkId) → openings (drops T works) ≡ []
drops-quiet T [] = refl
drops-quiet T (W ∷ works) = drops-quiet T works

commits-quiet : (T : Tid) (works : List WorkId) → openings (commits T works) ≡ []
commits-quiet T [] = refl
commits-quiet T (W ∷ works) = commits-quiet T works

prepares-quiet : (T : Tid) (c : ClientNo) (works : List WorkId) → openings (prepares T c works) ≡ []
prepares-quiet T c [] = refl
prepares-quiet T c (W ∷ works) = prepares-quiet T c works

then-one : (sent : List Sent) (last : Sent) → openings sent ≡ [] → opening_in last ≡ [] → openings (sent ++ last ∷ []) ≡ []
then-one sent last h k = openings-more sent (last ∷ []) ∙ ap (λ z. z ++ (opening_in last ++ [])) h ∙ ap (λ z. z ++ []) k

-- a row sends no opening, and its table has the same
pub record Quiet (t : CoordinatorTable) (row : RowOutcome CoordinatorTable) : Type 0 where
  pub none : openings row.messages ≡ []
  pub keeps : (os : List Opening) → HaveOpenings os t.transactions → HaveOpenings os row.table.transactions

staged-have : (os : List Opening) (T : Tid) (stage : Stage) (xs : List Transaction) → HaveOpenings os xs → HaveOpenings os (with_stage T stage xs)
staged-have os T stage [] h = tt
staged-have os T stage (x ∷ xs) h = by (tid_eq x.tid T) (staged-have os T stage xs h.1)
  where
    by : (b : Bool) → HaveOpenings os (with_stage T stage xs) → HaveOpenings os (if b then record x { stage = stage } ∷ xs else x ∷ with_stage T stage xs)
    by true on = (h.0, h.1)
    by false on = (h.0, on)

less-have : (os : List Opening) (T : Tid) (xs : List Transaction) → HaveOpenings os xs → HaveOpenings os (without T xs)
less-have os T [] h = tt
less-have os T (x ∷ xs) h = by (tid_eq x.tid T) (less-have os T xs h.1)
  where
    by : (b : Bool) → HaveOpenings os (without T xs) → HaveOpenings os (if b then xs else x ∷ without T xs)
    by true on = h.1
    by false on = (h.0, on)

pub closes-have : (os : List Opening) {P : Transaction → Type 0} {xs ys : List Transaction} {cs : List Change} → Closes P xs ys cs → HaveOpenings os xs → HaveOpenings os ys
closes-have os Empty h = tt
closes-have os (Stays x c) h = (h.0, closes-have os c h.1)
closes-have os (Goes x p e c) h = closes-have os c h.1
closes-have os (Waits x d p e c) h = (h.0, closes-have os c h.1)
closes-have os (Forgets x d p e g c) h = closes-have os c h.1

abbrev pub begins_one : Message → Bool
begins_one (messages.Begin c request) = true
begins_one m = false

module _ (t : CoordinatorTable) (free : ℕ) (k : Tickets) where
  says-none : (m : Message) (sent : List Sent) → begins_one m ≡ false → Saying t k m sent → openings sent ≡ []
  says-none _ _ other (says_nothing m W x asks found) = refl
  says-none _ _ other (says_begun c q x same e) = absurd (true≢false other)
  says-none _ _ other (says_unknown m c T works wants none) = drops-quiet T works
  says-none _ _ other (prepares_again c q works x b found e) = prepares-quiet x.tid x.client (besides b.works b.ready)
  says-none _ _ other _ = refl

  quiet-case : (m : Message) (row : RowOutcome CoordinatorTable) → begins_one m ≡ false → CoordinatorCase t free k m row → Quiet t row
  quiet-case _ _ other (is_ignored_by m) = record { none = refl; keeps = λ os h. h }
  quiet-case _ _ other (is_left_by m sent says) = record { none = says-none m sent other says; keeps = λ os h. h }
  quiet-case _ _ other (begins_anew c q later room) = absurd (true≢false other)
  quiet-case _ _ other (finds_no_room c q later full) = absurd (true≢false other)
  quiet-case _ _ other (starts_voting c q W Ws x found e room) = record { none = prepares-quiet x.tid x.client (W ∷ Ws); keeps = λ os h. staged-have os x.tid _ t.transactions h }
  quiet-case _ _ other (counts_vote W x b found e is waits) = record { none = refl; keeps = λ os h. staged-have os x.tid _ t.transactions h }
  quiet-case _ _ other (is_committed_by m x q works found why) = record { none = then-one (commits x.tid works) (committed_to x) (commits-quiet x.tid works) refl; keeps = λ os h. staged-have os x.tid _ t.transactions h }
  quiet-case _ _ other (is_aborted_by m x cause works found why) = record { none = then-one (drops x.tid works) (aborted_to x cause) (drops-quiet x.tid works) refl; keeps = λ os h. staged-have os x.tid _ t.transactions h }
  quiet-case _ _ other (notes_commit m x d found notes waits) = record { none = refl; keeps = λ os h. staged-have os x.tid (Committed d) t.transactions h }
  quiet-case _ _ other (forgets_commit m x d found notes through) = record { none = refl; keeps = λ os h. less-have os x.tid t.transactions h }
  quiet-case _ _ other (forgets_abort c x cause found e) = record { none = refl; keeps = λ os h. less-have os x.tid t.transactions h }

  pub coordinator-quiet : (m : Message) → begins_one m ≡ false → Quiet t (coordinator_row t free k m)
  coordinator-quiet m other = quiet-case m _ other (coordinator-case t free k m)

-- ---- what is sent again, and a restart

told-again-quiet : (x : Transaction) (stage : Stage) → openings (told_again x stage) ≡ []
told-again-quiet x Open = refl
told-again-quiet x (Voting b) = refl
told-again-quiet x (Aborted cause) = refl
told-again-quiet x (Committed d) = by d.thanked
  where
    by : (b : Bool) → openings (commits x.tid (besides d.works d.done) ++ (if b then [] else committed_to x ∷ [])) ≡ []
    by true = openings-more (commits x.tid (besides d.works d.done)) [] ∙ ap (λ z. z ++ []) (commits-quiet x.tid (besides d.works d.done))
    by false = then-one (commits x.tid (besides d.works d.done)) (committed_to x) (commits-quiet x.tid (besides d.works d.done)) refl

pub coordinator-again-quiet : (xs : List Transaction) → openings (coordinator_again xs) ≡ []
coordinator-again-quiet [] = refl
coordinator-again-quiet (x ∷ xs) = openings-more (told_again x x.stage) (coordinator_again xs) ∙ ap (λ z. z ++ openings (coordinator_again xs)) (told-again-quiet x x.stage) ∙ coordinator-again-quiet xs

pub restored-have : (os : List Opening) (x : StableState) (Ts : List Tid) → HaveOpenings os (restored_transactions x Ts)
restored-have os x [] = tt
restored-have os x (T ∷ Ts) = by (x.flags T) (restored-have os x Ts)
  where
    by : (o : Option FlagState) → HaveOpenings os (restored_transactions x Ts) → HaveOpenings os (restored_transaction T o ++ restored_transactions x Ts)
    by None on = on
    by (Some flag) on = (λ q e. absurd (none q e), on)
      where
        none : (q : RequestNo) → None ≡ Some q → ⊥
        none q e = cc
