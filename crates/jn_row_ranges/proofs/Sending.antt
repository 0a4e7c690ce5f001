-- Servers send no requests, and draw a name only with a message.
use Rattle.jn_row_ranges.proofs.Common.{◌≡◌, ℕ, true, List, [], ◌∷◌, ◌++◌, Some, refl, arith, ClientNo, Tid, WorkId, Tickets, Message, Transaction, Stage, Open, Voting, Committed, Aborted, StableState, RowOutcome, Sent, CoordinatorTable, besides, drops, commits, prepares, coordinator_row, told_again, coordinator_again, is_from_server, are_from_server, AreDrawn, WorkerTable, WorkStorage, worker_row, worker_step, worker_again, Replies, is_open_already, WorkerCase, replies_only, opens_anew, WorkerStep, erases_rubbish, worker-case, worker-step-case, Saying, says_nothing, says_unknown, prepares_again, CoordinatorCase, is_left_by, begins_anew, starts_voting, is_committed_by, is_aborted_by, coordinator-case}
use Rattle.std.proofs.Common.{◌+◌}

-- ---- lists of messages

pub both : (a b : List Sent) → are_from_server a ≡ true → are_from_server b ≡ true → are_from_server (a ++ b) ≡ true
both [] b h k = k
both (x ∷ a) b h k = let again = both a b in grind (arith, h, k)

drops-are : (T : Tid) (Ws : List WorkId) → are_from_server (drops T Ws) ≡ true
drops-are T [] = refl
drops-are T (W ∷ Ws) = drops-are T Ws

commits-are : (T : Tid) (Ws : List WorkId) → are_from_server (commits T Ws) ≡ true
commits-are T [] = refl
commits-are T (W ∷ Ws) = commits-are T Ws

prepares-are : (T : Tid) (c : ClientNo) (Ws : List WorkId) → are_from_server (prepares T c Ws) ≡ true
prepares-are T c [] = refl
prepares-are T c (W ∷ Ws) = prepares-are T c Ws

-- ---- a row

pub record IsPlain (k : Tickets) (sent : List Sent) (now : Tickets) : Type 0 where
  pub requests : are_from_server sent ≡ true
  pub drawn : AreDrawn k sent now

abbrev Plain : {Table : Type 0} → Tickets → RowOutcome Table → Type 0
Plain k row = IsPlain k row.messages row.tickets

same-tickets : (k : Tickets) (sent : List Sent) → AreDrawn k sent k
same-tickets k sent = record { server = refl; epoch = refl; rises = omega arith; next = omega arith }

still : (k : Tickets) (sent : List Sent) → are_from_server sent ≡ true → IsPlain k sent k
still k sent h = record { requests = h; drawn = same-tickets k sent }

-- one name, with one message
one-name : (k : Tickets) (x : Sent) → is_from_server x.1 ≡ true → IsPlain k (x ∷ []) (record k { next = k.next + 1 })
one-name k x h = record { requests = grind (arith, h); drawn = record { server = refl; epoch = refl; rises = omega arith; next = omega arith } }

-- ---- a worker's rows

module _ (t : WorkerTable) (s : WorkStorage) (k : Tickets) where
  reply-is : (m : Message) (x : Sent) → Replies t s k m x → are_from_server (x ∷ []) ≡ true
  reply-is _ _ (is_open_already c q T w e) = refl
  reply-is _ _ _ = refl

  pub worker-plain : (m : Message) → Plain k (worker_row t s k m)
  worker-plain m = by m (worker_row t s k m) (worker-case t s k m)
    where
      by : (m : Message) (row : RowOutcome WorkerTable) → WorkerCase t s k m row → Plain k row
      by _ _ (replies_only m x r) = still k _ (reply-is m x r)
      by _ _ (opens_anew c q T none room) = one-name k _ refl
      by _ _ _ = still k _ refl

  pub step-plain : (row : RowOutcome WorkerTable) → worker_step t s k ≡ Some row → (are_from_server row.messages ≡ true) × (row.tickets ≡ k)
  step-plain row e = by row (worker-step-case t s k row e)
    where
      by : (row : RowOutcome WorkerTable) → WorkerStep t s k row → (are_from_server row.messages ≡ true) × (row.tickets ≡ k)
      by _ (erases_rubbish e g) = (refl, refl)
      by _ _ = (refl, refl)

pub worker-again-are : (x : StableState) (t : WorkerTable) → are_from_server (worker_again x t) ≡ true
worker-again-are x [] = refl
worker-again-are x (w ∷ ws) = let again = worker-again-are x ws in grind (arith, again)

-- ---- a coordinator's rows

module _ (t : CoordinatorTable) (k : Tickets) where
  said-are : (m : Message) (sent : List Sent) → Saying t k m sent → are_from_server sent ≡ true
  said-are _ _ (says_nothing m W y asks found) = refl
  said-are _ _ (says_unknown m c T works ends none) = drops-are T works
  said-are _ _ (prepares_again c q works y b found e) = prepares-are y.tid y.client (besides b.works b.ready)
  said-are _ _ _ = refl

  pub coordinator-plain : (free : ℕ) (m : Message) → Plain k (coordinator_row t free k m)
  coordinator-plain free m = by m (coordinator_row t free k m) (coordinator-case t free k m)
    where
      by : (m : Message) (row : RowOutcome CoordinatorTable) → CoordinatorCase t free k m row → Plain k row
      by _ _ (is_left_by m sent says) = still k _ (said-are m sent says)
      by _ _ (begins_anew c q later room) = one-name k _ refl
      by _ _ (starts_voting c q W Ws y found e room) = still k _ (prepares-are y.tid y.client (W ∷ Ws))
      by _ _ (is_committed_by m y q works found why) = still k _ (both (commits y.tid works) _ (commits-are y.tid works) refl)
      by _ _ (is_aborted_by m y cause works found why) = still k _ (both (drops y.tid works) _ (drops-are y.tid works) refl)
      by _ _ _ = still k _ refl

told-again-are : (y : Transaction) (s : Stage) → are_from_server (told_again y s) ≡ true
told-again-are y (Committed d) = both (commits y.tid (besides d.works d.done)) _ (commits-are y.tid (besides d.works d.done)) (grind arith)
told-again-are y (Aborted cause) = refl
told-again-are y Open = refl
told-again-are y (Voting b) = refl

pub coordinator-again-are : (xs : List Transaction) → are_from_server (coordinator_again xs) ≡ true
coordinator-again-are [] = refl
coordinator-again-are (y ∷ ys) = both (told_again y y.stage) (coordinator_again ys) (told-again-are y y.stage) (coordinator-again-are ys)
