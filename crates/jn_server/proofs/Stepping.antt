-- A background step of the worker, and what is sent again, as the whole server's.
use Rattle.jn_server.proofs.Common.{◌≡◌, Bool, true, false, ◌||◌, [], ◌++◌, length, append_assoc, Option, Some, None, refl, sym, ◌∙◌, ap, arith, Result, Ok, Err, OnOk, is_ok, is_some, nat_lt, IsErr, IsErrAnd, Collected, RowOutcome, WorkerTable, worker_step, worker_again, coordinator_again, StorageView, state, added, CallFault, WorkerSteps, AsksAgain, WorkerView, seen, of_step, server_step, server_again, step-aside, Steps, ServerView, memory_of, room_of, IsServer, subst, Accounts, HoldsAll}
use Rattle.jn_server.proofs.Room.{not_none}
use Rattle.jn_server.proofs.Working.{worked, one-leaves, works-hold, worker_failed}

pub same-ok : {E : Type 0} (answer : Result Bool E) (a b : Bool) → answer ≡ Ok a → answer ≡ Ok b → a ≡ b
same-ok answer a b d e = cc

no-ok : {E : Type 0} (answer : Result Bool E) (fault : E) (a : Bool) → answer ≡ Err fault → answer ≡ Ok a → ⊥
no-ok answer fault a d e = cc

module _ (v : ServerView) (serves : IsServer v) (before : Collected) (u : WorkerView) (w : StorageView) (after : Collected) where
  abbrev now : ServerView
  now = record { storage = w; worker = u; coordinator = v.coordinator; tickets = v.tickets }

  abbrev step : Option (RowOutcome WorkerTable)
  step = worker_step v.worker.table (seen v.storage) v.tickets

  stepped-by : (b : Bool) (o : Option (RowOutcome WorkerTable)) → step ≡ o → WorkerSteps o v.worker v.storage before v.tickets (Ok b) u w after v.tickets → Steps (of_step (memory_of v) o) v before (Ok b) now after
  stepped-by b None e h = (ap Ok (same-ok (Ok b) b false refl h.0), ap (λ (x : WorkerView). record now { worker = x }) h.1 ∙ ap (λ (x : StorageView). record v { storage = x }) h.2, h.3)
  stepped-by b (Some row) e h = (
    worked 32 32 (omega arith) v serves row (step-aside v.worker.table (seen v.storage) v.tickets row e) before u w after v.tickets b h.0,
    (λ ok. ap Ok (same-ok (Ok b) b true refl (h.1 refl))),
    (λ ok. ((λ none. h.2 none refl), one-leaves 32 32 (omega arith) v serves row (step-aside v.worker.table (seen v.storage) v.tickets row e) before u w after v.tickets (h.0.counts refl))),
  )

  pub stepped : (b : Bool) → WorkerSteps step v.worker v.storage before v.tickets (Ok b) u w after v.tickets → Steps (of_step (memory_of v) step) v before (Ok b) now after
  stepped b h = stepped-by b step refl h

  holds-by : (b : Bool) (o : Option (RowOutcome WorkerTable)) → step ≡ o → WorkerSteps o v.worker v.storage before v.tickets (Ok b) u w after v.tickets → HoldsAll v → HoldsAll now
  holds-by b None e h = subst (λ (z : ServerView). HoldsAll v → HoldsAll z) (sym (ap (λ (x : WorkerView). record now { worker = x }) h.1 ∙ ap (λ (x : StorageView). record v { storage = x }) h.2)) (λ old. old)
  holds-by b (Some row) e h = works-hold 32 32 (omega arith) v serves row (step-aside v.worker.table (seen v.storage) v.tickets row e) before u w after v.tickets b h.0
      (λ none. let erased = h.2 none refl in (ap (λ (a : Accounts). a.held) erased.others, ap (λ (a : Accounts). a.supplied) erased.others))

  -- what works hold goes on
  pub step-holds : (b : Bool) → WorkerSteps step v.worker v.storage before v.tickets (Ok b) u w after v.tickets → HoldsAll v → HoldsAll now
  step-holds b h = holds-by b step refl h

  failed-by : (fault : CallFault) (answer : Result Bool CallFault) → IsErr answer → IsErrAnd answer (λ e. e ≡ fault) → (o : Option (RowOutcome WorkerTable)) → step ≡ o
      → WorkerSteps o v.worker v.storage before v.tickets (Err fault) u w after v.tickets → Steps (of_step (memory_of v) o) v before answer now after
  failed-by fault answer is why None e h = absurd (no-ok (Err fault) fault false refl h.0)
  failed-by fault answer is why (Some row) e h = (
    worker_failed 32 32 (omega arith) v serves row (step-aside v.worker.table (seen v.storage) v.tickets row e) before u w after v.tickets _ fault answer is why h.0,
    (λ ok. absurd (never answer is ok)),
    (λ ok. absurd (never answer is ok)),
  )
    where
      never : (answer : Result Bool CallFault) → IsErr answer → is_ok answer ≡ true → ⊥
      never (Ok x) i ok = cc i
      never (Err x) i ok = cc ok

  pub step-failed : (fault : CallFault) (answer : Result Bool CallFault) → IsErr answer → IsErrAnd answer (λ e. e ≡ fault)
      → WorkerSteps step v.worker v.storage before v.tickets (Err fault) u w after v.tickets → Steps (of_step (memory_of v) step) v before answer now after
  step-failed fault answer is why h = failed-by fault answer is why step refl h

-- whether a step is left: a work goes, or a record is rubbish
module _ (v : ServerView) (going : Bool) (steps : is_some (worker_step v.worker.table (seen v.storage) v.tickets) ≡ (going || (seen v.storage).rubbish)) where
  whole : (going || (seen v.storage).rubbish) ≡ is_some (server_step (memory_of v) (state v.storage) (room_of v.storage))
  whole = sym steps ∙ by (worker_step v.worker.table (seen v.storage) v.tickets)
    where
      by : (o : Option (RowOutcome WorkerTable)) → is_some o ≡ is_some (of_step (memory_of v) o)
      by None = refl
      by (Some row) = refl

  pub work_goes : going ≡ true → going ≡ is_some (server_step (memory_of v) (state v.storage) (room_of v.storage))
  work_goes goes = goes ∙ ap (λ b. b || (seen v.storage).rubbish) (sym goes) ∙ whole

  pub rubbish_left : going ≡ false → (rubbish : Bool) → rubbish ≡ nat_lt 0 (length v.storage.accounts.rubbish) → rubbish ≡ is_some (server_step (memory_of v) (state v.storage) (room_of v.storage))
  rubbish_left none rubbish is = is ∙ not_none v.storage.accounts.rubbish ∙ ap (λ b. b || (seen v.storage).rubbish) (sym none) ∙ whole

-- first the worker's questions, then what the coordinator has told
pub sent-again : {E : Type 0} (answer : Result Unit E) (v : ServerView) (before middle after : Collected) → IsServer v → AsksAgain v.worker before true middle
    → OnOk answer (after ≡ added middle (coordinator_again v.coordinator.transactions) []) → OnOk answer (after ≡ added before (server_again (memory_of v) (state v.storage)) [])
sent-again (Err fault) v before middle after serves asks tells = tt
sent-again (Ok x) v before middle after serves asks tells = tells
    ∙ ap (λ m. record { messages = m ++ coordinator_again v.coordinator.transactions; notes = middle.notes ++ [] }) (asks.messages refl ∙ ap (λ m. before.messages ++ m) (asks.is_row v.storage serves.works))
    ∙ ap (λ n. record { messages = (before.messages ++ worker_again (state v.storage) v.worker.table) ++ coordinator_again v.coordinator.transactions; notes = n ++ [] }) asks.notes
    ∙ ap (λ m. record { messages = m; notes = before.notes ++ [] }) (append_assoc before.messages (worker_again (state v.storage) v.worker.table) (coordinator_again v.coordinator.transactions))
