-- What the worker does by its row, the whole server does.
use Rattle.jn_server.proofs.Common.{◌≡◌, inl, inr, ℕ, ◌+◌, ◌≤◌, true, false, List, [], ◌∷◌, Result, Ok, Err, refl, sym, ◌∙◌, ap, subst, arith, length, IsErr, IsErrAnd, nat_tests, Tickets, Collected, StableState, Change, RowOutcome, WorkerTable, name_from, StorageView, state, calm_on, CallFault, Takes, CountsBy, WorkerView, flag_told, are_before, added, of_worker, epoch-all, DrawsOne, works-flags, ServerView, memory_of, IsServer, IsDone, IsStopped, Does, LeavesBeside, left_over, beside_of, HoldsAll}
use Rattle.jn_rows.specs.declared.coordinator.Transaction.{Transaction}
use Rattle.jn_base.specs.declared.fault.CallFault.TheVariants as faults
use Rattle.jn_system.proofs.WholeSystem.WorkerChanges.{Aside}
use Rattle.jn_server.proofs.Holding.{holds-on}

-- a later ticket comes after the same names
pub later-name : (xs : List Transaction) (k l : Tickets) → DrawsOne k l → are_before xs (name_from k) ≡ true → are_before xs (name_from l) ≡ true
later-name xs k l (inl e) h = subst (λ (z : Tickets). are_before xs (name_from z) ≡ true) (sym e) h
later-name xs k l (inr e) h = subst (λ (z : Tickets). are_before xs (name_from z) ≡ true) (sym e) (by xs h)
  where
    by : (xs : List Transaction) → are_before xs (name_from k) ≡ true → are_before xs (name_from (record k { next = k.next + 1 })) ≡ true
    by [] h = refl
    by (x ∷ xs) h = let again = by xs in grind (arith, nat_tests, h)

module _ (most bound : ℕ) (within : most ≤ bound) (v : ServerView) (serves : IsServer v) (row : RowOutcome WorkerTable) (aside : Aside v.tickets row) (before : Collected) where
  module _ (u : WorkerView) (w : StorageView) (after : Collected) (l : Tickets) where
    abbrev now : ServerView
    now = record { storage = w; worker = u; coordinator = v.coordinator; tickets = l }

    pub worked : {A : Type 0} (x : A) → Takes {A = A} most row v.worker v.storage before v.tickets (Ok x) u w after l → IsDone bound (of_worker (memory_of v) row) v before now after
    worked x h = let counted = h.counts refl in let fits = h.fits refl in let before_works = h.tickets_fit refl serves.works_before in let made = h.performs.changes.done refl (λ n. false) in
        let flags = ap (λ (x : StableState). x.flags) made ∙ works-flags row.changes (state v.storage) aside.works in
        let epoch = ap (λ (x : StableState). x.epoch) made ∙ epoch-all row.changes (state v.storage) in record {
          memory = ap (λ (t : WorkerTable). record (memory_of now) { worker = t }) (h.performs.becomes refl)
              ∙ ap (λ (k : Tickets). record (memory_of now) { worker = row.table; tickets = k }) (h.performs.drawn refl)
              ∙ ap (λ n. record (memory_of now) { worker = row.table; tickets = row.tickets; next = n }) (counted.next);
          found = h.performs.changes.done refl;
          sent = ap (λ m. record after { messages = m }) (h.performs.sent refl) ∙ ap (λ n. record (added before row.messages row.notes) { notes = n }) (h.performs.noted refl);
          serves = record {
            works = fits;
            transactions = record {
              serving = fits.serving;
              clients = serves.transactions.clients;
              few = serves.transactions.few;
              rising = serves.transactions.rising;
              flags = λ T. ap (λ f. flag_told (f T)) flags ∙ serves.transactions.flags T;
              promises = counted.promised_records ∙ serves.transactions.promises;
              ballots = serves.transactions.ballots;
              given = λ T e. let g = serves.transactions.given T e in record { own = g.own ∙ sym h.called.later.server; past = let p = g.past in let same = epoch in omega (arith, p, same) };
            };
            works_before = before_works;
            transactions_before = record { server = before_works.server; epoch = before_works.epoch; after = later-name v.coordinator.transactions v.tickets l (subst (DrawsOne v.tickets) (sym (h.performs.drawn refl)) aside.tickets) serves.transactions_before.after };
          };
          later = h.called.later;
          calls = let c = h.called.calls in omega (arith, c, within);
          no_stop = h.called.no_stop refl;
        }

    -- a row has one change or none
    pub works-leave : CountsBy (state v.storage) row.changes v.storage.accounts w.accounts → (row.changes ≡ [] → w.accounts ≡ v.storage.accounts) → LeavesBeside v (of_worker (memory_of v) row) now
    works-leave counts same = by row.changes refl aside.few
      where
        by : (cs : List Change) → row.changes ≡ cs → length cs ≤ 1 → beside_of w.accounts ≡ left_over (state v.storage) row.changes (beside_of v.storage.accounts)
        by [] e few = ap beside_of (same e) ∙ sym (ap (λ (cs : List Change). left_over (state v.storage) cs (beside_of v.storage.accounts)) e)
        by (c ∷ []) e few = counts.beside c e ∙ sym (ap (λ (cs : List Change). left_over (state v.storage) cs (beside_of v.storage.accounts)) e)
        by (c ∷ d ∷ cs) e few = absurd (omega (arith, few))

    pub one-leaves : CountsBy (state v.storage) row.changes v.storage.accounts w.accounts → (c : Change) → row.changes ≡ c ∷ [] → LeavesBeside v (of_worker (memory_of v) row) now
    one-leaves counts c e = counts.beside c e ∙ sym (ap (λ (cs : List Change). left_over (state v.storage) cs (beside_of v.storage.accounts)) e)

    -- and what works hold goes on
    pub works-hold : {A : Type 0} (x : A) → Takes {A = A} most row v.worker v.storage before v.tickets (Ok x) u w after l
        → (row.changes ≡ [] → (w.accounts.held ≡ v.storage.accounts.held) × (w.accounts.supplied ≡ v.storage.accounts.supplied)) → HoldsAll v → HoldsAll now
    works-hold x h still = holds-on v now row.changes aside.few (h.performs.changes.done refl (λ n. false)) (h.counts refl) still

    pub worker_stopped : {A : Type 0} → Takes {A = A} most row v.worker v.storage before v.tickets (Err faults.Stopped) u w after l → IsStopped bound (of_worker (memory_of v) row) v before now after
    worker_stopped h = record {
      some = h.performs.changes.stop refl;
      silent = h.silent refl;
      later = h.called.later;
      calls = let c = h.called.calls in omega (arith, c, within);
      stop = h.called.stop refl;
      not_calm = λ calm. calm_on v.storage.store w.store h.called.later.store (h.called.stop refl) calm;
    }

    -- why it wasn't done
    pub worker_failed : {A : Type 0} (B : Type 0) (fault : CallFault) (answer : Result A CallFault) → IsErr answer → IsErrAnd answer (λ e. e ≡ fault)
        → Takes {A = B} most row v.worker v.storage before v.tickets (Err fault) u w after l → Does bound (of_worker (memory_of v) row) v before answer now after
    worker_failed B fault (Ok x) h is t = absurd (cc h)
    worker_failed {A} B faults.Stopped (Err e) h is t = subst (λ (z : CallFault). Does {A = A} bound (of_worker (memory_of v) row) v before (Err z) now after) (sym is) (worker_stopped t)
    worker_failed {A} B faults.Memory (Err e) h is t = subst (λ (z : CallFault). Does {A = A} bound (of_worker (memory_of v) row) v before (Err z) now after) (sym is) tt
