-- What the coordinator does by its row, the whole server does.
use Rattle.jn_server.proofs.Common.{◌≡◌, ◌⊎◌, inl, inr, ℕ, ◌+◌, ◌*◌, ◌≤◌, Bool, true, false, List, [], ◌∷◌, Option, Result, Ok, Err, refl, sym, ◌∙◌, ap, subst, arith, true≢false, length, ◌&&◌, IsErr, IsErrAnd, nat_tests, Tickets, WorkId, work_eq, work_before, is_after, Collected, StableState, Prepared, Change, AddReady, MarkGoing, CarryOut, RemoveWork, AddFlag, DropFlag, is_going, made_by, made_all, RowOutcome, Work, work_at, work_from, CoordinatorTable, Accounts, StorageView, state, is_in, calm_on, left_by, left_over, WorkFits, WorkListFits, Remembered, CoordinatorDone, CoordinatorStopped, CoordinatorDoes, CoordinatorTickets, of_coordinator, Aside, is_of_flag, are_of_flags, first-of, second-of, flags-all, epoch-all, DrawsOne, CallFault, ServerView, memory_of, IsServer, IsDone, IsStopped, Does, LeavesBeside, row_calls, Beside, beside_of, Files, HoldsAll}
use Rattle.jn_server.proofs.Holding.{holds-flags}
use Rattle.jn_coord.specs.Handling.{Handles}
use Rattle.jn_base.specs.declared.fault.CallFault.TheVariants as faults

-- changes of flags leave the files
flags-files : (changes : List Change) (x : StableState) → are_of_flags changes ≡ true → (made_all changes x).files ≡ x.files
flags-files changes x h = by changes x h
  where
    one : (c : Change) (x : StableState) → is_of_flag c ≡ true → (made_by c x).files ≡ x.files
    one (AddFlag flag) x k = refl
    one (DropFlag T) x k = refl
    one (AddReady head list reads) x k = refl
    one (MarkGoing W) x k = refl
    one (RemoveWork W) x k = refl
    one (CarryOut W i) x k = absurd (true≢false (sym k))

    by : (changes : List Change) (x : StableState) → are_of_flags changes ≡ true → (made_all changes x).files ≡ x.files
    by [] x k = refl
    by (c ∷ cs) x k = by cs (made_by c x) (second-of (is_of_flag c) (are_of_flags cs) k) ∙ one c x (first-of (is_of_flag c) (are_of_flags cs) k)

before-next : (W : WorkId) (k : Tickets) → work_before W (work_from k) ≡ true → work_before W (work_from (record k { next = k.next + 1 })) ≡ true
unfolding work_before
before-next W k h = grind (arith, nat_tests, h)

-- a later ticket comes after the same names
before-later : (W : WorkId) (k l : Tickets) → DrawsOne k l → work_before W (work_from k) ≡ true → work_before W (work_from l) ≡ true
before-later W k l (inl e) h = subst (λ (z : Tickets). work_before W (work_from z) ≡ true) (sym e) h
before-later W k l (inr e) h = subst (λ (z : Tickets). work_before W (work_from z) ≡ true) (sym e) (before-next W k h)

later-work : (ws : List Work) (k l : Tickets) → DrawsOne k l → is_after (work_from k) ws ≡ true → is_after (work_from l) ws ≡ true
later-work [] k l d h = refl
later-work (w ∷ ws) k l d h = both (before-later w.name k l d (first-of (work_before w.name (work_from k)) (is_after (work_from k) ws) h)) (later-work ws k l d (second-of (work_before w.name (work_from k)) (is_after (work_from k) ws) h))
  where
    both : {a b : Bool} → a ≡ true → b ≡ true → (a && b) ≡ true
    both p q = grind (arith, p, q)

-- changes of flags leave beside the state what stands there
flags-leave : (changes : List Change) (x : StableState) (b : Beside) → are_of_flags changes ≡ true → left_over x changes b ≡ b
flags-leave [] x b h = refl
flags-leave (c ∷ cs) x b h = one c (first-of (is_of_flag c) (are_of_flags cs) h) (flags-leave cs x b (second-of (is_of_flag c) (are_of_flags cs) h))
  where
    one : (c : Change) → is_of_flag c ≡ true → left_over x cs b ≡ b → left_over x cs (left_by x c b) ≡ b
    one (AddFlag flag) k again = again
    one (DropFlag T) k again = again
    one (AddReady head list reads) k again = absurd (true≢false (sym k))
    one (MarkGoing W) k again = absurd (true≢false (sym k))
    one (CarryOut W i) k again = absurd (true≢false (sym k))
    one (RemoveWork W) k again = absurd (true≢false (sym k))

module _ (v : ServerView) (serves : IsServer v) (row : RowOutcome CoordinatorTable) (aside : Aside (length v.coordinator.transactions) v.tickets row) (before : Collected) where
  bounded : (a b : ℕ) → b ≤ a + 16 * length row.changes → b ≤ a + row_calls
  bounded a b h = by aside.few
    where
      few : length v.coordinator.transactions ≤ 64
      few = serves.transactions.few

      by : (length row.changes ≤ 1) ⊎ (length row.changes ≤ length v.coordinator.transactions) → b ≤ a + row_calls
      by (inl one) = omega (arith, h, one)
      by (inr most) = omega (arith, h, most, few)

  module _ (r : Remembered) (w : StorageView) (after : Collected) (l : Tickets) where
    abbrev now : ServerView
    now = record { storage = w; worker = v.worker; coordinator = r; tickets = l }

    pub coordinated : CoordinatorDone row v.storage before r w after → l ≡ row.tickets → CoordinatorTickets r w l → IsDone row_calls (of_coordinator (memory_of v) row) v before now after
    coordinated h drawn fit = record {
      memory = ap (λ (t : CoordinatorTable). record (memory_of now) { coordinator = t }) h.table
          ∙ ap (λ (k : Tickets). record (memory_of now) { coordinator = row.table; tickets = k }) drawn
          ∙ ap (λ (n : WorkId → ℕ). record (memory_of v) { coordinator = row.table; tickets = row.tickets; next = n }) next-same;
      found = h.made;
      sent = h.sent;
      serves = record {
        works = record {
          serving = h.fits.serving;
          few = serves.works.few;
          stored = λ W. subst (λ (o : Option Prepared). WorkFits (work_at W v.worker.table) o) (sym (ap (λ f. f W) works-same)) (serves.works.stored W);
          going = λ W. serves.works.going W ∙ sym (ap (λ (f : WorkId → Option Prepared). is_going (f W)) works-same);
          lists = λ W. subst (λ (files : Files). WorkListFits files (work_at W v.worker.table)) (sym files-same) (serves.works.lists W);
          names = λ W e. let n = serves.works.names W e in record {
            given = record { own = n.given.own ∙ sym h.reaches.later.server; past = let p = n.given.past in let same = epoch-same in omega (arith, p, same) };
            no_rubbish = ap (λ (a : Accounts). is_in work_eq W a.rubbish) h.accounts ∙ n.no_rubbish;
          };
        };
        transactions = h.fits;
        works_before = record {
          server = fit.server;
          epoch = fit.epoch;
          live = later-work v.worker.table v.tickets l draws serves.works_before.live;
          rubbish = λ W e. before-later W v.tickets l draws (serves.works_before.rubbish W (sym (ap (λ (a : Accounts). is_in work_eq W a.rubbish) h.accounts) ∙ e));
        };
        transactions_before = fit;
      };
      later = h.reaches.later;
      calls = bounded v.storage.store.calls w.store.calls h.reaches.calls;
      no_stop = h.no_stop;
    }
      where
        made : state w ≡ made_all row.changes (state v.storage)
        made = h.made (λ n. false)

        works-same : (state w).works ≡ (state v.storage).works
        works-same = ap (λ (x : StableState). x.works) made ∙ flags-all row.changes (state v.storage) aside.flags

        files-same : (state w).files ≡ (state v.storage).files
        files-same = ap (λ (x : StableState). x.files) made ∙ flags-files row.changes (state v.storage) aside.flags

        epoch-same : (state w).epoch ≡ (state v.storage).epoch
        epoch-same = ap (λ (x : StableState). x.epoch) made ∙ epoch-all row.changes (state v.storage)

        next-same : w.accounts.next ≡ v.storage.accounts.next
        next-same = ap (λ (a : Accounts). a.next) h.accounts

        draws : DrawsOne v.tickets l
        draws = subst (DrawsOne v.tickets) (sym drawn) aside.tickets

    pub flags-leave-none : beside_of w.accounts ≡ beside_of v.storage.accounts → LeavesBeside v (of_coordinator (memory_of v) row) now
    flags-leave-none same = same ∙ sym (flags-leave row.changes (state v.storage) (beside_of v.storage.accounts) aside.flags)

    -- and what works hold is as it was
    pub coordinator-holds : CoordinatorDone row v.storage before r w after → HoldsAll v → HoldsAll now
    coordinator-holds h = holds-flags v now (ap (λ (x : StableState). x.works) (h.made (λ n. false)) ∙ flags-all row.changes (state v.storage) aside.flags)
        (ap (λ (x : StableState). x.epoch) (h.made (λ n. false)) ∙ epoch-all row.changes (state v.storage))
        (ap (λ (a : Accounts). a.held) h.accounts) (ap (λ (a : Accounts). a.next) h.accounts) (ap (λ (a : Accounts). a.supplied) h.accounts)

    pub coordinator_stopped : CoordinatorStopped row v.storage w → after ≡ before → IsStopped row_calls (of_coordinator (memory_of v) row) v before now after
    coordinator_stopped h silent = record {
      some = h.some;
      silent = silent;
      later = h.reaches.later;
      calls = bounded v.storage.store.calls w.store.calls h.reaches.calls;
      stop = h.stop;
      not_calm = λ calm. calm_on v.storage.store w.store h.reaches.later.store h.stop calm;
    }

    -- why it wasn't done
    pub coordinator_failed : {A : Type 0} (B : Type 0) (fault : CallFault) (answer : Result A CallFault) → IsErr answer → IsErrAnd answer (λ e. e ≡ fault)
        → Handles {A = B} row v.coordinator v.storage before v.tickets (Err fault) r w after l → Does row_calls (of_coordinator (memory_of v) row) v before answer now after
    coordinator_failed B fault (Ok x) h is t = absurd (cc h)
    coordinator_failed {A} B faults.Stopped (Err e) h is t = subst (λ (z : CallFault). Does {A = A} row_calls (of_coordinator (memory_of v) row) v before (Err z) now after) (sym is) (coordinator_stopped t.0 t.1)
    coordinator_failed {A} B faults.Memory (Err e) h is t = subst (λ (z : CallFault). Does {A = A} row_calls (of_coordinator (memory_of v) row) v before (Err z) now after) (sym is) tt

    -- a closing fails by a stop alone
    pub closing_failed : {A : Type 0} (B : Type 0) (fault : CallFault) (answer : Result A CallFault) → IsErr answer → IsErrAnd answer (λ e. e ≡ fault) → fault ≡ faults.Stopped
        → after ≡ before → CoordinatorDoes {A = B} row v.coordinator v.storage before (Err fault) r w after → Does row_calls (of_coordinator (memory_of v) row) v before answer now after
    closing_failed B faults.Memory answer h is only silent t = absurd (cc only)
    closing_failed B faults.Stopped answer h is only silent t = stops answer h is
      where
        stops : {A : Type 0} (answer : Result A CallFault) → IsErr answer → IsErrAnd answer (λ e. e ≡ faults.Stopped) → Does row_calls (of_coordinator (memory_of v) row) v before answer now after
        stops (Ok x) h is = absurd (cc h)
        stops {A} (Err e) h is = subst (λ (z : CallFault). Does {A = A} row_calls (of_coordinator (memory_of v) row) v before (Err z) now after) (sym is) (coordinator_stopped t.0 silent)
