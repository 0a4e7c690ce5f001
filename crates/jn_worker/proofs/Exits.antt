-- The exits of a call that does one message.
use Rattle.jn_worker.proofs.Common.{◌≡◌, ◌≤◌, ℕ, Bool, true, false, List, [], ◌∷◌, ◌++◌, refl, sym, ◌∙◌, ap, subst, arith, Result, Ok, Err, not, IsErr, IsErrAnd, err_from_is_err_and, Tickets, Collected, RowOutcome, StableState, Change, Changed, ChangedAll, Pick, WorkerTable, StorageView, IsServing, state, Called, CallFault, Memory, WorkerView, Fits, TicketsFit, Takes, CountsBy, has_stopped, whole-stop}
use Rattle.jn_storage.proofs.Laws.{called_not}
use Rattle.jn_base.specs.declared.fault.CallFault.TheVariants.{Stopped}
use Rattle.jn_worker.proofs.Counts.{counts_kept}

pub none-made : (x : StableState) (changes : List Change) (found : Pick → StableState) → ((c : Pick) → found c ≡ x) → ChangedAll x changes false found
none-made x changes found h = record { done = λ e. absurd (cc e); stop = λ _ c. whole-stop x changes (found c) 0 (h c) }

-- without memory, where nothing has been done
pub without_memory : {A : Type 0} {most : ℕ} (row : RowOutcome WorkerTable) (t u : WorkerView) (v : StorageView) (before after : Collected) (k l : Tickets) → IsServing v → Takes {A = A} most row t v before k (Err Memory) u v after l
without_memory {most = most} row t u v before after k l serving = record {
  performs = record { changes = none-made (state v) row.changes v.found serving.up; becomes = λ e. absurd (cc e); sent = λ e. absurd (cc e); noted = λ e. absurd (cc e); drawn = λ e. absurd (cc e) };
  called = called_not v most serving;
  silent = λ e. absurd (cc e);
  fits = λ e. absurd (cc e);
  tickets_fit = λ e. absurd (cc e);
  counts = λ e. absurd (cc e);
}

-- where an answer says so
pub nothing_done : {A : Type 0} {most : ℕ} (a : Result A CallFault) (row : RowOutcome WorkerTable) (t u : WorkerView) (v : StorageView) (before after : Collected) (k l : Tickets) → a ≡ Err Memory → IsServing v → Takes {A = A} most row t v before k a u v after l
nothing_done {A = A} {most = most} a row t u v before after k l e serving = subst (λ b. Takes {A = A} most row t v before k b u v after l) (sym e) (without_memory row t u v before after k l serving)

-- done, without a change of what is stable
pub without_change : {A : Type 0} {most : ℕ} (x : A) (row : RowOutcome WorkerTable) (t u : WorkerView) (v : StorageView) (before after : Collected) (k l : Tickets) → row.changes ≡ [] → u.table ≡ row.table → after.messages ≡ before.messages ++ row.messages
    → after.notes ≡ before.notes ++ row.notes → l ≡ row.tickets → Fits u v → (TicketsFit t.table v k → TicketsFit u.table v l) → Takes most row t v before k (Ok x) u v after l
without_change {most = most} x row t u v before after k l none table messages notes tickets fits still = record {
  performs = record {
    changes = subst (λ changes. ChangedAll (state v) changes true v.found) (sym none) (record { done = λ _. fits.serving.up; stop = λ e. absurd (cc e) });
    becomes = λ _. table;
    sent = λ _. messages;
    noted = λ _. notes;
    drawn = λ _. tickets;
  };
  called = called_not v most fits.serving;
  silent = λ e. absurd (cc e);
  fits = λ _. fits;
  tickets_fit = λ _. still;
  counts = λ _. counts_kept (state v) row.changes v.accounts none;
}

pub called-within : {most : ℕ} (v w : StorageView) (n : ℕ) (ok : Bool) → n ≤ most → Called v n ok w → Called v most ok w
called-within v w n ok le c = record { later = c.later; calls = omega (arith, le, c.calls); loadable = c.loadable; no_stop = c.no_stop; serving = c.serving; stop = c.stop }

-- a bound of device calls may be raised
pub raised : {A : Type 0} (row : RowOutcome WorkerTable) (t u : WorkerView) (v w : StorageView) (before after : Collected) (k l : Tickets) (answer : Result A CallFault) → Takes 16 row t v before k answer u w after l → Takes 784 row t v before k answer u w after l
raised row t u v w before after k l answer h = record { performs = h.performs; called = called-within v w 16 (not (has_stopped answer)) (omega arith) h.called; silent = h.silent; fits = h.fits; tickets_fit = h.tickets_fit; counts = h.counts }

-- stopped within the row's one change
pub one_stopped : {A : Type 0} {most : ℕ} (row : RowOutcome WorkerTable) (t u : WorkerView) (v w : StorageView) (before after : Collected) (k l : Tickets) (change : Change) (n : ℕ) → row.changes ≡ change ∷ [] → n ≤ most
    → Called v n false w → Changed (state v) change false w.found → after ≡ before → Takes {A = A} most row t v before k (Err Stopped) u w after l
one_stopped row t u v w before after k l change n one le called changed same = record {
  performs = record {
    changes = subst (λ changes. ChangedAll (state v) changes false w.found) (sym one) (record { done = λ e. absurd (cc e); stop = changed.stop });
    becomes = λ e. absurd (cc e);
    sent = λ e. absurd (cc e);
    noted = λ e. absurd (cc e);
    drawn = λ e. absurd (cc e);
  };
  called = called-within v w n false le called;
  silent = λ _. same;
  fits = λ e. absurd (cc e);
  tickets_fit = λ e. absurd (cc e);
  counts = λ e. absurd (cc e);
}

-- the row's one change is made, but there is no memory for what is sent
pub one_untold : {A : Type 0} {most : ℕ} (row : RowOutcome WorkerTable) (t u : WorkerView) (v w : StorageView) (before after : Collected) (k l : Tickets) (change : Change) (n : ℕ) → row.changes ≡ change ∷ [] → n ≤ most
    → Called v n true w → Changed (state v) change true w.found → Takes {A = A} most row t v before k (Err Memory) u w after l
one_untold row t u v w before after k l change n one le called changed = record {
  performs = record {
    changes = subst (λ changes. ChangedAll (state v) changes false w.found) (sym one) (record { done = λ e. absurd (cc e); stop = λ _ c. whole-stop (state v) (change ∷ []) (w.found c) 1 (changed.done refl c) });
    becomes = λ e. absurd (cc e);
    sent = λ e. absurd (cc e);
    noted = λ e. absurd (cc e);
    drawn = λ e. absurd (cc e);
  };
  called = called-within v w n true le called;
  silent = λ e. absurd (cc e);
  fits = λ e. absurd (cc e);
  tickets_fit = λ e. absurd (cc e);
  counts = λ e. absurd (cc e);
}

-- the row's one change is made
pub one_made : {A : Type 0} {most : ℕ} (x : A) (row : RowOutcome WorkerTable) (t u : WorkerView) (v w : StorageView) (before after : Collected) (k l : Tickets) (change : Change) (n : ℕ) → row.changes ≡ change ∷ [] → n ≤ most
    → Called v n true w → Changed (state v) change true w.found → u.table ≡ row.table → after.messages ≡ before.messages ++ row.messages → after.notes ≡ before.notes ++ row.notes → l ≡ row.tickets
    → Fits u w → (TicketsFit t.table v k → TicketsFit u.table w l) → CountsBy (state v) (change ∷ []) v.accounts w.accounts → Takes most row t v before k (Ok x) u w after l
one_made x row t u v w before after k l change n one le called changed table messages notes tickets fits still counts = record {
  performs = record {
    changes = subst (λ changes. ChangedAll (state v) changes true w.found) (sym one) (record { done = λ _ c. changed.done refl c; stop = λ e. absurd (cc e) });
    becomes = λ _. table;
    sent = λ _. messages;
    noted = λ _. notes;
    drawn = λ _. tickets;
  };
  called = called-within v w n true le called;
  silent = λ e. absurd (cc e);
  fits = λ _. fits;
  tickets_fit = λ _. still;
  counts = λ _. subst (λ changes. CountsBy (state v) changes v.accounts w.accounts) (sym one) counts;
}

-- the fault that a call hands on
pub handed_on : {A : Type 0} (r : Result A CallFault) (f : CallFault) → IsErr r × IsErrAnd r (λ e. e ≡ f) → r ≡ Err f
handed_on r f h = let p = err_from_is_err_and r h.1 in p.1 ∙ ap (λ e. Err e) p.2
