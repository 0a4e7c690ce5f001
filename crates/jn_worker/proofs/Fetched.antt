-- An operation whose answer is a stored block.
use Rattle.jn_worker.proofs.Common.{most_blocks, ◌≡◌, ◌<◌, ◌+◌, ℕ, Bool, true, false, not, List, [], ◌∷◌, ◌++◌, length, take, Option, Some, None, Result, Ok, Err, if◌then◌else◌, refl, sym, ◌∙◌, ap, subst, arith, true≢false, ◌&&◌, is_some, IsErrAnd, err_from_is_err_and, take_at, Client, Tid, Tickets, WorkId, Answer, Did, Op, Create, Remove, CutBlocks, ReadOp, WriteOp, work_eq, Collected, Files, answer_to, change, Intention, list_change, length_with, block_of, answered, intention_for, Read, IntentionWrite, Active, ActiveWork, RowOutcome, WorkerTable, work_at, with_phase, after_grant, break_notes, Asked, op_row, conflict, locked, wants_of, with_units, units_for, is_fit, past_limit, first_of_two, refusal_of, list_after, counted, done, IsActive, rephased, is_in, StorageView, IsServing, state, Viewed, reads_stored, served, CallFault, Stops, Memory, WorkerView, Fits, is_active, is_active_phase, tallied, Takes, CountsBy, Settles, has_stopped, ReadSettles, OnlyReads, answer_now, asks_now, asks_in, asks_for, is_unknown, rephased-is, OperationNo}
use Rattle.std.proofs.Math.Seq.{take-length}
use Rattle.jn_msgs.specs.declared.message.Message.TheVariants as messages
use Rattle.jn_msgs.specs.declared.message.Note.{Note}
use Rattle.jn_worker.proofs.Exits.{none-made, called-within}
use Rattle.jn_worker.proofs.Granted.{granted_itself}
use Rattle.jn_worker.proofs.Operated.{at-with}
use Rattle.jn_worker.proofs.Performed.{phase_twice}
use Rattle.jn_worker.proofs.Does.{nat_same, perform_told}
use Rattle.jn_worker.proofs.Stepped.{fits_erased, tickets_erased}

-- ---- an answer that isn't known is a block

unknown-fit : (op : Op) (files stored : Files) → answer_to op files ≡ answered None op stored → is_fit (answer_to op files) ≡ true
unknown-fit op files stored e = ap is_fit e

unknown-none : (list : List Intention) (op : Op) (files stored : Files) → answer_to op files ≡ answered None op stored → intention_for list op ≡ None
unknown-none list (ReadOp f p) files stored e = refl
unknown-none list (Create f) files stored e = grind (arith, e)
unknown-none list (Remove f) files stored e = grind (arith, e)
unknown-none list (CutBlocks f n) files stored e = grind (arith, e)
unknown-none list (WriteOp f p bytes) files stored e = grind (arith, e)

-- ---- what is settled by any answer that fits

module _ (t u : WorkerView) (T : Tid) (W : WorkId) (a : ActiveWork) (op : Op) (answer : Answer) (before after : Collected) (fit : is_fit answer ≡ true) where
  refusal-same : refusal_of t.table W a op Did (wants_of op true) ≡ refusal_of t.table W a op answer (wants_of op (is_fit answer))
  refusal-same = ap (λ b. first_of_two (past_limit (length (with_units (units_for Read (wants_of op b)) a.reads)) (if b then length_with a.list op else length a.list)) (locked (conflict W (wants_of op b) t.table))) (sym fit)

  settles-refused : (refusal : Answer) → Settles t T W a op Did (Some refusal) before u after → Settles t T W a op answer (Some refusal) before u after
  settles-refused refusal s = record { refused = s.refused ∙ refusal-same; works = s.works; sent = s.sent; noted = s.noted }

  -- the granted work keeps the answer once it is read
  settles-read : (now : WorkerView) (number : OperationNo) (i : IsActive t.table T W a) → number.0 ≡ a.last + 1 → Settles t T W a op Did None before u after → now ≡ record u { table = rephased W (tallied number.0 answer) u.table } → Settles t T W a op answer None before now after
  settles-read now number i count s is = record {
    refused = s.refused ∙ refusal-same;
    works = is ∙ (ap (λ (u : WorkerView). record u { table = rephased W (tallied number.0 answer) u.table }) s.works ∙ ap (λ l. record t { table = l }) kept);
    sent = s.sent;
    noted = s.noted ∙ ap (λ b. before.notes ++ break_notes T W (wants_of op b) t.table) (sym fit);
  }
    where
      next : ActiveWork
      next = done a op Did (wants_of op true)

      rest : WorkerTable
      rest = after_grant T W (wants_of op true) t.table

      kept : rephased W (tallied number.0 answer) (with_phase W (Active next) rest) ≡ with_phase W (Active (done a op answer (wants_of op (is_fit answer)))) (after_grant T W (wants_of op (is_fit answer)) t.table)
      kept = rephased-is W (tallied number.0 answer) (with_phase W (Active next) rest) (record i.work { phase = Active next }) (at-with W (Active next) rest i.work (granted_itself T W (wants_of op true) t.table i.work i.found))
          ∙ (phase_twice W (Active (record next { last = number.0; kept = Some answer })) (Active next) rest
          ∙ (ap (λ n. with_phase W (Active (record next { last = n; kept = Some answer })) rest) count
          ∙ ap (λ b. with_phase W (Active (record (counted a answer) { list = if b then list_after (intention_for a.list op) op a.list else a.list; reads = with_units (units_for Read (wants_of op b)) a.reads; writes = with_units (units_for IntentionWrite (wants_of op b)) a.writes })) (after_grant T W (wants_of op b) t.table)) (sym fit)))

-- it is active still
still-active : (t u : WorkerView) (T : Tid) (W : WorkId) (a : ActiveWork) (op : Op) (before after : Collected) → IsActive t.table T W a → Settles t T W a op Did None before u after → IsActive u.table T W (done a op Did (wants_of op true))
still-active t u T W a op before after i s = subst (λ (u : WorkerView). IsActive u.table T W (done a op Did (wants_of op true))) (sym s.works) (record {
  work = record i.work { phase = Active (done a op Did (wants_of op true)) };
  found = at-with W (Active (done a op Did (wants_of op true))) (after_grant T W (wants_of op true) t.table) i.work (granted_itself T W (wants_of op true) t.table i.work i.found);
  tid = i.tid;
  phase = refl;
})

-- and so its operation may read
pub granted_active : (t u : WorkerView) (T : Tid) (W : WorkId) (a : ActiveWork) (op : Op) (o : Option Answer) (before after : Collected) → IsActive t.table T W a → o ≡ None → Settles t T W a op Did o before u after → is_active (work_at W u.table) ≡ true
granted_active t u T W a op o before after i none settles =
    let j = still-active t u T W a op before after i (subst (λ o. Settles t T W a op Did o before u after) none settles) in
    ap is_active j.found ∙ ap is_active_phase j.phase

-- ---- what was asked of the device

-- the block of a granted read
viewed-list : (t u : WorkerView) (v w : StorageView) (T : Tid) (W : WorkId) (a : ActiveWork) (op : Op) (r : Result Answer CallFault) (before after : Collected) → IsActive t.table T W a → is_unknown a op v → Settles t T W a op Did None before u after
    → ((T : Tid) (a : ActiveWork) → IsActive u.table T W a → Viewed a.list v op r w) → Viewed a.list v op r w
viewed-list t u v w T W a op r before after i unknown s viewed = subst (λ o. Viewed (list_after o op a.list) v op r w) (unknown-none a.list op (change (list_change a.list) (state v).files) (state v).files unknown)
    (viewed T (done a op Did (wants_of op true)) (still-active t u T W a op before after i s))

pub granted_reads : (t u : WorkerView) (v w : StorageView) (T : Tid) (W : WorkId) (a : ActiveWork) (op : Op) (o : Option Answer) (r : Result Answer CallFault) (before after : Collected) → IsActive t.table T W a → is_unknown a op v → o ≡ None → Settles t T W a op Did o before u after
    → ((T : Tid) (a : ActiveWork) → IsActive u.table T W a → Viewed a.list v op r w) → OnlyReads (asks_now t.table v W a op) v (served r) w
granted_reads t u v w T W a op o r before after i unknown none settles viewed = record { called = h.called; unchanged = h.unchanged; same = h.same; quiet = λ e. (h.others (only (reads_stored a.list op (state v).files) e)).1 }
  where
    s : Settles t T W a op Did None before u after
    s = subst (λ o. Settles t T W a op Did o before u after) none settles

    h : Viewed a.list v op r w
    h = viewed-list t u v w T W a op r before after i unknown s viewed

    fit : is_fit (answer_now a op v) ≡ true
    fit = unknown-fit op (change (list_change a.list) (state v).files) (state v).files unknown

    only : (b : Bool) → (b && not (is_some (refusal_of t.table W a op (answer_now a op v) (wants_of op (is_fit (answer_now a op v)))))) ≡ false → b ≡ false
    only false e = refl
    only true e = absurd (true≢false (ap (λ o. not (is_some o)) (s.refused ∙ refusal-same t u T W a op (answer_now a op v) before after fit) ∙ e))

-- a call that fails was served unless the device stopped
pub served-unless-stopped : (f : CallFault) → served {A = Answer} (Err f) ≡ not (has_stopped {A = Answer} (Err f))
served-unless-stopped Stops = refl
served-unless-stopped Memory = refl

-- there is no memory for what was seen
pub viewed_lost : (list : List Intention) (op : Op) (v w : StorageView) (answer : Answer) (r : Result Answer CallFault) → Viewed list v op (Ok answer) w → IsErrAnd r (λ fault. fault ≡ Memory) → Viewed list v op r w
viewed_lost list op v w answer r h err = let x = err_from_is_err_and r err in subst (λ r. Viewed list v op r w) (sym (x.1 ∙ ap (λ f. error f) x.2)) (record {
  answered = λ a e. absurd (cc e);
  called = h.called;
  unchanged = h.unchanged;
  same = h.same;
  others = h.others;
})
  where
    error : CallFault → Result Answer CallFault
    error f = Err f

-- a read that is granted
pub granted_settles : (t u now : WorkerView) (v w : StorageView) (T : Tid) (W : WorkId) (a : ActiveWork) (op : Op) (o : Option Answer) (answer : Answer) (number : OperationNo) (before after : Collected) → IsActive t.table T W a → number.0 ≡ a.last + 1 → is_unknown a op v → o ≡ None → Settles t T W a op Did o before u after
    → ((T : Tid) (a : ActiveWork) → IsActive u.table T W a → Viewed a.list v op (Ok answer) w) → now ≡ record u { table = rephased W (tallied number.0 answer) u.table } → ReadSettles t v T W a op answer before now after
granted_settles t u now v w T W a op o answer number before after i count unknown none settles viewed is = record {
  refusal = None;
  settles = settles-read t u T W a op (answer_now a op v) before after fit now number i count s (is ∙ ap (λ x. record u { table = rephased W (tallied number.0 x) u.table }) seen);
  answer = seen;
}
  where
    s : Settles t T W a op Did None before u after
    s = subst (λ o. Settles t T W a op Did o before u after) none settles

    fit : is_fit (answer_now a op v) ≡ true
    fit = unknown-fit op (change (list_change a.list) (state v).files) (state v).files unknown

    seen : answer ≡ answer_now a op v
    seen = (viewed-list t u v w T W a op (Ok answer) before after i unknown s viewed).answered answer refl

-- and one that is refused
pub refused_settles : (t u : WorkerView) (v : StorageView) (T : Tid) (W : WorkId) (a : ActiveWork) (op : Op) (o : Option Answer) (refusal : Answer) (before after : Collected) → is_unknown a op v → o ≡ Some refusal → Settles t T W a op Did o before u after → ReadSettles t v T W a op refusal before u after
refused_settles t u v T W a op o refusal before after unknown some s = record {
  refusal = Some refusal;
  settles = settles-refused t u T W a op (answer_now a op v) before after (unknown-fit op (change (list_change a.list) (state v).files) (state v).files unknown) refusal (subst (λ o. Settles t T W a op Did o before u after) some s);
  answer = refl;
}

-- what was reported is taken back
pub taken_back : (before mid after : Collected) (more : List Note) (m n : ℕ) → mid.messages ≡ before.messages → mid.notes ≡ before.notes ++ more → m ≡ length before.messages → n ≡ length before.notes → after ≡ record { messages = take m mid.messages; notes = take n mid.notes } → after ≡ before
taken_back before mid after more m n sent noted is_m is_n is = is ∙ λ j. record { messages = messages j; notes = notes j }
  where
    messages : take m mid.messages ≡ before.messages
    messages = ap (λ l. take m l) sent ∙ (ap (λ n. take n before.messages) is_m ∙ take-length before.messages)

    notes : take n mid.notes ≡ before.notes
    notes = ap (λ l. take n l) noted ∙ take_at before.notes more n (sym is_n)

-- ---- the row

same-state : (v w : StorageView) (asks : Bool) (h : OnlyReads asks v true w) (W : WorkId) → is_in work_eq W w.accounts.rubbish ≡ true → is_in work_eq W v.accounts.rubbish ≡ true
same-state v w asks h W e = ap (λ a. is_in work_eq W a.rubbish) (sym (h.same refl)) ∙ e

-- a row that changes nothing stable goes on where the storage was only read
pub read_on : {A : Type 0} (x : A) (row : RowOutcome WorkerTable) (t u : WorkerView) (v w : StorageView) (before after : Collected) (k l : Tickets) (asks : Bool) → IsServing v → Takes 784 row t v before k (Ok x) u v after l → OnlyReads asks v true w → Takes 784 row t v before k (Ok x) u w after l
read_on x row t u v w before after k l asks serving h o = record {
  performs = record {
    changes = record { done = λ _ c. o.unchanged c ∙ (sym (serving.up c) ∙ h.performs.changes.done refl c); stop = λ e. absurd (cc e) };
    becomes = h.performs.becomes;
    sent = h.performs.sent;
    noted = h.performs.noted;
    drawn = h.performs.drawn;
  };
  called = called-within v w 24 true (omega arith) o.called;
  silent = λ e. absurd (cc e);
  fits = λ e. fits_erased u v w (h.fits e) o.called (o.unchanged (λ n. false)) (same-state v w asks o);
  tickets_fit = λ e f. tickets_erased u.table v w l o.called (o.unchanged (λ n. false)) (same-state v w asks o) (h.tickets_fit e f);
  counts = λ e. subst (λ b. CountsBy (state v) row.changes v.accounts b) (sym (o.same refl)) (h.counts e);
}

pub read_failed : (A : Type 0) {B : Type 0} (answer : Result B CallFault) (f : CallFault) (row : RowOutcome WorkerTable) (t u : WorkerView) (v w : StorageView) (before after : Collected) (k l : Tickets) (asks : Bool) → answer ≡ Err f → OnlyReads asks v (not (has_stopped {A = A} (Err f))) w → (has_stopped {A = A} (Err f) ≡ true → after ≡ before)
    → Takes 784 row t v before k answer u w after l
read_failed A {B} answer f row t u v w before after k l asks is o silent = subst (λ r. Takes 784 row t v before k r u w after l) (sym is) (by f o silent)
  where
    by : (f : CallFault) → OnlyReads asks v (not (has_stopped {A = A} (Err f))) w → (has_stopped {A = A} (Err f) ≡ true → after ≡ before) → Takes {A = B} 784 row t v before k (Err f) u w after l
    by Stops o silent = record {
      performs = record { changes = none-made (state v) row.changes w.found o.unchanged; becomes = λ e. absurd (cc e); sent = λ e. absurd (cc e); noted = λ e. absurd (cc e); drawn = λ e. absurd (cc e) };
      called = called-within v w 24 false (omega arith) o.called;
      silent = λ _. silent refl;
      fits = λ e. absurd (cc e);
      tickets_fit = λ e. absurd (cc e);
      counts = λ e. absurd (cc e);
    }
    by Memory o silent = record {
      performs = record { changes = none-made (state v) row.changes w.found o.unchanged; becomes = λ e. absurd (cc e); sent = λ e. absurd (cc e); noted = λ e. absurd (cc e); drawn = λ e. absurd (cc e) };
      called = called-within v w 24 true (omega arith) o.called;
      silent = λ e. absurd (cc e);
      fits = λ e. absurd (cc e);
      tickets_fit = λ e. absurd (cc e);
      counts = λ e. absurd (cc e);
    }

-- the client is answered
pub read_told : (t u : WorkerView) (v w : StorageView) (k : Tickets) (q : Asked) (T : Tid) (W : WorkId) (a : ActiveWork) (told : Answer) (before mid last : Collected) (asks : Bool) → IsActive t.table T W a → Fits t v → (block_of q.op).0 < most_blocks → q.number.0 ≡ a.last + 1
    → ReadSettles t v T W a q.op told before u mid → OnlyReads asks v true w → last ≡ record { messages = mid.messages ++ (Client q.client, messages.Answer q.client q.request told) ∷ []; notes = mid.notes } → Takes 784 (op_row (record { table = t.table; files = (state v).files; tickets = k }) q W (work_at W t.table)) t v before k (Ok (tt {0})) u w last k
read_told t u v w k q T W a told before mid last asks i h range count r o sent = read_on (tt {0}) (op_row (record { table = t.table; files = (state v).files; tickets = k }) q W (work_at W t.table)) t u v w before last k k asks h.serving
    (perform_told t v k q W (answer_now a q.op v) T a i u before mid last r.refusal told h range count (nat_same q.number.0 (a.last + 1) count) refl r.settles r.answer sent) o

-- the device is asked only where the operation's row says so
pub quiet_read : (t : WorkerTable) (v w : StorageView) (T : Tid) (W : WorkId) (a : ActiveWork) (op : Op) (number : OperationNo) (ok : Bool) → IsActive t T W a → number.0 ≡ a.last + 1 → OnlyReads (asks_now t v W a op) v ok w → asks_for t v W number op (work_at W t) ≡ false → w ≡ v
quiet_read t v w T W a op number ok i count o e = o.quiet (ap (λ b. b && asks_now t v W a op) (sym (nat_same number.0 (a.last + 1) count)) ∙ (sym (ap (λ p. asks_in t v W number op p) i.phase) ∙ (sym (ap (λ o. asks_for t v W number op o) i.found) ∙ e)))
