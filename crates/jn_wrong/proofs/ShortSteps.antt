-- And so of the whole system, step by step: of all messages, outcomes and lines.
use Rattle.jn_wrong.proofs.Common.{◌≡◌, ◌≢◌, ◌⊎◌, inl, inr, ℕ, Bool, true, false, List, [], ◌∷◌, ◌++◌, Option, Some, None, refl, sym, ◌∙◌, ap, subst, if◌then◌else◌, nat_lt, slice_get, ServerNo, ClientNo, Tid, WorkId, Client, Server, Resource, Command, client_eq, work_eq, work_tells, Message, Outcome, Text, Work, StableState, Pick, stable, RowOutcome, Sent, ClientTable, Commanded, Refuses, Sends, command_row, if_server, if_idle, if_transaction, if_no_transaction, if_open, if_not_open, open_at, take_row, again_row, sent_again, if_waits, begun_row, opened_row, answer_line, outcome_row, decided_row, is_current, WorkerTable, work_at, worker_row, worker_step, timeout_row, coordinator_row, World, Memory, at_server, has_line, Room, storage_of, of_worker, of_coordinator, is_for_worker, server_row, of_step, server_again, of_timeout, server_timeout, restored, line_of, lines_of, named_now, Step, Deliver, after, sent_now, LockFacts, ServerFact, UpFact, IsShort, OfText, Note, one-server, one-client, ClientRow, by_command, by_ignoring, by_answering, by_telling, ServerRow, of_message, of_work, of_closing, FoundThen, by_narrowing, by_raising, Quiet, is_refused, client_repeats, server_repeats, is_lost, StepCase, client_row, row_done, row_stopped, gone_late, gone_down, come_up, found_anew, dismissed, quietly, step-case, Answer}
use Rattle.jn_rows.specs.declared.client.Taken.{Taken}
use Rattle.jn_base.specs.declared.names.Resource.TheVariants as resources
use Rattle.jn_base.specs.declared.op.Answer.TheVariants as answers
use Rattle.jn_base.specs.declared.op.Command.TheVariants.{Begin, Open, Do, End, Abort}
use Rattle.jn_msgs.specs.declared.message.Message.TheVariants as messages
use Rattle.jn_msgs.specs.declared.message.Outcome.TheVariants.{Committed, Aborted, Waiting, NotKnown}
use Rattle.jn_msgs.specs.declared.message.Note.TheVariants as notes
use Rattle.jn_report.specs.declared.line.Text.TheVariants as says
use Rattle.jn_report.specs.declared.line.Refusal.TheVariants.{NoSuchServer}
use Rattle.jn_rows.specs.declared.client.OpenWork.{OpenWork}
use Rattle.jn_rows.specs.declared.client.Outstanding.{Outstanding}
use Rattle.jn_rows.specs.declared.client.Taken.TheVariants as taken
use Rattle.jn_wrong.proofs.ShortRows.{OfMessage, OfAll, OfOutcome, OfTable, OfRow, both-say, said, coordinates-so, again-so, all-thanked-so, restored-so}
use Rattle.jn_wrong.proofs.ShortWorks.{works-so, steps-so, asks-so}

module _ (P : ServerNo → Resource → ℕ → ℕ → Type 0) where
  abbrev pub OfTexts : List Text → Type 0
  OfTexts [] = Unit {0}
  OfTexts (text ∷ texts) = OfText P text × OfTexts texts

  pub both-tell : (xs ys : List Text) → OfTexts xs → OfTexts ys → OfTexts (xs ++ ys)
  both-tell [] ys h k = k
  both-tell (x ∷ xs) ys h k = (h.0, both-tell xs ys h.1 k)

  abbrev OfAsked : Option Outstanding → Type 0
  OfAsked None = Unit {0}
  OfAsked (Some o) = OfMessage P o.message

  pub record OfWorld (w : World) : Type 0 where
    pub sent : OfAll P w.sent
    pub tables : (q : ServerNo) (m : Memory) → w.memory q ≡ Some m → OfTable P m.coordinator.transactions
    pub asked : (c : ClientNo) → OfAsked (w.clients c).outstanding
    pub lines : OfTexts w.lines

  -- ---- clients

  abbrev OfCommanded : Commanded → Type 0
  OfCommanded (Refuses refusal) = Unit {0}
  OfCommanded (Sends t to message) = OfAsked t.outstanding × OfMessage P message

  server-so : (t : ClientTable) (s : ServerNo) (row : Commanded) → OfCommanded row → OfCommanded (if_server t s row)
  server-so t s row h = by (nat_lt s.0 t.servers)
    where
      by : (b : Bool) → OfCommanded (if b then row else Refuses NoSuchServer)
      by true = h
      by false = tt

  idle-so : (o : Option Outstanding) (row : Commanded) → OfCommanded row → OfCommanded (if_idle o row)
  idle-so None row h = h
  idle-so (Some x) row h = tt

  transaction-so : (o : Option Tid) (row : Tid → Commanded) → ((T : Tid) → OfCommanded (row T)) → OfCommanded (if_transaction o row)
  transaction-so None row h = tt
  transaction-so (Some T) row h = h T

  no-transaction-so : (o : Option Tid) (row : Commanded) → OfCommanded row → OfCommanded (if_no_transaction o row)
  no-transaction-so None row h = h
  no-transaction-so (Some T) row h = tt

  open-so : (o : Option OpenWork) (row : OpenWork → Commanded) → ((w : OpenWork) → OfCommanded (row w)) → OfCommanded (if_open o row)
  open-so None row h = tt
  open-so (Some w) row h = h w

  not-open-so : (o : Option OpenWork) (row : Commanded) → OfCommanded row → OfCommanded (if_not_open o row)
  not-open-so None row h = h
  not-open-so (Some w) row h = tt

  commands-so : (t : ClientTable) (j : ℕ) (command : Command) → OfCommanded (command_row t j command)
  commands-so t j (Begin s) = server-so t s _ (idle-so t.outstanding _ (no-transaction-so t.transaction _ (tt, tt)))
  commands-so t j (Open s) = server-so t s _ (idle-so t.outstanding _ (transaction-so t.transaction _ (λ T. not-open-so (open_at s t.works) _ (tt, tt))))
  commands-so t j (Do s op) = server-so t s _ (idle-so t.outstanding _ (transaction-so t.transaction _ (λ T. open-so (open_at s t.works) _ (λ w. (tt, tt)))))
  commands-so t j End = idle-so t.outstanding _ (transaction-so t.transaction _ (λ T. (tt, tt)))
  commands-so t j Abort = transaction-so t.transaction _ (λ T. (tt, tt))

  abbrev OfAnswer : Option Sent → Type 0
  OfAnswer None = Unit {0}
  OfAnswer (Some y) = OfMessage P y.1

  abbrev OfTaken : Taken → Type 0
  OfTaken taken.Ignored = Unit {0}
  OfTaken (taken.Send to message) = OfMessage P message
  OfTaken (taken.Told line answer) = OfText P line × OfAnswer answer

  abbrev OfTook : ClientTable × Taken → Type 0
  OfTook row = OfAsked row.0.outstanding × OfTaken row.1

  module _ (t : ClientTable) (asked : OfAsked t.outstanding) where
    either-so : (b : Bool) (row other : ClientTable × Taken) → OfTook row → OfTook other → OfTook (if b then row else other)
    either-so true row other h k = h
    either-so false row other h k = k

    waits-so : (o : Option Outstanding) (test : Outstanding → Bool) (row : ℕ → ClientTable × Taken) → ((j : ℕ) → OfTook (row j)) → OfTook (if_waits t o test row)
    waits-so None test row h = (asked, tt)
    waits-so (Some x) test row h = either-so (test x) (row x.event) (t, taken.Ignored) (h x.event) (asked, tt)

    begun-so : (j : ℕ) (o : Option Tid) → OfTook (begun_row t j o)
    begun-so j (Some T) = (tt, (tt, tt))
    begun-so j None = (tt, (tt, tt))

    opened-so : (j : ℕ) (o : Option WorkId) → OfTook (opened_row t j o)
    opened-so j (Some W) = (tt, (tt, tt))
    opened-so j None = (tt, (tt, tt))

    answer-so : (c : ClientNo) (j : ℕ) (a : Answer) → OfText P (answer_line c j a)
    answer-so c j answers.Did = tt
    answer-so c j (answers.Read bytes) = tt
    answer-so c j answers.NoFile = tt
    answer-so c j answers.Exists = tt
    answer-so c j (answers.Locked u T) = tt
    answer-so c j answers.TooManyReads = tt
    answer-so c j answers.TooManyWrites = tt
    answer-so c j (answers.Broken u T) = tt
    answer-so c j (answers.Lost then' now) = tt
    answer-so c j answers.Closing = tt

    decided-so : (T : Tid) (line : ℕ → Text) → ((j : ℕ) → OfText P (line j)) → OfTook (decided_row t T line)
    decided-so T line h = either-so (is_current t T) _ _ (waits-so t.outstanding _ _ (λ j. (tt, (h j, tt)))) (asked, tt)

    outcome-so : (T : Tid) (what : Outcome) → OfOutcome P what → OfTook (outcome_row t T what)
    outcome-so T Committed h = decided-so T (λ j. says.Committed t.client j T) (λ j. tt)
    outcome-so T (Aborted cause) h = decided-so T (λ j. says.Aborted t.client j T cause) (λ j. h)
    outcome-so T (Waiting s u by) h = either-so (is_current t T) _ _ (waits-so t.outstanding _ _ (λ j. (asked, (tt, tt)))) (asked, tt)
    outcome-so T (NotKnown s epoch) h = either-so (is_current t T) _ _ (waits-so t.outstanding _ _ (λ j. (tt, (tt, tt)))) (asked, tt)

    takes-so : (m : Message) → OfMessage P m → OfTook (take_row t m)
    takes-so (messages.Begun c request answer) h = waits-so t.outstanding _ _ (λ j. begun-so j answer)
    takes-so (messages.Opened c request T answer) h = waits-so t.outstanding _ _ (λ j. opened-so j answer)
    takes-so (messages.Answer c request answer) h = waits-so t.outstanding _ _ (λ j. (tt, (answer-so t.client j answer, tt)))
    takes-so (messages.Outcome c T what) h = either-so (client_eq c t.client) _ _ (outcome-so T what h) (asked, tt)
    takes-so m h = (asked, tt)

  answered-so : (o : Option Sent) → OfAnswer o → OfAll P (sent_now o)
  answered-so None h = tt
  answered-so (Some y) h = (h, tt)

  again-sent : (o : Option Outstanding) → OfAsked o → OfAll P (sent_now (sent_again o))
  again-sent None h = tt
  again-sent (Some x) h = (h, tt)

  -- ---- servers

  lines-so : (s : ServerNo) (k : Option ℕ) (told : List Note) → OfTexts (lines_of s k told)
  lines-so s k [] = tt
  lines-so s k (note ∷ told) = both-tell (line_of s k note) (lines_of s k told) (by k note) (lines-so s k told)
    where
      by : (k : Option ℕ) (note : Note) → OfTexts (line_of s k note)
      by k (notes.Commit T) = (tt, tt)
      by k (notes.Broke T u by') = (tt, tt)
      by (Some j) notes.Ignored = (tt, tt)
      by None notes.Ignored = tt

  abbrev OfMemory : Option Memory → Type 0
  OfMemory None = Unit {0}
  OfMemory (Some m) = OfTable P m.coordinator.transactions

  named-work : (W : WorkId) (t : WorkerTable) (w : Work) → work_at W t ≡ Some w → w.name ≡ W
  named-work W [] w e = absurd (no' e)
    where
      no' : None ≡ Some w → ⊥
      no' z = cc
  named-work W (v ∷ vs) w e = by (work_tells v.name W) e (named-work W vs w)
    where
      some : Some v ≡ Some w → v ≡ w
      some z = cc

      by : ((work_eq v.name W ≡ true) × (v.name ≡ W)) ⊎ ((work_eq v.name W ≡ false) × (v.name ≢ W)) → (if work_eq v.name W then Some v else work_at W vs) ≡ Some w → (work_at W vs ≡ Some w → w.name ≡ W) → w.name ≡ W
      by (inl t) z again = ap (λ (u : Work). u.name) (sym (some (sym (ap (λ (b : Bool). if b then Some v else work_at W vs) t.0) ∙ z))) ∙ t.1
      by (inr t) z again = again (sym (ap (λ (b : Bool). if b then Some v else work_at W vs) t.0) ∙ z)

  record OfServer (row : RowOutcome Memory) : Type 0 where
    says : OfAll P row.messages
    table : OfTable P row.table.coordinator.transactions

  row-so : (s : ServerNo) (m : Memory) (x : StableState) (found : Pick → StableState) (room : Room) (message : Message) → UpFact s m found → OfTable P m.coordinator.transactions → OfMessage P message
      → ((n : Resource) (f d : ℕ) → IsShort room.free n f d → P s n f d) → OfServer (server_row m x room message)
  row-so s m x found room message up table h short = by (is_for_worker message)
    where
      coordinates : OfRow P (coordinator_row m.coordinator room.free.records m.tickets message)
      coordinates = coordinates-so P m.coordinator room.free.records m.tickets table (λ e. subst (λ (q : ServerNo). P q resources.Records room.free.records 1) (sym up.server) (short resources.Records room.free.records 1 (record { has_is = refl; less = e }))) message h

      by : (b : Bool) → OfServer (if b then of_worker m (worker_row m.worker (storage_of m x room) m.tickets message) else of_coordinator m (coordinator_row m.coordinator room.free.records m.tickets message))
      by true = record {
        says = works-so P m.worker (storage_of m x room) m.tickets (λ W w e n f d k. subst (λ (q : ServerNo). P q n f d) (sym (ap (λ (V : WorkId). V.server) (named-work W m.worker w e) ∙ up.table.place W w e ∙ up.server)) (short n f d k)) message;
        table = table;
      }
      by false = record { says = coordinates.says; table = coordinates.table }

  -- what a server that is up finds of its room while it takes a message
  abbrev pub FindsAt : World → ℕ → Room → Type 0
  FindsAt w k room = (s : ServerNo) (m : Memory) (message : Message) → slice_get w.sent k ≡ Some (Server s, message) → w.memory s ≡ Some m → (n : Resource) (f d : ℕ) → IsShort room.free n f d → P s n f d

  abbrev pub Finds : Step → World → Type 0
  Finds (Deliver k room) w = FindsAt w k room
  Finds step w = Unit {0}

  named-so : (Ts : List Tid) (lines : List Text) → OfTexts (named_now Ts lines)
  named-so [] lines = tt
  named-so (T ∷ Ts) lines = by (has_line T lines) (named-so Ts lines)
    where
      by : (b : Bool) → OfTexts (named_now Ts lines) → OfTexts (if b then named_now Ts lines else says.Commit T ∷ named_now Ts lines)
      by true h = h
      by false h = (tt, h)

  module _ (w : World) (o : OfWorld w) (locks : LockFacts w) where
    more-sent : (sent : List Sent) → OfAll P sent → OfAll P (w.sent ++ sent)
    more-sent sent h = both-say P w.sent sent o.sent h

    more-lines : (texts : List Text) → OfTexts texts → OfTexts (w.lines ++ texts)
    more-lines texts h = both-tell w.lines texts o.lines h

    tables-at : (s : ServerNo) (now : Option Memory) → OfMemory now → (q : ServerNo) (m : Memory) → at_server w.memory s now q ≡ Some m → OfTable P m.coordinator.transactions
    tables-at s now h = one-server (λ q z. (m : Memory) → z ≡ Some m → OfTable P m.coordinator.transactions) w.memory s now (λ m e. subst OfMemory e h) (λ q other. o.tables q)

    taken-so : (c : ClientNo) (k : ℕ) (message : Message) (t : ClientTable) (what : Taken) → slice_get w.sent k ≡ Some (Client c, message) → take_row (w.clients c) message ≡ (t, what) → OfAsked t.outstanding × OfTaken what
    taken-so c k message t what e is = subst OfTook is (takes-so (w.clients c) (o.asked c) message (said P w.sent k (Client c, message) o.sent e))

    client-so : (c : ClientNo) (step : Step) (t : ClientTable) (sent : List Sent) (lines : List Text) → ClientRow w c step t sent lines → OfAsked t.outstanding × OfAll P sent × OfTexts lines
    client-so c _ _ _ _ (by_command command t to message is) = let h = subst OfCommanded is (commands-so (w.clients c) w.event command) in (h.0, more-sent ((to, message) ∷ []) (h.1, tt), o.lines)
    client-so c _ _ _ _ (by_ignoring k room stop message t e is) = ((taken-so c k message t taken.Ignored e is).0, o.sent, more-lines (says.Ignored k ∷ []) (tt, tt))
    client-so c _ _ _ _ (by_answering k room stop message t to answer e is) = let h = taken-so c k message t (taken.Send to answer) e is in (h.0, more-sent ((to, answer) ∷ []) (h.1, tt), o.lines)
    client-so c _ _ _ _ (by_telling k room stop message t line answer e is) = let h = taken-so c k message t (taken.Told line answer) e is in let told = h.1 in
        (h.0, more-sent (sent_now answer) (answered-so answer told.1), more-lines (line ∷ []) (told.0, tt))

    work-so : (s : ServerNo) (m : Memory) (room : Room) (row : RowOutcome Memory) → w.memory s ≡ Some m → (r : Option (RowOutcome WorkerTable)) → worker_step m.worker (storage_of m (stable (w.found s)) room) m.tickets ≡ r → of_step m r ≡ Some row → OfServer row
    work-so s m room row e None z is = absurd (cc is)
    work-so s m room row e (Some r) z is = subst OfServer (same (of_worker m r) row is) (record { says = steps-so P m.worker (storage_of m (stable (w.found s)) room) m.tickets r z; table = o.tables s m e })
      where
        same : (a b : RowOutcome Memory) → Some a ≡ Some b → a ≡ b
        same a b q = cc

    done-so : (s : ServerNo) (m : Memory) (step : Step) (k : Option ℕ) (row : RowOutcome Memory) → w.memory s ≡ Some m → Finds step w → ServerRow w s m None step k row → OfServer row
    done-so s m _ _ _ e h (of_message _ k room message is) =
        row-so s m (stable (w.found s)) (w.found s) room message (subst (λ (z : Option Memory). ServerFact s z (w.found s)) e (locks s)) (o.tables s m e) (said P w.sent k (Server s, message) o.sent is) (h s m message is e)
    done-so s m _ _ _ e h (of_work _ room row is) = work-so s m room row e (worker_step m.worker (storage_of m (stable (w.found s)) room) m.tickets) refl is
    done-so s m _ _ _ e h of_closing = record { says = tt; table = all-thanked-so P m.coordinator.transactions (o.tables s m e) }

    late-so : (s : ServerNo) (m : Memory) → w.memory s ≡ Some m → (t : Option WorkerTable) → OfTable P (of_timeout m t).coordinator.transactions
    late-so s m e None = o.tables s m e
    late-so s m e (Some t) = o.tables s m e

    found-so : (s : ServerNo) (step : Step) (found : Pick → StableState) (lines : List Text) → FoundThen w s step found lines → OfTexts lines
    found-so s _ _ _ (by_narrowing g) = o.lines
    found-so s _ _ _ (by_raising raise) = more-lines (says.Stopped s ∷ []) (tt, tt)

    quiet-so : (step : Step) (event : ℕ) (sent : List Sent) (lines : List Text) → Quiet w step event sent lines → OfAll P sent × OfTexts lines
    quiet-so _ _ _ _ (is_refused c command refusal e) = (o.sent, more-lines (says.Refused c w.event refusal ∷ []) (tt, tt))
    quiet-so _ _ _ _ (client_repeats c) = (more-sent (sent_now (again_row (w.clients c))) (again-sent (w.clients c).outstanding (o.asked c)), o.lines)
    quiet-so _ _ _ _ (server_repeats s m e) = (more-sent (server_again m (stable (w.found s))) (both-say P _ _ (asks-so P (stable (w.found s)) m.worker) (again-so P m.coordinator.transactions (o.tables s m e))), o.lines)
    quiet-so _ _ _ _ (is_lost k room stop s message e is) = (o.sent, more-lines (says.Lost k ∷ []) (tt, tt))
    quiet-so _ _ _ _ is = (o.sent, o.lines)

    by-case : (step : Step) (now : World) → StepCase w step now → Finds step w → OfWorld now
    by-case step _ (client_row _ c t sent lines row) h = let r = client-so c step t sent lines row in
        record { sent = r.1; tables = o.tables; asked = one-client (λ d (z : ClientTable). OfAsked z.outstanding) w.clients c t r.0 (λ d other. o.asked d); lines = r.2 }
    by-case step _ (row_done _ s m k row e is) h = let r = done-so s m step k row e h is in
        record { sent = more-sent row.messages r.says; tables = tables-at s (Some row.table) r.table; asked = o.asked; lines = more-lines (lines_of s k row.notes) (lines-so s k row.notes) }
    by-case step _ (row_stopped _ s m k row made e is) h = record { sent = o.sent; tables = tables-at s None tt; asked = o.asked; lines = more-lines (says.Stopped s ∷ []) (tt, tt) }
    by-case _ _ (gone_late s m T e) h = record { sent = o.sent; tables = tables-at s (Some (server_timeout m T)) (late-so s m e (timeout_row m.worker T)); asked = o.asked; lines = o.lines }
    by-case _ _ (gone_down s m e) h = record { sent = o.sent; tables = tables-at s None tt; asked = o.asked; lines = more-lines (says.Down s ∷ []) (tt, tt) }
    by-case _ _ (come_up s pick Ws Ts e) h = record {
      sent = o.sent;
      tables = tables-at s (Some (restored s (w.found s pick) Ws Ts)) (restored-so P (w.found s pick) Ts);
      asked = o.asked;
      lines = more-lines (says.Up s _ ∷ named_now Ts w.lines) (tt, named-so Ts w.lines);
    }
    by-case step _ (found_anew _ s found lines e is) h = record { sent = o.sent; tables = o.tables; asked = o.asked; lines = found-so s step found lines is }
    by-case _ _ dismissed h = record { sent = o.sent; tables = o.tables; asked = λ c. tt; lines = o.lines }
    by-case step _ (quietly _ event sent lines is) h = let r = quiet-so step event sent lines is in record { sent = r.0; tables = o.tables; asked = o.asked; lines = r.1 }

    pub step-so : (step : Step) → Finds step w → OfWorld (after step w)
    step-so step = by-case step (after step w) (step-case w step)
