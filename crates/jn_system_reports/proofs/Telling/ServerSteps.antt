-- Each step is quiet, but a client's, and that in which a server takes an operation.
use Rattle.jn_system_reports.proofs.Common.{◌≡◌, ◌⊎◌, inl, inr, ℕ, ◌+◌, Bool, true, false, List, [], ◌∷◌, ◌++◌, append-nil, Option, Some, None, refl, sym, ◌∙◌, ap, subst, if◌then◌else◌, take, ServerNo, Tid, WorkId, server_eq, Message, Note, Text, Work, Phase, ActiveWork, StableState, Prepared, Pick, Change, stable, made_all, RowOutcome, WorkerTable, work_at, timeout_row, restored_worker, with_epoch, some_is, none_some, World, Memory, at_server, commits_in, has_line, storage_of, of_worker, of_timeout, server_again, line_of, lines_of, named_now, restored, done, LockFacts, ServerFact, UpFact, IsSoundWork, restored-is, named_by, commits-more, lines-commit, step-none, quiet-line, slice_get, Client, Server, ClientNo, Op, Answer, Wanted, Active, Broken, Stored, op_row, granted_row, repeated, op_phase, answer_to, change, list_change, wants_of, is_fit, refusal_of, nat_eq, Step, Command, Commanded, command_row, Tell, Again, Dismiss, commanded, taken_by, again, ClientTable, Taken, take_row, Sent, after, at_client, Sends, Refuses, OperationNo, RequestNo, restart_with, one-server, one-found, ClientRow, by_command, by_ignoring, by_answering, by_telling, ServerRow, of_message, of_work, of_closing, FoundThen, by_narrowing, by_raising, Quiet, event_begins, none_changes, is_refused, client_repeats, server_repeats, is_lost, StepCase, client_row, row_done, row_stopped, gone_late, gone_down, come_up, found_anew, dismissed, quietly, step-case, row-of-step, Asked, Here, asked_for, asked_here, Left, left_of}
use Rattle.jn_msgs.specs.declared.message.Message.TheVariants as messages
use Rattle.jn_msgs.specs.declared.message.Note.TheVariants as notes
use Rattle.jn_report.specs.declared.line.Text.TheVariants as says
use Rattle.jn_rows.specs.declared.client.Taken.TheVariants as taken
use Rattle.jn_system_reports.proofs.Telling.Acting.{acting, acting_at, acting_of, its-work, DidTheSame, same-did, none-new, Adds, FoundBack, all-back, adds-take, step-stays, timeout-stays, AreSilent}
use Rattle.jn_system_reports.proofs.Telling.Rows.{ServerStays, row-stays, close-stays, of-worker, server-again}
use Rattle.jn_system_reports.proofs.Telling.Quiet.{AreDumb, same-told, told-same, IsQuiet, SameTold, HaveNoOp}

-- ---- lines

line-dumb : (s : ServerNo) (k : Option ℕ) (note : Note) → AreDumb (line_of s k note)
line-dumb s k (notes.Commit T) = (tt, tt)
line-dumb s k (notes.Broke T u U) = (tt, tt)
line-dumb s (Some k) notes.Ignored = (tt, tt)
line-dumb s None notes.Ignored = tt

dumb-more : (a b : List Text) → AreDumb a → AreDumb b → AreDumb (a ++ b)
dumb-more [] b h k = k
dumb-more (x ∷ a) b h k = (h.0, dumb-more a b h.1 k)

pub lines-dumb : (s : ServerNo) (k : Option ℕ) (told : List Note) → AreDumb (lines_of s k told)
lines-dumb s k [] = tt
lines-dumb s k (note ∷ told) = dumb-more (line_of s k note) (lines_of s k told) (line-dumb s k note) (lines-dumb s k told)

named-dumb : (Ts : List Tid) (lines : List Text) → AreDumb (named_now Ts lines)
named-dumb [] lines = tt
named-dumb (T ∷ Ts) lines = by (has_line T lines) (named-dumb Ts lines)
  where
    by : (b : Bool) → AreDumb (named_now Ts lines) → AreDumb (if b then named_now Ts lines else says.Commit T ∷ named_now Ts lines)
    by true h = h
    by false h = (tt, h)

-- ---- one server's memory

abbrev MemoryGoes : Option Memory → Option Memory → Type 0
MemoryGoes o now = ((W : WorkId) (a b : ActiveWork) → acting_at o W ≡ Some a → acting_at now W ≡ Some b → DidTheSame a b) × ((W : WorkId) (b : ActiveWork) → acting_at o W ≡ None → acting_at now W ≡ Some b → (b.last ≡ 0) × (b.list ≡ []))

memory-gone : (o : Option Memory) → MemoryGoes o None
memory-gone o = (λ W a b e f. absurd (none_some b f), λ W b e f. absurd (none_some b f))

-- ---- an operation's row

-- it changes nothing that is stable, and sends no operation
module _ (h : Here) (q : Asked) where
  abbrev IsPlain : RowOutcome WorkerTable → Type 0
  IsPlain row = Adds h.table row.changes × HaveNoOp row.messages

  either : (b : Bool) (x y : RowOutcome WorkerTable) → IsPlain x → IsPlain y → IsPlain (if b then x else y)
  either true x y k l = k
  either false x y k l = l

  pub op-plain : (W : WorkId) (o : Option Work) → IsPlain (op_row h q W o)
  op-plain W None = (tt, (tt, tt))
  op-plain W (Some x) = by x.phase
    where
      granted : (a : ActiveWork) (answer : Answer) (wants : List Wanted) (o : Option Answer) → IsPlain (granted_row h q x a answer wants o)
      granted a answer wants None = (tt, (tt, tt))
      granted a answer wants (Some refusal) = (tt, (tt, tt))

      again : (o : Option Answer) → IsPlain (repeated h q o)
      again (Some answer) = (tt, (tt, tt))
      again None = (tt, tt)

      by : (p : Phase) → IsPlain (op_phase h q x p)
      by (Active a) = let answer = answer_to q.op (change (list_change a.list) h.files) in
          either (nat_eq q.number.0 (a.last + 1)) _ _ (granted a answer (wants_of q.op (is_fit answer)) (refusal_of h.table x.name a q.op answer (wants_of q.op (is_fit answer)))) (either (nat_eq q.number.0 a.last) _ _ (again a.kept) (tt, tt))
      by (Broken u T) = (tt, (tt, tt))
      by (Stored p) = (tt, (tt, tt))

-- a server's row stays, or it is an operation's
data RowCase (r : World) (s : ServerNo) (m : Memory) : Option ℕ → RowOutcome Memory → Type 0 where
  row_stays : (k : Option ℕ) (row : RowOutcome Memory) → ServerStays m row → RowCase r s m k row
  row_operates : (k : ℕ) (d : ClientNo) (request : RequestNo) (W : WorkId) (number : OperationNo) (op : Op) → slice_get r.sent k ≡ Some (Server s, messages.Op d request W number op)
      → RowCase r s m (Some k) (of_worker m (op_row (asked_here m.worker (stable (r.found s)).files m.tickets) (asked_for d request number op) W (work_at W m.worker)))

-- each step is quiet, but a client's, and that in which a server takes an operation
pub data TellCase (r : World) : Step → World → Type 0 where
  is_quiet : (step : Step) (now : World) → IsQuiet r now → TellCase r step now
  client_is_told : (c : ClientNo) (command : Command) (row : Commanded) → command_row (r.clients c) r.event command ≡ row → TellCase r (Tell c command) (commanded c row r)
  client_takes : (step : Step) (c : ClientNo) (k : ℕ) (message : Message) (row : ClientTable × Taken) → slice_get r.sent k ≡ Some (Client c, message) → take_row (r.clients c) message ≡ row → TellCase r step (taken_by c k row r)
  client_asks_again : (c : ClientNo) → TellCase r (Again c) (again c r)
  clients_dismissed : TellCase r Dismiss (after Dismiss r)
  server_operates : (step : Step) (s : ServerNo) (m : Memory) (k : ℕ) (d : ClientNo) (request : RequestNo) (W : WorkId) (number : OperationNo) (op : Op) → r.memory s ≡ Some m → slice_get r.sent k ≡ Some (Server s, messages.Op d request W number op)
      → TellCase r step (done s (Some k) (of_worker m (op_row (asked_here m.worker (stable (r.found s)).files m.tickets) (asked_for d request number op) W (work_at W m.worker))) r)

module _ (r : World) (locks : LockFacts r) where
  -- a work that takes operations isn't stored
  pub not-stored : (q : ServerNo) (W : WorkId) (a : ActiveWork) (c : Pick) (p : Prepared) → acting_at (r.memory q) W ≡ Some a → (r.found q c).works W ≡ Some p → ⊥
  not-stored q W a c p e f = by (r.memory q) (locks q) e
    where
      by : (o : Option Memory) → ServerFact q o (r.found q) → acting_at o W ≡ Some a → ⊥
      by None fact k = none_some a k
      by (Some m) fact k = let w = its-work (work_at W m.worker) a k in
          none_some p (sym (subst (λ (z : Phase). IsSoundWork ((stable (r.found q)).works W) w.0.tid z) w.1.1 (fact.table.sound W w.0 w.1.0)).not_stored ∙ sym (ap (λ x. x.works W) (fact.same c)) ∙ f)

  -- what is found of a work that takes operations did what it did
  abbrev pub KeepsFound : (ServerNo → Pick → StableState) → Type 0
  KeepsFound found = (W : WorkId) (c : Pick) (p : Prepared) (a : ActiveWork) → acting r W ≡ Some a → (found W.server c).works W ≡ Some p → a.list ≡ p.list

  found-same : KeepsFound r.found
  found-same W c p a e f = absurd (not-stored W.server W a c p e f)

  -- what is found of one server changes
  pub found-at : (s : ServerNo) (now : Pick → StableState) → ((W : WorkId) (c : Pick) (p : Prepared) (a : ActiveWork) → acting_at (r.memory s) W ≡ Some a → (now c).works W ≡ Some p → a.list ≡ p.list)
      → KeepsFound (λ q c. if server_eq s q then now c else r.found q c)
  found-at s now here W c p a = one-found (λ q c x. acting_at (r.memory q) W ≡ Some a → x.works W ≡ Some p → a.list ≡ p.list) r.found s now (λ c. here W c p a) (λ q other c e f. absurd (not-stored q W a c p e f)) W.server c

  -- no memory changes
  still-quiet : (event : ℕ) (found : ServerNo → Pick → StableState) (sent : List Sent) (lines : List Text) → KeepsFound found → (more : List Sent) → sent ≡ r.sent ++ more → AreSilent more → SameTold r.lines lines
      → IsQuiet r (record r { event = event; found = found; sent = sent; lines = lines })
  still-quiet event found sent lines keeps more adds silent told = record {
    clients = refl;
    more = more;
    sent = adds;
    silent = silent;
    told = told;
    same = λ W a b e f. same-did (acting r W) a b e f;
    new = λ W b e f. none-new (acting r W) b e f;
    found = keeps;
    quiet = inr (λ W. refl);
  }

  pub nothing-quiet : IsQuiet r r
  nothing-quiet = still-quiet r.event r.found r.sent r.lines found-same [] (sym (append-nil r.sent)) tt (told-same r.lines)

  -- one memory changes
  module _ (s : ServerNo) (o now : Option Memory) (is : r.memory s ≡ o) (goes : MemoryGoes o now) where
    here : (W : WorkId) → acting_at (r.memory s) W ≡ acting_at o W
    here W = ap (λ z. acting_at z W) is

    unchanged : ((W : WorkId) → acting_at now W ≡ acting_at o W) → (W : WorkId) → acting_at (at_server r.memory s now W.server) W ≡ acting r W
    unchanged same W = one-server (λ q z. acting_at z W ≡ acting_at (r.memory q) W) r.memory s now (same W ∙ sym (here W)) (λ q other. refl) W.server

    memory-quiet : (found : ServerNo → Pick → StableState) (sent : List Sent) (lines : List Text) → KeepsFound found → (more : List Sent) → sent ≡ r.sent ++ more → AreSilent more → SameTold r.lines lines
        → (commits_in lines ≡ commits_in r.lines) ⊎ ((W : WorkId) → acting_at now W ≡ acting_at o W) → IsQuiet r (record r { memory = at_server r.memory s now; found = found; sent = sent; lines = lines })
    memory-quiet found sent lines keeps more adds silent told quiet = record {
      clients = refl;
      more = more;
      sent = adds;
      silent = silent;
      told = told;
      same = λ W a b. one-server (λ q z. acting_at (r.memory q) W ≡ Some a → acting_at z W ≡ Some b → DidTheSame a b) r.memory s now (λ e f. goes.0 W a b (sym (here W) ∙ e) f) (λ q other e f. same-did (acting_at (r.memory q) W) a b e f) W.server;
      new = λ W b. one-server (λ q z. acting_at (r.memory q) W ≡ None → acting_at z W ≡ Some b → (b.last ≡ 0) × (b.list ≡ [])) r.memory s now (λ e f. goes.1 W b (sym (here W) ∙ e) f) (λ q other e f. none-new (acting_at (r.memory q) W) b e f) W.server;
      found = keeps;
      quiet = by quiet;
    }
      where
        by : (commits_in lines ≡ commits_in r.lines) ⊎ ((W : WorkId) → acting_at now W ≡ acting_at o W) → (commits_in lines ≡ commits_in r.lines) ⊎ ((W : WorkId) → acting_at (at_server r.memory s now W.server) W ≡ acting r W)
        by (inl h) = inl h
        by (inr h) = inr (unchanged h)

  -- ---- a server that is up does a row, or stops within it

  module _ (s : ServerNo) (m : Memory) (is : r.memory s ≡ Some m) where
    -- what is found after some changes
    at-back : (W : WorkId) (c : Pick) (p : Prepared) (a : ActiveWork) → acting_at (r.memory s) W ≡ Some a → FoundBack (r.found s c) m.worker W p → a.list ≡ p.list
    at-back W c p a e (inl k) = absurd (not-stored s W a c k.0 e k.1.0)
    at-back W c p a e (inr k) = ap (λ (z : ActiveWork). z.list) (some_is a k.0 (sym e ∙ ap (λ z. acting_at z W) is ∙ k.1.0)) ∙ k.1.1

    found-made : (changes : Pick → List Change) → ((c : Pick) → Adds m.worker (changes c)) → KeepsFound (λ q c. if server_eq s q then made_all (changes c) (r.found s c) else r.found q c)
    found-made changes adds = found-at s (λ c. made_all (changes c) (r.found s c)) (λ W c p a e f. at-back W c p a e (all-back m.worker (changes c) (r.found s c) W p (adds c) f))

    found-left : (made : Pick → Left) (changes : List Change) → Adds m.worker changes → KeepsFound (λ q c. if server_eq s q then left_of (made c) changes (r.found s c) else r.found q c)
    found-left made changes adds = found-at s (λ c. left_of (made c) changes (r.found s c)) (λ W c p a e f. at-back W c p a e (all-back m.worker (take (made c).whole changes) (r.found s c) W p (adds-take m.worker (made c).whole changes adds) f))

    pub done-quiet : (k : Option ℕ) (row : RowOutcome Memory) → ServerStays m row → IsQuiet r (done s k row r)
    done-quiet k row h = memory-quiet s (Some m) (Some row.table) is h.table _ _ _ (found-made (λ c. row.changes) (λ c. h.adds)) row.messages refl h.silent (same-told r.lines (lines_of s k row.notes) (lines-dumb s k row.notes)) (by h.quiet)
      where
        by : (named_by row.notes ≡ []) ⊎ (row.table.worker ≡ m.worker) → (commits_in (r.lines ++ lines_of s k row.notes) ≡ commits_in r.lines) ⊎ ((W : WorkId) → acting_at (Some row.table) W ≡ acting_at (Some m) W)
        by (inl none) = inl (commits-more r.lines (lines_of s k row.notes) ∙ ap (λ z. commits_in r.lines ++ z) (lines-commit s k row.notes ∙ none) ∙ append-nil (commits_in r.lines))
        by (inr same) = inr (λ W. ap (λ t. acting_of (work_at W t)) same)

    -- it goes down, perhaps with some changes made
    down-quiet : (found : ServerNo → Pick → StableState) → KeepsFound found → (line : Text) → AreDumb (line ∷ []) → commits_in (r.lines ++ line ∷ []) ≡ commits_in r.lines → IsQuiet r (record r { memory = at_server r.memory s None; found = found; lines = r.lines ++ line ∷ [] })
    down-quiet found keeps line dumb same = memory-quiet s (Some m) None is (memory-gone (Some m)) found r.sent _ keeps [] (sym (append-nil r.sent)) tt (same-told r.lines (line ∷ []) dumb) (inl same)

    late-quiet : (T : Tid) → UpFact s m (r.found s) → (o : Option WorkerTable) → timeout_row m.worker T ≡ o → IsQuiet r (record r { memory = at_server r.memory s (Some (of_timeout m o)) })
    late-quiet T up o e = memory-quiet s (Some m) (Some (of_timeout m o)) is (goes o e) r.found r.sent r.lines found-same [] (sym (append-nil r.sent)) tt (told-same r.lines) (inl refl)
      where
        goes : (o : Option WorkerTable) → timeout_row m.worker T ≡ o → MemoryGoes (Some m) (Some (of_timeout m o))
        goes None e = (λ W a b e f. same-did (acting_of (work_at W m.worker)) a b e f, λ W b e f. none-new (acting_of (work_at W m.worker)) b e f)
        goes (Some t) e = timeout-stays m.worker m.tickets (stable (r.found s)).works up.table T t e

    row-case : UpFact s m (r.found s) → (stop : Option (Pick → Left)) (step : Step) (k : Option ℕ) (row : RowOutcome Memory) → ServerRow r s m stop step k row → RowCase r s m k row
    row-case up _ _ _ _ (of_message stop k room (messages.Op d request W number op) is) = row_operates k d request W number op is
    row-case up _ _ _ _ (of_message stop k room message is) = row_stays (Some k) _ (row-stays m (stable (r.found s)) room message up.table refl)
    row-case up _ _ _ row (of_work stop room _ is) = row_stays None row (row-of-step (ServerStays m) m (stable (r.found s)) room row is
        (λ x e. of-worker m x (step-none m.worker (storage_of m (stable (r.found s)) room) m.tickets x e) (step-stays m.worker m.tickets (stable (r.found s)).works up.table (storage_of m (stable (r.found s)) room) x e)))
    row-case up _ _ _ _ of_closing = row_stays None _ (close-stays m)

    row-adds : (k : Option ℕ) (row : RowOutcome Memory) → RowCase r s m k row → Adds m.worker row.changes
    row-adds _ _ (row_stays k row h) = h.adds
    row-adds _ _ (row_operates k d request W number op is) = (op-plain (asked_here m.worker (stable (r.found s)).files m.tickets) (asked_for d request number op) W (work_at W m.worker)).0

    row-tells : (step : Step) (k : Option ℕ) (row : RowOutcome Memory) → RowCase r s m k row → TellCase r step (done s k row r)
    row-tells step _ _ (row_stays k row h) = is_quiet step _ (done-quiet k row h)
    row-tells step _ _ (row_operates k d request W number op sent) = server_operates step s m k d request W number op is sent

  -- ---- a server that is down

  module _ (s : ServerNo) (is : r.memory s ≡ None) where
    found-down : (f : Pick → StableState) → KeepsFound (λ q c. if server_eq s q then f c else r.found q c)
    found-down f = found-at s f (λ W c p a e g. absurd (none_some a (sym (ap (λ z. acting_at z W) is) ∙ e)))

    restarted-none : (x : StableState) (Ws : List WorkId) (W : WorkId) → acting_of (work_at W (restored_worker x Ws)) ≡ None
    restarted-none x Ws W = by (work_at W (restored_worker x Ws)) refl
      where
        by : (o : Option Work) → work_at W (restored_worker x Ws) ≡ o → acting_of o ≡ None
        by None e = refl
        by (Some v) e = let k = restored-is x Ws W v e in ap (λ (z : Work). acting_of (Some z)) k.1.1

    restart-quiet : (x : StableState) (Ws : List WorkId) (Ts : List Tid) → IsQuiet r (restart_with s x Ws Ts r)
    restart-quiet x Ws Ts = memory-quiet s None (Some (restored s x Ws Ts)) is (λ W a b e f. absurd (none_some a e), λ W b e f. absurd (none_some b (sym (restarted-none x Ws W) ∙ f))) _ r.sent _ (found-down (λ c. with_epoch x)) [] (sym (append-nil r.sent)) tt
        (same-told r.lines (says.Up s (x.epoch + 1) ∷ named_now Ts r.lines) (tt, named-dumb Ts r.lines)) (inr (restarted-none x Ws))

  -- ---- every step

  found-tells : (step : Step) (s : ServerNo) (found : Pick → StableState) (lines : List Text) → r.memory s ≡ None → FoundThen r s step found lines → SameTold r.lines lines
  found-tells _ s _ _ e (by_narrowing g) = told-same r.lines
  found-tells _ s _ _ e (by_raising raise) = same-told r.lines (says.Stopped s ∷ []) (tt, tt)

  client-tells : (c : ClientNo) (step : Step) (t : ClientTable) (sent : List Sent) (lines : List Text) → ClientRow r c step t sent lines → TellCase r step (record r { clients = at_client r.clients c t; sent = sent; lines = lines })
  client-tells c _ _ _ _ (by_command command t to message e) = client_is_told c command (Sends t to message) e
  client-tells c step _ _ _ (by_ignoring k room stop message t is e) = client_takes step c k message (t, taken.Ignored) is e
  client-tells c step _ _ _ (by_answering k room stop message t to answer is e) = client_takes step c k message (t, taken.Send to answer) is e
  client-tells c step _ _ _ (by_telling k room stop message t line answer is e) = client_takes step c k message (t, taken.Told line answer) is e

  quiet-tells : (step : Step) (event : ℕ) (sent : List Sent) (lines : List Text) → Quiet r step event sent lines → TellCase r step (record r { event = event; sent = sent; lines = lines })
  quiet-tells _ _ _ _ event_begins = is_quiet _ _ (still-quiet (r.event + 1) r.found r.sent r.lines found-same [] (sym (append-nil r.sent)) tt (told-same r.lines))
  quiet-tells _ _ _ _ (none_changes step) = is_quiet step r nothing-quiet
  quiet-tells _ _ _ _ (is_refused c command refusal e) = client_is_told c command (Refuses refusal) e
  quiet-tells _ _ _ _ (client_repeats c) = client_asks_again c
  quiet-tells _ _ _ _ (server_repeats s m e) = is_quiet _ _ (still-quiet r.event r.found _ r.lines found-same (server_again m (stable (r.found s))) refl (server-again m (stable (r.found s))) (told-same r.lines))
  quiet-tells step _ _ _ (is_lost k room stop s message is e) = is_quiet step _ (still-quiet r.event r.found r.sent _ found-same [] (sym (append-nil r.sent)) tt (same-told r.lines (says.Lost k ∷ []) (tt, tt)))

  up-at : (s : ServerNo) (m : Memory) → r.memory s ≡ Some m → UpFact s m (r.found s)
  up-at s m e = subst (λ o. ServerFact s o (r.found s)) e (locks s)

  by-case : (step : Step) (now : World) → StepCase r step now → TellCase r step now
  by-case step _ (client_row _ c t sent lines row) = client-tells c step t sent lines row
  by-case step _ (row_done _ s m k row e is) = row-tells s m e step k row (row-case s m e (up-at s m e) None step k row is)
  by-case step _ (row_stopped _ s m k row made e is) = is_quiet step _ (down-quiet s m e _ (found-left s m e made row.changes (row-adds s m e k row (row-case s m e (up-at s m e) (Some made) step k row is)))
      (says.Stopped s) (tt, tt) (quiet-line r.lines (says.Stopped s) refl))
  by-case _ _ (gone_late s m T e) = is_quiet _ _ (late-quiet s m e T (up-at s m e) (timeout_row m.worker T) refl)
  by-case _ _ (gone_down s m e) = is_quiet _ _ (down-quiet s m e r.found found-same (says.Down s) (tt, tt) (quiet-line r.lines (says.Down s) refl))
  by-case _ _ (come_up s pick Ws Ts e) = is_quiet _ _ (restart-quiet s e (r.found s pick) Ws Ts)
  by-case step _ (found_anew _ s found lines e is) = is_quiet step _ (still-quiet r.event _ r.sent lines (found-down s e found) [] (sym (append-nil r.sent)) tt (found-tells step s found lines e is))
  by-case _ _ dismissed = clients_dismissed
  by-case step _ (quietly _ event sent lines is) = quiet-tells step event sent lines is

  pub tell-case : (step : Step) → TellCase r step (after step r)
  tell-case step = by-case step (after step r) (step-case r step)
