-- A server's step: what it has it has after it, or went down, or knows the outcome of.
use Rattle.jn_system_reports.proofs.Common.{◌≡◌, ◌≢◌, ◌⊎◌, inl, inr, ℕ, ◌+◌, Bool, true, false, List, [], ◌∷◌, ◌++◌, append-nil, Option, Some, None, is_some, refl, sym, ◌∙◌, ap, subst, arith, if◌then◌else◌, nat_lt, list_any, ServerNo, ClientNo, LockUnit, Tid, WorkId, Cause, LostAt, FullAt, Server, Resource, client_eq, client_tells, Message, Note, Event, Text, Line, Work, Phase, Broken, Transaction, Stage, Commitment, Outstanding, Pick, Prepared, StableState, stable, is_going, RowOutcome, Sent, WorkerTable, work_at, worker_row, worker_step, worker_again, timeout_row, CoordinatorTable, transaction_at, coordinator_row, coordinator_again, commits, besides, told_again, committed_to, close_clients_row, found-name, Machine, Unknown, Invariant, Knows, Atom, run_atoms, MayRun, Says, not_both, some_of, World, Memory, at_server, has_line, Room, storage_of, of_worker, of_coordinator, server_again, of_timeout, restored, line_of, lines_of, named_now, done, IsIdle, LockFacts, UpFact, Mirrors, AreTransactions, IsTrue, IsAddressed, knowledge_of, knowledge_in, IsStage, still-says, knows, stage-is, stage-known, openings, Facts, begun_then, goes_down, breaks, says, at_event, Step, IsStep, RequestNo, server_timeout, restart_with, one-server, ServerRow, of_message, of_work, of_closing, row-either, row-of-step, some-memory, none-memory}
use Rattle.jn_msgs.specs.declared.message.Message.TheVariants as messages
use Rattle.jn_msgs.specs.declared.message.Note.TheVariants as notes
use Rattle.jn_msgs.specs.declared.message.Vote.TheVariants as votes
use Rattle.jn_report.specs.declared.line.Text.TheVariants as texts
use Rattle.jn_rows.specs.declared.coordinator.Stage.TheVariants.{Open, Voting, Committed, Aborted}
use Rattle.jn_system_order.proofs.Ordering.Facts.{opening}
use Rattle.jn_system_reports.proofs.Reporting.Lists.{In, in-second, get-in, Each, each-in, each-append, each-more}
use Rattle.jn_system_reports.proofs.Reporting.Known.{IsPast}
use Rattle.jn_system_reports.proofs.Reporting.Past.{VoteFact, SaysPast, EntryFact}
use Rattle.jn_system_reports.proofs.Reporting.PastRows.{IsThere, each-found}
use Rattle.jn_system_reports.proofs.Reporting.PastSteps.{PastFacts, all-drawn}
use Rattle.jn_system_reports.proofs.Reporting.Reached.{in-all}
use Rattle.jn_system_reports.proofs.Causing.Evidence.{Stood, DownAfter}
use Rattle.jn_system_reports.proofs.Reporting.WorkerTalk.{each-work}
use Rattle.jn_system_reports.proofs.Causing.WorkerKeeps.{IsLive, PhaseTold, WorkTold, all-told, RowKeeps, worker-keeps, step-keeps, OpensFact, timeout-keeps, restored-told}
use Rattle.jn_system_reports.proofs.Causing.CoordinatorKeeps.{Spent, RowHolds, NewsFact, Comes, row-holds}
use Rattle.jn_system_reports.proofs.Causing.Facts.{HasTransaction, HasWork, WasOpened, OpenedBy, HasCause, MessageFact, CauseFacts, IsMute}

-- ---- lines of servers

-- it begins no transaction and reports no abort
abbrev pub IsServers : Text → Type 0
IsServers (texts.Begun c j T) = ⊥
IsServers (texts.Aborted c j T cause) = ⊥
IsServers text = Unit {0}

pub servers-mute : (new : List Text) → Each IsServers new → (c : ClientNo) → IsMute c new
servers-mute [] h c = λ n now. refl
servers-mute (x ∷ new) h c = λ n now. one n x now h.0 (servers-mute new h.1 c)
  where
    one : (n : ℕ) (x : Text) (now : Option Tid) → IsServers x → IsMute c new → begun_then c now (at_event n (x ∷ new)) ≡ now
    one n (texts.Begun d j T) now k on = absurd k
    one n _ now k on = on n now

lines-servers : (s : ServerNo) (k : Option ℕ) (told : List Note) → Each IsServers (lines_of s k told)
lines-servers s k [] = tt
lines-servers s k (note ∷ told) = each-append IsServers (line_of s k note) (lines_of s k told) (one k note) (lines-servers s k told)
  where
    one : (k : Option ℕ) (note : Note) → Each IsServers (line_of s k note)
    one k (notes.Commit T) = (tt, tt)
    one k (notes.Broke T u by) = (tt, tt)
    one (Some j) notes.Ignored = (tt, tt)
    one None notes.Ignored = tt

now-servers : (Ts : List Tid) (lines : List Text) → Each IsServers (named_now Ts lines)
now-servers [] lines = tt
now-servers (T ∷ Ts) lines = by (has_line T lines) (now-servers Ts lines)
  where
    by : (b : Bool) → Each IsServers (named_now Ts lines) → Each IsServers (if b then named_now Ts lines else texts.Commit T ∷ named_now Ts lines)
    by true h = h
    by false h = (tt, h)

-- ---- steps

module _ (es : List Event) (ls : List Line) (r : World) (w v : Machine) (past : PastFacts r.sent r.clients r.memory r.found w (HasCause (openings r.sent) es ls)) (cause : CauseFacts es ls r.sent r.clients r.memory r.lines w)
    (parts : (T : Tid) (W : WorkId) → w.ended T ≡ true → w.part T W.server ≡ Some W → WasOpened r.sent T W) (mirrors : Mirrors r w) (inv : Invariant w) (locks : LockFacts r) (facts : Facts r w) (spent : (T : Tid) → Spent w T → Spent v T) where
  abbrev pub Caused : ClientNo → Tid → Cause → Type 0
  Caused = HasCause (openings r.sent) es ls

  pub full : (c : ClientNo) (T : Tid) (s : ServerNo) (n : Resource) (free need : ℕ) → nat_lt free need ≡ true → Caused c T (FullAt s n free need)
  full c T s n free need h = inr h

  -- what a server's message says
  abbrev pub News : (ServerNo → Option Memory) → Sent → Type 0
  News memory (to, messages.Begun c q (Some T)) = HasTransaction memory T × In (Server T.server, messages.Begin c q) r.sent
  News memory (to, messages.Opened c q T (Some W)) = HasWork memory W × In (Server W.server, messages.Open c q T) r.sent
  News memory (to, messages.Drop T W) = Spent v T
  News memory (to, messages.Begin c q) = ⊥
  News memory (to, messages.Open c q T) = ⊥
  News memory (to, message) = Unit {0}

  pub record ServerKeeps (q : World) : Type 0 where
    pub new : List Text
    pub adds : q.lines ≡ r.lines ++ new
    pub more : List Sent
    pub sends : q.sent ≡ r.sent ++ more
    pub same : q.clients ≡ r.clients
    pub quiet : Each IsServers new
    pub holds : (T : Tid) → ((c : ClientNo) → IsPast (openings r.sent) c (r.clients c) T → ⊥) → HasTransaction r.memory T → HasTransaction q.memory T ⊎ (list_any (goes_down T.server) new ≡ true)
    pub has : (W : WorkId) → HasWork r.memory W → HasWork q.memory W ⊎ ((list_any (goes_down W.server) new ≡ true) ⊎ Spent v (w.owner W))
    pub broken : (s : ServerNo) (m : Memory) → q.memory s ≡ Some m → Each (WorkTold s (r.lines ++ new)) m.worker
    pub news : Each (News q.memory) more

  old-told : (s : ServerNo) (m : Memory) (new : List Text) → r.memory s ≡ Some m → Each (WorkTold s (r.lines ++ new)) m.worker
  old-told s m new e = all-told s r.lines new m.worker (cause.broken s m e)

  -- ---- one server's memory changes

  own : (s : ServerNo) (o : Option Memory) (q : ServerNo) → s ≡ q → at_server r.memory s o q ≡ o
  own s o = one-server (λ q z. s ≡ q → z ≡ o) r.memory s o (λ e. refl) (λ q other e. absurd (other e))

  module _ (s : ServerNo) (now : Option Memory) where
    -- what another server has stays, and so does what holds here
    at-either : (q : ServerNo) (P : Memory → Type 0) (B : Type 0) → (s ≡ q → (m : Memory) → r.memory s ≡ Some m → P m → ((n : Memory) × (now ≡ Some n) × P n) ⊎ B) → (m : Memory) × (r.memory q ≡ Some m) × P m → ((n : Memory) × (at_server r.memory s now q ≡ Some n) × P n) ⊎ B
    at-either q P B here = one-server (λ z o. z ≡ q → (m : Memory) × (r.memory z ≡ Some m) × P m → ((n : Memory) × (o ≡ Some n) × P n) ⊎ B) r.memory s now (λ e h. here e h.0 h.1 h.2) (λ z other e h. inl h) q refl

    memory-keeps : (found : ServerNo → Pick → StableState) (sent more : List Sent) (lines new : List Text) → sent ≡ r.sent ++ more → lines ≡ r.lines ++ new → Each IsServers new
        → ((T : Tid) → ((c : ClientNo) → IsPast (openings r.sent) c (r.clients c) T → ⊥) → s ≡ T.server → (m : Memory) → r.memory s ≡ Some m → IsThere T m.coordinator.transactions → ((n : Memory) × (now ≡ Some n) × IsThere T n.coordinator.transactions) ⊎ (list_any (goes_down T.server) new ≡ true))
        → ((W : WorkId) → s ≡ W.server → (m : Memory) → r.memory s ≡ Some m → IsLive W m.worker → ((n : Memory) × (now ≡ Some n) × IsLive W n.worker) ⊎ ((list_any (goes_down W.server) new ≡ true) ⊎ Spent v (w.owner W)))
        → ((n : Memory) → now ≡ Some n → Each (WorkTold s (r.lines ++ new)) n.worker) → Each (News (at_server r.memory s now)) more → ServerKeeps (record r { memory = at_server r.memory s now; found = found; sent = sent; lines = lines })
    memory-keeps found sent more lines new sends adds quiet holds has told news = record {
      new = new;
      adds = adds;
      more = more;
      sends = sends;
      same = refl;
      quiet = quiet;
      holds = λ T not. at-either T.server (λ (z : Memory). IsThere T z.coordinator.transactions) (list_any (goes_down T.server) new ≡ true) (holds T not);
      has = λ W. at-either W.server (λ (z : Memory). IsLive W z.worker) ((list_any (goes_down W.server) new ≡ true) ⊎ Spent v (w.owner W)) (has W);
      broken = one-server (λ q o. (m : Memory) → o ≡ Some m → Each (WorkTold q (r.lines ++ new)) m.worker) r.memory s now told (λ q other m e. old-told q m new e);
      news = news;
    }

  -- a server that is up stays so
  up-keeps : (s : ServerNo) (m n : Memory) → r.memory s ≡ Some m → (found : ServerNo → Pick → StableState) (sent more : List Sent) (lines new : List Text) → sent ≡ r.sent ++ more → lines ≡ r.lines ++ new → Each IsServers new
      → ((T : Tid) → ((c : ClientNo) → IsPast (openings r.sent) c (r.clients c) T → ⊥) → IsThere T m.coordinator.transactions → IsThere T n.coordinator.transactions)
      → ((W : WorkId) → s ≡ W.server → IsLive W m.worker → IsLive W n.worker ⊎ Spent v (w.owner W)) → Each (WorkTold s (r.lines ++ new)) n.worker → Each (News (at_server r.memory s (Some n))) more
      → ServerKeeps (record r { memory = at_server r.memory s (Some n); found = found; sent = sent; lines = lines })
  up-keeps s m n is found sent more lines new sends adds quiet holds has told news = memory-keeps s (Some n) found sent more lines new sends adds quiet
      (λ T not e o k t. inl (n, refl, holds T not (subst (λ (z : Memory). IsThere T z.coordinator.transactions) (some-memory o m (sym k ∙ is)) t))) (λ W e o k t. by W (has W e (subst (λ (z : Memory). IsLive W z.worker) (some-memory o m (sym k ∙ is)) t)))
      (λ o e. subst (λ (z : Memory). Each (WorkTold s (r.lines ++ new)) z.worker) (some-memory n o e) told) news
    where
      by : (W : WorkId) → IsLive W n.worker ⊎ Spent v (w.owner W) → ((z : Memory) × (Some n ≡ Some z) × IsLive W z.worker) ⊎ ((list_any (goes_down W.server) new ≡ true) ⊎ Spent v (w.owner W))
      by W (inl l) = inl (n, refl, l)
      by W (inr p) = inr (inr p)

  -- it goes down
  pub down-keeps : (s : ServerNo) (found : ServerNo → Pick → StableState) (text : Text) → IsServers text → goes_down s text ≡ true → ServerKeeps (record r { memory = at_server r.memory s None; found = found; lines = r.lines ++ text ∷ [] })
  down-keeps s found text plain down = memory-keeps s None found r.sent [] _ (text ∷ []) (sym (append-nil r.sent)) refl (plain, tt) (λ T not e m k t. inr (falls T.server e)) (λ W e m k t. inr (inl (falls W.server e))) (λ n f. absurd (none-memory n f)) tt
    where
      first : (a : Bool) → a ≡ true → list_any (λ (b : Bool). b) (a ∷ []) ≡ true
      first a h = grind arith

      falls : (z : ServerNo) → s ≡ z → list_any (goes_down z) (text ∷ []) ≡ true
      falls z e = first (goes_down z text) (subst (λ (y : ServerNo). goes_down y text ≡ true) e down)

  -- it comes up
  pub restart-keeps : (s : ServerNo) → r.memory s ≡ None → (x : StableState) (Ws : List WorkId) (Ts : List Tid) → ServerKeeps (restart_with s x Ws Ts r)
  restart-keeps s is x Ws Ts = memory-keeps s (Some (restored s x Ws Ts)) _ r.sent [] _ new (sym (append-nil r.sent)) refl (tt, now-servers Ts r.lines) (λ T not e m k t. absurd (none-memory m (sym is ∙ k))) (λ W e m k t. absurd (none-memory m (sym is ∙ k)))
      (λ n e. subst (λ (z : Memory). Each (WorkTold s (r.lines ++ new)) z.worker) (some-memory (restored s x Ws Ts) n e) (restored-told s (r.lines ++ new) x Ws)) tt
    where
      new : List Text
      new = texts.Up s (x.epoch + 1) ∷ named_now Ts r.lines

  -- ---- rows

  module _ (s : ServerNo) (m : Memory) (is : r.memory s ≡ Some m) (up : UpFact s m (r.found s)) where
    -- a work of an end that isn't here was lost with a server that went down
    lost-work : (T : Tid) (c : ClientNo) (W : WorkId) → In (Server s, messages.Prepare T c W) r.sent → work_at W m.worker ≡ None → VoteFact (openings r.sent) r.clients w Caused T W (votes.Lost W.epoch m.tickets.epoch)
    lost-work T c W i none = by h.stands
      where
        part : Says w (messages.Prepare T c W)
        part = in-all (IsTrue w) r.sent (Server s, messages.Prepare T c W) mirrors.says i

        here : W.server ≡ s
        here = in-all IsAddressed r.sent (Server s, messages.Prepare T c W) mirrors.addressed i

        opened : WasOpened r.sent T W
        opened = parts T W part.0 part.1

        h : OpenedBy es ls (openings r.sent) r.memory w opened.client T W
        h = each-in (MessageFact es ls (openings r.sent) r.clients r.memory w) r.sent (opened.to, messages.Opened opened.client opened.request T (Some W)) cause.messages opened.is

        by : Spent w T ⊎ (HasWork r.memory W ⊎ DownAfter ls W.server h.by.number) → VoteFact (openings r.sent) r.clients w Caused T W (votes.Lost W.epoch m.tickets.epoch)
        by (inl (inl e)) = λ n a d. absurd (not_both (w.named T) e n)
        by (inl (inr e)) = λ n a d. absurd (not_both (w.aborted T) e a)
        by (inr (inl k)) = absurd (not_both (is_some (work_at W m.worker)) (subst (λ (z : Memory). IsLive W z.worker) (some-memory k.0 m (sym k.1 ∙ ap r.memory here ∙ is)) k.2) (ap is_some none))
        by (inr (inr k)) = λ n a d. at d (client_tells opened.client d)
          where
            at : (d : ClientNo) → ((client_eq opened.client d ≡ true) × (opened.client ≡ d)) ⊎ ((client_eq opened.client d ≡ false) × (opened.client ≢ d)) → Caused d T (LostAt W.server)
            at d (inl p) = inr (subst (λ (z : ClientNo). Stood es ls z T (LostAt W.server)) p.1 (record { number = h.by.number; came = h.by.came; down = k }))
            at d (inr p) = inl (record { client = opened.client; request = h.by.request; has = h.by.has; other = p.1 })

    broken-work : (T : Tid) (c : ClientNo) (W : WorkId) (x : Work) (u : LockUnit) (by : Tid) → In (Server s, messages.Prepare T c W) r.sent → work_at W m.worker ≡ Some x → x.phase ≡ Broken u by → VoteFact (openings r.sent) r.clients w Caused T x.name (votes.Broken u by)
    broken-work T c W x u by i found phase = λ d. inr (subst (λ (z : ServerNo). says (breaks z T u by) ls ≡ true) (sym (ap (λ (V : WorkId). V.server) (found-name W m.worker x found) ∙ here)) (subst (λ (U : Tid). says (breaks s U u by) ls ≡ true) same told))
      where
        part : Says w (messages.Prepare T c W)
        part = in-all (IsTrue w) r.sent (Server s, messages.Prepare T c W) mirrors.says i

        here : W.server ≡ s
        here = in-all IsAddressed r.sent (Server s, messages.Prepare T c W) mirrors.addressed i

        same : x.tid ≡ T
        same = sym (mirrors.owner s m W x is found).1 ∙ (inv.core.parts T W.server W part.1).owner

        told : says (breaks s x.tid u by) ls ≡ true
        told = cause.told (breaks s x.tid u by) (subst (λ (p : Phase). PhaseTold s r.lines x.tid p) phase (each-work (WorkTold s r.lines) W m.worker x (cause.broken s m is) found))

    -- a worker's row keeps what holds
    pub worker-row : (k : Option ℕ) (room : Room) (message : Message) → In (Server s, message) r.sent
        → RowKeeps (openings r.sent) r.clients w Caused full s k r.lines m.worker m.tickets up.table.rising up.table.place (cause.broken s m is) (λ c q T. message ≡ messages.Open c q T) (λ W. (T : Tid) × (message ≡ messages.Drop T W)) (worker_row m.worker (storage_of m (stable (r.found s)) room) m.tickets message)
    worker-row k room message i = worker-keeps (openings r.sent) r.clients w Caused full s k r.lines m.worker m.tickets up.table.rising up.table.place (cause.broken s m is) (storage_of m (stable (r.found s)) room) message (record {
      lost = λ T c W e none. lost-work T c W (subst (λ z. In (Server s, z) r.sent) e i) none;
      broken = λ T c W x u by e found phase. broken-work T c W x u by (subst (λ z. In (Server s, z) r.sent) e i) found phase;
    })

    -- ---- a worker's row that is done

    worker-done : (k : Option ℕ) (row : RowOutcome WorkerTable) (Asks : ClientNo → RequestNo → Tid → Type 0) (Goes : WorkId → Type 0) → RowKeeps (openings r.sent) r.clients w Caused full s k r.lines m.worker m.tickets up.table.rising up.table.place (cause.broken s m is) Asks Goes row
        → ((c : ClientNo) (q : RequestNo) (T : Tid) → Asks c q T → In (Server s, messages.Open c q T) r.sent) → ((W : WorkId) → W.server ≡ s → Goes W → Spent v (w.owner W)) → ServerKeeps (done s k (of_worker m row) r)
    worker-done k row Asks Goes h asked goes = up-keeps s m (of_worker m row).table is _ _ row.messages _ (lines_of s k row.notes) refl refl (lines-servers s k row.notes) (λ T not t. t) (λ W e t. gone W e (h.live W t)) h.told
        (each-more (OpensFact (openings r.sent) r.clients w Caused full s k r.lines m.worker m.tickets up.table.rising up.table.place (cause.broken s m is) Asks row.table) (News (at_server r.memory s (Some (of_worker m row).table))) row.messages news h.opens)
      where
        gone : (W : WorkId) → s ≡ W.server → IsLive W row.table ⊎ Goes W → IsLive W row.table ⊎ Spent v (w.owner W)
        gone W e (inl l) = inl l
        gone W e (inr g) = inr (goes W (sym e) g)

        news : (x : Sent) → OpensFact (openings r.sent) r.clients w Caused full s k r.lines m.worker m.tickets up.table.rising up.table.place (cause.broken s m is) Asks row.table x → News (at_server r.memory s (Some (of_worker m row).table)) x
        news (to, messages.Opened c q T (Some W)) p = ((((of_worker m row).table, own s (Some (of_worker m row).table) W.server (sym (p.1 ∙ up.server)), p.0)), subst (λ (z : ServerNo). In (Server z, messages.Open c q T) r.sent) (sym (p.1 ∙ up.server)) (asked c q T p.2))
        news (to, messages.Opened c q T None) p = tt
        news (to, messages.Answer c q answer) p = tt
        news (to, messages.Vote T W vote) p = tt
        news (to, messages.Done T W) p = tt
        news (to, messages.Inquire T W) p = tt
        news (to, _) p = absurd p

    message-done : (k : ℕ) (room : Room) (message : Message) → In (Server s, message) r.sent → ServerKeeps (done s (Some k) (of_worker m (worker_row m.worker (storage_of m (stable (r.found s)) room) m.tickets message)) r)
    message-done k room message i = worker-done (Some k) _ _ _ (worker-row (Some k) room message i) (λ c q T e. subst (λ z. In (Server s, z) r.sent) e i) (λ W at g. spent (w.owner W) (drops W g))
      where
        drops : (W : WorkId) → (T : Tid) × (message ≡ messages.Drop T W) → Spent w (w.owner W)
        drops W g = let j = subst (λ z. In (Server s, z) r.sent) g.1 i in
            subst (λ (U : Tid). Spent w U) (sym (in-all (IsTrue w) r.sent (Server s, messages.Drop g.0 W) mirrors.says j).0.1) (each-in (MessageFact es ls (openings r.sent) r.clients r.memory w) r.sent (Server s, messages.Drop g.0 W) cause.messages j)

    -- a work that goes on was of a transaction that has committed
    going-named : (W : WorkId) → is_going ((stable (r.found s)).works W) ≡ true → w.named (w.owner W) ≡ true
    going-named W h = by ((w.found s (λ n. false)).works W) refl (ap (λ (x : StableState). is_going (x.works W)) (mirrors.found s (λ n. false)) ∙ h)
      where
        by : (o : Option Prepared) → (w.found s (λ n. false)).works W ≡ o → is_going o ≡ true → w.named (w.owner W) ≡ true
        by None e k = absurd (grind arith)
        by (Some p) e k = ((inv.core.states s (λ n. false)).prepared W p e).going k

    step-done : (room : Room) (row : RowOutcome WorkerTable) → worker_step m.worker (storage_of m (stable (r.found s)) room) m.tickets ≡ Some row → ServerKeeps (done s None (of_worker m row) r)
    step-done room row h = worker-done None row (λ c q T. ⊥) (λ W. is_going ((stable (r.found s)).works W) ≡ true)
        (step-keeps (openings r.sent) r.clients w Caused full s None r.lines m.worker m.tickets up.table.rising up.table.place (cause.broken s m is) (storage_of m (stable (r.found s)) room) row h) (λ c q T k. absurd k) (λ W at g. spent (w.owner W) (inl (going-named W g)))

    -- ---- a coordinator's row

    abbrev grow : (atoms : List Atom) → MayRun atoms w → (message : Message) → Says w message → Says (run_atoms atoms w) message
    grow = λ atoms may message h. still-says atoms w may inv message h

    -- what isn't in the table has its outcome
    known : (T : Tid) → T.server ≡ s → w.begun T ≡ true → transaction_at T m.coordinator.transactions ≡ None → Spent v T
    known T at begun none = spent T (by (subst (λ k. Knows w T k) (ap knowledge_of none) (knows r w s m mirrors is up grow inv T at begun)))
      where
        by : Knows w T Unknown → Spent w T
        by (inl k) = inr k
        by (inr k) = inl k.0

    places : Each (λ (y : Transaction). y.tid.server ≡ m.tickets.server) m.coordinator.transactions
    places = by m.coordinator.transactions (mirrors.transactions s m is)
      where
        by : (xs : List Transaction) → AreTransactions w s xs → Each (λ (y : Transaction). y.tid.server ≡ m.tickets.server) xs
        by [] h = tt
        by (y ∷ ys) h = (h.0.place ∙ sym up.server, by ys h.2)

    named-here : (T : Tid) (y : Transaction) (d : Commitment) → transaction_at T m.coordinator.transactions ≡ Some y → y.stage ≡ Committed d → Spent v T
    named-here T y d e f = spent T (inl (subst (λ (z : Stage). Knows w T (knowledge_in z)) f (stage-known r w s m mirrors is up grow inv T y e)).0)

    aborted-here : (T : Tid) (y : Transaction) (c : Cause) → transaction_at T m.coordinator.transactions ≡ Some y → y.stage ≡ Aborted c → Spent v T
    aborted-here T y c e f = spent T (inr (subst (λ (z : Stage). IsStage w T z) f (stage-is r w s m mirrors is up grow inv T y e)))

    comes : (message : Message) → In (Server s, message) r.sent
        → Comes (openings r.sent) r.clients w v Caused facts.unique full m.coordinator m.tickets (past.entries s m is) places past.last named-here aborted-here (λ c q. message ≡ messages.Begin c q) message
    comes (messages.Begin c q) i = (refl, each-in (SaysPast (openings r.sent) r.clients w Caused) r.sent (Server s, messages.Begin c q) past.says i)
    comes (messages.Thanks c T) i = each-in (SaysPast (openings r.sent) r.clients w Caused) r.sent (Server s, messages.Thanks c T) past.says i
    comes (messages.End c q T Ws) i = known T (in-all IsAddressed r.sent (Server s, messages.End c q T Ws) mirrors.addressed i) (in-all (IsTrue w) r.sent (Server s, messages.End c q T Ws) mirrors.says i).0
    comes (messages.Abort c q T Ws) i = known T (in-all IsAddressed r.sent (Server s, messages.Abort c q T Ws) mirrors.addressed i) (in-all (IsTrue w) r.sent (Server s, messages.Abort c q T Ws) mirrors.says i).0
    comes (messages.Vote T W vote) i = known T (in-all IsAddressed r.sent (Server s, messages.Vote T W vote) mirrors.addressed i) (facts.begun T (in-all (IsTrue w) r.sent (Server s, messages.Vote T W vote) mirrors.says i).1.0)
    comes (messages.Inquire T W) i = let of = in-all (IsTrue w) r.sent (Server s, messages.Inquire T W) mirrors.says i in known T (in-all IsAddressed r.sent (Server s, messages.Inquire T W) mirrors.addressed i) (subst (λ (U : Tid). w.begun U ≡ true) of.1 (inv.core.rest.of_begun W of.0))
    comes _ i = tt

    coordinator-done : (k : ℕ) (free : ℕ) (message : Message) → In (Server s, message) r.sent → ((x : Sent) → In x (r.sent ++ (coordinator_row m.coordinator free m.tickets message).messages) → IsTrue v x)
        → ServerKeeps (done s (Some k) (of_coordinator m (coordinator_row m.coordinator free m.tickets message)) r)
    coordinator-done k free message i said = up-keeps s m (of_coordinator m row).table is _ _ row.messages _ (lines_of s (Some k) row.notes) refl refl (lines-servers s (Some k) row.notes) h.held (λ W e t. inl t) (old-told s m (lines_of s (Some k) row.notes) is)
        (each-more (NewsFact (openings r.sent) r.clients w v Caused facts.unique full m.coordinator m.tickets (past.entries s m is) places past.last named-here aborted-here (λ c q. message ≡ messages.Begin c q) row.table.transactions) (News (at_server r.memory s (Some (of_coordinator m row).table))) row.messages news
        (h.news (λ x j. said x (in-second x r.sent row.messages j))))
      where
        row : RowOutcome CoordinatorTable
        row = coordinator_row m.coordinator free m.tickets message

        h : RowHolds (openings r.sent) r.clients w v Caused facts.unique full m.coordinator m.tickets (past.entries s m is) places past.last named-here aborted-here (λ c q. message ≡ messages.Begin c q) (coordinator_row m.coordinator free m.tickets message)
        h = row-holds (openings r.sent) r.clients w v Caused facts.unique full m.coordinator m.tickets (past.entries s m is) places past.last named-here aborted-here (λ c q. message ≡ messages.Begin c q) free message (comes message i)

        news : (x : Sent) → NewsFact (openings r.sent) r.clients w v Caused facts.unique full m.coordinator m.tickets (past.entries s m is) places past.last named-here aborted-here (λ c q. message ≡ messages.Begin c q) row.table.transactions x → News (at_server r.memory s (Some (of_coordinator m row).table)) x
        news (to, messages.Begun c q (Some T)) p = (((of_coordinator m row).table, own s (Some (of_coordinator m row).table) T.server (sym (p.1 ∙ up.server)), p.0), subst (λ (z : ServerNo). In (Server z, messages.Begin c q) r.sent) (sym (p.1 ∙ up.server)) (subst (λ z. In (Server s, z) r.sent) p.2 i))
        news (to, messages.Begun c q None) p = tt
        news (to, messages.Outcome c T outcome) p = tt
        news (to, messages.Prepare T c W) p = tt
        news (to, messages.Commit T W) p = tt
        news (to, messages.Drop T W) p = p
        news (to, _) p = absurd p

    -- where every client is idle, each transaction is past
    closing-done : ((c : ClientNo) → IsIdle (r.clients c)) → ServerKeeps (done s None (of_coordinator m (close_clients_row m.coordinator m.tickets)) r)
    closing-done idle = up-keeps s m (of_coordinator m (close_clients_row m.coordinator m.tickets)).table is _ _ [] _ [] refl refl tt (λ T not t. absurd (is-past T t not)) (λ W e t. inl t) (old-told s m [] is) tt
      where
        none-tid : (T : Tid) → None ≡ Some T → ⊥
        none-tid T e = cc

        none-out : (x : Outstanding) → None ≡ Some x → ⊥
        none-out x e = cc

        is-past : (T : Tid) → IsThere T m.coordinator.transactions → ((c : ClientNo) → IsPast (openings r.sent) c (r.clients c) T → ⊥) → ⊥
        is-past T t not = let f = some_of (transaction_at T m.coordinator.transactions) t in let y = each-found (EntryFact (openings r.sent) r.clients w Caused m.coordinator.seen) T m.coordinator.transactions f.0 (past.entries s m is) f.1 in
            not f.0.client (subst (λ (U : Tid). IsPast (openings r.sent) f.0.client (r.clients f.0.client) U) y.1 (record {
              request = y.0.request;
              has = y.0.has;
              drawn = all-drawn (openings r.sent) r.clients w Caused r.sent past.says (opening f.0.client y.0.request f.0.tid) y.0.has;
              over = λ e. none-tid f.0.tid (sym (idle f.0.client).0 ∙ e);
              answered = λ o e. absurd (none-out o (sym (idle f.0.client).1 ∙ e));
            }))

    pub row-keeps : (step : Step) (k : Option ℕ) (row : RowOutcome Memory) → ServerRow r s m None step k row → IsStep step r → ((x : Sent) → In x (r.sent ++ row.messages) → IsTrue v x) → ServerKeeps (done s k row r)
    row-keeps _ _ _ (of_message _ k room message is) may said = let i = get-in r.sent k (Server s, message) is in
        row-either (λ row. ((x : Sent) → In x (r.sent ++ row.messages) → IsTrue v x) → ServerKeeps (done s (Some k) row r)) m (stable (r.found s)) room message (λ h. message-done k room message i) (coordinator-done k room.free.records message i) said
    row-keeps _ _ row (of_work _ room _ is) may said = row-of-step (λ z. ServerKeeps (done s None z r)) m (stable (r.found s)) room row is (step-done room)
    row-keeps _ _ _ of_closing idle said = closing-done idle

    -- ---- what changes no table of transactions

    pub again-keeps : ServerKeeps (record r { sent = r.sent ++ server_again m (stable (r.found s)) })
    again-keeps = record {
      new = [];
      adds = sym (append-nil r.lines);
      more = server_again m (stable (r.found s));
      sends = refl;
      same = refl;
      quiet = tt;
      holds = λ T not h. inl h;
      has = λ W h. inl h;
      broken = λ q n e. old-told q n [] e;
      news = each-append (News r.memory) (worker_again (stable (r.found s)) m.worker) (coordinator_again m.coordinator.transactions) (asks m.worker) (tells m.coordinator.transactions);
    }
      where
        asks : (t : WorkerTable) → Each (News r.memory) (worker_again (stable (r.found s)) t)
        asks [] = tt
        asks (x ∷ xs) = by (is_going ((stable (r.found s)).works x.name)) (asks xs)
          where
            by : (b : Bool) → Each (News r.memory) (worker_again (stable (r.found s)) xs) → Each (News r.memory) (if b then worker_again (stable (r.found s)) xs else (Server x.tid.server, messages.Inquire x.tid x.name) ∷ worker_again (stable (r.found s)) xs)
            by true h = h
            by false h = (tt, h)

        commits-new : (T : Tid) (Ws : List WorkId) → Each (News r.memory) (commits T Ws)
        commits-new T [] = tt
        commits-new T (W ∷ Ws) = (tt, commits-new T Ws)

        one : (y : Transaction) (stage : Stage) → Each (News r.memory) (told_again y stage)
        one y Open = tt
        one y (Voting b) = tt
        one y (Aborted c) = (tt, tt)
        one y (Committed d) = each-append (News r.memory) (commits y.tid (besides d.works d.done)) _ (commits-new y.tid (besides d.works d.done)) (by d.thanked)
          where
            by : (b : Bool) → Each (News r.memory) (if b then [] else committed_to y ∷ [])
            by true = tt
            by false = (tt, tt)

        tells : (xs : List Transaction) → Each (News r.memory) (coordinator_again xs)
        tells [] = tt
        tells (y ∷ ys) = each-append (News r.memory) (told_again y y.stage) (coordinator_again ys) (one y y.stage) (tells ys)

    pub late-keeps : (T : Tid) → ServerKeeps (record r { memory = at_server r.memory s (Some (server_timeout m T)) })
    late-keeps T = up-keeps s m (of_timeout m (timeout_row m.worker T)) is r.found r.sent [] r.lines [] (sym (append-nil r.sent)) (sym (append-nil r.lines)) tt (λ U not t. subst (λ (z : CoordinatorTable). IsThere U z.transactions) (sym (same (timeout_row m.worker T))) t)
        (λ W e t. inl (live (timeout_row m.worker T) refl W t)) (all-told s r.lines [] _ (told (timeout_row m.worker T) refl)) tt
      where
        same : (o : Option WorkerTable) → (of_timeout m o).coordinator ≡ m.coordinator
        same None = refl
        same (Some t) = refl

        live : (o : Option WorkerTable) → timeout_row m.worker T ≡ o → (W : WorkId) → IsLive W m.worker → IsLive W (of_timeout m o).worker
        live None e W t = t
        live (Some now) e W t = (timeout-keeps s r.lines m.worker T now up.table.rising (cause.broken s m is) e).live W t

        told : (o : Option WorkerTable) → timeout_row m.worker T ≡ o → Each (WorkTold s r.lines) (of_timeout m o).worker
        told None e = cause.broken s m is
        told (Some now) e = (timeout-keeps s r.lines m.worker T now up.table.rising (cause.broken s m is) e).told
