-- What holds after any steps from an opening: the machine stands there too, and all facts hold.
use Rattle.jn_system_reports.proofs.Common.{◌≡◌, ◌⊎◌, inl, inr, ℕ, Bool, true, false, List, [], ◌∷◌, ◌++◌, Some, None, is_some, sym, ◌∙◌, ap, subst, arith, list_any, ServerNo, Tid, tid_eq, AllFiles, Machine, Invariant, Atom, run_atoms, opening_world, MayRun, run_kept, opening_kept, still-says, run-append, may-append, opening-mirrors, committed-any, run_told, opening_told, AreNamed, Mirrors, World, opening, new_memory, has_line, Step, IsStep, after, LockFacts, locks-keep, opening-keeps, Facts, step-next, opening-facts, Next, ◌||◌, if◌then◌else◌, All, All-head, All-tail, ClientNo, WorkId, LockUnit, Cause, Server, server_eq, work_eq, work_tells, Message, Vote, Text, OpenWork, Outstanding, Pick, stable, Sent, worker_row, is_work, coordinator_row, ClientTable, names_of, IsWorkOf, Grows, run_grows, not_both, some_of, Memory, Room, storage_of, of_worker, done, ServerFact, UpFact, IsAddressed, worker-none, Opening, openings, Has, began_by, is_closing, EndsNow, RequestNo, some-memory}
use Rattle.jn_msgs.specs.declared.message.Message.TheVariants as messages
use Rattle.jn_system_order.proofs.Ordering.Named.{step-names}
use Rattle.jn_system_reports.proofs.Reporting.Talk.{Talk, step-talk, opening-talk, step-asks, IsFresh}
use Rattle.jn_msgs.specs.declared.message.Note.TheVariants as notes
use Rattle.jn_msgs.specs.declared.message.Vote.TheVariants as votes
use Rattle.jn_report.specs.declared.line.Text.TheVariants as says
use Rattle.jn_rows.specs.Client.{work_at}
use Rattle.jn_system_reports.proofs.Reporting.Lists.{In, Each, each-append, each-more, each-in}
use Rattle.jn_system_reports.proofs.Reporting.Asking.{IsAsked, IsWorkers}
use Rattle.jn_system_reports.proofs.Reporting.WorkerTalk.{worker-talks}
use Rattle.jn_system_reports.proofs.Reporting.Known.{IsPast, IsOpen, IsKnown}
use Rattle.jn_system_reports.proofs.Reporting.Gone.{run-gone}
use Rattle.jn_system_reports.proofs.Reporting.Breaking.{worker-breaks}
use Rattle.jn_system_reports.proofs.Reporting.Past.{SaysPast, VoteFact, EntryFact}
use Rattle.jn_system_reports.proofs.Reporting.PastRows.{is_broke}
use Rattle.jn_system_reports.proofs.Reporting.PastSteps.{PastFacts}
use Rattle.jn_system_reports.proofs.Reporting.PastWorld.{Later, coordinator-quiet}
use Rattle.jn_system_reports.proofs.Reporting.PastAll.{step-past}
use Rattle.jn_system_reports.proofs.Reporting.Outcomes.{IsTrueAbort, NeverNamed, EndsAsked, broke-fact}
use Rattle.jn_system_reports.proofs.Reporting.StepLines.{IsPlainText, step-lines}

-- any cause will do
abbrev pub Free : ClientNo → Tid → Cause → Type 0
Free c T cause = Unit {0}

-- what is reported aborted or broken is never named, and no step prints files
abbrev pub LineFact : List Sent → Machine → Text → Type 0
LineFact sent w (says.Aborted c j T cause) = w.aborted T ≡ true
LineFact sent w (says.Broke s T u by) = NeverNamed sent w T
LineFact sent w (says.File s f) = ⊥
LineFact sent w (says.Page s f p bytes) = ⊥
LineFact sent w (says.Locked s u T) = ⊥
LineFact sent w text = Unit {0}

pub record Reached (files : AllFiles) (epochs : ServerNo → ℕ) (r : World) : Type 0 where
  pub atoms : List Atom
  pub may : MayRun atoms (opening_world files epochs)
  pub locks : LockFacts r
  pub mirrors : Mirrors r (run_atoms atoms (opening_world files epochs))
  pub facts : Facts r (run_atoms atoms (opening_world files epochs))
  pub talk : Talk r (run_atoms atoms (opening_world files epochs))
  pub names : AreNamed [] r.lines
  pub past : PastFacts r.sent r.clients r.memory r.found (run_atoms atoms (opening_world files epochs)) Free
  pub ends : EndsAsked r.sent (run_atoms atoms (opening_world files epochs))
  pub lines : Each (LineFact r.sent (run_atoms atoms (opening_world files epochs))) r.lines

-- a work that is found is among the names
found-named : (s : ServerNo) (works : List OpenWork) (x : OpenWork) → work_at s works ≡ Some x → is_work x.work (names_of works) ≡ true
found-named s [] x h = absurd (none h)
  where
    none : None ≡ Some x → ⊥
    none e = cc
found-named s (y ∷ ys) x h = by (server_eq y.work.server s) h (found-named s ys x)
  where
    some : Some y ≡ Some x → y ≡ x
    some e = cc

    own : (W : WorkId) (b : Bool) → (work_eq W W || b) ≡ true
    own W b = grind (arith, work_tells W W)

    more : (a b : Bool) → b ≡ true → (a || b) ≡ true
    more a b k = grind arith

    by : (b : Bool) → (if b then Some y else work_at s ys) ≡ Some x → (work_at s ys ≡ Some x → is_work x.work (names_of ys) ≡ true) → (work_eq y.work x.work || is_work x.work (names_of ys)) ≡ true
    by true e on = subst (λ (z : OpenWork). (work_eq y.work z.work || is_work z.work (names_of ys)) ≡ true) (some e) (own y.work (is_work y.work (names_of ys)))
    by false e on = more (work_eq y.work x.work) (is_work x.work (names_of ys)) (on e)

workers-free : (os : List Opening) (clients : ClientNo → ClientTable) (w : Machine) (sent : List Sent) (x : Sent) → IsWorkers sent x → SaysPast os clients w Free x
workers-free os clients w sent (to, messages.Vote T W vote) h = by vote
  where
    by : (vote : Vote) → VoteFact os clients w Free T W vote
    by votes.Ready = tt
    by (votes.Waiting u t) = tt
    by (votes.Lost m n) = λ a b c. tt
    by (votes.Broken u t) = λ c. tt
    by (votes.Full n free need) = λ c. tt
workers-free os clients w sent (to, messages.Answer c q answer) h = tt
workers-free os clients w sent (to, messages.Opened c q T o) h = tt
workers-free os clients w sent (to, messages.Done T W) h = tt
workers-free os clients w sent (to, messages.Inquire T W) h = tt
workers-free os clients w sent (to, _) h = absurd h

plain-fact : (sent : List Sent) (w : Machine) (text : Text) → IsPlainText text → LineFact sent w text
plain-fact sent w (says.Aborted c j T cause) h = absurd h
plain-fact sent w (says.Broke s T u by) h = absurd h
plain-fact sent w (says.File s f) h = absurd h
plain-fact sent w (says.Page s f p bytes) h = absurd h
plain-fact sent w (says.Locked s u T) h = absurd h
plain-fact sent w _ h = tt

-- what holds of every message holds of this one
pub in-all : (P : Sent → Type 0) (sent : List Sent) (x : Sent) → All P sent → In x sent → P x
in-all P [] x all i = absurd i
in-all P (y ∷ sent) x all (inl e) = subst P e (All-head P y sent all)
in-all P (y ∷ sent) x all (inr i) = in-all P sent x (All-tail P y sent all) i

-- ---- one step of what is past and of what is reported

module _ (r : World) (w : Machine) (atoms : List Atom) (may : MayRun atoms w) (mirrors : Mirrors r w) (facts : Facts r w) (inv : Invariant w) (locks : LockFacts r) (talk : Talk r w) (past : PastFacts r.sent r.clients r.memory r.found w Free)
    (ends : EndsAsked r.sent w) (lines : Each (LineFact r.sent w) r.lines) (named : (T : Tid) → w.named T ≡ has_line T r.lines) (step : Step) (i : IsStep step r)
    (mirrors' : Mirrors (after step r) (run_atoms atoms w)) (facts' : Facts (after step r) (run_atoms atoms w)) (locks' : LockFacts (after step r)) (talk' : Talk (after step r) (run_atoms atoms w))
    (named' : (T : Tid) → (run_atoms atoms w).named T ≡ has_line T (after step r).lines) (ended : (T : Tid) → (run_atoms atoms w).ended T ≡ true → (w.ended T ≡ true) ⊎ EndsNow (after step r) (run_atoms atoms w) T) where
  inv' : Invariant (run_atoms atoms w)
  inv' = run_kept atoms w may inv

  grown : Grows w (run_atoms atoms w)
  grown = run_grows atoms w may inv

  grow : (T : Tid) (W : WorkId) → IsWorkOf w T W → IsWorkOf (run_atoms atoms w) T W
  grow T W of = still-says atoms w may inv (messages.Inquire T W) of

  later : Later (after step r) (run_atoms atoms w)
  later = record { named = named'; placed = placed; unique = facts'.unique }
    where
      placed : (s : ServerNo) (c : Pick) (T : Tid) → is_some (((after step r).found s c).flags T) ≡ true → T.server ≡ s
      placed s c T e = let f = some_of (((after step r).found s c).flags T) e in ((inv'.core.states s c).flag T f.0 (ap (λ x. x.flags T) (mirrors'.found s c) ∙ f.1)).place

  workers : (s : ServerNo) (m : Memory) (is : r.memory s ≡ Some m) (room : Room) (message : Message) → In (Server s, message) r.sent → Each (SaysPast (openings r.sent) r.clients w Free) (worker_row m.worker (storage_of m (stable (r.found s)) room) m.tickets message).messages
  workers s m is room message k = each-more (IsWorkers r.sent) (SaysPast (openings r.sent) r.clients w Free) _ (workers-free (openings r.sent) r.clients w r.sent) (by message k)
    where
      by : (message : Message) → In (Server s, message) r.sent → Each (IsWorkers r.sent) (worker_row m.worker (storage_of m (stable (r.found s)) room) m.tickets message).messages
      by (messages.Op c q W n op) k = (worker-talks r.sent talk.once m.worker m.tickets (talk.works s m is) (storage_of m (stable (r.found s)) room) (messages.Op c q W n op) (record { to = Server s; is = k })).0
      by message k = (worker-talks r.sent talk.once m.worker m.tickets (talk.works s m is) (storage_of m (stable (r.found s)) room) message tt).0

  pub past-next : PastFacts (after step r).sent (after step r).clients (after step r).memory (after step r).found (run_atoms atoms w) Free
  past-next = step-past r w (run_atoms atoms w) Free Free past (λ c T cause h. tt) grown.aborted grown.named named (λ c T s n free need h. tt) mirrors inv locks facts talk workers (λ s m is c T at none had. inr tt) step (i, λ c e T f. tt) later

  pub ends-next : EndsAsked (after step r).sent (run_atoms atoms w)
  ends-next a h T of e = by (ended T e)
    where
      same-owner : (U : Tid) → IsWorkOf (run_atoms atoms w) U a.work → U ≡ T
      same-owner U k = sym k.1 ∙ of.1

      known : IsKnown (openings (after step r).sent) (run_atoms atoms w) a.client ((after step r).clients a.client) a.work a.number.0
      known = (talk'.asked a h).known

      old : IsAsked r.sent a ⊎ IsFresh r w a → w.ended T ≡ true → (run_atoms atoms w).part T a.work.server ≡ Some a.work
      old (inl k) we = let was = (talk.asked a k).known in grown.part T we a.work.server ∙ ends a k T (subst (λ (U : Tid). IsWorkOf w U a.work) (same-owner was.tid (grow was.tid a.work was.of)) was.of) we
      old (inr k) we = absurd (not_both (w.ended T) we (subst (λ (U : Tid). w.ended U ≡ false) (same-owner k.tid (grow k.tid a.work k.of)) ((facts.clients a.client).fresh k.tid k.current (ap is_closing k.idle))))

      now : EndsNow (after step r) (run_atoms atoms w) T → IsOpen ((after step r).clients a.client) known.tid a.work a.number.0 ⊎ IsPast (openings (after step r).sent) a.client ((after step r).clients a.client) known.tid → (run_atoms atoms w).part T a.work.server ≡ Some a.work
      now n k = at k
        where
          tid : known.tid ≡ T
          tid = same-owner known.tid known.of

          is-own : (q : RequestNo) → Has (began_by a.client q known.tid) (openings (after step r).sent) → n.client ≡ a.client
          is-own q has = let b = (facts'.clients n.client).current T n.current in ap (λ (z : Opening). z.client) (facts'.unique (began_by n.client b.request T) (began_by a.client q known.tid) b.has has (sym tid))

          at : IsOpen ((after step r).clients a.client) known.tid a.work a.number.0 ⊎ IsPast (openings (after step r).sent) a.client ((after step r).clients a.client) known.tid → (run_atoms atoms w).part T a.work.server ≡ Some a.work
          at (inl p) = let b = (facts'.clients a.client).current known.tid p.current in n.parts a.work (subst (λ (c : ClientNo). is_work a.work (names_of ((after step r).clients c).works) ≡ true) (sym (is-own b.request b.has))
              (subst (λ (W : WorkId). is_work W (names_of ((after step r).clients a.client).works) ≡ true) p.named (found-named a.work.server ((after step r).clients a.client).works p.work p.found)))
          at (inr p) = absurd (p.over (ap (λ (c : ClientNo). ((after step r).clients c).transaction) (sym (is-own p.request p.has)) ∙ n.current ∙ ap (λ (z : Tid). Some z) (sym tid)))

      by : (w.ended T ≡ true) ⊎ EndsNow (after step r) (run_atoms atoms w) T → (run_atoms atoms w).part T a.work.server ≡ Some a.work
      by (inl we) = old ((step-asks r w mirrors facts talk step).back a h) we
      by (inr n) = now n known.stands

  never-grows : (T : Tid) → NeverNamed r.sent w T → NeverNamed (after step r).sent (run_atoms atoms w) T
  never-grows T (inl e) = inl (grown.aborted T e)
  never-grows T (inr h) = inr (record { of = h.of; asked = (step-asks r w mirrors facts talk step).forth h.of h.asked; owner = grow T h.of.work h.owner; gone = run-gone atoms w h.of.work may inv h.gone })

  line-grows : (text : Text) → LineFact r.sent w text → LineFact (after step r).sent (run_atoms atoms w) text
  line-grows (says.Aborted c j T cause) h = grown.aborted T h
  line-grows (says.Broke s T u by) h = never-grows T h
  line-grows (says.File s f) h = absurd h
  line-grows (says.Page s f p bytes) h = absurd h
  line-grows (says.Locked s u T) h = absurd h
  line-grows _ h = tt

  told : (c : ClientNo) (text : Text) → IsTrueAbort (openings r.sent) r.clients w Free c (facts.clients c).name text → LineFact (after step r).sent (run_atoms atoms w) text
  told c (says.Aborted d j T cause) h = grown.aborted T h.2
  told c (says.Broke s T u by) h = absurd h
  told c (says.File s f) h = absurd h
  told c (says.Page s f p bytes) h = absurd h
  told c (says.Locked s u T) h = absurd h
  told c text h = tt

  -- where the machine stands
  pub record After (q : World) : Type 0 where
    pub stands : Mirrors q (run_atoms atoms w)
    pub locked : LockFacts q
    pub names_are : (T : Tid) → (run_atoms atoms w).named T ≡ has_line T q.lines

  up-at : (s : ServerNo) (m : Memory) → r.memory s ≡ Some m → UpFact s m (r.found s)
  up-at s m is = subst (λ o. ServerFact s o (r.found s)) is (locks s)

  raise : (T : Tid) → NeverNamed r.sent (run_atoms atoms w) T → NeverNamed (after step r).sent (run_atoms atoms w) T
  raise T (inl e) = inl e
  raise T (inr h) = inr (record { of = h.of; asked = (step-asks r w mirrors facts talk step).forth h.of h.asked; owner = h.owner; gone = h.gone })

  broke : (s : ServerNo) (m : Memory) (is : r.memory s ≡ Some m) (k : ℕ) (room : Room) (message : Message) → In (Server s, message) r.sent → After (done s (Some k) (of_worker m (worker_row m.worker (storage_of m (stable (r.found s)) room) m.tickets message)) r)
      → (T : Tid) (u : LockUnit) (by : Tid) → In (notes.Broke T u by) (worker_row m.worker (storage_of m (stable (r.found s)) room) m.tickets message).notes → LineFact (after step r).sent (run_atoms atoms w) (says.Broke s T u by)
  broke s m is k room message j l T u by n = raise T (broke-fact r w mirrors talk locks inv named ends s m is (Some k) (worker_row m.worker (storage_of m (stable (r.found s)) room) m.tickets message)
      (worker-none m.worker (storage_of m (stable (r.found s)) room) m.tickets message) (run_atoms atoms w) l.stands l.locked inv' l.names_are grow T u by
      (worker-breaks m.worker m.tickets (up-at s m is).table.rising (storage_of m (stable (r.found s)) room) message T u by n))

  silent : (s : ServerNo) (m : Memory) (is : r.memory s ≡ Some m) (room : Room) (message : Message) → In (Server s, message) r.sent → list_any is_broke (coordinator_row m.coordinator room.free.records m.tickets message).notes ≡ false
  silent s m is room message k = coordinator-quiet r w (run_atoms atoms w) Free Free past (λ c T cause h. tt) grown.aborted grown.named (λ c T e. (facts.clients c).current T e) named facts.unique (λ c T s n free need h. tt) mirrors inv locks workers (λ s m is c T at none had. inr tt)
      s m is (up-at s m is) room message (in-all IsAddressed r.sent (Server s, message) mirrors.addressed k) (each-in (SaysPast (openings r.sent) r.clients w Free) r.sent (Server s, message) past.says k)

  pub lines-next : Each (LineFact (after step r).sent (run_atoms atoms w)) (after step r).lines
  lines-next = let new = step-lines (LineFact (after step r).sent (run_atoms atoms w)) (plain-fact (after step r).sent (run_atoms atoms w)) r w Free mirrors facts past After told broke silent step (record { stands = mirrors'; locked = locks'; names_are = named' }) in
      subst (λ l. Each (LineFact (after step r).sent (run_atoms atoms w)) l) (sym new.adds) (each-append (LineFact (after step r).sent (run_atoms atoms w)) r.lines new.texts (each-more (LineFact r.sent w) (LineFact (after step r).sent (run_atoms atoms w)) r.lines line-grows lines) new.each)

module _ (files : AllFiles) (epochs : ServerNo → ℕ) where
  -- a transaction is named where its commit has its line
  pub named-is : (r : World) (h : Reached files epochs r) (T : Tid) → (run_atoms h.atoms (opening_world files epochs)).named T ≡ has_line T r.lines
  named-is r h T = (run_told files h.atoms (opening_world files epochs) h.may (opening_kept files epochs) (opening_told files epochs)).1.named T ∙ committed-any T (run_atoms h.atoms (opening_world files epochs)).history
      ∙ ap (λ l. list_any (λ (V : Tid). tid_eq V T) l) h.mirrors.commits

  pub invariant : (r : World) (h : Reached files epochs r) → Invariant (run_atoms h.atoms (opening_world files epochs))
  invariant r h = run_kept h.atoms (opening_world files epochs) h.may (opening_kept files epochs)

  pub next-reached : (r : World) (step : Step) → IsStep step r → Reached files epochs r → Reached files epochs (after step r)
  next-reached r step i h = record {
    atoms = h.atoms ++ next.atoms;
    may = may-append h.atoms next.atoms (opening_world files epochs) h.may next.may;
    locks = locks-keep step r i h.locks;
    mirrors = subst (λ (z : Machine). Mirrors (after step r) z) (sym same) next.mirrors;
    facts = subst (λ (z : Machine). Facts (after step r) z) (sym same) next.facts;
    talk = subst (λ (z : Machine). Talk (after step r) z) (sym same) (step-talk r w (run_atoms next.atoms w) h.mirrors h.facts h.talk
        (λ T W of. still-says next.atoms w next.may (run_kept h.atoms (opening_world files epochs) h.may (opening_kept files epochs)) (messages.Inquire T W) of) step);
    names = step-names r w h.mirrors (named-is r h) h.names step;
    past = subst (λ (z : Machine). PastFacts (after step r).sent (after step r).clients (after step r).memory (after step r).found z Free) (sym same)
        (past-next r w next.atoms next.may h.mirrors h.facts inv h.locks h.talk h.past h.ends h.lines (named-is r h) step i next.mirrors next.facts locks' talk' named' next.ends);
    ends = subst (λ (z : Machine). EndsAsked (after step r).sent z) (sym same)
        (ends-next r w next.atoms next.may h.mirrors h.facts inv h.locks h.talk h.past h.ends h.lines (named-is r h) step i next.mirrors next.facts locks' talk' named' next.ends);
    lines = subst (λ (z : Machine). Each (LineFact (after step r).sent z) (after step r).lines) (sym same)
        (lines-next r w next.atoms next.may h.mirrors h.facts inv h.locks h.talk h.past h.ends h.lines (named-is r h) step i next.mirrors next.facts locks' talk' named' next.ends);
  }
    where
      w : Machine
      w = run_atoms h.atoms (opening_world files epochs)

      next : Next (after step r) (run_atoms h.atoms (opening_world files epochs))
      next = step-next files epochs h.atoms h.may r h.mirrors h.facts h.locks step i

      same : run_atoms (h.atoms ++ next.atoms) (opening_world files epochs) ≡ run_atoms next.atoms (run_atoms h.atoms (opening_world files epochs))
      same = run-append h.atoms next.atoms (opening_world files epochs)

      inv : Invariant (run_atoms h.atoms (opening_world files epochs))
      inv = run_kept h.atoms (opening_world files epochs) h.may (opening_kept files epochs)

      locks' : LockFacts (after step r)
      locks' = locks-keep step r i h.locks

      talk' : Talk (after step r) (run_atoms next.atoms (run_atoms h.atoms (opening_world files epochs)))
      talk' = step-talk r (run_atoms h.atoms (opening_world files epochs)) (run_atoms next.atoms (run_atoms h.atoms (opening_world files epochs))) h.mirrors h.facts h.talk (λ T W of. still-says next.atoms (run_atoms h.atoms (opening_world files epochs)) next.may inv (messages.Inquire T W) of) step

      named' : (T : Tid) → (run_atoms next.atoms (run_atoms h.atoms (opening_world files epochs))).named T ≡ has_line T (after step r).lines
      named' T = (run_told files next.atoms (run_atoms h.atoms (opening_world files epochs)) next.may inv (run_told files h.atoms (opening_world files epochs) h.may (opening_kept files epochs) (opening_told files epochs)).1).1.named T
          ∙ committed-any T (run_atoms next.atoms (run_atoms h.atoms (opening_world files epochs))).history ∙ ap (λ l. list_any (λ (V : Tid). tid_eq V T) l) next.mirrors.commits

  pub opening-reached : (servers : ℕ) → Reached files epochs (opening servers files epochs)
  opening-reached servers = record {
    atoms = [];
    may = tt;
    locks = opening-keeps servers files epochs;
    mirrors = opening-mirrors servers files epochs;
    facts = opening-facts servers files epochs;
    talk = opening-talk servers files epochs (opening_world files epochs);
    names = tt;
    past = record { last = λ c o e. absurd (none-out o e); says = tt; entries = λ s m e. subst (λ (x : Memory). Each (EntryFact [] (opening servers files epochs).clients (opening_world files epochs) Free x.coordinator.seen) x.coordinator.transactions) (some-memory (new_memory s (epochs s)) m e) tt; flags = λ s c T. tt; held = λ s m e T f. absurd (no f); named = λ T c e. absurd (no e) };
    ends = λ a h T of e. absurd (no e);
    lines = tt;
  }
    where
      none-out : (o : Outstanding) → None ≡ Some o → ⊥
      none-out o e = cc

      no : false ≡ true → ⊥
      no q = grind arith
