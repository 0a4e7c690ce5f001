-- What a worker does with each message, as steps of the machine.
use Rattle.jn_system_order.proofs.Common.{◌≡◌, ◌≢◌, ◌⊎◌, inl, inr, Bool, true, false, List, [], ◌∷◌, Some, None, is_some, refl, sym, ◌∙◌, ap, subst, arith, if◌then◌else◌, All, All-nil, All-cons, ServerNo, ClientNo, Tid, WorkId, Client, Server, Op, work_eq, tid_tells, work_tells, Message, Vote, Work, Phase, Active, ActiveWork, StableState, stable, at_work, RowOutcome, Sent, WorkerTable, work_at, work_of, granted_row, conflict, counted, Machine, PartFact, Atom, NoteReady, run, MayRun, Says, IsPartOf, found-name, World, Memory, Room, storage_of, UpFact, IsSoundWork, IsSoundPrepared, Mirrors, IsTrue, IsAddressed, working_in, next_in, by-name, of-found, no-lock, RequestNo, no-conflict, WorkerCase, none_done, replies_only, opens_anew, refuses_next, performs_next, prepares_it, marks_it, drops_it, removes_it, Replies, is_open_already, votes_against, votes_broken, votes_again, votes_lost, is_done_already, its_answer, its_wants, its_vote, is_ready, worker-case, VoteSays, Invariant, WorkStorage, worker_row, OperationNo, asked_for, asked_here}
use Rattle.jn_msgs.specs.declared.message.Message.TheVariants as messages
use Rattle.jn_msgs.specs.declared.message.Vote.TheVariants as votes
use Rattle.jn_rows.specs.declared.worker.PreparedWork.{PreparedWork}
use Rattle.jn_system_order.proofs.Mirroring.GrantMoves.{found-here, found-same, active-here}
use Rattle.jn_system_order.proofs.Mirroring.Mirrored.{DoesRow}
use Rattle.jn_system_order.proofs.Mirroring.QuietMoves.{RowMoves, still-stops, sends-moves, phase-moves, open-moves}
use Rattle.jn_system_order.proofs.Mirroring.OpMoves.{atoms, may-op, op-does, op-ran}
use Rattle.jn_system_order.proofs.Mirroring.PrepareMoves.{prepare-moves}
use Rattle.jn_system_order.proofs.Mirroring.CommitMoves.{over-moves, mark-moves}
use Rattle.jn_system_order.proofs.Mirroring.DropMoves.{lose-moves, drop-moves}
use Rattle.jn_rows.specs.Outcomes.{sends}

of-tid : (T : Tid) (t : WorkerTable) (v : Work) → work_of T t ≡ Some v → v.tid ≡ T
of-tid T [] v h = absurd (grind arith)
of-tid T (y ∷ ys) v h = grind (arith, of-tid T ys v, tid_tells y.tid T)

module _ (r : World) (w : Machine) (s : ServerNo) (m : Memory) (mirrors : Mirrors r w) (is : r.memory s ≡ Some m) (up : UpFact s m (r.found s))
    (grow : (atoms : List Atom) → MayRun atoms w → (message : Message) → Says w message → Says (run atoms w) message) (parts : PartFact w) (inv : Invariant w) (room : Room) where
  abbrev storage : WorkStorage
  storage = storage_of m (stable (r.found s)) room

  -- a work that is prepared already votes again
  ready-again : (T : Tid) (c : ClientNo) (x : Work) → work_at x.name m.worker ≡ Some x → IsPartOf w T x.name → (p : PreparedWork) → IsSoundPrepared ((stable (r.found s)).works x.name) x.tid p
      → RowMoves s m (record { table = m.worker; changes = []; messages = (Server T.server, messages.Vote T x.name votes.Ready) ∷ []; notes = []; tickets = m.tickets }) w
  ready-again T c x found said p sound = record {
    atoms = NoteReady x.name ∷ [];
    may = may;
    does = record {
      up = λ q. refl;
      found = λ q k. found-same r w s m mirrors is up q k;
      here = λ V e. active-here r w s m mirrors is up V e;
      elsewhere = λ V ne. refl;
      next_here = λ V e. mirrors.next V ∙ ap (λ (q : ServerNo). next_in (r.memory q) V) e ∙ ap (λ o. next_in o V) is;
      next_elsewhere = λ V ne. refl;
      ticket_here = mirrors.ticket s m is;
      ticket_elsewhere = λ q ne. refl;
      knowledge = λ U. refl;
      history = refl;
      ended = refl;
      owner = λ V v h. grow (NoteReady x.name ∷ []) may (messages.Inquire v.tid V) (mirrors.owner s m V v is h);
      grows = λ message h. grow (NoteReady x.name ∷ []) may message h;
      says = All-cons (IsTrue (run (NoteReady x.name ∷ []) w)) (Server T.server, messages.Vote T x.name votes.Ready) [] (noted (work_tells x.name x.name), grow (NoteReady x.name ∷ []) may (messages.Prepare T c x.name) said)
          (All-nil (IsTrue (run (NoteReady x.name ∷ []) w)));
      addressed = All-cons IsAddressed (Server T.server, messages.Vote T x.name votes.Ready) [] refl (All-nil IsAddressed);
    };
    stops = still-stops r w s m mirrors is up _ refl;
  }
    where
      may : MayRun (NoteReady x.name ∷ []) w
      may = (λ k. ap (λ (z : StableState). is_some (z.works x.name)) (found-here r w s m mirrors is up x.name.server k (up.table.place x.name x found ∙ up.server)) ∙ ap is_some sound.is, tt)

      noted : ((work_eq x.name x.name ≡ true) × (x.name ≡ x.name)) ⊎ ((work_eq x.name x.name ≡ false) × (x.name ≢ x.name)) → at_work w.was_ready x.name true x.name ≡ true
      noted (inl e) = ap (λ (b : Bool). if b then true else w.was_ready x.name) e.0
      noted (inr e) = absurd (e.1 refl)

  -- the work that is found is the part
  is-part : (T : Tid) (W : WorkId) (x : Work) → work_at W m.worker ≡ Some x → IsPartOf w T W → IsPartOf w T x.name
  is-part T W x e said = subst (λ (U : WorkId). IsPartOf w T U) (sym (found-name W m.worker x e)) said

  -- ---- what is sent alone

  one : (x : Sent) → IsTrue w x → IsAddressed x → All (IsTrue w) (x ∷ []) × All IsAddressed (x ∷ [])
  one x h a = (All-cons (IsTrue w) x [] h (All-nil (IsTrue w)), All-cons IsAddressed x [] a (All-nil IsAddressed))

  sends-one : (x : Sent) → IsTrue w x → IsAddressed x → RowMoves s m (sends m.worker m.tickets (x ∷ [])) w
  sends-one x h a = sends-moves r w s m mirrors is up _ [] (one x h a)

  -- a vote that isn't ready is said of any work
  votes-so : (W : WorkId) (vote : Vote) → is_ready vote ≡ false → VoteSays w W vote
  votes-so W votes.Ready e = absurd (grind arith)
  votes-so W vote e = tt

  replied : (message : Message) (x : Sent) → Replies m.worker storage m.tickets message x → Says w message → IsAddressed (Server s, message) → RowMoves s m (sends m.worker m.tickets (x ∷ [])) w
  replied _ _ (is_open_already c q T x e) said to = sends-one _ (subst (λ (U : Tid). Says w (messages.Inquire U x.name)) (of-tid T m.worker x e) (mirrors.owner s m x.name x is (of-found T m.worker x up.table.rising e))) tt
  replied _ _ (votes_against T c W x a e f g) said to = sends-one _ (votes-so x.name (its_vote m.worker storage x a) g, is-part T W x e said) refl
  replied _ _ (votes_broken T c W x u R e f) said to = sends-one _ (tt, is-part T W x e said) refl
  replied _ _ (votes_again T c W x p e f g) said to = let found = by-name W m.worker x e in
      ready-again T c x found (is-part T W x e said) p (subst (λ (q : Phase). IsSoundWork ((stable (r.found s)).works x.name) x.tid q) f (up.table.sound x.name x found))
  replied _ _ (votes_lost T c W e) said to = sends-one _ (tt, said) refl
  replied _ _ (is_done_already T W e) said to = over-moves r w s m mirrors is up grow parts T W said to e
  replied message x reply said to = sends-one _ tt tt

  -- ---- every row

  -- the next operation is performed
  performs : (x : Work) (a : ActiveWork) (op : Op) (c : ClientNo) (q : RequestNo) (n : OperationNo) → work_at x.name m.worker ≡ Some x → x.phase ≡ Active a → conflict x.name (its_wants storage a op) m.worker ≡ None
      → RowMoves s m (granted_row (asked_here m.worker storage.state.files m.tickets) (asked_for c q n op) x a (its_answer storage a op) (its_wants storage a op) None) w
  performs x a op c q n found e free = record {
    atoms = atoms r w s m mirrors is up grow x a found e op free;
    may = may-op r w s m mirrors is up grow x a found e op free;
    does = subst (λ (v : Machine). DoesRow s m (granted_row (asked_here m.worker storage.state.files m.tickets) (asked_for c q n op) x a (its_answer storage a op) (its_wants storage a op) None) w v)
        (sym (op-ran r w s m mirrors is up grow x a found e op free)) (op-does r w s m mirrors is up grow x a found e op free c q n);
    stops = still-stops r w s m mirrors is up _ refl;
  }

  pub worker-row-moves : (message : Message) → Says w message → IsAddressed (Server s, message) → RowMoves s m (worker_row m.worker storage m.tickets message) w
  worker-row-moves message = by message (worker_row m.worker storage m.tickets message) (worker-case m.worker storage m.tickets message)
    where
      by : (message : Message) (row : RowOutcome WorkerTable) → WorkerCase m.worker storage m.tickets message row → Says w message → IsAddressed (Server s, message) → RowMoves s m row w
      by _ _ (none_done message) said to = sends-moves r w s m mirrors is up _ _ (All-nil (IsTrue w), All-nil IsAddressed)
      by _ _ (replies_only message x reply) said to = replied message x reply said to
      by _ _ (opens_anew c q T none free) said to = open-moves r w s m mirrors is up T said grow c q
      by _ _ (refuses_next c q W n op x a refusal e f l k) said to = phase-moves r w s m mirrors is up x (Active (counted a refusal)) _ [] (by-name W m.worker x e) (sym (ap working_in f)) (one (Client c, messages.Answer c q refusal) tt tt)
      by _ _ (performs_next c q W n op x a e f l k) said to = performs x a op c q n (by-name W m.worker x e) f (no-lock _ _ k)
      by _ _ (prepares_it T c W x a e f v) said to = prepare-moves r w s m mirrors is up grow parts x a (by-name W m.worker x e) f T c (is-part T W x e said) (no-conflict _ _ v)
      by _ _ (marks_it T W x p e f g) said to = mark-moves r w s m mirrors is up grow parts T W said to g
      by _ _ (drops_it T W x e f) said to = lose-moves r w s m mirrors is up grow inv T W said to
      by _ _ (removes_it T W x p e f g) said to = let sound = subst (λ (q : Phase). IsSoundWork ((stable (r.found s)).works W) x.tid q) f (up.table.sound W x e) in drop-moves r w s m mirrors is up grow inv T W said to sound.work sound.is
