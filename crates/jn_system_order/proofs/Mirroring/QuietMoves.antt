-- Rows that change no stable state and no active work, and the opening of a work, as steps of the machine.
use Rattle.jn_system_order.proofs.Common.{◌≡◌, ◌≢◌, ◌⊎◌, inl, inr, ◌+◌, Bool, true, false, List, [], ◌∷◌, ◌++◌, Some, is_some, refl, sym, ◌∙◌, ap, subst, if◌then◌else◌, All, All-nil, All-cons, ServerNo, ClientNo, Tid, WorkId, Client, server_eq, work_eq, server_tells, work_tells, Message, Note, Work, Phase, StableState, Pick, at_work, RowOutcome, Sent, WorkerTable, work_at, with_phase, new_work, at-more, at-phase, in_phase, work_is, Machine, Atom, open_work, run, MayRun, Says, World, Memory, UpFact, of_worker, Mirrors, IsTrue, IsAddressed, working_of, working_in, next_in, RequestNo, Left, left_of, left-none}
use Rattle.jn_msgs.specs.declared.message.Message.TheVariants as messages
use Rattle.jn_rows.specs.Worker.{name_from}
use Rattle.jn_system.specs.SmallSteps.Steps.{Open}
use Rattle.jn_system_order.proofs.Mirroring.GrantMoves.{active-here, found-here, found-same}
use Rattle.jn_system_order.proofs.Mirroring.Mirrored.{DoesRow, DoesStop, DoesServer, StopsServer, named_by, worker-does, worker-stops}

-- steps of the machine that may come, and change what a stopped row has changed
pub record StopMoves (s : ServerNo) (row : RowOutcome WorkerTable) (made : Pick → Left) (w : Machine) : Type 0 where
  pub atoms : List Atom
  pub may : MayRun atoms w
  pub does : DoesStop s row made w (run atoms w)

-- steps of the machine that may come, and do what the row does
pub record RowMoves (s : ServerNo) (m : Memory) (row : RowOutcome WorkerTable) (w : Machine) : Type 0 where
  pub atoms : List Atom
  pub may : MayRun atoms w
  pub does : DoesRow s m row w (run atoms w)
  -- and where it is stopped
  pub stops : (made : Pick → Left) → StopMoves s row made w

-- the same of a row of both tables
pub record ServerStops (s : ServerNo) (row : RowOutcome Memory) (made : Pick → Left) (w : Machine) : Type 0 where
  pub atoms : List Atom
  pub may : MayRun atoms w
  pub does : StopsServer s row made w (run atoms w)

pub record ServerMoves (s : ServerNo) (row : RowOutcome Memory) (w : Machine) : Type 0 where
  pub atoms : List Atom
  pub may : MayRun atoms w
  pub does : DoesServer s row w (run atoms w)
  pub stops : (made : Pick → Left) → ServerStops s row made w

pub worker-moves : (r : World) (w : Machine) (s : ServerNo) (m : Memory) (row : RowOutcome WorkerTable) → Mirrors r w → r.memory s ≡ Some m → named_by row.notes ≡ [] → RowMoves s m row w → ServerMoves s (of_worker m row) w
worker-moves r w s m row mirrors is none moves = record {
  atoms = moves.atoms;
  may = moves.may;
  does = worker-does r w (run moves.atoms w) s m row mirrors is none moves.does;
  stops = λ made. let stop = moves.stops made in record { atoms = stop.atoms; may = stop.may; does = worker-stops s m row made w (run stop.atoms w) stop.does };
}

some-same : {A : Type 0} → (a b : A) → Some a ≡ Some b → a ≡ b
some-same a b e = cc

module _ (r : World) (w : Machine) (s : ServerNo) (m : Memory) (mirrors : Mirrors r w) (is : r.memory s ≡ Some m) (up : UpFact s m (r.found s)) where
  -- true, and to the right server
  abbrev pub AllGood : List Sent → Type 0
  AllGood sent = All (IsTrue w) sent × All IsAddressed sent

  none-made : (l : Left) (x : StableState) → x ≡ left_of l [] x
  none-made l x = sym (left-none l x)

  -- a row without a change that is stopped
  pub still-stops : (row : RowOutcome WorkerTable) → row.changes ≡ [] → (made : Pick → Left) → StopMoves s row made w
  still-stops row e made = record {
    atoms = [];
    may = tt;
    does = record {
      up = λ q. refl;
      found = λ q c. found-same r w s m mirrors is up q c ∙ ap (λ x. if server_eq s q then x else w.found q c) (none-made (made c) (w.found s c) ∙ ap (λ cs. left_of (made c) cs (w.found s c)) (sym e));
      elsewhere = λ W ne. refl;
      next = λ W ne. refl;
      ticket = λ q ne. refl;
      knowledge = λ T ne. refl;
      history = refl;
      ended = refl;
      grows = λ message h. h;
    };
  }

  -- the same works are active, for the same transactions
  pub quiet-moves : (now : WorkerTable) (sent : List Sent) (notes : List Note) → ((V : WorkId) → working_of (work_at V now) ≡ working_of (work_at V m.worker))
      → ((V : WorkId) (v : Work) → work_at V now ≡ Some v → Says w (messages.Inquire v.tid V)) → AllGood sent
      → RowMoves s m (record { table = now; changes = []; messages = sent; notes = notes; tickets = m.tickets }) w
  quiet-moves now sent notes same owner says = record {
    atoms = [];
    may = tt;
    does = record {
      up = λ q. refl;
      found = λ q c. found-same r w s m mirrors is up q c;
      here = λ V e. active-here r w s m mirrors is up V e ∙ sym (same V);
      elsewhere = λ V ne. refl;
      next_here = λ V e. mirrors.next V ∙ ap (λ (q : ServerNo). next_in (r.memory q) V) e ∙ ap (λ o. next_in o V) is;
      next_elsewhere = λ V ne. refl;
      ticket_here = mirrors.ticket s m is;
      ticket_elsewhere = λ q ne. refl;
      knowledge = λ T. refl;
      history = refl;
      ended = refl;
      owner = owner;
      grows = λ message h. h;
      says = says.0;
      addressed = says.1;
    };
    stops = still-stops _ refl;
  }

  pub sends-moves : (sent : List Sent) (notes : List Note) → AllGood sent → RowMoves s m (record { table = m.worker; changes = []; messages = sent; notes = notes; tickets = m.tickets }) w
  sends-moves sent notes says = quiet-moves m.worker sent notes (λ V. refl) (λ V v h. mirrors.owner s m V v is h) says

  -- a work in another phase, in which it is active or not as before
  pub phase-moves : (x : Work) (phase : Phase) (sent : List Sent) (notes : List Note) → work_at x.name m.worker ≡ Some x → working_in phase ≡ working_in x.phase → AllGood sent
      → RowMoves s m (record { table = with_phase x.name phase m.worker; changes = []; messages = sent; notes = notes; tickets = m.tickets }) w
  phase-moves x phase sent notes found same says = quiet-moves (with_phase x.name phase m.worker) sent notes
      (λ V. ap working_of (at-phase V x.name phase m.worker) ∙ still V (work_eq x.name V) refl)
      (λ V v h. owner V v (work_eq x.name V) refl (sym (at-phase V x.name phase m.worker) ∙ h)) says
    where
      here : (V : WorkId) → work_eq x.name V ≡ true → work_at V m.worker ≡ Some x
      here V e = subst (λ (U : WorkId). work_at U m.worker ≡ Some x) (work_is x.name V e) found

      still : (V : WorkId) (b : Bool) → work_eq x.name V ≡ b → working_of (if b then in_phase phase (work_at V m.worker) else work_at V m.worker) ≡ working_of (work_at V m.worker)
      still V true e = ap (λ o. working_of (in_phase phase o)) (here V e) ∙ same ∙ sym (ap working_of (here V e))
      still V false e = refl

      owner : (V : WorkId) (v : Work) (b : Bool) → work_eq x.name V ≡ b → (if b then in_phase phase (work_at V m.worker) else work_at V m.worker) ≡ Some v → Says w (messages.Inquire v.tid V)
      owner V v true e h = subst (λ (y : Work). Says w (messages.Inquire y.tid V)) (some-same (record x { phase = phase }) v (sym (ap (in_phase phase) (here V e)) ∙ h)) (mirrors.owner s m V x is (here V e))
      owner V v false e h = mirrors.owner s m V v is h

  -- a new work
  module _ (T : Tid) (begun : w.begun T ≡ true) (grow : (atoms : List Atom) → MayRun atoms w → (message : Message) → Says w message → Says (run atoms w) message) where
    abbrev machine : Machine
    machine = open_work (name_from m.tickets) T w

    may-open : MayRun (Open (name_from m.tickets) T ∷ []) w
    may-open = (
      record {
        up = mirrors.up m.tickets.server ∙ ap (λ (q : ServerNo). is_some (r.memory q)) up.server ∙ ap is_some is;
        begun = begun;
        ticket = sym (ap w.ticket up.server ∙ mirrors.ticket s m is);
        epoch = λ c. up.epoch ∙ sym (ap (λ x. x.epoch) (found-here r w s m mirrors is up m.tickets.server c up.server));
      },
      tt,
    )

    here-or : (V : WorkId) → ((work_eq (name_from m.tickets) V ≡ true) × (name_from m.tickets ≡ V)) ⊎ ((work_eq (name_from m.tickets) V ≡ false) × (name_from m.tickets ≢ V)) → V.server ≡ s
        → at_work w.active (name_from m.tickets) (Some (record { list = []; reads = [] })) V ≡ working_of (if work_eq (name_from m.tickets) V then Some (new_work (name_from m.tickets) T) else work_at V m.worker)
    here-or V (inl p) e = ap (λ (b : Bool). if b then Some (record { list = []; reads = [] }) else w.active V) p.0 ∙ sym (ap (λ (b : Bool). working_of (if b then Some (new_work (name_from m.tickets) T) else work_at V m.worker)) p.0)
    here-or V (inr p) e = ap (λ (b : Bool). if b then Some (record { list = []; reads = [] }) else w.active V) p.0 ∙ active-here r w s m mirrors is up V e
        ∙ sym (ap (λ (b : Bool). working_of (if b then Some (new_work (name_from m.tickets) T) else work_at V m.worker)) p.0)

    there : (V : WorkId) → s ≢ V.server → ((work_eq (name_from m.tickets) V ≡ true) × (name_from m.tickets ≡ V)) ⊎ ((work_eq (name_from m.tickets) V ≡ false) × (name_from m.tickets ≢ V))
        → at_work w.active (name_from m.tickets) (Some (record { list = []; reads = [] })) V ≡ w.active V
    there V ne (inl p) = absurd (ne (sym up.server ∙ ap (λ (U : WorkId). U.server) p.1))
    there V ne (inr p) = ap (λ (b : Bool). if b then Some (record { list = []; reads = [] }) else w.active V) p.0

    ticket-here : machine.ticket s ≡ m.tickets.next + 1
    ticket-here = by (server_tells m.tickets.server s)
      where
        by : ((server_eq m.tickets.server s ≡ true) × (m.tickets.server ≡ s)) ⊎ ((server_eq m.tickets.server s ≡ false) × (m.tickets.server ≢ s)) → (if server_eq m.tickets.server s then w.ticket m.tickets.server + 1 else w.ticket s) ≡ m.tickets.next + 1
        by (inl p) = ap (λ (b : Bool). if b then w.ticket m.tickets.server + 1 else w.ticket s) p.0 ∙ ap (λ n. n + 1) (ap w.ticket p.1 ∙ mirrors.ticket s m is)
        by (inr p) = absurd (p.1 up.server)

    ticket-there : (q : ServerNo) → s ≢ q → machine.ticket q ≡ w.ticket q
    ticket-there q ne = by (server_tells m.tickets.server q)
      where
        by : ((server_eq m.tickets.server q ≡ true) × (m.tickets.server ≡ q)) ⊎ ((server_eq m.tickets.server q ≡ false) × (m.tickets.server ≢ q)) → (if server_eq m.tickets.server q then w.ticket m.tickets.server + 1 else w.ticket q) ≡ w.ticket q
        by (inl p) = absurd (ne (sym up.server ∙ p.1))
        by (inr p) = ap (λ (b : Bool). if b then w.ticket m.tickets.server + 1 else w.ticket q) p.0

    opened-now : Says machine (messages.Inquire T (name_from m.tickets))
    opened-now = (by (work_tells (name_from m.tickets) (name_from m.tickets)), of (work_tells (name_from m.tickets) (name_from m.tickets)))
      where
        by : ((work_eq (name_from m.tickets) (name_from m.tickets) ≡ true) × (name_from m.tickets ≡ name_from m.tickets)) ⊎ ((work_eq (name_from m.tickets) (name_from m.tickets) ≡ false) × (name_from m.tickets ≢ name_from m.tickets))
            → at_work w.opened (name_from m.tickets) true (name_from m.tickets) ≡ true
        by (inl p) = ap (λ (b : Bool). if b then true else w.opened (name_from m.tickets)) p.0
        by (inr p) = absurd (p.1 refl)

        of : ((work_eq (name_from m.tickets) (name_from m.tickets) ≡ true) × (name_from m.tickets ≡ name_from m.tickets)) ⊎ ((work_eq (name_from m.tickets) (name_from m.tickets) ≡ false) × (name_from m.tickets ≢ name_from m.tickets))
            → at_work w.owner (name_from m.tickets) T (name_from m.tickets) ≡ T
        of (inl p) = ap (λ (b : Bool). if b then T else w.owner (name_from m.tickets)) p.0
        of (inr p) = absurd (p.1 refl)

    owner-now : (V : WorkId) (v : Work) → work_at V (m.worker ++ new_work (name_from m.tickets) T ∷ []) ≡ Some v → Says machine (messages.Inquire v.tid V)
    owner-now V v h = by (work_tells (name_from m.tickets) V) (sym (at-more V m.worker (new_work (name_from m.tickets) T) up.table.before) ∙ h)
      where
        by : ((work_eq (name_from m.tickets) V ≡ true) × (name_from m.tickets ≡ V)) ⊎ ((work_eq (name_from m.tickets) V ≡ false) × (name_from m.tickets ≢ V))
            → (if work_eq (name_from m.tickets) V then Some (new_work (name_from m.tickets) T) else work_at V m.worker) ≡ Some v → Says machine (messages.Inquire v.tid V)
        by (inl p) e = subst (λ (y : Work). Says machine (messages.Inquire y.tid V)) (some-same (new_work (name_from m.tickets) T) v (subst (λ (b : Bool). (if b then Some (new_work (name_from m.tickets) T) else work_at V m.worker) ≡ Some v) p.0 e))
            (subst (λ (U : WorkId). Says machine (messages.Inquire T U)) p.1 opened-now)
        by (inr p) e = grow (Open (name_from m.tickets) T ∷ []) may-open (messages.Inquire v.tid V)
            (mirrors.owner s m V v is (subst (λ (b : Bool). (if b then Some (new_work (name_from m.tickets) T) else work_at V m.worker) ≡ Some v) p.0 e))

    pub open-moves : (c : ClientNo) (request : RequestNo) → RowMoves s m (record {
      table = m.worker ++ new_work (name_from m.tickets) T ∷ [];
      changes = [];
      messages = (Client c, messages.Opened c request T (Some (name_from m.tickets))) ∷ [];
      notes = [];
      tickets = record m.tickets { next = m.tickets.next + 1 };
    }) w
    open-moves c request = record {
      atoms = Open (name_from m.tickets) T ∷ [];
      may = may-open;
      does = record {
        up = λ q. refl;
        found = λ q p. found-same r w s m mirrors is up q p;
        here = λ V e. here-or V (work_tells (name_from m.tickets) V) e ∙ sym (ap working_of (at-more V m.worker (new_work (name_from m.tickets) T) up.table.before));
        elsewhere = λ V ne. there V ne (work_tells (name_from m.tickets) V);
        next_here = λ V e. mirrors.next V ∙ ap (λ (q : ServerNo). next_in (r.memory q) V) e ∙ ap (λ o. next_in o V) is;
        next_elsewhere = λ V ne. refl;
        ticket_here = ticket-here;
        ticket_elsewhere = ticket-there;
        knowledge = λ U. refl;
        history = refl;
        ended = refl;
        owner = owner-now;
        grows = λ message h. grow (Open (name_from m.tickets) T ∷ []) may-open message h;
        says = All-cons (IsTrue machine) (Client c, messages.Opened c request T (Some (name_from m.tickets))) [] opened-now (All-nil (IsTrue machine));
        addressed = All-cons IsAddressed (Client c, messages.Opened c request T (Some (name_from m.tickets))) [] tt (All-nil IsAddressed);
      };
      stops = still-stops _ refl;
    }
