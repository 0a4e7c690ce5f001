-- A work that is prepared, as steps of the machine: the works that break are lost, and the work goes to the stable state.
use Rattle.jn_system_order.proofs.Common.{◌≡◌, ◌≢◌, ◌⊎◌, inl, inr, Bool, true, false, List, [], ◌∷◌, ◌++◌, Option, Some, None, is_some, refl, sym, ◌∙◌, ap, subst, arith, if◌then◌else◌, All-nil, All-cons, ServerNo, ClientNo, Tid, WorkId, LockUnit, Server, server_eq, work_eq, server_tells, work_tells, Read, Commit, is_unit, Message, Work, Phase, Active, Broken, Stored, ActiveWork, StableState, Prepared, Pick, AddReady, made_by, at_work, stable, ready_work, WorkerTable, work_at, commit_wants, after_grant, with_phase, prepared_row, conflict, commit_units, HoldsForCommit, Machine, Working, PartFact, Atom, Prepare, NoteReady, always, run, MayRun, MayPrepare, Says, IsPartOf, World, Memory, UpFact, TableFact, StoredFact, IsSoundWork, IsSoundActive, Mirrors, IsTrue, IsAddressed, working_of, working_in, next_in, Regrants, granted, prepared-keeps, stored-fact, Left}
use Rattle.jn_system.specs.SmallSteps.Steps.{after}
use Rattle.jn_records.specs.declared.work.WorkHead.{WorkHead}
use Rattle.jn_msgs.specs.declared.message.Message.TheVariants as messages
use Rattle.jn_msgs.specs.declared.message.Vote.TheVariants as votes
use Rattle.jn_system_order.proofs.Mirroring.Losing.{loses, lost, lose_all, run-loses, run-append, may-lose}
use Rattle.jn_system_order.proofs.Mirroring.GrantMoves.{found-here, broken, its-server, own-now, left-own, left-here, left-elsewhere, elsewhere-other, owner-now}
use Rattle.jn_system_order.proofs.Mirroring.OpMoves.{reads-free}
use Rattle.jn_system_order.proofs.Mirroring.Mirrored.{some_made, left-one, DoesRow, DoesStop}
use Rattle.jn_system_order.proofs.Mirroring.QuietMoves.{RowMoves}

false-unless : (b : Bool) → (b ≡ true → ⊥) → b ≡ false
false-unless b h = grind arith

not-true : false ≡ true → ⊥
not-true h = grind arith

-- an active work's entry
active-entry : (o : Option Work) (a : Working) → working_of o ≡ Some a → (y : Work) × (b : ActiveWork) × (o ≡ Some y) × (y.phase ≡ Active b) × (a.reads ≡ b.reads)
active-entry None a h = absurd (grind arith)
active-entry (Some y) a h = by y.phase refl
  where
    by : (p : Phase) → y.phase ≡ p → (z : Work) × (b : ActiveWork) × (Some y ≡ Some z) × (z.phase ≡ Active b) × (a.reads ≡ b.reads)
    by (Active b) e = (y, b, refl, e, ap (λ (z : Working). z.reads) (sym (same (subst (λ (p : Phase). working_in p ≡ Some a) e h))))
      where
        same : Some (record { list = b.list; reads = b.reads }) ≡ Some a → record { list = b.list; reads = b.reads } ≡ a
        same q = cc
    by (Broken u T) e = absurd (none (subst (λ (p : Phase). working_in p ≡ Some a) e h))
      where
        none : None ≡ Some a → ⊥
        none q = cc
    by (Stored p) e = absurd (none (subst (λ (p : Phase). working_in p ≡ Some a) e h))
      where
        none : None ≡ Some a → ⊥
        none q = cc

module _ (r : World) (w : Machine) (s : ServerNo) (m : Memory) (mirrors : Mirrors r w) (is : r.memory s ≡ Some m) (up : UpFact s m (r.found s))
    (grow : (atoms : List Atom) → MayRun atoms w → (message : Message) → Says w message → Says (run atoms w) message) (parts : PartFact w)
    (x : Work) (a : ActiveWork) (found : work_at x.name m.worker ≡ Some x) (active : x.phase ≡ Active a)
    (T : Tid) (c : ClientNo) (said : IsPartOf w T x.name) (free : conflict x.name (commit_wants a.writes) m.worker ≡ None) where
  abbrev phase : Phase
  phase = Stored (record { reads = a.reads; writes = a.writes })

  abbrev now : WorkerTable
  now = with_phase x.name phase (after_grant x.tid x.name (commit_wants a.writes) m.worker)

  abbrev head : WorkHead
  head = record { work = x.name; tid = x.tid; client = c }

  abbrev ready : Prepared
  ready = ready_work head a.list a.reads

  abbrev before : StableState
  before = stable (r.found s)

  abbrev stored : WorkId → Option Prepared
  stored = at_work before.works x.name (Some ready)

  g : Regrants x.name (commit_wants a.writes) phase m.worker now
  g = granted x.tid x.name (commit_wants a.writes) phase m.worker free

  here-is : stored x.name ≡ Some ready
  here-is = grind (arith, work_tells x.name x.name)

  there-is : (V : WorkId) → x.name ≢ V → stored V ≡ before.works V
  there-is V ne = grind (arith, work_tells x.name V)

  fact : TableFact now m.tickets stored
  fact = prepared-keeps x.name x m.worker m.tickets before.works up.table found a stored ready active free there-is here-is refl refl refl

  all-stored : StoredFact s m.tickets.epoch stored
  all-stored = stored-fact s now m.tickets m.tickets.epoch stored fact up.server refl

  sound : IsSoundActive (before.works x.name) a
  sound = subst (λ (p : Phase). IsSoundWork (before.works x.name) x.tid p) active (up.table.sound x.name x found)

  abbrev breaks : List WorkId
  breaks = broken r w s m mirrors is up x.name x (commit_wants a.writes) phase now found g

  abbrev atoms : List Atom
  atoms = loses breaks ++ Prepare always head a.list a.reads ∷ NoteReady x.name ∷ []

  abbrev prepared-world : Machine
  prepared-world = run (Prepare always head a.list a.reads ∷ NoteReady x.name ∷ []) (lose_all breaks w)

  server : x.name.server ≡ s
  server = its-server r w s m mirrors is up x.name x (commit_wants a.writes) phase now found g

  state : (c : Pick) → w.found x.name.server c ≡ before
  state c = found-here r w s m mirrors is up x.name.server c server

  owner : w.owner x.name ≡ x.tid
  owner = (mirrors.owner s m x.name x is found).1

  transaction : T ≡ x.tid
  transaction = sym (parts T x.name.server x.name said.1).owner ∙ owner

  other : (V : WorkId) (q : Prepared) → before.works V ≡ Some q → x.name ≢ V
  other V q e same = none (sym (subst (λ (U : WorkId). before.works U ≡ None) same sound.not_stored) ∙ e)
    where
      none : None ≡ Some q → ⊥
      none z = cc

  -- what this work holds for commit no other stable work holds, and the other way round
  apart : (V : WorkId) (q : Prepared) → before.works V ≡ Some q → (u : LockUnit) → HoldsForCommit a.list u → (is_unit (commit_units q.list) u ≡ false) × (is_unit q.reads u ≡ false)
  apart V q e u h = let ne = other V q e in let f = there-is V ne ∙ e in (
    false-unless (is_unit (commit_units q.list) u) (λ k. not-true (all-stored.apart x.name V ready q here-is f ne u Commit Commit h k)),
    false-unless (is_unit q.reads u) (λ k. not-true (all-stored.apart x.name V ready q here-is f ne u Commit Read h k)),
  )

  apart-from : (V : WorkId) (q : Prepared) → before.works V ≡ Some q → (u : LockUnit) → HoldsForCommit q.list u → (is_unit (commit_units a.list) u ≡ false) × (is_unit a.reads u ≡ false)
  apart-from V q e u h = let ne = other V q e in let f = there-is V ne ∙ e in (
    false-unless (is_unit (commit_units a.list) u) (λ k. not-true (all-stored.apart x.name V ready q here-is f ne u Commit Commit k h)),
    false-unless (is_unit a.reads u) (λ k. not-true (all-stored.apart x.name V ready q here-is f ne u Read Commit k h)),
  )

  unread : (V : WorkId) (b : Working) → lost breaks w.active V ≡ Some b → x.name ≢ V → V.server ≡ x.name.server → (u : LockUnit) → HoldsForCommit a.list u → is_unit b.reads u ≡ false
  unread V b e ne at u h =
      let entry = active-entry (work_at V now) b (sym (left-here r w s m mirrors is up x.name x (commit_wants a.writes) phase now found g V ne (at ∙ server)) ∙ e) in
      subst (λ us. is_unit us u ≡ false) (sym entry.4) (reads-free now m.tickets stored fact V entry.0 entry.1 entry.2 entry.3 x.name ready here-is u h)

  may-prepare : (p : Pick) → MayPrepare (lose_all breaks w) ((lose_all breaks w).found x.name.server p) head a.list a.reads
  may-prepare p = record {
    active = left-own r w s m mirrors is up x.name x (commit_wants a.writes) phase now found g ∙ ap working_in active;
    tid = sym owner;
    part = subst (λ (U : Tid). w.part U x.name.server ≡ Some x.name) transaction said.1;
    mine = λ V q e u h. apart V q (sym (ap (λ (z : StableState). z.works V) (state p)) ∙ e) u h;
    others = λ V q e u h. apart-from V q (sym (ap (λ (z : StableState). z.works V) (state p)) ∙ e) u h;
    no_reader = λ V b e ne at u h. unread V b e ne at u h;
  }

  is-ready : (p : Pick) → is_some (((after (Prepare always head a.list a.reads) (lose_all breaks w)).found x.name.server p).works x.name) ≡ true
  is-ready p = by (server_tells x.name.server x.name.server) (work_tells x.name x.name)
    where
      by : ((server_eq x.name.server x.name.server ≡ true) × (x.name.server ≡ x.name.server)) ⊎ ((server_eq x.name.server x.name.server ≡ false) × (x.name.server ≢ x.name.server))
          → ((work_eq x.name x.name ≡ true) × (x.name ≡ x.name)) ⊎ ((work_eq x.name x.name ≡ false) × (x.name ≢ x.name))
          → is_some ((if server_eq x.name.server x.name.server then made_by (AddReady head a.list a.reads) (w.found x.name.server p) else w.found x.name.server p).works x.name) ≡ true
      by (inl e) (inl f) = ap (λ (b : Bool). is_some ((if b then made_by (AddReady head a.list a.reads) (w.found x.name.server p) else w.found x.name.server p).works x.name)) e.0
          ∙ ap (λ (b : Bool). is_some (if b then Some ready else (w.found x.name.server p).works x.name)) f.0
      by (inr e) f = absurd (e.1 refl)
      by (inl e) (inr f) = absurd (f.1 refl)

  may-both : MayRun (Prepare always head a.list a.reads ∷ NoteReady x.name ∷ []) (lose_all breaks w)
  may-both = (may-prepare, (is-ready, tt))

  ran : run atoms w ≡ prepared-world
  ran = run-append (loses breaks) (Prepare always head a.list a.reads ∷ NoteReady x.name ∷ []) w
      ∙ ap (λ (v : Machine). run (Prepare always head a.list a.reads ∷ NoteReady x.name ∷ []) v) (run-loses breaks w)

  may-all : MayRun atoms w
  may-all = may-lose breaks (Prepare always head a.list a.reads ∷ NoteReady x.name ∷ []) w
      (subst (λ (v : Machine). MayRun (Prepare always head a.list a.reads ∷ NoteReady x.name ∷ []) v) (sym (run-loses breaks w)) may-both)

  mine : work_at x.name now ≡ Some (record x { phase = phase })
  mine = own-now r w s m mirrors is up x.name x (commit_wants a.writes) phase now found g

  is-here : (V : WorkId) → V.server ≡ s → prepared-world.active V ≡ working_of (work_at V now)
  is-here V e = by (work_tells x.name V)
    where
      by : ((work_eq x.name V ≡ true) × (x.name ≡ V)) ⊎ ((work_eq x.name V ≡ false) × (x.name ≢ V)) → at_work (lost breaks w.active) x.name None V ≡ working_of (work_at V now)
      by (inl p) = ap (λ (b : Bool). if b then None else lost breaks w.active V) p.0 ∙ subst (λ (U : WorkId). None ≡ working_of (work_at U now)) p.1 (sym (ap working_of mine))
      by (inr p) = ap (λ (b : Bool). if b then None else lost breaks w.active V) p.0
          ∙ left-here r w s m mirrors is up x.name x (commit_wants a.writes) phase now found g V p.1 e

  is-elsewhere : (V : WorkId) → s ≢ V.server → prepared-world.active V ≡ w.active V
  is-elsewhere V ne = by (work_tells x.name V)
    where
      by : ((work_eq x.name V ≡ true) × (x.name ≡ V)) ⊎ ((work_eq x.name V ≡ false) × (x.name ≢ V)) → at_work (lost breaks w.active) x.name None V ≡ w.active V
      by (inl p) = absurd (elsewhere-other r w s m mirrors is up x.name x (commit_wants a.writes) phase now found g V ne p.1)
      by (inr p) = ap (λ (b : Bool). if b then None else lost breaks w.active V) p.0
          ∙ left-elsewhere r w s m mirrors is up x.name x (commit_wants a.writes) phase now found g V ne

  grown : (message : Message) → Says w message → Says prepared-world message
  grown message h = subst (λ (v : Machine). Says v message) ran (grow atoms may-all message h)

  was-ready : prepared-world.was_ready x.name ≡ true
  was-ready = by (work_tells x.name x.name)
    where
      by : ((work_eq x.name x.name ≡ true) × (x.name ≡ x.name)) ⊎ ((work_eq x.name x.name ≡ false) × (x.name ≢ x.name)) → at_work w.was_ready x.name true x.name ≡ true
      by (inl p) = ap (λ (b : Bool). if b then true else w.was_ready x.name) p.0
      by (inr p) = absurd (p.1 refl)

  does : DoesRow s m (prepared_row m.worker m.tickets T c x a votes.Ready) w prepared-world
  does = record {
    up = λ q. refl;
    found = λ q p. ap (λ (z : ServerNo). if server_eq z q then made_by (AddReady head a.list a.reads) (w.found z p) else w.found q p) server;
    here = is-here;
    elsewhere = is-elsewhere;
    next_here = λ V e. mirrors.next V ∙ ap (λ (q : ServerNo). next_in (r.memory q) V) e ∙ ap (λ o. next_in o V) is;
    next_elsewhere = λ V ne. refl;
    ticket_here = mirrors.ticket s m is;
    ticket_elsewhere = λ q ne. refl;
    knowledge = λ U. refl;
    history = refl;
    ended = refl;
    owner = λ V v h. grown (messages.Inquire v.tid V) (owner-now r w s m mirrors is up x.name x (commit_wants a.writes) phase now found g V v h);
    grows = grown;
    says = All-cons (IsTrue prepared-world) (Server T.server, messages.Vote T x.name votes.Ready) []
        (was-ready, grown (messages.Prepare T c x.name) said) (All-nil (IsTrue prepared-world));
    addressed = All-cons IsAddressed (Server T.server, messages.Vote T x.name votes.Ready) [] refl (All-nil IsAddressed);
  }

  -- ---- where it is stopped

  module _ (made : Pick → Left) where
    abbrev stop-atoms : List Atom
    stop-atoms = loses breaks ++ Prepare (λ p. some_made (made p).whole) head a.list a.reads ∷ []

    abbrev stopped-world : Machine
    stopped-world = after (Prepare (λ p. some_made (made p).whole) head a.list a.reads) (lose_all breaks w)

    stop-ran : run stop-atoms w ≡ stopped-world
    stop-ran = run-append (loses breaks) (Prepare (λ p. some_made (made p).whole) head a.list a.reads ∷ []) w
        ∙ ap (λ (v : Machine). after (Prepare (λ p. some_made (made p).whole) head a.list a.reads) v) (run-loses breaks w)

    may-stop : MayRun stop-atoms w
    may-stop = may-lose breaks (Prepare (λ p. some_made (made p).whole) head a.list a.reads ∷ []) w
        (subst (λ (v : Machine). MayRun (Prepare (λ p. some_made (made p).whole) head a.list a.reads ∷ []) v) (sym (run-loses breaks w)) (may-prepare, tt))

    stop-does : DoesStop s (prepared_row m.worker m.tickets T c x a votes.Ready) made w stopped-world
    stop-does = record {
      up = λ q. refl;
      found = λ q p. ap (λ (z : ServerNo). if server_eq z q then (if some_made (made p).whole then made_by (AddReady head a.list a.reads) (w.found z p) else w.found z p) else w.found q p) server
          ∙ ap (λ z. if server_eq s q then z else w.found q p) (left-one (AddReady head a.list a.reads) (made p) (w.found s p) refl);
      elsewhere = is-elsewhere;
      next = λ W ne. refl;
      ticket = λ q ne. refl;
      knowledge = λ U ne. refl;
      history = refl;
      ended = refl;
      grows = λ message h. subst (λ (v : Machine). Says v message) stop-ran (grow stop-atoms may-stop message h);
    }

  pub prepare-moves : RowMoves s m (prepared_row m.worker m.tickets T c x a votes.Ready) w
  prepare-moves = record {
    atoms = atoms;
    may = may-all;
    does = subst (λ (v : Machine). DoesRow s m (prepared_row m.worker m.tickets T c x a votes.Ready) w v) (sym ran) does;
    stops = λ made. record {
      atoms = stop-atoms made;
      may = may-stop made;
      does = subst (λ (v : Machine). DoesStop s (prepared_row m.worker m.tickets T c x a votes.Ready) made w v) (sym (stop-ran made)) (stop-does made);
    };
  }
