-- An operation that is granted, as steps of the machine: the works that break are lost, and the operation is performed.
use Rattle.jn_system_order.proofs.Common.{◌≡◌, ◌≢◌, ◌⊎◌, inl, inr, Bool, true, false, List, [], ◌∷◌, ◌++◌, Option, Some, None, refl, sym, ◌∙◌, ap, subst, arith, ◌||◌, if◌then◌else◌, All-nil, All-cons, ServerNo, ClientNo, WorkId, LockUnit, Client, Op, Answer, work_eq, work_tells, change, answer_to, list_change, Read, Commit, is_unit, Message, Work, Phase, Active, ActiveWork, StableState, Prepared, at_work, stable, WorkerTable, work_at, wants_of, units_for, is_fit, after_grant, with_phase, granted_row, conflict, holds, HoldsForCommit, HasRead, file_unit, Machine, Working, Atom, Perform, perform, run, MayRun, MayPerform, Says, World, Memory, UpFact, TableFact, IsSoundWork, IsSoundActive, Mirrors, IsTrue, IsAddressed, working_of, working_in, next_in, Regrants, granted, done-keeps, Entry, entry-of, with_units-is, RequestNo, OperationNo, asked_for, asked_here}
use Rattle.jn_order.specs.Answers.{Answered}
use Rattle.jn_msgs.specs.declared.message.Message.TheVariants as messages
use Rattle.jn_rows.specs.Worker.{done}
use Rattle.jn_system_order.proofs.Mirroring.Performed.{done-changes, wants-asked}
use Rattle.jn_system_order.proofs.Mirroring.Losing.{loses, lost, lose_all, run-loses, run-append, may-lose}
use Rattle.jn_system_order.proofs.Mirroring.GrantMoves.{found-here, found-same, broken, its-server, own-now, left-own, left-here, left-elsewhere, elsewhere-other, owner-now}
use Rattle.jn_system_order.proofs.Mirroring.Mirrored.{DoesRow}

false-unless : (b : Bool) → (b ≡ true → ⊥) → b ≡ false
false-unless b h = grind arith

left : (a b : Bool) → a ≡ true → (a || b) ≡ true
left a b h = grind arith

right : (a b : Bool) → b ≡ true → (a || b) ≡ true
right a b h = grind arith

-- no active work has read what a prepared one holds for commit
pub reads-free : (t : WorkerTable) (k : _) (stored : WorkId → Option Prepared) → TableFact t k stored → (N : WorkId) (x : Work) (a : ActiveWork) → work_at N t ≡ Some x → x.phase ≡ Active a
    → (V : WorkId) (q : Prepared) → stored V ≡ Some q → (u : LockUnit) → HoldsForCommit q.list u → is_unit a.reads u ≡ false
reads-free t k stored fact N x a found active V q e u held = false-unless (is_unit a.reads u) (λ h. no (apart h))
  where
    entry : Entry t stored V q
    entry = entry-of t k stored fact V q e

    no : false ≡ true → ⊥
    no h = grind arith

    other : V ≢ N
    other same = clash (subst (λ (U : WorkId). stored U ≡ Some q) same e) (subst (λ (p : Phase). IsSoundWork (stored N) x.tid p) active (fact.sound N x found)).not_stored
      where
        clash : stored N ≡ Some q → stored N ≡ None → ⊥
        clash f g = none (sym g ∙ f)
          where
            none : None ≡ Some q → ⊥
            none z = cc

    apart : is_unit a.reads u ≡ true → false ≡ true
    apart h = fact.apart V N entry.work x entry.found found other u Commit Read
        (subst (λ (p : Phase). holds p u Commit ≡ true) (sym entry.phase) (entry.covers u held)) (subst (λ (p : Phase). holds p u Read ≡ true) (sym active) h)

module _ (r : World) (w : Machine) (s : ServerNo) (m : Memory) (mirrors : Mirrors r w) (is : r.memory s ≡ Some m) (up : UpFact s m (r.found s))
    (grow : (atoms : List Atom) → MayRun atoms w → (message : Message) → Says w message → Says (run atoms w) message)
    (x : Work) (a : ActiveWork) (found : work_at x.name m.worker ≡ Some x) (active : x.phase ≡ Active a) (op : Op) where
  -- what the files that the work sees answer
  abbrev pub its-answer : Answer
  its-answer = answer_to op (change (list_change a.list) (stable (r.found s)).files)

  abbrev pub answered : Answered
  answered = record { op = op; answer = its-answer }

  abbrev pub after-op : ActiveWork
  after-op = done a op its-answer (wants_of op (is_fit its-answer))

  abbrev pub working : Working
  working = record { list = after-op.list; reads = after-op.reads }

  abbrev pub now : WorkerTable
  now = with_phase x.name (Active after-op) (after_grant x.tid x.name (wants_of op (is_fit its-answer)) m.worker)

  module _ (free : conflict x.name (wants_of op (is_fit its-answer)) m.worker ≡ None) where
    pub g : Regrants x.name (wants_of op (is_fit its-answer)) (Active after-op) m.worker now
    g = granted x.tid x.name (wants_of op (is_fit its-answer)) (Active after-op) m.worker free

    fact : TableFact now m.tickets (stable (r.found s)).works
    fact = done-keeps x.name x m.worker m.tickets (stable (r.found s)).works up.table found a op its-answer active free

    abbrev pub breaks : List WorkId
    breaks = broken r w s m mirrors is up x.name x (wants_of op (is_fit its-answer)) (Active after-op) now found g

    abbrev pub atoms : List Atom
    atoms = loses breaks ++ Perform x.name answered working ∷ []

    abbrev pub performed-world : Machine
    performed-world = perform x.name answered working (lose_all breaks w)

    server : x.name.server ≡ s
    server = its-server r w s m mirrors is up x.name x (wants_of op (is_fit its-answer)) (Active after-op) now found g

    mine : work_at x.name now ≡ Some (record x { phase = Active after-op })
    mine = own-now r w s m mirrors is up x.name x (wants_of op (is_fit its-answer)) (Active after-op) now found g

    sound : IsSoundActive ((stable (r.found s)).works x.name) after-op
    sound = fact.sound x.name (record x { phase = Active after-op }) mine

    sound-before : IsSoundActive ((stable (r.found s)).works x.name) a
    sound-before = subst (λ (p : Phase). IsSoundWork ((stable (r.found s)).works x.name) x.tid p) active (up.table.sound x.name x found)

    may-perform : MayPerform (lose_all breaks w) x.name answered working
    may-perform = record {
      before = record { list = a.list; reads = a.reads };
      is = left-own r w s m mirrors is up x.name x (wants_of op (is_fit its-answer)) (Active after-op) now found g ∙ ap working_in active;
      list = λ u. ap (λ c. c u) (done-changes op a.list (change (list_change a.list) (stable (r.found s)).files) sound-before.in_order);
      kept = λ u h. with_units-is (units_for Read (wants_of op (is_fit its-answer))) a.reads u ∙ right (is_unit (units_for Read (wants_of op (is_fit its-answer))) u) (is_unit a.reads u) h;
      reads = λ u h. with_units-is (units_for Read (wants_of op (is_fit its-answer))) a.reads u ∙ left (is_unit (units_for Read (wants_of op (is_fit its-answer))) u) (is_unit a.reads u) (wants-asked op its-answer u h);
      reads_files = λ u h. files u h;
      seen = λ n. false;
      answers = ap (λ (z : StableState). answer_to op (change (list_change a.list) z.files)) (sym (found-here r w s m mirrors is up x.name.server (λ n. false) server));
      no_commit = λ c V q e u held. reads-free now m.tickets (stable (r.found s)).works fact x.name (record x { phase = Active after-op }) after-op mine refl V q
          (sym (ap (λ (z : StableState). z.works V) (found-here r w s m mirrors is up x.name.server c server)) ∙ e) u held;
    }
      where
        files : (u : LockUnit) → HasRead after-op.reads u ⊎ HoldsForCommit after-op.list u → HasRead after-op.reads (file_unit u)
        files u (inl h) = sound.files u (inl h)
        files u (inr h) = sound.files u (inr (sound.covers u h))

    ran : run atoms w ≡ performed-world
    ran = run-append (loses breaks) (Perform x.name answered working ∷ []) w ∙ ap (λ (v : Machine). perform x.name answered working v) (run-loses breaks w)

    pub may-op : MayRun atoms w
    may-op = may-lose breaks (Perform x.name answered working ∷ []) w
        (subst (λ (v : Machine). MayRun (Perform x.name answered working ∷ []) v) (sym (run-loses breaks w)) (may-perform, tt))

    performed-here : (V : WorkId) → V.server ≡ s → performed-world.active V ≡ working_of (work_at V now)
    performed-here V e = by (work_tells x.name V)
      where
        by : ((work_eq x.name V ≡ true) × (x.name ≡ V)) ⊎ ((work_eq x.name V ≡ false) × (x.name ≢ V)) → at_work (lost breaks w.active) x.name (Some working) V ≡ working_of (work_at V now)
        by (inl p) = ap (λ (b : Bool). if b then Some working else lost breaks w.active V) p.0 ∙ subst (λ (U : WorkId). Some working ≡ working_of (work_at U now)) p.1 (sym (ap working_of mine))
        by (inr p) = ap (λ (b : Bool). if b then Some working else lost breaks w.active V) p.0
            ∙ left-here r w s m mirrors is up x.name x (wants_of op (is_fit its-answer)) (Active after-op) now found g V p.1 e

    performed-elsewhere : (V : WorkId) → s ≢ V.server → performed-world.active V ≡ w.active V
    performed-elsewhere V ne = by (work_tells x.name V)
      where
        by : ((work_eq x.name V ≡ true) × (x.name ≡ V)) ⊎ ((work_eq x.name V ≡ false) × (x.name ≢ V)) → at_work (lost breaks w.active) x.name (Some working) V ≡ w.active V
        by (inl p) = absurd (elsewhere-other r w s m mirrors is up x.name x (wants_of op (is_fit its-answer)) (Active after-op) now found g V ne p.1)
        by (inr p) = ap (λ (b : Bool). if b then Some working else lost breaks w.active V) p.0
            ∙ left-elsewhere r w s m mirrors is up x.name x (wants_of op (is_fit its-answer)) (Active after-op) now found g V ne

    grown : (message : Message) → Says w message → Says performed-world message
    grown message h = subst (λ (v : Machine). Says v message) ran (grow atoms may-op message h)

    pub op-does : (c : ClientNo) (request : RequestNo) (number : OperationNo) → DoesRow s m (granted_row (asked_here m.worker (stable (r.found s)).files m.tickets) (asked_for c request number op) x a its-answer (wants_of op (is_fit its-answer)) None) w performed-world
    op-does c request number = record {
      up = λ q. refl;
      found = λ q p. found-same r w s m mirrors is up q p;
      here = performed-here;
      elsewhere = performed-elsewhere;
      next_here = λ V e. mirrors.next V ∙ ap (λ (q : ServerNo). next_in (r.memory q) V) e ∙ ap (λ o. next_in o V) is;
      next_elsewhere = λ V ne. refl;
      ticket_here = mirrors.ticket s m is;
      ticket_elsewhere = λ q ne. refl;
      knowledge = λ T. refl;
      history = refl;
      ended = refl;
      owner = λ V v h. grown (messages.Inquire v.tid V) (owner-now r w s m mirrors is up x.name x (wants_of op (is_fit its-answer)) (Active after-op) now found g V v h);
      grows = grown;
      says = All-cons (IsTrue performed-world) (Client c, messages.Answer c request its-answer) [] tt (All-nil (IsTrue performed-world));
      addressed = All-cons IsAddressed (Client c, messages.Answer c request its-answer) [] tt (All-nil IsAddressed);
    }

    pub op-ran : run atoms w ≡ performed-world
    op-ran = ran
