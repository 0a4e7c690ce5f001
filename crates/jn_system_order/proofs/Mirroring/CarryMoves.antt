-- What a worker does with a prepared work, as steps of the machine: its next intention is carried out, or it goes.
use Rattle.jn_system_order.proofs.Common.{nat_lt, nat_tests, BlockNo, ◌≡◌, ◌≢◌, ◌⊎◌, inl, inr, ℕ, suc, ◌+◌, Bool, true, false, List, [], ◌∷◌, take, Option, Some, None, is_some, refl, sym, ◌∙◌, ap, subst, arith, if◌then◌else◌, slice_get, All, All-nil, All-cons, ServerNo, Tid, WorkId, LockUnit, Server, server_eq, work_eq, server_tells, work_tells, change, or_else, or_also, Intention, intention_change, list_change, Message, Work, StableState, Prepared, Pick, CarryOut, RemoveWork, is_going, made_by, at_work, stable, RowOutcome, Sent, WorkerTable, work_at, carried_row, intentions_of, worker_step, at-less, Machine, Invariant, Atom, Count, Make, NoteOver, always, run, MayRun, MayCount, MayCarryOut, MayRemove, MayBeOver, IsPrepared, Says, take_zero, World, Memory, UpFact, Mirrors, IsTrue, IsAddressed, working_of, next_in, Room, storage_of, going-is, stored-fact, WorkerStep, carries_out, is_over, erases_rubbish, worker-step-case, Left, left_of, CarryPart, carried_at, fun_ext, zero, part-is, File, Block, Files, FilesChange, part_by}
use Rattle.jn_records.specs.declared.intention.What.{What}
use Rattle.jn_records.specs.declared.intention.What.TheVariants.{Fresh, Gone, Cut, Put}
use Rattle.jn_msgs.specs.declared.message.Message.TheVariants as messages
use Rattle.jn_rows.specs.Worker.{without}
use Rattle.jn_system_order.proofs.Mirroring.GrantMoves.{active-here, found-here}
use Rattle.jn_system_order.proofs.Mirroring.Mirrored.{some_made, left-one, DoesStop}
use Rattle.jn_system_order.proofs.Mirroring.QuietMoves.{RowMoves, sends-moves}
use Rattle.jn_system_order.proofs.Mirroring.Intended.{step-writes, step-more, take-end}

one-more : (n : ℕ) → suc n ≡ n + 1
one-more n = omega arith

-- whether a part of an intention has written a register
abbrev pub gone_at : Option (BlockNo → Bool) → What → LockUnit → Bool
gone_at (Some gone) Cut (Block f p) = gone p
gone_at _ _ _ = false

-- whether an intention has written a register where a stop has left this of it
abbrev pub is_written : Left → Intention → LockUnit → Bool
is_written l i u = if nat_lt 0 l.whole then true else gone_at l.gone i.what u

-- of a part that is gone the registers are as after the whole change
part-written : (gone : BlockNo → Bool) (what : What) (c : FilesChange) (files : Files) (u : LockUnit) → change (part_by gone what c) files u ≡ (if gone_at (Some gone) what u then change c files u else files u)
part-written gone Fresh c files u = refl
part-written gone Gone c files u = refl
part-written gone Put c files u = refl
part-written gone Cut c files (File f) = refl
part-written gone Cut c files (Block f p) = by (gone p)
  where
    by : (b : Bool) → or_else (if b then c (Block f p) else None) (files (Block f p)) ≡ (if b then or_else (c (Block f p)) (files (Block f p)) else files (Block f p))
    by true = refl
    by false = refl

left-written : (N : WorkId) (i : Intention) (l : Left) (x : StableState) → left_of l (CarryOut N i ∷ []) x ≡ carried_at (is_written l i) i x
left-written N i l x = by l.whole l.gone
  where
    by : (n : ℕ) (gone : Option (BlockNo → Bool)) → left_of (record { whole = n; gone = gone }) (CarryOut N i ∷ []) x ≡ carried_at (is_written (record { whole = n; gone = gone }) i) i x
    by (suc zero) gone = ap (λ f. record x { files = f }) (part-is gone None (change (intention_change i) x.files) (λ g u. refl))
    by (suc (suc n)) gone = ap (λ f. record x { files = f }) (part-is gone None (change (intention_change i) x.files) (λ g u. refl)
        ∙ fun_ext (λ u. sym (ap (λ (b : Bool). if (if b then true else gone_at gone i.what u) then or_else (intention_change i u) (x.files u) else x.files u) more)))
      where
        more : nat_lt 0 (suc (suc n)) ≡ true
        more = grind (arith, nat_tests)
    by zero None = ap (λ f. record x { files = f }) (fun_ext (λ u. refl))
    by zero (Some gone) = ap (λ f. record x { files = f }) (fun_ext (part-written gone i.what (intention_change i) x.files))

module _ (r : World) (w : Machine) (s : ServerNo) (m : Memory) (mirrors : Mirrors r w) (is : r.memory s ≡ Some m) (up : UpFact s m (r.found s))
    (grow : (atoms : List Atom) → MayRun atoms w → (message : Message) → Says w message → Says (run atoms w) message) (inv : Invariant w)
    (N : WorkId) (p : Prepared) (stored : (stable (r.found s)).works N ≡ Some p) where
  at : N.server ≡ s
  at = (stored-fact s m.worker m.tickets m.tickets.epoch (stable (r.found s)).works up.table up.server refl).place N p stored

  next-here : (V : WorkId) → V.server ≡ s → w.next V ≡ m.next V
  next-here V e = mirrors.next V ∙ ap (λ (q : ServerNo). next_in (r.memory q) V) e ∙ ap (λ o. next_in o V) is

  is-up : w.up N.server ≡ true
  is-up = mirrors.up N.server ∙ ap (λ (q : ServerNo). is_some (r.memory q)) at ∙ ap is_some is

  state : (c : Pick) → w.found N.server c ≡ stable (r.found s)
  state c = found-here r w s m mirrors is up N.server c at

  found-it : (c : Pick) → (w.found N.server c).works N ≡ Some p
  found-it c = ap (λ (z : StableState). z.works N) (state c) ∙ stored

  none-yet : (v : Machine) → v.up N.server ≡ true → MayCount v N 0
  none-yet v u = record { up = u; counts = λ c q e g x y h. absurd (no y (sym (ap (λ l. list_change l x) (take_zero q.list)) ∙ h)) }
    where
      no : (y : Option (List ℕ)) → None ≡ Some y → ⊥
      no y e = cc

  -- ---- an intention

  module _ (going : p.going ≡ true) (i : Intention) (next : slice_get p.list (m.next N) ≡ Some i) where
    abbrev counted : Machine
    counted = run (Count N 0 ∷ []) w

    abbrev atoms : List Atom
    atoms = Count N 0 ∷ Make always (CarryOut N i) ∷ Count N (suc (m.next N)) ∷ []

    zero-now : at_work w.next N 0 N ≡ 0
    zero-now = grind (arith, work_tells N N)

    may-carry : (c : Pick) → MayCarryOut counted (w.found N.server c) N i
    may-carry c = record { work = p; is = found-it c; going = going; none = zero-now; writes = λ u h. step-writes p.list (m.next N) i next u h }

    carried-state : (c : Pick) → (run (Count N 0 ∷ Make always (CarryOut N i) ∷ []) w).found N.server c ≡ made_by (CarryOut N i) (w.found N.server c)
    carried-state c = by (server_tells N.server N.server)
      where
        by : ((server_eq N.server N.server ≡ true) × (N.server ≡ N.server)) ⊎ ((server_eq N.server N.server ≡ false) × (N.server ≢ N.server))
            → (if server_eq N.server N.server then made_by (CarryOut N i) (w.found N.server c) else w.found N.server c) ≡ made_by (CarryOut N i) (w.found N.server c)
        by (inl e) = ap (λ (b : Bool). if b then made_by (CarryOut N i) (w.found N.server c) else w.found N.server c) e.0
        by (inr e) = absurd (e.1 refl)

    same-work : (c : Pick) (q : Prepared) → (made_by (CarryOut N i) (w.found N.server c)).works N ≡ Some q → p ≡ q
    same-work c q e = some (sym (found-it c) ∙ e)
      where
        some : Some p ≡ Some q → p ≡ q
        some z = cc

    -- what was carried out before, and this intention
    written : (c : Pick) (u : LockUnit) (v : Option (List ℕ)) → list_change (take (suc (m.next N)) p.list) u ≡ Some v → change (intention_change i) (w.found N.server c).files u ≡ v
    written c u v h = by (intention_change i u) (list_change (take (m.next N) p.list) u) (before (list_change (take (m.next N) p.list) u) refl) (sym (step-more p.list (m.next N) i next u) ∙ h)
      where
        before : (o : Option (Option (List ℕ))) → list_change (take (m.next N) p.list) u ≡ o → (y : Option (List ℕ)) → o ≡ Some y → (w.found N.server c).files u ≡ y
        before o e y f = ((inv.core.states N.server c).prepared N p (found-it c)).next going u y (subst (λ n. list_change (take n p.list) u ≡ Some y) (sym (next-here N at)) (e ∙ f))

        by : (a b : Option (Option (List ℕ))) → ((y : Option (List ℕ)) → b ≡ Some y → (w.found N.server c).files u ≡ y) → or_also a b ≡ Some v → or_else a ((w.found N.server c).files u) ≡ v
        by None b f e = f v e
        by (Some y) b f e = cc

    may-count : MayCount (run (Count N 0 ∷ Make always (CarryOut N i) ∷ []) w) N (suc (m.next N))
    may-count = record {
      up = is-up;
      counts = λ c q e g u v h. ap (λ (z : StableState). z.files u) (carried-state c)
          ∙ written c u v (subst (λ (z : Prepared). list_change (take (suc (m.next N)) z.list) u ≡ Some v) (sym (same-work c q (sym (ap (λ (z : StableState). z.works N) (carried-state c)) ∙ e))) h);
    }

    may-all : MayRun atoms w
    may-all = (none-yet w is-up, (may-carry, (may-count, tt)))

    next-now : (V : WorkId) → V.server ≡ s → at_work (at_work w.next N 0) N (suc (m.next N)) V ≡ at_work m.next N (m.next N + 1) V
    next-now V e = by (work_tells N V)
      where
        by : ((work_eq N V ≡ true) × (N ≡ V)) ⊎ ((work_eq N V ≡ false) × (N ≢ V)) → at_work (at_work w.next N 0) N (suc (m.next N)) V ≡ at_work m.next N (m.next N + 1) V
        by (inl f) = ap (λ (b : Bool). if b then suc (m.next N) else (if b then 0 else w.next V)) f.0 ∙ one-more (m.next N) ∙ sym (ap (λ (b : Bool). if b then m.next N + 1 else m.next V) f.0)
        by (inr f) = ap (λ (b : Bool). if b then suc (m.next N) else (if b then 0 else w.next V)) f.0 ∙ next-here V e ∙ sym (ap (λ (b : Bool). if b then m.next N + 1 else m.next V) f.0)

    next-there : (V : WorkId) (n : ℕ) → s ≢ V.server → (if work_eq N V then n else (if work_eq N V then 0 else w.next V)) ≡ w.next V
    next-there V n ne = by (work_tells N V)
      where
        by : ((work_eq N V ≡ true) × (N ≡ V)) ⊎ ((work_eq N V ≡ false) × (N ≢ V)) → (if work_eq N V then n else (if work_eq N V then 0 else w.next V)) ≡ w.next V
        by (inl f) = absurd (ne (sym at ∙ ap (λ (U : WorkId). U.server) f.1))
        by (inr f) = ap (λ (b : Bool). if b then n else (if b then 0 else w.next V)) f.0

    abbrev stop-atoms : (Pick → Left) → List Atom
    stop-atoms made = Count N 0 ∷ CarryPart N i (λ c. is_written (made c) i) ∷ []

    may-stop : (made : Pick → Left) → MayRun (stop-atoms made) w
    may-stop made = (none-yet w is-up, (may-carry, tt))

    stop-next : (V : WorkId) → s ≢ V.server → at_work w.next N 0 V ≡ w.next V
    stop-next V ne = by (work_tells N V)
      where
        by : ((work_eq N V ≡ true) × (N ≡ V)) ⊎ ((work_eq N V ≡ false) × (N ≢ V)) → (if work_eq N V then 0 else w.next V) ≡ w.next V
        by (inl f) = absurd (ne (sym at ∙ ap (λ (U : WorkId). U.server) f.1))
        by (inr f) = ap (λ (b : Bool). if b then 0 else w.next V) f.0

    stop-does : (made : Pick → Left) → DoesStop s (record { table = m.worker; changes = CarryOut N i ∷ []; messages = []; notes = []; tickets = m.tickets }) made w (run (stop-atoms made) w)
    stop-does made = record {
      up = λ q. refl;
      found = λ q c. ap (λ (z : ServerNo). if server_eq z q then carried_at (is_written (made c) i) i (w.found z c) else w.found q c) at
          ∙ ap (λ z. if server_eq s q then z else w.found q c) (sym (left-written N i (made c) (w.found s c)));
      elsewhere = λ V ne. refl;
      next = stop-next;
      ticket = λ q ne. refl;
      knowledge = λ U ne. refl;
      history = refl;
      ended = refl;
      grows = λ message h. grow (stop-atoms made) (may-stop made) message h;
    }

    pub carry-moves : RowMoves s m (record { table = m.worker; changes = CarryOut N i ∷ []; messages = []; notes = []; tickets = m.tickets }) w
    carry-moves = record {
      atoms = atoms;
      may = may-all;
      does = record {
        up = λ q. refl;
        found = λ q c. ap (λ (z : ServerNo). if server_eq z q then made_by (CarryOut N i) (w.found z c) else w.found q c) at;
        here = λ V e. active-here r w s m mirrors is up V e;
        elsewhere = λ V ne. refl;
        next_here = next-now;
        next_elsewhere = λ V ne. next-there V (suc (m.next N)) ne;
        ticket_here = mirrors.ticket s m is;
        ticket_elsewhere = λ q ne. refl;
        knowledge = λ U. refl;
        history = refl;
        ended = refl;
        owner = λ V v h. grow atoms may-all (messages.Inquire v.tid V) (mirrors.owner s m V v is h);
        grows = λ message h. grow atoms may-all message h;
        says = All-nil (IsTrue (run atoms w));
        addressed = All-nil IsAddressed;
      };
      stops = λ made. record { atoms = stop-atoms made; may = may-stop made; does = stop-does made };
    }

  -- ---- a work that goes from the stable state, and is over

  abbrev pub over-atoms : List Atom
  over-atoms = Count N 0 ∷ Make always (RemoveWork N) ∷ NoteOver N ∷ []

  pub prepared : (c : Pick) → IsPrepared w N.server (w.found N.server c) N p
  prepared c = (inv.core.states N.server c).prepared N p (found-it c)

  pub same-stored : (c : Pick) (q : Prepared) → (w.found N.server c).works N ≡ Some q → p ≡ q
  same-stored c q e = some (sym (found-it c) ∙ e)
    where
      some : Some p ≡ Some q → p ≡ q
      some z = cc

  module _ (may-remove : (c : Pick) → MayRemove (run (Count N 0 ∷ []) w) (w.found N.server c) N) where
    removed : (c : Pick) → ((run (Count N 0 ∷ Make always (RemoveWork N) ∷ []) w).found N.server c).works N ≡ None
    removed c = by (server_tells N.server N.server) (work_tells N N)
      where
        by : ((server_eq N.server N.server ≡ true) × (N.server ≡ N.server)) ⊎ ((server_eq N.server N.server ≡ false) × (N.server ≢ N.server))
            → ((work_eq N N ≡ true) × (N ≡ N)) ⊎ ((work_eq N N ≡ false) × (N ≢ N))
            → (if server_eq N.server N.server then made_by (RemoveWork N) (w.found N.server c) else w.found N.server c).works N ≡ None
        by (inl e) (inl f) = ap (λ (b : Bool). (if b then made_by (RemoveWork N) (w.found N.server c) else w.found N.server c).works N) e.0 ∙ ap (λ (b : Bool). if b then None else (w.found N.server c).works N) f.0
        by (inr e) f = absurd (e.1 refl)
        by (inl e) (inr f) = absurd (f.1 refl)

    may-over : MayBeOver (run (Count N 0 ∷ Make always (RemoveWork N) ∷ []) w) N
    may-over = record { opened = (prepared (λ n. false)).opened; not_active = (prepared (λ n. false)).not_active; nowhere = removed }

    may-end : MayRun over-atoms w
    may-end = (none-yet w is-up, (may-remove, (may-over, tt)))

    abbrev Is : WorkId → Type 0
    Is V = ((work_eq N V ≡ true) × (N ≡ V)) ⊎ ((work_eq N V ≡ false) × (N ≢ V))

    left-here : (V : WorkId) → V.server ≡ s → Is V → w.active V ≡ working_of (if work_eq N V then None else work_at V m.worker)
    left-here V e (inl f) = subst (λ (U : WorkId). w.active U ≡ None) f.1 (prepared (λ n. false)).not_active ∙ sym (ap (λ (b : Bool). working_of (if b then None else work_at V m.worker)) f.0)
    left-here V e (inr f) = active-here r w s m mirrors is up V e ∙ sym (ap (λ (b : Bool). working_of (if b then None else work_at V m.worker)) f.0)

    next-zero : (V : WorkId) → V.server ≡ s → Is V → at_work w.next N 0 V ≡ at_work m.next N 0 V
    next-zero V e (inl f) = ap (λ (b : Bool). if b then 0 else w.next V) f.0 ∙ sym (ap (λ (b : Bool). if b then 0 else m.next V) f.0)
    next-zero V e (inr f) = ap (λ (b : Bool). if b then 0 else w.next V) f.0 ∙ next-here V e ∙ sym (ap (λ (b : Bool). if b then 0 else m.next V) f.0)

    zero-there : (V : WorkId) → s ≢ V.server → Is V → at_work w.next N 0 V ≡ w.next V
    zero-there V ne (inl f) = absurd (ne (sym at ∙ ap (λ (U : WorkId). U.server) f.1))
    zero-there V ne (inr f) = ap (λ (b : Bool). if b then 0 else w.next V) f.0

    owner-left : (V : WorkId) (v : Work) → Is V → (if work_eq N V then None else work_at V m.worker) ≡ Some v → Says w (messages.Inquire v.tid V)
    owner-left V v (inl f) h = absurd (no (subst (λ (b : Bool). (if b then None else work_at V m.worker) ≡ Some v) f.0 h))
      where
        no : None ≡ Some v → ⊥
        no q = cc
    owner-left V v (inr f) h = mirrors.owner s m V v is (subst (λ (b : Bool). (if b then None else work_at V m.worker) ≡ Some v) f.0 h)

    abbrev over-stops : (Pick → Left) → List Atom
    over-stops made = Count N 0 ∷ Make (λ c. some_made (made c).whole) (RemoveWork N) ∷ []

    may-end-stop : (made : Pick → Left) → MayRun (over-stops made) w
    may-end-stop made = (none-yet w is-up, (may-remove, tt))

    abbrev over-row : List Sent → RowOutcome WorkerTable
    over-row sent = record { table = without N m.worker; changes = RemoveWork N ∷ []; messages = sent; notes = []; tickets = m.tickets }

    over-stop-does : (sent : List Sent) (made : Pick → Left) → DoesStop s (over-row sent) made w (run (over-stops made) w)
    over-stop-does sent made = record {
      up = λ q. refl;
      found = λ q c. ap (λ (z : ServerNo). if server_eq z q then (if some_made (made c).whole then made_by (RemoveWork N) (w.found z c) else w.found z c) else w.found q c) at
          ∙ ap (λ z. if server_eq s q then z else w.found q c) (left-one (RemoveWork N) (made c) (w.found s c) refl);
      elsewhere = λ V ne. refl;
      next = λ V ne. zero-there V ne (work_tells N V);
      ticket = λ q ne. refl;
      knowledge = λ U ne. refl;
      history = refl;
      ended = refl;
      grows = λ message h. grow (over-stops made) (may-end-stop made) message h;
    }

    pub remove-moves : (sent : List Sent) → All (IsTrue (run over-atoms w)) sent → All IsAddressed sent → RowMoves s m (over-row sent) w
    remove-moves sent says addressed = record {
      atoms = over-atoms;
      may = may-end;
      does = record {
        up = λ q. refl;
        found = λ q c. ap (λ (z : ServerNo). if server_eq z q then made_by (RemoveWork N) (w.found z c) else w.found q c) at;
        here = λ V e. left-here V e (work_tells N V) ∙ sym (ap working_of (at-less V N m.worker up.table.rising));
        elsewhere = λ V ne. refl;
        next_here = λ V e. next-zero V e (work_tells N V);
        next_elsewhere = λ V ne. zero-there V ne (work_tells N V);
        ticket_here = mirrors.ticket s m is;
        ticket_elsewhere = λ q ne. refl;
        knowledge = λ U. refl;
        history = refl;
        ended = refl;
        owner = λ V v h. grow over-atoms may-end (messages.Inquire v.tid V) (owner-left V v (work_tells N V) (sym (at-less V N m.worker up.table.rising) ∙ h));
        grows = λ message h. grow over-atoms may-end message h;
        says = says;
        addressed = addressed;
      };
      stops = λ made. record { atoms = over-stops made; may = may-end-stop made; does = over-stop-does sent made };
    }

  -- ---- nothing is left to carry out

  module _ (going : p.going ≡ true) (T : Tid) (end : slice_get p.list (m.next N) ≡ None) where
    all-written : (c : Pick) (u : LockUnit) (v : Option (List ℕ)) → list_change p.list u ≡ Some v → (w.found N.server c).files u ≡ v
    all-written c u v h = (prepared c).next going u v (subst (λ n. list_change (take n p.list) u ≡ Some v) (sym (next-here N at)) (subst (λ l. list_change l u ≡ Some v) (sym (take-end p.list (m.next N) end)) h))

    may-remove : (c : Pick) → MayRemove (run (Count N 0 ∷ []) w) (w.found N.server c) N
    may-remove c = record {
      why = inl ((prepared c).going going);
      done = λ q e n u v h. all-written c u v (subst (λ (z : Prepared). list_change z.list u ≡ Some v) (sym (same-stored c q e)) h);
    }

    over-now : at_work w.over N true N ≡ true
    over-now = grind (arith, work_tells N N)

    pub over-moves : RowMoves s m (record { table = without N m.worker; changes = RemoveWork N ∷ []; messages = (Server T.server, messages.Done T N) ∷ []; notes = []; tickets = m.tickets }) w
    over-moves = remove-moves may-remove ((Server T.server, messages.Done T N) ∷ []) (All-cons (IsTrue (run over-atoms w)) (Server T.server, messages.Done T N) [] over-now (All-nil (IsTrue (run over-atoms w))))
        (All-cons IsAddressed (Server T.server, messages.Done T N) [] refl (All-nil IsAddressed))

-- ---- a background step

module _ (r : World) (w : Machine) (s : ServerNo) (m : Memory) (mirrors : Mirrors r w) (is : r.memory s ≡ Some m) (up : UpFact s m (r.found s))
    (grow : (atoms : List Atom) → MayRun atoms w → (message : Message) → Says w message → Says (run atoms w) message) (inv : Invariant w) where
  carried : (x : Work) (o : Option Prepared) (i : Option Intention) → (stable (r.found s)).works x.name ≡ o → is_going o ≡ true → slice_get (intentions_of o) (m.next x.name) ≡ i → RowMoves s m (carried_row m.worker m.tickets x i) w
  carried x None i e g h = absurd (grind arith)
  carried x (Some p) (Some i) e g h = carry-moves r w s m mirrors is up grow inv x.name p e g i h
  carried x (Some p) None e g h = over-moves r w s m mirrors is up grow inv x.name p e g x.tid h

  pub step-move : (room : Room) (row : RowOutcome WorkerTable) → worker_step m.worker (storage_of m (stable (r.found s)) room) m.tickets ≡ Some row → RowMoves s m row w
  step-move room row h = by row (worker-step-case m.worker (storage_of m (stable (r.found s)) room) m.tickets row h)
    where
      by : (row : RowOutcome WorkerTable) → WorkerStep m.worker (storage_of m (stable (r.found s)) room) m.tickets row → RowMoves s m row w
      by _ (carries_out x i e f) = carried x ((stable (r.found s)).works x.name) (Some i) refl (going-is (stable (r.found s)) m.worker x e) f
      by _ (is_over x e f) = carried x ((stable (r.found s)).works x.name) None refl (going-is (stable (r.found s)) m.worker x e) f
      by _ (erases_rubbish e g) = sends-moves r w s m mirrors is up [] [] (All-nil (IsTrue w), All-nil IsAddressed)
