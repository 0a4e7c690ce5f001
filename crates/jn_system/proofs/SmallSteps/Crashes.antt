-- A server goes down, and is up again.
use Rattle.jn_system.proofs.Common.{◌≡◌, ◌≢◌, ◌⊎◌, inl, inr, ℕ, Bool, true, false, List, take, Option, Some, None, is_some, if◌then◌else◌, refl, sym, ◌∙◌, ap, subst, arith, ServerNo, LockUnit, Tid, WorkId, server_eq, server_tells, list_change, StableState, Prepared, Pick, World, Working, Knowledge, Unknown, Begun, Voting, Committed, AllOver, Knows, found_of, restart, MayRestart}
use Rattle.jn_system.specs.SmallSteps.Steps.{crash}
use Rattle.jn_system.proofs.SmallSteps.Invariant.{CoreFacts, IsAborted, MayBeFound}
use Rattle.jn_system.proofs.SmallSteps.TraceLemmas.{take_zero}
use Rattle.jn_system.proofs.SmallSteps.Updates.{TellsServer, none_of, false_unless, not_both, some_of}

module _ (w : World) (s : ServerNo) (inv : CoreFacts w) where
  was_active : (V : WorkId) (a : Working) → (crash s w).active V ≡ Some a → (s ≢ V.server) × (w.active V ≡ Some a)
  was_active V a is = grind (arith, server_tells)

  next_by : (q : ServerNo) (c : Pick) (V : WorkId) (p : Prepared) → (w.found q c).works V ≡ Some p → TellsServer s V.server → p.going ≡ true → (u : LockUnit) (v : Option (List ℕ)) → list_change (take ((crash s w).next V) p.list) u ≡ Some v → (w.found q c).files u ≡ v
  next_by q c V p is (inl (t, e)) g u v k = absurd (none_at (subst (λ l. list_change l u ≡ Some v) (take_zero p.list) (subst (λ b. list_change (take (if b then 0 else w.next V) p.list) u ≡ Some v) t k)))
    where
      none_at : None ≡ Some v → ⊥
      none_at e = cc
  next_by q c V p is (inr (t, ne)) g u v k = ((inv.states q c).prepared V p is).next g u v (subst (λ b. list_change (take (if b then 0 else w.next V) p.list) u ≡ Some v) t k)

  crash_states : (q : ServerNo) (c : Pick) → MayBeFound (crash s w) q (w.found q c)
  crash_states q c = let f = inv.states q c in record {
    prepared = λ V p is. let h = f.prepared V p is in record {
      place = h.place;
      opened = h.opened;
      tid = h.tid;
      part = h.part;
      list = h.list;
      reads = h.reads;
      reads_files = h.reads_files;
      not_over = h.not_over;
      not_active = grind (arith, server_tells, h.not_active);
      going = h.going;
      next = next_by q c V p is (server_tells s V.server);
      agrees = h.agrees;
      written = h.written;
    };
    apart = f.apart;
    disk = f.disk;
    no_reader = λ A V a p is. f.no_reader A V a p (was_active A a is).1;
    ready = f.ready;
    flag = f.flag;
    aborted = f.aborted;
    named = f.named;
  }

  crash_knowledge : (T : Tid) → TellsServer s T.server → (crash s w).up T.server ≡ true → w.begun T ≡ true → Knows w T ((crash s w).knowledge T)
  crash_knowledge T (inl (t, e)) u c = absurd (not_both true refl (sym u ∙ ap (λ b. if b then false else w.up T.server) t))
  crash_knowledge T (inr (t, ne)) u c = subst (λ b. Knows w T (if b then Unknown else w.knowledge T)) (sym t) (inv.knowledge T (sym (ap (λ b. if b then false else w.up T.server) t) ∙ u) c)

  pub crash_kept : CoreFacts (crash s w)
  crash_kept = record {
    serial = inv.serial;
    states = crash_states;
    active = λ V a is. let k = was_active V a is in let h = inv.active V a k.1 in record { up = grind (arith, server_tells, h.up); opened = h.opened; list = h.list; reads = h.reads; reads_files = h.reads_files; not_over = h.not_over; not_ready = h.not_ready; agrees = h.agrees };
    parts = inv.parts;
    aborted = λ T d. let h = inv.aborted T d in record { begun = h.begun; not_named = h.not_named; unknown = grind (arith, server_tells, h.unknown) };
    named = inv.named;
    knowledge = λ T. crash_knowledge T (server_tells s T.server);
    rest = record {
      no_trace = inv.rest.no_trace;
      of_begun = inv.rest.of_begun;
      no_end = inv.rest.no_end;
      down = λ V d. grind (arith, server_tells, inv.rest.down V);
      down_knowledge = λ T d. grind (arith, server_tells, inv.rest.down_knowledge T);
      not_begun = λ T d. grind (arith, server_tells, inv.rest.not_begun T d);
      part_of = inv.rest.part_of;
      over = λ V o. let h = inv.rest.over V o in (h.0, grind (arith, server_tells, h.1));
    };
  }

module _ (w : World) (s : ServerNo) (x : StableState) (may : MayRestart w s x) (inv : CoreFacts w) where
  abbrev v : World
  v = restart s x w

  some_pick : Pick
  some_pick n = false

  here : MayBeFound w s x
  here = subst (λ z. MayBeFound w s z) (may.one some_pick) (inv.states s some_pick)

  was_aborted : (T : Tid) → v.aborted T ≡ false → w.aborted T ≡ false
  was_aborted T d = grind arith

  no_flag : (T : Tid) → w.named T ≡ false → is_some (x.flags T) ≡ false
  no_flag T n = false_unless (is_some (x.flags T)) (λ f. not_both (w.named T) (may.all_named T f) n)

  aborted_by : (T : Tid) → v.aborted T ≡ true → (w.aborted T ≡ true) ⊎ ((s ≡ T.server) × (w.begun T ≡ true) × (w.named T ≡ false))
  aborted_by T d = grind (arith, server_tells)

  flag_by : (q : ServerNo) (c : Pick) (T : Tid) → T.server ≡ q → ((w.aborted T ≡ true) ⊎ ((s ≡ T.server) × (w.begun T ≡ true) × (w.named T ≡ false))) → (w.found q c).flags T ≡ None
  flag_by q c T at (inl d) = (inv.states q c).aborted T at d
  flag_by q c T at (inr (e, k, n)) = subst (λ q. (w.found q c).flags T ≡ None) (e ∙ at) (subst (λ (z : StableState). z.flags T ≡ None) (sym (may.one c)) (none_of (x.flags T) (no_flag T n)))

  restart_states : (q : ServerNo) (c : Pick) → MayBeFound v q (w.found q c)
  restart_states q c = let f = inv.states q c in record {
    prepared = f.prepared;
    apart = f.apart;
    disk = f.disk;
    no_reader = f.no_reader;
    ready = λ V at r d n. f.ready V at r (was_aborted (w.owner V) d) n;
    flag = f.flag;
    aborted = λ T at d. flag_by q c T at (aborted_by T d);
    named = f.named;
  }

  is_aborted : (T : Tid) → ((w.aborted T ≡ true) ⊎ ((s ≡ T.server) × (w.begun T ≡ true) × (w.named T ≡ false))) → TellsServer s T.server → IsAborted v T
  is_aborted T (inl d) (inl (t, e)) = let h = inv.aborted T d in record {
    begun = h.begun;
    not_named = h.not_named;
    unknown = ap (λ b. if b then found_of x T else w.knowledge T) t ∙ ap (λ b. if b then Committed (λ W. false) else Unknown) (no_flag T h.not_named);
  }
  is_aborted T (inl d) (inr (t, ne)) = let h = inv.aborted T d in record { begun = h.begun; not_named = h.not_named; unknown = ap (λ b. if b then found_of x T else w.knowledge T) t ∙ h.unknown }
  is_aborted T (inr (e, k, n)) (inl (t, q)) = record {
    begun = k;
    not_named = n;
    unknown = ap (λ b. if b then found_of x T else w.knowledge T) t ∙ ap (λ b. if b then Committed (λ W. false) else Unknown) (no_flag T n);
  }
  is_aborted T (inr (e, k, n)) (inr (t, ne)) = absurd (ne e)

  same_aborted : (T : Tid) → server_eq s T.server ≡ false → v.aborted T ≡ w.aborted T
  same_aborted T t = grind arith

  knows_by : (T : Tid) (k : Knowledge) → server_eq s T.server ≡ false → Knows w T k → Knows v T k
  knows_by T Unknown t (inl d) = inl (same_aborted T t ∙ d)
  knows_by T Unknown t (inr h) = inr h
  knows_by T Begun t h = (h.0, same_aborted T t ∙ h.1)
  knows_by T (Voting noted) t h = (h.0, same_aborted T t ∙ h.1, h.2, h.3)
  knows_by T (Committed finished) t h = (h.0, same_aborted T t ∙ h.1, h.2)

  now_aborted : (T : Tid) → server_eq s T.server ≡ true → w.begun T ≡ true → w.named T ≡ false → v.aborted T ≡ true
  now_aborted T t c n = grind arith

  not_aborted : (T : Tid) → w.named T ≡ true → v.aborted T ≡ false
  not_aborted T n = false_unless (v.aborted T) (λ d. by (aborted_by T d))
    where
      by : ((w.aborted T ≡ true) ⊎ ((s ≡ T.server) × (w.begun T ≡ true) × (w.named T ≡ false))) → ⊥
      by (inl d) = not_both (w.named T) n (inv.aborted T d).not_named
      by (inr (e, k, m)) = not_both (w.named T) n m

  finds : (T : Tid) → (b : Bool) → is_some (x.flags T) ≡ b → (m : Bool) → w.named T ≡ m → server_eq s T.server ≡ true → s ≡ T.server → w.begun T ≡ true → Knows v T (if b then Committed (λ W. false) else Unknown)
  finds T true f m n t e c = (may.all_named T f, not_aborted T (may.all_named T f), λ W q. absurd (not_both true refl (sym q)))
  finds T false f false n t e c = inl (now_aborted T t c n)
  finds T false f true n t e c = by (here.named T (sym e) n)
    where
      by : ((is_some (x.flags T) ≡ true) ⊎ AllOver w T) → (v.aborted T ≡ true) ⊎ ((w.named T ≡ true) × AllOver w T)
      by (inl q) = absurd (not_both (is_some (x.flags T)) q f)
      by (inr o) = inr (n, o)

  knowledge_by : (T : Tid) → TellsServer s T.server → v.up T.server ≡ true → w.begun T ≡ true → Knows v T (v.knowledge T)
  knowledge_by T (inl (t, e)) u c = subst (λ b. Knows v T (if b then found_of x T else w.knowledge T)) (sym t) (finds T (is_some (x.flags T)) refl (w.named T) refl t e c)
  knowledge_by T (inr (t, ne)) u c = subst (λ b. Knows v T (if b then found_of x T else w.knowledge T)) (sym t) (knows_by T (w.knowledge T) t (inv.knowledge T (sym (ap (λ b. if b then true else w.up T.server) t) ∙ u) c))

  not_up : (q : ServerNo) → v.up q ≡ false → (s ≢ q) × (w.up q ≡ false)
  not_up q d = grind (arith, server_tells)

  fresh_flag : (T : Tid) → w.begun T ≡ false → is_some (x.flags T) ≡ false
  fresh_flag T c = false_unless (is_some (x.flags T)) (λ f. let k = some_of (x.flags T) f in not_both (w.begun T) (here.flag T k.0 k.1).begun c)

  pub restart_kept : CoreFacts v
  restart_kept = record {
    serial = inv.serial;
    states = restart_states;
    active = λ V a is. let h = inv.active V a is in record { up = grind (arith, server_tells, h.up); opened = h.opened; list = h.list; reads = h.reads; reads_files = h.reads_files; not_over = h.not_over; not_ready = h.not_ready; agrees = h.agrees };
    parts = inv.parts;
    aborted = λ T d. is_aborted T (aborted_by T d) (server_tells s T.server);
    named = inv.named;
    knowledge = λ T. knowledge_by T (server_tells s T.server);
    rest = record {
      no_trace = inv.rest.no_trace;
      of_begun = inv.rest.of_begun;
      no_end = inv.rest.no_end;
      down = λ V d. inv.rest.down V (not_up V.server d).1;
      down_knowledge = λ T d. let k = not_up T.server d in let h = inv.rest.down_knowledge T k.1 in grind (arith, server_tells);
      not_begun = λ T d. let k = fresh_flag T d in let h = inv.rest.not_begun T d in grind (arith, server_tells);
      part_of = inv.rest.part_of;
      over = inv.rest.over;
    };
  }
