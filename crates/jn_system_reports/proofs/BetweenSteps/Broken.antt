-- A broken work of a table was never ready, or its transaction is aborted.
use Rattle.jn_system_reports.proofs.Common.{◌≡◌, ◌⊎◌, inl, inr, Bool, true, false, List, Option, Some, None, refl, sym, ◌∙◌, ap, subst, list_any, ServerNo, Tid, WorkId, tid_eq, Work, Phase, Active, Broken, Stored, StableState, Pick, stable, work_at, Machine, Invariant, Atom, run_atoms, MayRun, IsWorkOf, Grows, run_grows, run_kept, not_both, false_unless, some_is, some_none, none_some, World, Memory, has_line, commits_in, LockFacts, ServerFact, UpFact, IsSoundWork, Mirrors, active_in, working_in, working_of}
use Rattle.jn_system_reports.proofs.Reporting.Gone.{run-gone}
use Rattle.jn_system_reports.proofs.BetweenSteps.Breaking.{is_broken, is_stored, table_of, BreaksNone, Breaks}

abbrev pub NeverReady : Machine → Tid → WorkId → Type 0
NeverReady w T W = (w.aborted T ≡ true) ⊎ (w.was_ready W ≡ false)

abbrev pub BrokenFact : World → Machine → Type 0
BrokenFact r w = (s : ServerNo) (m : Memory) (W : WorkId) (x : Work) → r.memory s ≡ Some m → work_at W m.worker ≡ Some x → is_broken x.phase ≡ true → NeverReady w x.tid W

-- a work of a table that isn't stored stands in no state that may be found
module _ (r : World) (w : Machine) (mirrors : Mirrors r w) (locks : LockFacts r) (s : ServerNo) (m : Memory) (is : r.memory s ≡ Some m) (W : WorkId) (x : Work) (found : work_at W m.worker ≡ Some x) (free : is_stored x.phase ≡ false) where
  up : UpFact s m (r.found s)
  up = subst (λ o. ServerFact s o (r.found s)) is (locks s)

  pub placed : W.server ≡ s
  placed = up.table.place W x found ∙ up.server

  unstored : (stable (r.found s)).works W ≡ None
  unstored = by x.phase free (up.table.sound W x found)
    where
      by : (p : Phase) → is_stored p ≡ false → IsSoundWork ((stable (r.found s)).works W) x.tid p → (stable (r.found s)).works W ≡ None
      by (Active a) h k = k.not_stored
      by (Broken u U) h k = k
      by (Stored p) h k = absurd (not_both true refl h)

  pub nowhere : (c : Pick) → (w.found W.server c).works W ≡ None
  nowhere c = subst (λ (q : ServerNo). (w.found q c).works W ≡ None) (sym placed) (ap (λ (z : StableState). z.works W) (mirrors.found s c ∙ up.same c) ∙ unstored)

  pub its-own : IsWorkOf w x.tid W
  its-own = mirrors.owner s m W x is found

  pub goes-on : w.active W ≡ working_in x.phase
  goes-on = mirrors.active W ∙ ap (λ (q : ServerNo). active_in (r.memory q) W) placed ∙ ap (λ o. active_in o W) is ∙ ap working_of found

module _ (r : World) (w : Machine) (atoms : List Atom) (may : MayRun atoms w) (inv : Invariant w) (mirrors : Mirrors r w) (locks : LockFacts r) (named : (T : Tid) → w.named T ≡ has_line T r.lines) (fact : BrokenFact r w)
    (q : World) (breaks : Breaks r q) (mirrors' : Mirrors q (run_atoms atoms w)) (locks' : LockFacts q) (named' : (T : Tid) → (run_atoms atoms w).named T ≡ has_line T q.lines) where
  abbrev v : Machine
  v = run_atoms atoms w

  inv' : Invariant (run_atoms atoms w)
  inv' = run_kept atoms w may inv

  grown : Grows w (run_atoms atoms w)
  grown = run_grows atoms w may inv

  module _ (s : ServerNo) (m : Memory) (is : q.memory s ≡ Some m) (W : WorkId) (x : Work) (found : work_at W m.worker ≡ Some x) (broken : is_broken x.phase ≡ true) where
    free : is_stored x.phase ≡ false
    free = by x.phase broken
      where
        by : (p : Phase) → is_broken p ≡ true → is_stored p ≡ false
        by (Broken u U) h = refl
        by (Active a) h = absurd (not_both false h refl)
        by (Stored p) h = absurd (not_both false h refl)

    owner : (run_atoms atoms w).owner W ≡ x.tid
    owner = (its-own q v mirrors' locks' s m is W x found free).1

    -- what was named before had its works ready
    was-named : w.was_ready W ≡ false → v.was_ready W ≡ true → w.named x.tid ≡ true → ⊥
    was-named not ready n = let f = inv.core.named x.tid n in not_both (w.was_ready W) (f.ready W.server W (sym (grown.part x.tid f.ended W.server) ∙ subst (λ (T : Tid). v.part T W.server ≡ Some W) owner (inv'.core.rest.part_of W ready))) not

    by-phase : (y : Work) → work_at W (table_of (r.memory s)) ≡ Some y → y.tid ≡ x.tid → (p : Phase) → y.phase ≡ p → is_stored p ≡ false → (o : Option Memory) → r.memory s ≡ o → NeverReady v x.tid W
    by-phase y at same p e k None i = absurd (none_some y (ap (λ z. work_at W (table_of z)) (sym i) ∙ at))
    by-phase y at same (Stored z) e k (Some n) i = absurd (not_both true refl k)
    by-phase y at same (Broken u U) e k (Some n) i = by (fact s n W y i here (ap is_broken e))
      where
        here : work_at W n.worker ≡ Some y
        here = ap (λ z. work_at W (table_of z)) (sym i) ∙ at

        by : NeverReady w y.tid W → NeverReady v x.tid W
        by (inl a) = inl (subst (λ (T : Tid). v.aborted T ≡ true) same (grown.aborted y.tid a))
        by (inr not) = inr (run-gone atoms w W may inv (record {
          opened = (its-own r w mirrors locks s n i W y here (ap is_stored e)).0;
          not_active = goes-on r w mirrors locks s n i W y here (ap is_stored e) ∙ ap working_in e;
          nowhere = nowhere r w mirrors locks s n i W y here (ap is_stored e);
          not_ready = not;
        })).not_ready
    by-phase y at same (Active a) e k (Some n) i = by (v.was_ready W) refl (v.aborted x.tid) refl
      where
        here : work_at W n.worker ≡ Some y
        here = ap (λ z. work_at W (table_of z)) (sym i) ∙ at

        not : w.was_ready W ≡ false
        not = (inv.core.active W (record { list = a.list; reads = a.reads }) (goes-on r w mirrors locks s n i W y here (ap is_stored e) ∙ ap working_in e)).not_ready

        same-named : (commits_in q.lines ≡ commits_in r.lines) ⊎ ((z : ServerNo) → BreaksNone (table_of (r.memory z)) (table_of (q.memory z))) → v.named x.tid ≡ true → w.named x.tid ≡ true
        same-named (inl c) g = named x.tid ∙ ap (λ l. list_any (λ (U : Tid). tid_eq U x.tid) l) (sym c) ∙ sym (named' x.tid) ∙ g
        same-named (inr none) g = absurd (not_both (is_broken x.phase) broken (ap (λ (z : Work). is_broken z.phase) (some_is x y (sym (none s W x (ap (λ z. work_at W (table_of z)) is ∙ found) broken) ∙ at)) ∙ ap is_broken e))

        by : (b : Bool) → v.was_ready W ≡ b → (c : Bool) → v.aborted x.tid ≡ c → NeverReady v x.tid W
        by false f c g = inr f
        by true f true g = inl g
        by true f false g = absurd (some_none ((v.found W.server (λ z. false)).works W)
            ((inv'.core.states W.server (λ z. false)).ready W refl f (subst (λ (T : Tid). v.aborted T ≡ false) (sym owner) g)
            (subst (λ (T : Tid). v.named T ≡ false) (sym owner) (false_unless (v.named x.tid) (λ n. was-named not f (same-named breaks.none n)))))
            (nowhere q v mirrors' locks' s m is W x found free (λ z. false)))

    never-ready : NeverReady (run_atoms atoms w) x.tid W
    never-ready = let f = breaks.from s W x (ap (λ z. work_at W (table_of z)) is ∙ found) broken in by-phase f.0 f.1 f.2 f.0.phase refl f.3 (r.memory s) refl

  pub broken-on : BrokenFact q (run_atoms atoms w)
  broken-on s m W x is found broken = never-ready s m is W x found broken
