-- What the machine's states keep of a work: where it was ready it stays prepared, or is carried out, and wherever it is found it
-- has one list and the same reads.
use Rattle.jn_system_reports.proofs.Common.{◌≡◌, ◌≢◌, ◌⊎◌, inl, inr, ℕ, Bool, true, false, List, [], ◌∷◌, Option, Some, None, is_some, refl, sym, ◌∙◌, ap, subst, arith, if◌then◌else◌, ServerNo, LockUnit, Tid, WorkId, server_eq, work_eq, server_tells, work_tells, Files, or_else, change, Intention, intention_change, list_change, StableState, Prepared, Pick, Change, AddReady, MarkGoing, CarryOut, RemoveWork, AddFlag, DropFlag, at_work, gone_on, ready_work, made_by, Working, HasRead, Writes, NamesFact, Invariant, Atom, Perform, Lose, Prepare, NoteReady, Make, Decide, RaiseEpoch, changed, server_of, with_epoch, MayCarryOut, MayRemove, MayMake, May, MayRun, grows, fresh_work, step_kept, not_both, false_unless, at_work_cases, some_is, none_some, clash, AreCarriedOut, Crash, Narrow, Restart, CarryPart, carried_at}
use Rattle.jn_system.specs.SmallSteps.World.{World}
use Rattle.jn_system.specs.SmallSteps.Steps.{Open, new_work, after, run}
use Rattle.jn_system.proofs.SmallSteps.HeldLemmas.{writes_apart}
use Rattle.jn_system_reports.proofs.Telling.Atoms.{IsStill, still}

-- ---- what holds of each pick

module _ (w : World) (W : WorkId) (P : StableState → Type 0) where
  put-all : (s : ServerNo) (done : Pick → Bool) (f : StableState → StableState) → ((c : Pick) → s ≡ W.server → P (w.found s c) → P (f (w.found s c))) → ((c : Pick) → P (w.found W.server c)) → (c : Pick) → P (changed w.found s done f W.server c)
  put-all s done f h all c = by (server_tells s W.server)
    where
      either : (b : Bool) → s ≡ W.server → P (w.found s c) → P (if b then f (w.found s c) else w.found s c)
      either true e k = h c e k
      either false e k = k

      by : ((server_eq s W.server ≡ true) × (s ≡ W.server)) ⊎ ((server_eq s W.server ≡ false) × (s ≢ W.server)) → P (if server_eq s W.server then (if done c then f (w.found s c) else w.found s c) else w.found W.server c)
      by (inl p) = subst (λ (b : Bool). P (if b then (if done c then f (w.found s c) else w.found s c) else w.found W.server c)) (sym p.0) (either (done c) p.1 (subst (λ (q : ServerNo). P (w.found q c)) (sym p.1) (all c)))
      by (inr p) = subst (λ (b : Bool). P (if b then (if done c then f (w.found s c) else w.found s c) else w.found W.server c)) (sym p.0) (all c)

  narrow-all : (s : ServerNo) (g : Pick → Pick) → ((c : Pick) → P (w.found W.server c)) → (c : Pick) → P (if server_eq s W.server then w.found s (g c) else w.found W.server c)
  narrow-all s g all c = by (server_tells s W.server)
    where
      by : ((server_eq s W.server ≡ true) × (s ≡ W.server)) ⊎ ((server_eq s W.server ≡ false) × (s ≢ W.server)) → P (if server_eq s W.server then w.found s (g c) else w.found W.server c)
      by (inl p) = subst (λ (b : Bool). P (if b then w.found s (g c) else w.found W.server c)) (sym p.0) (subst (λ (q : ServerNo). P (w.found q (g c))) (sym p.1) (all (g c)))
      by (inr p) = subst (λ (b : Bool). P (if b then w.found s (g c) else w.found W.server c)) (sym p.0) (all c)

  part-all : (s : ServerNo) (g : Pick → StableState) → ((c : Pick) → s ≡ W.server → P (w.found s c) → P (g c)) → ((c : Pick) → P (w.found W.server c)) → (c : Pick) → P (if server_eq s W.server then g c else w.found W.server c)
  part-all s g h all c = by (server_tells s W.server)
    where
      by : ((server_eq s W.server ≡ true) × (s ≡ W.server)) ⊎ ((server_eq s W.server ≡ false) × (s ≢ W.server)) → P (if server_eq s W.server then g c else w.found W.server c)
      by (inl p) = subst (λ (b : Bool). P (if b then g c else w.found W.server c)) (sym p.0) (h c p.1 (subst (λ (q : ServerNo). P (w.found q c)) (sym p.1) (all c)))
      by (inr p) = subst (λ (b : Bool). P (if b then g c else w.found W.server c)) (sym p.0) (all c)

  -- what a step has to keep for that
  abbrev Keeps : Atom → Type 0
  Keeps (Prepare done head list reads) = (c : Pick) → head.work.server ≡ W.server → P (w.found head.work.server c) → P (made_by (AddReady head list reads) (w.found head.work.server c))
  Keeps (Make done step) = (c : Pick) → server_of step ≡ W.server → P (w.found (server_of step) c) → P (made_by step (w.found (server_of step) c))
  Keeps (CarryPart V i is) = (c : Pick) → V.server ≡ W.server → P (w.found V.server c) → P (carried_at (is c) i (w.found V.server c))
  Keeps a = Unit {0}

  -- it is of works and files alone
  atom-all : ((x : StableState) (n : ℕ) → P x → P (record x { epoch = n })) → ((x : StableState) (f : Tid → _) → P x → P (record x { flags = f })) → (a : Atom) → Keeps a → ((c : Pick) → P (w.found W.server c)) → (c : Pick) → P ((after a w).found W.server c)
  atom-all epoch flags (Prepare done head list reads) k all = put-all head.work.server done (made_by (AddReady head list reads)) k all
  atom-all epoch flags (Make done step) k all = put-all (server_of step) done (made_by step) k all
  atom-all epoch flags (CarryPart V i is) k all = part-all V.server (λ c. carried_at (is c) i (w.found V.server c)) k all
  atom-all epoch flags (Decide flag) k all = put-all flag.tid.server (λ c. true) (made_by (AddFlag flag)) (λ c e h. flags (w.found flag.tid.server c) _ h) all
  atom-all epoch flags (Narrow s g) k all = narrow-all s g all
  atom-all epoch flags (RaiseEpoch s done) k all = put-all s done with_epoch (λ c e h. epoch (w.found s c) _ h) all
  atom-all epoch flags (Restart s x) k all = put-all s (λ c. true) with_epoch (λ c e h. epoch (w.found s c) _ h) all
  atom-all epoch flags _ k all = all

-- ---- a work that was ready

abbrev pub IsThere : WorkId → StableState → Type 0
IsThere W x = is_some (x.works W) ≡ true

abbrev pub IsDone : WorkId → StableState → Type 0
IsDone W x = (p : Prepared) → x.works W ≡ Some p → AreCarriedOut p.list x.files

abbrev pub Stays : World → WorkId → Type 0
Stays w W = ((c : Pick) → IsThere W (w.found W.server c)) ⊎ ((c : Pick) → IsDone W (w.found W.server c))

was-going : (o : Option Prepared) (p : Prepared) → gone_on o ≡ Some p → (q : Prepared) × (o ≡ Some q) × (q.list ≡ p.list) × (q.reads ≡ p.reads)
was-going (Some q) p k = let e = some_is (record q { going = true }) p k in (q, refl, ap (λ (z : Prepared). z.list) e, ap (λ (z : Prepared). z.reads) e)
was-going None p k = absurd (none_some p k)

same-where : (i : Intention) (fs : Files) (u : LockUnit) → is_some (intention_change i u) ≡ false → change (intention_change i) fs u ≡ fs u
same-where i fs u h = by (intention_change i u) (fs u) h
  where
    by : (o : Option (Option (List ℕ))) (y : Option (List ℕ)) → is_some o ≡ false → or_else o y ≡ y
    by o y h = grind arith

same-in-part : (i : Intention) (is : LockUnit → Bool) (fs : Files) (u : LockUnit) → is_some (intention_change i u) ≡ false → (if is u then change (intention_change i) fs u else fs u) ≡ fs u
same-in-part i is fs u h = by (is u)
  where
    by : (b : Bool) → (if b then change (intention_change i) fs u else fs u) ≡ fs u
    by true = same-where i fs u h
    by false = refl

module _ (w : World) (W : WorkId) (inv : Invariant w) where
  -- a change of its server's states
  there-still : (step : Change) (x : StableState) → (step ≡ RemoveWork W → ⊥) → IsThere W x → IsThere W (made_by step x)
  there-still (AddReady head list reads) x ne h = by (work_eq head.work W)
    where
      by : (b : Bool) → is_some (if b then Some (ready_work head list reads) else x.works W) ≡ true
      by true = refl
      by false = h
  there-still (MarkGoing V) x ne h = by (work_tells V W)
    where
      going : (o : Option Prepared) → is_some o ≡ true → is_some (gone_on o) ≡ true
      going (Some p) k = refl
      going None k = k

      by : ((work_eq V W ≡ true) × (V ≡ W)) ⊎ ((work_eq V W ≡ false) × (V ≢ W)) → is_some (if work_eq V W then gone_on (x.works V) else x.works W) ≡ true
      by (inl p) = subst (λ (b : Bool). is_some (if b then gone_on (x.works V) else x.works W) ≡ true) (sym p.0) (going (x.works V) (subst (λ (U : WorkId). is_some (x.works U) ≡ true) (sym p.1) h))
      by (inr p) = subst (λ (b : Bool). is_some (if b then gone_on (x.works V) else x.works W) ≡ true) (sym p.0) h
  there-still (CarryOut V i) x ne h = h
  there-still (RemoveWork V) x ne h = by (work_tells V W)
    where
      by : ((work_eq V W ≡ true) × (V ≡ W)) ⊎ ((work_eq V W ≡ false) × (V ≢ W)) → is_some (if work_eq V W then None else x.works W) ≡ true
      by (inl p) = absurd (ne (ap RemoveWork p.1))
      by (inr p) = subst (λ (b : Bool). is_some (if b then None else x.works W) ≡ true) (sym p.0) h
  there-still (AddFlag flag) x ne h = h
  there-still (DropFlag T) x ne h = h

  -- another work's intention writes nothing of it
  writes-none : (V : WorkId) (i : Intention) (c : Pick) → MayCarryOut w (w.found V.server c) V i → V ≢ W → (p : Prepared) → (w.found V.server c).works W ≡ Some p → (u : LockUnit) → Writes p.list u → is_some (intention_change i u) ≡ false
  writes-none V i c may ne p is u h = let f = inv.core.states V.server c in false_unless (is_some (intention_change i u)) (λ t. not_both (is_some (list_change p.list u)) h
      (writes_apart may.work.list p.list may.work.reads p.reads (f.apart V W may.work p may.is is ne) (λ v k. (f.apart W V p may.work is may.is (λ e. ne (sym e)) v k).1) (f.prepared V may.work may.is).reads_files (f.prepared W p is).reads_files u (may.writes u t)))

  done-still : (step : Change) (c : Pick) → MayMake w (w.found (server_of step) c) step → ((i : Intention) → step ≡ CarryOut W i → ⊥) → IsDone W (w.found (server_of step) c) → IsDone W (made_by step (w.found (server_of step) c))
  done-still (AddReady head list reads) c may ne h = absurd may
  done-still (MarkGoing V) c may ne h = λ p e. by p (at_work_cases x.works V (gone_on (x.works V)) W (Some p) e)
    where
      x : StableState
      x = w.found V.server c

      by : (p : Prepared) → ((V ≡ W) × (gone_on (x.works V) ≡ Some p)) ⊎ ((V ≢ W) × (x.works W ≡ Some p)) → AreCarriedOut p.list x.files
      by p (inl k) = let q = was-going (x.works V) p k.1 in subst (λ (l : List Intention). AreCarriedOut l x.files) q.2 (h q.0 (subst (λ (U : WorkId). x.works U ≡ Some q.0) k.0 q.1))
      by p (inr k) = h p k.1
  done-still (CarryOut V i) c may ne h = λ p e u v k. by p e u v k (work_tells V W)
    where
      by : (p : Prepared) → (w.found V.server c).works W ≡ Some p → (u : LockUnit) (v : Option (List ℕ)) → list_change p.list u ≡ Some v → ((work_eq V W ≡ true) × (V ≡ W)) ⊎ ((work_eq V W ≡ false) × (V ≢ W)) → change (intention_change i) (w.found V.server c).files u ≡ v
      by p e u v k (inl q) = absurd (ne i (ap (λ (U : WorkId). CarryOut U i) q.1))
      by p e u v k (inr q) = same-where i (w.found V.server c).files u (writes-none V i c may q.1 p e u (subst (λ o. is_some o ≡ true) (sym k) refl)) ∙ h p e u v k
  done-still (RemoveWork V) c may ne h = λ p e. by p (at_work_cases (w.found V.server c).works V None W (Some p) e)
    where
      by : (p : Prepared) → ((V ≡ W) × (None ≡ Some p)) ⊎ ((V ≢ W) × ((w.found V.server c).works W ≡ Some p)) → AreCarriedOut p.list (w.found V.server c).files
      by p (inl k) = absurd (none_some p k.1)
      by p (inr k) = h p k.1
  done-still (AddFlag flag) c may ne h = h
  done-still (DropFlag T) c may ne h = h

  on-there : (a : Atom) → Keeps w W (IsThere W) a → ((c : Pick) → IsThere W (w.found W.server c)) → Stays (after a w) W
  on-there a k all = inl (atom-all w W (IsThere W) (λ x n h. h) (λ x f h. h) a k all)

  on-done : (a : Atom) → Keeps w W (IsDone W) a → ((c : Pick) → IsDone W (w.found W.server c)) → Stays (after a w) W
  on-done a k all = inr (atom-all w W (IsDone W) (λ x n h. h) (λ x f h. h) a k all)

  abbrev Tells : WorkId → Type 0
  Tells V = ((work_eq V W ≡ true) × (V ≡ W)) ⊎ ((work_eq V W ≡ false) × (V ≢ W))

  make-there : (done : Pick → Bool) (step : Change) → ((c : Pick) → MayMake w (w.found (server_of step) c) step) → w.aborted (w.owner W) ≡ false → ((c : Pick) → IsThere W (w.found W.server c)) → Stays (after (Make done step) w) W
  make-there done (RemoveWork V) m n all = by (work_tells V W)
    where
      other : V ≢ W → RemoveWork V ≡ RemoveWork W → ⊥
      other ne e = ne (same V W e)
        where
          same : (A B : WorkId) → RemoveWork A ≡ RemoveWork B → A ≡ B
          same A B q = cc

      why : (w.named (w.owner W) ≡ true) ⊎ (w.aborted (w.owner W) ≡ true) → w.named (w.owner W) ≡ true
      why (inl k) = k
      why (inr k) = absurd (not_both (w.aborted (w.owner W)) k n)

      mine : V ≡ W → (c : Pick) → MayRemove w (w.found W.server c) W
      mine e = subst (λ (U : WorkId). (c : Pick) → MayRemove w (w.found U.server c) U) e m

      by : Tells V → Stays (after (Make done (RemoveWork V)) w) W
      by (inl k) = on-done (Make done (RemoveWork V)) (λ c e h. done-still (RemoveWork V) c (m c) (λ i q. no i q) h) (λ c p e. (mine k.1 c).done p e (why (mine k.1 c).why))
        where
          no : (i : Intention) → RemoveWork V ≡ CarryOut W i → ⊥
          no i q = cc
      by (inr k) = on-there (Make done (RemoveWork V)) (λ c e h. there-still (RemoveWork V) (w.found V.server c) (other k.1) h) all
  make-there done (AddReady head list reads) m n all = absurd (m (λ k. false))
  make-there done (MarkGoing V) m n all = on-there (Make done (MarkGoing V)) (λ c e h. there-still (MarkGoing V) (w.found V.server c) no h) all
    where
      no : MarkGoing V ≡ RemoveWork W → ⊥
      no q = cc
  make-there done (CarryOut V i) m n all = on-there (Make done (CarryOut V i)) (λ c e h. h) all
  make-there done (AddFlag flag) m n all = on-there (Make done (AddFlag flag)) (λ c e h. h) all
  make-there done (DropFlag T) m n all = on-there (Make done (DropFlag T)) (λ c e h. h) all

  make-done : (done : Pick → Bool) (step : Change) → ((c : Pick) → MayMake w (w.found (server_of step) c) step) → ((c : Pick) → IsDone W (w.found W.server c)) → Stays (after (Make done step) w) W
  make-done done (CarryOut V i) m all = by (work_tells V W)
    where
      other : V ≢ W → (j : Intention) → CarryOut V i ≡ CarryOut W j → ⊥
      other ne j e = ne (same V W i j e)
        where
          same : (A B : WorkId) (i j : Intention) → CarryOut A i ≡ CarryOut B j → A ≡ B
          same A B i j q = cc

      by : Tells V → Stays (after (Make done (CarryOut V i)) w) W
      by (inl k) = on-there (Make done (CarryOut V i)) (λ c e h. h) (subst (λ (U : WorkId). (c : Pick) → IsThere U (w.found U.server c)) k.1 (λ c. ap is_some (m c).is))
      by (inr k) = on-done (Make done (CarryOut V i)) (λ c e h. done-still (CarryOut V i) c (m c) (other k.1) h) all
  make-done done (AddReady head list reads) m all = absurd (m (λ k. false))
  make-done done (MarkGoing V) m all = on-done (Make done (MarkGoing V)) (λ c e h. done-still (MarkGoing V) c (m c) (λ i q. no i q) h) all
    where
      no : (i : Intention) → MarkGoing V ≡ CarryOut W i → ⊥
      no i q = cc
  make-done done (RemoveWork V) m all = on-done (Make done (RemoveWork V)) (λ c e h. done-still (RemoveWork V) c (m c) (λ i q. no i q) h) all
    where
      no : (i : Intention) → RemoveWork V ≡ CarryOut W i → ⊥
      no i q = cc
  make-done done (AddFlag flag) m all = on-done (Make done (AddFlag flag)) (λ c e h. h) all
  make-done done (DropFlag T) m all = on-done (Make done (DropFlag T)) (λ c e h. h) all

  -- another work's intention is carried out in part
  part-done : (V : WorkId) (i : Intention) (is : LockUnit → Bool) (c : Pick) → MayCarryOut w (w.found V.server c) V i → V ≢ W → IsDone W (w.found V.server c) → IsDone W (carried_at is i (w.found V.server c))
  part-done V i is c may ne h p e u v k = same-in-part i is (w.found V.server c).files u (writes-none V i c may ne p e u (subst (λ o. is_some o ≡ true) (sym k) refl)) ∙ h p e u v k

  part-stays : (V : WorkId) (i : Intention) (is : Pick → LockUnit → Bool) → May (CarryPart V i is) w → ((c : Pick) → IsDone W (w.found W.server c)) → Tells V → Stays (after (CarryPart V i is) w) W
  part-stays V i is m all (inl k) = on-there (CarryPart V i is) (λ c e h. h) (subst (λ (U : WorkId). (c : Pick) → IsThere U (w.found U.server c)) k.1 (λ c. ap is_some (m c).is))
  part-stays V i is m all (inr k) = on-done (CarryPart V i is) (λ c e h. part-done V i (is c) c (m c) k.1 h) all

  atom-stays : (a : Atom) → May a w → w.was_ready W ≡ true → w.aborted (w.owner W) ≡ false → Stays w W → Stays (after a w) W
  atom-stays (Make done step) m r n (inl all) = make-there done step m n all
  atom-stays (Make done step) m r n (inr all) = make-done done step m all
  atom-stays (Prepare done head list reads) m r n (inl all) = on-there (Prepare done head list reads) (λ c e h. there-still (AddReady head list reads) (w.found head.work.server c) no h) all
    where
      no : AddReady head list reads ≡ RemoveWork W → ⊥
      no q = cc
  atom-stays (Prepare done head list reads) m r n (inr all) = on-done (Prepare done head list reads) (λ c e h p k. by c h p (at_work_cases (w.found head.work.server c).works head.work (Some (ready_work head list reads)) W (Some p) k)) all
    where
      not-ready : head.work ≡ W → ⊥
      not-ready e = not_both (w.was_ready W) r (subst (λ (U : WorkId). w.was_ready U ≡ false) e (inv.core.active head.work (record { list = list; reads = reads }) (m (λ k. false)).active).not_ready)

      by : (c : Pick) → IsDone W (w.found head.work.server c) → (p : Prepared) → ((head.work ≡ W) × (Some (ready_work head list reads) ≡ Some p)) ⊎ ((head.work ≢ W) × ((w.found head.work.server c).works W ≡ Some p)) → AreCarriedOut p.list (w.found head.work.server c).files
      by c h p (inl q) = absurd (not-ready q.0)
      by c h p (inr q) = h p q.1
  atom-stays (CarryPart V i is) m r n (inl all) = on-there (CarryPart V i is) (λ c e h. h) all
  atom-stays (CarryPart V i is) m r n (inr all) = part-stays V i is m all (work_tells V W)
  atom-stays (Decide flag) m r n (inl all) = on-there (Decide flag) tt all
  atom-stays (Decide flag) m r n (inr all) = on-done (Decide flag) tt all
  atom-stays (Narrow s g) m r n (inl all) = on-there (Narrow s g) tt all
  atom-stays (Narrow s g) m r n (inr all) = on-done (Narrow s g) tt all
  atom-stays (RaiseEpoch s done) m r n (inl all) = on-there (RaiseEpoch s done) tt all
  atom-stays (RaiseEpoch s done) m r n (inr all) = on-done (RaiseEpoch s done) tt all
  atom-stays (Restart s x) m r n (inl all) = on-there (Restart s x) tt all
  atom-stays (Restart s x) m r n (inr all) = on-done (Restart s x) tt all
  atom-stays _ m r n h = h

  -- a work becomes ready where all picks find it
  ready-back : (a : Atom) → May a w → (after a w).was_ready W ≡ true → (w.was_ready W ≡ true) ⊎ Stays (after a w) W
  ready-back (NoteReady V) m r = by (at_work_cases w.was_ready V true W true r)
    where
      by : ((V ≡ W) × (true ≡ true)) ⊎ ((V ≢ W) × (w.was_ready W ≡ true)) → (w.was_ready W ≡ true) ⊎ Stays (after (NoteReady V) w) W
      by (inl k) = inr (inl (subst (λ (U : WorkId). (c : Pick) → is_some ((w.found U.server c).works U) ≡ true) k.0 m))
      by (inr k) = inl k.1
  ready-back _ m r = inl r

-- each work that was ready, of a transaction that isn't aborted
abbrev pub StayFact : World → Type 0
StayFact w = (W : WorkId) → w.was_ready W ≡ true → w.aborted (w.owner W) ≡ false → Stays w W

atom-fact : (a : Atom) (w : World) → May a w → Invariant w → StayFact w → StayFact (after a w)
atom-fact a w m inv fact W r n = by (ready-back w W inv a m r)
  where
    on : w.was_ready W ≡ true → Stays (after a w) W
    on k = atom-stays w W inv a m k clear (fact W k clear)
      where
        opened : w.opened W ≡ true
        opened = (inv.core.parts (w.owner W) W.server W (inv.core.rest.part_of W k)).opened

        clear : w.aborted (w.owner W) ≡ false
        clear = false_unless (w.aborted (w.owner W)) (λ e. not_both ((after a w).aborted ((after a w).owner W)) (subst (λ (T : Tid). (after a w).aborted T ≡ true) (sym ((grows a w m inv.names).owner W opened)) ((grows a w m inv.names).aborted (w.owner W) e)) n)

    by : (w.was_ready W ≡ true) ⊎ Stays (after a w) W → Stays (after a w) W
    by (inl k) = on k
    by (inr k) = k

pub run-stays : (atoms : List Atom) (w : World) → MayRun atoms w → Invariant w → StayFact w → StayFact (run atoms w)
run-stays [] w m inv fact = fact
run-stays (a ∷ atoms) w m inv fact = run-stays atoms (after a w) m.1 (step_kept a w m.0 inv) (atom-fact a w m.0 inv fact)

-- ---- one list and the same reads

abbrev pub StoredAs : List Intention → List LockUnit → Option Prepared → Type 0
StoredAs list reads None = Unit {0}
StoredAs list reads (Some p) = (p.list ≡ list) × (p.reads ≡ reads)

abbrev pub IsSo : World → WorkId → List Intention → List LockUnit → Type 0
IsSo w W list reads = (c : Pick) → StoredAs list reads ((w.found W.server c).works W)

module _ (w : World) (W : WorkId) (l : List Intention) (r : List LockUnit) where
  abbrev So : StableState → Type 0
  So x = StoredAs l r (x.works W)

  going-so : (o : Option Prepared) → StoredAs l r o → StoredAs l r (gone_on o)
  going-so None h = tt
  going-so (Some p) h = h

  put-so : (V : WorkId) (o : Option Prepared) (x : StableState) → (V ≡ W → StoredAs l r o) → So x → StoredAs l r (if work_eq V W then o else x.works W)
  put-so V o x own h = by (work_tells V W)
    where
      by : ((work_eq V W ≡ true) × (V ≡ W)) ⊎ ((work_eq V W ≡ false) × (V ≢ W)) → StoredAs l r (if work_eq V W then o else x.works W)
      by (inl p) = subst (λ (b : Bool). StoredAs l r (if b then o else x.works W)) (sym p.0) (own p.1)
      by (inr p) = subst (λ (b : Bool). StoredAs l r (if b then o else x.works W)) (sym p.0) h

  made-so : (step : Change) (x : StableState) → MayMake w x step → So x → So (made_by step x)
  made-so (AddReady head list reads) x m h = absurd m
  made-so (MarkGoing V) x m h = put-so V (gone_on (x.works V)) x (λ e. subst (λ (U : WorkId). StoredAs l r (gone_on (x.works U))) (sym e) (going-so (x.works W) h)) h
  made-so (CarryOut V i) x m h = h
  made-so (RemoveWork V) x m h = put-so V None x (λ e. tt) h
  made-so (AddFlag flag) x m h = h
  made-so (DropFlag T) x m h = h

  -- where it is prepared, it is with these
  abbrev PreparesSo : Type 0
  PreparesSo = (list : List Intention) (reads : List LockUnit) → w.active W ≡ Some (record { list = list; reads = reads }) → (list ≡ l) × (reads ≡ r)

  keeps-so : (a : Atom) → May a w → PreparesSo → Keeps w W So a
  keeps-so (Make done step) m so = λ c e h. made-so step (w.found (server_of step) c) (m c) h
  keeps-so (Prepare done head list reads) m so = λ c e h. put-so head.work (Some (ready_work head list reads)) (w.found head.work.server c) (λ q. so list reads (subst (λ (U : WorkId). w.active U ≡ Some (record { list = list; reads = reads })) q (m c).active)) h
  keeps-so (CarryPart V i is) m so = λ c e h. h
  keeps-so _ m so = tt

  pub atom-so : (a : Atom) → May a w → PreparesSo → IsSo w W l r → IsSo (after a w) W l r
  atom-so a m so h = atom-all w W So (λ x n k. k) (λ x f k. k) a (keeps-so a m so) h

-- a work that doesn't go on stays as it was prepared
pub so-still : (atoms : List Atom) (w : World) (W : WorkId) (l : List Intention) (r : List LockUnit) → MayRun atoms w → Invariant w → IsStill w W → IsSo w W l r → IsSo (run atoms w) W l r
so-still [] w W l r m inv s h = h
so-still (a ∷ atoms) w W l r m inv s h = so-still atoms (after a w) W l r m.1 (step_kept a w m.0 inv) (still (a ∷ []) w W (m.0, tt) inv s).0
    (atom-so w W l r a m.0 (λ list reads e. absurd (clash (w.active W) (record { list = list; reads = reads }) e s.none)) h)

abbrev pub SoFact : World → Type 0
SoFact w = (W : WorkId) → (l : List Intention) × (r : List LockUnit) × IsSo w W l r

pub run-so : (atoms : List Atom) (w : World) → MayRun atoms w → Invariant w → SoFact w → SoFact (run atoms w)
run-so [] w m inv fact = fact
run-so (a ∷ atoms) w m inv fact = run-so atoms (after a w) m.1 (step_kept a w m.0 inv) (λ W. one W (w.active W) refl)
  where
    one : (W : WorkId) (o : Option Working) → w.active W ≡ o → (l : List Intention) × (r : List LockUnit) × IsSo (after a w) W l r
    one W None e = let f = fact W in (f.0, f.1, atom-so w W f.0 f.1 a m.0 (λ list reads k. absurd (clash (w.active W) (record { list = list; reads = reads }) k e)) f.2)
    one W (Some A) e = (A.list, A.reads, atom-so w W A.list A.reads a m.0 (λ list reads k. same list reads (some_is A (record { list = list; reads = reads }) (sym e ∙ k))) (λ c. nowhere c ((w.found W.server c).works W) refl))
      where
        same : (list : List Intention) (reads : List LockUnit) → A ≡ record { list = list; reads = reads } → (list ≡ A.list) × (reads ≡ A.reads)
        same list reads q = (ap (λ (z : Working). z.list) (sym q), ap (λ (z : Working). z.reads) (sym q))

        nowhere : (c : Pick) (p : Option Prepared) → (w.found W.server c).works W ≡ p → StoredAs A.list A.reads p
        nowhere c None k = tt
        nowhere c (Some p) k = absurd (clash (w.active W) A e ((inv.core.states W.server c).prepared W p k).not_active)

-- ---- what a work has read

-- wherever it goes on or is found, it has read the unit
abbrev pub HasReadAll : World → WorkId → LockUnit → Type 0
HasReadAll w W u = ((a : Working) → w.active W ≡ Some a → HasRead a.reads u) × ((c : Pick) (p : Prepared) → (w.found W.server c).works W ≡ Some p → HasRead p.reads u)

module _ (w : World) (W : WorkId) (u : LockUnit) (opened : w.opened W ≡ true) (h : HasReadAll w W u) where
  abbrev Reads : StableState → Type 0
  Reads x = (p : Prepared) → x.works W ≡ Some p → HasRead p.reads u

  made-reads : (step : Change) (x : StableState) → MayMake w x step → Reads x → Reads (made_by step x)
  made-reads (AddReady head list reads) x m k = absurd m
  made-reads (MarkGoing V) x m k = λ p e. by p (at_work_cases x.works V (gone_on (x.works V)) W (Some p) e)
    where
      by : (p : Prepared) → ((V ≡ W) × (gone_on (x.works V) ≡ Some p)) ⊎ ((V ≢ W) × (x.works W ≡ Some p)) → HasRead p.reads u
      by p (inl q) = let g = was-going (x.works V) p q.1 in subst (λ us. HasRead us u) g.3 (k g.0 (subst (λ (U : WorkId). x.works U ≡ Some g.0) q.0 g.1))
      by p (inr q) = k p q.1
  made-reads (CarryOut V i) x m k = k
  made-reads (RemoveWork V) x m k = λ p e. by p (at_work_cases x.works V None W (Some p) e)
    where
      by : (p : Prepared) → ((V ≡ W) × (None ≡ Some p)) ⊎ ((V ≢ W) × (x.works W ≡ Some p)) → HasRead p.reads u
      by p (inl q) = absurd (none_some p q.1)
      by p (inr q) = k p q.1
  made-reads (AddFlag flag) x m k = k
  made-reads (DropFlag T) x m k = k

  keeps-reads : (a : Atom) → May a w → Keeps w W Reads a
  keeps-reads (Make done step) m = λ c e k. made-reads step (w.found (server_of step) c) (m c) k
  keeps-reads (Prepare done head list reads) m = λ c e k p q. by c k p (at_work_cases (w.found head.work.server c).works head.work (Some (ready_work head list reads)) W (Some p) q)
    where
      by : (c : Pick) → Reads (w.found head.work.server c) → (p : Prepared) → ((head.work ≡ W) × (Some (ready_work head list reads) ≡ Some p)) ⊎ ((head.work ≢ W) × ((w.found head.work.server c).works W ≡ Some p)) → HasRead p.reads u
      by c k p (inl q) = subst (λ (z : Prepared). HasRead z.reads u) (some_is (ready_work head list reads) p q.1) (h.0 (record { list = list; reads = reads }) (subst (λ (U : WorkId). w.active U ≡ Some (record { list = list; reads = reads })) q.0 (m c).active))
      by c k p (inr q) = k p q.1
  keeps-reads (CarryPart V i is) m = λ c e k. k
  keeps-reads _ m = tt

  -- a work is lost, or goes on so
  lost-reads : (V : WorkId) (a : Working) → at_work w.active V None W ≡ Some a → HasRead a.reads u
  lost-reads V a e = by (at_work_cases w.active V None W (Some a) e)
    where
      by : ((V ≡ W) × (None ≡ Some a)) ⊎ ((V ≢ W) × (w.active W ≡ Some a)) → HasRead a.reads u
      by (inl q) = absurd (none_some a q.1)
      by (inr q) = h.0 a q.1

  active-reads : (x : Atom) → May x w → NamesFact w → (a : Working) → (after x w).active W ≡ Some a → HasRead a.reads u
  active-reads (Open V T) m n a e = by (at_work_cases w.active V (Some new_work) W (Some a) e)
    where
      by : ((V ≡ W) × (Some new_work ≡ Some a)) ⊎ ((V ≢ W) × (w.active W ≡ Some a)) → HasRead a.reads u
      by (inl q) = absurd (not_both (w.opened W) opened (subst (λ (U : WorkId). w.opened U ≡ false) q.0 (fresh_work w V T n m)))
      by (inr q) = h.0 a q.1
  active-reads (Perform V answered b) m n a e = by (at_work_cases w.active V (Some b) W (Some a) e)
    where
      by : ((V ≡ W) × (Some b ≡ Some a)) ⊎ ((V ≢ W) × (w.active W ≡ Some a)) → HasRead a.reads u
      by (inl q) = subst (λ (z : Working). HasRead z.reads u) (some_is b a q.1) (m.kept u (h.0 m.before (subst (λ (U : WorkId). w.active U ≡ Some m.before) q.0 m.is)))
      by (inr q) = h.0 a q.1
  active-reads (Lose V) m n a e = lost-reads V a e
  active-reads (Prepare done head list reads) m n a e = lost-reads head.work a e
  active-reads (Crash s) m n a e = by (server_eq s W.server) e
    where
      by : (b : Bool) → (if b then None else w.active W) ≡ Some a → HasRead a.reads u
      by true k = absurd (none_some a k)
      by false k = h.0 a k
  active-reads _ m n a e = h.0 a e

pub reads-still : (atoms : List Atom) (w : World) (W : WorkId) (u : LockUnit) → MayRun atoms w → Invariant w → w.opened W ≡ true → HasReadAll w W u → HasReadAll (run atoms w) W u
reads-still [] w W u m inv opened h = h
reads-still (a ∷ atoms) w W u m inv opened h = reads-still atoms (after a w) W u m.1 (step_kept a w m.0 inv) ((grows a w m.0 inv.names).opened W opened)
    (active-reads w W u opened h a m.0 inv.names, atom-all w W (Reads w W u opened h) (λ x n k. k) (λ x f k. k) a (keeps-reads w W u opened h a m.0) h.1)
