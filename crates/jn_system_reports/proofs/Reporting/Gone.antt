-- A work that is nowhere stays so, and never becomes ready.
use Rattle.jn_system_reports.proofs.Common.{◌≡◌, ◌≢◌, ◌⊎◌, inl, inr, Bool, true, false, List, [], ◌∷◌, Option, Some, None, is_some, refl, sym, ◌∙◌, ap, subst, if◌then◌else◌, ServerNo, WorkId, server_eq, work_eq, server_tells, work_tells, StableState, Pick, Change, AddReady, MarkGoing, CarryOut, RemoveWork, AddFlag, DropFlag, at_work, gone_on, made_by, NamesFact, Invariant, Atom, Perform, Lose, Prepare, Learn, NoteReady, NoteOver, Close, Make, Count, Name, Decide, RaiseEpoch, changed, server_of, with_epoch, May, MayRun, MayMake, fresh_work, step_kept, not_both, clash, some_none, Narrow, Crash, Restart, CarryPart, carried_at, LockUnit, Intention}
use Rattle.jn_system.specs.SmallSteps.World.{World}
use Rattle.jn_system.specs.SmallSteps.Steps.{Begin, Open, End, Abort, after, run}

-- its server has it neither in memory nor in a state that may be found
pub record Gone (w : World) (W : WorkId) : Type 0 where
  pub opened : w.opened W ≡ true
  pub not_active : w.active W ≡ None
  pub nowhere : (c : Pick) → (w.found W.server c).works W ≡ None
  pub not_ready : w.was_ready W ≡ false

at-either : {A : Type 0} → (f : WorkId → Option A) (V W : WorkId) (x : Option A) → (V ≡ W → x ≡ None) → f W ≡ None → at_work f V x W ≡ None
at-either f V W x h k = by (work_tells V W)
  where
    by : ((work_eq V W ≡ true) × (V ≡ W)) ⊎ ((work_eq V W ≡ false) × (V ≢ W)) → (if work_eq V W then x else f W) ≡ None
    by (inl p) = ap (λ (b : Bool). if b then x else f W) p.0 ∙ h p.1
    by (inr p) = ap (λ (b : Bool). if b then x else f W) p.0 ∙ k

-- a change of one server's states
module _ (w : World) (W : WorkId) (g : Gone w W) where
  -- where nothing of the work comes
  put-nowhere : (s : ServerNo) (done : Pick → Bool) (f : StableState → StableState) → ((c : Pick) → (w.found s c).works W ≡ None → (f (w.found s c)).works W ≡ None) → (c : Pick) → (changed w.found s done f W.server c).works W ≡ None
  put-nowhere s done f h c = by (server_tells s W.server)
    where
      either : (b : Bool) → (w.found s c).works W ≡ None → (if b then f (w.found s c) else w.found s c).works W ≡ None
      either true k = h c k
      either false k = k

      by : ((server_eq s W.server ≡ true) × (s ≡ W.server)) ⊎ ((server_eq s W.server ≡ false) × (s ≢ W.server)) → (if server_eq s W.server then (if done c then f (w.found s c) else w.found s c) else w.found W.server c).works W ≡ None
      by (inl p) = ap (λ (b : Bool). (if b then (if done c then f (w.found s c) else w.found s c) else w.found W.server c).works W) p.0 ∙ either (done c) (subst (λ (q : ServerNo). (w.found q c).works W ≡ None) (sym p.1) (g.nowhere c))
      by (inr p) = ap (λ (b : Bool). (if b then (if done c then f (w.found s c) else w.found s c) else w.found W.server c).works W) p.0 ∙ g.nowhere c

  narrow-nowhere : (s : ServerNo) (n : Pick → Pick) (c : Pick) → (if server_eq s W.server then w.found s (n c) else w.found W.server c).works W ≡ None
  narrow-nowhere s n c = by (server_tells s W.server)
    where
      by : ((server_eq s W.server ≡ true) × (s ≡ W.server)) ⊎ ((server_eq s W.server ≡ false) × (s ≢ W.server)) → (if server_eq s W.server then w.found s (n c) else w.found W.server c).works W ≡ None
      by (inl p) = ap (λ (b : Bool). (if b then w.found s (n c) else w.found W.server c).works W) p.0 ∙ subst (λ (q : ServerNo). (w.found q (n c)).works W ≡ None) (sym p.1) (g.nowhere (n c))
      by (inr p) = ap (λ (b : Bool). (if b then w.found s (n c) else w.found W.server c).works W) p.0 ∙ g.nowhere c

  part-nowhere : (s : ServerNo) (i : Intention) (is : Pick → LockUnit → Bool) (c : Pick) → (if server_eq s W.server then carried_at (is c) i (w.found s c) else w.found W.server c).works W ≡ None
  part-nowhere s i is c = by (server_tells s W.server)
    where
      by : ((server_eq s W.server ≡ true) × (s ≡ W.server)) ⊎ ((server_eq s W.server ≡ false) × (s ≢ W.server)) → (if server_eq s W.server then carried_at (is c) i (w.found s c) else w.found W.server c).works W ≡ None
      by (inl p) = ap (λ (b : Bool). (if b then carried_at (is c) i (w.found s c) else w.found W.server c).works W) p.0 ∙ subst (λ (q : ServerNo). (w.found q c).works W ≡ None) (sym p.1) (g.nowhere c)
      by (inr p) = ap (λ (b : Bool). (if b then carried_at (is c) i (w.found s c) else w.found W.server c).works W) p.0 ∙ g.nowhere c

  made-nowhere : (change : Change) (x : StableState) → MayMake w x change → x.works W ≡ None → (made_by change x).works W ≡ None
  made-nowhere (AddReady head list reads) x m k = absurd m
  made-nowhere (MarkGoing V) x m k = at-either x.works V W (gone_on (x.works V)) (λ e. ap (λ (U : WorkId). gone_on (x.works U)) e ∙ ap gone_on k) k
  made-nowhere (CarryOut V i) x m k = k
  made-nowhere (RemoveWork V) x m k = at-either x.works V W None (λ e. refl) k
  made-nowhere (AddFlag flag) x m k = k
  made-nowhere (DropFlag T) x m k = k

  other : (V : WorkId) → (V ≡ W → ⊥) → work_eq V W ≡ false
  other V ne = by (work_tells V W)
    where
      by : ((work_eq V W ≡ true) × (V ≡ W)) ⊎ ((work_eq V W ≡ false) × (V ≢ W)) → work_eq V W ≡ false
      by (inl p) = absurd (ne p.1)
      by (inr p) = p.0

  still : (v : World) → v.opened ≡ w.opened → v.active ≡ w.active → ((c : Pick) → (v.found W.server c).works W ≡ None) → v.was_ready ≡ w.was_ready → Gone v W
  still v o a f r = record { opened = ap (λ k. k W) o ∙ g.opened; not_active = ap (λ k. k W) a ∙ g.not_active; nowhere = f; not_ready = ap (λ k. k W) r ∙ g.not_ready }

  pub atom-gone : (a : Atom) → May a w → NamesFact w → Gone (after a w) W
  atom-gone (Begin T) m n = still _ refl refl g.nowhere refl
  atom-gone (Open V T) m n = let ne = other V (λ e. not_both (w.opened W) g.opened (subst (λ (U : WorkId). w.opened U ≡ false) e (fresh_work w V T n m))) in record {
    opened = ap (λ (b : Bool). if b then true else w.opened W) ne ∙ g.opened;
    not_active = ap (λ (b : Bool). if b then Some (record { list = []; reads = [] }) else w.active W) ne ∙ g.not_active;
    nowhere = g.nowhere;
    not_ready = g.not_ready;
  }
  atom-gone (Perform V answered a) m n = let ne = other V (λ e. clash (w.active W) m.before (subst (λ (U : WorkId). w.active U ≡ Some m.before) e m.is) g.not_active) in record {
    opened = g.opened;
    not_active = ap (λ (b : Bool). if b then Some a else w.active W) ne ∙ g.not_active;
    nowhere = g.nowhere;
    not_ready = g.not_ready;
  }
  atom-gone (Lose V) m n = record { opened = g.opened; not_active = at-either w.active V W None (λ e. refl) g.not_active; nowhere = g.nowhere; not_ready = g.not_ready }
  atom-gone (Prepare done head list reads) m n = let ne = other head.work (λ e. clash (w.active W) (record { list = list; reads = reads }) (subst (λ (U : WorkId). w.active U ≡ Some (record { list = list; reads = reads })) e (m (λ k. false)).active) g.not_active) in record {
    opened = g.opened;
    not_active = at-either w.active head.work W None (λ e. refl) g.not_active;
    nowhere = put-nowhere head.work.server done (made_by (AddReady head list reads)) (λ c k. ap (λ (b : Bool). if b then Some (record { tid = head.tid; client = head.client; list = list; reads = reads; going = false }) else (w.found head.work.server c).works W) ne ∙ k);
    not_ready = g.not_ready;
  }
  atom-gone (End T parts) m n = still _ refl refl g.nowhere refl
  atom-gone (Learn T k) m n = still _ refl refl g.nowhere refl
  atom-gone (NoteReady V) m n = let ne = other V (λ e. some_none ((w.found W.server (λ k. false)).works W) (subst (λ (U : WorkId). is_some ((w.found U.server (λ k. false)).works U) ≡ true) e (m (λ k. false))) (g.nowhere (λ k. false))) in record {
    opened = g.opened;
    not_active = g.not_active;
    nowhere = g.nowhere;
    not_ready = ap (λ (b : Bool). if b then true else w.was_ready W) ne ∙ g.not_ready;
  }
  atom-gone (NoteOver V) m n = still _ refl refl g.nowhere refl
  atom-gone (Abort T) m n = still _ refl refl g.nowhere refl
  atom-gone (Close T) m n = still _ refl refl g.nowhere refl
  atom-gone (Make done change) m n = still _ refl refl (put-nowhere (server_of change) done (made_by change) (λ c k. made-nowhere change (w.found (server_of change) c) (m c) k)) refl
  atom-gone (CarryPart V i is) m n = still _ refl refl (part-nowhere V.server i is) refl
  atom-gone (Count V k) m n = still _ refl refl g.nowhere refl
  atom-gone (Name T) m n = still _ refl refl g.nowhere refl
  atom-gone (Decide flag) m n = still _ refl refl (put-nowhere flag.tid.server (λ c. true) (made_by (AddFlag flag)) (λ c k. k)) refl
  atom-gone (Narrow s f) m n = still _ refl refl (narrow-nowhere s f) refl
  atom-gone (RaiseEpoch s done) m n = still _ refl refl (put-nowhere s done with_epoch (λ c k. k)) refl
  atom-gone (Crash s) m n = record { opened = g.opened; not_active = by (server_eq s W.server); nowhere = g.nowhere; not_ready = g.not_ready }
    where
      by : (b : Bool) → (if b then None else w.active W) ≡ None
      by true = refl
      by false = g.not_active
  atom-gone (Restart s x) m n = still _ refl refl (put-nowhere s (λ c. true) with_epoch (λ c k. k)) refl

pub run-gone : (atoms : List Atom) (w : World) (W : WorkId) → MayRun atoms w → Invariant w → Gone w W → Gone (run atoms w) W
run-gone [] w W m inv g = g
run-gone (a ∷ atoms) w W m inv g = run-gone atoms (after a w) W m.1 (step_kept a w m.0 inv) (atom-gone w W g a m.0 inv.names)
