-- What the history says stays so, and the theorem.
use Rattle.jn_system.proofs.Common.{◌≡◌, ◌≢◌, ℕ, true, false, List, [], ◌∷◌, ◌++◌, Option, Some, None, refl, sym, ◌∙◌, ap, subst, arith, ServerNo, LockUnit, Tid, WorkId, tid_tells, AllFiles, StableState, at_work, at_tid, Answered, World, Working, replay, IsSerial, Atom, Perform, End, Name, Decide, perform, end_it, trace_of, name_it, after, run, opening_world, MayPerform, MayEnd, May, MayRun, has_committed, CommitsOnce, HasTraces, IsDone, IsInOrder}
use Rattle.jn_system.proofs.SmallSteps.Invariant.{CoreFacts, Invariant, MayBeFound}
use Rattle.jn_system.specs.SmallSteps.World.{Commit}
use Rattle.jn_system.proofs.SmallSteps.Updates.{not_both, at_work_other, at_tid_other}
use Rattle.jn_system.proofs.SmallSteps.Runs.{step_kept, opening_kept}

-- what holds of the history beside its order
pub record IsTold (files : AllFiles) (w : World) : Type 0 where
  pub opening : w.opening ≡ files
  pub named : (T : Tid) → w.named T ≡ has_committed T w.history
  pub once : CommitsOnce w.history
  pub traces : HasTraces w.trace w.part w.history

abbrev Traces : Type 0
Traces = WorkId → List Answered

abbrev Parts : Type 0
Parts = Tid → ServerNo → Option WorkId

-- what committed transactions did stays so
traces_stay : (f g : Traces) (p q : Parts) (history : List Commit) → ((T : Tid) → has_committed T history ≡ true → (s : ServerNo) → trace_of g (q T s) ≡ trace_of f (p T s))
    → HasTraces f p history → HasTraces g q history
traces_stay f g p q [] same h = tt
traces_stay f g p q (c ∷ history) same h = (
  λ s. h.0 s ∙ sym (same c.tid (here c) s),
  traces_stay f g p q history (λ T k s. same T (later c T k) s) h.1,
)
  where
    here : (c : Commit) → has_committed c.tid (c ∷ history) ≡ true
    here c = grind (arith, tid_tells)

    later : (c : Commit) (T : Tid) → has_committed T history ≡ true → has_committed T (c ∷ history) ≡ true
    later c T k = grind arith

module _ (files : AllFiles) (w : World) (inv : CoreFacts w) (h : IsTold files w) where
  -- a work of a committed transaction has been ready
  was_ready : (T : Tid) → has_committed T w.history ≡ true → (s : ServerNo) (W : WorkId) → w.part T s ≡ Some W → w.was_ready W ≡ true
  was_ready T k = (inv.named T (h.named T ∙ k)).ready

  perform_told : (W : WorkId) (answered : Answered) (a : Working) → MayPerform w W answered a → IsTold files (perform W answered a w)
  perform_told W answered a may = record {
    opening = h.opening;
    named = h.named;
    once = h.once;
    traces = traces_stay w.trace (at_work w.trace W (w.trace W ++ answered ∷ [])) w.part w.part w.history (λ T k s. same T k s (w.part T s) refl) h.traces;
  }
    where
      same : (T : Tid) → has_committed T w.history ≡ true → (s : ServerNo) (o : Option WorkId) → w.part T s ≡ o → trace_of (at_work w.trace W (w.trace W ++ answered ∷ [])) o ≡ trace_of w.trace o
      same T k s None is = refl
      same T k s (Some V) is = at_work_other w.trace W (w.trace W ++ answered ∷ []) V (λ e. not_both (w.was_ready V) (was_ready T k s V is) (subst (λ z. w.was_ready z ≡ false) e (inv.active W may.before may.is).not_ready))

  end_told : (T : Tid) (works : ServerNo → Option WorkId) → MayEnd w T works → IsTold files (end_it T works w)
  end_told T works may = record {
    opening = h.opening;
    named = h.named;
    once = h.once;
    traces = traces_stay w.trace w.trace w.part (at_tid w.part T works) w.history (λ U k s. ap (λ f. trace_of w.trace (f s)) (at_tid_other w.part T works U (other U k))) h.traces;
  }
    where
      other : (U : Tid) → has_committed U w.history ≡ true → T ≢ U
      other U k e = not_both (w.ended U) (inv.named U (h.named U ∙ k)).ended (subst (λ z. w.ended z ≡ false) e may.fresh)

  name_told : (T : Tid) → w.named T ≡ false → IsTold files (name_it T w)
  name_told T fresh = record {
    opening = h.opening;
    named = λ U. one U (h.named U);
    once = (sym (h.named T) ∙ fresh, h.once);
    traces = (λ s. refl, h.traces);
  }
    where
      one : (U : Tid) → w.named U ≡ has_committed U w.history → at_tid w.named T true U ≡ has_committed U (name_it T w).history
      one U e = grind (arith, tid_tells)

pub told_kept : (files : AllFiles) (a : Atom) (w : World) → May a w → CoreFacts w → IsTold files w → IsTold files (after a w)
told_kept files (Perform W answered a) w may inv h = perform_told files w inv h W answered a may
told_kept files (End T works) w may inv h = end_told files w inv h T works may
told_kept files (Name T) w may inv h = name_told files w inv h T may.not_named
told_kept files (Decide flag) w may inv h = let k = name_told files w inv h flag.tid may.1 in record { opening = k.opening; named = k.named; once = k.once; traces = k.traces }
told_kept files _ w may inv h = record { opening = h.opening; named = h.named; once = h.once; traces = h.traces }

pub run_told : (files : AllFiles) (atoms : List Atom) (w : World) → MayRun atoms w → Invariant w → IsTold files w → Invariant (run atoms w) × IsTold files (run atoms w)
run_told files [] w may inv h = (inv, h)
run_told files (a ∷ atoms) w may inv h = run_told files atoms (after a w) may.1 (step_kept a w may.0 inv) (told_kept files a w may.0 inv.core h)

pub opening_told : (files : AllFiles) (epochs : ServerNo → ℕ) → IsTold files (opening_world files epochs)
opening_told files epochs = record { opening = refl; named = λ T. refl; once = tt; traces = tt }

module _ (files : AllFiles) (v : World) (inv : CoreFacts v) (h : IsTold files v) where
  done_writes : (x : StableState) (s : ServerNo) → MayBeFound v s x → (u : LockUnit) → IsDone v x u → x.files u ≡ replay files v.history s u
  done_writes x s f u free = sym (f.disk u (λ W p is n. free W p is (sym (h.named p.tid) ∙ (ap v.named (f.prepared W p is).tid ∙ n)))) ∙ ap (λ z. replay z v.history s u) h.opening

  is_in_order : IsInOrder files v
  is_in_order = record {
    once = h.once;
    traces = h.traces;
    serial = subst (λ z. IsSerial z v.history) h.opening inv.serial;
    shown = λ s c u free. done_writes (v.found s c) s (inv.states s c) u free;
  }

-- the theorem
pub in_order : (files : AllFiles) (epochs : ServerNo → ℕ) (atoms : List Atom) → MayRun atoms (opening_world files epochs) → IsInOrder files (run atoms (opening_world files epochs))
in_order files epochs atoms may = let k = run_told files atoms (opening_world files epochs) may (opening_kept files epochs) (opening_told files epochs) in
    is_in_order files (run atoms (opening_world files epochs)) k.0.core k.1
