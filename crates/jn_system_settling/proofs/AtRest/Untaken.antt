-- A work that takes no operations takes none ever after, whatever steps come: its name isn't given again, and what is stable of it takes none.
use Rattle.jn_system_settling.proofs.Common.{◌≡◌, ◌≢◌, ◌⊎◌, inl, inr, ℕ, Bool, true, false, List, [], ◌∷◌, Option, Some, None, refl, sym, ◌∙◌, ap, subst, if◌then◌else◌, ServerNo, WorkId, server_eq, work_eq, AllFiles, Work, Phase, Active, Broken, Stored, work_at, Machine, Invariant, run_atoms, not_both, clash, World, Memory, Step, IsStep, after, active_in, working_of, working_in, Reached, ActiveWork, Working, Atom, Perform, Lose, Prepare, Crash, new_working, after_atom, May, MayRun, NamesFact, step_kept, at_work_cases, Next, step-next, IsActive}
use Rattle.jn_system.specs.SmallSteps.Steps.{Open}
use Rattle.jn_system.proofs.SmallSteps.NameLemmas.{fresh_work}
use Rattle.jn_system.proofs.SmallSteps.MessageLemmas.{grows}
use Rattle.jn_system_settling.proofs.AtRest.Standing.{machine, inv}

-- ---- the machine of small steps

at-none : (f : WorkId → Option Working) (V W : WorkId) (x : Option Working) → (V ≡ W → x ≡ None) → f W ≡ None → (if work_eq V W then x else f W) ≡ None
at-none f V W x h k = by (at_work_cases f V x W (if work_eq V W then x else f W) refl)
  where
    by : ((V ≡ W) × (x ≡ (if work_eq V W then x else f W))) ⊎ ((V ≢ W) × (f W ≡ (if work_eq V W then x else f W))) → (if work_eq V W then x else f W) ≡ None
    by (inl p) = sym p.1 ∙ h p.0
    by (inr p) = sym p.1 ∙ k

module _ (w : Machine) (W : WorkId) (opened : w.opened W ≡ true) (none : w.active W ≡ None) where
  atom-none : (a : Atom) → May a w → NamesFact w → (after_atom a w).active W ≡ None
  atom-none (Open V T) m n = at-none w.active V W (Some new_working) (λ e. absurd (not_both (w.opened W) opened (subst (λ (U : WorkId). w.opened U ≡ false) e (fresh_work w V T n m)))) none
  atom-none (Perform V answered a) m n = at-none w.active V W (Some a) (λ e. absurd (clash (w.active W) m.before (subst (λ (U : WorkId). w.active U ≡ Some m.before) e m.is) none)) none
  atom-none (Lose V) m n = at-none w.active V W None (λ e. refl) none
  atom-none (Prepare done head list reads) m n = at-none w.active head.work W None (λ e. refl) none
  atom-none (Crash s) m n = by (server_eq s W.server)
    where
      by : (b : Bool) → (if b then None else w.active W) ≡ None
      by true = refl
      by false = none
  atom-none a m n = none

run-none : (atoms : List Atom) (w : Machine) (W : WorkId) → MayRun atoms w → Invariant w → w.opened W ≡ true → w.active W ≡ None → (run_atoms atoms w).active W ≡ None
run-none [] w W m i opened none = none
run-none (a ∷ atoms) w W m i opened none = run-none atoms (after_atom a w) W m.1 (step_kept a w m.0 i) ((grows a w m.0 i.names).opened W opened) (atom-none w W opened none a m.0 i.names)

-- ---- the whole system

module _ (files : AllFiles) (epochs : ServerNo → ℕ) (r : World) (R : Reached files epochs r) (W : WorkId) (opened : (machine files epochs r R).opened W ≡ true) where
  pub next-untaken : (step : Step) → IsStep step r → active_in (r.memory W.server) W ≡ None → active_in ((after step r).memory W.server) W ≡ None
  next-untaken step i none = by (step-next files epochs R.atoms R.may r R.mirrors R.facts R.locks step i)
    where
      by : Next (after step r) (machine files epochs r R) → active_in ((after step r).memory W.server) W ≡ None
      by next = sym (next.mirrors.active W) ∙ run-none next.atoms (machine files epochs r R) W next.may (inv files epochs r R) opened (R.mirrors.active W ∙ none)

pub untaken-is : (r : World) (W : WorkId) → ((a : ActiveWork) → IsActive r W a → ⊥) → active_in (r.memory W.server) W ≡ None
untaken-is r W h = by (r.memory W.server) refl
  where
    by : (o : Option Memory) → r.memory W.server ≡ o → active_in (r.memory W.server) W ≡ None
    by None e = ap (λ o. active_in o W) e
    by (Some m) e = ap (λ o. active_in o W) e ∙ at (work_at W m.worker) refl
      where
        at : (o : Option Work) → work_at W m.worker ≡ o → working_of (work_at W m.worker) ≡ None
        at None q = ap working_of q
        at (Some v) q = ap working_of q ∙ phase v.phase refl
          where
            phase : (p : Phase) → v.phase ≡ p → working_in v.phase ≡ None
            phase (Active a) f = absurd (h a (record { memory = m; up = e; work = v; is = q; active = f }))
            phase (Broken u T) f = ap working_in f
            phase (Stored p) f = ap working_in f

pub untaken-active : (r : World) (W : WorkId) → active_in (r.memory W.server) W ≡ None → (a : ActiveWork) → IsActive r W a → ⊥
untaken-active r W none a h = no (record { list = a.list; reads = a.reads }) (sym none ∙ ap (λ o. active_in o W) h.up ∙ ap working_of h.is ∙ ap working_in h.active)
  where
    no : (x : Working) → None ≡ Some x → ⊥
    no x e = cc
