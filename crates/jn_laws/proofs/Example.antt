-- The last Ready of a run that is computed.
use Rattle.jn_laws.proofs.Common.{◌≡◌, ◌≢◌, ◌⊎◌, inl, inr, ℕ, Bool, true, false, refl, sym, subst, arith, ◌||◌, WorkId, work_eq, work_tells}
use Rattle.jn_locks.specs.Locks as locks
use Rattle.jn_system.specs.WholeSystem.ExampleNames.{the_work}
use Rattle.jn_laws.specs.Example.{all_prepared, HandsOverTheLast}

-- there is no other work
alone : (V : WorkId) → ((work_eq the_work V ≡ true) × (the_work ≡ V)) ⊎ ((work_eq the_work V ≡ false) × (the_work ≢ V)) → (work_eq the_work V || false) ≡ true → work_eq V the_work ≡ false → ⊥
alone V (inl t) e f = clash (subst (λ (U : WorkId). work_eq U the_work ≡ false) (sym t.1) f)
  where
    clash : true ≡ false → ⊥
    clash z = cc
alone V (inr t) e f = off (work_eq the_work V) t.0 e
  where
    off : (b : Bool) → b ≡ false → (b || false) ≡ true → ⊥
    off b z k = grind arith

pub the-last-comes : (k : ℕ) × HandsOverTheLast all_prepared k
unfolding locks.unit_before
the-last-comes = (
  10,
  record {
    task = refl;
    number = refl;
    message = refl;
    votes = record { memory = _; up = refl; transaction = _; is = refl; ballot = _; votes = refl };
    last = record { its = refl; others = λ V e f. absurd (alone V (work_tells the_work V) e f) };
  },
)
