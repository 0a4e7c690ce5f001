-- What is granted stands in nobody's way.
use Rattle.jn_system.proofs.Common.{◌≡◌, ◌⊎◌, inl, inr, Bool, true, false, List, [], ◌∷◌, Option, Some, None, refl, sym, subst, arith, ◌&&◌, not, if◌then◌else◌, WorkId, LockUnit, work_eq, Mode, Read, IntentionWrite, Commit, together, is_unit, unit_tells, Work, Phase, WorkerTable, Wanted, Held, has_mode, units_for, holds, gives_way, collides_at, collision, holder_at, held_by, conflict, breaks_at, work_at}

-- what a work in this phase holds goes with what is wanted
abbrev pub Clear : Phase → List Wanted → Type 0
Clear phase wants = (u : LockUnit) (m n : Mode) → is_unit (units_for m wants) u ≡ true → holds phase u n ≡ true → together m n ≡ true

at_one : (phase : Phase) (want : Wanted) (m n : Mode) → collides_at phase want ≡ false → has_mode m want.modes ≡ true → holds phase want.unit n ≡ true → together m n ≡ true
at_one phase want Read Read h a b = refl
at_one phase want Read IntentionWrite h a b = refl
at_one phase want Read Commit h a b = grind arith
at_one phase want IntentionWrite Read h a b = refl
at_one phase want IntentionWrite IntentionWrite h a b = grind arith
at_one phase want IntentionWrite Commit h a b = grind arith
at_one phase want Commit Read h a b = grind arith
at_one phase want Commit IntentionWrite h a b = grind arith
at_one phase want Commit Commit h a b = grind arith

wanted_cases : (m : Mode) (want : Wanted) (wants : List Wanted) (u : LockUnit) → is_unit (units_for m (want ∷ wants)) u ≡ true
    → ((has_mode m want.modes ≡ true) × (want.unit ≡ u)) ⊎ (is_unit (units_for m wants) u ≡ true)
wanted_cases m want wants u h = grind (arith, unit_tells want.unit u)

here_or_on : (phase : Phase) (want : Wanted) (wants : List Wanted) → collides_at phase want ≡ false → Clear phase wants → Clear phase (want ∷ wants)
here_or_on phase want wants h k u m n a b = by (wanted_cases m want wants u a)
  where
    by : ((has_mode m want.modes ≡ true) × (want.unit ≡ u)) ⊎ (is_unit (units_for m wants) u ≡ true) → together m n ≡ true
    by (inl p) = at_one phase want m n h p.0 (subst (λ (x : LockUnit). holds phase x n ≡ true) (sym p.1) b)
    by (inr p) = k u m n p b

nothing : (phase : Phase) → Clear phase []
nothing phase u m n a b = absurd (grind arith)

pub no_collision : (phase : Phase) (wants : List Wanted) → collision phase wants ≡ None → Clear phase wants
no_collision phase [] h = nothing phase
no_collision phase (want ∷ wants) h = here_or_on phase want wants (first (collides_at phase want) h) (no_collision phase wants (later (collides_at phase want) h))
  where
    first : (b : Bool) → (if b then Some want.unit else collision phase wants) ≡ None → b ≡ false
    first true e = absurd (grind arith)
    first false e = refl

    later : (b : Bool) → (if b then Some want.unit else collision phase wants) ≡ None → collision phase wants ≡ None
    later true e = absurd (grind arith)
    later false e = e

none_held : (u : LockUnit) (o : Option Work) (later : Option Held) → held_by u o later ≡ None → (o ≡ None) × (later ≡ None)
none_held u (Some v) later h = absurd (grind arith)
none_held u None later h = (refl, h)

no_holder : (W V : WorkId) (want : Wanted) (t : WorkerTable) (v : Work) → holder_at W want t ≡ None → work_at V t ≡ Some v → work_eq v.name W ≡ false → gives_way v.phase ≡ false
    → collides_at v.phase want ≡ false
no_holder W V want [] v h k = absurd (grind arith)
no_holder W V want (x ∷ xs) v h k = by (work_eq x.name V) k (no_holder W V want xs v (later (stands x) h))
  where
    stands : Work → Bool
    stands y = not (work_eq y.name W) && (collides_at y.phase want && not (gives_way y.phase))

    first : (b : Bool) → (if b then Some x else holder_at W want xs) ≡ None → b ≡ false
    first true e = absurd (grind arith)
    first false e = refl

    later : (b : Bool) → (if b then Some x else holder_at W want xs) ≡ None → holder_at W want xs ≡ None
    later true e = absurd (grind arith)
    later false e = e

    by : (b : Bool) → (if b then Some x else work_at V xs) ≡ Some v
        → (work_at V xs ≡ Some v → work_eq v.name W ≡ false → gives_way v.phase ≡ false → collides_at v.phase want ≡ false)
        → work_eq v.name W ≡ false → gives_way v.phase ≡ false → collides_at v.phase want ≡ false
    by true e on n g = let same = found e in let f = subst (λ (y : Work). stands y ≡ false) same (first (stands x) h) in grind (arith, f)
      where
        found : Some x ≡ Some v → x ≡ v
        found q = cc
    by false e on n g = on e n g

pub no_conflict : (W V : WorkId) (wants : List Wanted) (t : WorkerTable) (v : Work) → conflict W wants t ≡ None → work_at V t ≡ Some v → work_eq v.name W ≡ false → gives_way v.phase ≡ false
    → Clear v.phase wants
no_conflict W V [] t v h k e g = nothing v.phase
no_conflict W V (want ∷ wants) t v h k e g =
    let both = none_held want.unit (holder_at W want t) (conflict W wants t) h in
    here_or_on v.phase want wants (no_holder W V want t v both.0 k e g) (no_conflict W V wants t v both.1 k e g)

-- another work that isn't broken by a grant
pub unbroken : (W V : WorkId) (wants : List Wanted) (t : WorkerTable) (v : Work) → conflict W wants t ≡ None → work_at V t ≡ Some v → work_eq v.name W ≡ false → breaks_at W wants v ≡ None
    → Clear v.phase wants
unbroken W V wants t v h k e n = by (gives_way v.phase) refl
  where
    by : (b : Bool) → gives_way v.phase ≡ b → Clear v.phase wants
    by true g = no_collision v.phase wants (grind arith)
    by false g = no_conflict W V wants t v h k e g
