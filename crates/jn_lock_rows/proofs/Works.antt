-- A worker's works, looked for by name, once one or more of them change.
use Rattle.jn_lock_rows.proofs.Common.{◌≡◌, inl, inr, Bool, true, false, List, [], ◌∷◌, ◌++◌, Option, Some, None, refl, sym, ◌∙◌, subst, arith, nat_tests, ◌&&◌, if◌then◌else◌, Tid, WorkId, LockUnit, work_eq, work_before, work_before-irreflexive, work_before-transitive, Work, Phase, Wanted, work_at, with_phase, without, breaks_at, broken_by, after_grant, is_before, is_after, are_rising, is_ordered, are_ordered}
use Rattle.jn_base.proofs.Tells.{work_tells}

pub not_both : {B : Type 0} → true ≡ false → B
not_both e = absurd (cc e)

pub work_same : (V : WorkId) → work_eq V V ≡ true
work_same V = grind (arith, nat_tests)

pub work_is : (V W : WorkId) → work_eq V W ≡ true → V ≡ W
work_is V W h = elim (work_tells V W) [ inl p ↦ p.1 | inr p ↦ not_both (sym h ∙ p.0) ]

pub work_eq-sym : (V W : WorkId) → work_eq V W ≡ work_eq W V
work_eq-sym V W = grind (arith, nat_tests)

-- ---- before and after

pub not-before : (V W : WorkId) → work_before V W ≡ true → work_eq V W ≡ false
not-before V W h = let t = work_tells V W in let e = work_before-irreflexive V in elim t [ inl p ↦ not_both (sym h ∙ subst (λ (x : WorkId). work_before V x ≡ false) p.1 e) | inr p ↦ p.0 ]

pub asymmetric : (V W : WorkId) → work_before V W ≡ true → work_before W V ≡ false
asymmetric V W h = by (work_before W V) refl
  where
    by : (b : Bool) → work_before W V ≡ b → work_before W V ≡ false
    by true e = not_both (sym (work_before-transitive V W V h e) ∙ work_before-irreflexive V)
    by false e = e

-- no work of that name stands behind
pub none-behind : (V : WorkId) (ws : List Work) → is_before V ws ≡ true → work_at V ws ≡ None
none-behind V [] h = refl
none-behind V (w ∷ ws) h = grind (arith, none-behind V ws, not-before V w.name, work_eq-sym V w.name)

pub none-front : (V : WorkId) (ws : List Work) → is_after V ws ≡ true → work_at V ws ≡ None
none-front V [] h = refl
none-front V (w ∷ ws) h = grind (arith, none-front V ws, not-before w.name V)

-- a work that is found has the name that was looked for
pub found-name : (V : WorkId) (ws : List Work) (v : Work) → work_at V ws ≡ Some v → v.name ≡ V
found-name V [] v h = absurd (cc h)
found-name V (w ∷ ws) v h = by (work_eq w.name V) refl h (found-name V ws v)
  where
    by : (b : Bool) → work_eq w.name V ≡ b → (if b then Some w else work_at V ws) ≡ Some v → (work_at V ws ≡ Some v → v.name ≡ V) → v.name ≡ V
    by true e k rest = subst (λ (x : Work). x.name ≡ V) (some k) (work_is w.name V e)
      where
        some : Some w ≡ Some v → w ≡ v
        some q = cc q
    by false e k rest = rest k

-- and comes after a name that comes before them all
pub found-behind : (V W : WorkId) (ws : List Work) (v : Work) → is_before W ws ≡ true → work_at V ws ≡ Some v → work_before W V ≡ true
found-behind V W [] v k h = absurd (cc h)
found-behind V W (w ∷ ws) v k h = grind (arith, found-behind V W ws v, work_is w.name V)

-- ---- one work more

pub at-more : (V : WorkId) (ws : List Work) (w : Work) → is_after w.name ws ≡ true → work_at V (ws ++ w ∷ []) ≡ (if work_eq w.name V then Some w else work_at V ws)
at-more V [] w h = refl
at-more V (x ∷ xs) w h = grind (arith, at-more V xs w, not-before x.name w.name, work_is w.name V, work_is x.name V, work_same V)

pub before-more : (V : WorkId) (ws : List Work) (w : Work) → is_before V ws ≡ true → work_before V w.name ≡ true → is_before V (ws ++ w ∷ []) ≡ true
before-more V [] w h k = grind arith
before-more V (x ∷ xs) w h k = grind (arith, before-more V xs w)

pub rising-more : (ws : List Work) (w : Work) → are_rising ws ≡ true → is_after w.name ws ≡ true → are_rising (ws ++ w ∷ []) ≡ true
rising-more [] w h k = refl
rising-more (x ∷ xs) w h k = grind (arith, rising-more xs w, before-more x.name xs w)

pub ordered-more : (ws : List Work) (w : Work) → are_ordered ws ≡ true → is_ordered w.phase ≡ true → are_ordered (ws ++ w ∷ []) ≡ true
ordered-more [] w h k = grind arith
ordered-more (x ∷ xs) w h k = grind (arith, ordered-more xs w)

-- ---- one work less

pub at-less : (V W : WorkId) (ws : List Work) → are_rising ws ≡ true → work_at V (without W ws) ≡ (if work_eq W V then None else work_at V ws)
at-less V W [] h = grind arith
at-less V W (x ∷ xs) h = grind (arith, at-less V W xs, none-behind V xs, work_is W V, work_is x.name W, work_is x.name V, work_same V)

pub before-less : (V W : WorkId) (ws : List Work) → is_before V ws ≡ true → is_before V (without W ws) ≡ true
before-less V W [] h = refl
before-less V W (x ∷ xs) h = grind (arith, before-less V W xs)

pub rising-less : (W : WorkId) (ws : List Work) → are_rising ws ≡ true → are_rising (without W ws) ≡ true
rising-less W [] h = refl
rising-less W (x ∷ xs) h = grind (arith, rising-less W xs, before-less x.name W xs)

pub ordered-less : (W : WorkId) (ws : List Work) → are_ordered ws ≡ true → are_ordered (without W ws) ≡ true
ordered-less W [] h = refl
ordered-less W (x ∷ xs) h = grind (arith, ordered-less W xs)

-- ---- a work in another phase

abbrev pub in_phase : Phase → Option Work → Option Work
in_phase phase None = None
in_phase phase (Some w) = Some (record w { phase = phase })

pub at-phase : (V W : WorkId) (phase : Phase) (ws : List Work) → work_at V (with_phase W phase ws) ≡ (if work_eq W V then in_phase phase (work_at V ws) else work_at V ws)
at-phase V W phase [] = grind arith
at-phase V W phase (x ∷ xs) = grind (arith, at-phase V W phase xs, work_is W V, work_is x.name W, work_is x.name V, work_same V)

pub before-phase : (V W : WorkId) (phase : Phase) (ws : List Work) → is_before V (with_phase W phase ws) ≡ is_before V ws
before-phase V W phase [] = refl
before-phase V W phase (x ∷ xs) = grind (arith, before-phase V W phase xs)

pub rising-phase : (W : WorkId) (phase : Phase) (ws : List Work) → are_rising (with_phase W phase ws) ≡ are_rising ws
rising-phase W phase [] = refl
rising-phase W phase (x ∷ xs) = grind (arith, rising-phase W phase xs, before-phase x.name W phase xs)

pub ordered-phase : (W : WorkId) (phase : Phase) (ws : List Work) → are_ordered ws ≡ true → is_ordered phase ≡ true → are_ordered (with_phase W phase ws) ≡ true
ordered-phase W phase [] h k = refl
ordered-phase W phase (x ∷ xs) h k = grind (arith, ordered-phase W phase xs)

-- ---- after a grant

abbrev pub once_granted : Tid → WorkId → List Wanted → Option Work → Option Work
once_granted T W wants None = None
once_granted T W wants (Some v) = Some (broken_by T (breaks_at W wants v) v)

name-kept : (T : Tid) (at : Option LockUnit) (v : Work) → (broken_by T at v).name ≡ v.name
name-kept T None v = refl
name-kept T (Some u) v = refl

ordered-kept : (T : Tid) (at : Option LockUnit) (v : Work) → is_ordered v.phase ≡ true → is_ordered (broken_by T at v).phase ≡ true
ordered-kept T None v h = h
ordered-kept T (Some u) v h = refl

module _ (T : Tid) (W : WorkId) (wants : List Wanted) where
  pub at-grant : (V : WorkId) (ws : List Work) → work_at V (after_grant T W wants ws) ≡ once_granted T W wants (work_at V ws)
  at-grant V [] = refl
  at-grant V (x ∷ xs) = subst (λ (n : WorkId). (if work_eq n V then Some (broken_by T (breaks_at W wants x) x) else work_at V (after_grant T W wants xs)) ≡ once_granted T W wants (if work_eq x.name V then Some x else work_at V xs))
      (sym (name-kept T (breaks_at W wants x) x)) (by (work_eq x.name V) (at-grant V xs))
    where
      by : (b : Bool) → work_at V (after_grant T W wants xs) ≡ once_granted T W wants (work_at V xs)
          → (if b then Some (broken_by T (breaks_at W wants x) x) else work_at V (after_grant T W wants xs)) ≡ once_granted T W wants (if b then Some x else work_at V xs)
      by true e = refl
      by false e = e

  pub before-grant : (V : WorkId) (ws : List Work) → is_before V (after_grant T W wants ws) ≡ is_before V ws
  before-grant V [] = refl
  before-grant V (x ∷ xs) = let n = name-kept T (breaks_at W wants x) x in let rest = before-grant V xs in cc

  pub rising-grant : (ws : List Work) → are_rising (after_grant T W wants ws) ≡ are_rising ws
  rising-grant [] = refl
  rising-grant (x ∷ xs) = let n = name-kept T (breaks_at W wants x) x in let rest = rising-grant xs in let front = before-grant x.name xs in cc

  pub ordered-grant : (ws : List Work) → are_ordered ws ≡ true → are_ordered (after_grant T W wants ws) ≡ true
  ordered-grant [] h = refl
  ordered-grant (x ∷ xs) h = both (is_ordered x.phase) (are_ordered xs) (ordered-kept T (breaks_at W wants x) x) (ordered-grant xs) h
    where
      both : (a b : Bool) → (a ≡ true → is_ordered (broken_by T (breaks_at W wants x) x).phase ≡ true) → (b ≡ true → are_ordered (after_grant T W wants xs) ≡ true) → (a && b) ≡ true
          → (is_ordered (broken_by T (breaks_at W wants x) x).phase && are_ordered (after_grant T W wants xs)) ≡ true
      both true true f g k = let p = f refl in let q = g refl in cc
      both true false f g k = not_both (sym k)
      both false b f g k = not_both (sym k)
