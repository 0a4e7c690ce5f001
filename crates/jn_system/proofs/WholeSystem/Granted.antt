-- What becomes of the works of a table when one of them changes its phase, and others break at what it is granted.
use Rattle.jn_system.proofs.Common.{◌≡◌, ◌≢◌, Bool, true, false, List, [], ◌∷◌, Option, Some, None, is_some, refl, sym, ◌∙◌, ap, subst, arith, ◌&&◌, not, if◌then◌else◌, Tid, WorkId, LockUnit, work_eq, work_tells, Work, Phase, Broken, WorkerTable, Wanted, gives_way, breaks_at, broken_by, after_grant, with_phase, work_at, collision, conflict, are_rising, is_after, work_is, work_same, found-name, in_phase, at-phase, rising-phase, once_granted, at-grant, rising-grant}
use Rattle.jn_system.proofs.WholeSystem.Clear.{Clear, unbroken}

-- where a work of the new table comes from
pub data Origin (W : WorkId) (wants : List Wanted) (phase : Phase) (t : WorkerTable) (V : WorkId) (now : Work) : Type 0 where
  Mine : W ≡ V → (w : Work) → work_at W t ≡ Some w → now ≡ record w { phase = phase } → Origin W wants phase t V now
  Kept : W ≢ V → work_at V t ≡ Some now → Clear now.phase wants → Origin W wants phase t V now
  Broke : W ≢ V → (v : Work) → work_at V t ≡ Some v → gives_way v.phase ≡ true → (u : LockUnit) (T : Tid) → now ≡ record v { phase = Broken u T } → Origin W wants phase t V now

pub record Regrants (W : WorkId) (wants : List Wanted) (phase : Phase) (t now : WorkerTable) : Type 0 where
  pub rising : are_rising now ≡ are_rising t
  pub before : (N : WorkId) → is_after N now ≡ is_after N t
  pub there : (V : WorkId) → is_some (work_at V now) ≡ is_some (work_at V t)
  pub origin : (V : WorkId) (v : Work) → work_at V now ≡ Some v → Origin W wants phase t V v

-- ---- names

pub after-phase : (N W : WorkId) (phase : Phase) (t : WorkerTable) → is_after N (with_phase W phase t) ≡ is_after N t
after-phase N W phase [] = refl
after-phase N W phase (x ∷ xs) = grind (arith, after-phase N W phase xs)

name-kept : (T : Tid) (at : Option LockUnit) (v : Work) → (broken_by T at v).name ≡ v.name
name-kept T None v = refl
name-kept T (Some u) v = refl

after-grant : (N : WorkId) (T : Tid) (W : WorkId) (wants : List Wanted) (t : WorkerTable) → is_after N (after_grant T W wants t) ≡ is_after N t
after-grant N T W wants [] = refl
after-grant N T W wants (x ∷ xs) = let n = name-kept T (breaks_at W wants x) x in let rest = after-grant N T W wants xs in cc

some-same : {A : Type 0} → (a b : A) → Some a ≡ Some b → a ≡ b
some-same a b e = cc

-- ---- one work changes its phase

nothing-wanted : (phase : Phase) → Clear phase []
nothing-wanted phase u m n a b = absurd (grind arith)

some-in-phase : (phase : Phase) (o : Option Work) → is_some (in_phase phase o) ≡ is_some o
some-in-phase phase None = refl
some-in-phase phase (Some w) = refl

in-phase-is : (phase : Phase) (o : Option Work) (v : Work) → in_phase phase o ≡ Some v → (w : Work) × ((o ≡ Some w) × (v ≡ record w { phase = phase }))
in-phase-is phase None v h = absurd (grind arith)
in-phase-is phase (Some w) v h = (w, (refl, sym (some-same (record w { phase = phase }) v h)))

pub phase_changed : (W : WorkId) (phase : Phase) (t : WorkerTable) → Regrants W [] phase t (with_phase W phase t)
phase_changed W phase t = record {
  rising = rising-phase W phase t;
  before = λ N. after-phase N W phase t;
  there = λ V. ap is_some (at-phase V W phase t) ∙ stands V (work_eq W V);
  origin = λ V v h. comes V v (work_eq W V) refl (sym (at-phase V W phase t) ∙ h);
}
  where
    stands : (V : WorkId) (b : Bool) → is_some (if b then in_phase phase (work_at V t) else work_at V t) ≡ is_some (work_at V t)
    stands V true = some-in-phase phase (work_at V t)
    stands V false = refl

    comes : (V : WorkId) (v : Work) (b : Bool) → work_eq W V ≡ b → (if b then in_phase phase (work_at V t) else work_at V t) ≡ Some v → Origin W [] phase t V v
    comes V v true e h = let was = in-phase-is phase (work_at V t) v h in let same = work_is W V e in
        Mine same was.0 (subst (λ (x : WorkId). work_at x t ≡ Some was.0) (sym same) was.1.0) was.1.1
    comes V v false e h = Kept (other e) h (nothing-wanted v.phase)
      where
        other : work_eq W V ≡ false → W ≢ V
        other k = grind (arith, work_tells W V)

-- ---- and others break

some-granted : (T : Tid) (W : WorkId) (wants : List Wanted) (o : Option Work) → is_some (once_granted T W wants o) ≡ is_some o
some-granted T W wants None = refl
some-granted T W wants (Some v) = refl

gave-way : (W : WorkId) (wants : List Wanted) (v : Work) (u : LockUnit) → breaks_at W wants v ≡ Some u → gives_way v.phase ≡ true
gave-way W wants v u h = by (work_eq v.name W) (gives_way v.phase) h
  where
    by : (a b : Bool) → (if not a && b then collision v.phase wants else None) ≡ Some u → b ≡ true
    by true b e = absurd (grind arith)
    by false true e = refl
    by false false e = absurd (grind arith)

granted-is : (T : Tid) (W : WorkId) (wants : List Wanted) (o : Option Work) (v : Work) → once_granted T W wants o ≡ Some v → (w : Work) × ((o ≡ Some w) × (v ≡ broken_by T (breaks_at W wants w) w))
granted-is T W wants None v h = absurd (grind arith)
granted-is T W wants (Some w) v h = (w, (refl, sym (some-same (broken_by T (breaks_at W wants w) w) v h)))

-- the work itself doesn't break
own : (T : Tid) (W : WorkId) (wants : List Wanted) (w : Work) → w.name ≡ W → broken_by T (breaks_at W wants w) w ≡ w
own T W wants w e = ap (λ b. broken_by T (if not b && gives_way w.phase then collision w.phase wants else None) w) (subst (λ (x : WorkId). work_eq w.name x ≡ true) e (work_same w.name))

pub granted : (T : Tid) (W : WorkId) (wants : List Wanted) (phase : Phase) (t : WorkerTable) → conflict W wants t ≡ None → Regrants W wants phase t (with_phase W phase (after_grant T W wants t))
granted T W wants phase t free = record {
  rising = rising-phase W phase (after_grant T W wants t) ∙ rising-grant T W wants t;
  before = λ N. after-phase N W phase (after_grant T W wants t) ∙ after-grant N T W wants t;
  there = λ V. ap is_some (at-phase V W phase (after_grant T W wants t)) ∙ stands V (work_eq W V);
  origin = λ V v h. comes V v (work_eq W V) refl (sym (at-phase V W phase (after_grant T W wants t)) ∙ h);
}
  where
    stays : (V : WorkId) → is_some (work_at V (after_grant T W wants t)) ≡ is_some (work_at V t)
    stays V = ap is_some (at-grant T W wants V t) ∙ some-granted T W wants (work_at V t)

    stands : (V : WorkId) (b : Bool) → is_some (if b then in_phase phase (work_at V (after_grant T W wants t)) else work_at V (after_grant T W wants t)) ≡ is_some (work_at V t)
    stands V true = some-in-phase phase (work_at V (after_grant T W wants t)) ∙ stays V
    stands V false = stays V

    other : (V : WorkId) → work_eq W V ≡ false → W ≢ V
    other V k = grind (arith, work_tells W V)

    not_own : (V : WorkId) (w : Work) → work_eq W V ≡ false → w.name ≡ V → work_eq w.name W ≡ false
    not_own V w k e = grind (arith, work_tells W V, work_tells w.name W)

    broken : (V : WorkId) (v w : Work) (b : Option LockUnit) → breaks_at W wants w ≡ b → work_eq W V ≡ false → work_at V t ≡ Some w → v ≡ broken_by T b w → Origin W wants phase t V v
    broken V v w None e k h same = subst (λ (x : Work). Origin W wants phase t V x) (sym same) (Kept (other V k) h (unbroken W V wants t w free h (not_own V w k (found-name V t w h)) e))
    broken V v w (Some u) e k h same = Broke (other V k) w h (gave-way W wants w u e) u T same

    comes : (V : WorkId) (v : Work) (b : Bool) → work_eq W V ≡ b → (if b then in_phase phase (work_at V (after_grant T W wants t)) else work_at V (after_grant T W wants t)) ≡ Some v → Origin W wants phase t V v
    comes V v true e h =
        let now = in-phase-is phase (work_at V (after_grant T W wants t)) v h in
        let was = granted-is T W wants (work_at V t) now.0 (sym (at-grant T W wants V t) ∙ now.1.0) in
        let same = work_is W V e in
        let kept = own T W wants was.0 (found-name V t was.0 was.1.0 ∙ sym same) in
        Mine same was.0 (subst (λ (x : WorkId). work_at x t ≡ Some was.0) (sym same) was.1.0) (now.1.1 ∙ ap (λ (x : Work). record x { phase = phase }) (was.1.1 ∙ kept))
    comes V v false e h =
        let was = granted-is T W wants (work_at V t) v (sym (at-grant T W wants V t) ∙ h) in
        broken V v was.0 (breaks_at W wants was.0) refl e was.1.0 was.1.1
