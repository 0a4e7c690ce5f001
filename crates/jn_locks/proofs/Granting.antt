-- A grant keeps the locks compatible.
use Rattle.jn_locks.proofs.Common.{◌≡◌, ◌≢◌, ◌⊎◌, inl, inr, Bool, true, false, List, Option, Result, Ok, Err, sym, ◌∙◌, ap, subst, arith, not, ◌&&◌, ◌||◌, if◌then◌else◌, MatchOption, IfOk, OnOk, OnErr, WorkId, LockUnit, work_eq, work_tells, Mode, Read, IntentionWrite, Commit, Standing, Prepared, Broken, together, Table, Wants, holds, IsCompatible, gives_way, some_mode, collides, yields, unit_before, commit_wants, or_active, is_broken, NoConflict, AreBroken, Grants, Asks, Commits, Rebuilds, LocksFit, also, committed}
use Rattle.jn_locks.proofs.Collisions.{and_true, either_true, some_mode_of}
use Rattle.jn_locks.proofs.Breaks.{is_broken_none}

pub together_sym : (m n : Mode) → together m n ≡ together n m
together_sym m n = grind arith

true_unless : (b : Bool) → (not b ≡ true → ⊥) → b ≡ true
true_unless b k = grind arith

not_both : {B : Type 0} → true ≡ false → B
not_both e = absurd (cc e)

module _ (t : Table) (W : WorkId) (wants : Wants) (bs : List Broken) (free : NoConflict t W wants) (broken : AreBroken t W wants bs) where
  no_collision : (V : WorkId) → is_broken bs V ≡ false → (u : LockUnit) → collides t W wants u V ≡ false
  no_collision V h u = by (collides t W wants u V) (gives_way t V) (free u V)
      ((subst (λ (o : Option LockUnit). MatchOption o ((u : LockUnit) → yields t W wants u V ≡ false)
      (λ (at : LockUnit). (yields t W wants at V ≡ true) × ((u : LockUnit) → yields t W wants u V ≡ true → unit_before u at ≡ false))) (is_broken_none bs V h) (broken.each V)) u)
    where
      by : (c g : Bool) → (c && not g) ≡ false → (c && g) ≡ false → c ≡ false
      by c g p q = grind arith

  -- a work that stays holds nothing that a want doesn't go with
  clear : (V : WorkId) → W ≢ V → is_broken bs V ≡ false → (u : LockUnit) (m n : Mode) → wants u m ≡ true → holds t V u n ≡ true → together m n ≡ true
  clear V ne h u m n want hold = true_unless (together m n) (λ k. not_both (sym
      (and_true (not (work_eq V W)) _ (apart (work_tells V W))
      (some_mode_of (λ m. some_mode (λ n. wants u m && (holds t V u n && not (together m n)))) m
      (some_mode_of (λ n. wants u m && (holds t V u n && not (together m n))) n
      (and_true (wants u m) _ want (and_true (holds t V u n) _ hold k))))) ∙ no_collision V h u))
    where
      apart : (((work_eq V W ≡ true) × (V ≡ W)) ⊎ ((work_eq V W ≡ false) × (V ≢ W))) → not (work_eq V W) ≡ true
      apart (inl p) = absurd (ne (sym p.1))
      apart (inr p) = ap not p.0

  module _ (mine : Wants) (stands : Standing) (from : (u : LockUnit) (m : Mode) → mine u m ≡ true → (holds t W u m ≡ true) ⊎ (wants u m ≡ true)) (had : IsCompatible t) where
    mixed : (V : WorkId) (u : LockUnit) (m n : Mode) → W ≢ V → is_broken bs V ≡ false → mine u m ≡ true → holds t V u n ≡ true → together m n ≡ true
    mixed V u m n ne h p q = by (from u m p)
      where
        by : ((holds t W u m ≡ true) ⊎ (wants u m ≡ true)) → together m n ≡ true
        by (inl k) = had W V ne u m n k q
        by (inr k) = clear V ne h u m n k q

    pub granted_compatible : (t' : Table) → Grants t W mine stands bs t' → IsCompatible t'
    granted_compatible t' g A B ne u m n p q = both (work_tells W A) (work_tells W B) (sym (g.locks A u m) ∙ p) (sym (g.locks B u n) ∙ q)
      where
        theirs : (V : WorkId) (n : Mode) → (if is_broken bs V then false else holds t V u n) ≡ true → (is_broken bs V ≡ false) × (holds t V u n ≡ true)
        theirs V n h = (grind arith, grind arith)

        both : (((work_eq W A ≡ true) × (W ≡ A)) ⊎ ((work_eq W A ≡ false) × (W ≢ A))) → (((work_eq W B ≡ true) × (W ≡ B)) ⊎ ((work_eq W B ≡ false) × (W ≢ B)))
            → (if work_eq W A then mine u m else (if is_broken bs A then false else holds t A u m)) ≡ true
            → (if work_eq W B then mine u n else (if is_broken bs B then false else holds t B u n)) ≡ true → together m n ≡ true
        both (inl a) (inl b) x y = absurd (ne (sym a.1 ∙ b.1))
        both (inl a) (inr b) x y =
            let r = theirs B n (subst (λ (z : Bool). (if z then mine u n else (if is_broken bs B then false else holds t B u n)) ≡ true) b.0 y) in
            mixed B u m n b.1 r.0 (subst (λ (z : Bool). (if z then mine u m else (if is_broken bs A then false else holds t A u m)) ≡ true) a.0 x) r.1
        both (inr a) (inl b) x y =
            let r = theirs A m (subst (λ (z : Bool). (if z then mine u m else (if is_broken bs A then false else holds t A u m)) ≡ true) a.0 x) in
            together_sym m n ∙ mixed A u n m a.1 r.0 (subst (λ (z : Bool). (if z then mine u n else (if is_broken bs B then false else holds t B u n)) ≡ true) b.0 y) r.1
        both (inr a) (inr b) x y =
            let r = theirs A m (subst (λ (z : Bool). (if z then mine u m else (if is_broken bs A then false else holds t A u m)) ≡ true) a.0 x) in
            let s = theirs B n (subst (λ (z : Bool). (if z then mine u n else (if is_broken bs B then false else holds t B u n)) ≡ true) b.0 y) in
            had A B ne u m n r.1 s.1

pub asked_compatible : (t : Table) (W : WorkId) (wants : Wants) (bs : List Broken) (t' : Table) → IsCompatible t → Asks t W wants bs t' → IsCompatible t'
asked_compatible t W wants bs t' had h = granted_compatible t W wants bs h.free h.broken (also (holds t W) wants) (or_active (t.standing W)) (λ u m p. either_true (holds t W u m) (wants u m) p) had t' h.grants

pub committed_compatible : (t : Table) (W : WorkId) (bs : List Broken) (t' : Table) → IsCompatible t → Commits t W (commit_wants t W) bs t' → IsCompatible t'
committed_compatible t W bs t' had h = granted_compatible t W (commit_wants t W) bs h.free h.broken (committed (holds t W)) Prepared from had t' h.grants
  where
    from : (u : LockUnit) (m : Mode) → committed (holds t W) u m ≡ true → (holds t W u m ≡ true) ⊎ (commit_wants t W u m ≡ true)
    from u Read p = inl p
    from u IntentionWrite p = not_both (sym p)
    from u Commit p = either_true (holds t W u Commit) (holds t W u IntentionWrite) p

pub rebuilt_compatible : (t : Table) (W : WorkId) (wants : Wants) (t' : Table) → IsCompatible t → LocksFit t W wants → Rebuilds t W wants t' → IsCompatible t'
rebuilt_compatible t W wants t' had fits h A B ne u m n p q = both (work_tells W A) (work_tells W B) (sym (h.locks A u m) ∙ p) (sym (h.locks B u n) ∙ q)
  where
    mixed : (V : WorkId) (m n : Mode) → W ≢ V → (holds t W u m || wants u m) ≡ true → holds t V u n ≡ true → together m n ≡ true
    mixed V m n ne p q = elim (either_true (holds t W u m) (wants u m) p) [ inl k ↦ had W V ne u m n k q | inr k ↦ fits V ne u m n k q ]

    both : (((work_eq W A ≡ true) × (W ≡ A)) ⊎ ((work_eq W A ≡ false) × (W ≢ A))) → (((work_eq W B ≡ true) × (W ≡ B)) ⊎ ((work_eq W B ≡ false) × (W ≢ B)))
        → (if work_eq W A then (holds t W u m || wants u m) else holds t A u m) ≡ true
        → (if work_eq W B then (holds t W u n || wants u n) else holds t B u n) ≡ true → together m n ≡ true
    both (inl a) (inl b) x y = absurd (ne (sym a.1 ∙ b.1))
    both (inl a) (inr b) x y =
        mixed B m n b.1 (subst (λ (z : Bool). (if z then (holds t W u m || wants u m) else holds t A u m) ≡ true) a.0 x) (subst (λ (z : Bool). (if z then (holds t W u n || wants u n) else holds t B u n) ≡ true) b.0 y)
    both (inr a) (inl b) x y =
        together_sym m n ∙ mixed A n m a.1 (subst (λ (z : Bool). (if z then (holds t W u n || wants u n) else holds t B u n) ≡ true) b.0 y) (subst (λ (z : Bool). (if z then (holds t W u m || wants u m) else holds t A u m) ≡ true) a.0 x)
    both (inr a) (inr b) x y =
        had A B ne u m n (subst (λ (z : Bool). (if z then (holds t W u m || wants u m) else holds t A u m) ≡ true) a.0 x) (subst (λ (z : Bool). (if z then (holds t W u n || wants u n) else holds t B u n) ≡ true) b.0 y)

-- what a grant keeps, a refusal keeps too
pub compatible_after : {T E : Type 0} (r : Result T E) (P : T → Type 0) (t t' : Table) → IsCompatible t → ((v : T) → P v → IsCompatible t') → IfOk r P → OnErr r (t' ≡ t) → IsCompatible t'
compatible_after (Ok v) P t t' had gives h k = gives v h
compatible_after (Err e) P t t' had gives h k = subst IsCompatible (sym k) had

pub compatible_after_ok : {T E : Type 0} (r : Result T E) (P : Type 0) (t t' : Table) → IsCompatible t → (P → IsCompatible t') → OnOk r P → OnErr r (t' ≡ t) → IsCompatible t'
compatible_after_ok (Ok v) P t t' had gives h k = gives h
compatible_after_ok (Err e) P t t' had gives h k = subst IsCompatible (sym k) had
