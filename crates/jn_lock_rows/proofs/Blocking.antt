-- The lock table's conflict is the first of the rows'.
use Rattle.jn_lock_rows.proofs.Common.{◌≡◌, ◌⊎◌, inl, inr, Bool, true, false, List, [], ◌∷◌, Option, Some, None, refl, sym, ◌∙◌, ap, subst, arith, fun_ext, ◌&&◌, not, if◌then◌else◌, WorkId, LockUnit, work_eq, Conflict, Table, unit_before, work_before, is_vulnerable, blocks, NoConflict, IsConflict, unit_before-irreflexive, unit_before-total, work_before-irreflexive, work_before-total, Work, Phase, Active, Broken, Stored, Wanted, Held, holds, gives_way, work_at, collides_at, holder_at, held_by, conflict, LocksMatch, held_in, standing_in, standing_of, are_rising, is_before, units_rise, is_unit_before, FindsConflict}
use Rattle.jn_lock_rows.proofs.Asking.{wants_in, units_in, clash, clash-free, clash-none, clash-wants, clash-first, clash-split, clash-more, apart-behind, unit-asymmetric}
use Rattle.jn_lock_rows.proofs.Works.{not_both, work_same, work_is, asymmetric, not-before, found-name, found-behind}

-- the lock table of these works
abbrev pub locks_of : List Work → Table
locks_of works = record { holds = λ V u m. held_in (work_at V works) u m; standing = λ V. standing_of (work_at V works) }

pub matched : (works : List Work) (t : Table) → LocksMatch works t → t ≡ locks_of works
matched works t h = λ i. record { holds = fun_ext (λ V. fun_ext (λ u. fun_ext (λ m. h.locks V u m))) i; standing = fun_ext h.standing i }

pub vulnerable-is : (p : Phase) → is_vulnerable (standing_in p) ≡ gives_way p
vulnerable-is (Active a) = by a.vulnerable
  where
    by : (b : Bool) → is_vulnerable (standing_in (Active (record a { vulnerable = b }))) ≡ b
    by true = refl
    by false = refl
vulnerable-is (Broken u by) = refl
vulnerable-is (Stored p) = refl

-- ---- the first work that stands at a unit

abbrev pub stands_at : WorkId → Wanted → Work → Bool
stands_at W want v = not (work_eq v.name W) && (collides_at v.phase want && not (gives_way v.phase))

none-stands : (W : WorkId) (want : Wanted) (ws : List Work) → holder_at W want ws ≡ None → (V : WorkId) (x : Work) → work_at V ws ≡ Some x → stands_at W want x ≡ false
none-stands W want [] h V x e = absurd (cc e)
none-stands W want (w ∷ ws) h V x e = by (stands_at W want w) refl h (work_eq w.name V) e (λ k f. none-stands W want ws k V x f)
  where
    by : (b : Bool) → stands_at W want w ≡ b → (if b then Some w else holder_at W want ws) ≡ None → (c : Bool) → (if c then Some w else work_at V ws) ≡ Some x
        → (holder_at W want ws ≡ None → work_at V ws ≡ Some x → stands_at W want x ≡ false) → stands_at W want x ≡ false
    by true s k c f rest = absurd (cc k)
    by false s k true f rest = let q : w ≡ x = cc f in subst (λ (z : Work). stands_at W want z ≡ false) q s
    by false s k false f rest = rest k f

record IsHolder (ws : List Work) (W : WorkId) (want : Wanted) (v : Work) : Type 0 where
  found : work_at v.name ws ≡ Some v
  stands : stands_at W want v ≡ true
  least : (V : WorkId) (x : Work) → work_at V ws ≡ Some x → stands_at W want x ≡ true → work_before V v.name ≡ false

is-holder : (W : WorkId) (want : Wanted) (ws : List Work) (v : Work) → are_rising ws ≡ true → holder_at W want ws ≡ Some v → IsHolder ws W want v
is-holder W want [] v rise h = absurd (cc h)
is-holder W want (w ∷ ws) v rise h = by (stands_at W want w) refl h (is-holder W want ws v (grind (arith, rise)))
  where
    first : is_before w.name ws ≡ true
    first = grind (arith, rise)

    here : stands_at W want w ≡ true → IsHolder (w ∷ ws) W want w
    here s = record {
      found = ap (λ b. if b then Some w else work_at w.name ws) (work_same w.name);
      stands = s;
      least = λ V x e k. not_earlier V x (work_eq w.name V) refl e;
    }
      where
        not_earlier : (V : WorkId) (x : Work) (b : Bool) → work_eq w.name V ≡ b → (if b then Some w else work_at V ws) ≡ Some x → work_before V w.name ≡ false
        not_earlier V x true e f = subst (λ (z : WorkId). work_before z w.name ≡ false) (work_is w.name V e) (work_before-irreflexive w.name)
        not_earlier V x false e f = asymmetric w.name V (found-behind V w.name ws x first f)

    by : (b : Bool) → stands_at W want w ≡ b → (if b then Some w else holder_at W want ws) ≡ Some v → (holder_at W want ws ≡ Some v → IsHolder ws W want v) → IsHolder (w ∷ ws) W want v
    by true s k rest = let q : w ≡ v = cc k in subst (λ (z : Work). IsHolder (w ∷ ws) W want z) q (here s)
    by false s k rest = let r = rest k in record {
      found = ap (λ b. if b then Some w else work_at v.name ws) (not-before w.name v.name (found-behind v.name w.name ws v first r.found)) ∙ r.found;
      stands = r.stands;
      least = λ V x e t. not_earlier r V x (work_eq w.name V) e t;
    }
      where
        not_earlier : IsHolder ws W want v → (V : WorkId) (x : Work) (b : Bool) → (if b then Some w else work_at V ws) ≡ Some x → stands_at W want x ≡ true → work_before V v.name ≡ false
        not_earlier r V x true e t = let q : w ≡ x = cc e in not_both (sym (subst (λ (z : Work). stands_at W want z ≡ true) (sym q) t) ∙ s)
        not_earlier r V x false e t = r.least V x e t

-- ---- what stands in the way of the wants, by the lock table of the works

record Stands (works : List Work) (W : WorkId) (wants : List Wanted) (u : LockUnit) (V : WorkId) : Type 0 where
  work : Work
  found : work_at V works ≡ Some work
  other : not (work_eq V W) ≡ true
  clashes : clash (wants_in wants u) (holds work.phase u) ≡ true
  firm : gives_way work.phase ≡ false

split-three : (a b c : Bool) → ((a && b) && not c) ≡ true → (a ≡ true) × (b ≡ true) × (c ≡ false)
split-three a b c h = (grind (arith, h), grind (arith, h), grind (arith, h))

module _ (works : List Work) (W : WorkId) where
  stands-of : (wants : List Wanted) (u : LockUnit) (V : WorkId) → blocks (locks_of works) W (wants_in wants) u V ≡ true → Stands works W wants u V
  stands-of wants u V h = by (work_at V works) refl (split-three (not (work_eq V W)) (clash (wants_in wants u) (held_in (work_at V works) u)) (is_vulnerable (standing_of (work_at V works))) h)
    where
      by : (o : Option Work) → work_at V works ≡ o → (not (work_eq V W) ≡ true) × (clash (wants_in wants u) (held_in o u) ≡ true) × (is_vulnerable (standing_of o) ≡ false) → Stands works W wants u V
      by None e p = not_both (sym p.1 ∙ clash-free (wants_in wants u) (λ n. false) refl)
      by (Some v) e p = record { work = v; found = e; other = p.0; clashes = p.1; firm = sym (vulnerable-is v.phase) ∙ p.2 }

  blocks-by : (wants : List Wanted) (u : LockUnit) (V : WorkId) → Stands works W wants u V → blocks (locks_of works) W (wants_in wants) u V ≡ true
  blocks-by wants u V s = subst (λ (o : Option Work). ((not (work_eq V W) && clash (wants_in wants u) (held_in o u)) && not (is_vulnerable (standing_of o))) ≡ true) (sym s.found)
      (three (not (work_eq V W)) (clash (wants_in wants u) (holds s.work.phase u)) (is_vulnerable (standing_in s.work.phase)) s.other s.clashes (vulnerable-is s.work.phase ∙ s.firm))
    where
      three : (a b c : Bool) → a ≡ true → b ≡ true → c ≡ false → ((a && b) && not c) ≡ true
      three a b c e f g = grind arith

  -- at the first wanted unit a work stands in the way as the rows say
  at-first : (want : Wanted) (wants : List Wanted) (V : WorkId) → is_unit_before want.unit (units_in wants) ≡ true → (s : Stands works W (want ∷ wants) want.unit V) → stands_at W want s.work ≡ true
  at-first want wants V rising s = all (not (work_eq s.work.name W)) (collides_at s.work.phase want) (gives_way s.work.phase)
      (subst (λ (x : WorkId). not (work_eq x W) ≡ true) (sym (found-name V works s.work s.found)) s.other) (sym (clash-first s.work.phase want wants rising) ∙ s.clashes) s.firm
    where
      all : (a b c : Bool) → a ≡ true → b ≡ true → c ≡ false → (a && (b && not c)) ≡ true
      all a b c e f g = grind arith

  first-at : (want : Wanted) (wants : List Wanted) (v : Work) → is_unit_before want.unit (units_in wants) ≡ true → work_at v.name works ≡ Some v → stands_at W want v ≡ true → Stands works W (want ∷ wants) want.unit v.name
  first-at want wants v rising found h = let p = parts (not (work_eq v.name W)) (collides_at v.phase want) (gives_way v.phase) h in
      record { work = v; found = found; other = p.0; clashes = clash-first v.phase want wants rising ∙ p.1; firm = p.2 }
    where
      parts : (a b c : Bool) → (a && (b && not c)) ≡ true → (a ≡ true) × (b ≡ true) × (c ≡ false)
      parts a b c k = (grind (arith, k), grind (arith, k), grind (arith, k))

  later-stands : (want : Wanted) (wants : List Wanted) (u : LockUnit) (V : WorkId) → is_unit_before want.unit (units_in wants) ≡ true → Stands works W wants u V → Stands works W (want ∷ wants) u V
  later-stands want wants u V rising s = record { work = s.work; found = s.found; other = s.other; clashes = clash-more want wants u (holds s.work.phase u) rising s.clashes; firm = s.firm }

  split-stands : (want : Wanted) (wants : List Wanted) (u : LockUnit) (V : WorkId) → Stands works W (want ∷ wants) u V → (want.unit ≡ u) ⊎ Stands works W wants u V
  split-stands want wants u V s = elim (clash-split want wants u (holds s.work.phase u) s.clashes) [ inl p ↦ inl p | inr p ↦ inr (record { work = s.work; found = s.found; other = s.other; clashes = p; firm = s.firm }) ]

  -- ---- the rows' conflict

  -- the first wanted unit at which a work stands, with that work
  abbrev blocker_else : LockUnit → Option Work → Option (LockUnit × Work) → Option (LockUnit × Work)
  blocker_else u (Some v) later = Some (u, v)
  blocker_else u None later = later

  abbrev blocker : List Wanted → Option (LockUnit × Work)
  blocker [] = None
  blocker (want ∷ wants) = blocker_else want.unit (holder_at W want works) (blocker wants)

  abbrev tid_of : Option (LockUnit × Work) → Option Held
  tid_of None = None
  tid_of (Some b) = Some (b.0, b.1.tid)

  blocker-conflict : (wants : List Wanted) → conflict W wants works ≡ tid_of (blocker wants)
  blocker-conflict [] = refl
  blocker-conflict (want ∷ wants) = by (holder_at W want works) (blocker-conflict wants)
    where
      by : (o : Option Work) → conflict W wants works ≡ tid_of (blocker wants) → held_by want.unit o (conflict W wants works) ≡ tid_of (blocker_else want.unit o (blocker wants))
      by None e = e
      by (Some v) e = refl

  record IsBlocker (wants : List Wanted) (u : LockUnit) (v : Work) : Type 0 where
    found : work_at v.name works ≡ Some v
    stands : Stands works W wants u v.name
    first : (x : LockUnit) (V : WorkId) → Stands works W wants x V → unit_before x u ≡ false
    least : (V : WorkId) → Stands works W wants u V → work_before V v.name ≡ false

  -- none stands at the first unit: so those who stand, stand at a later one
  not-first : (want : Wanted) (wants : List Wanted) (u : LockUnit) (V : WorkId) → is_unit_before want.unit (units_in wants) ≡ true → holder_at W want works ≡ None → Stands works W (want ∷ wants) u V → Stands works W wants u V
  not-first want wants u V rising h s = by (split-stands want wants u V s)
    where
      at : Stands works W (want ∷ wants) want.unit V → Stands works W wants u V
      at k = not_both (sym (at-first want wants V rising k) ∙ none-stands W want works h V k.work k.found)

      by : (want.unit ≡ u) ⊎ Stands works W wants u V → Stands works W wants u V
      by (inl p) = at (subst (λ (x : LockUnit). Stands works W (want ∷ wants) x V) (sym p) s)
      by (inr p) = p

  no-blocker : (wants : List Wanted) → units_rise (units_in wants) ≡ true → blocker wants ≡ None → (u : LockUnit) (V : WorkId) → Stands works W wants u V → ⊥
  no-blocker [] rise h u V s = not_both (sym s.clashes ∙ clash-none (wants_in [] u) (holds s.work.phase u) refl)
  no-blocker (want ∷ wants) rise h u V s = by (holder_at W want works) refl h (λ k. no-blocker wants (grind (arith, rise)) k u V)
    where
      by : (o : Option Work) → holder_at W want works ≡ o → blocker_else want.unit o (blocker wants) ≡ None → (blocker wants ≡ None → Stands works W wants u V → ⊥) → ⊥
      by None e k rest = rest k (not-first want wants u V (grind (arith, rise)) e s)
      by (Some v) e k rest = absurd (cc k)

  is-blocker : (rising : are_rising works ≡ true) (wants : List Wanted) (b : LockUnit × Work) → units_rise (units_in wants) ≡ true → blocker wants ≡ Some b → IsBlocker wants b.0 b.1
  is-blocker rising [] b rise h = absurd (cc h)
  is-blocker rising (want ∷ wants) b rise h = by (holder_at W want works) refl h (is-blocker rising wants b (grind (arith, rise)))
    where
      front : is_unit_before want.unit (units_in wants) ≡ true
      front = grind (arith, rise)

      here : (v : Work) → holder_at W want works ≡ Some v → IsBlocker (want ∷ wants) want.unit v
      here v e = let r = is-holder W want works v rising e in record {
        found = r.found;
        stands = first-at want wants v front r.found r.stands;
        first = λ x V s. elim (split-stands want wants x V s) [
          | inl p ↦ subst (λ (z : LockUnit). unit_before z want.unit ≡ false) p (unit_before-irreflexive want.unit)
          | inr p ↦ unit-asymmetric want.unit x (apart-behind want.unit x (units_in wants) front (clash-wants wants x (holds p.work.phase x) p.clashes))
        ];
        least = λ V s. r.least V s.work s.found (at-first want wants V front s);
      }

      by : (o : Option Work) → holder_at W want works ≡ o → blocker_else want.unit o (blocker wants) ≡ Some b → (blocker wants ≡ Some b → IsBlocker wants b.0 b.1) → IsBlocker (want ∷ wants) b.0 b.1
      by None e k rest = let r = rest k in record {
        found = r.found;
        stands = later-stands want wants b.0 b.1.name front r.stands;
        first = λ x V s. r.first x V (not-first want wants x V front e s);
        least = λ V s. r.least V (not-first want wants b.0 V front e s);
      }
      by (Some v) e k rest = subst (λ (z : LockUnit × Work). IsBlocker (want ∷ wants) z.0 z.1) (same (want.unit, v) k) (here v e)
        where
          same : (a : LockUnit × Work) → Some a ≡ Some b → a ≡ b
          same a q = cc q

-- ---- between the two

module _ (works : List Work) (t : Table) (h : LocksMatch works t) (W : WorkId) (wants : List Wanted) (rise : units_rise (units_in wants) ≡ true) where
  pub no_conflict : NoConflict t W (wants_in wants) → conflict W wants works ≡ None
  no_conflict none = blocker-conflict works W wants ∙ by (blocker works W wants) refl
    where
      free : NoConflict (locks_of works) W (wants_in wants)
      free = subst (λ (z : Table). NoConflict z W (wants_in wants)) (matched works t h) none

      by : (o : Option (LockUnit × Work)) → blocker works W wants ≡ o → tid_of works W o ≡ None
      by None e = refl
      by (Some b) e = let r = is-blocker works W h.rising wants b rise e in not_both (sym (blocks-by works W wants b.0 b.1.name r.stands) ∙ free b.0 b.1.name)

  pub finds_conflict : (c : Conflict) → IsConflict t W (wants_in wants) c → FindsConflict works W wants c
  finds_conflict c is = by (blocker works W wants) refl
    where
      at : IsConflict (locks_of works) W (wants_in wants) c
      at = subst (λ (z : Table). IsConflict z W (wants_in wants) c) (matched works t h) is

      by : (o : Option (LockUnit × Work)) → blocker works W wants ≡ o → FindsConflict works W wants c
      by None e = absurd (no-blocker works W wants rise e c.unit c.holder (stands-of works W wants c.unit c.holder at.stands))
      by (Some b) e =
          let r = is-blocker works W h.rising wants b rise e in
          let s = stands-of works W wants c.unit c.holder at.stands in
          let u : b.0 ≡ c.unit = unit_before-total b.0 c.unit (at.first b.0 b.1.name (blocks-by works W wants b.0 b.1.name r.stands)) (r.first c.unit c.holder s) in
          let n : b.1.name ≡ c.holder = work_before-total b.1.name c.holder
          (at.least b.1.name (subst (λ (x : LockUnit). blocks (locks_of works) W (wants_in wants) x b.1.name ≡ true) u (blocks-by works W wants b.0 b.1.name r.stands)))
          (r.least c.holder (subst (λ (x : LockUnit). Stands works W wants x c.holder) (sym u) s)) in
          record {
            holder = b.1;
            found = subst (λ (x : WorkId). work_at x works ≡ Some b.1) n r.found;
            is = blocker-conflict works W wants ∙ ap (tid_of works W) e ∙ ap (λ (x : LockUnit). Some (x, b.1.tid)) u;
          }
