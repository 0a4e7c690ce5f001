-- What a work wants for commit, and what it holds.
use Rattle.jn_locks.proofs.Common.{◌≡◌, ◌≢◌, ◌⊎◌, inl, inr, Bool, true, false, List, [], ◌∷◌, Option, Some, None, refl, sym, ◌∙◌, ap, arith, ◌&&◌, ◌||◌, if◌then◌else◌, is_some, WorkId, LockUnit, work_eq, work_tells, Mode, Read, IntentionWrite, Commit, Standing, Prepared, Holder, Broken, Held, unit_eq, is_unit, wanted, commit_wants, is_wanted_unit, is_broken, committed, holds_in, is_among, at, units_of, prepared, table_of, IsSoundTable, intentions}
use Rattle.std.proofs.Math.Path.{fun_ext}
use Rattle.jn_locks.proofs.Orders.{unit_tells}
use Rattle.jn_locks.proofs.Holding.{among_if_held}
use Rattle.jn_locks.proofs.Collisions.{work_same}

module _ (at : LockUnit → List Holder) (W : WorkId) where
  intended : (us : List LockUnit) (u : LockUnit) → is_wanted_unit (intentions at W us) u ≡ (is_unit us u && holds_in (at u) W IntentionWrite)
  intended [] u = refl
  intended (v ∷ vs) u = by (unit_tells v u) (holds_in (at v) W IntentionWrite) refl (intended vs u)
    where
      by : (((unit_eq v u ≡ true) × (v ≡ u)) ⊎ ((unit_eq v u ≡ false) × (v ≢ u))) → (b : Bool) → holds_in (at v) W IntentionWrite ≡ b → is_wanted_unit (intentions at W vs) u ≡ (is_unit vs u && holds_in (at u) W IntentionWrite)
          → is_wanted_unit (if b then (record { unit = v; mode = Commit }) ∷ intentions at W vs else intentions at W vs) u ≡ ((unit_eq v u || is_unit vs u) && holds_in (at u) W IntentionWrite)
      by (inl p) true e k = grind (arith, p.0, sym (ap (λ (z : LockUnit). holds_in (at z) W IntentionWrite) p.1) ∙ e)
      by (inl p) false e k = grind (arith, p.0, k, sym (ap (λ (z : LockUnit). holds_in (at z) W IntentionWrite) p.1) ∙ e)
      by (inr p) true e k = grind (arith, p.0, k)
      by (inr p) false e k = grind (arith, p.0, k)

  wants_read : (us : List LockUnit) (u : LockUnit) → wanted (intentions at W us) u Read ≡ false
  wants_read [] u = refl
  wants_read (v ∷ vs) u = grind (arith, wants_read vs u)

  wants_write : (us : List LockUnit) (u : LockUnit) → wanted (intentions at W us) u IntentionWrite ≡ false
  wants_write [] u = refl
  wants_write (v ∷ vs) u = grind (arith, wants_write vs u)

  wants_commit : (us : List LockUnit) (u : LockUnit) → wanted (intentions at W us) u Commit ≡ is_wanted_unit (intentions at W us) u
  wants_commit [] u = refl
  wants_commit (v ∷ vs) u = grind (arith, wants_commit vs u)

module _ (h : Held) (sound : IsSoundTable h) (W : WorkId) where
  pub intended_is : (u : LockUnit) → is_wanted_unit (intentions (at h.units) W (units_of h.works W)) u ≡ holds_in (at h.units u) W IntentionWrite
  intended_is u = intended (at h.units) W (units_of h.works W) u ∙ by (is_unit (units_of h.works W) u) (holds_in (at h.units u) W IntentionWrite) (is_among (at h.units u) W) refl refl (sound.listed W u) (among_if_held (at h.units u) W IntentionWrite)
    where
      by : (a b c : Bool) → holds_in (at h.units u) W IntentionWrite ≡ b → is_among (at h.units u) W ≡ c → (is_among (at h.units u) W ≡ true → a ≡ true) → (is_among (at h.units u) W ≡ false → holds_in (at h.units u) W IntentionWrite ≡ false) → (a && b) ≡ b
      by a b true e f k l = grind (arith, k f)
      by a b false e f k l = grind (arith, sym e ∙ l f)

  same_at : (u : LockUnit) (m : Mode) → wanted (intentions (at h.units) W (units_of h.works W)) u m ≡ commit_wants (table_of h) W u m
  same_at u Read = wants_read (at h.units) W (units_of h.works W) u
  same_at u IntentionWrite = wants_write (at h.units) W (units_of h.works W) u
  same_at u Commit = wants_commit (at h.units) W (units_of h.works W) u ∙ intended_is u

  pub same_wants : wanted (intentions (at h.units) W (units_of h.works W)) ≡ commit_wants (table_of h) W
  same_wants = fun_ext (λ u. fun_ext (λ m. same_at u m))

  -- at each wanted unit the work is among the holders
  pub intended_among : (u : LockUnit) → is_wanted_unit (intentions (at h.units) W (units_of h.works W)) u ≡ true → is_among (at h.units u) W ≡ true
  intended_among u k = by (is_among (at h.units u) W) refl (among_if_held (at h.units u) W IntentionWrite)
    where
      by : (b : Bool) → is_among (at h.units u) W ≡ b → (is_among (at h.units u) W ≡ false → holds_in (at h.units u) W IntentionWrite ≡ false) → is_among (at h.units u) W ≡ true
      by true e l = e
      by false e l = absurd (cc (sym k, intended_is u, l e))

  -- where the work doesn't hold intention-write, a change to commit changes nothing
  pub turned_all : (V : WorkId) (u : LockUnit) (m : Mode)
      → (if work_eq W V && is_wanted_unit (intentions (at h.units) W (units_of h.works W)) u then committed ((table_of h).holds W) u m else (table_of h).holds V u m)
      ≡ (if work_eq W V then committed ((table_of h).holds W) u m else (table_of h).holds V u m)
  turned_all V u m = ap (λ (b : Bool). if work_eq W V && b then committed ((table_of h).holds W) u m else (table_of h).holds V u m) (intended_is u) ∙ by m (work_tells W V)
    where
      by : (m : Mode) → (((work_eq W V ≡ true) × (W ≡ V)) ⊎ ((work_eq W V ≡ false) × (W ≢ V)))
          → (if work_eq W V && holds_in (at h.units u) W IntentionWrite then committed ((table_of h).holds W) u m else (table_of h).holds V u m) ≡ (if work_eq W V then committed ((table_of h).holds W) u m else (table_of h).holds V u m)
      by Read (inl p) = grind (arith, ap (λ (z : WorkId). holds_in (at h.units u) z Read) p.1)
      by IntentionWrite (inl p) = grind (arith, p.0, ap (λ (z : WorkId). holds_in (at h.units u) z IntentionWrite) p.1)
      by Commit (inl p) = grind (arith, p.0, ap (λ (z : WorkId). holds_in (at h.units u) z Commit) p.1)
      by m (inr p) = grind (arith, p.0)

module _ (bs : List Broken) (W : WorkId) (itself : is_broken bs W ≡ false) where
  pub after_break : {A : Type 0} (none : A) (V : WorkId) (new mid mine old : A) → new ≡ (if is_broken bs V then none else mid) → mid ≡ (if work_eq W V then mine else old)
      → new ≡ (if work_eq W V then mine else (if is_broken bs V then none else old))
  after_break none V new mid mine old e f = e ∙ ap (λ x. if is_broken bs V then none else x) f ∙ by (work_tells W V)
    where
      by : (((work_eq W V ≡ true) × (W ≡ V)) ⊎ ((work_eq W V ≡ false) × (W ≢ V))) → (if is_broken bs V then none else (if work_eq W V then mine else old)) ≡ (if work_eq W V then mine else (if is_broken bs V then none else old))
      by (inl p) = rw p.0 (ap (λ (b : Bool). if b then none else mine) (sym (ap (is_broken bs) p.1) ∙ itself))
      by (inr p) = rw p.0 refl

-- what is held and what is wanted
pub or_wanted : (holds : WorkId → LockUnit → Mode → Bool) (W V : WorkId) (u : LockUnit) (m : Mode) (want : Bool) → (holds V u m || (work_eq W V && want)) ≡ (if work_eq W V then holds W u m || want else holds V u m)
or_wanted holds W V u m want = by (work_tells W V)
  where
    by : (((work_eq W V ≡ true) × (W ≡ V)) ⊎ ((work_eq W V ≡ false) × (W ≢ V))) → (holds V u m || (work_eq W V && want)) ≡ (if work_eq W V then holds W u m || want else holds V u m)
    by (inl p) = rw p.0 (ap (λ (z : WorkId). holds z u m || want) (sym p.1))
    by (inr p) = grind (arith, p.0)

-- a work that was entered and then prepared
pub prepared_after : (s t : WorkId → Option Standing) (W : WorkId) (x new : Option Standing) (V : WorkId) → is_some x ≡ true → ((V : WorkId) → s V ≡ (if work_eq W V then x else t V)) → new ≡ (if work_eq W V then prepared (s W) else s V)
    → new ≡ (if work_eq W V then Some Prepared else t V)
prepared_after s t W (Some x) new V k h e = by (work_eq W V) e (h V) (h W ∙ rw (work_same W) refl)
  where
    by : (b : Bool) → new ≡ (if b then prepared (s W) else s V) → s V ≡ (if b then Some x else t V) → s W ≡ Some x → new ≡ (if b then Some Prepared else t V)
    by true p q r = p ∙ ap prepared r
    by false p q r = p ∙ q
prepared_after s t W None new V k h e = absurd (cc k)
