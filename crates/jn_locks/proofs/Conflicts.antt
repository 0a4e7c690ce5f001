-- The least conflict is the first wanted unit's least holder.
use Rattle.jn_locks.proofs.Common.{◌≡◌, ◌⊎◌, inl, inr, ℕ, suc, ◌+◌, ◌<◌, length, get_or, drop, drop-cons, add-one, Bool, true, false, List, [], ◌∷◌, ◌++◌, Option, Some, None, ap, refl, sym, ◌∙◌, arith, not, ◌&&◌, ◌||◌, if◌then◌else◌, WorkId, LockUnit, IntentionWrite, Commit, Conflict, holds_in, Want, Broken, Held, unit_eq, unit_before, work_before, wanted, gives_way, blocks, NoConflict, IsConflict, at, table_of, collisions_at, collisions, intentions, intended_at, stays_in_way, least_conflict, conflict_at, conflict_before}
use Rattle.jn_locks.proofs.Orders.{unit_before-irreflexive, work_before-irreflexive, conflict_before-transitive, conflict_before-total, onward}
use Rattle.jn_locks.proofs.Collisions.{Among, every_among, by_collision, collision_by, unit_same}
use Rattle.jn_locks.proofs.Least.{IsLeast, none_passes, least_is, least_of-append}

conflict_before-irreflexive : (c : Conflict) → conflict_before c c ≡ false
conflict_before-irreflexive c = grind (arith, unit_before-irreflexive c.unit, work_before-irreflexive c.holder)

unless : (b : Bool) → (b ≡ true → ⊥) → b ≡ false
unless b k = grind arith

not_both : {B : Type 0} → true ≡ false → B
not_both e = absurd (cc e)

not_earlier : (a b c : Bool) → (a || (b && c)) ≡ false → (a ≡ false) × (b ≡ true → c ≡ false)
not_earlier a b c h = (grind arith, λ k. grind arith)

module _ (h : Held) (W : WorkId) (ws : List Want) where
  pub no_conflict : least_conflict (table_of h) None (collisions (at h.units) W ws) ≡ None → NoConflict (table_of h) W (wanted ws)
  no_conflict e u V = unless (blocks (table_of h) W (wanted ws) u V) (λ k.
      let r = collision_by h W ws (λ V. not (gives_way (table_of h) V)) u V k in
      not_both (sym r.1 ∙ every_among (λ b. stays_in_way (table_of h) b ≡ false) (collisions (at h.units) W ws) (record { work = V; unit = u })
      (none_passes (stays_in_way (table_of h)) conflict_at conflict_before conflict_before-irreflexive conflict_before-transitive
      (onward conflict_before conflict_before-transitive conflict_before-total) None (collisions (at h.units) W ws) e).1 r.0))

  pub alone_free : collisions (at h.units) W ws ≡ [] → NoConflict (table_of h) W (wanted ws)
  alone_free e = no_conflict (ap (λ (bs : List Broken). least_conflict (table_of h) None bs) e)

  pub conflict_is : (c : Conflict) → least_conflict (table_of h) None (collisions (at h.units) W ws) ≡ Some c → IsConflict (table_of h) W (wanted ws) c
  conflict_is c e = record {
    stands = from least.from;
    first = λ u V k. let r = collision_by h W ws (λ V. not (gives_way (table_of h) V)) u V k in (not_before (record { work = V; unit = u }) r.0 r.1).0;
    least = λ V k. let r = collision_by h W ws (λ V. not (gives_way (table_of h) V)) c.unit V k in (not_before (record { work = V; unit = c.unit }) r.0 r.1).1 (unit_same c.unit);
  }
    where
      least : IsLeast (stays_in_way (table_of h)) conflict_at conflict_before None (collisions (at h.units) W ws) c
      least = least_is (stays_in_way (table_of h)) conflict_at conflict_before conflict_before-irreflexive conflict_before-transitive
          (onward conflict_before conflict_before-transitive conflict_before-total) None (collisions (at h.units) W ws) c e

      from : ((None ≡ Some c) ⊎ ((b : Broken) × Among b (collisions (at h.units) W ws) × (stays_in_way (table_of h) b ≡ true) × (conflict_at b ≡ c))) → blocks (table_of h) W (wanted ws) c.unit c.holder ≡ true
      from (inl e) = absurd (cc e)
      from (inr q) = rw (← q.3) (by_collision h W ws (λ V. not (gives_way (table_of h) V)) q.0 q.1 q.2)

      not_before : (b : Broken) → Among b (collisions (at h.units) W ws) → stays_in_way (table_of h) b ≡ true → (unit_before b.unit c.unit ≡ false) × (unit_eq b.unit c.unit ≡ true → work_before b.work c.holder ≡ false)
      not_before b here pass = not_earlier (unit_before b.unit c.unit) (unit_eq b.unit c.unit) (work_before b.work c.holder)
          (every_among (λ b. stays_in_way (table_of h) b ≡ true → conflict_before (conflict_at b) c ≡ false) (collisions (at h.units) W ws) b least.none here pass)

-- one want further, where nothing collides
pub alone_step : (h : Held) (W : WorkId) (ws : List Want) (i : ℕ) (d : Want) → i < length ws → collisions_at W (get_or ws i d) (at h.units (get_or ws i d).unit) ≡ []
    → collisions (at h.units) W (drop (i + 1) ws) ≡ collisions (at h.units) W (drop i ws)
alone_step h W ws i d within e = rw add-one (
    ap (λ (bs : List Broken). bs ++ collisions (at h.units) W (drop (suc i) ws)) (sym e)
    ∙ ap (λ (xs : List Want). collisions (at h.units) W xs) (sym (drop-cons ws i d within)))

module _ (h : Held) (W : WorkId) (best new : Option Conflict) where
  -- one want further
  pub conflict_step : (ws : List Want) (i : ℕ) (d : Want) → i < length ws → new ≡ least_conflict (table_of h) best (collisions_at W (get_or ws i d) (at h.units (get_or ws i d).unit))
      → least_conflict (table_of h) new (collisions (at h.units) W (drop (i + 1) ws)) ≡ least_conflict (table_of h) best (collisions (at h.units) W (drop i ws))
  conflict_step ws i d within e = rw add-one (
      ap (λ (o : Option Conflict). least_conflict (table_of h) o (collisions (at h.units) W (drop (suc i) ws))) e
      ∙ sym (least_of-append (stays_in_way (table_of h)) conflict_at conflict_before best (collisions_at W (get_or ws i d) (at h.units (get_or ws i d).unit)) (collisions (at h.units) W (drop (suc i) ws)))
      ∙ ap (λ (xs : List Want). least_conflict (table_of h) best (collisions (at h.units) W xs)) (sym (drop-cons ws i d within)))

  -- one unit further
  pub intention_step : (us : List LockUnit) (i : ℕ) (d : LockUnit) → i < length us → new ≡ least_conflict (table_of h) best (intended_at (at h.units) W (get_or us i d))
      → least_conflict (table_of h) new (collisions (at h.units) W (intentions (at h.units) W (drop (i + 1) us))) ≡ least_conflict (table_of h) best (collisions (at h.units) W (intentions (at h.units) W (drop i us)))
  intention_step us i d within e = rw add-one (
      ap (λ (o : Option Conflict). least_conflict (table_of h) o (collisions (at h.units) W (intentions (at h.units) W (drop (suc i) us)))) e
      ∙ sym (least_of-append (stays_in_way (table_of h)) conflict_at conflict_before best (intended_at (at h.units) W (get_or us i d)) (collisions (at h.units) W (intentions (at h.units) W (drop (suc i) us))))
      ∙ ap (λ (bs : List Broken). least_conflict (table_of h) best bs) (by (holds_in (at h.units (get_or us i d)) W IntentionWrite))
      ∙ ap (λ (xs : List LockUnit). least_conflict (table_of h) best (collisions (at h.units) W (intentions (at h.units) W xs))) (sym (drop-cons us i d within)))
    where
      by : (b : Bool) → (if b then collisions_at W (record { unit = get_or us i d; mode = Commit }) (at h.units (get_or us i d)) else []) ++ collisions (at h.units) W (intentions (at h.units) W (drop (suc i) us))
          ≡ collisions (at h.units) W (if b then (record { unit = get_or us i d; mode = Commit }) ∷ intentions (at h.units) W (drop (suc i) us) else intentions (at h.units) W (drop (suc i) us))
      by true = refl
      by false = refl
