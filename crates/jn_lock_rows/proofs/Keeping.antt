-- Each call of the lock table keeps what it says of the works, once their rows have done the same.
use Rattle.jn_lock_rows.proofs.Common.{◌≡◌, Bool, true, false, List, [], ◌∷◌, ◌++◌, Option, Some, None, refl, sym, ◌∙◌, ap, subst, arith, ◌&&◌, ◌||◌, if◌then◌else◌, is_some, Tid, WorkId, LockUnit, work_eq, Mode, Read, IntentionWrite, Commit, BrokenAt, Table, Wants, made_vulnerable, is_broken, Rebuilds, Releases, Exposes, rebuilt, also, Work, Phase, Active, Broken, Stored, Wanted, holds, work_at, with_phase, without, vulnerable, breaks_at, broken_by, after_grant, LocksMatch, held_in, standing_in, standing_of, are_rising, are_ordered, is_ordered, is_after}
use Rattle.jn_locks.specs.declared.words.Standing.{Standing}
use Rattle.jn_locks.specs.declared.words.Standing.TheVariants as standings
use Rattle.jn_locks.specs.Asked.{Grants}
use Rattle.jn_lock_rows.proofs.Works.{work_same, work_is, none-front, at-less, rising-less, ordered-less, at-more, rising-more, ordered-more, in_phase, at-phase, rising-phase, ordered-phase, once_granted, at-grant, rising-grant, ordered-grant}

pub match_none : (t : Table) → ((V : WorkId) (u : LockUnit) (m : Mode) → t.holds V u m ≡ false) → ((V : WorkId) → t.standing V ≡ None) → LocksMatch [] t
match_none t free unknown = record { locks = free; standing = unknown; rising = refl; ordered = refl }

-- ---- one work changes

pub match-changed : (W : WorkId) (new : Option Work) (works after : List Work) (t now : Table) → LocksMatch works t
    → ((V : WorkId) → work_at V after ≡ (if work_eq W V then new else work_at V works))
    → ((V : WorkId) (u : LockUnit) (m : Mode) → now.holds V u m ≡ (if work_eq W V then held_in new u m else t.holds V u m))
    → ((V : WorkId) → now.standing V ≡ (if work_eq W V then standing_of new else t.standing V))
    → are_rising after ≡ true → are_ordered after ≡ true → LocksMatch after now
match-changed W new works after t now h at locks standing rising ordered = record {
  locks = λ V u m. locks V u m ∙ held V u m (work_eq W V) ∙ sym (ap (λ o. held_in o u m) (at V));
  standing = λ V. standing V ∙ stands V (work_eq W V) ∙ sym (ap standing_of (at V));
  rising = rising;
  ordered = ordered;
}
  where
    held : (V : WorkId) (u : LockUnit) (m : Mode) (b : Bool) → (if b then held_in new u m else t.holds V u m) ≡ held_in (if b then new else work_at V works) u m
    held V u m true = refl
    held V u m false = h.locks V u m

    stands : (V : WorkId) (b : Bool) → (if b then standing_of new else t.standing V) ≡ standing_of (if b then new else work_at V works)
    stands V true = refl
    stands V false = h.standing V

-- a work that is let go
pub match_released : (W : WorkId) (works : List Work) (t now : Table) → LocksMatch works t → Releases t W now → LocksMatch (without W works) now
match_released W works t now h r = match-changed W None works (without W works) t now h (λ V. at-less V W works h.rising) r.locks r.standing (rising-less W works h.rising) (ordered-less W works h.ordered)

-- ---- a work more, whose name comes after the others

stands-free : (W : WorkId) (works : List Work) (t : Table) → LocksMatch works t → is_after W works ≡ true → (u : LockUnit) (m : Mode) → t.holds W u m ≡ false
stands-free W works t h last u m = h.locks W u m ∙ ap (λ o. held_in o u m) (none-front W works last)

pub match-more : (w : Work) (works : List Work) (t now : Table) → LocksMatch works t → is_after w.name works ≡ true → is_ordered w.phase ≡ true
    → ((V : WorkId) (u : LockUnit) (m : Mode) → now.holds V u m ≡ (if work_eq w.name V then holds w.phase u m else t.holds V u m))
    → ((V : WorkId) → now.standing V ≡ (if work_eq w.name V then standing_in w.phase else t.standing V))
    → LocksMatch (works ++ w ∷ []) now
match-more w works t now h last ordered locks standing =
    match-changed w.name (Some w) works (works ++ w ∷ []) t now h (λ V. at-more V works w last) locks standing (rising-more works w h.rising last) (ordered-more works w h.ordered ordered)

abbrev pub stored_work : WorkId → Tid → List LockUnit → List LockUnit → Work
stored_work W T reads writes = record { name = W; tid = T; phase = Stored (record { reads = reads; writes = writes }) }

-- a stored work that a restart finds
pub match_rebuilt : (W : WorkId) (T : Tid) (reads writes : List LockUnit) (works : List Work) (t now : Table) → LocksMatch works t → is_after W works ≡ true → Rebuilds t W (rebuilt writes reads) now
    → LocksMatch (works ++ stored_work W T reads writes ∷ []) now
match_rebuilt W T reads writes works t now h last r = match-more (stored_work W T reads writes) works t now h last refl (λ V u m. r.locks V u m ∙ by V u m (work_eq W V)) r.standing
  where
    mine : (u : LockUnit) (m : Mode) → rebuilt writes reads u m ≡ holds (Stored (record { reads = reads; writes = writes })) u m
    mine u Read = refl
    mine u IntentionWrite = refl
    mine u Commit = refl

    by : (V : WorkId) (u : LockUnit) (m : Mode) (b : Bool) → (if b then also (λ u m. t.holds W u m) (rebuilt writes reads) u m else t.holds V u m) ≡ (if b then holds (Stored (record { reads = reads; writes = writes })) u m else t.holds V u m)
    by V u m true = ap (λ b. b || rebuilt writes reads u m) (stands-free W works t h last u m) ∙ mine u m
    by V u m false = refl

-- ---- a work in another phase

module _ (W : WorkId) (works : List Work) (w : Work) (phase : Phase) (t : Table) (h : LocksMatch works t) (found : work_at W works ≡ Some w) where
  found-at : (V : WorkId) → work_at V (with_phase W phase works) ≡ (if work_eq W V then Some (record w { phase = phase }) else work_at V works)
  found-at V = at-phase V W phase works ∙ by (work_eq W V) refl
    where
      by : (b : Bool) → work_eq W V ≡ b → (if b then in_phase phase (work_at V works) else work_at V works) ≡ (if b then Some (record w { phase = phase }) else work_at V works)
      by true e = ap (in_phase phase) (subst (λ (x : WorkId). work_at x works ≡ Some w) (work_is W V e) found)
      by false e = refl

  pub match-phase : (now : Table) → is_ordered phase ≡ true
      → ((V : WorkId) (u : LockUnit) (m : Mode) → now.holds V u m ≡ (if work_eq W V then holds phase u m else t.holds V u m))
      → ((V : WorkId) → now.standing V ≡ (if work_eq W V then standing_in phase else t.standing V))
      → LocksMatch (with_phase W phase works) now
  match-phase now ordered locks standing =
      match-changed W (Some (record w { phase = phase })) works (with_phase W phase works) t now h found-at locks standing (rising-phase W phase works ∙ h.rising) (ordered-phase W phase works h.ordered ordered)

  same-locks : ((u : LockUnit) (m : Mode) → holds phase u m ≡ holds w.phase u m) → (V : WorkId) (u : LockUnit) (m : Mode) → t.holds V u m ≡ (if work_eq W V then holds phase u m else t.holds V u m)
  same-locks same V u m = by (work_eq W V) refl
    where
      by : (b : Bool) → work_eq W V ≡ b → t.holds V u m ≡ (if b then holds phase u m else t.holds V u m)
      by true e = h.locks V u m ∙ ap (λ o. held_in o u m) (subst (λ (x : WorkId). work_at x works ≡ Some w) (work_is W V e) found) ∙ sym (same u m)
      by false e = refl

  stood : (V : WorkId) → work_eq W V ≡ true → t.standing V ≡ standing_in w.phase
  stood V e = h.standing V ∙ ap standing_of (subst (λ (x : WorkId). work_at x works ≡ Some w) (work_is W V e) found)

  -- one that changes nothing of the locks
  pub match_kept : is_ordered phase ≡ true → ((u : LockUnit) (m : Mode) → holds phase u m ≡ holds w.phase u m) → standing_in phase ≡ standing_in w.phase → LocksMatch (with_phase W phase works) t
  match_kept ordered same standing = match-phase t ordered (same-locks same) (λ V. by V (work_eq W V) refl)
    where
      by : (V : WorkId) (b : Bool) → work_eq W V ≡ b → t.standing V ≡ (if b then standing_in phase else t.standing V)
      by V true e = stood V e ∙ sym standing
      by V false e = refl

  -- one that gives way, and the lock table too
  exposed : (now : Table) → is_ordered phase ≡ true → ((u : LockUnit) (m : Mode) → holds phase u m ≡ holds w.phase u m) → made_vulnerable (standing_in w.phase) ≡ standing_in phase → Exposes t W now
      → LocksMatch (with_phase W phase works) now
  exposed now ordered same standing x = match-phase now ordered (λ V u m. x.locks V u m ∙ same-locks same V u m) (λ V. x.standing V ∙ by V (work_eq W V))
    where
      by : (V : WorkId) (b : Bool) → (if b then made_vulnerable (t.standing W) else t.standing V) ≡ (if b then standing_in phase else t.standing V)
      by V true = ap made_vulnerable (stood W (work_same W)) ∙ standing
      by V false = refl

pub found-ordered : (V : WorkId) (works : List Work) (v : Work) → are_ordered works ≡ true → work_at V works ≡ Some v → is_ordered v.phase ≡ true
found-ordered V [] v h e = absurd (cc e)
found-ordered V (x ∷ xs) v h e = both (is_ordered x.phase) (are_ordered xs) refl h (work_eq x.name V) e (λ k. found-ordered V xs v k)
  where
    both : (a b : Bool) → is_ordered x.phase ≡ a → (a && b) ≡ true → (c : Bool) → (if c then Some x else work_at V xs) ≡ Some v → (b ≡ true → work_at V xs ≡ Some v → is_ordered v.phase ≡ true) → is_ordered v.phase ≡ true
    both a b f k true g rest = let q : x ≡ v = cc g in subst (λ (z : Work). is_ordered z.phase ≡ true) q (f ∙ grind (arith, k))
    both a b f k false g rest = rest (grind (arith, k)) g

vulnerable-ordered : (p : Phase) → is_ordered p ≡ true → is_ordered (vulnerable p) ≡ true
vulnerable-ordered (Active a) h = h
vulnerable-ordered (Broken u by) h = h
vulnerable-ordered (Stored p) h = h

vulnerable-same : (p : Phase) (u : LockUnit) (m : Mode) → holds (vulnerable p) u m ≡ holds p u m
vulnerable-same (Active a) u Read = refl
vulnerable-same (Active a) u IntentionWrite = refl
vulnerable-same (Active a) u Commit = refl
vulnerable-same (Broken x by) u m = refl
vulnerable-same (Stored p) u m = refl

vulnerable-stands : (p : Phase) → made_vulnerable (standing_in p) ≡ standing_in (vulnerable p)
vulnerable-stands (Active a) = by a.vulnerable
  where
    by : (b : Bool) → made_vulnerable (Some (if b then standings.Vulnerable else standings.Active)) ≡ Some standings.Vulnerable
    by true = refl
    by false = refl
vulnerable-stands (Broken u by) = refl
vulnerable-stands (Stored p) = refl

pub match_exposed : (W : WorkId) (works : List Work) (w : Work) (t now : Table) → LocksMatch works t → work_at W works ≡ Some w → Exposes t W now → LocksMatch (with_phase W (vulnerable w.phase) works) now
match_exposed W works w t now h found x = exposed W works w (vulnerable w.phase) t h found now
    (vulnerable-ordered w.phase (found-ordered W works w h.ordered found)) (vulnerable-same w.phase) (vulnerable-stands w.phase) x

-- ---- a grant

abbrev pub breaks_of : WorkId → List Wanted → Option Work → Option LockUnit
breaks_of W wants None = None
breaks_of W wants (Some v) = breaks_at W wants v

module _ (T : Tid) (W : WorkId) (wants : List Wanted) where
  held-granted : (o : Option Work) (u : LockUnit) (m : Mode) → held_in (once_granted T W wants o) u m ≡ (if is_some (breaks_of W wants o) then false else held_in o u m)
  held-granted None u m = refl
  held-granted (Some v) u m = by (breaks_at W wants v)
    where
      by : (b : Option LockUnit) → holds (broken_by T b v).phase u m ≡ (if is_some b then false else holds v.phase u m)
      by None = refl
      by (Some x) = refl

  stands-granted : (o : Option Work) → standing_of (once_granted T W wants o) ≡ (if is_some (breaks_of W wants o) then None else standing_of o)
  stands-granted None = refl
  stands-granted (Some v) = by (breaks_at W wants v)
    where
      by : (b : Option LockUnit) → standing_in (broken_by T b v).phase ≡ (if is_some b then None else standing_in v.phase)
      by None = refl
      by (Some x) = refl

  module _ (works : List Work) (w : Work) (phase : Phase) (t now : Table) (h : LocksMatch works t) (found : work_at W works ≡ Some w) (bs : List BrokenAt)
      (breaks : (V : WorkId) → is_broken bs V ≡ is_some (breaks_of W wants (work_at V works))) where
    after-at : (V : WorkId) → work_at V (with_phase W phase (after_grant T W wants works)) ≡ (if work_eq W V then in_phase phase (once_granted T W wants (work_at V works)) else once_granted T W wants (work_at V works))
    after-at V = at-phase V W phase (after_grant T W wants works) ∙ ap (λ o. if work_eq W V then in_phase phase o else o) (at-grant T W wants V works)

    pub match-granted : (mine : Wants) (stands : Standing) → Grants t W mine stands bs now → ((u : LockUnit) (m : Mode) → mine u m ≡ holds phase u m) → Some stands ≡ standing_in phase → is_ordered phase ≡ true
        → LocksMatch (with_phase W phase (after_grant T W wants works)) now
    match-granted mine stands g same standing ordered = record {
      locks = λ V u m. g.locks V u m ∙ held V u m (work_eq W V) refl ∙ sym (ap (λ o. held_in o u m) (after-at V));
      standing = λ V. g.standing V ∙ stood V (work_eq W V) refl ∙ sym (ap standing_of (after-at V));
      rising = rising-phase W phase (after_grant T W wants works) ∙ rising-grant T W wants works ∙ h.rising;
      ordered = ordered-phase W phase (after_grant T W wants works) (ordered-grant T W wants works h.ordered) ordered;
    }
      where
        here : (V : WorkId) → work_eq W V ≡ true → work_at V works ≡ Some w
        here V e = subst (λ (x : WorkId). work_at x works ≡ Some w) (work_is W V e) found

        held : (V : WorkId) (u : LockUnit) (m : Mode) (b : Bool) → work_eq W V ≡ b → (if b then mine u m else (if is_broken bs V then false else t.holds V u m))
            ≡ held_in (if b then in_phase phase (once_granted T W wants (work_at V works)) else once_granted T W wants (work_at V works)) u m
        held V u m true e = same u m ∙ sym (ap (λ o. held_in (in_phase phase (once_granted T W wants o)) u m) (here V e))
        held V u m false e = ap (λ b. if b then false else t.holds V u m) (breaks V) ∙ ap (λ c. if is_some (breaks_of W wants (work_at V works)) then false else c) (h.locks V u m)
            ∙ sym (held-granted (work_at V works) u m)

        stood : (V : WorkId) (b : Bool) → work_eq W V ≡ b → (if b then Some stands else (if is_broken bs V then None else t.standing V))
            ≡ standing_of (if b then in_phase phase (once_granted T W wants (work_at V works)) else once_granted T W wants (work_at V works))
        stood V true e = standing ∙ sym (ap (λ o. standing_of (in_phase phase (once_granted T W wants o))) (here V e))
        stood V false e = ap (λ b. if b then None else t.standing V) (breaks V) ∙ ap (λ c. if is_some (breaks_of W wants (work_at V works)) then None else c) (h.standing V)
            ∙ sym (stands-granted (work_at V works))
