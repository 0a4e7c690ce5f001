-- An operation that is performed.
use Rattle.jn_worker.proofs.Common.{◌≡◌, ℕ, Bool, true, false, not, List, [], ◌∷◌, ◌++◌, Option, Some, None, if◌then◌else◌, refl, sym, ◌∙◌, ap, arith, ◌&&◌, LockUnit, Tid, WorkId, Answer, work_eq, Intention, Mode, Read, IntentionWrite, Commit, Table, Work, Phase, Active, Broken, Stored, Wanted, work_at, with_phase, holds, conflict, held_by, holder_at, collides_at, gives_way, collision, breaks_at, broken_by, note_of, after_grant, break_notes, LocksMatch, held_in, standing_in, standing_of, is_ordered, are_ordered, is_before, are_rising, rephased, relisted, tallied}

-- ---- the locks don't see a change of a phase that keeps what it holds

pub record Keeps (f : Phase → Phase) : Type 0 where
  pub same : (p : Phase) (u : LockUnit) (m : Mode) → holds (f p) u m ≡ holds p u m
  pub stands : (p : Phase) → standing_in (f p) ≡ standing_in p
  pub ordered : (p : Phase) → is_ordered (f p) ≡ is_ordered p

pub relisted_keeps : (list : List Intention) → Keeps (relisted list)
relisted_keeps list = record { same = same; stands = stands; ordered = ordered }
  where
    same : (p : Phase) (u : LockUnit) (m : Mode) → holds (relisted list p) u m ≡ holds p u m
    same (Active a) u Read = refl
    same (Active a) u IntentionWrite = refl
    same (Active a) u Commit = refl
    same (Broken x y) u m = refl
    same (Stored q) u m = refl

    stands : (p : Phase) → standing_in (relisted list p) ≡ standing_in p
    stands (Active a) = refl
    stands (Broken x y) = refl
    stands (Stored q) = refl

    ordered : (p : Phase) → is_ordered (relisted list p) ≡ is_ordered p
    ordered (Active a) = refl
    ordered (Broken x y) = refl
    ordered (Stored q) = refl

pub tallied_keeps : (n : ℕ) (answer : Answer) → Keeps (tallied n answer)
tallied_keeps n answer = record { same = same; stands = stands; ordered = ordered }
  where
    same : (p : Phase) (u : LockUnit) (m : Mode) → holds (tallied n answer p) u m ≡ holds p u m
    same (Active a) u Read = refl
    same (Active a) u IntentionWrite = refl
    same (Active a) u Commit = refl
    same (Broken x y) u m = refl
    same (Stored q) u m = refl

    stands : (p : Phase) → standing_in (tallied n answer p) ≡ standing_in p
    stands (Active a) = refl
    stands (Broken x y) = refl
    stands (Stored q) = refl

    ordered : (p : Phase) → is_ordered (tallied n answer p) ≡ is_ordered p
    ordered (Active a) = refl
    ordered (Broken x y) = refl
    ordered (Stored q) = refl

module _ (W : WorkId) (f : Phase → Phase) (k : Keeps f) where
  held-same : (V : WorkId) (u : LockUnit) (m : Mode) (ws : List Work) → held_in (work_at V (rephased W f ws)) u m ≡ held_in (work_at V ws) u m
  held-same V u m [] = refl
  held-same V u m (w ∷ ws) = by (work_eq w.name W) (held-same V u m ws)
    where
      pick : (c : Bool) (o p : Option Work) (x y : Work) → holds x.phase u m ≡ holds y.phase u m → held_in o u m ≡ held_in p u m → held_in (if c then Some x else o) u m ≡ held_in (if c then Some y else p) u m
      pick true o p x y e g = e
      pick false o p x y e g = g

      by : (b : Bool) → held_in (work_at V (rephased W f ws)) u m ≡ held_in (work_at V ws) u m → held_in (work_at V (if b then record w { phase = f w.phase } ∷ ws else w ∷ rephased W f ws)) u m ≡ held_in (if work_eq w.name V then Some w else work_at V ws) u m
      by true again = pick (work_eq w.name V) (work_at V ws) (work_at V ws) (record w { phase = f w.phase }) w (k.same w.phase u m) refl
      by false again = pick (work_eq w.name V) (work_at V (rephased W f ws)) (work_at V ws) w w refl again

  stands-same : (V : WorkId) (ws : List Work) → standing_of (work_at V (rephased W f ws)) ≡ standing_of (work_at V ws)
  stands-same V [] = refl
  stands-same V (w ∷ ws) = by (work_eq w.name W) (stands-same V ws)
    where
      pick : (c : Bool) (o p : Option Work) (x y : Work) → standing_in x.phase ≡ standing_in y.phase → standing_of o ≡ standing_of p → standing_of (if c then Some x else o) ≡ standing_of (if c then Some y else p)
      pick true o p x y e g = e
      pick false o p x y e g = g

      by : (b : Bool) → standing_of (work_at V (rephased W f ws)) ≡ standing_of (work_at V ws) → standing_of (work_at V (if b then record w { phase = f w.phase } ∷ ws else w ∷ rephased W f ws)) ≡ standing_of (if work_eq w.name V then Some w else work_at V ws)
      by true again = pick (work_eq w.name V) (work_at V ws) (work_at V ws) (record w { phase = f w.phase }) w (k.stands w.phase) refl
      by false again = pick (work_eq w.name V) (work_at V (rephased W f ws)) (work_at V ws) w w refl again

  before-same : (V : WorkId) (ws : List Work) → is_before V (rephased W f ws) ≡ is_before V ws
  before-same V [] = refl
  before-same V (w ∷ ws) = let again = before-same V ws in grind arith

  rising-same : (ws : List Work) → are_rising (rephased W f ws) ≡ are_rising ws
  rising-same [] = refl
  rising-same (w ∷ ws) = let again = rising-same ws in let n = before-same w.name ws in grind arith

  ordered-same : (ws : List Work) → are_ordered (rephased W f ws) ≡ are_ordered ws
  ordered-same [] = refl
  ordered-same (w ∷ ws) = let again = ordered-same ws in let n = k.ordered w.phase in grind arith

  pub match_rephased : (ws : List Work) (l : Table) → LocksMatch ws l → LocksMatch (rephased W f ws) l
  match_rephased ws l h = record {
    locks = λ V u m. h.locks V u m ∙ sym (held-same V u m ws);
    standing = λ V. h.standing V ∙ sym (stands-same V ws);
    rising = rising-same ws ∙ h.rising;
    ordered = ordered-same ws ∙ h.ordered;
  }

-- ---- a grant doesn't see its own work's phase

module _ (T : Tid) (W : WorkId) (wants : List Wanted) (q : Phase) where
  holder-own : (want : Wanted) (ws : List Work) → holder_at W want (with_phase W q ws) ≡ holder_at W want ws
  holder-own want [] = refl
  holder-own want (w ∷ ws) = by (work_eq w.name W) refl (holder-own want ws)
    where
      skip : (b : Bool) (x : Work) (o : Option Work) (c : Bool) → b ≡ true → (if (not b && c) then Some x else o) ≡ o
      skip true x o c e = refl
      skip false x o c e = absurd (cc e)

      by : (b : Bool) → work_eq w.name W ≡ b → holder_at W want (with_phase W q ws) ≡ holder_at W want ws → holder_at W want (if b then record w { phase = q } ∷ ws else w ∷ with_phase W q ws) ≡ holder_at W want (w ∷ ws)
      by true e again = skip (work_eq w.name W) (record w { phase = q }) (holder_at W want ws) (collides_at q want && not (gives_way q)) e ∙ sym (skip (work_eq w.name W) w (holder_at W want ws) (collides_at w.phase want && not (gives_way w.phase)) e)
      by false e again = ap (λ o. if not (work_eq w.name W) && (collides_at w.phase want && not (gives_way w.phase)) then Some w else o) again

  pub conflict_own : (us : List Wanted) (ws : List Work) → conflict W us (with_phase W q ws) ≡ conflict W us ws
  conflict_own [] ws = refl
  conflict_own (want ∷ us) ws = ap (λ o. held_by want.unit o (conflict W us (with_phase W q ws))) (holder-own want ws) ∙ ap (λ o. held_by want.unit (holder_at W want ws) o) (conflict_own us ws)

  own-kept : (x : Work) → work_eq x.name W ≡ true → breaks_at W wants x ≡ None
  own-kept x e = ap (λ b. if (not b && gives_way x.phase) then collision x.phase wants else None) e

  name-kept : (o : Option LockUnit) (v : Work) → (broken_by T o v).name ≡ v.name
  name-kept None v = refl
  name-kept (Some u) v = refl

  with-first : (x : Work) (xs : List Work) (b : Bool) → work_eq x.name W ≡ b → with_phase W q (x ∷ xs) ≡ (if b then record x { phase = q } ∷ xs else x ∷ with_phase W q xs)
  with-first x xs b e = ap (λ b. if b then record x { phase = q } ∷ xs else x ∷ with_phase W q xs) e

  pub grant_own : (ws : List Work) → after_grant T W wants (with_phase W q ws) ≡ with_phase W q (after_grant T W wants ws)
  grant_own [] = refl
  grant_own (w ∷ ws) = by (work_eq w.name W) refl (grant_own ws)
    where
      by : (b : Bool) → work_eq w.name W ≡ b → after_grant T W wants (with_phase W q ws) ≡ with_phase W q (after_grant T W wants ws)
          → after_grant T W wants (if b then record w { phase = q } ∷ ws else w ∷ with_phase W q ws) ≡ with_phase W q (broken_by T (breaks_at W wants w) w ∷ after_grant T W wants ws)
      by true e again = ap (λ o. broken_by T o (record w { phase = q }) ∷ after_grant T W wants ws) (own-kept (record w { phase = q }) e)
          ∙ sym (ap (λ o. with_phase W q (broken_by T o w ∷ after_grant T W wants ws)) (own-kept w e) ∙ with-first w (after_grant T W wants ws) true e)
      by false e again = ap (λ l. broken_by T (breaks_at W wants w) w ∷ l) again ∙ sym (with-first (broken_by T (breaks_at W wants w) w) (after_grant T W wants ws) false (ap (λ n. work_eq n W) (name-kept (breaks_at W wants w) w) ∙ e))

  pub notes_own : (ws : List Work) → break_notes T W wants (with_phase W q ws) ≡ break_notes T W wants ws
  notes_own [] = refl
  notes_own (w ∷ ws) = by (work_eq w.name W) refl (notes_own ws)
    where
      by : (b : Bool) → work_eq w.name W ≡ b → break_notes T W wants (with_phase W q ws) ≡ break_notes T W wants ws → break_notes T W wants (if b then record w { phase = q } ∷ ws else w ∷ with_phase W q ws) ≡ break_notes T W wants (w ∷ ws)
      by true e again = ap (λ o. note_of T o (record w { phase = q }) ++ break_notes T W wants ws) (own-kept (record w { phase = q }) e) ∙ sym (ap (λ o. note_of T o w ++ break_notes T W wants ws) (own-kept w e))
      by false e again = ap (λ l. note_of T (breaks_at W wants w) w ++ l) again

-- the later of two phases stays
pub phase_twice : (W : WorkId) (p q : Phase) (ws : List Work) → with_phase W p (with_phase W q ws) ≡ with_phase W p ws
phase_twice W p q [] = refl
phase_twice W p q (w ∷ ws) = let again = phase_twice W p q ws in grind arith
