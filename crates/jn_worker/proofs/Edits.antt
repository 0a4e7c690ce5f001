-- The first work of a transaction, or that is going, is found by its name.
use Rattle.jn_worker.proofs.Common.{◌≡◌, true, false, List, [], ◌∷◌, Bool, Some, if◌then◌else◌, refl, sym, ◌∙◌, ap, subst, arith, ◌&&◌, Tid, WorkId, tid_eq, work_eq, Work, work_at, work_of, are_rising, is_before, work_same, not-before, found-behind, is_in, going_in}

same : (x w : Work) → Some x ≡ Some w → x ≡ w
same x w h = cc

and_first : (a b : Bool) → (a && b) ≡ true → a ≡ true
and_first a b h = grind (arith, h)

and_later : (a b : Bool) → (a && b) ≡ true → b ≡ true
and_later a b h = grind (arith, h)

here : (x w : Work) (xs : List Work) → x ≡ w → (if work_eq x.name w.name then Some x else work_at w.name xs) ≡ Some w
here x w xs e = subst (λ (y : Work). (if work_eq y.name w.name then Some y else work_at w.name xs) ≡ Some w) (sym e) (ap (λ b. if b then Some w else work_at w.name xs) (work_same w.name))

-- the first work of a transaction is found by its name
pub found_by_name : (T : Tid) (ws : List Work) (w : Work) → are_rising ws ≡ true → work_of T ws ≡ Some w → work_at w.name ws ≡ Some w
found_by_name T [] w r h = absurd (cc h)
found_by_name T (x ∷ xs) w r h = by (tid_eq x.tid T) (found_by_name T xs w (and_later (is_before x.name xs) (are_rising xs) r)) h
  where
    by : (b : Bool) → (work_of T xs ≡ Some w → work_at w.name xs ≡ Some w) → (if b then Some x else work_of T xs) ≡ Some w → (if work_eq x.name w.name then Some x else work_at w.name xs) ≡ Some w
    by true again h = here x w xs (same x w h)
    by false again h = ap (λ b. if b then Some x else work_at w.name xs) (not-before x.name w.name (found-behind w.name x.name xs w (and_first (is_before x.name xs) (are_rising xs) r) (again h))) ∙ again h

-- and the first going one
pub going_by_name : (going : List WorkId) (ws : List Work) (w : Work) → are_rising ws ≡ true → going_in going ws ≡ Some w → (work_at w.name ws ≡ Some w) × (is_in work_eq w.name going ≡ true)
going_by_name going [] w r h = absurd (cc h)
going_by_name going (x ∷ xs) w r h = by (is_in work_eq x.name going) refl (going_by_name going xs w (and_later (is_before x.name xs) (are_rising xs) r)) h
  where
    by : (b : Bool) → is_in work_eq x.name going ≡ b → (going_in going xs ≡ Some w → (work_at w.name xs ≡ Some w) × (is_in work_eq w.name going ≡ true)) → (if b then Some x else going_in going xs) ≡ Some w
        → ((if work_eq x.name w.name then Some x else work_at w.name xs) ≡ Some w) × (is_in work_eq w.name going ≡ true)
    by true e again h = (here x w xs (same x w h), subst (λ (y : Work). is_in work_eq y.name going ≡ true) (same x w h) e)
    by false e again h = (ap (λ b. if b then Some x else work_at w.name xs) (not-before x.name w.name (found-behind w.name x.name xs w (and_first (is_before x.name xs) (are_rising xs) r) (again h).0)) ∙ (again h).0, (again h).1)
