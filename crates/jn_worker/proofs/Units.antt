-- Units put in their places.
use Rattle.jn_worker.proofs.Common.{◌≡◌, Bool, true, false, List, [], ◌∷◌, Option, Some, None, if◌then◌else◌, refl, ◌∙◌, ap, subst, arith, ◌&&◌, ◌||◌, list_all, nat_tests, LockUnit, File, Block, is_unit, unit_eq, unit_before, unit_tells, unit_before-total, with_unit, with_units}
use Rattle.jn_records.specs.Records.{ascends, follows, unit_lt}

lt-before : (a b : LockUnit) → unit_lt a b ≡ unit_before a b
unfolding unit_before
lt-before (File f) (File g) = grind (arith, nat_tests)
lt-before (File f) (Block g q) = grind (arith, nat_tests)
lt-before (Block f p) (File g) = grind (arith, nat_tests)
lt-before (Block f p) (Block g q) = grind (arith, nat_tests)

otherwise : (a b : LockUnit) → unit_before a b ≡ false → unit_eq a b ≡ false → unit_before b a ≡ true
otherwise a b h e = by (unit_before b a) refl
  where
    by : (c : Bool) → unit_before b a ≡ c → c ≡ true
    by true k = refl
    by false k = let s = unit_before-total a b h k in let t = unit_tells a b in absurd (grind (arith, s, e))

both : (a b : Bool) → a ≡ true → b ≡ true → (a && b) ≡ true
both a b h k = grind (arith, h, k)

first-of : (a b : Bool) → (a && b) ≡ true → a ≡ true
first-of a b h = grind (arith, h)

later-of : (a b : Bool) → (a && b) ≡ true → b ≡ true
later-of a b h = grind (arith, h)

ascends-with : (last : Option LockUnit) (u : LockUnit) (vs : List LockUnit) → ascends last vs ≡ true → follows last u ≡ true → ascends last (with_unit u vs) ≡ true
ascends-with last u [] h f = both (follows last u) true f refl
ascends-with last u (v ∷ vs) h f = by (unit_before u v) refl (unit_eq u v) refl (ascends-with (Some v) u vs (later-of (follows last v) (ascends (Some v) vs) h))
  where
    by : (b : Bool) → unit_before u v ≡ b → (c : Bool) → unit_eq u v ≡ c → (follows (Some v) u ≡ true → ascends (Some v) (with_unit u vs) ≡ true) → ascends last (if b then u ∷ v ∷ vs else (if c then v ∷ vs else v ∷ with_unit u vs)) ≡ true
    by true b c d again = both (follows last u) (follows (Some u) v && ascends (Some v) vs) f (both (follows (Some u) v) (ascends (Some v) vs) (lt-before u v ∙ b) (later-of (follows last v) (ascends (Some v) vs) h))
    by false b true d again = h
    by false b false d again = both (follows last v) (ascends (Some v) (with_unit u vs)) (first-of (follows last v) (ascends (Some v) vs) h) (again (lt-before v u ∙ otherwise u v b d))

pub ascends_more : (us vs : List LockUnit) → ascends None vs ≡ true → ascends None (with_units us vs) ≡ true
ascends_more [] vs h = h
ascends_more (u ∷ us) vs h = ascends_more us (with_unit u vs) (ascends-with None u vs h refl)

all-with : (P : LockUnit → Bool) (u : LockUnit) (vs : List LockUnit) → P u ≡ true → list_all P vs ≡ true → list_all P (with_unit u vs) ≡ true
all-with P u [] p h = both (P u) true p refl
all-with P u (v ∷ vs) p h = by (unit_before u v) (unit_eq u v) (all-with P u vs p (later-of (P v) (list_all P vs) h))
  where
    by : (b c : Bool) → list_all P (with_unit u vs) ≡ true → list_all P (if b then u ∷ v ∷ vs else (if c then v ∷ vs else v ∷ with_unit u vs)) ≡ true
    by true c again = both (P u) (P v && list_all P vs) p h
    by false true again = h
    by false false again = both (P v) (list_all P (with_unit u vs)) (first-of (P v) (list_all P vs) h) again

pub all_more : (P : LockUnit → Bool) (us vs : List LockUnit) → list_all P us ≡ true → list_all P vs ≡ true → list_all P (with_units us vs) ≡ true
all_more P [] vs p h = h
all_more P (u ∷ us) vs p h = all_more P us (with_unit u vs) (later-of (P u) (list_all P us) p) (all-with P u vs (first-of (P u) (list_all P us) p) h)

either : (a b : Bool) → b ≡ true → (a || b) ≡ true
either a b h = grind (arith, h)

shift : (b c : Bool) (x y z : List LockUnit) (w : LockUnit) → is_unit (if b then x else (if c then y else z)) w ≡ (if b then is_unit x w else (if c then is_unit y w else is_unit z w))
shift true c x y z w = refl
shift false true x y z w = refl
shift false false x y z w = refl

pub kept_one : (u w : LockUnit) (vs : List LockUnit) → is_unit vs w ≡ true → is_unit (with_unit u vs) w ≡ true
kept_one u w [] h = absurd (cc h)
kept_one u w (v ∷ vs) h = shift (unit_before u v) (unit_eq u v) (u ∷ v ∷ vs) (v ∷ vs) (v ∷ with_unit u vs) w ∙ by (unit_before u v) (unit_eq u v) (unit_eq v w) h (kept_one u w vs)
  where
    by : (b c d : Bool) → (d || is_unit vs w) ≡ true → (is_unit vs w ≡ true → is_unit (with_unit u vs) w ≡ true) → (if b then (unit_eq u w || (d || is_unit vs w)) else (if c then (d || is_unit vs w) else (d || is_unit (with_unit u vs) w))) ≡ true
    by true c d h again = either (unit_eq u w) (d || is_unit vs w) h
    by false true d h again = h
    by false false true h again = refl
    by false false false h again = again h

pub kept_more : (us : List LockUnit) (w : LockUnit) (vs : List LockUnit) → is_unit vs w ≡ true → is_unit (with_units us vs) w ≡ true
kept_more [] w vs h = h
kept_more (u ∷ us) w vs h = kept_more us w (with_unit u vs) (kept_one u w vs h)

unit-same : (u : LockUnit) → unit_eq u u ≡ true
unit-same u = let t = unit_tells u u in grind arith

pub there_one : (u : LockUnit) (vs : List LockUnit) → is_unit (with_unit u vs) u ≡ true
there_one u [] = ap (λ b. b || false) (unit-same u)
there_one u (v ∷ vs) = shift (unit_before u v) (unit_eq u v) (u ∷ v ∷ vs) (v ∷ vs) (v ∷ with_unit u vs) u ∙ by (unit_before u v) (unit_eq u v) refl (there_one u vs)
  where
    by : (b c : Bool) → unit_eq u v ≡ c → is_unit (with_unit u vs) u ≡ true → (if b then (unit_eq u u || (unit_eq v u || is_unit vs u)) else (if c then (unit_eq v u || is_unit vs u) else (unit_eq v u || is_unit (with_unit u vs) u))) ≡ true
    by true c e again = ap (λ b. b || (unit_eq v u || is_unit vs u)) (unit-same u)
    by false true e again = ap (λ b. b || is_unit vs u) (subst (λ z. unit_eq z u ≡ true) (is_same e) (unit-same u))
      where
        is_same : unit_eq u v ≡ true → u ≡ v
        is_same e = let t = unit_tells u v in grind (arith, e)
    by false false e again = either (unit_eq v u) (is_unit (with_unit u vs) u) again
