-- What works write stays in range.
use Rattle.jn_worker.proofs.Common.{most_blocks, ◌≡◌, ℕ, ◌<◌, Bool, true, false, List, [], ◌∷◌, map, refl, arith, list_all, nat_tests, LockUnit, Op, IntentionWrite, unit_eq, unit_before, Intention, with_unit, with_units, units_for, wants_of, written_unit, unit_in_range, BlockInRange}
use Rattle.std.proofs.Common.{if◌then◌else◌, ◌&&◌, nat_lt}
use Rattle.jn_base.specs.declared.op.Op.TheVariants as ops
use Rattle.jn_records.specs.declared.intention.What.TheVariants as whats

abbrev pub Are : List LockUnit → Type 0
Are us = list_all unit_in_range us ≡ true

pub both : {a b : Bool} → a ≡ true → b ≡ true → (a && b) ≡ true
both p q = grind (arith, p, q)

pub first-of : (a b : Bool) → (a && b) ≡ true → a ≡ true
first-of a b h = grind arith

pub second-of : (a b : Bool) → (a && b) ≡ true → b ≡ true
second-of a b h = grind arith

one-more : (u : LockUnit) (vs : List LockUnit) → unit_in_range u ≡ true → Are vs → Are (with_unit u vs)
one-more u [] h k = both h refl
one-more u (v ∷ vs) h k = by (unit_before u v) (unit_eq u v) (one-more u vs h (second-of (unit_in_range v) (list_all unit_in_range vs) k))
  where
    by : (b c : Bool) → Are (with_unit u vs) → Are (if b then u ∷ v ∷ vs else (if c then v ∷ vs else v ∷ with_unit u vs))
    by true c again = both h k
    by false true again = k
    by false false again = both (first-of (unit_in_range v) (list_all unit_in_range vs) k) again

pub some-more : (us vs : List LockUnit) → Are us → Are vs → Are (with_units us vs)
some-more [] vs h k = k
some-more (u ∷ us) vs h k = some-more us (with_unit u vs) (second-of (unit_in_range u) (list_all unit_in_range us) h) (one-more u vs (first-of (unit_in_range u) (list_all unit_in_range us) h) k)

block-within : (n : ℕ) → n < most_blocks → nat_lt n most_blocks ≡ true
block-within n h = grind (arith, nat_tests, h)

-- what an operation writes
pub wants-in-range : (op : Op) (fit : Bool) → BlockInRange op → Are (units_for IntentionWrite (wants_of op fit))
wants-in-range op false h = refl
wants-in-range (ops.Create f) true h = refl
wants-in-range (ops.Remove f) true h = refl
wants-in-range (ops.Cut f n) true h = refl
wants-in-range (ops.Read f p) true h = refl
wants-in-range (ops.Write f p bytes) true h = both (block-within p.0 h) refl

-- what a list of intentions writes
pub list-in-range : (list : List Intention) → list_all (λ (i : Intention). nat_lt i.block.0 most_blocks) list ≡ true → Are (map (λ (i : Intention). written_unit i.what i.file i.block) list)
list-in-range [] h = refl
list-in-range (i ∷ is) h = both (one i.what (first-of (nat_lt i.block.0 most_blocks) _ h)) (list-in-range is (second-of (nat_lt i.block.0 most_blocks) _ h))
  where
    one : (w : _) → nat_lt i.block.0 most_blocks ≡ true → unit_in_range (written_unit w i.file i.block) ≡ true
    one whats.Put k = k
    one whats.Fresh k = refl
    one whats.Gone k = refl
    one whats.Cut k = refl
