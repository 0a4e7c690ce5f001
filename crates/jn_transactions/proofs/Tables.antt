-- Transactions by their names.
use Rattle.std.proofs.Common.{◌≡◌, ℕ, zero, suc, Bool, true, false, ◌+◌, ◌<◌, if◌then◌else◌, List, [], ◌∷◌, Option, Some, None, length, slice_set, slice_index_or, remove, refl, ◌∙◌, ap, arith}
use Rattle.std.specs.List.{insert}
use Rattle.jn_base.specs.declared.names.Tid.{Tid}
use Rattle.jn_base.specs.Names.{tid_eq}
use Rattle.jn_rows.specs.declared.coordinator.Transaction.{Transaction}
use Rattle.jn_rows.specs.declared.coordinator.Stage.{Stage}
use Rattle.jn_rows.specs.Coordinator.{with_stage, without}
use Rattle.jn_transactions.specs.Listed.{counted, transaction_place, name_below, place_among, inserted}

-- the place among those that stand behind so many
abbrev pub place_from : ℕ → Tid → List Transaction → Option ℕ
place_from i T [] = None
place_from i T (x ∷ xs) = if tid_eq x.tid T then Some i else place_from (suc i) T xs

pub counted-some : (o : Option ℕ) (i : ℕ) → counted o ≡ Some (suc i) → o ≡ Some i
counted-some None i e = absurd (cc e)
counted-some (Some j) i e = grind (arith, e)

pub place_within : (T : Tid) (xs : List Transaction) (i : ℕ) → transaction_place T xs ≡ Some i → i < length xs
place_within T [] i e = absurd (cc e)
place_within T (x ∷ xs) zero e = omega arith
place_within T (x ∷ xs) (suc i) e = let again = place_within T xs i in let c = counted-some (transaction_place T xs) i in grind (arith, e)

-- a transaction at its place comes to another stage
pub staged_at : (T : Tid) (s : Stage) (d : Transaction) (xs : List Transaction) (i : ℕ) → transaction_place T xs ≡ Some i → slice_set xs i (record (slice_index_or xs i d) { stage = s }) ≡ with_stage T s xs
staged_at T s d [] i e = absurd (cc e)
staged_at T s d (x ∷ xs) zero e = grind (arith, e)
staged_at T s d (x ∷ xs) (suc i) e = let again = staged_at T s d xs i in let c = counted-some (transaction_place T xs) i in grind (arith, e)

pub staged_none : (T : Tid) (s : Stage) (xs : List Transaction) → transaction_place T xs ≡ None → with_stage T s xs ≡ xs
staged_none T s [] e = refl
staged_none T s (x ∷ xs) e = let again = staged_none T s xs in grind (arith, e)

pub removed_at : (T : Tid) (xs : List Transaction) (i : ℕ) → transaction_place T xs ≡ Some i → remove xs i ≡ without T xs
removed_at T [] i e = absurd (cc e)
removed_at T (x ∷ xs) zero e = grind (arith, e)
removed_at T (x ∷ xs) (suc i) e = let again = removed_at T xs i in let c = counted-some (transaction_place T xs) i in grind (arith, e)

pub removed_none : (T : Tid) (xs : List Transaction) → transaction_place T xs ≡ None → without T xs ≡ xs
removed_none T [] e = refl
removed_none T (x ∷ xs) e = let again = removed_none T xs in grind (arith, e)

-- ---- the place from the front

abbrev raised : ℕ → Option ℕ → Option ℕ
raised i None = None
raised i (Some j) = Some (i + j)

raised-counted : (i : ℕ) (o : Option ℕ) → raised (suc i) o ≡ raised i (counted o)
raised-counted i None = refl
raised-counted i (Some j) = ap (λ n. Some n) (omega arith)

from-raised : (i : ℕ) (T : Tid) (xs : List Transaction) → place_from i T xs ≡ raised i (transaction_place T xs)
from-raised i T [] = refl
from-raised i T (x ∷ xs) = by (tid_eq x.tid T) (from-raised (suc i) T xs ∙ raised-counted i (transaction_place T xs))
  where
    by : (b : Bool) → place_from (suc i) T xs ≡ raised i (counted (transaction_place T xs)) → (if b then Some i else place_from (suc i) T xs) ≡ raised i (if b then Some zero else counted (transaction_place T xs))
    by true e = ap (λ n. Some n) (omega arith)
    by false e = e

pub from-zero : (T : Tid) (xs : List Transaction) → place_from 0 T xs ≡ transaction_place T xs
from-zero T xs = from-raised 0 T xs ∙ by (transaction_place T xs)
  where
    by : (o : Option ℕ) → raised 0 o ≡ o
    by None = refl
    by (Some j) = ap (λ n. Some n) (omega arith)

-- ---- a transaction in its place

pub inserted_at : (y : Transaction) (xs : List Transaction) → insert xs (place_among y.tid xs) y ≡ inserted y xs
inserted_at y [] = refl
inserted_at y (x ∷ xs) = by (name_below y.tid x.tid) (inserted_at y xs)
  where
    by : (b : Bool) → insert xs (place_among y.tid xs) y ≡ inserted y xs → insert (x ∷ xs) (if b then 0 else suc (place_among y.tid xs)) y ≡ (if b then y ∷ x ∷ xs else x ∷ inserted y xs)
    by true again = refl
    by false again = ap (λ zs. x ∷ zs) again
