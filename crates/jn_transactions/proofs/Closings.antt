-- What is left of a client's transactions, and which it knows of.
use Rattle.std.proofs.Common.{◌≡◌, ℕ, zero, suc, Bool, true, false, ◌+◌, ◌≤◌, ◌<◌, ◌&&◌, if◌then◌else◌, List, [], ◌∷◌, ◌++◌, Option, length, take, drop, slice_set, slice_index_or, refl, arith}
use Rattle.jn_base.specs.declared.names.ClientNo.{ClientNo}
use Rattle.jn_base.specs.Names.{client_eq}
use Rattle.jn_rows.specs.declared.coordinator.Transaction.{Transaction}
use Rattle.jn_transactions.specs.Stages.{goes}
use Rattle.jn_transactions.specs.Closing.{left_of, known, knowing}

pub left_one : (c : ClientNo) (x : Transaction) → left_of c x ≤ 1
left_one c x = by (client_eq x.client c && goes x.stage)
  where
    by : (b : Bool) → (if b then 0 else 1) ≤ 1
    by true = omega arith
    by false = omega arith

pub known_at : (c : Option ClientNo) (d : Transaction) (xs : List Transaction) (i : ℕ) → i < length xs
    → take (i + 1) (slice_set xs i (known c (slice_index_or xs i d))) ++ knowing c (drop (i + 1) (slice_set xs i (known c (slice_index_or xs i d)))) ≡ take i xs ++ knowing c (drop i xs)
known_at c d [] i h = grind arith
known_at c d (x ∷ xs) zero h = grind arith
known_at c d (x ∷ xs) (suc i) h = let rest = known_at c d xs i (omega arith) in grind (arith, rest)

pub known_end : (c : Option ClientNo) (xs : List Transaction) (i : ℕ) → length xs ≤ i → take i xs ++ knowing c (drop i xs) ≡ xs
known_end c [] zero h = refl
known_end c [] (suc i) h = refl
known_end c (x ∷ xs) zero h = grind arith
known_end c (x ∷ xs) (suc i) h = let rest = known_end c xs i (omega arith) in grind (arith, rest)
