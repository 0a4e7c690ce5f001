-- Works whose units are apart write and read no common register.
use Rattle.jn_system.proofs.Common.{◌≡◌, ◌⊎◌, inl, inr, ℕ, Bool, true, false, List, [], ◌∷◌, Option, is_some, arith, ◌||◌, FileNo, BlockNo, LockUnit, File, Block, or_also, unit_eq, is_unit, Intention, change_by, intention_change, list_change, written_unit, commit_units, HoldsForCommit, HasRead, Writes, file_unit, ReadsFiles}
use Rattle.jn_records.specs.declared.intention.What.{What}
use Rattle.jn_records.specs.declared.intention.What.TheVariants.{Fresh, Gone, Cut, Put}
use Rattle.jn_system.proofs.SmallSteps.Updates.{false_unless, not_both}

-- what an intention writes stands at its unit or in its file
one_writes : (what : What) (f : FileNo) (p : BlockNo) (bytes : List ℕ) (u : LockUnit) → is_some (change_by what f p bytes u) ≡ true
    → (unit_eq (written_unit what f p) u ≡ true) ⊎ (unit_eq (written_unit what f p) (file_unit u) ≡ true)
one_writes Fresh f p bytes (File g) h = grind arith
one_writes Fresh f p bytes (Block g q) h = grind arith
one_writes Gone f p bytes (File g) h = grind arith
one_writes Gone f p bytes (Block g q) h = grind arith
one_writes Cut f p bytes (File g) h = grind arith
one_writes Cut f p bytes (Block g q) h = grind arith
one_writes Put f p bytes (File g) h = grind arith
one_writes Put f p bytes (Block g q) h = grind arith

pub writes_held : (list : List Intention) (u : LockUnit) → Writes list u → HoldsForCommit list u ⊎ HoldsForCommit list (file_unit u)
writes_held [] u h = grind arith
writes_held (i ∷ list) u h = join (list_change list u) (intention_change i u) (is_unit (commit_units list) u) (is_unit (commit_units list) (file_unit u))
    (unit_eq (written_unit i.what i.file i.block) u) (unit_eq (written_unit i.what i.file i.block) (file_unit u)) h (writes_held list u) (one_writes i.what i.file i.block i.bytes u)
  where
    join : {A : Type 0} → (x y : Option A) (a b c d : Bool) → is_some (or_also x y) ≡ true → (is_some x ≡ true → (a ≡ true) ⊎ (b ≡ true)) → (is_some y ≡ true → (c ≡ true) ⊎ (d ≡ true))
        → ((c || a) ≡ true) ⊎ ((d || b) ≡ true)
    join x y a b c d h f g = grind arith

-- what a list writes is not read
pub reads_apart : (list : List Intention) (other : List Intention) (reads : List LockUnit) → ((u : LockUnit) → HoldsForCommit list u → is_unit reads u ≡ false) → ReadsFiles other reads
    → (u : LockUnit) → Writes list u → is_unit reads u ≡ false
reads_apart list other reads apart files u h = false_unless (is_unit reads u) (λ r. by r (writes_held list u h))
  where
    by : HasRead reads u → HoldsForCommit list u ⊎ HoldsForCommit list (file_unit u) → ⊥
    by r (inl c) = not_both (is_unit reads u) r (apart u c)
    by r (inr c) = not_both (is_unit reads (file_unit u)) (files u (inl r)) (apart (file_unit u) c)

-- what a list writes, the other doesn't
pub writes_apart : (list other : List Intention) (reads other_reads : List LockUnit)
    → ((u : LockUnit) → HoldsForCommit list u → (is_unit (commit_units other) u ≡ false) × (is_unit other_reads u ≡ false))
    → ((u : LockUnit) → HoldsForCommit other u → is_unit reads u ≡ false)
    → ReadsFiles list reads → ReadsFiles other other_reads → (u : LockUnit) → Writes list u → is_some (list_change other u) ≡ false
writes_apart list other reads other_reads apart back files other_files u h = false_unless (is_some (list_change other u)) (λ k. by (writes_held list u h) (writes_held other u k))
  where
    by : HoldsForCommit list u ⊎ HoldsForCommit list (file_unit u) → HoldsForCommit other u ⊎ HoldsForCommit other (file_unit u) → ⊥
    by (inl c) (inl d) = not_both (is_unit (commit_units other) u) d (apart u c).0
    by (inl c) (inr d) = not_both (is_unit reads (file_unit u)) (files u (inr c)) (back (file_unit u) d)
    by (inr c) (inl d) = not_both (is_unit other_reads (file_unit u)) (other_files u (inr d)) (apart (file_unit u) c).1
    by (inr c) (inr d) = not_both (is_unit (commit_units other) (file_unit u)) d (apart (file_unit u) c).0
