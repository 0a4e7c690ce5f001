use Rattle.std.proofs.Common.{◌≡◌, Bool, true, false, List, [], ◌∷◌, Option, Some, None, if◌then◌else◌, refl, subst, arith, ℕ}
use Rattle.std.specs.Prelude.{◌||◌, is_some, ◌&&◌, nat_le}
use Rattle.jn_base.specs.declared.names.FileNo.{FileNo}
use Rattle.jn_base.specs.declared.names.LockUnit.{LockUnit}
use Rattle.jn_base.specs.declared.names.LockUnit.TheVariants.{File, Block}
use Rattle.jn_base.specs.declared.names.Tid.{Tid}
use Rattle.jn_base.specs.Names.{file_eq, unit_eq, block_eq}
use Rattle.jn_base.proofs.Tells.{file_tells, block_tells}
use Rattle.jn_locks.specs.declared.words.Mode.TheVariants.{Commit}
use Rattle.jn_locks.specs.Locks.{is_unit}
use Rattle.jn_rows.specs.declared.worker.Phase.{Phase}
use Rattle.jn_rows.specs.declared.worker.Phase.TheVariants.{Active, Broken, Prepared as Stored}
use Rattle.jn_rows.specs.Worker.{WorkerTable, commit_holder, holds}
use Rattle.jn_works.specs.Locked.{least_in, next_locked, is_held, file_from, block_from, least_locked, held_by, next_locked_block}
use Rattle.std.proofs.lemmas.Bool.Decides.{nat_tests}
use Rattle.jn_base.specs.declared.names.BlockNo.{BlockNo}
use Rattle.jn_index.specs.Least.{LeastFrom, NextAfter, number_after}
use Rattle.jn_index.proofs.Least.{least_join}

-- The least file and the least block that a prepared work holds for commit.

-- where each unit gives the least that it is, the least of all units is the least that is held
module _ {A : Type 0} (number : A → ℕ) (from : ℕ) (of : LockUnit → Option A) (unit : A → LockUnit) (one : (u : LockUnit) → LeastFrom number (λ a. unit_eq u (unit a)) from (of u)) where
  units-least : (us : List LockUnit) → LeastFrom number (λ a. is_unit us (unit a)) from (least_in number of us)
  units-least [] = λ a e. absurd (cc e)
  units-least (u ∷ us) = least_join number (λ a. unit_eq u (unit a)) (λ a. is_unit us (unit a)) from (of u) (least_in number of us) (one u) (units-least us)

  phase-least : (phase : Phase) → LeastFrom number (λ a. holds phase (unit a) Commit) from (least_in number of (held_by phase))
  phase-least (Active a) = λ x e. absurd (cc e)
  phase-least (Broken u by) = λ x e. absurd (cc e)
  phase-least (Stored p) = units-least p.writes

  locked-least : (t : WorkerTable) → LeastFrom number (λ a. is_held t (unit a)) from (least_locked number of t)
  locked-least [] = λ a e. absurd (cc e)
  locked-least (w ∷ ws) = subst (λ (p : A → Bool). LeastFrom number p from (least_locked number of (w ∷ ws))) same
      (least_join number (λ a. holds w.phase (unit a) Commit) (λ a. is_held ws (unit a)) from (least_in number of (held_by w.phase)) (least_locked number of ws) (phase-least w.phase) (locked-least ws))
    where
      at : (b : Bool) (o : Option Tid) → (b || is_some o) ≡ is_some (if b then Some w.tid else o)
      at true o = refl
      at false o = refl

      same : ◌≡◌ {A = A → Bool} (λ a. holds w.phase (unit a) Commit || is_held ws (unit a)) (λ a. is_held (w ∷ ws) (unit a))
      same = λ i a. at (holds w.phase (unit a) Commit) (commit_holder (unit a) ws) i

-- one unit
file-least : (from : ℕ) (u : LockUnit) → LeastFrom (λ (f : FileNo). f.0) (λ f. unit_eq u (File f)) from (file_from from u)
file-least from (Block f p) = λ g e. absurd (cc e)
file-least from (File f) = by (nat_le from f.0) refl
  where
    by : (b : Bool) → nat_le from f.0 ≡ b → LeastFrom (λ (g : FileNo). g.0) (λ g. file_eq f g) from (if b then Some f else None)
    by true e = record {
      here = let t = file_tells f f in grind arith;
      from_there = grind (arith, nat_tests, e);
      least = λ g s le. let t = file_tells f g in grind (arith, s);
    }
    by false e = λ g s. let t = file_tells f g in grind (arith, nat_tests, s, e)

block-least : (f : FileNo) (from : ℕ) (u : LockUnit) → LeastFrom (λ (p : BlockNo). p.0) (λ p. unit_eq u (Block f p)) from (block_from f from u)
block-least f from (File g) = λ p e. absurd (cc e)
block-least f from (Block g q) = by (file_eq g f) (nat_le from q.0) refl
  where
    by : (is b : Bool) → nat_le from q.0 ≡ b → LeastFrom (λ (p : BlockNo). p.0) (λ p. is && block_eq q p) from (if is && b then Some q else None)
    by false b e = λ p s. absurd (cc s)
    by true true e = record {
      here = let t = block_tells q q in grind arith;
      from_there = grind (arith, nat_tests, e);
      least = λ p s le. let t = block_tells q p in grind (arith, s);
    }
    by true false e = λ p s. let t = block_tells q p in grind (arith, nat_tests, s, e)

pub next_is_least : (after : Option FileNo) (t : WorkerTable) → NextAfter (λ (f : FileNo). f.0) (λ f. is_held t (File f)) after (next_locked after t)
next_is_least after t = let from = number_after (λ (f : FileNo). f.0) after in locked-least (λ (f : FileNo). f.0) from (file_from from) (λ f. File f) (file-least from) t

pub next_block_is_least : (f : FileNo) (after : Option BlockNo) (t : WorkerTable) → NextAfter (λ (p : BlockNo). p.0) (λ p. is_held t (Block f p)) after (next_locked_block f after t)
next_block_is_least f after t = let from = number_after (λ (p : BlockNo). p.0) after in locked-least (λ (p : BlockNo). p.0) from (block_from f from) (λ p. Block f p) (block-least f from) t
