-- No prepared work of a server writes what none of its works holds for commit.
use Rattle.jn_system_order.proofs.Common.{◌≡◌, ◌⊎◌, inl, inr, Bool, true, false, [], ◌∷◌, Option, Some, None, is_some, refl, sym, subst, if◌then◌else◌, WorkId, Tickets, LockUnit, work_eq, list_change, Commit, Work, Phase, Prepared, WorkerTable, work_at, holds, commit_holder, HoldsForCommit, file_unit, false_unless, not_both, TableFact, Entry, entry-of}
use Rattle.jn_system.proofs.SmallSteps.HeldLemmas.{writes_held}

-- a work that is found doesn't hold it
no-holder : (u : LockUnit) (t : WorkerTable) (W : WorkId) (v : Work) → commit_holder u t ≡ None → work_at W t ≡ Some v → holds v.phase u Commit ≡ false
no-holder u [] W v none h = absurd (no h)
  where
    no : None ≡ Some v → ⊥
    no q = cc
no-holder u (x ∷ xs) W v none h = by (holds x.phase u Commit) (work_eq x.name W) refl none h (no-holder u xs W v)
  where
    no : Some x.tid ≡ None → ⊥
    no q = cc

    some : Some x ≡ Some v → x ≡ v
    some q = cc

    by : (b c : Bool) → holds x.phase u Commit ≡ b → (if b then Some x.tid else commit_holder u xs) ≡ None → (if c then Some x else work_at W xs) ≡ Some v → (commit_holder u xs ≡ None → work_at W xs ≡ Some v → holds v.phase u Commit ≡ false) → holds v.phase u Commit ≡ false
    by true c e k l on = absurd (no k)
    by false true e k l on = subst (λ (z : Work). holds z.phase u Commit ≡ false) (some l) e
    by false false e k l on = on k l

pub writes-nothing : (t : WorkerTable) (k : Tickets) (stored : WorkId → Option Prepared) → TableFact t k stored → (u : LockUnit) → commit_holder u t ≡ None → commit_holder (file_unit u) t ≡ None
    → (W : WorkId) (p : Prepared) → stored W ≡ Some p → is_some (list_change p.list u) ≡ false
writes-nothing t k stored fact u none file W p e = false_unless (is_some (list_change p.list u)) (λ h. by (writes_held p.list u h))
  where
    entry : Entry t stored W p
    entry = entry-of t k stored fact W p e

    held : (x : LockUnit) → commit_holder x t ≡ None → HoldsForCommit p.list x → ⊥
    held x n c = not_both (holds entry.work.phase x Commit) (subst (λ (q : Phase). holds q x Commit ≡ true) (sym entry.phase) (entry.covers x c)) (no-holder x t W entry.work n entry.found)

    by : HoldsForCommit p.list u ⊎ HoldsForCommit p.list (file_unit u) → ⊥
    by (inl c) = held u none c
    by (inr c) = held (file_unit u) file c
