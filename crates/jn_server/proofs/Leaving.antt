-- What a background step leaves beside files, works and flags, and that it leaves one less to make.
use Rattle.jn_server.proofs.Common.{◌≡◌, ◌≤◌, ◌<◌, ◌+◌, ◌-◌, ℕ, Bool, true, false, true≢false, List, [], ◌∷◌, length, Option, Some, None, refl, sym, ◌∙◌, ap, subst, arith, Result, Ok, Err, IsErr, Collected, Change, RowOutcome, WorkerTable, worker_step, of_step, server_step, step-aside, seen, state, Accounts, beside_of, left_over, Steps, ServerView, memory_of, room_of, IfOk, Memory, StepLeaves, LeavesByWork, left_by_work, steps_left}
use Rattle.jn_server.proofs.Remaining.{row-less}
use Rattle.jn_server.proofs.Stepping.{same-ok}

-- a background step makes one change at most
few-changes : (v : ServerView) (row : RowOutcome Memory) → server_step (memory_of v) (state v.storage) (room_of v.storage) ≡ Some row → length row.changes ≤ 1
few-changes v row e = by (worker_step v.worker.table (seen v.storage) v.tickets) refl e
  where
    some : (a b : RowOutcome Memory) → Some a ≡ Some b → a ≡ b
    some a b e = cc

    by : (o : Option (RowOutcome WorkerTable)) → worker_step v.worker.table (seen v.storage) v.tickets ≡ o → of_step (memory_of v) o ≡ Some row → length row.changes ≤ 1
    by None is q = absurd (cc q)
    by (Some r) is q = let aside = step-aside v.worker.table (seen v.storage) v.tickets r is in subst (λ (z : RowOutcome Memory). length z.changes ≤ 1) (some _ row q) aside.few

row-leaves : (v w : ServerView) (row : RowOutcome Memory) → server_step (memory_of v) (state v.storage) (room_of v.storage) ≡ Some row → StepLeaves v row w → LeavesByWork v row w
row-leaves v w row is leaves = by row.changes refl (few-changes v row is)
  where
    less : (m n : ℕ) → m + 1 ≡ n → m ≡ n - 1
    less m n e = omega (arith, e)

    by : (changes : List Change) → row.changes ≡ changes → length changes ≤ 1 → beside_of w.storage.accounts ≡ left_by_work (state v.storage) changes (beside_of v.storage.accounts)
    by [] e few = let one = leaves.0 e in λ i. record { rubbish = less _ _ one.rubbish_less i; maps = ap (λ (a : Accounts). a.maps) one.others i; supplied = ap (λ (a : Accounts). a.supplied) one.others i }
    by (c ∷ []) e few = leaves.1 c e ∙ ap (λ (l : List Change). left_over (state v.storage) l (beside_of v.storage.accounts)) e
    by (c ∷ d ∷ cs) e few = absurd (omega (arith, few))

module _ (v w : ServerView) (before after : Collected) (did : Bool) where
  pub leaves-so : Steps (server_step (memory_of v) (state v.storage) (room_of v.storage)) v before (Ok did) w after → did ≡ true
      → (row : RowOutcome Memory) → server_step (memory_of v) (state v.storage) (room_of v.storage) ≡ Some row → LeavesByWork v row w
  leaves-so h done row e = let s = subst (λ (o : Option (RowOutcome Memory)). Steps o v before (Ok did) w after) e h in row-leaves v w row e (s.2 refl)

  pub one-less : Steps (server_step (memory_of v) (state v.storage) (room_of v.storage)) v before (Ok did) w after → did ≡ true → steps_left w < steps_left v
  one-less h done = by (server_step (memory_of v) (state v.storage) (room_of v.storage)) refl h
    where
      by : (o : Option (RowOutcome Memory)) → server_step (memory_of v) (state v.storage) (room_of v.storage) ≡ o → Steps o v before (Ok did) w after → steps_left w < steps_left v
      by None e s = absurd (true≢false (sym done ∙ same-ok (Ok did) did false refl s.0))
      by (Some row) e s = row-less v w row e s.0.memory (s.0.found (λ n. false)) (s.2 refl)

-- nothing is said of an error
pub none-said : {A E : Type 0} (P : A → Type 0) (answer : Result A E) → IsErr answer → IfOk answer P
none-said P (Ok x) h = absurd (cc h)
none-said P (Err e) h = tt
