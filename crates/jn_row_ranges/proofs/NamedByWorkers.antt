-- A worker names servers that there are.
use Rattle.jn_row_ranges.proofs.Common.{◌≡◌, ℕ, true, List, [], ◌∷◌, ◌++◌, Option, Some, None, refl, subst, arith, Tid, WorkId, Tickets, Message, StableState, Change, RowOutcome, Sent, is_near, are_both_near, names_near, are_within, are_works_within, are_changes_within, WorkerTable, WorkStorage, Wanted, work_of, with_phase, after_grant, commit_wants, worker_row, going_work, worker_step, worker_again, timed_out, vulnerable, new_work, name_from, its_wants, Replies, is_open_already, is_full, votes_against, votes_broken, votes_again, votes_lost, is_done_already, WorkerCase, none_done, replies_only, opens_anew, refuses_next, performs_next, prepares_it, marks_it, drops_it, removes_it, WorkerStep, carries_out, is_over, erases_rubbish, worker-case, worker-step-case, WorkEntry, Phase}
use Rattle.jn_rows.specs.Worker.{work_at, without}

-- ---- the works of a table

found-within : (n : ℕ) (W : WorkId) (t : WorkerTable) (w : WorkEntry) → are_works_within n t ≡ true → work_at W t ≡ Some w → are_both_near n w.tid w.name ≡ true
found-within n W [] w h e = absurd (cc e)
found-within n W (v ∷ vs) w h e = let again = found-within n W vs w in grind (arith, h, e)

of-within : (n : ℕ) (T : Tid) (t : WorkerTable) (w : WorkEntry) → are_works_within n t ≡ true → work_of T t ≡ Some w → are_both_near n w.tid w.name ≡ true
of-within n T [] w h e = absurd (cc e)
of-within n T (v ∷ vs) w h e = let again = of-within n T vs w in grind (arith, h, e)

going-within : (n : ℕ) (x : StableState) (t : WorkerTable) (w : WorkEntry) → are_works_within n t ≡ true → going_work x t ≡ Some w → are_both_near n w.tid w.name ≡ true
going-within n x [] w h e = absurd (cc e)
going-within n x (v ∷ vs) w h e = let again = going-within n x vs w in grind (arith, h, e)

pub phase-within : (n : ℕ) (W : WorkId) (p : Phase) (t : WorkerTable) → are_works_within n t ≡ true → are_works_within n (with_phase W p t) ≡ true
phase-within n W p [] h = refl
phase-within n W p (v ∷ vs) h = let again = phase-within n W p vs in grind (arith, h)

less-within : (n : ℕ) (W : WorkId) (t : WorkerTable) → are_works_within n t ≡ true → are_works_within n (without W t) ≡ true
less-within n W [] h = refl
less-within n W (v ∷ vs) h = let again = less-within n W vs in grind (arith, h)

pub more-works : (n : ℕ) (a b : WorkerTable) → are_works_within n a ≡ true → are_works_within n b ≡ true → are_works_within n (a ++ b) ≡ true
more-works n [] b h k = k
more-works n (v ∷ a) b h k = let again = more-works n a b in grind (arith, h, k)

grant-within : (n : ℕ) (T : Tid) (W : WorkId) (wants : List Wanted) (t : WorkerTable) → are_works_within n t ≡ true → are_works_within n (after_grant T W wants t) ≡ true
grant-within n T W wants [] h = refl
grant-within n T W wants (v ∷ vs) h = let again = grant-within n T W wants vs in grind (arith, h)

pub worker-again-within : (n : ℕ) (x : StableState) (t : WorkerTable) → are_works_within n t ≡ true → are_within n (worker_again x t) ≡ true
worker-again-within n x [] h = refl
worker-again-within n x (v ∷ vs) h = let again = worker-again-within n x vs in grind (arith, h)

-- ---- rows

pub record WorkerWithin (n : ℕ) (t : WorkerTable) (changes : List Change) (sent : List Sent) : Type 0 where
  pub table : are_works_within n t ≡ true
  pub changes_are : are_changes_within n changes ≡ true
  pub sent_are : are_within n sent ≡ true

abbrev Within : ℕ → RowOutcome WorkerTable → Type 0
Within n row = WorkerWithin n row.table row.changes row.messages

module _ (n : ℕ) (t : WorkerTable) (s : WorkStorage) (k : Tickets) (h : are_works_within n t ≡ true) where
  still : (sent : List Sent) → are_within n sent ≡ true → WorkerWithin n t [] sent
  still sent l = record { table = h; changes_are = refl; sent_are = l }

  reply-within : (m : Message) (x : Sent) → names_near n m ≡ true → Replies t s k m x → are_within n (x ∷ []) ≡ true
  reply-within _ _ l (is_open_already c q T w e) = let entry = of-within n T t w h e in grind (arith, l, entry)
  reply-within _ _ l (is_full c q T e full) = grind (arith, l)
  reply-within _ _ l (votes_against T c W w a e f v) = let entry = found-within n W t w h e in grind (arith, l, entry)
  reply-within _ _ l (votes_broken T c W w u held e f) = let entry = found-within n W t w h e in grind (arith, l, entry)
  reply-within _ _ l (votes_again T c W w p e f g) = let entry = found-within n W t w h e in grind (arith, l, entry)
  reply-within _ _ l (votes_lost T c W e) = grind (arith, l)
  reply-within _ _ l (is_done_already T W e) = grind (arith, l)
  reply-within _ _ l _ = refl

  pub worker-within : (m : Message) → is_near n k.server ≡ true → names_near n m ≡ true → Within n (worker_row t s k m)
  worker-within m mine l = by m (worker_row t s k m) l (worker-case t s k m)
    where
      by : (m : Message) (row : RowOutcome WorkerTable) → names_near n m ≡ true → WorkerCase t s k m row → Within n row
      by _ _ l (none_done m) = still _ refl
      by _ _ l (replies_only m x r) = still _ (reply-within m x l r)
      by _ _ l (opens_anew c q T none room) = record { table = more-works n t (new_work (name_from k) T ∷ []) h (grind (arith, mine, l)); changes_are = refl; sent_are = grind (arith, mine, l) }
      by _ _ l (refuses_next c q W o op w a refusal e f next r) = record { table = phase-within n w.name _ t h; changes_are = refl; sent_are = refl }
      by _ _ l (performs_next c q W o op w a e f next r) = record { table = phase-within n w.name _ _ (grant-within n w.tid w.name (its_wants s a op) t h); changes_are = refl; sent_are = refl }
      by _ _ l (prepares_it T c W w a e f v) = let entry = found-within n W t w h e in
          record { table = phase-within n w.name _ _ (grant-within n w.tid w.name (commit_wants a.writes) t h); changes_are = grind (arith, entry); sent_are = grind (arith, l, entry) }
      by _ _ l (marks_it T W w p e f g) = record { table = h; changes_are = refl; sent_are = refl }
      by _ _ l (drops_it T W w e f) = record { table = less-within n W t h; changes_are = refl; sent_are = refl }
      by _ _ l (removes_it T W w p e f g) = record { table = less-within n W t h; changes_are = refl; sent_are = refl }

  pub step-within : (row : RowOutcome WorkerTable) → worker_step t s k ≡ Some row → Within n row
  step-within row e = by row (worker-step-case t s k row e)
    where
      by : (row : RowOutcome WorkerTable) → WorkerStep t s k row → Within n row
      by _ (carries_out w i e f) = record { table = h; changes_are = refl; sent_are = refl }
      by _ (is_over w e f) = let entry = going-within n s.state t w h e in record { table = less-within n w.name t h; changes_are = refl; sent_are = grind (arith, entry) }
      by _ (erases_rubbish e g) = still [] refl

  pub timeout-within : (o : Option WorkEntry) (u : WorkerTable) → timed_out t o ≡ Some u → are_works_within n u ≡ true
  timeout-within None u e = absurd (cc e)
  timeout-within (Some w) u e = by (with_phase w.name (vulnerable w.phase) t) (phase-within n w.name (vulnerable w.phase) t h) e
    where
      by : (v : WorkerTable) → are_works_within n v ≡ true → Some v ≡ Some u → are_works_within n u ≡ true
      by v l q = let same : v ≡ u = cc in subst (λ (z : WorkerTable). are_works_within n z ≡ true) same l
