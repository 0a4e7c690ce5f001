-- A work whose transaction's outcome is known.
use Rattle.jn_worker.proofs.Common.{◌≡◌, Bool, true, false, List, [], ◌∷◌, ◌++◌, Option, Some, refl, sym, ◌∙◌, ap, subst, arith, ◌⊎◌, inl, inr, Ok, is_some, not, ◌&&◌, work_tells, append-nil, Tid, Tickets, WorkId, work_eq, Collected, Work, Phase, Active, Broken, Stored, RowOutcome, quiet, MarkGoing, RemoveWork, is_going, WorkerTable, WorkStorage, work_at, commit_row, commit_phase, drop_row, drop_phase, without, is_in, StorageView, state, MarkedGoing, WorkRemoved, WorkerView, Fits, is_stored, seen, Takes, are_rising, beside_of}
use Rattle.jn_worker.proofs.Counts.{counts_same, counts_off, holds_only, left_only, filled}
use Rattle.jn_worker.proofs.Exits.{without_change, one_made}
use Rattle.jn_worker.proofs.Fit.{ready_here, fits_marked, tickets_marked, fits_let_go, tickets_let_go, fits_removed, tickets_removed}

marks : (t : WorkerTable) (s : WorkStorage) (k : Tickets) (T : Tid) (W : WorkId) (o : Option Work) (w : Work) → o ≡ Some w → is_stored w.phase ≡ true → is_going (s.state.works W) ≡ false
    → commit_row t s k T W o ≡ record (quiet t k) { changes = MarkGoing W ∷ [] }
marks t s k T W o w at stored out = ap (λ o. commit_row t s k T W o) at ∙ by w.phase stored
  where
    by : (phase : Phase) → is_stored phase ≡ true → commit_phase t s k W phase ≡ record (quiet t k) { changes = MarkGoing W ∷ [] }
    by (Stored q) e = grind (arith, out)
    by (Active a) e = absurd (cc e)
    by (Broken u S) e = absurd (cc e)

-- a ready work is going
made_going : (t : WorkerView) (v w : StorageView) (before : Collected) (k : Tickets) (T : Tid) (W : WorkId) (work : Work) → Fits t v → work_at W t.table ≡ Some work → is_stored work.phase ≡ true → is_in work_eq W t.going ≡ false
    → MarkedGoing v W true w → Takes 16 (commit_row t.table (seen v) k T W (work_at W t.table)) t v before k (Ok (tt {0})) (record { table = t.table; going = t.going ++ W ∷ [] }) w before k
made_going t v w before k T W work h at stored out m = subst (λ row. Takes 16 row t v before k (Ok (tt {0})) (record { table = t.table; going = t.going ++ W ∷ [] }) w before k)
    (sym (marks t.table (seen v) k T W (work_at W t.table) work at stored (sym (h.going W) ∙ out)))
    (one_made (tt {0}) _ t _ v w before before k k (MarkGoing W) 16 refl (omega arith) m.called m.change refl (sym (append-nil before.messages)) (sym (append-nil before.notes)) refl
    (fits_marked t v w W h (ready_here t v W work h at stored out) m) (tickets_marked t.table v w W k m) (counts_same (state v) (MarkGoing W ∷ []) v.accounts w.accounts (m.accounts refl) refl (λ c e. sym (left_only (state v) (MarkGoing W) c (beside_of v.accounts) e)) (λ c e. holds_only v.accounts v.accounts (MarkGoing W) c e refl)))

pub commit_made : (t : WorkerView) (ws : List Work) (gs more : List WorkId) (v w : StorageView) (before : Collected) (k : Tickets) (T : Tid) (W : WorkId) (work : Work) → record { table = ws; going = gs } ≡ t → Fits t v → work_at W ws ≡ Some work
    → is_stored work.phase ≡ true → is_in work_eq W gs ≡ false → MarkedGoing v W true w → more ≡ gs ++ W ∷ [] → Takes 16 (commit_row t.table (seen v) k T W (work_at W t.table)) t v before k (Ok (tt {0})) (record { table = ws; going = more }) w before k
commit_made t ws gs more v w before k T W work e h at stored out m is = subst (λ gs. Takes 16 (commit_row t.table (seen v) k T W (work_at W t.table)) t v before k (Ok (tt {0})) (record { table = ws; going = gs }) w before k) (sym is)
    (subst (λ (t : WorkerView). Fits t v → Takes 16 (commit_row t.table (seen v) k T W (work_at W t.table)) t v before k (Ok (tt {0})) (record { table = ws; going = gs ++ W ∷ [] }) w before k) e
    (λ h. made_going (record { table = ws; going = gs }) v w before k T W work h at stored out m) h)

-- a ready work's Commit is a change
pub commit_changes : (t : WorkerView) (ws : List Work) (gs : List WorkId) (v : StorageView) (k : Tickets) (T : Tid) (W : WorkId) (work : Work) → record { table = ws; going = gs } ≡ t → Fits t v → work_at W ws ≡ Some work → is_stored work.phase ≡ true → is_in work_eq W gs ≡ false
    → (commit_row t.table (seen v) k T W (work_at W t.table)).changes ≡ [] → ⊥
commit_changes t ws gs v k T W work e h at stored out none = filled (sym (ap (λ (row : RowOutcome WorkerTable). row.changes) (marks t.table (seen v) k T W (work_at W t.table) work (subst (λ (t : WorkerView). work_at W t.table ≡ Some work) e at) stored
    (sym (h.going W) ∙ subst (λ (t : WorkerView). is_in work_eq W t.going ≡ false) e out))) ∙ none)

-- ---- dropped

drops : (t : WorkerTable) (s : WorkStorage) (k : Tickets) (W : WorkId) (o : Option Work) (w : Work) → o ≡ Some w → is_stored w.phase ≡ true → is_going (s.state.works W) ≡ false
    → drop_row t s k W o ≡ record (quiet (without W t) k) { changes = RemoveWork W ∷ [] }
drops t s k W o w at stored out = ap (λ o. drop_row t s k W o) at ∙ by w.phase stored
  where
    by : (phase : Phase) → is_stored phase ≡ true → drop_phase t s k W phase ≡ record (quiet (without W t) k) { changes = RemoveWork W ∷ [] }
    by (Stored q) e = grind (arith, out)
    by (Active a) e = absurd (cc e)
    by (Broken u S) e = absurd (cc e)

lets_go : (t : WorkerTable) (s : WorkStorage) (k : Tickets) (W : WorkId) (o : Option Work) (w : Work) → o ≡ Some w → is_stored w.phase ≡ false → drop_row t s k W o ≡ quiet (without W t) k
lets_go t s k W o w at stored = ap (λ o. drop_row t s k W o) at ∙ by w.phase stored
  where
    by : (phase : Phase) → is_stored phase ≡ false → drop_phase t s k W phase ≡ quiet (without W t) k
    by (Stored q) e = absurd (cc e)
    by (Active a) e = refl
    by (Broken u S) e = refl

removes : (t : WorkerView) (v w : StorageView) (before : Collected) (k : Tickets) (W : WorkId) (work : Work) → Fits t v → are_rising t.table ≡ true → work_at W t.table ≡ Some work → is_stored work.phase ≡ true → is_in work_eq W t.going ≡ false
    → WorkRemoved v W true w → Takes 16 (drop_row t.table (seen v) k W (work_at W t.table)) t v before k (Ok (tt {0})) (record { table = without W t.table; going = t.going }) w before k
removes t v w before k W work h rising at stored out m = subst (λ row. Takes 16 row t v before k (Ok (tt {0})) (record { table = without W t.table; going = t.going }) w before k)
    (sym (drops t.table (seen v) k W (work_at W t.table) work at stored (sym (h.going W) ∙ out)))
    (one_made (tt {0}) _ t _ v w before before k k (RemoveWork W) 16 refl (omega arith) m.called m.change refl (sym (append-nil before.messages)) (sym (append-nil before.notes)) refl
    (fits_removed t v w W t.going h rising (λ V. others V (work_eq W V) refl) m) (tickets_removed t.table v w W k (ap is_some at) m) (counts_off (state v) W v.accounts w.accounts (m.accounts refl)))
  where
    others : (V : WorkId) (b : Bool) → work_eq W V ≡ b → is_in work_eq V t.going ≡ (is_in work_eq V t.going && not b)
    others V true e = subst (λ U. is_in work_eq U t.going ≡ (is_in work_eq U t.going && false)) (same e) (grind (arith, out))
      where
        same : work_eq W V ≡ true → W ≡ V
        same e = let t = work_tells W V in grind (arith, e)
    others V false e = sym (all (is_in work_eq V t.going))
      where
        all : (b : Bool) → (b && true) ≡ b
        all true = refl
        all false = refl

goes_quietly : (t : WorkerView) (v : StorageView) (before : Collected) (k : Tickets) (W : WorkId) (work : Work) → Fits t v → are_rising t.table ≡ true → work_at W t.table ≡ Some work → is_stored work.phase ≡ false
    → Takes 16 (drop_row t.table (seen v) k W (work_at W t.table)) t v before k (Ok (tt {0})) (record { table = without W t.table; going = t.going }) v before k
goes_quietly t v before k W work h rising at stored = subst (λ row. Takes 16 row t v before k (Ok (tt {0})) (record { table = without W t.table; going = t.going }) v before k)
    (sym (lets_go t.table (seen v) k W (work_at W t.table) work at stored))
    (without_change (tt {0}) _ t _ v before before k k refl refl (sym (append-nil before.messages)) (sym (append-nil before.notes)) refl (fits_let_go t v W work h rising at stored) (tickets_let_go t.table v W k))

-- where a Drop changes nothing, the storage is left alone
pub drop_kept : (t : WorkerView) (ws : List Work) (gs : List WorkId) (v w : StorageView) (k : Tickets) (W : WorkId) (work : Work) → record { table = ws; going = gs } ≡ t → Fits t v → work_at W ws ≡ Some work → is_in work_eq W gs ≡ false → (is_stored work.phase ≡ true) ⊎ (w ≡ v)
    → (drop_row t.table (seen v) k W (work_at W t.table)).changes ≡ [] → w ≡ v
drop_kept t ws gs v w k W work e h at out (inl stored) none = absurd (filled (sym (ap (λ (row : RowOutcome WorkerTable). row.changes) (drops t.table (seen v) k W (work_at W t.table) work (subst (λ (t : WorkerView). work_at W t.table ≡ Some work) e at) stored
    (sym (h.going W) ∙ subst (λ (t : WorkerView). is_in work_eq W t.going ≡ false) e out))) ∙ none))
drop_kept t ws gs v w k W work e h at out (inr same) none = same

-- a work is let go, and taken from the storage where it was prepared
pub drop_made : (t : WorkerView) (ws after : List Work) (gs : List WorkId) (v w : StorageView) (before : Collected) (k : Tickets) (W : WorkId) (work : Work) → record { table = ws; going = gs } ≡ t → Fits t v → are_rising ws ≡ true
    → work_at W ws ≡ Some work → is_in work_eq W gs ≡ false → ((is_stored work.phase ≡ true) × WorkRemoved v W true w) ⊎ ((is_stored work.phase ≡ false) × (w ≡ v)) → after ≡ without W ws
    → Takes 16 (drop_row t.table (seen v) k W (work_at W t.table)) t v before k (Ok (tt {0})) (record { table = after; going = gs }) w before k
drop_made t ws after gs v w before k W work e h rising at out how is = subst (λ ws. Takes 16 (drop_row t.table (seen v) k W (work_at W t.table)) t v before k (Ok (tt {0})) (record { table = ws; going = gs }) w before k) (sym is)
    (subst (λ (t : WorkerView). Fits t v → Takes 16 (drop_row t.table (seen v) k W (work_at W t.table)) t v before k (Ok (tt {0})) (record { table = without W ws; going = gs }) w before k) e (λ h. by h how) h)
  where
    by : Fits (record { table = ws; going = gs }) v → ((is_stored work.phase ≡ true) × WorkRemoved v W true w) ⊎ ((is_stored work.phase ≡ false) × (w ≡ v))
        → Takes 16 (drop_row ws (seen v) k W (work_at W ws)) (record { table = ws; going = gs }) v before k (Ok (tt {0})) (record { table = without W ws; going = gs }) w before k
    by h (inl p) = removes (record { table = ws; going = gs }) v w before k W work h rising at p.0 out p.1
    by h (inr p) = subst (λ w. Takes 16 (drop_row ws (seen v) k W (work_at W ws)) (record { table = ws; going = gs }) v before k (Ok (tt {0})) (record { table = without W ws; going = gs }) w before k) (sym p.1)
        (goes_quietly (record { table = ws; going = gs }) v before k W work h rising at p.0)
