-- A worker that asks again.
use Rattle.jn_worker.proofs.Common.{◌≡◌, ◌≤◌, ℕ, zero, suc, true, List, [], ◌∷◌, ◌++◌, length, drop, refl, sym, ◌∙◌, ap, arith, append-nil, WorkId, work_eq, Collected, Work, StableState, is_going, worker_again, is_in, StorageView, state, WorkerView, Fits, asked_again, AsksAgain}

again_same : (x : StableState) (going : List WorkId) (ws : List Work) → ((W : WorkId) → is_in work_eq W going ≡ is_going (x.works W)) → asked_again going ws ≡ worker_again x ws
again_same x going [] h = refl
again_same x going (w ∷ ws) h = let rest = again_same x going ws h in let e = h w.name in grind arith

pub again_row : (t : WorkerView) (v : StorageView) → Fits t v → asked_again t.going t.table ≡ worker_again (state v) t.table
again_row t v h = again_same (state v) t.going t.table h.going

-- all have been asked for
pub again_all : (t : WorkerView) (ws : List Work) (going : List WorkId) (before after : Collected) (n : ℕ) → record { table = ws; going = going } ≡ t → length ws ≤ n → after.notes ≡ before.notes
    → after.messages ++ asked_again going (drop n ws) ≡ before.messages ++ asked_again going ws → AsksAgain t before true after
again_all t ws going before after n e over notes messages = record {
  notes = notes;
  messages = λ _. all;
  is_row = again_row t;
}
  where
    gone : (xs : List Work) (m : ℕ) → length xs ≤ m → drop m xs ≡ []
    gone [] zero h = refl
    gone [] (suc m) h = refl
    gone (x ∷ xs) zero h = absurd (omega (arith, h))
    gone (x ∷ xs) (suc m) h = gone xs m (omega (arith, h))

    all : after.messages ≡ before.messages ++ asked_again t.going t.table
    all = sym (append-nil after.messages) ∙ (ap (λ rest. after.messages ++ asked_again going rest) (sym (gone ws n over)) ∙ (messages ∙ ap (λ s. before.messages ++ asked_again s.going s.table) e))
