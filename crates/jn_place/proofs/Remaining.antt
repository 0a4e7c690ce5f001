-- Each background step at a place leaves one less to make.
use Rattle.jn_place.proofs.Common.{◌≡◌, ◌<◌, ◌+◌, ℕ, Bool, true, false, length, Option, Some, None, Ok, is_some, true≢false, sym, ◌∙◌, ap, subst, DeviceState, Collected, Memory, RowOutcome, StableState, Pick, Steps, Parts, view_with, state, Accounts, StoreView, Slot, Up, Down, Gone, work_of, has_work_at, IsAsBefore, Follows, LeavesFewer}
use Rattle.jn_server.specs.Remaining.{steps_of_works, steps_left}
use Rattle.jn_place.proofs.Calling.{was-done, work-there}
use Rattle.jn_place.specs.Remaining.{steps_at}

module _ {S : Type 0} (look : S → StoreView) where
  -- ---- the server's own call

  -- where there is something to do it is done
  pub fewer-done : (a : Slot S) (p q : Parts S) (before after : Collected) (done : Bool) → a ≡ Up p → has_work_at look a ≡ true
      → Steps (work_of (view_with look p)) (view_with look p) before (Ok done) (view_with look q) after
      → (done ≡ true → steps_left (view_with look q) < steps_left (view_with look p)) → LeavesFewer look a true (Up q)
  fewer-done a p q before after done is there h less = subst (λ (x : Slot S). LeavesFewer look x true (Up q)) (sym is) (less (by (work_of (view_with look p)) (work-there look a p is there) h))
    where
      by : (o : Option (RowOutcome Memory)) → is_some o ≡ true → Steps o (view_with look p) before (Ok done) (view_with look q) after → done ≡ true
      by None t s = absurd (true≢false (sym t))
      by (Some row) t s = was-done look row p q before after done s

  pub fewer-stopped : (a : Slot S) (p q : Parts S) → a ≡ Up p → has_work_at look a ≡ true → (is_some (work_of (view_with look p)) ≡ true → 0 < steps_left (view_with look p)) → LeavesFewer look a false (Up q)
  fewer-stopped a p q is there some = subst (λ (x : Slot S). LeavesFewer look x false (Up q)) (sym is) (some (work-there look a p is there))

  -- ---- with what follows it

  as-many : (p q : Parts S) → IsAsBefore look p q → steps_left (view_with look q) ≡ steps_left (view_with look p)
  as-many p q same =
      let v = view_with look p in
      let w = view_with look q in
      ap (λ (f : Pick → StableState). steps_of_works (f (λ n. false)) w.storage.accounts.next w.worker.table + length w.storage.accounts.rubbish) same.found
      ∙ ap (λ (a : Accounts). steps_of_works (state v.storage) a.next w.worker.table + length a.rubbish) same.accounts
      ∙ ap (λ (m : Memory). steps_of_works (state v.storage) v.storage.accounts.next m.worker + length v.storage.accounts.rubbish) same.memory

  pub fewer-left : (device : S → DeviceState) (a m b : Slot S) (done : Bool) → LeavesFewer look a done m → Follows look device m done b → steps_at look b < steps_at look a
  fewer-left device (Up p) (Up m) (Up b) true h f = subst (λ (n : ℕ). n < steps_left (view_with look p)) (sym (as-many m b f.0)) h
  fewer-left device (Up p) (Up m) (Up b) false h f = absurd f
  fewer-left device (Up p) (Up m) (Down s) true h f = absurd f
  fewer-left device (Up p) (Up m) (Down s) false h f = h
  fewer-left device (Up p) (Up m) Gone true h f = absurd f
  fewer-left device (Up p) (Up m) Gone false h f = absurd f
  fewer-left device (Up p) (Down s) b done h f = absurd f
  fewer-left device (Up p) Gone b done h f = absurd f
  fewer-left device (Down s) m b done h f = absurd h
  fewer-left device Gone m b done h f = absurd h
