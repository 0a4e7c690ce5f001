-- What a server's call does, by its row.
use Rattle.jn_place.proofs.Common.{[], Scrubs, ◌≡◌, ◌≤◌, ◌+◌, ℕ, Bool, true, false, length, Option, Some, None, Result, Ok, Err, is_some, true≢false, refl, sym, ◌∙◌, ap, subst, arith, List, Message, Collected, server_row, of_coordinator, Memory, table_of, Scrubbed, close_clients_row, RowOutcome, Unchanged, IsDone, IsStopped, Steps, Shown, ServerView, Parts, view_with, memory_of, room_of, state, Accounts, StorageLater, StoreView, IsCalm, added, AllCanBeTaken, Slot, Up, Answered, Sends, work_of, has_work_at, idle_row, IsRowDone, IsRowStopped, RowEnds, Handles, IsWorking, Works, Shows, Closes, row_calls}
use Rattle.jn_base.specs.declared.fault.CallFault.TheVariants.{Stopped}
use Rattle.jn_rows.proofs.Left.{whole-stop}
use Rattle.jn_server.specs.Showing.{IsShown, IsCutShort}
use Rattle.jn_place.proofs.Rows.{step-taken, step-draws}
use Rattle.jn_place.proofs.Served.{nothing}
use Rattle.jn_place.proofs.Slots.{done-called, stopped-called}

module _ {S : Type 0} (look : S → StoreView) where
  pub row-done : (most : ℕ) (row : RowOutcome Memory) (p q : Parts S) (before after : Collected) → IsDone most row (view_with look p) before (view_with look q) after → RowEnds look most row p true (Up q)
  row-done most row p q before after d = record { memory = d.memory; found = d.found; later = d.later; few = d.calls; power = d.serves.works.serving.power }

  pub row-stopped : (most : ℕ) (row : RowOutcome Memory) (p q : Parts S) (before after : Collected) → IsStopped most row (view_with look p) before (view_with look q) after → RowEnds look most row p false (Up q)
  row-stopped most row p q before after d = record { some = d.some; later = d.later; few = d.calls; dark = d.stop.dark; not_calm = d.not_calm }

  row-sends : (most : ℕ) (row : RowOutcome Memory) (v : ServerView) (before : Collected) (w : ServerView) (after : Collected) → before ≡ nothing → IsDone most row v before w after → Sends row (Some after)
  row-sends most row v before w after none d = d.sent ∙ ap (λ (b : Collected). added b row.messages row.notes) none

  -- ---- a message

  abbrev row_at : Parts S → Message → RowOutcome Memory
  row_at p message = let v = view_with look p in server_row (memory_of v) (state v.storage) (room_of v.storage) message

  pub handles-done : (a : Slot S) (p q : Parts S) (message : Message) (before after : Collected) → a ≡ Up p → before ≡ nothing
      → IsDone row_calls (let v = view_with look p in server_row (memory_of v) (state v.storage) (room_of v.storage) message) (view_with look p) before (view_with look q) after → Handles look message a (Some after) (Up q)
  handles-done a p q message before after is none d = subst (λ (x : Slot S). Handles look message x (Some after) (Up q)) (sym is)
      (row-done row_calls (row_at p message) p q before after d, row-sends row_calls (row_at p message) (view_with look p) before (view_with look q) after none d)

  pub handles-stopped : (a : Slot S) (p q : Parts S) (message : Message) (before after : Collected) → a ≡ Up p
      → IsStopped row_calls (let v = view_with look p in server_row (memory_of v) (state v.storage) (room_of v.storage) message) (view_with look p) before (view_with look q) after → Handles look message a None (Up q)
  handles-stopped a p q message before after is d = subst (λ (x : Slot S). Handles look message x None (Up q)) (sym is) (row-stopped row_calls (row_at p message) p q before after d, tt)

  -- ---- a background step

  pub work-there : (a : Slot S) (p : Parts S) → a ≡ Up p → has_work_at look a ≡ true → is_some (work_of (view_with look p)) ≡ true
  work-there a p is there = subst (λ (x : Slot S). has_work_at look x ≡ true) is there

  -- a step of which there is one is answered so
  pub was-done : (row : RowOutcome Memory) (p q : Parts S) (before after : Collected) (done : Bool) → Steps (Some row) (view_with look p) before (Ok done) (view_with look q) after → done ≡ true
  was-done row p q before after done h = same (Ok done) done true refl (h.1 refl)
    where
      same : {E : Type 0} (answer : Result Bool E) (a b : Bool) → answer ≡ Ok a → answer ≡ Ok b → a ≡ b
      same answer a b d e = cc

  pub works-done : (a : Slot S) (p q : Parts S) (before after : Collected) (done : Bool) → a ≡ Up p → before ≡ nothing → has_work_at look a ≡ true
      → Steps (work_of (view_with look p)) (view_with look p) before (Ok done) (view_with look q) after → Works look a (Some after) (Up q)
  works-done a p q before after done is none there h = subst (λ (x : Slot S). Works look x (Some after) (Up q)) (sym is) (by (work_of (view_with look p)) refl (work-there a p is there) h)
    where
      by : (o : Option (RowOutcome Memory)) → work_of (view_with look p) ≡ o → is_some o ≡ true → Steps o (view_with look p) before (Ok done) (view_with look q) after → IsWorking look p (Some after) (Up q)
      by None e t h = absurd (true≢false (sym t))
      by (Some row) e t h = record { row = row; row_is = e; ends = row-done 32 row p q before after h.0; sends = row-sends 32 row (view_with look p) before (view_with look q) after none h.0 }

  pub works-stopped : (a : Slot S) (p q : Parts S) (before after : Collected) → a ≡ Up p → has_work_at look a ≡ true
      → Steps (work_of (view_with look p)) (view_with look p) before (Err Stopped) (view_with look q) after → Works look a None (Up q)
  works-stopped a p q before after is there h = subst (λ (x : Slot S). Works look x None (Up q)) (sym is) (by (work_of (view_with look p)) refl (work-there a p is there) h)
    where
      by : (o : Option (RowOutcome Memory)) → work_of (view_with look p) ≡ o → is_some o ≡ true → Steps o (view_with look p) before (Err Stopped) (view_with look q) after → IsWorking look p None (Up q)
      by None e t h = absurd (true≢false (sym t))
      by (Some row) e t h = record { row = row; row_is = e; ends = row-stopped 32 row p q before after h.0; sends = tt }

  pub worked-done : (a : Slot S) (p q : Parts S) (before after : Collected) (done : Bool) → a ≡ Up p → before ≡ nothing → has_work_at look a ≡ true
      → Steps (work_of (view_with look p)) (view_with look p) before (Ok done) (view_with look q) after → Answered look a (Up q) (Some after)
  worked-done a p q before after done is none there h = subst (λ (x : Slot S). Answered look x (Up q) (Some after)) (sym is) (by (work_of (view_with look p)) refl (work-there a p is there) h)
    where
      by : (o : Option (RowOutcome Memory)) → work_of (view_with look p) ≡ o → is_some o ≡ true → Steps o (view_with look p) before (Ok done) (view_with look q) after → Answered look (Up p) (Up q) (Some after)
      by None e t h = absurd (true≢false (sym t))
      by (Some row) e t h =
          let v = view_with look p in
          let sent : row.messages ≡ after.messages = sym (ap (λ (c : Collected). c.messages) (row-sends 32 row v before (view_with look q) after none h.0)) in (
            let d = step-draws (memory_of v) (state v.storage) (room_of v.storage) row e in done-called 32 (length after.messages) row v before (view_with look q) after h.0 (omega arith),
            subst AllCanBeTaken sent (step-taken (memory_of v) (state v.storage) (room_of v.storage) row e),
          )

  pub worked-stopped : (a : Slot S) (p q : Parts S) (before after : Collected) → a ≡ Up p → has_work_at look a ≡ true
      → Steps (work_of (view_with look p)) (view_with look p) before (Err Stopped) (view_with look q) after → Answered look a (Up q) None
  worked-stopped a p q before after is there h = subst (λ (x : Slot S). Answered look x (Up q) None) (sym is) (by (work_of (view_with look p)) refl (work-there a p is there) h)
    where
      by : (o : Option (RowOutcome Memory)) → work_of (view_with look p) ≡ o → is_some o ≡ true → Steps o (view_with look p) before (Err Stopped) (view_with look q) after → Answered look (Up p) (Up q) None
      by None e t h = absurd (true≢false (sym t))
      by (Some row) e t h = stopped-called 32 0 row (view_with look p) before (view_with look q) after h.0

  -- ---- a call that changes nothing

  same-memory : (v w : ServerView) → w ≡ record v { storage = w.storage } → w.storage.accounts ≡ v.storage.accounts → memory_of w ≡ memory_of v
  same-memory v w tables same = ap memory_of tables ∙ ap (λ (a : Accounts). memory_of (record v { storage = record w.storage { accounts = a } })) same

  idle-done : (most : ℕ) (p q : Parts S) → view_with look q ≡ record (view_with look p) { storage = (view_with look q).storage } → (view_with look q).storage.accounts ≡ (view_with look p).storage.accounts
      → Unchanged (state (view_with look p).storage) (view_with look q).storage.found → StorageLater (view_with look p).storage (view_with look q).storage → (look q.storage.0).calls ≤ (look p.storage.0).calls + most → (look q.storage.0).power ≡ true → IsRowDone look most (idle_row (memory_of (view_with look p))) p q
  idle-done most p q tables same found later few power = record { memory = same-memory (view_with look p) (view_with look q) tables same; found = found; later = later; few = few; power = power }

  idle-stopped : (most : ℕ) (p q : Parts S) → Unchanged (state (view_with look p).storage) (view_with look q).storage.found → StorageLater (view_with look p).storage (view_with look q).storage → (look q.storage.0).calls ≤ (look p.storage.0).calls + most → (look q.storage.0).power ≡ false
      → (IsCalm (look p.storage.0) → ⊥) → IsRowStopped look most (idle_row (memory_of (view_with look p))) p q
  idle-stopped most p q found later few dark not_calm = record { some = λ c. whole-stop (state (view_with look p).storage) [] ((view_with look q).storage.found c) 0 (found c); later = later; few = few; dark = dark; not_calm = not_calm }

  pub shows-done : (a : Slot S) (p q : Parts S) (list : List Shown) → a ≡ Up p → IsShown (view_with look p) list (view_with look q) → Shows look a (Some list) (Up q)
  shows-done a p q list is h = subst (λ (x : Slot S). Shows look x (Some list) (Up q)) (sym is)
      (idle-done _ p q h.looks.tables h.accounts h.looks.found h.looks.later h.looks.calls h.serves.works.serving.power, h.prints)

  pub shows-stopped : (a : Slot S) (p q : Parts S) → a ≡ Up p → IsCutShort (view_with look p) (view_with look q) → Shows look a None (Up q)
  shows-stopped a p q is h = subst (λ (x : Slot S). Shows look x None (Up q)) (sym is) (idle-stopped _ p q h.looks.found h.looks.later h.looks.calls h.stop.dark h.not_calm, tt)

  pub scrubs-done : (a : Slot S) (p q : Parts S) → a ≡ Up p → Scrubbed (view_with look p).storage true (view_with look q).storage → view_with look q ≡ record (view_with look p) { storage = (view_with look q).storage } → Scrubs look a true (Up q)
  scrubs-done a p q is h tables = subst (λ (x : Slot S). Scrubs look x true (Up q)) (sym is) (idle-done _ p q tables h.same h.unchanged h.called.later h.called.calls (let s = h.called.serving refl in s.power))

  pub scrubs-stopped : (a : Slot S) (p q : Parts S) → a ≡ Up p → Scrubbed (view_with look p).storage false (view_with look q).storage → Scrubs look a false (Up q)
  scrubs-stopped a p q is h =
      let stop = h.called.stop refl in
      subst (λ (x : Slot S). Scrubs look x false (Up q)) (sym is)
      (idle-stopped _ p q h.unchanged h.called.later h.called.calls stop.dark (λ calm. let after = h.called.later.store.calm calm in true≢false (sym after.power ∙ stop.dark)))

  -- ---- the clients' end

  abbrev closed_at : Parts S → RowOutcome Memory
  closed_at p = let v = view_with look p in of_coordinator (memory_of v) (close_clients_row (table_of v.coordinator) v.tickets)

  pub closes-done : (a : Slot S) (p q : Parts S) → a ≡ Up p → IsDone row_calls (let v = view_with look p in of_coordinator (memory_of v) (close_clients_row (table_of v.coordinator) v.tickets)) (view_with look p) nothing (view_with look q) nothing → Closes look a true (Up q)
  closes-done a p q is d = subst (λ (x : Slot S). Closes look x true (Up q)) (sym is) (row-done row_calls (closed_at p) p q nothing nothing d)

  pub closes-stopped : (a : Slot S) (p q : Parts S) → a ≡ Up p → IsStopped row_calls (let v = view_with look p in of_coordinator (memory_of v) (close_clients_row (table_of v.coordinator) v.tickets)) (view_with look p) nothing (view_with look q) nothing → Closes look a false (Up q)
  closes-stopped a p q is d = subst (λ (x : Slot S). Closes look x false (Up q)) (sym is) (row-stopped row_calls (closed_at p) p q nothing nothing d)
