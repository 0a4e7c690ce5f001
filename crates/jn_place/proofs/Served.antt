-- What a server's calls leave, each by what it answers.
use Rattle.jn_place.proofs.Common.{◌≡◌, ℕ, true, false, length, [], ◌++◌, Some, sym, ◌∙◌, ap, subst, table_of, Message, Collected, server_row, server_again, of_coordinator, Memory, close_clients_row, StableState, IsDone, IsStopped, ServerView, Parts, view_with, memory_of, room_of, state, StoreView, added, AllCanBeTaken, Slot, Up, IsCalled, Answered, row_calls}
use Rattle.jn_place.proofs.Rows.{row-taken, row-draws, close-draws, again-taken}
use Rattle.jn_place.proofs.Slots.{done-called, stopped-called}

abbrev pub nothing : Collected
nothing = record { messages = []; notes = [] }

-- ---- a message

handled-from : {S : Type 0} (look : S → StoreView) (p q : Parts S) (message : Message) (after : Collected)
    → IsDone row_calls (let v = view_with look p in server_row (memory_of v) (state v.storage) (room_of v.storage) message) (view_with look p) nothing (view_with look q) after
    → Answered look (Up p) (Up q) (Some after)
handled-from look p q message after d =
    let v = view_with look p in
    let row = server_row (memory_of v) (state v.storage) (room_of v.storage) message in
    let sent = sym (ap (λ (c : Collected). c.messages) d.sent) in (
      subst (λ (n : ℕ). IsCalled n true v (view_with look q)) (ap length sent) (done-called row_calls (length row.messages) row v nothing (view_with look q) after d (row-draws (memory_of v) (state v.storage) (room_of v.storage) message)),
      subst AllCanBeTaken sent (row-taken (memory_of v) (state v.storage) (room_of v.storage) message),
    )

pub handled-done : {S : Type 0} (look : S → StoreView) (a : Slot S) (p q : Parts S) (message : Message) (before after : Collected) → a ≡ Up p → before ≡ nothing
    → IsDone row_calls (let v = view_with look p in server_row (memory_of v) (state v.storage) (room_of v.storage) message) (view_with look p) before (view_with look q) after
    → Answered look a (Up q) (Some after)
handled-done {S} look a p q message before after is e d = subst (λ (x : Slot S). Answered look x (Up q) (Some after)) (sym is) (handled-from look p q message after (subst (λ (b : Collected). IsDone row_calls (let v = view_with look p in server_row (memory_of v) (state v.storage) (room_of v.storage) message) (view_with look p) b (view_with look q) after) e d))

-- ---- the end

pub closed-called : (v w : ServerView) → IsDone row_calls (of_coordinator (memory_of v) (close_clients_row (table_of v.coordinator) v.tickets)) v nothing w nothing → IsCalled 0 true v w
closed-called v w d = done-called row_calls 0 (of_coordinator (memory_of v) (close_clients_row (table_of v.coordinator) v.tickets)) v nothing w nothing d (close-draws (memory_of v))

pub closed-stopped : (v w : ServerView) → IsStopped row_calls (of_coordinator (memory_of v) (close_clients_row (table_of v.coordinator) v.tickets)) v nothing w nothing → IsCalled 0 false v w
closed-stopped v w d = stopped-called row_calls 0 (of_coordinator (memory_of v) (close_clients_row (table_of v.coordinator) v.tickets)) v nothing w nothing d

pub again-sent : (before after : Collected) (m : Memory) (x : StableState) → before ≡ nothing → after ≡ added before (server_again m x) [] → AllCanBeTaken after.messages
again-sent before after m x none e =
    let sent : after.messages ≡ server_again m x = ap (λ (c : Collected). c.messages) e ∙ ap (λ (c : Collected). c.messages ++ server_again m x) none in
    subst AllCanBeTaken (sym sent) (again-taken m x)
