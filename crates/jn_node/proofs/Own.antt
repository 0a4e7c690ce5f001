-- What a server sends to itself, and the names that it draws.
use Rattle.std.proofs.Common.{◌≡◌, ◌≤◌, ℕ, Bool, true, false, List, [], ◌∷◌, ◌++◌, refl, sym, arith, true≢false}
use Rattle.std.specs.Prelude.{◌+◌, ◌&&◌, if◌then◌else◌}
use Rattle.jn_base.specs.declared.names.ServerNo.{ServerNo}
use Rattle.jn_base.specs.declared.names.Tickets.{Tickets}
use Rattle.jn_msgs.specs.Ranges.{CanBeTaken, is_small, names_near}
use Rattle.jn_msgs.specs.declared.message.Message.{Message}
use Rattle.jn_msgs.specs.declared.message.Message.TheVariants as messages
use Rattle.jn_row_ranges.specs.Drawing.{draws}
use Rattle.jn_row_ranges.specs.Naming.{are_within, is_within}
use Rattle.jn_row_ranges.specs.Taking.{are_from_server, is_from_server}
use Rattle.jn_rows.specs.Coordinator.{CoordinatorTable, coordinator_row}
use Rattle.jn_rows.specs.Outcomes.{RowOutcome, Sent}
use Rattle.jn_rows.specs.Stable.{StableState}
use Rattle.jn_rows.specs.Worker.{WorkStorage, WorkerTable, worker_row}
use Rattle.jn_system.specs.WholeSystem.Servers.{Room, server_row, storage_of}
use Rattle.jn_system.specs.WholeSystem.World.{Memory}
use Rattle.jn_system.proofs.WholeSystem.CoordinatorCases.{CoordinatorCase, begins_anew, coordinator-case}
use Rattle.jn_system.proofs.WholeSystem.ServerRows.{row-either}
use Rattle.jn_system.proofs.WholeSystem.WorkerCases.{WorkerCase, opens_anew, worker-case}
use Rattle.jn_node.specs.Nodes.{are_own}
use Rattle.jn_node.specs.Serving.{is_own, to_itself}

-- ---- a message that only servers send

pub no-draw : (m : Message) → is_from_server m ≡ true → draws m ≡ false
no-draw (messages.Begin c q) h = absurd (true≢false (sym h))
no-draw (messages.Open c q T) h = absurd (true≢false (sym h))
no-draw m h = grind (arith, h)

pub own-taken : (m : Message) → is_from_server m ≡ true → CanBeTaken m
own-taken (messages.Op c q W n op) h = absurd (true≢false (sym h))
own-taken (messages.End c q T works) h = absurd (true≢false (sym h))
own-taken m h = record { in_range = tt; few = tt }

pub own-small : (m : Message) → is_from_server m ≡ true → is_small 8 m ≡ true
own-small (messages.End c q T works) h = absurd (true≢false (sym h))
own-small (messages.Abort c q T works) h = absurd (true≢false (sym h))
own-small m h = refl

-- ---- messages of a row

first-of : (a b : Bool) → (a && b) ≡ true → a ≡ true
first-of a b h = grind arith

second-of : (a b : Bool) → (a && b) ≡ true → b ≡ true
second-of a b h = grind arith

both-of : (a b : Bool) → a ≡ true → b ≡ true → (a && b) ≡ true
both-of a b h k = grind arith

pub own-head : (m : Message) (ms : List Message) → are_own (m ∷ ms) ≡ true → (is_from_server m ≡ true) × (names_near 8 m ≡ true) × (are_own ms ≡ true)
own-head m ms h = let one = first-of (is_from_server m && names_near 8 m) (are_own ms) h in (first-of (is_from_server m) (names_near 8 m) one, second-of (is_from_server m) (names_near 8 m) one, second-of (is_from_server m && names_near 8 m) (are_own ms) h)

pub own-both : (xs ys : List Message) → are_own xs ≡ true → are_own ys ≡ true → are_own (xs ++ ys) ≡ true
own-both [] ys h k = k
own-both (m ∷ xs) ys h k = both-of (is_from_server m && names_near 8 m) (are_own (xs ++ ys)) (first-of (is_from_server m && names_near 8 m) (are_own xs) h) (own-both xs ys (second-of (is_from_server m && names_near 8 m) (are_own xs) h) k)

pub own-itself : (s : ServerNo) (sent : List Sent) → are_from_server sent ≡ true → are_within 8 sent ≡ true → are_own (to_itself s sent) ≡ true
own-itself s [] h k = refl
own-itself s (x ∷ sent) h k = by (is_own s x.0) (own-itself s sent (second-of (is_from_server x.1) (are_from_server sent) h) (second-of (is_within 8 x) (are_within 8 sent) k))
  where
    by : (b : Bool) → are_own (to_itself s sent) ≡ true → are_own (if b then x.1 ∷ to_itself s sent else to_itself s sent) ≡ true
    by true rest = both-of (is_from_server x.1 && names_near 8 x.1) (are_own (to_itself s sent))
        (both-of (is_from_server x.1) (names_near 8 x.1) (first-of (is_from_server x.1) (are_from_server sent) h) (second-of _ (names_near 8 x.1) (first-of (is_within 8 x) (are_within 8 sent) k))) rest
    by false rest = rest

-- ---- a row draws one name at most

worker-one : (t : WorkerTable) (s : WorkStorage) (k : Tickets) (m : Message) → (worker_row t s k m).tickets.next ≤ k.next + 1
worker-one t s k m = by m (worker_row t s k m) (worker-case t s k m)
  where
    by : (m : Message) (row : RowOutcome WorkerTable) → WorkerCase t s k m row → row.tickets.next ≤ k.next + 1
    by _ _ (opens_anew c q T none room) = omega arith
    by _ _ _ = omega arith

coordinator-one : (t : CoordinatorTable) (k : Tickets) (free : ℕ) (m : Message) → (coordinator_row t free k m).tickets.next ≤ k.next + 1
coordinator-one t k free m = by m (coordinator_row t free k m) (coordinator-case t free k m)
  where
    by : (m : Message) (row : RowOutcome CoordinatorTable) → CoordinatorCase t free k m row → row.tickets.next ≤ k.next + 1
    by _ _ (begins_anew c q later room) = omega arith
    by _ _ _ = omega arith

pub one-name : (m : Memory) (x : StableState) (room : Room) (message : Message) → (server_row m x room message).table.tickets.next ≤ m.tickets.next + 1
one-name m x room message = row-either (λ row. row.table.tickets.next ≤ m.tickets.next + 1) m x room message
    (worker-one m.worker (storage_of m x room) m.tickets message) (coordinator-one m.coordinator m.tickets room.free.records message)
