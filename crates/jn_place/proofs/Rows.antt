-- What holds of each row by itself.
use Rattle.jn_place.proofs.Common.{◌≡◌, ◌≤◌, ◌+◌, length, Some, ap, arith, Tickets, Message, close_clients_row, RowOutcome, StableState, Room, server_row, server_step, server_again, of_coordinator, Memory, AllCanBeTaken}
use Rattle.jn_row_ranges.proofs.Taking.{servers-taken}
use Rattle.jn_row_ranges.proofs.ServerRows.{row-requests, row-drawn, step-requests, step-tickets, again-requests}

pub row-taken : (m : Memory) (x : StableState) (room : Room) (message : Message) → AllCanBeTaken (server_row m x room message).messages
row-taken m x room message = servers-taken (server_row m x room message).messages (row-requests m x room message)

pub step-taken : (m : Memory) (x : StableState) (room : Room) (row : RowOutcome Memory) → server_step m x room ≡ Some row → AllCanBeTaken row.messages
step-taken m x room row e = servers-taken row.messages (step-requests m x room row e)

pub again-taken : (m : Memory) (x : StableState) → AllCanBeTaken (server_again m x)
again-taken m x = servers-taken (server_again m x) (again-requests m x)

pub row-draws : (m : Memory) (x : StableState) (room : Room) (message : Message) → (server_row m x room message).table.tickets.next ≤ m.tickets.next + length (server_row m x room message).messages
row-draws m x room message = let d = row-drawn m x room message in d.next

pub step-draws : (m : Memory) (x : StableState) (room : Room) (row : RowOutcome Memory) → server_step m x room ≡ Some row → row.table.tickets.next ≤ m.tickets.next + 0
step-draws m x room row e = let same = ap (λ (k : Tickets). k.next) (step-tickets m x room row e) in omega arith

pub close-draws : (m : Memory) → (of_coordinator m (close_clients_row m.coordinator m.tickets)).table.tickets.next ≤ m.tickets.next + 0
close-draws m = omega arith
