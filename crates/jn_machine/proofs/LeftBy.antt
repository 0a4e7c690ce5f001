-- What a step leaves at a server beside the stable state, by the row that the server does in it.
use Rattle.jn_machine.proofs.Common.{◌≡◌, ℕ, Bool, Option, Some, None, ◌∙◌, ap, if◌then◌else◌, slice_get, ServerNo, ClientNo, Client, Server, StableState, stable, Sent, RowOutcome, World, Memory, Room, server_row, Step, Deliver, Work, server_eq, Message, server_step, Pick}
use Rattle.std.specs.Option.{option_map, option_and_then, option_map_or}
use Rattle.jn_worker.specs.Leaving.{Beside}
use Rattle.jn_machine.specs.Leaving.{row_for, left_by_row, left_by_step}

-- after a step in which the server does this row, or none
abbrev pub left_with : Step → StableState → Option (RowOutcome Memory) → Beside → Beside
left_with step x o before = option_map_or (λ (row : RowOutcome Memory). left_by_row step x row.changes before) o before

module _ (reads : Pick → Beside) (w : World) (q : ServerNo) where
  -- the server's row for a message and its background step, where they are its own or another's, and by what it remembers
  abbrev pub row_with : Room → Message → Bool → Option Memory → Option (RowOutcome Memory)
  row_with room message own o = if own then option_map (λ (m : Memory). server_row m (stable (w.found q)) room message) o else None

  abbrev pub step_with : Room → Bool → Option Memory → Option (RowOutcome Memory)
  step_with room own o = if own then option_and_then (λ (m : Memory). server_step m (stable (w.found q)) room) o else None

  -- a message that is sent to a server
  pub left-sent : (k : ℕ) (room : Room) (s : ServerNo) (message : Message) → slice_get w.sent k ≡ Some (Server s, message) → (own : Bool) → server_eq s q ≡ own → (o : Option Memory) → w.memory q ≡ o → (before : Beside)
      → left_by_step reads w q (Deliver k room) before ≡ left_with (Deliver k room) (stable (w.found q)) (row_with room message own o) before
  left-sent k room s message sent own is o up before = ap (λ (p : Option Sent). left_with (Deliver k room) (stable (w.found q)) (row_for w q room p) before) sent
      ∙ ap (λ (b : Bool). left_with (Deliver k room) (stable (w.found q)) (row_with room message b (w.memory q)) before) is
      ∙ ap (λ (p : Option Memory). left_with (Deliver k room) (stable (w.found q)) (row_with room message own p) before) up

  -- to a client
  pub left-told : (k : ℕ) (room : Room) (c : ClientNo) (message : Message) → slice_get w.sent k ≡ Some (Client c, message) → (before : Beside) → left_by_step reads w q (Deliver k room) before ≡ before
  left-told k room c message sent before = ap (λ (p : Option Sent). left_with (Deliver k room) (stable (w.found q)) (row_for w q room p) before) sent

  -- a background step of a server
  pub left-work : (s : ServerNo) (room : Room) (own : Bool) → server_eq s q ≡ own → (o : Option Memory) → w.memory q ≡ o → (before : Beside)
      → left_by_step reads w q (Work s room) before ≡ left_with (Work s room) (stable (w.found q)) (step_with room own o) before
  left-work s room own is o up before = ap (λ (b : Bool). left_with (Work s room) (stable (w.found q)) (step_with room b (w.memory q)) before) is
      ∙ ap (λ (p : Option Memory). left_with (Work s room) (stable (w.found q)) (step_with room own p) before) up
