-- Each call of a server that is up, with what follows it.
use Rattle.jn_place.proofs.Common.{Scrubs, ◌≡◌, ℕ, Bool, List, ◌++◌, Option, is_some, ServerNo, DeviceState, Message, Collected, server_row, of_coordinator, Counts, When, Line, close_clients_row, Shown, view_with, memory_of, room_of, state, StoreView, Slot, Up, Down, Gone, lines_at, texts_of_step, Took, WorkedBy, ScrubbedBy, Showed, Closed, StaysCalm, idle_row, Handles, Works, Idles, Shows, IsStepOf, row_calls, Parts, Closes, told_at, Follows, Stands, step_calls}
use Rattle.jn_place.proofs.Ending.{Sees, step-of, calm-of}

module _ {S : Type 0} (look : S → StoreView) (device : S → DeviceState) (sees : Sees look device) (q : ServerNo) (g : Counts) (most : ℕ) (when : When) (lines lines' : List Line) where
  pub took : (message : Message) (a m b : Slot S) (answer : Option Collected) → Stands look q g most a → Handles look message a answer m → Follows look device m (is_some answer) b
      → lines' ≡ lines ++ lines_at when (texts_of_step q (told_at device m) (is_some answer)) → Took look device q g when message a answer b lines lines'
  took message (Up p) m b answer stands h follows e =
      let v = view_with look p in
      (step-of look device sees q g row_calls when (server_row (memory_of v) (state v.storage) (room_of v.storage) message) p stands.counts lines lines' m (is_some answer) b h.0 follows e, h.1)
  took message (Down s) m b answer stands h follows e = absurd h
  took message Gone m b answer stands h follows e = absurd h

  pub took-calm : (message : Message) (a m b : Slot S) (answer : Option Collected) → Stands look q g most a → Handles look message a answer m → Follows look device m (is_some answer) b → StaysCalm look a (is_some answer) b
  took-calm message (Up p) m b answer stands h follows =
      let v = view_with look p in
      calm-of look device sees q g row_calls when (server_row (memory_of v) (state v.storage) (room_of v.storage) message) p stands.counts lines lines' m (is_some answer) b h.0 follows
  took-calm message (Down s) m b answer stands h follows = absurd h
  took-calm message Gone m b answer stands h follows = absurd h

  pub worked-by : (a m b : Slot S) (answer : Option Collected) → Stands look q g most a → Works look a answer m → Follows look device m (is_some answer) b
      → lines' ≡ lines ++ lines_at when (texts_of_step q (told_at device m) (is_some answer)) → WorkedBy look device q g when a answer b lines lines'
  worked-by (Up p) m b answer stands h follows e = record {
    row = h.row;
    row_is = h.row_is;
    step = step-of look device sees q g step_calls when h.row p stands.counts lines lines' m (is_some answer) b h.ends follows e;
    sends = h.sends;
  }
  worked-by (Down s) m b answer stands h follows e = absurd h
  worked-by Gone m b answer stands h follows e = absurd h

  pub worked-calm : (a m b : Slot S) (answer : Option Collected) → Stands look q g most a → Works look a answer m → Follows look device m (is_some answer) b → StaysCalm look a (is_some answer) b
  worked-calm (Up p) m b answer stands h follows = calm-of look device sees q g step_calls when h.row p stands.counts lines lines' m (is_some answer) b h.ends follows
  worked-calm (Down s) m b answer stands h follows = absurd h
  worked-calm Gone m b answer stands h follows = absurd h

  -- a call that changes nothing
  module _ (calls : ℕ) (p : Parts S) (m b : Slot S) (done : Bool) (stands : Stands look q g most (Up p)) (h : Idles look calls p done m) (follows : Follows look device m done b) where
    idled : lines' ≡ lines ++ lines_at when (texts_of_step q (told_at device m) done) → IsStepOf look device q g calls when (idle_row (memory_of (view_with look p))) (Up p) done b lines lines'
    idled e = step-of look device sees q g calls when (idle_row (memory_of (view_with look p))) p stands.counts lines lines' m done b h follows e

    idled-calm : StaysCalm look (Up p) done b
    idled-calm = calm-of look device sees q g calls when (idle_row (memory_of (view_with look p))) p stands.counts lines lines' m done b h follows

  pub scrubbed-by : (a m b : Slot S) (done : Bool) → Stands look q g most a → Scrubs look a done m → Follows look device m done b
      → lines' ≡ lines ++ lines_at when (texts_of_step q (told_at device m) done) → ScrubbedBy look device q g when a done b lines lines'
  scrubbed-by (Up p) m b done stands h follows e = idled _ p m b done stands h follows e
  scrubbed-by (Down s) m b done stands h follows e = absurd h
  scrubbed-by Gone m b done stands h follows e = absurd h

  pub scrubbed-calm : (a m b : Slot S) (done : Bool) → Stands look q g most a → Scrubs look a done m → Follows look device m done b → StaysCalm look a done b
  scrubbed-calm (Up p) m b done stands h follows = idled-calm _ p m b done stands h follows
  scrubbed-calm (Down s) m b done stands h follows = absurd h
  scrubbed-calm Gone m b done stands h follows = absurd h

  pub showed-by : (a m b : Slot S) (list : Option (List Shown)) → Stands look q g most a → Shows look a list m → Follows look device m (is_some list) b
      → lines' ≡ lines ++ lines_at when (texts_of_step q (told_at device m) (is_some list)) → Showed look device q g when a list b lines lines'
  showed-by (Up p) m b list stands h follows e = (idled _ p m b (is_some list) stands h.0 follows e, h.1)
  showed-by (Down s) m b list stands h follows e = absurd h
  showed-by Gone m b list stands h follows e = absurd h

  pub showed-calm : (a m b : Slot S) (list : Option (List Shown)) → Stands look q g most a → Shows look a list m → Follows look device m (is_some list) b → StaysCalm look a (is_some list) b
  showed-calm (Up p) m b list stands h follows = idled-calm _ p m b (is_some list) stands h.0 follows
  showed-calm (Down s) m b list stands h follows = absurd h
  showed-calm Gone m b list stands h follows = absurd h

  pub closed-by : (a m b : Slot S) (done : Bool) → Stands look q g most a → Closes look a done m → Follows look device m done b
      → lines' ≡ lines ++ lines_at when (texts_of_step q (told_at device m) done) → Closed look device q g when a done b lines lines'
  closed-by (Up p) m b done stands h follows e =
      let k = memory_of (view_with look p) in
      step-of look device sees q g row_calls when (of_coordinator k (close_clients_row k.coordinator k.tickets)) p stands.counts lines lines' m done b h follows e
  closed-by (Down s) m b done stands h follows e = absurd h
  closed-by Gone m b done stands h follows e = absurd h

  pub closed-calm : (a m b : Slot S) (done : Bool) → Stands look q g most a → Closes look a done m → Follows look device m done b → StaysCalm look a done b
  closed-calm (Up p) m b done stands h follows =
      let k = memory_of (view_with look p) in
      calm-of look device sees q g row_calls when (of_coordinator k (close_clients_row k.coordinator k.tickets)) p stands.counts lines lines' m done b h follows
  closed-calm (Down s) m b done stands h follows = absurd h
  closed-calm Gone m b done stands h follows = absurd h
