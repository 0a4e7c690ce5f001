-- Steps of clients: each takes a message, is told a command, or sends once more.
use Rattle.jn_world_refines.proofs.Common.{◌≡◌, ◌-◌, ℕ, Bool, true, false, List, [], ◌∷◌, ◌++◌, append-nil, length, drop, Option, Some, None, refl, sym, ◌∙◌, ap, subst, if◌then◌else◌, nat_tests, ClientNo, Client, client_eq, DeviceState, Posted, with_delivered, Deliver, after, took, taken_by, handed, World, at_client, Line, Taken, ClientTable, new_table, take_row, Sent, pairs_view, StoreView, Setup, plain, delivered, no_room, Moment, message_texts, traced, lines_at, Task, when_of, Standing, is_client_number, Stands, posted_by, with_sent, with_client, texts_taken, ActsNext, IsStepTo, arith, left-told, took_message}
use Rattle.std.proofs.Common.{slice_get}
use Rattle.jn_rows.specs.declared.client.Taken.TheVariants as taken
use Rattle.jn_schedule.specs.declared.Event.TheVariants as events
use Rattle.jn_row_ranges.specs.Taking.{sent_for}
use Rattle.jn_world_refines.proofs.Core.{ClientsStand, client-is, other-is}
use Rattle.jn_world_refines.proofs.Servers.{servers-same}
use Rattle.jn_world_refines.proofs.Clients.{one-of, client-moved, other-stays, taken-none, new-stays}
use Rattle.jn_world_refines.proofs.Plain.{no-chance, plain-step}
use Rattle.jn_world_refines.proofs.Took.{is-sent}

same-client : (c : ClientNo) → client_eq c c ≡ true
same-client c = grind (arith, nat_tests)

-- what a client does with a message, in the system
record TakesSo (c : ClientNo) (k : ℕ) (t : ClientTable) (what : Taken) (v now : World) : Type 0 where
  pub memory : now.memory ≡ v.memory
  pub found : now.found ≡ v.found
  pub clients : now.clients ≡ at_client v.clients c t
  pub sent : now.sent ≡ v.sent ++ sent_for what
  pub lines : now.lines ≡ v.lines ++ texts_taken k what

takes-so : (c : ClientNo) (k : ℕ) (t : ClientTable) (what : Taken) (v : World) → TakesSo c k t what v (took c k t what v)
takes-so c k t taken.Ignored v = record { memory = refl; found = refl; clients = refl; sent = sym (append-nil v.sent); lines = refl }
takes-so c k t (taken.Send to message) v = record { memory = refl; found = refl; clients = refl; sent = refl; lines = sym (append-nil v.lines) }
takes-so c k t (taken.Told line answer) v = record { memory = refl; found = refl; clients = refl; sent = refl; lines = refl }

moved-so : (c : ClientNo) (k : ℕ) (t : ClientTable) (what : Taken) (v now now' : World) → now' ≡ now → TakesSo c k t what v now → TakesSo c k t what v now'
moved-so c k t what v now now' e h = subst (λ (u : World). TakesSo c k t what v u) (sym e) h

module _ {S : Type 0} (look : S → StoreView) (device : S → DeviceState) (seen : (s : S) → look s ≡ pairs_view (device s)) (x : Setup) (w : Standing S) (m : Moment) (stand : Stands look device x w m) where
  abbrev v : World
  v = m.state.course.world

  -- ---- messages

  module _ (k : ℕ) (one : Posted) (posted : slice_get w.net.sent k ≡ Some one) (c : ClientNo) (to : one.to ≡ Client c) (more : List Task) (next : ActsNext x m (events.Deliver k) more)
      (t : ClientTable) (here : v.clients c ≡ t) where
    abbrev what : Taken
    what = (take_row t one.message).1

    acts : delivered (no-chance look device seen x w m stand) k m.state.clients v (slice_get v.sent k) ≡ took_message c k (take_row (m.state.clients c) one.message)
    acts = ap (delivered (no-chance look device seen x w m stand) k m.state.clients v) (is-sent look device seen x w m stand k one posted (Client c) to)

    after-is : after (Deliver k no_room) v ≡ took c k (take_row t one.message).0 what v
    after-is = ap (λ (o : Option Sent). handed k no_room None o v) (is-sent look device seen x w m stand k one posted (Client c) to) ∙ ap (λ (a : ClientTable). taken_by c k (take_row a one.message) v) here

    so : TakesSo c k (take_row t one.message).0 what v (after (Deliver k no_room) v)
    so = moved-so c k (take_row t one.message).0 what v (took c k (take_row t one.message).0 what v) (after (Deliver k no_room) v) after-is (takes-so c k (take_row t one.message).0 what v)

    table-here : (after (Deliver k no_room) v).clients c ≡ (take_row t one.message).0
    table-here = ap (λ (f : ClientNo → ClientTable). f c) so.clients ∙ ap (λ (b : Bool). if b then (take_row t one.message).0 else v.clients c) (same-client c)

    table-there : (d : ClientNo) → client_eq c d ≡ false → (after (Deliver k no_room) v).clients d ≡ v.clients d
    table-there d o = ap (λ (f : ClientNo → ClientTable). f d) so.clients ∙ ap (λ (b : Bool). if b then (take_row t one.message).0 else v.clients d) o

    takes : (ts : List ClientTable) → ClientsStand x ts (after (Deliver k no_room) v) → (lines : List Line)
        → IsStepTo look device x m (more ++ drop 1 m.state.tasks) (with_sent (posted_by (Client c) (sent_for what)) (record w { clients = ts; net = record w.net { sent = with_delivered k w.net.sent } }))
        lines (lines ++ lines_at (when_of m.state) (texts_taken k what ++ traced w.trace (message_texts (Client c) (length w.net.sent) (sent_for what))))
    takes ts clients lines = plain-step look device seen x w m stand (events.Deliver k) more next (Client c) (Deliver k no_room) (λ f. at_client f c (take_row (m.state.clients c) one.message).0) (Some (texts_taken k (take_row (m.state.clients c) one.message).1)) acts tt
        (λ s reads. left-told reads v s k no_room c one.message (is-sent look device seen x w m stand k one posted (Client c) to)) (sent_for what) (texts_taken k what) (taken-none k t one.message) so.sent so.lines
        w.places (servers-same look device seen x w m stand _ (record { memory = λ q. ap (λ f. f q) so.memory; found = λ q. ap (λ f. f q) so.found; devices = λ q. refl })) ts clients (with_delivered k w.net.sent) refl lines

  here-of : (c : ClientNo) → is_client_number c.0 ≡ true → (t : ClientTable) → slice_get w.clients (c.0 - 1) ≡ Some t → v.clients c ≡ t
  here-of c is t at = subst (λ (n : ℕ). v.clients (record { 0 = n }) ≡ t) (one-of c is) (client-is look device x w m stand (c.0 - 1) t at)

  -- one of the eight takes a message
  pub client-took-step : (k : ℕ) (one : Posted) → slice_get w.net.sent k ≡ Some one → (c : ClientNo) → one.to ≡ Client c → is_client_number c.0 ≡ true → (t : ClientTable) → slice_get w.clients (c.0 - 1) ≡ Some t
      → (more : List Task) → ActsNext x m (events.Deliver k) more → (lines : List Line)
      → IsStepTo look device x m (more ++ drop 1 m.state.tasks)
      (with_sent (posted_by (Client c) (sent_for (take_row t one.message).1)) (with_client c (take_row t one.message).0 (record w { net = record w.net { sent = with_delivered k w.net.sent } })))
      lines (lines ++ lines_at (when_of m.state) (texts_taken k (take_row t one.message).1 ++ traced w.trace (message_texts (Client c) (length w.net.sent) (sent_for (take_row t one.message).1))))
  client-took-step k one posted c to is t at more next lines = takes k one posted c to more next t (here-of c is t at) _
      (client-moved look device seen x w m stand c is (take_row t one.message).0 (after (Deliver k no_room) v) (table-here k one posted c to more next t (here-of c is t at)) (table-there k one posted c to more next t (here-of c is t at))) lines

  -- another one is as new, and stays so
  pub other-took-step : (k : ℕ) (one : Posted) → slice_get w.net.sent k ≡ Some one → (c : ClientNo) → one.to ≡ Client c → is_client_number c.0 ≡ false → (more : List Task) → ActsNext x m (events.Deliver k) more → (lines : List Line)
      → IsStepTo look device x m (more ++ drop 1 m.state.tasks)
      (with_sent (posted_by (Client c) (sent_for (take_row (new_table c x.servers) one.message).1)) (record w { net = record w.net { sent = with_delivered k w.net.sent } }))
      lines (lines ++ lines_at (when_of m.state) (texts_taken k (take_row (new_table c x.servers) one.message).1 ++ traced w.trace (message_texts (Client c) (length w.net.sent) (sent_for (take_row (new_table c x.servers) one.message).1))))
  other-took-step k one posted c to is more next lines = takes k one posted c to more next (new_table c x.servers) (other-is look device x w m stand c is) w.clients
      (other-stays look device seen x w m stand c is (after (Deliver k no_room) v) (table-here k one posted c to more next (new_table c x.servers) (other-is look device x w m stand c is) ∙ new-stays c x.servers one.message)
      (table-there k one posted c to more next (new_table c x.servers) (other-is look device x w m stand c is))) lines
