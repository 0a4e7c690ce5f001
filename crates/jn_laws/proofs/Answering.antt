-- What becomes of a message that is handed over: it is answered, or its server is stopped, or the run is cut short.
use Rattle.jn_laws.proofs.Common.{◌≡◌, ◌≢◌, ℕ, Bool, true, false, List, [], ◌∷◌, ◌++◌, append-nil, length, length-append, Option, Some, None, is_some, refl, sym, ◌∙◌, ap, subst, arith, if◌then◌else◌, slice_get, ServerNo, Party, Client, Server, client_eq, server_eq, client_tells, server_tells, Message, Taken, ClientTable, take_row, RowOutcome, Sent, Pick, stable, made_all, World, Memory, Room, server_row, Deliver, handing, after, run, handed, at_memory, ends, took, Setup, Use, Nothing, Deed, room, no_room, delivered_at, IsUsed, rubbish_on, Moment, DoesStep, CutShort, HandsOver, Answer, tells_alone, room_on, row_on, of_row, of_server, of_taken, its_answer, IsGiven, IsDone, IsTaken, IsStopped, stopped_at, IsTooLong, IsStale, Calls, free_found, row_calls, ClientNo, Left, maps_found, pages_of, at_client, taken_by, texts_taken, does-tables}
use Rattle.jn_records.specs.declared.net_list.Need.{Need}
use Rattle.jn_records.specs.MapPlaces.{MapPlaces}
use Rattle.jn_server.specs.Standing.{free_on}
use Rattle.jn_report.specs.declared.line.Text.TheVariants as says
use Rattle.jn_rows.specs.declared.client.Taken.TheVariants as taken
use Rattle.jn_laws.proofs.Handing.{itself, DoesOne, does-one, world-after, gives, is-long}

same-client : (c : ClientNo) → client_eq c c ≡ true
same-client c = itself client_eq c (client_tells c c)

same-server : (q : ServerNo) → server_eq q q ≡ true
same-server q = itself server_eq q (server_tells q q)

abbrev with_room : Need → MapPlaces → Bool → Room
with_room free maps rubbish = record { free = free; maps = maps; rubbish = rubbish }

none-some : {A : Type 0} (m : A) → None ≡ Some m → ⊥
none-some m e = cc

-- what is too long with fewer messages is so with more
longer : (a b : Moment) (few : Answer) (more : Answer) → few.messages ≡ [] → IsTooLong a b few → IsTooLong a b more
longer a b few more none long = record {
  lines = long.lines;
  sent = long.sent;
  many = let fewer = long.many in let was = length-append a.state.course.world.sent few.messages in let is = length-append a.state.course.world.sent more.messages in
      let no = ap (λ (sent : List Sent). length sent) none in omega (arith, fewer, was, is, no);
}

module _ (x : Setup) (a b : Moment) (d : DoesStep x a b) (k : ℕ) where
  abbrev w : World
  w = a.state.course.world

  -- ---- at a client

  module _ (c : ClientNo) (message : Message) (hands : HandsOver x a b d k (Client c) message) where
    abbrev row : ClientTable × Taken
    row = take_row (a.state.clients c) message

    at-client : DoesOne x d.chance d.task a.state (Client c) Nothing (Deliver k no_room)
    at-client = does-one x d.chance a.state k (Client c) message hands.is Nothing (Deliver k no_room) (λ f. at_client f c row.0) (Some (texts_taken k row.1)) refl d.task hands.number

    client-after : after (Deliver k no_room) w ≡ took c k row.0 row.1 w
    client-after = ap (λ (o : Option Sent). handed k no_room None o w) hands.is ∙ ap (λ (f : ClientNo → ClientTable). taken_by c k (take_row (f c) message) w) (sym hands.tables)

    took-lines : (t : ClientTable) (what : Taken) → (took c k t what w).lines ≡ w.lines ++ (of_taken k what).texts
    took-lines t taken.Ignored = refl
    took-lines t (taken.Send to answer) = sym (append-nil w.lines)
    took-lines t (taken.Told line answer) = refl

    took-sent : (t : ClientTable) (what : Taken) → (took c k t what w).sent ≡ w.sent ++ (of_taken k what).messages
    took-sent t taken.Ignored = sym (append-nil w.sent)
    took-sent t (taken.Send to answer) = refl
    took-sent t (taken.Told line answer) = refl

    took-table : (t : ClientTable) (what : Taken) → (took c k t what w).clients c ≡ t
    took-table t taken.Ignored = ap (λ (same : Bool). if same then t else w.clients c) (same-client c)
    took-table t (taken.Send to answer) = ap (λ (same : Bool). if same then t else w.clients c) (same-client c)
    took-table t (taken.Told line answer) = ap (λ (same : Bool). if same then t else w.clients c) (same-client c)

    client-lines : (after (Deliver k no_room) w).lines ≡ w.lines ++ (of_taken k row.1).texts
    client-lines = ap (λ (v : World). v.lines) client-after ∙ took-lines row.0 row.1

    client-sent : (after (Deliver k no_room) w).sent ≡ w.sent ++ (of_taken k row.1).messages
    client-sent = ap (λ (v : World). v.sent) client-after ∙ took-sent row.0 row.1

    client-gives : b.state.stage ≢ CutShort → IsGiven x a b d (Client c) (of_taken k row.1) × IsTaken a b (Client c) message
    client-gives goes = (
      gives x a b d (Client c) Nothing (Deliver k no_room) at-client hands.tables (of_taken k row.1) client-lines client-sent goes,
      ap (λ (f : ClientNo → ClientTable). f c) (does-tables x a b d hands.tables) ∙ ap (λ (v : World). v.clients c) (world-after x a b d (Client c) Nothing (Deliver k no_room) at-client goes ∙ client-after) ∙ took-table row.0 row.1,
    )

    client-long : b.state.stage ≡ CutShort → IsTooLong a b (of_taken k row.1)
    client-long = is-long x a b d (Client c) Nothing (Deliver k no_room) at-client hands.tables (of_taken k row.1) client-lines client-sent

  -- ---- at a server

  module _ (q : ServerNo) (message : Message) (hands : HandsOver x a b d k (Server q) message) where
    -- it is down
    module _ (down : w.memory q ≡ None) where
      at-down : DoesOne x d.chance d.task a.state (Server q) Nothing (Deliver k (room d.chance q))
      at-down = does-one x d.chance a.state k (Server q) message hands.is Nothing (Deliver k (room d.chance q)) (λ f. f) None (ap (λ (o : Option Memory). delivered_at d.chance k q o) down) d.task hands.number

      down-after : after (Deliver k (room d.chance q)) w ≡ record w { lines = w.lines ++ says.Lost k ∷ [] }
      down-after = ap (λ (o : Option Sent). handed k (room d.chance q) None o w) hands.is ∙ ap (λ (o : Option Memory). at_memory q k (room d.chance q) None message o w) down

      down-gives : b.state.stage ≢ CutShort → IsGiven x a b d (Server q) (tells_alone (says.Lost k))
      down-gives = gives x a b d (Server q) Nothing (Deliver k (room d.chance q)) at-down hands.tables (tells_alone (says.Lost k)) (ap (λ (v : World). v.lines) down-after) (ap (λ (v : World). v.sent) down-after ∙ sym (append-nil w.sent))

      down-long : b.state.stage ≡ CutShort → IsTooLong a b (tells_alone (says.Lost k))
      down-long = is-long x a b d (Server q) Nothing (Deliver k (room d.chance q)) at-down hands.tables (tells_alone (says.Lost k)) (ap (λ (v : World). v.lines) down-after) (ap (λ (v : World). v.sent) down-after ∙ sym (append-nil w.sent))

    -- it is up
    module _ (m : Memory) (up : w.memory q ≡ Some m) where
      abbrev device : Use
      device = Calls q row_calls

      at-up : DoesOne x d.chance d.task a.state (Server q) device (handing k (room d.chance q) d.chance.stop)
      at-up = does-one x d.chance a.state k (Server q) message hands.is device (handing k (room d.chance q) d.chance.stop) (λ f. f) None (ap (λ (o : Option Memory). delivered_at d.chance k q o) up) d.task hands.number

      used : IsUsed x d.chance device w (run (handing k (room d.chance q) d.chance.stop ∷ []) w) a.devices b.devices
      used = subst (λ (y : Deed). IsUsed x d.chance y.device w (run y.steps w) a.devices b.devices) at-up.deed d.befalls.used

      room-is : room d.chance q ≡ room_on x a q m
      room-is = by used
        where
          one : (n : Memory) → Some n ≡ Some m → n ≡ m
          one n e = cc

          by : IsUsed x d.chance device w (run (handing k (room d.chance q) d.chance.stop ∷ []) w) a.devices b.devices → room d.chance q ≡ room_on x a q m
          by u = ap (λ (left : Bool). with_room (free_found d.chance.found) (maps_found d.chance.found) left) (d.befalls.rubbish q)
              ∙ ap (λ (free : Need). with_room free (maps_found d.chance.found) (rubbish_on x a.devices q)) u.its.free
              ∙ ap (λ (maps : MapPlaces). with_room (free_on (x.counts q) (pages_of (a.devices q)) (stable (w.found q)) u.its.memory) maps (rubbish_on x a.devices q)) u.its.maps
              ∙ ap (λ (n : Memory). room_on x a q n) (one u.its.memory (sym u.its.up ∙ up))

      abbrev its-row : RowOutcome Memory
      its-row = row_on x a q m message

      handing-is : (stop : Option (Pick → Left)) → after (handing k (room d.chance q) stop) w ≡ ends q (Some k) stop its-row w
      handing-is stop = same stop ∙ ap (λ (o : Option Sent). handed k (room d.chance q) stop o w) hands.is ∙ ap (λ (o : Option Memory). at_memory q k (room d.chance q) stop message o w) up
          ∙ ap (λ (r : Room). ends q (Some k) stop (server_row m (stable (w.found q)) r message) w) room-is
        where
          same : (stop : Option (Pick → Left)) → after (handing k (room d.chance q) stop) w ≡ handed k (room d.chance q) stop (slice_get w.sent k) w
          same None = refl
          same (Some made) = refl

      up-after : (stop : Option (Pick → Left)) → d.chance.stop ≡ stop → after (handing k (room d.chance q) d.chance.stop) w ≡ ends q (Some k) stop its-row w
      up-after stop e = ap (λ (o : Option (Pick → Left)). after (handing k (room d.chance q) o) w) e ∙ handing-is stop

      -- it isn't stopped
      module _ (whole : d.chance.stop ≡ None) where
        up-gives : b.state.stage ≢ CutShort → IsGiven x a b d (Server q) (of_row q k its-row)
        up-gives = gives x a b d (Server q) device (handing k (room d.chance q) d.chance.stop) at-up hands.tables (of_row q k its-row) (ap (λ (v : World). v.lines) (up-after None whole)) (ap (λ (v : World). v.sent) (up-after None whole))

        up-long : b.state.stage ≡ CutShort → IsTooLong a b (of_row q k its-row)
        up-long = is-long x a b d (Server q) device (handing k (room d.chance q) d.chance.stop) at-up hands.tables (of_row q k its-row) (ap (λ (v : World). v.lines) (up-after None whole)) (ap (λ (v : World). v.sent) (up-after None whole))

        up-world : b.state.stage ≢ CutShort → b.state.course.world ≡ ends q (Some k) None its-row w
        up-world goes = world-after x a b d (Server q) device (handing k (room d.chance q) d.chance.stop) at-up goes ∙ up-after None whole

        up-done : b.state.stage ≢ CutShort → IsDone a b q its-row
        up-done goes = record {
          table = ap (λ (v : World). v.memory q) (up-world goes) ∙ ap (λ (same : Bool). if same then Some its-row.table else w.memory q) (same-server q);
          changes = λ c. ap (λ (v : World). v.found q c) (up-world goes) ∙ ap (λ (same : Bool). if same then made_all its-row.changes (w.found q c) else w.found q c) (same-server q);
        }

      -- it is
      module _ (made : Pick → Left) (stop : d.chance.stop ≡ Some made) where
        halt-gives : b.state.stage ≢ CutShort → IsGiven x a b d (Server q) (tells_alone (says.Stopped q))
        halt-gives = gives x a b d (Server q) device (handing k (room d.chance q) d.chance.stop) at-up hands.tables (tells_alone (says.Stopped q)) (ap (λ (v : World). v.lines) (up-after (Some made) stop)) (ap (λ (v : World). v.sent) (up-after (Some made) stop) ∙ sym (append-nil w.sent))

        halt-long : b.state.stage ≡ CutShort → IsTooLong a b (tells_alone (says.Stopped q))
        halt-long = is-long x a b d (Server q) device (handing k (room d.chance q) d.chance.stop) at-up hands.tables (tells_alone (says.Stopped q)) (ap (λ (v : World). v.lines) (up-after (Some made) stop)) (ap (λ (v : World). v.sent) (up-after (Some made) stop) ∙ sym (append-nil w.sent))

        is-down : b.state.stage ≢ CutShort → b.state.course.world.memory q ≡ None
        is-down goes = ap (λ (v : World). v.memory q) (world-after x a b d (Server q) device (handing k (room d.chance q) d.chance.stop) at-up goes ∙ up-after (Some made) stop)
            ∙ ap (λ (same : Bool). if same then None else w.memory q) (same-server q)

    -- ---- and so in each case

    server-answers : b.state.stage ≢ CutShort → (IsStopped a b (Server q) → ⊥) → IsGiven x a b d (Server q) (its_answer x a k (Server q) message)
    server-answers goes whole = by (w.memory q) refl d.chance.stop refl
      where
        at : (o : Option Memory) → w.memory q ≡ o → IsGiven x a b d (Server q) (of_server x a k q message o) → IsGiven x a b d (Server q) (its_answer x a k (Server q) message)
        at o e g = subst (λ (o : Option Memory). IsGiven x a b d (Server q) (of_server x a k q message o)) (sym e) g

        by : (o : Option Memory) → w.memory q ≡ o → (stop : Option (Pick → Left)) → d.chance.stop ≡ stop → IsGiven x a b d (Server q) (its_answer x a k (Server q) message)
        by None e stop f = at None e (down-gives e goes)
        by (Some m) e None f = at (Some m) e (up-gives m e f goes)
        by (Some m) e (Some made) f = absurd (whole (ap is_some e, is-down m e made f goes))

    server-done : b.state.stage ≢ CutShort → (IsStopped a b (Server q) → ⊥) → (m : Memory) → w.memory q ≡ Some m → IsDone a b q (row_on x a q m message)
    server-done goes whole m e = by d.chance.stop refl
      where
        by : (stop : Option (Pick → Left)) → d.chance.stop ≡ stop → IsDone a b q (row_on x a q m message)
        by None f = up-done m e f goes
        by (Some made) f = absurd (whole (ap is_some e, is-down m e made f goes))

    server-stops : b.state.stage ≢ CutShort → IsStopped a b (Server q) → IsGiven x a b d (Server q) (tells_alone (says.Stopped q))
    server-stops goes stops = by (w.memory q) refl d.chance.stop refl
      where
        off : false ≡ true → ⊥
        off e = cc

        by : (o : Option Memory) → w.memory q ≡ o → (stop : Option (Pick → Left)) → d.chance.stop ≡ stop → IsGiven x a b d (Server q) (tells_alone (says.Stopped q))
        by None e stop f = absurd (off (sym (ap is_some e) ∙ stops.0))
        by (Some m) e None f = absurd (none-some (row_on x a q m message).table (sym stops.1 ∙ (up-done m e f goes).table))
        by (Some m) e (Some made) f = halt-gives m e made f goes

    server-long : b.state.stage ≡ CutShort → IsTooLong a b (its_answer x a k (Server q) message)
    server-long cut = by (w.memory q) refl d.chance.stop refl
      where
        at : (o : Option Memory) → w.memory q ≡ o → IsTooLong a b (of_server x a k q message o) → IsTooLong a b (its_answer x a k (Server q) message)
        at o e g = subst (λ (o : Option Memory). IsTooLong a b (of_server x a k q message o)) (sym e) g

        by : (o : Option Memory) → w.memory q ≡ o → (stop : Option (Pick → Left)) → d.chance.stop ≡ stop → IsTooLong a b (its_answer x a k (Server q) message)
        by None e stop f = at None e (down-long e cut)
        by (Some m) e None f = at (Some m) e (up-long m e f cut)
        by (Some m) e (Some made) f = longer a b (tells_alone (says.Stopped q)) (its_answer x a k (Server q) message) refl (halt-long m e made f cut)

  -- ---- the laws

  pub answered : (to : Party) (message : Message) → HandsOver x a b d k to message → b.state.stage ≢ CutShort → (IsStopped a b to → ⊥) → IsGiven x a b d to (its_answer x a k to message) × IsTaken a b to message
  answered (Client c) message hands goes whole = client-gives c message hands goes
  answered (Server q) message hands goes whole = (server-answers q message hands goes whole, tt)

  pub row-done : (q : ServerNo) (message : Message) → HandsOver x a b d k (Server q) message → b.state.stage ≢ CutShort → (IsStopped a b (Server q) → ⊥) → (m : Memory) → w.memory q ≡ Some m → IsDone a b q (row_on x a q m message)
  row-done q message hands goes whole m e = server-done q message hands goes whole m e

  stale-answer : (to : Party) (message : Message) → IsStale x a to message → its_answer x a k to message ≡ tells_alone (says.Ignored k)
  stale-answer (Client c) message e = ap (λ (row : ClientTable × Taken). of_taken k row.1) e
  stale-answer (Server q) message (m, up, e) = ap (λ (o : Option Memory). of_server x a k q message o) up ∙ ap (λ (row : RowOutcome Memory). of_row q k row) e

  pub told-stale : (to : Party) (message : Message) → HandsOver x a b d k to message → b.state.stage ≢ CutShort → (IsStopped a b to → ⊥) → IsStale x a to message → IsGiven x a b d to (tells_alone (says.Ignored k))
  told-stale to message hands goes whole stale = subst (λ (answer : Answer). IsGiven x a b d to answer) (stale-answer to message stale) (answered to message hands goes whole).0

  pub told-stopped : (to : Party) (message : Message) → HandsOver x a b d k to message → b.state.stage ≢ CutShort → IsStopped a b to → IsGiven x a b d to (stopped_at to)
  told-stopped (Client c) message hands goes stops = absurd stops
  told-stopped (Server q) message hands goes stops = server-stops q message hands goes stops

  pub too-long : (to : Party) (message : Message) → HandsOver x a b d k to message → b.state.stage ≡ CutShort → IsTooLong a b (its_answer x a k to message)
  too-long (Client c) message hands cut = client-long c message hands cut
  too-long (Server q) message hands cut = server-long q message hands cut
