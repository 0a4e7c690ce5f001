-- What a step does, and whether it may come, doesn't depend on the numbers of events and on the lines so far.
use Rattle.jn_system.proofs.Common.{◌≡◌, ℕ, Bool, true, false, List, [], ◌∷◌, ◌++◌, Option, Some, None, refl, sym, ◌∙◌, ap, subst, if◌then◌else◌, nat_lt, slice_get, ClientNo, ServerNo, Tid, WorkId, Client, Server, Command, client_eq, tid_eq, work_eq, work_before, Message, Outcome, Taken, StableState, Pick, stable, Left, RowOutcome, Sent, close_clients_row, ClientTable, Commanded, Refuses, Sends, command_row, take_row, sent_again, if_waits, if_idle, if_transaction, if_no_transaction, if_open, if_not_open, is_current, begun_row, opened_row, outcome_row, Memory, at_client, Room, of_coordinator, server_row, server_step, Step, NextEvent, Tell, Again, Deliver, Nudge, Timeout, StopDelivery, StopWork, StopRestart, Dismiss, CloseClients, AreNames, tid_before, IsStep, commanded, sent_now, took, ends, at_memory, handed, work, works, nudge, timeout, crash, narrow, stop_restart, close_clients, fun_ext}
use Rattle.jn_rows.specs.declared.client.OpenWork.{OpenWork}
use Rattle.jn_rows.specs.declared.client.Outstanding.{Outstanding}
use Rattle.jn_system.specs.WholeSystem.World.{World}
use Rattle.jn_system.specs.WholeSystem.Steps.{Crash, Narrow, Restart, after, restart}
use Rattle.jn_base.specs.declared.op.Command.TheVariants as commands
use Rattle.jn_msgs.specs.declared.message.Message.TheVariants as messages
use Rattle.jn_msgs.specs.declared.message.Outcome.TheVariants as outcomes
use Rattle.jn_report.specs.declared.line.Refusal.TheVariants as refusals
use Rattle.jn_rows.specs.declared.client.Taken.TheVariants as taken
use Rattle.jn_rows.specs.Client.{work_at}
use Rattle.jn_system.specs.WholeSystem.Steps.{Work}
use Rattle.jn_system.specs.WholeSystem.Numbers.{numberless, plain_client, plain_world}

twice : (t : ClientTable) → plain_client (plain_client t) ≡ plain_client t
twice t = ap (λ o. record t { outstanding = o }) (by t.outstanding)
  where
    by : (o : Option Outstanding) → numberless (numberless o) ≡ numberless o
    by None = refl
    by (Some o) = refl

-- they differ in the numbers of events alone
record Alike (x y : World) : Type 0 where
  memory : y.memory ≡ x.memory
  found : y.found ≡ x.found
  sent : y.sent ≡ x.sent
  clients : (c : ClientNo) → plain_client (y.clients c) ≡ plain_client (x.clients c)

alike-plain : (x y : World) → Alike x y → plain_world x ≡ plain_world y
alike-plain x y h =
    ap (λ (f : ClientNo → ClientTable). record { memory = x.memory; found = x.found; clients = f; sent = x.sent; lines = []; event = 0 }) (fun_ext (λ c. sym (h.clients c)))
    ∙ ap (λ (f : ServerNo → Option Memory). record { memory = f; found = x.found; clients = λ c. plain_client (y.clients c); sent = x.sent; lines = []; event = 0 }) (sym h.memory)
    ∙ ap (λ (f : ServerNo → Pick → StableState). record { memory = y.memory; found = f; clients = λ c. plain_client (y.clients c); sent = x.sent; lines = []; event = 0 }) (sym h.found)
    ∙ ap (λ (l : List Sent). record { memory = y.memory; found = y.found; clients = λ c. plain_client (y.clients c); sent = l; lines = []; event = 0 }) (sym h.sent)

-- ---- clients

abbrev SameRows : Commanded → Commanded → Type 0
SameRows (Refuses a) (Refuses b) = Unit {0}
SameRows (Sends t to m) (Sends u to' m') = (plain_client u ≡ plain_client t) × (to' ≡ to) × (m' ≡ m)
SameRows a b = ⊥

-- the row over a table without numbers
module _ (t : ClientTable) (j k : ℕ) where
  idle-same : (o : Option Outstanding) (row row' : Commanded) → SameRows row row' → SameRows (if_idle o row) (if_idle (numberless o) row')
  idle-same None row row' h = h
  idle-same (Some o) row row' h = tt

  server-same : (b : Bool) (row row' : Commanded) → SameRows row row' → SameRows (if b then row else Refuses refusals.NoSuchServer) (if b then row' else Refuses refusals.NoSuchServer)
  server-same true row row' h = h
  server-same false row row' h = tt

  with-same : (o : Option Tid) (row row' : Tid → Commanded) → ((T : Tid) → SameRows (row T) (row' T)) → SameRows (if_transaction o row) (if_transaction o row')
  with-same None row row' h = tt
  with-same (Some T) row row' h = h T

  without-same : (o : Option Tid) (row row' : Commanded) → SameRows row row' → SameRows (if_no_transaction o row) (if_no_transaction o row')
  without-same None row row' h = h
  without-same (Some T) row row' h = tt

  open-same : (o : Option OpenWork) (row row' : OpenWork → Commanded) → ((v : OpenWork) → SameRows (row v) (row' v)) → SameRows (if_open o row) (if_open o row')
  open-same None row row' h = tt
  open-same (Some v) row row' h = h v

  not-open-same : (o : Option OpenWork) (row row' : Commanded) → SameRows row row' → SameRows (if_not_open o row) (if_not_open o row')
  not-open-same None row row' h = h
  not-open-same (Some v) row row' h = tt

  command-same : (command : Command) → SameRows (command_row t j command) (command_row (plain_client t) k command)
  command-same (commands.Begin s) = server-same (nat_lt s.0 t.servers) _ _ (idle-same t.outstanding _ _ (without-same t.transaction _ _ (refl, refl, refl)))
  command-same (commands.Open s) = server-same (nat_lt s.0 t.servers) _ _ (idle-same t.outstanding _ _ (with-same t.transaction _ _ (λ T. not-open-same (work_at s t.works) _ _ (refl, refl, refl))))
  command-same (commands.Do s op) = server-same (nat_lt s.0 t.servers) _ _ (idle-same t.outstanding _ _ (with-same t.transaction _ _ (λ T. open-same (work_at s t.works) _ _ (λ v. (refl, refl, refl)))))
  command-same commands.End = idle-same t.outstanding _ _ (with-same t.transaction _ _ (λ T. (refl, refl, refl)))
  command-same commands.Abort = with-same t.transaction _ _ (λ T. (refl, refl, refl))

abbrev SameTaken : ClientTable × Taken → ClientTable × Taken → Type 0
SameTaken (t, taken.Ignored) (u, taken.Ignored) = plain_client u ≡ plain_client t
SameTaken (t, taken.Send to m) (u, taken.Send to' m') = (plain_client u ≡ plain_client t) × (to' ≡ to) × (m' ≡ m)
SameTaken (t, taken.Told line answer) (u, taken.Told line' answer') = (plain_client u ≡ plain_client t) × (answer' ≡ answer)
SameTaken a b = ⊥

module _ (t : ClientTable) where
  waits-same : (o : Option Outstanding) (test : Outstanding → Bool) (row row' : ℕ → ClientTable × Taken) → ((p : Outstanding) → test (record p { event = 0 }) ≡ test p) → ((j : ℕ) → SameTaken (row j) (row' 0))
      → SameTaken (if_waits t o test row) (if_waits (plain_client t) (numberless o) test row')
  waits-same None test row row' same h = twice t
  waits-same (Some o) test row row' same h = subst (λ (b : Bool). SameTaken (if test o then row o.event else (t, taken.Ignored)) (if b then row' 0 else (plain_client t, taken.Ignored))) (sym (same o)) (by (test o))
    where
      by : (b : Bool) → SameTaken (if b then row o.event else (t, taken.Ignored)) (if b then row' 0 else (plain_client t, taken.Ignored))
      by true = h o.event
      by false = twice t

  either-same : (b : Bool) (p q p' q' : ClientTable × Taken) → SameTaken p p' → SameTaken q q' → SameTaken (if b then p else q) (if b then p' else q')
  either-same true p q p' q' h k = h
  either-same false p q p' q' h k = k

  outcome-same : (T : Tid) (outcome : Outcome) → SameTaken (outcome_row t T outcome) (outcome_row (plain_client t) T outcome)
  outcome-same T outcomes.Committed = either-same (is_current t T) _ _ _ _ (waits-same t.outstanding _ _ _ (λ p. refl) (λ j. (refl, refl))) (twice t, refl, refl)
  outcome-same T (outcomes.Aborted cause) = either-same (is_current t T) _ _ _ _ (waits-same t.outstanding _ _ _ (λ p. refl) (λ j. (refl, refl))) (twice t, refl, refl)
  outcome-same T (outcomes.Waiting s u by) = either-same (is_current t T) _ _ _ _ (waits-same t.outstanding _ _ _ (λ p. refl) (λ j. (twice t, refl))) (twice t)
  outcome-same T (outcomes.NotKnown s epoch) = either-same (is_current t T) _ _ _ _ (waits-same t.outstanding _ _ _ (λ p. refl) (λ j. (refl, refl))) (twice t)

  take-same : (m : Message) → SameTaken (take_row t m) (take_row (plain_client t) m)
  take-same (messages.Begun c request answer) = waits-same t.outstanding _ _ _ (λ p. refl) (λ j. by j answer)
    where
      by : (j : ℕ) (answer : Option Tid) → SameTaken (begun_row t j answer) (begun_row (plain_client t) 0 answer)
      by j (Some T) = (refl, refl)
      by j None = (refl, refl)
  take-same (messages.Opened c request T answer) = waits-same t.outstanding _ _ _ (λ p. refl) (λ j. by j answer)
    where
      by : (j : ℕ) (answer : Option WorkId) → SameTaken (opened_row t j answer) (opened_row (plain_client t) 0 answer)
      by j (Some W) = (refl, refl)
      by j None = (refl, refl)
  take-same (messages.Answer c request answer) = waits-same t.outstanding _ _ _ (λ p. refl) (λ j. (refl, refl))
  take-same (messages.Outcome c T outcome) = either-same (client_eq c t.client) _ _ _ _ (outcome-same T outcome) (twice t)
  take-same m = twice t

-- ---- every step

module _ (w : World) where
  one-changed : (c : ClientNo) (t u : ClientTable) → plain_client u ≡ plain_client t → (d : ClientNo) → plain_client (at_client (plain_world w).clients c u d) ≡ plain_client (at_client w.clients c t d)
  one-changed c t u e d = by (client_eq c d)
    where
      by : (b : Bool) → plain_client (if b then u else plain_client (w.clients d)) ≡ plain_client (if b then t else w.clients d)
      by true = e
      by false = twice (w.clients d)

  commanded-alike : (c : ClientNo) (a b : Commanded) → SameRows a b → Alike (commanded c a w) (commanded c b (plain_world w))
  commanded-alike c (Refuses x) (Refuses y) h = record { memory = refl; found = refl; sent = refl; clients = λ d. twice (w.clients d) }
  commanded-alike c (Sends t to m) (Sends u to' m') h = record { memory = refl; found = refl; sent = ap (λ z. w.sent ++ (z, m') ∷ []) h.1 ∙ ap (λ z. w.sent ++ (to, z) ∷ []) h.2; clients = one-changed c t u h.0 }
  commanded-alike c a b h = absurd h

  took-alike : (c : ClientNo) (k : ℕ) (a b : ClientTable × Taken) → SameTaken a b → Alike (took c k a.0 a.1 w) (took c k b.0 b.1 (plain_world w))
  took-alike c k (t, taken.Ignored) (u, taken.Ignored) h = record { memory = refl; found = refl; sent = refl; clients = one-changed c t u h }
  took-alike c k (t, taken.Send to m) (u, taken.Send to' m') h = record { memory = refl; found = refl; sent = ap (λ z. w.sent ++ (z, m') ∷ []) h.1 ∙ ap (λ z. w.sent ++ (to, z) ∷ []) h.2; clients = one-changed c t u h.0 }
  took-alike c k (t, taken.Told line answer) (u, taken.Told line' answer') h = record { memory = refl; found = refl; sent = ap (λ z. w.sent ++ sent_now z) h.1; clients = one-changed c t u h.0 }
  took-alike c k (t, r) (u, r') h = absurd h

  again-alike : (c : ClientNo) → Alike (after (Again c) w) (after (Again c) (plain_world w))
  again-alike c = record { memory = refl; found = refl; sent = ap (λ z. w.sent ++ sent_now z) (by (w.clients c).outstanding); clients = λ d. twice (w.clients d) }
    where
      by : (o : Option Outstanding) → sent_again (numberless o) ≡ sent_again o
      by None = refl
      by (Some o) = refl

  ends-alike : (s : ServerNo) (k : Option ℕ) (stop : Option (Pick → Left)) (row : RowOutcome Memory) → Alike (ends s k stop row w) (ends s k stop row (plain_world w))
  ends-alike s k None row = record { memory = refl; found = refl; sent = refl; clients = λ d. twice (w.clients d) }
  ends-alike s k (Some made) row = record { memory = refl; found = refl; sent = refl; clients = λ d. twice (w.clients d) }

  same-alike : Alike w (plain_world w)
  same-alike = record { memory = refl; found = refl; sent = refl; clients = λ d. twice (w.clients d) }

  memory-alike : (s : ServerNo) (k : ℕ) (room : Room) (stop : Option (Pick → Left)) (message : Message) (o : Option Memory) → Alike (at_memory s k room stop message o w) (at_memory s k room stop message o (plain_world w))
  memory-alike s k room stop message None = record { memory = refl; found = refl; sent = refl; clients = λ d. twice (w.clients d) }
  memory-alike s k room stop message (Some m) = ends-alike s (Some k) stop (server_row m (stable (w.found s)) room message)

  handed-alike : (k : ℕ) (room : Room) (stop : Option (Pick → Left)) (o : Option Sent) → Alike (handed k room stop o w) (handed k room stop o (plain_world w))
  handed-alike k room stop None = same-alike
  handed-alike k room stop (Some (Client c, message)) = took-alike c k (take_row (w.clients c) message) (take_row (plain_client (w.clients c)) message) (take-same (w.clients c) message)
  handed-alike k room stop (Some (Server s, message)) = memory-alike s k room stop message (w.memory s)

  work-alike : (s : ServerNo) (room : Room) (stop : Option (Pick → Left)) (o : Option Memory) → Alike (work s room stop o w) (work s room stop o (plain_world w))
  work-alike s room stop None = same-alike
  work-alike s room stop (Some m) = by (server_step m (stable (w.found s)) room)
    where
      by : (o : Option (RowOutcome Memory)) → Alike (works s stop o w) (works s stop o (plain_world w))
      by None = same-alike
      by (Some row) = ends-alike s None stop row

  -- a step of a server that is up, or of one that is down
  up-or-down : (f : Option Memory → World → World) (o : Option Memory) → Alike (f None w) (f None (plain_world w)) → ((m : Memory) → Alike (f (Some m) w) (f (Some m) (plain_world w))) → Alike (f o w) (f o (plain_world w))
  up-or-down f None h k = h
  up-or-down f (Some m) h k = k m

  after-alike : (step : Step) → Alike (after step w) (after step (plain_world w))
  after-alike NextEvent = record { memory = refl; found = refl; sent = refl; clients = λ d. twice (w.clients d) }
  after-alike (Tell c command) = commanded-alike c (command_row (w.clients c) w.event command) (command_row (plain_client (w.clients c)) 0 command) (command-same (w.clients c) w.event 0 command)
  after-alike (Again c) = again-alike c
  after-alike (Deliver k room) = handed-alike k room None (slice_get w.sent k)
  after-alike (Work s room) = work-alike s room None (w.memory s)
  after-alike (Nudge s) = up-or-down (λ o v. nudge s o v) (w.memory s) same-alike (λ m. record { memory = refl; found = refl; sent = refl; clients = λ d. twice (w.clients d) })
  after-alike (Timeout s T) = up-or-down (λ o v. timeout s T o v) (w.memory s) same-alike (λ m. record { memory = refl; found = refl; sent = refl; clients = λ d. twice (w.clients d) })
  after-alike (StopDelivery k room made) = handed-alike k room (Some made) (slice_get w.sent k)
  after-alike (StopWork s room made) = work-alike s room (Some made) (w.memory s)
  after-alike (Crash s) = up-or-down (λ o v. crash s o v) (w.memory s) same-alike (λ m. record { memory = refl; found = refl; sent = refl; clients = λ d. twice (w.clients d) })
  after-alike (Narrow s g) = up-or-down (λ o v. narrow s g o v) (w.memory s) (record { memory = refl; found = refl; sent = refl; clients = λ d. twice (w.clients d) }) (λ m. same-alike)
  after-alike (StopRestart s raised) = up-or-down (λ o v. stop_restart s raised o v) (w.memory s) (record { memory = refl; found = refl; sent = refl; clients = λ d. twice (w.clients d) }) (λ m. same-alike)
  after-alike (Restart s pick Ws Ts) = up-or-down (λ o v. restart s pick Ws Ts o v) (w.memory s) (record { memory = refl; found = refl; sent = refl; clients = λ d. twice (w.clients d) }) (λ m. same-alike)
  after-alike Dismiss = record { memory = refl; found = refl; sent = refl; clients = λ d. refl }
  after-alike (CloseClients s) = up-or-down (λ o v. close_clients s o v) (w.memory s) same-alike (λ m. ends-alike s None None (of_coordinator m (close_clients_row m.coordinator m.tickets)))

  after-plain : (step : Step) → plain_world (after step w) ≡ plain_world (after step (plain_world w))
  after-plain step = alike-plain (after step w) (after step (plain_world w)) (after-alike step)

-- ---- two worlds

pub steps-alike : (step : Step) (v w : World) → plain_world v ≡ plain_world w → plain_world (after step v) ≡ plain_world (after step w)
steps-alike step v w e = after-plain v step ∙ ap (λ (z : World). plain_world (after step z)) e ∙ sym (after-plain w step)

pub may-alike : (step : Step) (v w : World) → plain_world v ≡ plain_world w → IsStep step v → IsStep step w
may-alike (Restart s pick Ws Ts) v w e i = subst (λ (f : ServerNo → Pick → StableState). AreNames work_eq work_before (f s pick).works Ws × AreNames tid_eq tid_before (f s pick).flags Ts) (ap (λ (z : World). z.found) e) i
may-alike (CloseClients s) v w e i = λ c. (ap (λ (z : World). (z.clients c).transaction) (sym e) ∙ (i c).0, idle (w.clients c).outstanding (ap (λ (z : World). (z.clients c).outstanding) (sym e) ∙ ap numberless (i c).1))
  where
    clash : (o : Outstanding) → Some o ≡ None → ⊥
    clash o k = cc

    idle : (o : Option Outstanding) → numberless o ≡ None → o ≡ None
    idle None k = refl
    idle (Some o) k = absurd (clash (record o { event = 0 }) k)
may-alike step v w e i = tt
