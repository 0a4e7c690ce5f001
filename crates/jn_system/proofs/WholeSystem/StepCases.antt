-- What each step of the whole system changes, in nine cases: a client's row, a server's row that is done or stopped, a late
-- transaction, a server that goes down or comes up, what is found of a server that is down, the clients dismissed, and steps that
-- leave every table and state.
use Rattle.jn_system.proofs.Common.{Bool, ◌≡◌, ℕ, ◌+◌, List, [], ◌∷◌, ◌++◌, Option, Some, None, refl, if◌then◌else◌, slice_get, ServerNo, ClientNo, Tid, WorkId, server_eq, Message, StableState, Pick, stable, RowOutcome, Sent, close_clients_row, with_epoch, Step, NextEvent, Tell, Again, Deliver, Nudge, Timeout, StopDelivery, StopWork, StopRestart, Dismiss, CloseClients, at_memory, handed, work, works, nudge, timeout, stop_restart, close_clients, commanded, took, Text, Memory, at_server, at_client, Room, server_row, server_step, server_again, server_timeout, of_coordinator, sent_now, stopped, restart_with, true, false, Client, Server, Commanded, Refuses, Sends, ClientTable, command_row, take_row, again_row, over, done, Left, Command, Taken, crash, narrow}
use Rattle.jn_base.specs.declared.names.Party.{Party}
use Rattle.jn_report.specs.declared.line.Refusal.{Refusal}
use Rattle.jn_report.specs.declared.line.Text.TheVariants as says
use Rattle.jn_rows.specs.declared.client.Taken.TheVariants as taken
use Rattle.jn_system.specs.WholeSystem.World.{World}
pub use Rattle.jn_system.specs.WholeSystem.Steps.{handing, working}
use Rattle.jn_system.specs.WholeSystem.Steps.{Work, Crash, Narrow, Restart, after, restart}
use Rattle.jn_system.proofs.WholeSystem.OneChange.{one-found}

-- a client's row: its table then, and all that was sent and reported then
pub data ClientRow (w : World) (c : ClientNo) : Step → ClientTable → List Sent → List Text → Type 0 where
  by_command : (command : Command) (t : ClientTable) (to : Party) (message : Message) → command_row (w.clients c) w.event command ≡ Sends t to message
      → ClientRow w c (Tell c command) t (w.sent ++ (to, message) ∷ []) w.lines
  by_ignoring : (k : ℕ) (room : Room) (stop : Option (Pick → Left)) (message : Message) (t : ClientTable) → slice_get w.sent k ≡ Some (Client c, message) → take_row (w.clients c) message ≡ (t, taken.Ignored)
      → ClientRow w c (handing k room stop) t w.sent (w.lines ++ says.Ignored k ∷ [])
  by_answering : (k : ℕ) (room : Room) (stop : Option (Pick → Left)) (message : Message) (t : ClientTable) (to : Party) (answer : Message) → slice_get w.sent k ≡ Some (Client c, message)
      → take_row (w.clients c) message ≡ (t, taken.Send to answer) → ClientRow w c (handing k room stop) t (w.sent ++ (to, answer) ∷ []) w.lines
  by_telling : (k : ℕ) (room : Room) (stop : Option (Pick → Left)) (message : Message) (t : ClientTable) (line : Text) (answer : Option Sent) → slice_get w.sent k ≡ Some (Client c, message)
      → take_row (w.clients c) message ≡ (t, taken.Told line answer) → ClientRow w c (handing k room stop) t (w.sent ++ sent_now answer) (w.lines ++ line ∷ [])

-- a server's row, and the number of the message that it is of
pub data ServerRow (w : World) (s : ServerNo) (m : Memory) : Option (Pick → Left) → Step → Option ℕ → RowOutcome Memory → Type 0 where
  of_message : (stop : Option (Pick → Left)) (k : ℕ) (room : Room) (message : Message) → slice_get w.sent k ≡ Some (Server s, message)
      → ServerRow w s m stop (handing k room stop) (Some k) (server_row m (stable (w.found s)) room message)
  of_work : (stop : Option (Pick → Left)) (room : Room) (row : RowOutcome Memory) → server_step m (stable (w.found s)) room ≡ Some row → ServerRow w s m stop (working s room stop) None row
  of_closing : ServerRow w s m None (CloseClients s) None (of_coordinator m (close_clients_row m.coordinator m.tickets))

-- what may be found of a server that is down, and all lines then
pub data FoundThen (w : World) (s : ServerNo) : Step → (Pick → StableState) → List Text → Type 0 where
  by_narrowing : (g : Pick → Pick) → FoundThen w s (Narrow s g) (λ c. w.found s (g c)) w.lines
  by_raising : (raise : Pick → Bool) → FoundThen w s (StopRestart s raise) (λ c. if raise c then with_epoch (w.found s c) else w.found s c) (w.lines ++ says.Stopped s ∷ [])

-- a step that leaves every table and state: the event's number, and all that was sent and reported then
pub data Quiet (w : World) : Step → ℕ → List Sent → List Text → Type 0 where
  event_begins : Quiet w NextEvent (w.event + 1) w.sent w.lines
  none_changes : (step : Step) → Quiet w step w.event w.sent w.lines
  is_refused : (c : ClientNo) (command : Command) (refusal : Refusal) → command_row (w.clients c) w.event command ≡ Refuses refusal → Quiet w (Tell c command) w.event w.sent (w.lines ++ says.Refused c w.event refusal ∷ [])
  client_repeats : (c : ClientNo) → Quiet w (Again c) w.event (w.sent ++ sent_now (again_row (w.clients c))) w.lines
  server_repeats : (s : ServerNo) (m : Memory) → w.memory s ≡ Some m → Quiet w (Nudge s) w.event (w.sent ++ server_again m (stable (w.found s))) w.lines
  is_lost : (k : ℕ) (room : Room) (stop : Option (Pick → Left)) (s : ServerNo) (message : Message) → slice_get w.sent k ≡ Some (Server s, message) → w.memory s ≡ None
      → Quiet w (handing k room stop) w.event w.sent (w.lines ++ says.Lost k ∷ [])

pub data StepCase (w : World) : Step → World → Type 0 where
  client_row : (step : Step) (c : ClientNo) (t : ClientTable) (sent : List Sent) (lines : List Text) → ClientRow w c step t sent lines
      → StepCase w step (record w { clients = at_client w.clients c t; sent = sent; lines = lines })
  row_done : (step : Step) (s : ServerNo) (m : Memory) (k : Option ℕ) (row : RowOutcome Memory) → w.memory s ≡ Some m → ServerRow w s m None step k row → StepCase w step (done s k row w)
  row_stopped : (step : Step) (s : ServerNo) (m : Memory) (k : Option ℕ) (row : RowOutcome Memory) (made : Pick → Left) → w.memory s ≡ Some m → ServerRow w s m (Some made) step k row → StepCase w step (stopped s made row w)
  gone_late : (s : ServerNo) (m : Memory) (T : Tid) → w.memory s ≡ Some m → StepCase w (Timeout s T) (record w { memory = at_server w.memory s (Some (server_timeout m T)) })
  gone_down : (s : ServerNo) (m : Memory) → w.memory s ≡ Some m → StepCase w (Crash s) (record w { memory = at_server w.memory s None; lines = w.lines ++ says.Down s ∷ [] })
  come_up : (s : ServerNo) (pick : Pick) (Ws : List WorkId) (Ts : List Tid) → w.memory s ≡ None → StepCase w (Restart s pick Ws Ts) (restart_with s (w.found s pick) Ws Ts w)
  found_anew : (step : Step) (s : ServerNo) (found : Pick → StableState) (lines : List Text) → w.memory s ≡ None → FoundThen w s step found lines
      → StepCase w step (record w { found = λ q c. if server_eq s q then found c else w.found q c; lines = lines })
  dismissed : StepCase w Dismiss (record w { clients = λ c. over (w.clients c) })
  quietly : (step : Step) (event : ℕ) (sent : List Sent) (lines : List Text) → Quiet w step event sent lines → StepCase w step (record w { event = event; sent = sent; lines = lines })

module _ (w : World) where
  nothing : (step : Step) → StepCase w step w
  nothing step = quietly step w.event w.sent w.lines (none_changes step)

  tell-case : (c : ClientNo) (command : Command) (row : Commanded) → command_row (w.clients c) w.event command ≡ row → StepCase w (Tell c command) (commanded c row w)
  tell-case c command (Refuses refusal) e = quietly _ _ _ _ (is_refused c command refusal e)
  tell-case c command (Sends t to message) e = client_row _ c t _ _ (by_command command t to message e)

  took-case : (k : ℕ) (room : Room) (stop : Option (Pick → Left)) (c : ClientNo) (message : Message) → slice_get w.sent k ≡ Some (Client c, message) → (t : ClientTable) (what : Taken)
      → take_row (w.clients c) message ≡ (t, what) → StepCase w (handing k room stop) (took c k t what w)
  took-case k room stop c message is t taken.Ignored e = client_row _ c t _ _ (by_ignoring k room stop message t is e)
  took-case k room stop c message is t (taken.Send to answer) e = client_row _ c t _ _ (by_answering k room stop message t to answer is e)
  took-case k room stop c message is t (taken.Told line answer) e = client_row _ c t _ _ (by_telling k room stop message t line answer is e)

  memory-case : (k : ℕ) (room : Room) (stop : Option (Pick → Left)) (s : ServerNo) (message : Message) → slice_get w.sent k ≡ Some (Server s, message) → (o : Option Memory) → w.memory s ≡ o
      → StepCase w (handing k room stop) (at_memory s k room stop message o w)
  memory-case k room stop s message is None e = quietly _ _ _ _ (is_lost k room stop s message is e)
  memory-case k room None s message is (Some m) e = row_done _ s m (Some k) _ e (of_message None k room message is)
  memory-case k room (Some made) s message is (Some m) e = row_stopped _ s m (Some k) _ made e (of_message (Some made) k room message is)

  handed-case : (k : ℕ) (room : Room) (stop : Option (Pick → Left)) (o : Option Sent) → slice_get w.sent k ≡ o → StepCase w (handing k room stop) (handed k room stop o w)
  handed-case k room stop None is = nothing (handing k room stop)
  handed-case k room stop (Some (Client c, message)) is = took-case k room stop c message is _ _ refl
  handed-case k room stop (Some (Server s, message)) is = memory-case k room stop s message is (w.memory s) refl

  works-case : (s : ServerNo) (room : Room) (stop : Option (Pick → Left)) (m : Memory) → w.memory s ≡ Some m → (o : Option (RowOutcome Memory)) → server_step m (stable (w.found s)) room ≡ o
      → StepCase w (working s room stop) (works s stop o w)
  works-case s room stop m e None f = nothing (working s room stop)
  works-case s room None m e (Some x) f = row_done _ s m None x e (of_work None room x f)
  works-case s room (Some made) m e (Some x) f = row_stopped _ s m None x made e (of_work (Some made) room x f)

  work-case : (s : ServerNo) (room : Room) (stop : Option (Pick → Left)) (o : Option Memory) → w.memory s ≡ o → StepCase w (working s room stop) (work s room stop o w)
  work-case s room stop None e = nothing (working s room stop)
  work-case s room stop (Some m) e = works-case s room stop m e (server_step m (stable (w.found s)) room) refl

  nudge-case : (s : ServerNo) (o : Option Memory) → w.memory s ≡ o → StepCase w (Nudge s) (nudge s o w)
  nudge-case s None e = nothing (Nudge s)
  nudge-case s (Some m) e = quietly _ _ _ _ (server_repeats s m e)

  timeout-case : (s : ServerNo) (T : Tid) (o : Option Memory) → w.memory s ≡ o → StepCase w (Timeout s T) (timeout s T o w)
  timeout-case s T None e = nothing (Timeout s T)
  timeout-case s T (Some m) e = gone_late s m T e

  crash-case : (s : ServerNo) (o : Option Memory) → w.memory s ≡ o → StepCase w (Crash s) (crash s o w)
  crash-case s None e = nothing (Crash s)
  crash-case s (Some m) e = gone_down s m e

  narrow-case : (s : ServerNo) (g : Pick → Pick) (o : Option Memory) → w.memory s ≡ o → StepCase w (Narrow s g) (narrow s g o w)
  narrow-case s g None e = found_anew _ s _ _ e (by_narrowing g)
  narrow-case s g (Some m) e = nothing (Narrow s g)

  raise-case : (s : ServerNo) (raise : Pick → Bool) (o : Option Memory) → w.memory s ≡ o → StepCase w (StopRestart s raise) (stop_restart s raise o w)
  raise-case s raise None e = found_anew _ s _ _ e (by_raising raise)
  raise-case s raise (Some m) e = nothing (StopRestart s raise)

  restart-case : (s : ServerNo) (pick : Pick) (Ws : List WorkId) (Ts : List Tid) (o : Option Memory) → w.memory s ≡ o → StepCase w (Restart s pick Ws Ts) (restart s pick Ws Ts o w)
  restart-case s pick Ws Ts None e = come_up s pick Ws Ts e
  restart-case s pick Ws Ts (Some m) e = nothing (Restart s pick Ws Ts)

  close-case : (s : ServerNo) (o : Option Memory) → w.memory s ≡ o → StepCase w (CloseClients s) (close_clients s o w)
  close-case s None e = nothing (CloseClients s)
  close-case s (Some m) e = row_done _ s m None _ e of_closing

  pub step-case : (step : Step) → StepCase w step (after step w)
  step-case NextEvent = quietly _ _ _ _ event_begins
  step-case (Tell c command) = tell-case c command (command_row (w.clients c) w.event command) refl
  step-case (Again c) = quietly _ _ _ _ (client_repeats c)
  step-case (Deliver k room) = handed-case k room None (slice_get w.sent k) refl
  step-case (Work s room) = work-case s room None (w.memory s) refl
  step-case (Nudge s) = nudge-case s (w.memory s) refl
  step-case (Timeout s T) = timeout-case s T (w.memory s) refl
  step-case (StopDelivery k room made) = handed-case k room (Some made) (slice_get w.sent k) refl
  step-case (StopWork s room made) = work-case s room (Some made) (w.memory s) refl
  step-case (Crash s) = crash-case s (w.memory s) refl
  step-case (Narrow s g) = narrow-case s g (w.memory s) refl
  step-case (StopRestart s raise) = raise-case s raise (w.memory s) refl
  step-case (Restart s pick Ws Ts) = restart-case s pick Ws Ts (w.memory s) refl
  step-case Dismiss = dismissed
  step-case (CloseClients s) = close-case s (w.memory s) refl

-- ---- what holds of each state that may be found

module _ (P : StableState → Type 0) (w : World) (old : (q : ServerNo) (c : Pick) → P (w.found q c)) (s : ServerNo) where
  pub found-now : (found : Pick → StableState) → ((c : Pick) → P (found c)) → (q : ServerNo) (c : Pick) → P (if server_eq s q then found c else w.found q c)
  found-now found now = one-found (λ q c x. P x) w.found s found now (λ q other. old q)

  -- where its server is down, whatever the epoch
  pub found-then : ((x : StableState) → P x → P (with_epoch x)) → (step : Step) (found : Pick → StableState) (lines : List Text) → FoundThen w s step found lines → (q : ServerNo) (c : Pick) → P (if server_eq s q then found c else w.found q c)
  found-then up _ _ _ (by_narrowing g) = found-now (λ c. w.found s (g c)) (λ c. old s (g c))
  found-then up _ _ _ (by_raising raise) = found-now (λ c. if raise c then with_epoch (w.found s c) else w.found s c) (λ c. by c (raise c))
    where
      by : (c : Pick) (b : Bool) → P (if b then with_epoch (w.found s c) else w.found s c)
      by c true = up (w.found s c) (old s c)
      by c false = old s c
