-- What a deed makes of the clients' tables and reports of them, and that this is what its steps make of the system's and report.
use Rattle.jn_machine.proofs.Common.{◌≡◌, ℕ, Bool, true, false, List, [], ◌∷◌, ◌++◌, append-nil, length, drop, Option, Some, None, refl, sym, ◌∙◌, ap, subst, arith, whole_only, if◌then◌else◌, slice_get, list_all, drop-append_seam, AllFiles, ServerNo, ClientNo, Client, Server, Event, EventRefusal, EpochsUsedUp, Text, Pick, Left, RowOutcome, Sent, World, Memory, stable, Room, server_step, Message, Step, Tell, Deliver, CloseClients, StopWork, handing, working, run, after, is_answer, Course, go, go_on, Setup, Chance, Task, Begins, Meets, Acts, Rests, ComesUp, Dismisses, GoesDown, ClosesClients, CountsCommits, State, begun, Deed, delivered, delivered_at, is_busy, worked, working_steps, served, nothing, stopped_idle, crashed_at, restarted, recovered, recovering, given_up, brought_up, is_used_up, acted, met, resting, deed_of, next_in, refusal_of, own_texts, is_too_much, come_to, cut_short, made, none, more, MayStep, MayLead, before, step_calls, Moment, DoesStep, Tid, WorkId, Taken, ClientTable, Commanded, Refuses, Sends, command_row, take_row, over, at_client, Dismiss, nudge, timeout, commanded, took, handed, at_memory, ends, work, works, crash, narrow, stop_restart, restart, close_clients, room, no_room, tables_commanded, texts_commanded, texts_taken, reported, Devices, IsWritten}
use Rattle.std.proofs.Math.Path.{fun_ext}
use Rattle.jn_base.specs.declared.op.Command.{Command}
use Rattle.jn_schedule.specs.declared.Event.TheVariants as events
use Rattle.jn_report.specs.declared.line.Text.TheVariants as says
use Rattle.jn_rows.specs.declared.client.Taken.TheVariants as taken
use Rattle.jn_machine.proofs.Computed.{may-lead}
use Rattle.jn_machine.proofs.Telling.{may_tell, is_of_delivery, both, Tells, take-tells}

-- ---- steps of servers leave the clients

ends-keep : (s : ServerNo) (k : Option ℕ) (stop : Option (Pick → Left)) (row : RowOutcome Memory) (w : World) → (ends s k stop row w).clients ≡ w.clients
ends-keep s k None row w = refl
ends-keep s k (Some made) row w = refl

memory-keeps : (s : ServerNo) (k : ℕ) (free : Room) (stop : Option (Pick → Left)) (message : Message) (o : Option Memory) (w : World) → (at_memory s k free stop message o w).clients ≡ w.clients
memory-keeps s k free stop message None w = refl
memory-keeps s k free stop message (Some m) w = ends-keep s (Some k) stop _ w

work-keeps : (s : ServerNo) (free : Room) (stop : Option (Pick → Left)) (o : Option Memory) (w : World) → (work s free stop o w).clients ≡ w.clients
work-keeps s free stop None w = refl
work-keeps s free stop (Some m) w = by (server_step m (stable (w.found s)) free)
  where
    by : (row : Option (RowOutcome Memory)) → (works s stop row w).clients ≡ w.clients
    by None = refl
    by (Some row) = ends-keep s None stop row w

crash-keeps : (s : ServerNo) (o : Option Memory) (w : World) → (crash s o w).clients ≡ w.clients
crash-keeps s None w = refl
crash-keeps s (Some m) w = refl

narrow-keeps : (s : ServerNo) (g : Pick → Pick) (o : Option Memory) (w : World) → (narrow s g o w).clients ≡ w.clients
narrow-keeps s g None w = refl
narrow-keeps s g (Some m) w = refl

raise-keeps : (s : ServerNo) (raised : Pick → Bool) (o : Option Memory) (w : World) → (stop_restart s raised o w).clients ≡ w.clients
raise-keeps s raised None w = refl
raise-keeps s raised (Some m) w = refl

restart-keeps : (s : ServerNo) (pick : Pick) (Ws : List WorkId) (Ts : List Tid) (o : Option Memory) (w : World) → (restart s pick Ws Ts o w).clients ≡ w.clients
restart-keeps s pick Ws Ts None w = refl
restart-keeps s pick Ws Ts (Some m) w = refl

close-keeps : (s : ServerNo) (o : Option Memory) (w : World) → (close_clients s o w).clients ≡ w.clients
close-keeps s None w = refl
close-keeps s (Some m) w = refl

-- ---- what a deed makes of the tables, and what it reports of them

-- the deed's steps, what it makes of the tables, and what it says in place of the steps
pub data Handles (t : ClientNo → ClientTable) (w : World) : List Step → ((ClientNo → ClientTable) → ClientNo → ClientTable) → Option (List Text) → Type 0 where
  by_command : (c : ClientNo) (command : Command) → Handles t w (Tell c command ∷ []) (tables_commanded c (command_row (t c) w.event command)) (Some (texts_commanded c w.event (command_row (t c) w.event command)))
  by_message : (k : ℕ) (c : ClientNo) (message : Message) → slice_get w.sent k ≡ Some (Client c, message)
      → Handles t w (Deliver k no_room ∷ []) (λ f. at_client f c (take_row (t c) message).0) (Some (texts_taken k (take_row (t c) message).1))
  by_dismissing : Handles t w (Dismiss ∷ []) (λ f c. over (f c)) None
  plainly : (steps : List Step) → (run steps w).clients ≡ w.clients → Handles t w steps (λ f. f) None

module _ (x : Setup) (h : Chance) (t : ClientNo → ClientTable) (w : World) where
  abbrev HandlesBy : Deed → Type 0
  HandlesBy deed = Handles t w deed.steps deed.clients deed.said

  delivers : (k : ℕ) (o : Option Sent) → slice_get w.sent k ≡ o → HandlesBy (delivered h k t w o)
  delivers k None is = plainly [] refl
  delivers k (Some (Client c, message)) is = by_message k c message is
  delivers k (Some (Server q, message)) is = by (w.memory q)
    where
      hands : (stop : Option (Pick → Left)) → (after (handing k (room h q) stop) w).clients ≡ w.clients
      hands None = ap (λ (o : Option Sent). (handed k (room h q) None o w).clients) is ∙ memory-keeps q k (room h q) None message (w.memory q) w
      hands (Some made) = ap (λ (o : Option Sent). (handed k (room h q) (Some made) o w).clients) is ∙ memory-keeps q k (room h q) (Some made) message (w.memory q) w

      by : (o : Option Memory) → HandlesBy (delivered_at h k q o)
      by None = plainly _ (hands None)
      by (Some m) = plainly _ (hands h.stop)

  works-so : (q : ServerNo) → HandlesBy (worked h q w)
  works-so q = by (is_busy h.rubbish w q)
    where
      working-keeps : (stop : Option (Pick → Left)) → (after (working q (room h q) stop) w).clients ≡ w.clients
      working-keeps None = work-keeps q (room h q) None (w.memory q) w
      working-keeps (Some made) = work-keeps q (room h q) (Some made) (w.memory q) w

      by : (busy : Bool) → HandlesBy (if busy then served q step_calls (working_steps h q) else nothing)
      by true = plainly _ (working-keeps h.stop)
      by false = plainly [] refl

  idles : (q : ServerNo) (stop : Option (Pick → Left)) → (run (stopped_idle q stop) w).clients ≡ w.clients
  idles q None = refl
  idles q (Some made) = work-keeps q (record no_room { rubbish = true }) (Some (λ c. whole_only 0)) (w.memory q) w

  crashes : (q : ServerNo) (o : Option Memory) → HandlesBy (crashed_at q o)
  crashes q None = plainly [] refl
  crashes q (Some m) = plainly _ (crash-keeps q (w.memory q) w)

  recovers-so : (q : ServerNo) (stop : Option (Pick → Left)) → (run (recovering h q stop) w).clients ≡ w.clients
  recovers-so q None = restart-keeps q _ _ _ (w.memory q) w
  recovers-so q (Some made) = raise-keeps q _ _ _ ∙ narrow-keeps q _ (w.memory q) w

  restarts : (q : ServerNo) → HandlesBy (restarted h q w)
  restarts q = by (is_used_up h q w)
    where
      by : (used : Bool) → HandlesBy (if used then record (given_up h q) { texts = says.RefusedEvent EpochsUsedUp ∷ [] } else recovered h q)
      by true = plainly _ (narrow-keeps q _ (w.memory q) w)
      by false = plainly _ (recovers-so q h.stop)

  comes-up : (q : ServerNo) → HandlesBy (brought_up h q w)
  comes-up q = by (is_used_up h q w)
    where
      by : (used : Bool) → HandlesBy (if used then record (given_up h q) { cuts = true } else recovered h q)
      by true = plainly _ (narrow-keeps q _ (w.memory q) w)
      by false = plainly _ (recovers-so q h.stop)

  pub event-handles : (event : Event) → HandlesBy (acted x h event t w)
  event-handles (events.Command c command) = by_command c command
  event-handles (events.Call c s call) = plainly [] refl
  event-handles (events.Again c) = plainly _ refl
  event-handles (events.Deliver k) = delivers k (slice_get w.sent k) refl
  event-handles events.Settle = plainly [] refl
  event-handles (events.Step q) = works-so q
  event-handles (events.Nudge q) = plainly _ (by (w.memory q))
    where
      by : (o : Option Memory) → (nudge q o w).clients ≡ w.clients
      by None = refl
      by (Some m) = refl
  event-handles (events.Timeout q T) = plainly _ (by (w.memory q))
    where
      by : (o : Option Memory) → (timeout q T o w).clients ≡ w.clients
      by None = refl
      by (Some m) = refl
  event-handles (events.Scrub q) = plainly _ (idles q h.stop)
  event-handles (events.Decay q p) = plainly [] refl
  event-handles (events.Revive q p) = plainly [] refl
  event-handles (events.Arm q n kind) = plainly [] refl
  event-handles (events.Crash q) = crashes q (w.memory q)
  event-handles (events.Restart q) = restarts q
  event-handles (events.Show q) = plainly _ (idles q h.stop)

  meets-so : (event : Event) (o : Option EventRefusal) → HandlesBy (met x h event t w o)
  meets-so event None = event-handles event
  meets-so event (Some refusal) = plainly [] refl

  rests-so : (o : Option Event) → HandlesBy (resting x h t w o)
  rests-so None = plainly [] refl
  rests-so (Some event) = event-handles event

pub task-handles : (x : Setup) (h : Chance) (task : Task) (s : State) → Handles s.clients s.course.world (deed_of x h task s).steps (deed_of x h task s).clients (deed_of x h task s).said
task-handles x h (Begins event) s = plainly _ refl
task-handles x h (Meets event) s = meets-so x h s.clients s.course.world event (refusal_of x s.course.world event)
task-handles x h (Acts event) s = event-handles x h s.clients s.course.world event
task-handles x h Rests s = rests-so x h s.clients s.course.world (next_in x h.rubbish s.course)
task-handles x h (ComesUp q) s = comes-up x h s.clients s.course.world q
task-handles x h Dismisses s = by_dismissing
task-handles x h (GoesDown q) s = crashes x h s.clients s.course.world q (s.course.world.memory q)
task-handles x h (ClosesClients q) s = plainly _ (close-keeps q (s.course.world.memory q) s.course.world)
task-handles x h CountsCommits s = plainly [] refl

-- ---- what holds of all that a client says

module _ (test : Text → Bool) (system : (step : Step) (text : Text) → may_tell step text ≡ true → test text ≡ true) where
  commanded-says : (c : ClientNo) (command : Command) (j : ℕ) (row : Commanded) → list_all test (texts_commanded c j row) ≡ true
  commanded-says c command j (Refuses refusal) = both _ true (system (Tell c command) _ refl) refl
  commanded-says c command j (Sends t to message) = refl

  taken-says : (k : ℕ) (row : ClientTable × Taken) → Tells row → list_all test (texts_taken k row.1) ≡ true
  taken-says k (t, taken.Ignored) h = both _ true (system (Deliver k no_room) _ refl) refl
  taken-says k (t, taken.Send to message) h = refl
  taken-says k (t, taken.Told line answer) h = both _ true (system (Deliver k no_room) line (of-answer line h)) refl
    where
      of-answer : (text : Text) → is_answer text ≡ true → is_of_delivery text ≡ true
      of-answer text k = grind arith

  says-by : (t : ClientNo → ClientTable) (w : World) (steps : List Step) (becomes : (ClientNo → ClientTable) → ClientNo → ClientTable) (said : Option (List Text)) → Handles t w steps becomes said → list_all test (reported said []) ≡ true
  says-by t w _ _ _ (by_command c command) = commanded-says c command w.event (command_row (t c) w.event command)
  says-by t w _ _ _ (by_message k c message is) = taken-says k (take_row (t c) message) (take-tells (t c) message)
  says-by t w _ _ _ by_dismissing = refl
  says-by t w _ _ _ (plainly steps keeps) = refl

  pub task-says : (x : Setup) (h : Chance) (task : Task) (s : State) → list_all test (reported (deed_of x h task s).said []) ≡ true
  task-says x h task s = says-by s.clients s.course.world _ _ _ (task-handles x h task s)

-- ---- where the tables are the system's

drop-all : {A : Type 0} (xs : List A) → drop (length xs) xs ≡ []
drop-all xs = subst (λ ys. drop (length xs) ys ≡ []) (append-nil xs) (drop-append_seam xs [])

module _ (w : World) where
  commanded-own : (c : ClientNo) (row : Commanded) → texts_commanded c w.event row ≡ own_texts w (commanded c row w)
  commanded-own c (Refuses refusal) = sym (drop-append_seam w.lines _)
  commanded-own c (Sends t to message) = sym (drop-all w.lines)

  commanded-tables : (c : ClientNo) (row : Commanded) → tables_commanded c row w.clients ≡ (commanded c row w).clients
  commanded-tables c (Refuses refusal) = refl
  commanded-tables c (Sends t to message) = refl

  taken-own : (c : ClientNo) (k : ℕ) (t : ClientTable) (what : Taken) → texts_taken k what ≡ own_texts w (took c k t what w)
  taken-own c k t taken.Ignored = sym (drop-append_seam w.lines _)
  taken-own c k t (taken.Send to message) = sym (drop-all w.lines)
  taken-own c k t (taken.Told line answer) = sym (drop-append_seam w.lines _)

  taken-tables : (c : ClientNo) (k : ℕ) (t : ClientTable) (what : Taken) → at_client w.clients c t ≡ (took c k t what w).clients
  taken-tables c k t taken.Ignored = refl
  taken-tables c k t (taken.Send to message) = refl
  taken-tables c k t (taken.Told line answer) = refl

  -- what is said is what the steps report, and the tables are the system's then
  pub record IsSystems (steps : List Step) (becomes : (ClientNo → ClientTable) → ClientNo → ClientTable) (said : Option (List Text)) : Type 0 where
    pub own : reported said (own_texts w (run steps w)) ≡ own_texts w (run steps w)
    pub tables : becomes w.clients ≡ (run steps w).clients

  pub is-systems : (steps : List Step) (becomes : (ClientNo → ClientTable) → ClientNo → ClientTable) (said : Option (List Text)) → Handles w.clients w steps becomes said → IsSystems steps becomes said
  is-systems _ _ _ (by_command c command) = record { own = commanded-own c (command_row (w.clients c) w.event command); tables = commanded-tables c (command_row (w.clients c) w.event command) }
  is-systems _ _ _ (by_message k c message is) = record {
    own = subst (λ (o : Option Sent). texts_taken k (take_row (w.clients c) message).1 ≡ own_texts w (handed k no_room None o w)) (sym is) (taken-own c k _ _);
    tables = subst (λ (o : Option Sent). at_client w.clients c (take_row (w.clients c) message).0 ≡ (handed k no_room None o w).clients) (sym is) (taken-tables c k _ _);
  }
  is-systems _ _ _ by_dismissing = record { own = refl; tables = refl }
  is-systems _ _ _ (plainly steps keeps) = record { own = refl; tables = sym keeps }

pub run-is : (steps : List Step) (c : Course) → (go_on steps c).world ≡ run steps c.world
run-is [] c = refl
run-is (step ∷ steps) c = run-is steps (go step c)

-- the clients' own tables are the system's
abbrev pub HasTables : State → Type 0
HasTables s = s.clients ≡ s.course.world.clients

module _ (x : Setup) (h : Chance) (task : Task) (s : State) (has : HasTables s) where
  systems : IsSystems s.course.world (deed_of x h task s).steps (deed_of x h task s).clients (deed_of x h task s).said
  systems = is-systems s.course.world _ _ _ (subst (λ (t : ClientNo → ClientTable). Handles t s.course.world (deed_of x h task s).steps (deed_of x h task s).clients (deed_of x h task s).said) has (task-handles x h task s))

  pub own-said : (c : Course) → c.world ≡ s.course.world → reported (deed_of x h task s).said (own_texts c.world (go_on (deed_of x h task s).steps c).world) ≡ own_texts c.world (go_on (deed_of x h task s).steps c).world
  own-said c e = rw (run-is (deed_of x h task s).steps c, e) systems.own

  tables-then : (deed_of x h task s).clients s.clients ≡ (go_on (deed_of x h task s).steps s.course).world.clients
  tables-then = ap (deed_of x h task s).clients has ∙ systems.tables ∙ ap (λ (w : World). w.clients) (sym (run-is (deed_of x h task s).steps s.course))

begun-world : (task : Task) (s : State) → (begun task s).course.world ≡ s.course.world
begun-world Dismisses s = refl
begun-world task s = refl

-- once a task is begun, its deed reports what its steps report
pub begun-said : (x : Setup) (h : Chance) (task : Task) (s : State) → HasTables s
    → reported (deed_of x h task s).said (own_texts (begun task s).course.world (go_on (deed_of x h task s).steps (begun task s).course).world) ≡ own_texts (begun task s).course.world (go_on (deed_of x h task s).steps (begun task s).course).world
begun-said x h task s has = own-said x h task s has (begun task s).course (begun-world task s)

pub begun-tables : (task : Task) (s : State) → HasTables s → HasTables (begun task s)
begun-tables Dismisses s has = has
begun-tables task s has = has

pub become : (x : Setup) (h : Chance) (task : Task) (s : State) → HasTables s → (deed_of x h task s).clients (begun task s).clients ≡ (go_on (deed_of x h task s).steps (begun task s).course).world.clients
become x h Dismisses s has = ap (deed_of x h Dismisses s).clients has
become x h task s has = tables-then x h task s has

pub step-tables : (x : Setup) (s t : State) → MayStep x s t → HasTables s → HasTables t
step-tables x s t m has = rw m.state_is (by (is_too_much deed (go_on deed.steps (begun m.task s).course)))
  where
    deed : Deed
    deed = deed_of x m.chance m.task s

    by : (b : Bool) → HasTables (if b then cut_short (begun m.task s) else come_to x m.chance deed (go_on deed.steps (begun m.task s).course) (begun m.task s))
    by true = begun-tables m.task s has
    by false = become x m.chance m.task s has

pub tables-lead : (x : Setup) (s t : State) → MayLead x s t → HasTables s → HasTables t
tables-lead x s t (none u) has = has
tables-lead x s t (more a b c m rest) has = tables-lead x b t rest (step-tables x s b m has)

pub before-tables : (x : Setup) (schedule : List Event) (files : AllFiles) (epochs : ServerNo → ℕ) (t : State) → MayLead x (before x schedule files epochs) t → HasTables t
before-tables x schedule files epochs t m = tables-lead x (before x schedule files epochs) t m refl

-- ---- with devices

pub does-tables : (x : Setup) (a b : Moment) → DoesStep x a b → HasTables a.state → HasTables b.state
does-tables x a b d = step-tables x a.state b.state (record { chance = d.chance; task = d.task; task_is = d.task_is; state_is = d.state_is })

pub written-tables : (x : Setup) (schedule : List Event) (images : Devices) (now : Moment) → IsWritten x schedule images now → HasTables now.state
written-tables x schedule images now h = before-tables x schedule h.files h.epochs now.state (may-lead x (record { state = before x schedule h.files h.epochs; devices = images }) now h.leads)

-- an event does what its steps do and report
pub event-says : (x : Setup) (h : Chance) (event : Event) (w : World) → reported (acted x h event w.clients w).said (own_texts w (run (acted x h event w.clients w).steps w)) ≡ own_texts w (run (acted x h event w.clients w).steps w)
event-says x h event w = let s = is-systems w _ _ _ (event-handles x h w.clients w event) in s.own

pub delivered-says : (x : Setup) (h : Chance) (k : ℕ) (t : ClientNo → ClientTable) (w : World) → t ≡ w.clients → (o : Option Sent) → slice_get w.sent k ≡ o
    → reported (delivered h k t w o).said (own_texts w (run (delivered h k t w o).steps w)) ≡ own_texts w (run (delivered h k t w o).steps w)
delivered-says x h k t w e o is = subst (λ (f : ClientNo → ClientTable). reported (delivered h k f w o).said (own_texts w (run (delivered h k f w o).steps w)) ≡ own_texts w (run (delivered h k f w o).steps w)) (sym e)
    (let s = is-systems w _ _ _ (delivers x h w.clients w k o is) in s.own)
