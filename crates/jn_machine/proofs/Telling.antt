-- What each step of the system adds to the lines, and the event under way after it.
use Rattle.jn_machine.proofs.Common.{Left, ◌≡◌, ℕ, ◌+◌, Bool, true, false, List, [], ◌∷◌, ◌++◌, append-nil, Option, Some, None, refl, sym, subst, arith, ◌&&◌, ◌||◌, if◌then◌else◌, list_all, ServerNo, ClientNo, Tid, Text, Pick, stable, RowOutcome, Sent, World, Memory, has_line, Room, server_row, of_coordinator, lines_of, named_now, Step, NextEvent, Deliver, StopDelivery, after, is_answer, is_up, is_stopped, StableState, Tell, Work, StopWork, Crash, StopRestart, Restart, CloseClients, client_eq, Message, WorkId, Taken, ClientTable, take_row, if_waits, begun_row, opened_row, answer_line, outcome_row, is_current, decided_row}
use Rattle.jn_base.specs.declared.op.Answer.{Answer}
use Rattle.jn_base.specs.declared.op.Answer.TheVariants as answers
use Rattle.jn_msgs.specs.declared.message.Message.TheVariants as messages
use Rattle.jn_msgs.specs.declared.message.Outcome.{Outcome}
use Rattle.jn_msgs.specs.declared.message.Outcome.TheVariants.{Committed, Aborted, Waiting, NotKnown}
use Rattle.jn_msgs.specs.declared.message.Note.{Note}
use Rattle.jn_msgs.specs.declared.message.Note.TheVariants as notes
use Rattle.jn_report.specs.declared.line.Text.TheVariants as says
use Rattle.jn_rows.specs.declared.client.Outstanding.{Outstanding}
use Rattle.jn_rows.specs.declared.client.Taken.TheVariants as taken
use Rattle.jn_rows.specs.Coordinator.{close_clients_row}
use Rattle.jn_system.proofs.WholeSystem.StepCases.{ClientRow, by_command, by_ignoring, by_answering, by_telling, ServerRow, of_message, of_work, of_closing, FoundThen, by_narrowing, by_raising, Quiet, event_begins, is_refused, is_lost, StepCase, client_row, row_done, row_stopped, gone_late, gone_down, come_up, found_anew, dismissed, quietly, step-case, handing}

-- what a server notes in a step
abbrev pub is_note : Text → Bool
is_note (says.Commit T) = true
is_note (says.Broke s T u by) = true
is_note text = false

abbrev pub is_of_delivery : Text → Bool
is_of_delivery (says.Ignored k) = true
is_of_delivery (says.Lost k) = true
is_of_delivery text = is_answer text || is_note text

abbrev pub is_down : Text → Bool
is_down (says.Down s) = true
is_down text = false

-- what each step of the system may tell
abbrev pub may_tell : Step → Text → Bool
may_tell (Tell c command) text = is_answer text
may_tell (Deliver k room) text = is_of_delivery text
may_tell (Work s room) text = is_note text
may_tell (StopDelivery k room made) text = is_of_delivery text || is_stopped text
may_tell (StopWork s room made) text = is_stopped text
may_tell (Crash s) text = is_down text
may_tell (StopRestart s raised) text = is_stopped text
may_tell (Restart s pick works tids) text = is_up text || is_note text
may_tell (CloseClients s) text = is_note text
may_tell step text = false

-- the number of the event under way after a step
abbrev pub event_after : Step → ℕ → ℕ
event_after NextEvent event = event + 1
event_after step event = event

pub record Adds (test : Text → Bool) (event : ℕ) (w now : World) : Type 0 where
  pub event_is : now.event ≡ event
  pub texts : List Text
  pub lines : now.lines ≡ w.lines ++ texts
  pub kinds : list_all test texts ≡ true

pub both : (a b : Bool) → a ≡ true → b ≡ true → (a && b) ≡ true
both a b h k = grind arith

pub first : (a b : Bool) → (a && b) ≡ true → a ≡ true
first a b h = grind arith

pub second : (a b : Bool) → (a && b) ≡ true → b ≡ true
second a b h = grind arith

-- ---- what a client is told

abbrev pub Tells : ClientTable × Taken → Type 0
Tells (t, taken.Told line answer) = is_answer line ≡ true
Tells (t, what) = Unit {0}

module _ (t : ClientTable) where
  either : (b : Bool) (row other : ClientTable × Taken) → Tells row → Tells other → Tells (if b then row else other)
  either true row other h k = h
  either false row other h k = k

  waits : (o : Option Outstanding) (test : Outstanding → Bool) (row : ℕ → ClientTable × Taken) → ((j : ℕ) → Tells (row j)) → Tells (if_waits t o test row)
  waits None test row h = tt
  waits (Some x) test row h = either (test x) (row x.event) (t, taken.Ignored) (h x.event) tt

  begun : (j : ℕ) (o : Option Tid) → Tells (begun_row t j o)
  begun j (Some T) = refl
  begun j None = refl

  opened : (j : ℕ) (o : Option WorkId) → Tells (opened_row t j o)
  opened j (Some W) = refl
  opened j None = refl

  answered : (c : ClientNo) (j : ℕ) (a : Answer) → is_answer (answer_line c j a) ≡ true
  answered c j answers.Did = refl
  answered c j (answers.Read bytes) = refl
  answered c j answers.NoFile = refl
  answered c j answers.Exists = refl
  answered c j (answers.Locked u T) = refl
  answered c j answers.TooManyReads = refl
  answered c j answers.TooManyWrites = refl
  answered c j (answers.Broken u T) = refl
  answered c j (answers.Lost then' now) = refl
  answered c j answers.Closing = refl

  decided : (T : Tid) (line : ℕ → Text) → ((j : ℕ) → is_answer (line j) ≡ true) → Tells (decided_row t T line)
  decided T line h = either (is_current t T) _ _ (waits t.outstanding _ _ h) tt

  outcome : (T : Tid) (what : Outcome) → Tells (outcome_row t T what)
  outcome T Committed = decided T _ (λ j. refl)
  outcome T (Aborted cause) = decided T _ (λ j. refl)
  outcome T (Waiting s u by) = either (is_current t T) _ _ (waits t.outstanding _ _ (λ j. refl)) tt
  outcome T (NotKnown s epoch) = either (is_current t T) _ _ (waits t.outstanding _ _ (λ j. refl)) tt

  pub take-tells : (m : Message) → Tells (take_row t m)
  take-tells (messages.Begun c request answer) = waits t.outstanding _ _ (λ j. begun j answer)
  take-tells (messages.Opened c request T answer) = waits t.outstanding _ _ (λ j. opened j answer)
  take-tells (messages.Answer c request answer) = waits t.outstanding _ _ (λ j. answered t.client j answer)
  take-tells (messages.Outcome c T what) = either (client_eq c t.client) _ _ (outcome T what) tt
  take-tells m = tt

-- ---- what a server notes

pub noted : (s : ServerNo) (told : List Note) → list_all is_note (lines_of s None told) ≡ true
noted s [] = refl
noted s (notes.Commit T ∷ told) = noted s told
noted s (notes.Broke T u by ∷ told) = noted s told
noted s (notes.Ignored ∷ told) = noted s told

pub noted-with : (s : ServerNo) (k : ℕ) (told : List Note) → list_all is_of_delivery (lines_of s (Some k) told) ≡ true
noted-with s k [] = refl
noted-with s k (notes.Commit T ∷ told) = noted-with s k told
noted-with s k (notes.Broke T u by ∷ told) = noted-with s k told
noted-with s k (notes.Ignored ∷ told) = noted-with s k told

named : (Ts : List Tid) (lines : List Text) → list_all (λ text. is_up text || is_note text) (named_now Ts lines) ≡ true
named [] lines = refl
named (T ∷ Ts) lines = by (has_line T lines) (named Ts lines)
  where
    by : (b : Bool) → list_all (λ text. is_up text || is_note text) (named_now Ts lines) ≡ true → list_all (λ text. is_up text || is_note text) (if b then named_now Ts lines else says.Commit T ∷ named_now Ts lines) ≡ true
    by true h = h
    by false h = h

pub weaker : (test other : Text → Bool) → ((text : Text) → test text ≡ true → other text ≡ true) → (texts : List Text) → list_all test texts ≡ true → list_all other texts ≡ true
weaker test other h [] k = refl
weaker test other h (text ∷ texts) k = both (other text) (list_all other texts) (h text (first (test text) (list_all test texts) k)) (weaker test other h texts (second (test text) (list_all test texts) k))

-- ---- every step

module _ (w : World) where
  -- what a step that leaves these lines has reported
  abbrev Told : Step → List Text → Type 0
  Told step lines = (texts : List Text) × (lines ≡ w.lines ++ texts) × (list_all (may_tell step) texts ≡ true)

  nothing : (step : Step) → Told step w.lines
  nothing step = ([], sym (append-nil w.lines), refl)

  one : (step : Step) (text : Text) → may_tell step text ≡ true → Told step (w.lines ++ text ∷ [])
  one step text h = (text ∷ [], refl, both (may_tell step text) true h refl)

  delivered : (k : ℕ) (room : Room) (stop : Option (Pick → Left)) (text : Text) → is_of_delivery text ≡ true → Told (handing k room stop) (w.lines ++ text ∷ [])
  delivered k room None text h = one (Deliver k room) text h
  delivered k room (Some made) text h = one (StopDelivery k room made) text (left (is_of_delivery text) (is_stopped text) h)
    where
      left : (a b : Bool) → a ≡ true → (a || b) ≡ true
      left a b k = grind arith

  client-tells : (c : ClientNo) (step : Step) (t : ClientTable) (sent : List Sent) (lines : List Text) → ClientRow w c step t sent lines → Told step lines
  client-tells c step _ _ _ (by_command command t to message is) = nothing step
  client-tells c _ _ _ _ (by_ignoring k room stop message t e is) = delivered k room stop (says.Ignored k) refl
  client-tells c step _ _ _ (by_answering k room stop message t to answer e is) = nothing step
  client-tells c _ _ _ _ (by_telling k room stop message t line answer e is) = delivered k room stop line (of-answer line (subst Tells is (take-tells (w.clients c) message)))
    where
      of-answer : (text : Text) → is_answer text ≡ true → is_of_delivery text ≡ true
      of-answer text h = grind arith

  row-tells : (s : ServerNo) (m : Memory) (step : Step) (k : Option ℕ) (row : RowOutcome Memory) → ServerRow w s m None step k row → list_all (may_tell step) (lines_of s k row.notes) ≡ true
  row-tells s m _ _ _ (of_message _ k room message is) = noted-with s k (server_row m (stable (w.found s)) room message).notes
  row-tells s m _ _ _ (of_work _ room row is) = noted s row.notes
  row-tells s m _ _ _ of_closing = noted s (of_coordinator m (close_clients_row m.coordinator m.tickets)).notes

  stop-tells : (s : ServerNo) (m : Memory) (made : Pick → Left) (step : Step) (k : Option ℕ) (row : RowOutcome Memory) → ServerRow w s m (Some made) step k row → may_tell step (says.Stopped s) ≡ true
  stop-tells s m made _ _ _ (of_message _ k room message is) = refl
  stop-tells s m made _ _ _ (of_work _ room row is) = refl

  found-tells : (s : ServerNo) (step : Step) (found : Pick → StableState) (lines : List Text) → FoundThen w s step found lines → Told step lines
  found-tells s step _ _ (by_narrowing g) = nothing step
  found-tells s step _ _ (by_raising raise) = one step (says.Stopped s) refl

  quiet-tells : (step : Step) (event : ℕ) (sent : List Sent) (lines : List Text) → Quiet w step event sent lines → Told step lines
  quiet-tells step _ _ _ (is_refused c command refusal e) = one step (says.Refused c w.event refusal) refl
  quiet-tells _ _ _ _ (is_lost k room stop s message e is) = delivered k room stop (says.Lost k) refl
  quiet-tells step _ _ _ _ = nothing step

  tells : (step : Step) (now : World) → StepCase w step now → Told step now.lines
  tells step _ (client_row _ c t sent lines row) = client-tells c step t sent lines row
  tells step _ (row_done _ s m k row e is) = (lines_of s k row.notes, refl, row-tells s m step k row is)
  tells step _ (row_stopped _ s m k row made e is) = one step (says.Stopped s) (stop-tells s m made step k row is)
  tells step _ (gone_late s m T e) = nothing step
  tells step _ (gone_down s m e) = one step (says.Down s) refl
  tells _ _ (come_up s pick Ws Ts e) = (says.Up s ((w.found s pick).epoch + 1) ∷ named_now Ts w.lines, refl, named Ts w.lines)
  tells step _ (found_anew _ s found lines e is) = found-tells s step found lines is
  tells step _ dismissed = nothing step
  tells step _ (quietly _ event sent lines is) = quiet-tells step event sent lines is

  -- the event under way is another one only where one begins
  abbrev EventIs : Step → ℕ → Type 0
  EventIs NextEvent event = Unit {0}
  EventIs step event = event ≡ w.event

  as-before : (step : Step) → EventIs step w.event
  as-before NextEvent = tt
  as-before _ = refl

  event-is : (step : Step) (now : World) → StepCase w step now → EventIs step now.event
  event-is _ _ (quietly _ _ _ _ event_begins) = tt
  event-is step _ _ = as-before step

  pub adds : (step : Step) → Adds (may_tell step) (event_after step w.event) w (after step w)
  adds NextEvent = record { event_is = refl; texts = []; lines = sym (append-nil w.lines); kinds = refl }
  adds step = let told = tells step (after step w) (step-case w step) in record { event_is = event-is step (after step w) (step-case w step); texts = told.0; lines = told.1; kinds = told.2 }
