-- In any run, each abort that is reported for want of room was short of it at a step.
use Rattle.jn_wrong.proofs.Common.{◌≡◌, ℕ, zero, suc, ◌+◌, Bool, true, false, List, [], ◌∷◌, ◌++◌, map, length, drop, Option, Some, None, refl, sym, ◌∙◌, ap, subst, arith, if◌then◌else◌, ◌&&◌, nat_lt, slice_get, list_all, ServerNo, ClientNo, Party, Client, Server, Resource, Outside, AllFiles, Need, Message, Event, EventRefusal, EpochsUsedUp, When, Text, Line, Sent, Pick, World, Memory, new_memory, Room, Step, Deliver, IsRun, run, after, LockFacts, ServerFact, Course, go, go_on, handing, working, on-world, Setup, Chance, Task, Begins, Meets, Acts, Rests, ComesUp, Dismisses, GoesDown, ClosesClients, CountsCommits, State, when_of, begun, Use, Nothing, Calls, Reads, Recovers, PowersOff, Decays, Revives, Arms, Disarms, Deed, room, delivered, delivered_at, is_busy, worked, working_steps, served, nothing, stopped_idle, crashed_at, recovering, recovered, restarted, given_up, brought_up, is_used_up, Devices, IsServed, Alone, IsUsed, refusal_of, acted, met, next_in, resting, deed_of, outside_texts, message_texts, traced, texts_of, lines_at, is_too_much, come_to, cut_short, none, more, Moment, DoesStep, Leads, before, closed_world, IsWritten, begun-lines, task-texts, Besides, IsShort, WasShort, OfText, OfLines, join, Cleans, step_calls, Left, HasTables, begun-said, begun-tables, become}
use Rattle.jn_schedule.specs.declared.Event.TheVariants as events
use Rattle.jn_report.specs.declared.line.Text.TheVariants as says
use Rattle.jn_system.proofs.WholeSystem.Steps.{locks-keep, run-keeps, opening-keeps}
use Rattle.jn_wrong.proofs.ShortRows.{OfTable}
use Rattle.jn_wrong.proofs.ShortSteps.{OfTexts, both-tell, OfWorld, Finds, FindsAt, step-so}

-- ---- who takes a message

received : (a b : Sent) → Some a ≡ Some b → a.0 ≡ b.0
received a b e = ap (λ (y : Sent). y.0) (some e)
  where
    some : Some a ≡ Some b → a ≡ b
    some z = cc

one-server : (s q : ServerNo) → Server s ≡ Server q → s ≡ q
one-server s q e = cc

no-client : (c : ClientNo) (s : ServerNo) → Server s ≡ Client c → ⊥
no-client c s e = cc

no-memory : {A : Type 0} (m : Memory) → None ≡ Some m → A
no-memory m e = absurd (no' e)
  where
    no' : None ≡ Some m → ⊥
    no' z = cc

one-memory : (m n : Memory) → Some m ≡ Some n → m ≡ n
one-memory m n e = cc

-- ---- steps that hand nothing over

abbrev hands_nothing : Step → Bool
hands_nothing (Deliver k room) = false
hands_nothing step = true

first : (a b : Bool) → (a && b) ≡ true → a ≡ true
first a b h = grind arith

second : (a b : Bool) → (a && b) ≡ true → b ≡ true
second a b h = grind arith

abbrev HandsNothing : Deed → Type 0
HandsNothing deed = list_all hands_nothing deed.steps ≡ true

works-none : (q : ServerNo) (r : Room) (stop : Option (Pick → Left)) → list_all hands_nothing (working q r stop ∷ []) ≡ true
works-none q r None = refl
works-none q r (Some made) = refl

idle-none : (q : ServerNo) (stop : Option (Pick → Left)) → list_all hands_nothing (stopped_idle q stop) ≡ true
idle-none q None = refl
idle-none q (Some made) = refl

recovers-none : (h : Chance) (q : ServerNo) (stop : Option (Pick → Left)) → list_all hands_nothing (recovering h q stop) ≡ true
recovers-none h q None = refl
recovers-none h q (Some made) = refl

worked-none : (h : Chance) (q : ServerNo) (w : World) → HandsNothing (worked h q w)
worked-none h q w = by (is_busy h.rubbish w q)
  where
    by : (b : Bool) → HandsNothing (if b then served q step_calls (working_steps h q) else nothing)
    by true = works-none q (room h q) h.stop
    by false = refl

crashed-none : (q : ServerNo) (o : Option Memory) → HandsNothing (crashed_at q o)
crashed-none q None = refl
crashed-none q (Some m) = refl

restarted-none : (h : Chance) (q : ServerNo) (w : World) → HandsNothing (restarted h q w)
restarted-none h q w = by (is_used_up h q w)
  where
    by : (b : Bool) → HandsNothing (if b then record (given_up h q) { texts = says.RefusedEvent EpochsUsedUp ∷ [] } else recovered h q)
    by true = refl
    by false = recovers-none h q h.stop

raised-none : (h : Chance) (q : ServerNo) (w : World) → HandsNothing (brought_up h q w)
raised-none h q w = by (is_used_up h q w)
  where
    by : (b : Bool) → HandsNothing (if b then record (given_up h q) { cuts = true } else recovered h q)
    by true = refl
    by false = recovers-none h q h.stop

-- ---- texts

abbrev no_abort : Text → Bool
no_abort (says.Aborted c j T cause) = false
no_abort text = true

besides : Besides no_abort
besides = record { file = λ q f. refl; page = λ q f p bytes. refl; locked = λ q u T. refl; refused = λ refusal. refl; outside = λ q fault. refl }

deed-tells : (x : Setup) (h : Chance) (task : Task) (s : State) → list_all no_abort (deed_of x h task s).texts ≡ true
deed-tells x h CountsCommits s = refl
deed-tells x h (Begins e) s = task-texts no_abort besides x h (Begins e) s (λ e. cc)
deed-tells x h (Meets e) s = task-texts no_abort besides x h (Meets e) s (λ e. cc)
deed-tells x h (Acts e) s = task-texts no_abort besides x h (Acts e) s (λ e. cc)
deed-tells x h Rests s = task-texts no_abort besides x h Rests s (λ e. cc)
deed-tells x h (ComesUp q) s = task-texts no_abort besides x h (ComesUp q) s (λ e. cc)
deed-tells x h Dismisses s = task-texts no_abort besides x h Dismisses s (λ e. cc)
deed-tells x h (GoesDown q) s = task-texts no_abort besides x h (GoesDown q) s (λ e. cc)
deed-tells x h (ClosesClients q) s = task-texts no_abort besides x h (ClosesClients q) s (λ e. cc)

module _ (x : Setup) (start now : Moment) where
  abbrev P : ServerNo → Resource → ℕ → ℕ → Type 0
  P = WasShort x start now

  of-text : (text : Text) → no_abort text ≡ true → OfText P text
  of-text (says.Aborted c j T cause) h = absurd (clash h)
    where
      clash : false ≡ true → ⊥
      clash z = cc
  of-text text h = tt

  of-texts : (texts : List Text) → list_all no_abort texts ≡ true → OfTexts P texts
  of-texts [] h = tt
  of-texts (text ∷ texts) h = (of-text text (first (no_abort text) (list_all no_abort texts) h), of-texts texts (second (no_abort text) (list_all no_abort texts) h))

  of-faults : (q : ServerNo) (told : List Outside) → OfTexts P (map (λ (fault : Outside). says.Outside q fault) told)
  of-faults q [] = tt
  of-faults q (fault ∷ told) = (tt, of-faults q told)

  of-outside : (device : Use) (told : List Outside) → OfTexts P (outside_texts device told)
  of-outside (Calls q most) told = of-faults q told
  of-outside (Cleans q) told = of-faults q told
  of-outside (Reads q) told = of-faults q told
  of-outside (Recovers q) told = of-faults q told
  of-outside Nothing told = tt
  of-outside (PowersOff q) told = tt
  of-outside (Decays q p) told = tt
  of-outside (Revives q p) told = tt
  of-outside (Arms q n kind) told = tt
  of-outside Disarms told = tt

  of-messages : (from : Party) (k : ℕ) (sent : List Sent) → OfTexts P (message_texts from k sent)
  of-messages from k [] = tt
  of-messages from k (one ∷ sent) = (tt, of-messages from (k + 1) sent)

  of-traced : (trace : Bool) (from : Party) (k : ℕ) (sent : List Sent) → OfTexts P (traced trace (message_texts from k sent))
  of-traced true from k sent = of-messages from k sent
  of-traced false from k sent = tt

  of-rest : (n : ℕ) (texts : List Text) → OfTexts P texts → OfTexts P (drop n texts)
  of-rest zero texts h = h
  of-rest (suc n) [] h = tt
  of-rest (suc n) (text ∷ texts) h = of-rest n texts h.1

  of-lines : (w : When) (texts : List Text) → OfTexts P texts → OfLines P (lines_at w texts)
  of-lines w [] h = tt
  of-lines w (text ∷ texts) h = (h.0, of-lines w texts h.1)

  both-lines : (xs ys : List Line) → OfLines P xs → OfLines P ys → OfLines P (xs ++ ys)
  both-lines [] ys h k = k
  both-lines (l ∷ xs) ys h k = (h.0, both-lines xs ys h.1 k)

  -- ---- one step

  abbrev AllFind : List Step → World → Type 0
  AllFind [] w = Unit {0}
  AllFind (step ∷ steps) w = Finds P step w × AllFind steps (after step w)

  none-find : (steps : List Step) (w : World) → list_all hands_nothing steps ≡ true → AllFind steps w
  none-find [] w h = tt
  none-find (step ∷ steps) w h = (by step (first (hands_nothing step) (list_all hands_nothing steps) h), none-find steps (after step w) (second (hands_nothing step) (list_all hands_nothing steps) h))
    where
      by : (step : Step) → hands_nothing step ≡ true → Finds P step w
      by (Deliver k r) e = absurd (clash e)
        where
          clash : false ≡ true → ⊥
          clash z = cc
      by step e = tt

  go-on-so : (steps : List Step) (c : Course) → OfWorld P c.world → LockFacts c.world → IsRun steps c.world → AllFind steps c.world → OfWorld P (go_on steps c).world
  go-on-so [] c o locks i f = o
  go-on-so (step ∷ steps) c o locks i f = go-on-so steps (go step c) (step-so P c.world o locks step f.0) (locks-keep step c.world i.0 locks) i.1 f.1

  record Holds (s : State) : Type 0 where
    world : OfWorld P s.course.world
    locks : LockFacts s.course.world
    lines : OfLines P s.lines
    tables : HasTables s

  module _ (m n : Moment) (to : Leads x start m) (d : DoesStep x m n) (on : Leads x n now) where
    abbrev w : World
    w = m.state.course.world

    abbrev h : Chance
    h = d.chance

    -- a server that is up and called
    served-finds : (most k : ℕ) (q : ServerNo) (message : Message) → slice_get w.sent k ≡ Some (Server q, message) → Alone q (IsServed (x.counts q) most h w q) m.devices n.devices → FindsAt P w k (room h q)
    served-finds most k q message e a s memory other here up number has need short = by (one-server s q (received (Server s, other) (Server q, message) (sym here ∙ e)))
      where
        its : Memory
        its = a.its.memory

        by : s ≡ q → P s number has need
        by z = subst (λ (p : ServerNo). P p number has need) (sym z) (record {
          before = m;
          after = n;
          leads = to;
          step = d;
          goes_on = on;
          memory = its;
          up = a.its.up;
          short = subst (λ (free : Need). IsShort free number has need) a.its.free short;
        })

    handing-finds : (most k : ℕ) (q : ServerNo) (message : Message) → slice_get w.sent k ≡ Some (Server q, message) → Alone q (IsServed (x.counts q) most h w q) m.devices n.devices → (stop : Option (Pick → Left)) → AllFind (handing k (room h q) stop ∷ []) w
    handing-finds most k q message e a None = (served-finds most k q message e a, tt)
    handing-finds most k q message e a (Some made) = (tt, tt)

    at-finds : (k : ℕ) (q : ServerNo) (message : Message) → slice_get w.sent k ≡ Some (Server q, message) → (o : Option Memory) → w.memory q ≡ o → (next : World) → IsUsed x h (delivered_at h k q o).device w next m.devices n.devices → AllFind (delivered_at h k q o).steps w
    at-finds k q message e None down next used = ((λ s memory other here up number has need short. no-memory memory (sym down ∙ ap w.memory (sym (one-server s q (received (Server s, other) (Server q, message) (sym here ∙ e)))) ∙ up)), tt)
    at-finds k q message e (Some mm) up next used = handing-finds _ k q message e used h.stop

    delivered-finds : (k : ℕ) (o : Option Sent) → slice_get w.sent k ≡ o → (next : World) → IsUsed x h (delivered h k m.state.clients w o).device w next m.devices n.devices → AllFind (delivered h k m.state.clients w o).steps w
    delivered-finds k None e next used = tt
    delivered-finds k (Some (Client c, message)) e next used = ((λ s memory other here up number has need short. absurd (no-client c s (received (Server s, other) (Client c, message) (sym here ∙ e)))), tt)
    delivered-finds k (Some (Server q, message)) e next used = at-finds k q message e (w.memory q) refl next used

    abbrev DoesFind : Deed → Type 0
    DoesFind deed = (next : World) → IsUsed x h deed.device w next m.devices n.devices → AllFind deed.steps w

    quietly : (deed : Deed) → HandsNothing deed → DoesFind deed
    quietly deed z next used = none-find deed.steps w z

    acts-find : (event : Event) → DoesFind (acted x h event m.state.clients w)
    acts-find (events.Deliver k) next used = delivered-finds k (slice_get w.sent k) refl next used
    acts-find (events.Command c command) next used = (tt, tt)
    acts-find (events.Call c s call) next used = tt
    acts-find (events.Again c) next used = (tt, tt)
    acts-find events.Settle next used = tt
    acts-find (events.Step q) next used = quietly (worked h q w) (worked-none h q w) next used
    acts-find (events.Nudge q) next used = (tt, tt)
    acts-find (events.Timeout q T) next used = (tt, tt)
    acts-find (events.Scrub q) next used = none-find (stopped_idle q h.stop) w (idle-none q h.stop)
    acts-find (events.Decay q p) next used = tt
    acts-find (events.Revive q p) next used = tt
    acts-find (events.Arm q k kind) next used = tt
    acts-find (events.Crash q) next used = quietly (crashed_at q (w.memory q)) (crashed-none q (w.memory q)) next used
    acts-find (events.Restart q) next used = quietly (restarted h q w) (restarted-none h q w) next used
    acts-find (events.Show q) next used = none-find (stopped_idle q h.stop) w (idle-none q h.stop)

    meets-find : (event : Event) (o : Option EventRefusal) → DoesFind (met x h event m.state.clients w o)
    meets-find event (Some refusal) next used = tt
    meets-find event None next used = acts-find event next used

    rests-find : (o : Option Event) → DoesFind (resting x h m.state.clients w o)
    rests-find None next used = tt
    rests-find (Some event) next used = acts-find event next used

    deed-finds : (task : Task) → DoesFind (deed_of x h task m.state)
    deed-finds (Begins event) next used = (tt, tt)
    deed-finds (Meets event) next used = meets-find event (refusal_of x w event) next used
    deed-finds (Acts event) next used = acts-find event next used
    deed-finds Rests next used = rests-find (next_in x h.rubbish m.state.course) next used
    deed-finds (ComesUp q) next used = quietly (brought_up h q w) (raised-none h q w) next used
    deed-finds Dismisses next used = (tt, tt)
    deed-finds (GoesDown q) next used = quietly (crashed_at q (w.memory q)) (crashed-none q (w.memory q)) next used
    deed-finds (ClosesClients q) next used = (tt, tt)
    deed-finds CountsCommits next used = tt

    world-begun : (task : Task) (s : State) → (begun task s).course.world ≡ s.course.world
    world-begun Dismisses s = refl
    world-begun task s = refl

    one-step : Holds m.state → Holds n.state
    one-step holds = subst Holds (sym d.state_is) (by (is_too_much deed (go_on deed.steps u.course)))
      where
        deed : Deed
        deed = deed_of x h d.task m.state

        u : State
        u = begun d.task m.state

        same : u.course.world ≡ w
        same = world-begun d.task m.state

        old : OfWorld P u.course.world
        old = subst (λ (z : World). OfWorld P z) (sym same) holds.world

        locks : LockFacts u.course.world
        locks = subst LockFacts (sym same) holds.locks

        is-run : IsRun deed.steps u.course.world
        is-run = subst (λ (z : World). IsRun deed.steps z) (sym same) d.befalls.steps

        find : AllFind deed.steps u.course.world
        find = subst (λ (z : World). AllFind deed.steps z) (sym same) (deed-finds d.task (run deed.steps w) d.befalls.used)

        world : OfWorld P (go_on deed.steps u.course).world
        world = go-on-so deed.steps u.course old locks is-run find

        lines : OfLines P u.lines
        lines = subst (λ (ls : List Line). OfLines P ls) (sym (begun-lines d.task m.state)) holds.lines

        told : OfTexts P (texts_of x h deed u.course.world (go_on deed.steps u.course).world)
        told = both-tell P _ _ (both-tell P _ _ (both-tell P _ _ (of-outside deed.device h.told)
            (subst (λ (texts : List Text). OfTexts P texts) (sym (begun-said x h d.task m.state holds.tables)) (of-rest (length u.course.world.lines) (go_on deed.steps u.course).world.lines world.lines))) (of-texts deed.texts (deed-tells x h d.task m.state)))
            (of-traced x.trace deed.actor (length u.course.world.sent) (drop (length u.course.world.sent) (go_on deed.steps u.course).world.sent))

        by : (b : Bool) → Holds (if b then cut_short u else come_to x h deed (go_on deed.steps u.course) u)
        by true = record { world = old; locks = locks; lines = lines; tables = begun-tables d.task m.state holds.tables }
        by false = record {
          world = world;
          locks = subst LockFacts (sym (on-world deed.steps u.course)) (run-keeps deed.steps u.course.world is-run locks);
          lines = both-lines u.lines _ lines (of-lines (when_of u) _ told);
          tables = become x h d.task m.state holds.tables;
        }

  all-steps : (m last : Moment) → last ≡ now → Leads x start m → Leads x m last → Holds m.state → Holds last.state
  all-steps m last e to (none a) holds = holds
  all-steps m last e to (more a n c d rest) holds = all-steps n last e (join Moment (DoesStep x) start m n to (more m n n d (none n))) rest (one-step m n to d (subst (λ (z : Moment). Leads x n z) e rest) holds)

-- ---- from the start

closed-locks : (servers : ℕ) (files : AllFiles) (epochs : ServerNo → ℕ) → LockFacts (closed_world servers files epochs)
closed-locks servers files epochs s = by (nat_lt s.0 servers)
  where
    clash : {A B : Type 0} (b : B) → None ≡ Some b → A
    clash b e = absurd (no' e)
      where
        no' : None ≡ Some b → ⊥
        no' z = cc

    by : (b : Bool) → ServerFact s (if b then None else Some (new_memory s (epochs s))) ((closed_world servers files epochs).found s)
    by true = λ c. record { place = λ W p e. clash p e; no_later = λ W p e. clash p e; files = λ W p e. clash p e; apart = λ V W p q e. clash p e }
    by false = opening-keeps servers files epochs s

pub was-short : (x : Setup) (schedule : List Event) (images : Devices) (now : Moment) (h : IsWritten x schedule images now)
    → OfLines (WasShort x (record { state = before x schedule h.files h.epochs; devices = images }) now) now.state.lines
was-short x schedule images now run = let end = all-steps x start now start now refl (none start) run.leads opening in end.lines
  where
    start : Moment
    start = record { state = before x schedule run.files run.epochs; devices = images }

    opening : Holds x start now start.state
    opening = record {
      world = record { sent = tt; tables = λ q m e. none-there q m (nat_lt q.0 x.servers) e; asked = λ c. tt; lines = tt };
      tables = refl;
      locks = closed-locks x.servers run.files run.epochs;
      lines = tt;
    }
      where
        none-there : (q : ServerNo) (m : Memory) (b : Bool) → (if b then None else Some (new_memory q (run.epochs q))) ≡ Some m → OfTable (WasShort x start now) m.coordinator.transactions
        none-there q m true e = no-memory m e
        none-there q m false e = subst (λ (z : Memory). OfTable (WasShort x start now) z.coordinator.transactions) (one-memory (new_memory q (run.epochs q)) m e) tt
