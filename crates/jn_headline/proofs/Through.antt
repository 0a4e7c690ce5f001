-- An end from its beginning to its last line.
use Rattle.jn_headline.proofs.Common.{◌≡◌, ◌⊎◌, inl, inr, ℕ, zero, suc, ◌+◌, ◌<◌, ◌≤◌, true, List, [], ◌∷◌, ◌++◌, append_assoc, length, Some, None, refl, sym, ◌∙◌, ap, arith, map, slice_get, list_all, AllByRecursion, ServerNo, ClientNo, Tid, Server, Message, Text, Line, history_of, plain, history-plain, same-of, servers_from, Step, Again, Nudge, Crash, CloseClients, run, IsRun, Course, go_on, clients_from, ComeToRest, Comeback, restarts_from, settles, told_by_steps, at_end, counted, Setup, Task, Acts, Rests, ComesUp, GoesDown, ClosesClients, CountsCommits, AtEnd, Stage, State, next_at, Deed, tells, servers_of, settling, coming_up, printing, counting, is_up, none, more, Moment, Leads, behind, ArePrinted, texts_from, Printed}
use Rattle.jn_schedule.specs.declared.Event.TheVariants as events
use Rattle.jn_report.specs.declared.line.Text.TheVariants.{Commits}
use Rattle.jn_headline.proofs.Texts.{at-end-append}
use Rattle.jn_headline.proofs.Came.{Came, drop-all, lines-then, tasks-then}
use Rattle.jn_headline.proofs.Parts.{Part, Onward, same-event, drive, MakesOne, many}
use Rattle.jn_headline.proofs.Tasks.{goes-down, closes, asks-client, asks-server, come-up}
use Rattle.jn_headline.proofs.Resting.{rests}
use Rattle.jn_headline.proofs.Showing.{show-all, scrub-all}

pub then : {P A B : Type 0} → P ⊎ A → (A → P ⊎ B) → P ⊎ B
then (inl p) f = inl p
then (inr a) f = f a

-- ---- the steps before and after the first rest

abbrev pub clients : List ClientNo
clients = clients_from 1 8

abbrev pub opening_steps : ℕ → List Comeback → List Step
opening_steps servers backs = map (λ (s : ServerNo). Crash s) (servers_from 0 servers) ++ restarts_from 0 backs ++ map (λ (s : ServerNo). CloseClients s) (servers_from 0 servers)

abbrev pub asked_steps : ℕ → List Comeback → List Step → List Step
asked_steps servers backs one = opening_steps servers backs ++ one ++ map (λ (c : ClientNo). Again c) clients ++ map (λ (s : ServerNo). Nudge s) (servers_from 0 servers)

-- all of an end was done
pub record Whole (servers : ℕ) (start : Course) (before : List Line) (now : Moment) : Type 0 where
  pub backs : List Comeback
  pub back_count : length backs ≡ servers
  pub one : List Step
  pub two : List Step
  pub one_settles : list_all settles one ≡ true
  pub two_settles : list_all settles two ≡ true
  pub first : ComeToRest (servers_from 0 servers) one (go_on (opening_steps servers backs) start)
  pub second : ComeToRest (servers_from 0 servers) two (go_on (asked_steps servers backs one) start)
  pub is_run : IsRun (asked_steps servers backs one ++ two) start.world
  pub prints : List (List Printed)
  pub print_count : length prints ≡ servers
  pub are_printed : ArePrinted 0 (go_on (asked_steps servers backs one ++ two) start).world prints
  pub ups : List Text
  pub are_up : list_all is_up ups ≡ true
  pub world : now.state.course.world ≡ behind ups (go_on (asked_steps servers backs one ++ two) start).world
  pub stage : now.state.stage ≡ AtEnd
  pub tasks : now.state.tasks ≡ []
  pub event : now.state.course.world.event ≡ start.world.event
  pub lines : plain now.state.lines ≡ plain (counted (before ++ at_end (told_by_steps (asked_steps servers backs one ++ two) start.world ++ texts_from 0 prints)))

-- ---- the tasks, one list after another

module _ (x : Setup) where
  abbrev every : List ServerNo
  every = servers_from 0 x.servers

  abbrev late : List Task
  late = map (λ (q : ServerNo). Acts (events.Show q)) (servers_from 0 x.servers) ++ (map (λ (q : ServerNo). Acts (events.Scrub q)) (servers_from 0 x.servers) ++ (CountsCommits ∷ []))

  abbrev settled : List Task
  settled = Rests ∷ (map (λ (c : ClientNo). Acts (events.Again c)) clients ++ (map (λ (q : ServerNo). Acts (events.Nudge q)) (servers_from 0 x.servers) ++ (Rests ∷ late)))

  abbrev pub in_turn : List Task
  in_turn = map GoesDown (servers_from 0 x.servers) ++ (map ComesUp (servers_from 0 x.servers) ++ (map ClosesClients (servers_from 0 x.servers) ++ settled))

  joins : (d u c s p l : List Task) → d ++ u ++ c ++ s ++ p ++ l ≡ d ++ (u ++ (c ++ (s ++ (p ++ l))))
  joins d u c s p l = append_assoc (d ++ u ++ c ++ s) p l ∙ append_assoc (d ++ u ++ c) s (p ++ l) ∙ append_assoc (d ++ u) c (s ++ (p ++ l)) ∙ append_assoc d u (c ++ (s ++ (p ++ l)))

  settle-joins : (a n l : List Task) → (Rests ∷ (a ++ n ++ Rests ∷ [])) ++ l ≡ Rests ∷ (a ++ (n ++ (Rests ∷ l)))
  settle-joins a n l = ap (λ (ts : List Task). Rests ∷ ts) (append_assoc (a ++ n) (Rests ∷ []) l ∙ append_assoc a n (Rests ∷ l))

  pub ending-in-turn : map GoesDown (servers_of x) ++ coming_up x ++ map ClosesClients (servers_of x) ++ settling x ++ printing (servers_of x) ++ CountsCommits ∷ [] ≡ in_turn
  ending-in-turn = joins (map GoesDown every) (coming_up x) (map ClosesClients every) (settling x) (printing every) (CountsCommits ∷ [])
      ∙ ap (λ (ts : List Task). map GoesDown every ++ (map ComesUp every ++ (map ClosesClients every ++ (settling x ++ ts)))) (append_assoc (map (λ (q : ServerNo). Acts (events.Show q)) every) (map (λ (q : ServerNo). Acts (events.Scrub q)) every) (CountsCommits ∷ []))
      ∙ ap (λ (ts : List Task). map GoesDown every ++ (map ComesUp every ++ (map ClosesClients every ++ ts))) (settle-joins (map (λ (c : ClientNo). Acts (events.Again c)) clients) (map (λ (q : ServerNo). Acts (events.Nudge q)) every) late)

-- each of them, where each server below the count has it
each-server : (P : ServerNo → Type 0) (servers count first : ℕ) → first + count ≤ servers → ((q : ServerNo) → q.0 < servers → P q) → AllByRecursion P (servers_from first count)
each-server P servers zero first within h = tt
each-server P servers (suc count) first within h = (h (record { 0 = first }) (below first count servers within), each-server P servers count (first + 1) (shift first count servers within) h)
  where
    below : (a c n : ℕ) → a + suc c ≤ n → a < n
    below a c n z = omega (arith, z)

    shift : (a c n : ℕ) → a + suc c ≤ n → a + 1 + c ≤ n
    shift a c n z = omega (arith, z)

each-client : (P : ClientNo → Type 0) (cs : List ClientNo) → ((c : ClientNo) → P c) → AllByRecursion P cs
each-client P [] h = tt
each-client P (c ∷ cs) h = (h c, each-client P cs h)

-- ---- the last line

pub record Counted (ups : List Text) (start : Course) (before : List Line) (now : Moment) (steps : List Step) (printed : List Text) : Type 0 where
  pub stage : now.state.stage ≡ AtEnd
  pub tasks : now.state.tasks ≡ []
  pub event : now.state.course.world.event ≡ start.world.event
  pub world : now.state.course.world ≡ behind ups (go_on steps start).world
  pub lines : plain now.state.lines ≡ plain (counted (before ++ at_end (told_by_steps steps start.world ++ printed)))

-- a run at its end that has nothing left to do
ended : (x : Setup) (n last : Moment) → Leads x n last → n.state.tasks ≡ [] → n.state.stage ≡ AtEnd → last ≡ n
ended x n last (none a) t s = refl
ended x n last (more u v z d rest) t s = absurd (never (sym (ap (λ (k : Stage). next_at k u.state.tasks) s ∙ ap (next_at AtEnd) t) ∙ d.task_is))
  where
    never : {task : Task} → None ≡ Some task → ⊥
    never k = cc

module _ (x : Setup) (ups : List Text) (are_up : list_all is_up ups ≡ true) (start : Course) (before : List Line) where
  counts : (m now : Moment) (steps : List Step) (printed : List Text) → Came x ups start before m steps printed → m.state.tasks ≡ CountsCommits ∷ [] → Leads x m now → Part start before now ⊎ Counted ups start before now steps printed
  counts m now steps printed came tasks leads = then (drive x ups start before m now leads steps printed came CountsCommits [] (λ s. refl) tasks) (λ on. inr (at on))
    where
      told : List Line
      told = before ++ at_end (told_by_steps steps start.world ++ printed)

      deed : Deed
      deed = tells (counting m.state.lines)

      at : Onward x m now CountsCommits [] → Counted ups start before now steps printed
      at on = record {
        stage = ap (λ (z : Moment). z.state.stage) now-is ∙ stage;
        tasks = ap (λ (z : Moment). z.state.tasks) now-is ∙ none-left;
        event = ap (λ (z : Moment). z.state.course.world.event) now-is ∙ ap (λ (s : State). s.course.world.event) on.makes.state_is ∙ same-event x ups start before m steps printed came;
        world = ap (λ (z : Moment). z.state.course.world) now-is ∙ ap (λ (s : State). s.course.world) on.makes.state_is ∙ came.goes.world;
        lines = ap (λ (z : Moment). plain z.state.lines) now-is
            ∙ lines-then x ups are_up start before m on.moment on.makes.chance deed [] on.makes.state_is refl on.tables steps printed came (counting m.state.lines) refl (ap (λ (ts : List Text). ts ++ counting m.state.lines) (drop-all m.state.course.world.lines))
            ∙ ap plain (ap (λ (ls : List Line). before ++ ls) (at-end-append (told_by_steps steps start.world ++ printed) (counting m.state.lines)) ∙ sym (append_assoc before (at_end (told_by_steps steps start.world ++ printed)) (at_end (counting m.state.lines))))
            ∙ ap (λ (Ts : List Tid). plain (told ++ at_end (Commits (length Ts) ∷ []))) (same-of history_of history-plain m.state.lines told came.lines);
      }
        where
          none-left : on.moment.state.tasks ≡ []
          none-left = tasks-then x ups are_up start before m on.moment on.makes.chance deed [] on.makes.state_is refl on.tables steps printed came

          stage : on.moment.state.stage ≡ AtEnd
          stage = ap (λ (s : State). s.stage) on.makes.state_is ∙ came.stage

          now-is : now ≡ on.moment
          now-is = ended x on.moment now on.leads none-left stage

  -- ---- from the beginning to the last line

  module _ (near : (steps : List Step) (k : ℕ) (q : ServerNo) (message : Message) → slice_get (run steps start.world).sent k ≡ Some (Server q, message) → q.0 < x.servers) where
    all-of : (n : ℕ) → 0 + n ≤ n
    all-of n = omega arith

    pub through : (m now : Moment) → Came x ups start before m [] [] → m.state.tasks ≡ in_turn x → Leads x m now → Part start before now ⊎ Whole x.servers start before now
    through m now came tasks leads =
        then (many x ups start before GoesDown (λ (s : ServerNo). Crash s) all (each-server (λ q. MakesOne x ups start before (GoesDown q) (Crash q)) x.servers x.servers 0 (all-of x.servers) (goes-down x ups are_up start before)) m now [] (map ComesUp all ++ (map ClosesClients all ++ settled x)) came tasks leads)
        (λ down. then (come-up x ups are_up start before x.servers 0 (all-of x.servers) down.moment now crashes (map ClosesClients all ++ settled x) down.came down.tasks down.leads)
        (λ up. then (many x ups start before ClosesClients (λ (s : ServerNo). CloseClients s) all (each-server (λ q. MakesOne x ups start before (ClosesClients q) (CloseClients q)) x.servers x.servers 0 (all-of x.servers) (closes x ups are_up start before)) up.past.moment now (crashes ++ restarts_from 0 up.backs) (settled x) up.past.came up.past.tasks up.past.leads)
        (λ closed. then (rests x ups are_up start before near closed.moment now closed.leads (opening_steps x.servers up.backs) closed.came (asks ++ (nudges ++ (Rests ∷ late x))) closed.tasks)
        (λ first. then (many x ups start before (λ (c : ClientNo). Acts (events.Again c)) (λ (c : ClientNo). Again c) clients (each-client (λ c. MakesOne x ups start before (Acts (events.Again c)) (Again c)) clients (asks-client x ups are_up start before)) first.past.moment now (opening_steps x.servers up.backs ++ first.these) (nudges ++ (Rests ∷ late x)) first.past.came first.past.tasks first.past.leads)
        (λ again. then (many x ups start before (λ (q : ServerNo). Acts (events.Nudge q)) (λ (s : ServerNo). Nudge s) all (each-server (λ q. MakesOne x ups start before (Acts (events.Nudge q)) (Nudge q)) x.servers x.servers 0 (all-of x.servers) (λ q l. asks-server x ups are_up start before q)) again.moment now (opening_steps x.servers up.backs ++ first.these ++ map (λ (c : ClientNo). Again c) clients) (Rests ∷ late x) again.came again.tasks again.leads)
        (λ nudged. then (rests x ups are_up start before near nudged.moment now nudged.leads (asked_steps x.servers up.backs first.these) nudged.came (late x) nudged.tasks)
        (λ second. then (show-all x ups are_up start before (asked_steps x.servers up.backs first.these ++ second.these) x.servers 0 (all-of x.servers) second.past.moment now [] (scrubs ++ (CountsCommits ∷ [])) second.past.came second.past.tasks second.past.leads)
        (λ shown. then (scrub-all x ups are_up start before (asked_steps x.servers up.backs first.these ++ second.these) x.servers 0 (all-of x.servers) shown.past.moment now (texts_from 0 shown.prints) (CountsCommits ∷ []) shown.past.came shown.past.tasks shown.past.leads)
        (λ scrubbed. then (counts scrubbed.moment now (asked_steps x.servers up.backs first.these ++ second.these) (texts_from 0 shown.prints) scrubbed.came scrubbed.tasks scrubbed.leads)
        (λ counted. inr (record {
          backs = up.backs;
          back_count = up.count_is;
          one = first.these;
          two = second.these;
          one_settles = first.settle;
          two_settles = second.settle;
          first = first.comes;
          second = second.comes;
          is_run = second.past.came.is_run;
          prints = shown.prints;
          print_count = shown.count_is;
          are_printed = shown.are_printed;
          ups = ups;
          are_up = are_up;
          world = counted.world;
          stage = counted.stage;
          tasks = counted.tasks;
          event = counted.event;
          lines = counted.lines;
        })))))))))))
      where
        all : List ServerNo
        all = servers_from 0 x.servers

        crashes : List Step
        crashes = map (λ (s : ServerNo). Crash s) (servers_from 0 x.servers)

        asks : List Task
        asks = map (λ (c : ClientNo). Acts (events.Again c)) clients

        nudges : List Task
        nudges = map (λ (q : ServerNo). Acts (events.Nudge q)) (servers_from 0 x.servers)

        scrubs : List Task
        scrubs = map (λ (q : ServerNo). Acts (events.Scrub q)) (servers_from 0 x.servers)
