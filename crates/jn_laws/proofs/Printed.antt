-- What is printed at each moment of a run.
use Rattle.jn_laws.proofs.Common.{◌≡◌, ◌≢◌, ◌⊎◌, inl, inr, ℕ, ◌≤◌, ◌<◌, Bool, true, false, true≢false, List, [], ◌∷◌, ◌++◌, Option, Some, None, refl, sym, ◌∙◌, ap, subst, arith, ◌||◌, if◌then◌else◌, nat_lt, slice_get, map, option_and_then, ⊤, list_all, AllByRecursion, nat_tests, All-nil, ServerNo, ClientNo, FileNo, BlockNo, Tid, LockUnit, Block, Client, Server, most_blocks, unit_eq, Commit, AllFiles, Event, EventInRange, EpochsUsedUp, Phase, Active, Broken, Stored, Sent, Pick, StableState, stable, WorkerTable, commit_holder, holds, step_calls, unit_in_range, Room, handing, working, run, World, Memory, new_memory, clients_from, go_on, CanBeTaken, CommandInRange, new-fits, scheduled-in-range, Setup, Chance, prints_found, Use, Reads, Deed, room, delivered, delivered_at, is_busy, worked, served, nothing, working_steps, stopped_idle, crashed_at, recovering, recovered, given_up, restarted, brought_up, is_used_up, Devices, IsUsed, IsLookedOver, acted, met, resting, next_event, first_busy, servers_of, asking, settling, coming_up, printing, ending, deed_of, refusal_of, none, more, Moment, DoesStep, Leads, is_too_much, come_to, cut_short, Task, Begins, Meets, Acts, Rests, ComesUp, Dismisses, GoesDown, ClosesClients, CountsCommits, InSchedule, AtEnd, CutShort, Stage, State, next_at, begun, closed_world, AreImages, IsWritten, first-of, second-of, Left, is_unit, Counts, Pages, block_in, block_behind, address_by, head_of, files_of_pages, ClientTable}
use Rattle.std.specs.Prelude.{drop, is_some}
use Rattle.jn_locks.proofs.Orders.{unit_tells}
use Rattle.jn_schedule.specs.declared.Event.TheVariants as events
use Rattle.jn_report.specs.declared.line.EventRefusal.{EventRefusal}
use Rattle.jn_report.specs.declared.line.Text.TheVariants as says
use Rattle.jn_page_state.specs.Pages.{pages_by}
use Rattle.jn_store.specs.Pairs.{pairs_view}
use Rattle.jn_system.specs.WholeSystem.Printing.{print_unit}
use Rattle.jn_laws.specs.Shows.{ArePrintsInRange, ShowsInRange}
use Rattle.jn_machine_refines.proofs.Going.{goes-or-cut, go-world}
use Rattle.jn_laws.proofs.Ranged.{PhaseInRange, WorksInRange, FilesInRange, WorldInRange, StepInRange, run-in-range}

-- ---- tasks

abbrev EventFits : Event → Type 0
EventFits (events.Command c command) = CommandInRange command
EventFits event = ⊤

abbrev TaskFits : Task → Type 0
TaskFits (Begins event) = EventFits event
TaskFits (Meets event) = EventFits event
TaskFits (Acts event) = EventFits event
TaskFits task = ⊤

abbrev TasksFit : List Task → Type 0
TasksFit tasks = AllByRecursion TaskFits tasks

abbrev DeedFits : Deed → Type 0
DeedFits deed = AllByRecursion StepInRange deed.steps × AllByRecursion TaskFits deed.tasks

event-fits : (event : Event) → EventInRange event → EventFits event
event-fits (events.Command c command) r = scheduled-in-range c command r
event-fits event r = tt

all-fit : {A : Type 0} (task : A → Task) → ((a : A) → TaskFits (task a)) → (list : List A) → TasksFit (map task list)
all-fit task fit [] = tt
all-fit task fit (a ∷ list) = (fit a, all-fit task fit list)

both-fit : (tasks others : List Task) → TasksFit tasks → TasksFit others → TasksFit (tasks ++ others)
both-fit [] others h k = k
both-fit (task ∷ tasks) others h k = (h.0, both-fit tasks others h.1 k)

rest-fit : (tasks : List Task) → TasksFit tasks → TasksFit (drop 1 tasks)
rest-fit [] h = tt
rest-fit (task ∷ tasks) h = h.1

module _ (x : Setup) where
  settling-fits : TasksFit (settling x)
  settling-fits = (
    tt,
    both-fit (asking x) (Rests ∷ []) (both-fit (map (λ (c : ClientNo). Acts (events.Again c)) (clients_from 1 8)) (map (λ (q : ServerNo). Acts (events.Nudge q)) (servers_of x))
        (all-fit (λ (c : ClientNo). Acts (events.Again c)) (λ c. tt) (clients_from 1 8)) (all-fit (λ (q : ServerNo). Acts (events.Nudge q)) (λ q. tt) (servers_of x))) (tt, tt),
  )

  ups-fit : TasksFit (coming_up x)
  ups-fit = all-fit ComesUp (λ q. tt) (servers_of x)

  printing-fits : (servers : List ServerNo) → TasksFit (printing servers)
  printing-fits servers = both-fit (map (λ (q : ServerNo). Acts (events.Show q)) servers) (map (λ (q : ServerNo). Acts (events.Scrub q)) servers)
      (all-fit (λ (q : ServerNo). Acts (events.Show q)) (λ q. tt) servers) (all-fit (λ (q : ServerNo). Acts (events.Scrub q)) (λ q. tt) servers)

  ending-fits : TasksFit (ending x)
  ending-fits = (
    tt,
    both-fit _ (CountsCommits ∷ []) (both-fit _ (printing (servers_of x)) (both-fit _ (settling x) (both-fit _ (map ClosesClients (servers_of x))
        (both-fit (map GoesDown (servers_of x)) (coming_up x) (all-fit GoesDown (λ q. tt) (servers_of x)) ups-fit) (all-fit ClosesClients (λ q. tt) (servers_of x))) settling-fits) (printing-fits (servers_of x))) (tt, tt),
  )

  schedule-fits : (schedule : List Event) → AllByRecursion EventInRange schedule → TasksFit (map (λ (e : Event). Begins e) schedule)
  schedule-fits [] r = tt
  schedule-fits (event ∷ schedule) r = (event-fits event r.0, schedule-fits schedule r.1)

  -- ---- what they do

  module _ (h : Chance) where
    handing-fits : (k : ℕ) (r : Room) (stop : Option (Pick → Left)) → StepInRange (handing k r stop)
    handing-fits k r None = tt
    handing-fits k r (Some made) = tt

    working-fits : (q : ServerNo) (r : Room) (stop : Option (Pick → Left)) → StepInRange (working q r stop)
    working-fits q r None = tt
    working-fits q r (Some made) = tt

    delivered-fits : (t : ClientNo → ClientTable) (w : World) (k : ℕ) (o : Option Sent) → DeedFits (delivered h k t w o)
    delivered-fits t w k None = (tt, tt)
    delivered-fits t w k (Some (Client c, message)) = ((tt, tt), tt)
    delivered-fits t w k (Some (Server q, message)) = by (w.memory q)
      where
        by : (o : Option Memory) → DeedFits (delivered_at h k q o)
        by None = ((tt, tt), tt)
        by (Some m) = ((handing-fits k (room h q) h.stop, tt), tt)

    worked-fits : (w : World) (q : ServerNo) → DeedFits (worked h q w)
    worked-fits w q = by (is_busy h.rubbish w q)
      where
        by : (b : Bool) → DeedFits (if b then served q step_calls (working_steps h q) else nothing)
        by true = ((working-fits q (room h q) h.stop, tt), tt)
        by false = (tt, tt)

    stopped-fits : (q : ServerNo) (stop : Option (Pick → Left)) → AllByRecursion StepInRange (stopped_idle q stop)
    stopped-fits q None = tt
    stopped-fits q (Some made) = (tt, tt)

    crashed-fits : (q : ServerNo) (o : Option Memory) → DeedFits (crashed_at q o)
    crashed-fits q None = (tt, tt)
    crashed-fits q (Some m) = ((tt, tt), tt)

    recovering-fits : (q : ServerNo) (stop : Option (Pick → Left)) → AllByRecursion StepInRange (recovering h q stop)
    recovering-fits q None = (tt, tt)
    recovering-fits q (Some made) = (tt, (tt, tt))

    restarted-fits : (q : ServerNo) (w : World) → DeedFits (restarted h q w)
    restarted-fits q w = by (is_used_up h q w)
      where
        by : (b : Bool) → DeedFits (if b then record (given_up h q) { texts = says.RefusedEvent EpochsUsedUp ∷ [] } else recovered h q)
        by true = ((tt, tt), tt)
        by false = (recovering-fits q h.stop, tt)

    brought-fits : (q : ServerNo) (w : World) → DeedFits (brought_up h q w)
    brought-fits q w = by (is_used_up h q w)
      where
        by : (b : Bool) → DeedFits (if b then record (given_up h q) { cuts = true } else recovered h q)
        by true = ((tt, tt), tt)
        by false = (recovering-fits q h.stop, tt)

    acted-fits : (event : Event) (t : ClientNo → ClientTable) (w : World) → EventFits event → DeedFits (acted x h event t w)
    acted-fits (events.Command c command) t w r = ((r, tt), tt)
    acted-fits (events.Call c s call) t w r = (tt, tt)
    acted-fits (events.Again c) t w r = ((tt, tt), tt)
    acted-fits (events.Deliver k) t w r = delivered-fits t w k (slice_get w.sent k)
    acted-fits events.Settle t w r = (tt, settling-fits)
    acted-fits (events.Step q) t w r = worked-fits w q
    acted-fits (events.Nudge q) t w r = ((tt, tt), tt)
    acted-fits (events.Timeout q T) t w r = ((tt, tt), tt)
    acted-fits (events.Scrub q) t w r = (stopped-fits q h.stop, tt)
    acted-fits (events.Decay q p) t w r = (tt, tt)
    acted-fits (events.Revive q p) t w r = (tt, tt)
    acted-fits (events.Arm q n kind) t w r = (tt, tt)
    acted-fits (events.Crash q) t w r = crashed-fits q (w.memory q)
    acted-fits (events.Restart q) t w r = restarted-fits q w
    acted-fits (events.Show q) t w r = (stopped-fits q h.stop, tt)

    met-fits : (event : Event) (t : ClientNo → ClientTable) (w : World) (o : Option EventRefusal) → EventFits event → DeedFits (met x h event t w o)
    met-fits event t w (Some refusal) r = (tt, tt)
    met-fits event t w None r = acted-fits event t w r

    rests-fits : (t : ClientNo → ClientTable) (w : World) (waiting : List ℕ) (busy : Option ServerNo) → DeedFits (resting x h t w (next_event waiting busy))
    rests-fits t w (k ∷ waiting) busy = ((acted-fits (events.Deliver k) t w tt).0, (tt, tt))
    rests-fits t w [] (Some q) = ((acted-fits (events.Step q) t w tt).0, (tt, tt))
    rests-fits t w [] None = (tt, tt)

    deed-fits : (task : Task) (s : State) → TaskFits task → DeedFits (deed_of x h task s)
    deed-fits (Begins event) s r = ((tt, tt), (r, tt))
    deed-fits (Meets event) s r = met-fits event s.clients s.course.world (refusal_of x s.course.world event) r
    deed-fits (Acts event) s r = acted-fits event s.clients s.course.world r
    deed-fits Rests s r = rests-fits s.clients s.course.world s.course.waiting (first_busy h.rubbish s.course.world (servers_of x))
    deed-fits (ComesUp q) s r = brought-fits q s.course.world
    deed-fits Dismisses s r = ((tt, tt), tt)
    deed-fits (GoesDown q) s r = crashed-fits q (s.course.world.memory q)
    deed-fits (ClosesClients q) s r = ((tt, tt), tt)
    deed-fits CountsCommits s r = (tt, tt)

-- ---- a run

-- the world is in range, and so is what is left to do
record StandsInRange (s : State) : Type 0 where
  world : WorldInRange s.course.world
  tasks : TasksFit s.tasks

begun-in-range : (task : Task) (s : State) → StandsInRange s → StandsInRange (begun task s)
begun-in-range Dismisses s h = record { world = h.world; tasks = rest-fit s.tasks h.tasks }
begun-in-range task s h = record { world = h.world; tasks = rest-fit s.tasks h.tasks }

next-fits : (stage : Stage) (tasks : List Task) (task : Task) → TasksFit tasks → next_at stage tasks ≡ Some task → TaskFits task
next-fits CutShort tasks task h e = absurd (cc e)
next-fits stage [] task h e = absurd (none-first stage e)
  where
    none-first : (stage : Stage) → next_at stage [] ≡ Some task → ⊥
    none-first InSchedule z = cc
    none-first AtEnd z = cc
    none-first CutShort z = cc
next-fits stage (t ∷ ts) task h e = subst TaskFits (same stage e) h.0
  where
    same : (stage : Stage) → next_at stage (t ∷ ts) ≡ Some task → t ≡ task
    same InSchedule z = cc
    same AtEnd z = cc
    same CutShort z = absurd (cc z)

module _ (x : Setup) (few : x.servers ≤ 8) where
  step-in-range : (a b : Moment) → DoesStep x a b → StandsInRange a.state → StandsInRange b.state
  step-in-range a b d h = by (goes-or-cut x d.chance deed (begun d.task a.state) b.state d.state_is)
    where
      deed : Deed
      deed = deed_of x d.chance d.task a.state

      fits : DeedFits deed
      fits = deed-fits x d.chance d.task a.state (next-fits a.state.stage a.state.tasks d.task h.tasks d.task_is)

      s : StandsInRange (begun d.task a.state)
      s = begun-in-range d.task a.state h

      by : ((b.state ≡ cut_short (begun d.task a.state)) × (is_too_much deed (go_on deed.steps (begun d.task a.state).course) ≡ true))
          ⊎ ((b.state ≡ come_to x d.chance deed (go_on deed.steps (begun d.task a.state).course) (begun d.task a.state)) × (is_too_much deed (go_on deed.steps (begun d.task a.state).course) ≡ false)) → StandsInRange b.state
      by (inl k) = subst StandsInRange (sym k.0) (record { world = s.world; tasks = s.tasks })
      by (inr k) = subst StandsInRange (sym k.0) (record {
        world = subst WorldInRange (sym (go-world deed.steps (begun d.task a.state).course)) (run-in-range deed.steps (begun d.task a.state).course.world fits.0 s.world);
        tasks = both-fit deed.tasks (begun d.task a.state).tasks fits.1 s.tasks;
      })

  leads-in-range : (a b : Moment) → Leads x a b → StandsInRange a.state → StandsInRange b.state
  leads-in-range a b (none m) h = h
  leads-in-range a b (more u v t d rest) h = leads-in-range v t rest (step-in-range u v d h)

  -- ---- where it begins

  -- no page has more blocks
  on-pages : (g : Counts) (pages : Pages) → FilesInRange (files_of_pages g pages)
  on-pages g pages f p past = by (head_of g pages f)
    where
      by : (o : Option (List ℕ)) → option_and_then (block_in g pages p) o ≡ None
      by None = refl
      by (Some head) = ap (λ (b : Bool). if b then block_behind g pages (address_by g pages head p.0) else None) past

  closed-in-range : (files : AllFiles) (epochs : ServerNo → ℕ) (images : Devices) → AreImages x files epochs images → WorldInRange (closed_world x.servers files epochs)
  closed-in-range files epochs images are = record {
    sent = All-nil (λ (sent : Sent). CanBeTaken sent.1);
    clients = λ c. new-fits c x.servers few;
    memory = λ q m e. is-new q m (nat_lt q.0 x.servers) e;
    found = λ q c. record { files = λ f p past. stored q f p past (nat_lt q.0 x.servers) refl; works = λ W p e. absurd (cc e) };
  }
    where
      some : (a b : Memory) → Some a ≡ Some b → a ≡ b
      some a b e = cc

      is-new : (q : ServerNo) (m : Memory) (b : Bool) → (if b then None else Some (new_memory q (epochs q))) ≡ Some m → WorksInRange m.worker
      is-new q m true e = absurd (cc e)
      is-new q m false e = subst (λ (z : Memory). WorksInRange z.worker) (some (new_memory q (epochs q)) m e) tt

      no_pick : Pick
      no_pick n = false

      stored : (q : ServerNo) (f : FileNo) (p : BlockNo) → nat_lt p.0 most_blocks ≡ false → (b : Bool) → nat_lt q.0 x.servers ≡ b → files q (Block f p) ≡ None
      stored q f p past true e = let lt : q.0 < x.servers = grind (arith, nat_tests, e) in
          ap (λ (y : StableState). y.files (Block f p)) (are.found q no_pick lt) ∙ on-pages (x.counts q) (pages_by (pairs_view (images q)) no_pick) f p past
      stored q f p past false e = let far : x.servers ≤ q.0 = grind (arith, nat_tests, e) in are.its q (Block f p) far

  pub world-in-range : (schedule : List Event) (images : Devices) (m : Moment) → AllByRecursion EventInRange schedule → IsWritten x schedule images m → WorldInRange m.state.course.world
  world-in-range schedule images m ranges w = (leads-in-range _ m w.leads (record {
    world = closed-in-range w.files w.epochs images w.are_images;
    tasks = both-fit _ (ending x) (both-fit (coming_up x) (map (λ (e : Event). Begins e) schedule) (ups-fit x) (schedule-fits x schedule ranges)) (ending-fits x);
  })).world

-- ---- what is printed

-- what is out of range isn't among what is in range
not-among : (units : List LockUnit) (u : LockUnit) → list_all unit_in_range units ≡ true → unit_in_range u ≡ false → is_unit units u ≡ false
not-among [] u h out = refl
not-among (v ∷ units) u h out = by (unit_tells v u) (not-among units u (second-of (unit_in_range v) (list_all unit_in_range units) h) out)
  where
    neither : (a b : Bool) → a ≡ false → b ≡ false → (a || b) ≡ false
    neither a b z k = grind arith

    by : ((unit_eq v u ≡ true) × (v ≡ u)) ⊎ ((unit_eq v u ≡ false) × (v ≢ u)) → is_unit units u ≡ false → (unit_eq v u || is_unit units u) ≡ false
    by (inl s) again = absurd (true≢false (sym (first-of (unit_in_range v) (list_all unit_in_range units) h) ∙ ap unit_in_range s.1 ∙ out))
    by (inr s) again = neither (unit_eq v u) (is_unit units u) s.0 again

none-holds : (t : WorkerTable) (u : LockUnit) → WorksInRange t → unit_in_range u ≡ false → commit_holder u t ≡ None
none-holds [] u h out = refl
none-holds (w ∷ ws) u h out = by (holds w.phase u Commit) (free w.phase h.0) (none-holds ws u h.1 out)
  where
    free : (phase : Phase) → PhaseInRange phase → holds phase u Commit ≡ false
    free (Active a) k = refl
    free (Broken v by) k = refl
    free (Stored q) k = not-among q.writes u k out

    by : (b : Bool) → b ≡ false → commit_holder u ws ≡ None → (if b then Some w.tid else commit_holder u ws) ≡ None
    by true k again = absurd (true≢false k)
    by false k again = again

pub prints-in-range : (w : World) → WorldInRange w → ArePrintsInRange w
prints-in-range w h q memory up f b there = by (nat_lt b.0 most_blocks) refl
  where
    by : (c : Bool) → nat_lt b.0 most_blocks ≡ c → b.0 < most_blocks
    by true e = grind (arith, nat_tests, e)
    by false e = absurd (true≢false (sym there ∙ ap is_some
        (ap (λ (o : Option Tid). print_unit (Block f b) o ((stable (w.found q)).files (Block f b))) (none-holds memory.worker (Block f b) (h.memory q memory up) e)
        ∙ ap (print_unit (Block f b) None) ((h.found q (λ n. false)).files f b e))))

-- ---- a show

module _ (x : Setup) (schedule : List Event) (images : Devices) (m n : Moment) (few : x.servers ≤ 8) (ranges : AllByRecursion EventInRange schedule) (written : IsWritten x schedule images m) (d : DoesStep x m n) (q : ServerNo) where
  abbrev w : World
  w = m.state.course.world

  abbrev deed : Deed
  deed = deed_of x d.chance d.task m.state

  looked-over : deed.device ≡ Reads q → IsLookedOver (x.counts q) d.chance m.state.course.world q (m.devices q) (n.devices q)
  looked-over reads = (subst (λ (does_so : Use). IsUsed x d.chance does_so m.state.course.world (run deed.steps m.state.course.world) m.devices n.devices) reads d.befalls.used).its

  pub shows-in-range : deed.device ≡ Reads q → d.chance.stop ≡ None → ShowsInRange m.state.course.world q (prints_found d.chance.found)
  shows-in-range reads whole = let look = looked-over reads in record {
    memory = look.memory;
    up = look.up;
    are = look.prints whole;
    below = prints-in-range w (world-in-range x few schedule images m ranges written) q look.memory look.up;
  }
