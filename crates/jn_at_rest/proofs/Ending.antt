-- The end of a whole run settles: all servers are up in it.
use Rattle.jn_at_rest.proofs.Common.{refl, is_some, true≢false, AllByRecursion, list_all, ◌≡◌, ◌⊎◌, inl, inr, ◌≤◌, true, List, [], ◌∷◌, ◌++◌, map, Option, Some, None, sym, ◌∙◌, ap, ServerNo, Event, Pick, World, Memory, Course, go_on, AreUp, on-world, Setup, Chance, Task, Acts, CountsCommits, Stage, State, begun, next_at, Devices, deed_of, servers_of, printing, none, more, Moment, DoesStep, Leads, GoesOn, IsCut, does, Line, stopped_idle, InSchedule, AtEnd, CutShort, before, IsWhole, SettlesAtEnd, Left}
use Rattle.jn_schedule.specs.declared.Event.TheVariants as events
use Rattle.jn_schedule.specs.Ranges.{EventInRange}
use Rattle.jn_between.proofs.Ended.{at-the-end}
use Rattle.jn_at_rest.proofs.Going.{starts_none, down-run}
use Rattle.jn_at_rest.proofs.Each.{settle-each}

-- the tasks behind the settle of the end
data InEnd : Task → Type 0 where
  a_show : (q : ServerNo) → InEnd (Acts (events.Show q))
  a_scrub : (q : ServerNo) → InEnd (Acts (events.Scrub q))
  a_count : InEnd CountsCommits

abbrev AllInEnd : List Task → Type 0
AllInEnd [] = Unit {0}
AllInEnd (t ∷ ts) = InEnd t × AllInEnd ts

both-in : (ts us : List Task) → AllInEnd ts → AllInEnd us → AllInEnd (ts ++ us)
both-in [] us h k = k
both-in (t ∷ ts) us h k = (h.0, both-in ts us h.1 k)

shows-in : (servers : List ServerNo) → AllInEnd (map (λ (q : ServerNo). Acts (events.Show q)) servers)
shows-in [] = tt
shows-in (q ∷ servers) = (a_show q, shows-in servers)

scrubs-in : (servers : List ServerNo) → AllInEnd (map (λ (q : ServerNo). Acts (events.Scrub q)) servers)
scrubs-in [] = tt
scrubs-in (q ∷ servers) = (a_scrub q, scrubs-in servers)

prints-in : (servers : List ServerNo) → AllInEnd (printing servers ++ CountsCommits ∷ [])
prints-in servers = both-in (printing servers) (CountsCommits ∷ []) (both-in (map (λ (q : ServerNo). Acts (events.Show q)) servers) (map (λ (q : ServerNo). Acts (events.Scrub q)) servers) (shows-in servers) (scrubs-in servers)) (a_count, tt)

module _ (x : Setup) where
  idle-starts : (q : ServerNo) (stop : Option (Pick → Left)) → list_all starts_none (stopped_idle q stop) ≡ true
  idle-starts q None = refl
  idle-starts q (Some made) = refl

  starts : (h : Chance) (t : Task) (s : State) → InEnd t → list_all starts_none (deed_of x h t s).steps ≡ true
  starts h t s (a_show q) = idle-starts q h.stop
  starts h t s (a_scrub q) = idle-starts q h.stop
  starts h t s a_count = refl

  leaves-none : (h : Chance) (t : Task) (s : State) → InEnd t → (deed_of x h t s).tasks ≡ []
  leaves-none h t s (a_show q) = refl
  leaves-none h t s (a_scrub q) = refl
  leaves-none h t s a_count = refl

  begun-same : (t : Task) (s : State) → InEnd t → (begun t s).course ≡ s.course
  begun-same t s (a_show q) = refl
  begun-same t s (a_scrub q) = refl
  begun-same t s a_count = refl

  record Keeps (rest : List Task) (m c : Moment) : Type 0 where
    tasks : c.state.tasks ≡ rest
    down : (q : ServerNo) → m.state.course.world.memory q ≡ None → c.state.course.world.memory q ≡ None

  keeps : (t : Task) (rest : List Task) (m c : Moment) → DoesStep x m c → m.state.tasks ≡ t ∷ rest → InEnd t → Keeps rest m c
  keeps t rest m c d is one = by (does x t rest m c d is)
    where
      by : GoesOn x d.chance t rest m c ⊎ IsCut t rest m c → Keeps rest m c
      by (inl g) = record {
        tasks = g.tasks ∙ ap (λ (ts : List Task). ts ++ rest) (leaves-none d.chance t m.state one);
        down = λ q e. ap (λ (k : Course). k.world.memory q) (g.course ∙ ap (go_on (deed_of x d.chance t m.state).steps) (begun-same t m.state one))
            ∙ ap (λ (v : World). v.memory q) (on-world (deed_of x d.chance t m.state).steps m.state.course) ∙ down-run q (deed_of x d.chance t m.state).steps m.state.course.world (starts d.chance t m.state one) e;
      }
      by (inr k) = record { tasks = k.tasks; down = λ q e. ap (λ (j : Course). j.world.memory q) (k.course ∙ begun-same t m.state one) ∙ e }

  none-next : (stage : Stage) (t : Task) → next_at stage [] ≡ Some t → ⊥
  none-next InSchedule t e = cc
  none-next AtEnd t e = cc
  none-next CutShort t e = cc

  up-from : (tasks : List Task) (m e : Moment) → m.state.tasks ≡ tasks → AllInEnd tasks → Leads x m e → AreUp x.servers e.state.course.world → AreUp x.servers m.state.course.world
  up-from tasks m e is all (none a) up = up
  up-from [] m e is all (more u c v d leads) up = absurd (none-next u.state.stage d.task (ap (next_at u.state.stage) (sym is) ∙ d.task_is))
  up-from (t ∷ rest) m e is all (more u c v d leads) up = let one = keeps t rest m c d is all.0 in by one (up-from rest c e one.tasks all.1 leads up)
    where
      by : Keeps rest m c → AreUp x.servers c.state.course.world → AreUp x.servers m.state.course.world
      by one now s below = at (m.state.course.world.memory s) refl
        where
          at : (o : Option Memory) → m.state.course.world.memory s ≡ o → is_some o ≡ true
          at (Some memory) z = refl
          at None z = absurd (true≢false (sym (now s below) ∙ ap is_some (one.down s z)))

pub settles-at-end : (x : Setup) (schedule : List Event) (images closing : Devices) (lines : List Line) (few : x.servers ≤ 8) → AllByRecursion EventInRange schedule → (run : IsWhole x schedule images closing lines)
    → SettlesAtEnd x (record { state = before x schedule run.written.files run.written.epochs; devices = images }) run.last
settles-at-end x schedule images closing lines few range run = let each = settle-each x schedule images closing lines few run in let end = at-the-end x schedule images run.last few range run.written run.stage run.tasks in record {
  has = each.of_end;
  settled = each.of_end.settles (up-from x (printing (servers_of x) ++ CountsCommits ∷ []) each.of_end.last run.last each.of_end.comes.ends (prints-in (servers_of x)) each.of_end.goes_on end.up);
}
