-- What holds at each moment, and between two events.
use Rattle.jn_between.proofs.Common.{◌≡◌, ◌⊎◌, inl, inr, ◌≤◌, ◌<◌, ℕ, ◌+◌, Bool, true, false, List, [], ◌∷◌, ◌++◌, append-nil, length, map, drop, Some, refl, sym, ◌∙◌, ap, subst, arith, ◌&&◌, list_all, AllByRecursion, ServerNo, AllFiles, Event, EventInRange, Line, history_of, replay_operations, StableState, Pick, plain, history-aside, replay-aside, World, opening, Step, NextEvent, IsRun, run, after, Item, events_of, steps_of, world_of, lines_of, IsReported, AreAsTold, Setup, Task, Begins, Dismisses, InSchedule, AtEnd, CutShort, Stage, State, begun, first_of_tasks, Devices, AreFound, ending, dismissing, none, more, Moment, Leads, is_too_much, come_to, cut_short, before, IsWritten, go_on, behind, IsAsIn, IsToldBy, IsRetold, IsRetoldInPart, ups-name-none, run-behind, as-behind, Between, between, meeting, settling, cut, ended, between-part, meeting-part, amid-part, Next, does-next, goes-or-cut, run-both, is-run-both, part-so-far, run-so-far, IsConsistent, state_on, files_told, AreOnPages, IsTrueBetween, replay, replay_is_of_operations, no-calls}
use Rattle.jn_machine.proofs.Clients.{HasTables}
use Rattle.std.proofs.lemmas.List.{length-map}
use Rattle.jn_system_reports.proofs.Telling.Reports.{run-as-told}
use Rattle.jn_system_reports.proofs.BetweenSteps.Standing.{Standing, stand}
use Rattle.jn_system_reports.proofs.BetweenSteps.Laws.{up-fact, made-once, doubt, told-after, answers-stand, works-stay}
use Rattle.jn_system_reports.proofs.BetweenSteps.Dropping.{dropped}
use Rattle.jn_system_reports.proofs.BetweenSteps.Passing.{reached, unknown}
use Rattle.jn_system_reports.proofs.BetweenSteps.Lined.{run-lines-stand}
use Rattle.jn_headline.proofs.CutReports.Cut.{run-true}
use Rattle.jn_machine_refines.proofs.Besides.{is_settling}
use Rattle.jn_machine_refines.proofs.Partly.{raised}
use Rattle.jn_machine_refines.proofs.Seen.{may-run}
use Rattle.jn_machine_refines.proofs.Starting.{start-part}
use Rattle.jn_machine_refines.proofs.Whole.{So, starting, held, so-written}
use Rattle.jn_headline.specs.Headline.{IsTrueOfBegun}
use Rattle.jn_headline.proofs.Numbered.{items-begin}
use Rattle.jn_headline.proofs.SoFar.{true-aside}
use Rattle.jn_between.proofs.Seen.{seen, lines-seen, named-out}
use Rattle.jn_between.proofs.Found.{Led, led-by, found-then, ended-stays}

-- ---- after any steps

pub run-consistent : (servers : ℕ) (files : AllFiles) (epochs : ServerNo → ℕ) (steps : List Step) → IsRun steps (opening servers files epochs) → IsConsistent files (run steps (opening servers files epochs))
run-consistent servers files epochs steps i = record {
  names = made-once files epochs r h;
  doubt = doubt files epochs r h;
  works = works-stay files epochs r h;
  commits = told-after files epochs r h;
  drops = record { drops = dropped files epochs r h; unknown = unknown files epochs r (reached servers files epochs steps i) };
  answers = answers-stand files epochs r h;
  up = λ q m e. (up-fact files epochs r h q m e).same;
}
  where
    r : World
    r = run steps (opening servers files epochs)

    h : Standing files epochs (run steps (opening servers files epochs))
    h = stand files epochs servers steps i

-- ---- at each moment

may-begin : (events : List Event) (w : World) → IsRun (map (λ (e : Event). NextEvent) events) w
may-begin [] w = tt
may-begin (e ∷ events) w = (tt, may-begin events (after NextEvent w))

part-consistent : (x : Setup) (schedule : List Event) (files : AllFiles) (m : Moment) → IsRetoldInPart x schedule files m → IsConsistent files m.state.course.world
part-consistent x schedule files m r = seen (run nexts w) m.state.course.world r.world files
    (subst (IsConsistent files) (run-both (steps_of r.items) nexts start) (run-consistent x.servers files r.epochs (steps_of r.items ++ nexts) (is-run-both (steps_of r.items) nexts start r.reported.steps (may-begin r.begun w))))
  where
    start : World
    start = opening x.servers files r.epochs

    w : World
    w = world_of r.items start

    nexts : List Step
    nexts = map (λ (e : Event). NextEvent) r.begun

-- what steps lead to behind such lines is what they lead to without them
record LedTo (servers : ℕ) (files : AllFiles) (epochs : ServerNo → ℕ) (v : World) : Type 0 where
  steps : List Step
  may : IsRun steps (opening servers files epochs)
  is : IsAsIn (run steps (opening servers files epochs)) v

led-to : (x : Setup) (schedule : List Event) (files : AllFiles) (m : Moment) (r : IsRetold x schedule files m) → LedTo x.servers files r.epochs m.state.course.world
led-to x schedule files m r = by (led-by x r.last m r.leads)
  where
    start : World
    start = opening x.servers files r.epochs

    w : World
    w = world_of r.items start

    by : Led r.last.state.course.world m.state.course.world → LedTo x.servers files r.epochs m.state.course.world
    by l = record {
      steps = steps_of r.items ++ l.steps;
      may = is-run-both (steps_of r.items) l.steps start r.told.reported.steps (may-run r.told.ups (ups-name-none r.told.ups r.told.are_up) l.steps w (subst (λ (z : World). IsRun l.steps z) r.told.world l.may));
      is = as-behind r.told.ups r.told.are_up (run (steps_of r.items ++ l.steps) start) m.state.course.world
          (l.world ∙ ap (λ (z : World). run l.steps z) r.told.world ∙ run-behind r.told.ups (ups-name-none r.told.ups r.told.are_up) l.steps w ∙ ap (λ (z : World). behind r.told.ups z) (sym (run-both (steps_of r.items) l.steps start)));
    }

pub whole-consistent : (x : Setup) (schedule : List Event) (files : AllFiles) (m : Moment) → IsRetold x schedule files m → IsConsistent files m.state.course.world
whole-consistent x schedule files m r = let l = led-to x schedule files m r in seen _ m.state.course.world l.is files (run-consistent x.servers files r.epochs l.steps l.may)

-- ---- between two events

module _ (x : Setup) (files : AllFiles) (epochs : ServerNo → ℕ) (items : List Item) (reported : IsReported items (opening x.servers files epochs)) (m : Moment)
    (as-in : IsAsIn (world_of items (opening x.servers files epochs)) m.state.course.world) (lines : plain m.state.lines ≡ plain (lines_of items (opening x.servers files epochs)))
    (found : AreFound x m.state.course.world m.devices) where
  abbrev w : World
  w = world_of items (opening x.servers files epochs)

  abbrev ls : List Line
  ls = lines_of items (opening x.servers files epochs)

  abbrev events : List Event
  events = events_of items

  system : IsConsistent files (world_of items (opening x.servers files epochs))
  system = run-consistent x.servers files epochs (steps_of items) reported.steps

  as-told : AreAsTold files events ls ls w
  as-told = run-as-told x.servers files epochs items reported

  -- the files that the lines leave, with those aside
  same-files : replay_operations files events ls (history_of ls) ≡ files_told files (events_of items) m.state.lines
  same-files = sym (replay_is_of_operations files events ls (history_of ls) (no-calls items reported.under)) ∙ ap (λ Ts. replay files events ls Ts) (history-aside events ls m.state.lines (sym lines)) ∙ replay-aside events ls m.state.lines (sym lines) files (history_of m.state.lines)

  its-state : (q : ServerNo) (c : Pick) → q.0 < x.servers → state_on (x.counts q) (m.devices q) c ≡ w.found q c
  its-state q c l = sym (found q c l) ∙ ap (λ (f : ServerNo → Pick → StableState). f q c) as-in.found

  pages : AreOnPages x (files_told files (events_of items) m.state.lines) m.state.course.world m.devices
  pages = record {
    free = λ q memory u l up is-free c. let at = as-in.memory q memory up in
        ap (λ (y : StableState). y.files u) (its-state q c l ∙ system.up q memory at c) ∙ as-told.unlocked q memory u at is-free.0 is-free.1 ∙ ap (λ (f : AllFiles). f q u) same-files;
    done = λ q u c l d. ap (λ (y : StableState). y.files u) (its-state q c l)
        ∙ as-told.shown q c u (λ W p e named. d W p (ap (λ (y : StableState). y.works W) (its-state q c l) ∙ e) (named-out w m.state.course.world as-in p.tid named))
        ∙ ap (λ (f : AllFiles). f q u) same-files;
  }

  pub true-between : IsTrueBetween x files (events_of items) m
  true-between = record {
    number = as-in.event ∙ items-begin items (opening x.servers files epochs) reported.under ∙ none-before (length items) ∙ sym (length-map items (λ (item : Item). item.event));
    system = seen w m.state.course.world as-in files system;
    report = true-aside files events events ls m.state.lines (sym lines) (run-true x.servers files epochs items reported);
    answers = lines-seen w m.state.course.world as-in files events ls m.state.lines (sym lines) (run-lines-stand x.servers files epochs items reported);
    pages = pages;
  }
    where
      none-before : (n : ℕ) → 0 + n ≡ n
      none-before n = omega arith

-- ---- which moments these are

-- the first task begins an event or the end
abbrev is_between : Task → Bool
is_between (Begins e) = true
is_between Dismisses = true
is_between task = false

abbrev first_between : List Task → Bool
first_between [] = false
first_between (task ∷ tasks) = is_between task

module _ (x : Setup) (files : AllFiles) (epochs : ServerNo → ℕ) where
  left-first : (rest : List Event) → first_between (map (λ (e : Event). Begins e) rest ++ ending x) ≡ true
  left-first [] = refl
  left-first (e ∷ rest) = refl

  -- the events that are left are known by the tasks
  same-left : (a b : List Event) → map (λ (e : Event). Begins e) a ++ ending x ≡ map (λ (e : Event). Begins e) b ++ ending x → a ≡ b
  same-left [] [] h = refl
  same-left [] (e ∷ b) h = absurd (unlike (ap first_of_tasks h))
    where
      unlike : Some Dismisses ≡ Some (Begins e) → ⊥
      unlike q = cc
  same-left (e ∷ a) [] h = absurd (unlike (ap first_of_tasks h))
    where
      unlike : Some (Begins e) ≡ Some Dismisses → ⊥
      unlike q = cc
  same-left (e ∷ a) (f ∷ b) h = both (one (ap first_of_tasks h)) (same-left a b (ap (λ (ts : List Task). drop 1 ts) h))
    where
      both : e ≡ f → a ≡ b → e ∷ a ≡ f ∷ b
      both p q = cc

      one : Some (Begins e) ≡ Some (Begins f) → e ≡ f
      one z = cc

  not-both : (b : Bool) → b ≡ true → b ≡ false → ⊥
  not-both b e f = grind arith

  -- no other task is first
  other : (tasks : List Task) (rest : List Event) → tasks ≡ map (λ (e : Event). Begins e) rest ++ ending x → first_between tasks ≡ false → ⊥
  other tasks rest e k = not-both (first_between tasks) (ap first_between e ∙ left-first rest) k

  settles-not : (task : Task) → is_settling task ≡ true → is_between task ≡ false
  settles-not (Begins e) h = absurd (not-both true refl (sym h))
  settles-not Dismisses h = absurd (not-both true refl (sym h))
  settles-not task h = refl

  -- where the end is about to begin and no step was done, it is still about to
  still : (a b : Moment) → HasTables a.state → Leads x a b → a.state.stage ≡ InSchedule → a.state.tasks ≡ ending x → b.state.stage ≡ InSchedule → b ≡ a
  still a b has (none m) stage tasks in-schedule = refl
  still a b has (more u v t d rest) stage tasks in-schedule = absurd (ended-stays x v t rest (over (does-next x Dismisses (drop 1 (ending x)) u v has d stage tasks)) in-schedule)
    where
      cut-apart : CutShort ≡ InSchedule → ⊥
      cut-apart z = cc

      end-apart : AtEnd ≡ InSchedule → ⊥
      end-apart z = cc

      over : Next x Dismisses u v → v.state.stage ≡ InSchedule → ⊥
      over n e = by (goes-or-cut x n.chance dismissing (begun Dismisses u.state) v.state n.state_is)
        where
          by : ((v.state ≡ cut_short (begun Dismisses u.state)) × (is_too_much dismissing (go_on dismissing.steps (begun Dismisses u.state).course) ≡ true))
              ⊎ ((v.state ≡ come_to x n.chance dismissing (go_on dismissing.steps (begun Dismisses u.state).course) (begun Dismisses u.state)) × (is_too_much dismissing (go_on dismissing.steps (begun Dismisses u.state).course) ≡ false)) → ⊥
          by (inl k) = cut-apart (sym (ap (λ (s : State). s.stage) k.0) ∙ e)
          by (inr k) = end-apart (sym (ap (λ (s : State). s.stage) k.0) ∙ e)

first-of : (a b : Bool) → (a && b) ≡ true → a ≡ true
first-of a b k = grind arith

module _ (x : Setup) (schedule : List Event) (images : Devices) (m : Moment) (few : x.servers ≤ 8) (ranges : AllByRecursion EventInRange schedule) (h : IsWritten x schedule images m) where
  abbrev last : ServerNo → ℕ
  last = raised x.servers h.files h.epochs x.servers

  its-so : So x few h.files h.epochs schedule ranges m
  its-so = so-written x few h.files h.epochs schedule ranges images m h.are_images h.leads

  no-cut : (stage : Stage) → stage ≡ InSchedule → stage ≡ CutShort → ⊥
  no-cut stage a b = cc

  its-part : So x few h.files h.epochs schedule ranges m → IsRetoldInPart x schedule h.files m ⊎ IsRetold x schedule h.files m
  its-part (starting k r s) = inl (start-part x h.files h.epochs schedule k m m s.ups s.are_up s.world s.lines refl refl)
  its-part (held (between items rest b)) = inl (between-part x h.files last schedule items rest m m b refl refl)
  its-part (held (meeting items e rest b)) = inl (meeting-part x h.files last schedule items e rest m m b refl refl (λ c. absurd (no-cut m.state.stage b.at.stage c)))
  its-part (held (settling items acts task pending rest b are)) = inl (amid-part x h.files last schedule items _ (task ∷ pending) rest m m b refl refl)
  its-part (held (cut c)) = inl c.part
  its-part (held (ended r)) = inr r

  not-yet : (stage : Stage) → stage ≡ InSchedule → stage ≡ AtEnd → ⊥
  not-yet stage a b = cc

  no-more : (stage : Stage) → stage ≡ CutShort → stage ≡ AtEnd → ⊥
  no-more stage a b = cc

  pub its-end : m.state.stage ≡ AtEnd → So x few h.files h.epochs schedule ranges m → IsRetold x schedule h.files m
  its-end e (starting k r s) = absurd (not-yet m.state.stage s.stage e)
  its-end e (held (between items rest b)) = absurd (not-yet m.state.stage b.at.stage e)
  its-end e (held (meeting items event rest b)) = absurd (not-yet m.state.stage b.at.stage e)
  its-end e (held (settling items acts task pending rest b are)) = absurd (not-yet m.state.stage b.at.stage e)
  its-end e (held (cut c)) = absurd (no-more m.state.stage c.cut e)
  its-end e (held (ended r)) = r

  pub retold-end : m.state.stage ≡ AtEnd → IsRetold x schedule h.files m
  retold-end e = its-end e its-so

  pub always : IsConsistent h.files m.state.course.world × IsTrueOfBegun h.files schedule m.state.course.world.event m.state.lines
  always = by (its-part its-so)
    where
      by : IsRetoldInPart x schedule h.files m ⊎ IsRetold x schedule h.files m → IsConsistent h.files m.state.course.world × IsTrueOfBegun h.files schedule m.state.course.world.event m.state.lines
      by (inl r) = (part-consistent x schedule h.files m r, part-so-far x schedule h.files m r)
      by (inr r) = (whole-consistent x schedule h.files m r, run-so-far x schedule h.files m few h.are_images.its r)

  pub found-now : (m.state.stage ≡ CutShort → ⊥) → AreFound x m.state.course.world m.devices
  found-now going = found-then x (record { state = before x schedule h.files h.epochs; devices = images }) m h.are_images.found h.leads going

  module _ (rest : List Event) (stage : m.state.stage ≡ InSchedule) (tasks : m.state.tasks ≡ map (λ (e : Event). Begins e) rest ++ ending x) where
    apart : InSchedule ≡ CutShort → ⊥
    apart z = cc

    here : AreFound x m.state.course.world m.devices
    here = found-now (λ e. apart (sym stage ∙ e))

    of-between : (items : List Item) (those : List Event) → Between x h.files last schedule items those m → (done : List Event) × (done ++ rest ≡ schedule) × IsTrueBetween x h.files done m
    of-between items those b = (
      events_of items,
      (ap (λ (es : List Event). events_of items ++ es) (same-left x h.files h.epochs rest those (sym tasks ∙ b.tasks)) ∙ b.events),
      true-between x h.files last items b.reported m (as-behind b.at.ups b.at.are_up (world_of items (opening x.servers h.files last)) m.state.course.world b.at.world) b.lines here,
    )

    of-told : (items : List Item) (epochs : ServerNo → ℕ) → events_of items ≡ schedule → IsToldBy x h.files epochs items m → rest ≡ [] → (done : List Event) × (done ++ rest ≡ schedule) × IsTrueBetween x h.files done m
    of-told items epochs e t none-left = (
      events_of items,
      (ap (λ (es : List Event). events_of items ++ es) none-left ∙ append-nil (events_of items) ∙ e),
      true-between x h.files epochs items t.reported m (as-behind t.ups t.are_up (world_of items (opening x.servers h.files epochs)) m.state.course.world t.world) t.lines here,
    )

    of-ended : (r : IsRetold x schedule h.files m) → m ≡ r.last → (done : List Event) × (done ++ rest ≡ schedule) × IsTrueBetween x h.files done m
    of-ended r e = of-told r.items r.epochs r.events (subst (λ (z : Moment). IsToldBy x h.files r.epochs r.items z) (sym e) r.told)
        (same-left x h.files h.epochs rest [] (sym tasks ∙ ap (λ (z : Moment). z.state.tasks) e ∙ r.tasks))

    pub between-events : (done : List Event) × (done ++ rest ≡ schedule) × IsTrueBetween x h.files done m
    between-events = by its-so
      where
        by : So x few h.files h.epochs schedule ranges m → (done : List Event) × (done ++ rest ≡ schedule) × IsTrueBetween x h.files done m
        by (starting k r s) = absurd (other x h.files h.epochs m.state.tasks rest tasks (ap first_between s.tasks))
        by (held (between items those b)) = of-between items those b
        by (held (meeting items e those b)) = absurd (other x h.files h.epochs m.state.tasks rest tasks (ap first_between b.tasks))
        by (held (settling items acts task pending those b are)) = absurd (other x h.files h.epochs m.state.tasks rest tasks (ap first_between b.tasks ∙ settles-not x h.files h.epochs task (first-of (is_settling task) (list_all is_settling pending) are)))
        by (held (cut c)) = absurd (apart (sym stage ∙ c.cut))
        by (held (ended r)) = of-ended r (still x h.files h.epochs r.last m r.told.tables r.leads r.stage r.tasks stage)
