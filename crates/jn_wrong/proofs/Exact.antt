-- A whole run at which nothing can strike is the one without chances, whatever befalls it.
use Rattle.jn_wrong.proofs.Common.{◌≡◌, ◌⊎◌, inl, inr, ℕ, zero, suc, ◌≤◌, ◌<◌, Bool, true, false, List, [], ◌∷◌, drop, Option, Some, None, is_some, refl, sym, ◌∙◌, ap, subst, arith, nat_tests, if◌then◌else◌, nat_lt, ServerNo, LockUnit, AllFiles, no_files, Counts, Event, Line, StableState, World, new_memory, run, go_on, on-world, Setup, Chance, Task, Begins, Meets, Acts, Rests, ComesUp, Dismisses, GoesDown, ClosesClients, CountsCommits, Stage, InSchedule, AtEnd, CutShort, State, next_at, next_task, begun, Deed, Devices, Befalls, deed_of, is_too_much, come_to, cut_short, done, next, next_by, none, more, Moment, Leads, before, AreImages, IsWhole, IsQuiet, blank, AreNew, IsOnly, IsNoneOfNew, fun_ext}
use Rattle.jn_wrong.proofs.StillRuns.{still, goes, DoesSo, DoesNext, GoesSo}
use Rattle.jn_schedule.specs.declared.Event.TheVariants as events
use Rattle.jn_wrong.proofs.Bare.{bare, done-bare}
use Rattle.jn_wrong.proofs.Doing.{Follows, below, begins, tells-client, settles, asks, nudges, dismisses, counts, closes, scrubs, goes-down}
use Rattle.jn_wrong.proofs.Chanced.{comes-up, shows, meets}
use Rattle.jn_wrong.proofs.Resting.{rests, never}

pub no-task : {A : Type 0} (task : Task) → None ≡ Some task → A
no-task task e = absurd (no' e)
  where
    no' : None ≡ Some task → ⊥
    no' k = cc

-- ---- one step

tasks-are : (s : State) (task : Task) → next_task s ≡ Some task → s.tasks ≡ task ∷ drop 1 s.tasks
tasks-are s task e = by s.stage s.tasks e
  where
    some : {a b : Task} → Some a ≡ Some b → a ≡ b
    some k = cc

    by : (stage : Stage) (tasks : List Task) → next_at stage tasks ≡ Some task → tasks ≡ task ∷ drop 1 tasks
    by CutShort tasks k = no-task task k
    by InSchedule [] k = no-task task k
    by AtEnd [] k = no-task task k
    by InSchedule (t ∷ tasks) k = ap (λ (z : Task). z ∷ tasks) (some k)
    by AtEnd (t ∷ tasks) k = ap (λ (z : Task). z ∷ tasks) (some k)

abbrev pub Result : Setup → Chance → Task → State → Devices → Type 0
Result x h task s es = Follows x h task s es ⊎ ((bare (done x h task s) ≡ bare s) × IsQuiet x s.course.world es)

module _ (x : Setup) (h : Chance) (s : State) (ds es : Devices) (quiet : IsQuiet x s.course.world ds) where
  rested : s.tasks ≡ Rests ∷ drop 1 s.tasks → DoesSo x Rests s → Befalls x h (deed_of x h Rests s) s.course.world ds es → Result x h Rests s es
  rested tasks so b = by (rests x h s ds es quiet tasks so b)
    where
      by : ((bare (done x h Rests s) ≡ bare (done x still Rests s)) × IsQuiet x (go_on (deed_of x h Rests s).steps s.course).world es) ⊎ ((bare (done x h Rests s) ≡ bare s) × IsQuiet x s.course.world es) → Result x h Rests s es
      by (inl r) = inl (record { same = r.0; quiet = r.1 })
      by (inr r) = inr r

  pub one-step : (task : Task) → next_task s ≡ Some task → DoesSo x task s → Befalls x h (deed_of x h task s) s.course.world ds es → Result x h task s es
  one-step (Begins e) n so b = inl (begins x h s ds es quiet e b)
  one-step (Meets (events.Command c command)) n so b = inl (tells-client x h s ds es quiet c command b)
  one-step (Meets events.Settle) n so b = inl (settles x h s ds es quiet b)
  one-step (Meets (events.Show q)) n so b = inl (meets x h s ds es quiet q so b)
  one-step (Meets e) n so b = never so
  one-step (Acts (events.Again c)) n so b = inl (asks x h s ds es quiet c b)
  one-step (Acts (events.Nudge q)) n so b = inl (nudges x h s ds es quiet q b)
  one-step (Acts (events.Scrub q)) n so b = inl (scrubs x h s ds es quiet q (below q.0 x.servers so) b)
  one-step (Acts (events.Show q)) n so b = inl (shows x h s ds es quiet q so b)
  one-step (Acts e) n so b = never so
  one-step Rests n so b = rested (tasks-are s Rests n) so b
  one-step (ComesUp q) n so b = inl (comes-up x h s ds es quiet q so b)
  one-step Dismisses n so b = inl (dismisses x h s ds es quiet b)
  one-step (GoesDown q) n so b = inl (goes-down x h s ds es quiet q (below q.0 x.servers so) b)
  one-step (ClosesClients q) n so b = inl (closes x h s ds es quiet q (below q.0 x.servers so) b)
  one-step CountsCommits n so b = inl (counts x h s ds es quiet b)

pub deed-bare : (x : Setup) (h : Chance) (task : Task) (s : State) → deed_of x h task s ≡ deed_of x h task (bare s)
deed-bare x h (Begins e) s = refl
deed-bare x h (Meets e) s = refl
deed-bare x h (Acts e) s = refl
deed-bare x h Rests s = refl
deed-bare x h (ComesUp q) s = refl
deed-bare x h Dismisses s = refl
deed-bare x h (GoesDown q) s = refl
deed-bare x h (ClosesClients q) s = refl
deed-bare x h CountsCommits s = refl

world-begun : (task : Task) (s : State) → (begun task s).course.world ≡ s.course.world
world-begun Dismisses s = refl
world-begun task s = refl

-- nothing strikes any more, or nothing is left to do
abbrev pub Well : Setup → State → Devices → Type 0
Well x s ds = IsQuiet x s.course.world ds ⊎ (next_task s ≡ None)

pub well-after : (x : Setup) (h : Chance) (task : Task) (s : State) (es : Devices) → IsQuiet x (go_on (deed_of x h task s).steps s.course).world es → Well x (done x h task s) es
well-after x h task s es quiet = by (is_too_much deed (go_on deed.steps u.course))
  where
    deed : Deed
    deed = deed_of x h task s

    u : State
    u = begun task s

    same : (go_on deed.steps s.course).world ≡ (go_on deed.steps u.course).world
    same = on-world deed.steps s.course ∙ ap (λ (w : World). run deed.steps w) (sym (world-begun task s)) ∙ sym (on-world deed.steps u.course)

    by : (b : Bool) → Well x (if b then cut_short u else come_to x h deed (go_on deed.steps u.course) u) es
    by true = inr refl
    by false = inl (subst (λ (w : World). IsQuiet x w es) same quiet)

-- ---- many steps

stays : (x : Setup) (n : ℕ) (s : State) → next_task s ≡ None → goes x n s ≡ s
stays x zero s e = refl
stays x (suc n) s e = ap (λ (o : Option Task). goes x n (next_by x still o s)) e ∙ stays x n s e

pub sim : (x : Setup) (n : ℕ) (s : State) → GoesSo x n s → next_task (goes x n s) ≡ None → (a b : Moment) → Leads x a b → bare a.state ≡ bare s → Well x a.state a.devices → next_task b.state ≡ None → bare b.state ≡ bare (goes x n s)
sim x n s so end a b (none m) e well over = e ∙ ap bare (sym (stays x n s (sym (ap next_task e) ∙ over)))
sim x n s so end a b (more u c v d rest) e (inr idle) over = no-task d.task (sym idle ∙ d.task_is)
sim x zero s so end a b (more u c v d rest) e (inl quiet) over = no-task d.task (sym end ∙ sym (ap next_task e) ∙ d.task_is)
sim x (suc n) s so end a b (more u c v d rest) e (inl quiet) over = by (one-step x d.chance s a.devices c.devices (subst (λ (w : World). IsQuiet x w a.devices) world quiet) d.task the-task now befalls)
    (λ z w. sim x n (next x still s) so.1 end c b rest z w over) (λ z w. sim x (suc n) s so end c b rest z w over)
  where
    world : a.state.course.world ≡ s.course.world
    world = ap (λ (t : State). t.course.world) e

    the-task : next_task s ≡ Some d.task
    the-task = sym (ap next_task e) ∙ d.task_is

    now : DoesSo x d.task s
    now = subst (λ (o : Option Task). DoesNext x o s) the-task so.0

    befalls : Befalls x d.chance (deed_of x d.chance d.task s) s.course.world a.devices c.devices
    befalls = subst (λ (deed : Deed). Befalls x d.chance deed s.course.world a.devices c.devices) (sym (deed-bare x d.chance d.task s))
        (subst (λ (t : State). Befalls x d.chance (deed_of x d.chance d.task t) t.course.world a.devices c.devices) e
        (subst (λ (deed : Deed). Befalls x d.chance deed a.state.course.world a.devices c.devices) (deed-bare x d.chance d.task a.state) d.befalls))

    came : bare c.state ≡ bare (done x d.chance d.task s)
    came = ap bare d.state_is ∙ done-bare x d.chance d.task a.state ∙ ap (λ (t : State). bare (done x d.chance d.task t)) e ∙ sym (done-bare x d.chance d.task s)

    is-next : next x still s ≡ done x still d.task s
    is-next = ap (λ (o : Option Task). next_by x still o s) the-task

    well : Well x (done x d.chance d.task s) c.devices → Well x c.state c.devices
    well z = subst (λ (t : State). Well x t c.devices) (sym came) z

    by : Result x d.chance d.task s c.devices → (bare c.state ≡ bare (next x still s) → Well x c.state c.devices → bare b.state ≡ bare (goes x (suc n) s))
        → (bare c.state ≡ bare s → Well x c.state c.devices → bare b.state ≡ bare (goes x (suc n) s)) → bare b.state ≡ bare (goes x (suc n) s)
    by (inl f) onward again = onward (came ∙ f.same ∙ ap bare (sym is-next)) (well (well-after x d.chance d.task s c.devices f.quiet))
    by (inr r) onward again = again (came ∙ r.0) (inl (subst (λ (w : World). IsQuiet x w c.devices) (sym (ap (λ (t : State). t.course.world) (came ∙ r.0))) r.1))

-- ---- from new images

-- where there are no more servers, no epoch is known
abbrev pub new_epochs : ℕ → (ServerNo → ℕ) → ServerNo → ℕ
new_epochs n epochs q = if nat_lt q.0 n then 0 else epochs q

abbrev pub setup_of : ℕ → Bool → (ServerNo → Counts) → Setup
setup_of n trace counts = record { servers = n; counts = counts; trace = trace }

-- what is there where a run begins
module _ (n : ℕ) (trace : Bool) (schedule : List Event) (counts : ServerNo → Counts) (images : Devices) (new : AreNew (setup_of n trace counts) images)
    (files : AllFiles) (epochs : ServerNo → ℕ) (are : AreImages (setup_of n trace counts) files epochs images) where
  abbrev x : Setup
  x = setup_of n trace counts

  nothing-found : (q : ServerNo) → q.0 < n → record { epoch = epochs q; files = files q; works = λ W. None; flags = λ T. None } ≡ blank 0
  nothing-found q l = are.found q (λ i. false) l ∙ new q (λ i. false) l

  above : (q m : ℕ) → nat_lt q m ≡ false → m ≤ q
  above q m e = grind (arith, nat_tests, e)

  no-files : files ≡ no_files
  no-files = fun_ext (λ q. fun_ext (λ u. at q u (nat_lt q.0 n) refl))
    where
      at : (q : ServerNo) (u : LockUnit) (b : Bool) → nat_lt q.0 n ≡ b → files q u ≡ None
      at q u true e = ap (λ (y : StableState). y.files u) (nothing-found q (below q.0 n e))
      at q u false e = are.its q u (above q.0 n e)

  no-epochs : epochs ≡ new_epochs n epochs
  no-epochs = fun_ext (λ q. at q (nat_lt q.0 n) refl)
    where
      at : (q : ServerNo) (b : Bool) → nat_lt q.0 n ≡ b → epochs q ≡ (if b then 0 else epochs q)
      at q true e = ap (λ (y : StableState). y.epoch) (nothing-found q (below q.0 n e))
      at q false e = refl

  pub quiet : IsQuiet x (before x schedule files epochs).course.world images
  quiet = record { power = λ q l z. down q l z; told = λ q l. let f = are.fresh q l in f.told; waiting = λ q l. let f = are.fresh q l in f.waiting }
    where
      down : (q : ServerNo) → q.0 < n → is_some ((before x schedule files epochs).course.world.memory q) ≡ true → (images q).power ≡ true
      down q l z = by (nat_lt q.0 n) refl z
        where
          by : (b : Bool) → nat_lt q.0 n ≡ b → is_some (if b then None else Some (new_memory q (epochs q))) ≡ true → (images q).power ≡ true
          by true e k = never k
          by false e k = absurd (no' q.0 n l (above q.0 n e))
            where
              no' : (a m : ℕ) → a < m → m ≤ a → ⊥
              no' a m p r = omega (arith, p, r)

  pub start : before x schedule files epochs ≡ before x schedule no_files (new_epochs n epochs)
  start = ap (λ (fs : AllFiles). before x schedule fs epochs) no-files ∙ ap (λ (es : ServerNo → ℕ). before x schedule no_files es) no-epochs

-- so many steps without chances are the run, and report this
pub record IsRunOf (n : ℕ) (trace : Bool) (schedule : List Event) (steps : ℕ) (report : List Line) (counts : ServerNo → Counts) (epochs : ServerNo → ℕ) : Type 0 where
  pub so : GoesSo (setup_of n trace counts) steps (before (setup_of n trace counts) schedule no_files (new_epochs n epochs))
  pub end : next_task (goes (setup_of n trace counts) steps (before (setup_of n trace counts) schedule no_files (new_epochs n epochs))) ≡ None
  pub tells : (goes (setup_of n trace counts) steps (before (setup_of n trace counts) schedule no_files (new_epochs n epochs))).lines ≡ report

module _ (n : ℕ) (trace : Bool) (schedule : List Event) (steps : ℕ) (report : List Line) where
  module _ (counts : ServerNo → Counts) (runs : (epochs : ServerNo → ℕ) → IsRunOf n trace schedule steps report counts epochs) (images : Devices) (new : AreNew (setup_of n trace counts) images) where
    abbrev the_setup : Setup
    the_setup = setup_of n trace counts

    module _ (files : AllFiles) (epochs : ServerNo → ℕ) (are : AreImages the_setup files epochs images) where
      told : (last : Moment) → Leads the_setup (record { state = before the_setup schedule files epochs; devices = images }) last → next_task last.state ≡ None → last.state.lines ≡ report
      told last leads over = ap (λ (t : State). t.lines) (sim the_setup steps (before the_setup schedule no_files (new_epochs n epochs)) r.so r.end (record { state = before the_setup schedule files epochs; devices = images }) last leads (ap bare (start n trace schedule counts images new files epochs are)) (inl (quiet n trace schedule counts images new files epochs are)) over) ∙ r.tells
        where
          r : IsRunOf n trace schedule steps report counts epochs
          r = runs epochs

    pub is-only : (closing : Devices) (lines : List Line) → IsWhole the_setup schedule images closing lines → lines ≡ report
    is-only closing lines h = sym h.lines_are ∙ told h.written.files h.written.epochs h.written.are_images h.last h.written.leads
        (ap (λ (stage : Stage). next_at stage h.last.state.tasks) h.stage ∙ ap (λ (tasks : List Task). next_at AtEnd tasks) h.tasks)

  pub only : ((counts : ServerNo → Counts) (epochs : ServerNo → ℕ) → IsRunOf n trace schedule steps report counts epochs) → IsOnly n trace schedule report
  only runs x images closing lines servers traces new whole = subst (λ (y : Setup). AreNew y images → IsWhole y schedule images closing lines → lines ≡ report) (sym is)
      (λ a h. is-only x.counts (runs x.counts) images a closing lines h) new whole
    where
      is : x ≡ setup_of n trace x.counts
      is = ap (λ (m : ℕ). record x { servers = m }) servers ∙ ap (λ (b : Bool). record x { servers = n; trace = b }) traces

-- what differs from it is no report
pub differs : (n : ℕ) (trace : Bool) (schedule : List Event) (report wrong : List Line) → IsOnly n trace schedule report → (wrong ≡ report → ⊥) → IsNoneOfNew n trace schedule wrong
differs n trace schedule report wrong only no' x images closing servers traces new h = no' (only x images closing wrong servers traces new h)
