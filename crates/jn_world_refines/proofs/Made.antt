-- A step that is made, or that cuts the run short.
use Rattle.jn_world_refines.proofs.Common.{◌≡◌, ◌≤◌, ◌<◌, ℕ, Bool, true, false, List, [], ◌++◌, length, append-nil, drop, Some, None, refl, sym, ◌∙◌, ap, subst, arith, ◌||◌, nat_lt, if◌then◌else◌, drop-length, length-map, nat_tests, DeviceState, Posted, Line, Text, StoreView, World, Course, go_on, sent_of, Setup, Chance, Task, State, when_of, next_task, begun, Sent, Nothing, Deed, deed_of, message_texts, traced, texts_of, lines_at, is_too_much, come_to, cut_short, made_to, Devices, Befalls, rubbish_on, Moment, Leads, DoesStep, none, more, Standing, Stands, NoMessageLeft, WasCut, IsStepTo, Free, none_free, no_maps}

-- a chance of which no step asks anything more
abbrev pub quiet_chance : Setup → Devices → Chance
quiet_chance x ds = record { rubbish = rubbish_on x ds; found = Free none_free no_maps; stop = None; told = [] }

-- ---- the step

-- a task with its deed, and where it leads to
pub record Makes (x : Setup) (m : Moment) (h : Chance) (deed : Deed) (s : State) (c : Course) (es : Devices) : Type 0 where
  pub task : Task
  pub next : next_task m.state ≡ Some task
  pub deed_is : deed_of x h task m.state ≡ deed
  pub begun_is : begun task m.state ≡ s
  pub course : go_on deed.steps s.course ≡ c
  pub befalls : Befalls x h deed m.state.course.world m.devices es

unfoldable pub one-step : (x : Setup) (m : Moment) (h : Chance) (deed : Deed) (s : State) (c : Course) (es : Devices) → Makes x m h deed s c es → (b : Bool) → is_too_much deed c ≡ b
    → DoesStep x m (record { state = if b then cut_short s else come_to x h deed c s; devices = es })
one-step x m h deed s c es k b e = record {
  chance = h;
  task = k.task;
  task_is = k.next;
  state_is = sym (ap (λ (d : Deed). made_to x h d (go_on d.steps (begun k.task m.state).course) (begun k.task m.state)) k.deed_is
      ∙ ap (λ (t : State). made_to x h deed (go_on deed.steps t.course) t) k.begun_is ∙ ap (λ (d : Course). made_to x h deed d s) k.course
      ∙ ap (λ (b : Bool). if b then cut_short s else come_to x h deed c s) e);
  befalls = subst (λ (d : Deed). Befalls x h d m.state.course.world m.devices es) (sym k.deed_is) k.befalls;
}

pub made-leads : (x : Setup) (m : Moment) (h : Chance) (deed : Deed) (s : State) (c : Course) (es : Devices) → Makes x m h deed s c es → is_too_much deed c ≡ false → Leads x m (record { state = come_to x h deed c s; devices = es })
made-leads x m h deed s c es k e = more m after after (one-step x m h deed s c es k false e) (none after)
  where
    after : Moment
    after = record { state = come_to x h deed c s; devices = es }

-- ---- how much was sent

pub carried-length : (sent : List Posted) (c : Course) → c.world.sent ≡ sent_of sent → length c.world.sent ≡ length sent
carried-length sent c e = ap length e ∙ length-map sent (λ (m : Posted). (m.to, m.message))

pub not-too-much : (deed : Deed) (c : Course) (n : ℕ) → deed.cuts ≡ false → length c.world.sent ≡ n → n ≤ 1000000 → is_too_much deed c ≡ false
not-too-much deed c n e l h = ap (λ (b : Bool). b || nat_lt 1000000 (length c.world.sent)) e ∙ ap (nat_lt 1000000) l ∙ small n h
  where
    small : (n : ℕ) → n ≤ 1000000 → nat_lt 1000000 n ≡ false
    small n h = grind (arith, nat_tests)

pub too-much : (deed : Deed) (c : Course) (n : ℕ) → deed.cuts ≡ false → length c.world.sent ≡ n → 1000000 < n → is_too_much deed c ≡ true
too-much deed c n e l h = ap (λ (b : Bool). b || nat_lt 1000000 (length c.world.sent)) e ∙ ap (nat_lt 1000000) l ∙ large n h
  where
    large : (n : ℕ) → 1000000 < n → nat_lt 1000000 n ≡ true
    large n h = grind (arith, nat_tests)

-- the run is cut short by what it would send
pub made-cut : (x : Setup) (m : Moment) (h : Chance) (deed : Deed) (s : State) (c : Course) (es : Devices) → Makes x m h deed s c es → deed.cuts ≡ false → s.lines ≡ m.state.lines
    → (sent : List Posted) → c.world.sent ≡ sent_of sent → 1000000 < length sent → (lines : List Line) → WasCut x m NoMessageLeft lines lines
unfolding one-step
made-cut x m h deed s c es k cuts same sent sent-are many lines = record {
  before = m;
  leads = none m;
  last = record { state = cut_short s; devices = es };
  step = one-step x m h deed s c es k true (too-much deed c (length sent) cuts (carried-length sent c sent-are) many);
  comes = subst (λ (d : Course). 1000000 < length d.world.sent)
      (sym (ap (λ (d : Deed). go_on d.steps (begun k.task m.state).course) k.deed_is ∙ ap (λ (t : State). go_on deed.steps t.course) k.begun_is ∙ k.course))
      (subst (λ (n : ℕ). 1000000 < n) (sym (carried-length sent c sent-are)) many);
  stage = refl;
  told = record { new = []; here = sym (append-nil lines); there = same ∙ sym (append-nil m.state.lines) };
}

-- ---- where the code stands afterwards

module _ {S : Type 0} (look : S → StoreView) (device : S → DeviceState) where
  pub made-step : (x : Setup) (m : Moment) (h : Chance) (deed : Deed) (c : Course) (es : Devices) (rest : List Task) (w' : Standing S) (lines lines' : List Line)
      → Makes x m h deed (record m.state { tasks = drop 1 m.state.tasks }) c es → deed.cuts ≡ false
      → Stands look device x w' (record { state = come_to x h deed c (record m.state { tasks = drop 1 m.state.tasks }); devices = es })
      → deed.tasks ++ drop 1 m.state.tasks ≡ rest
      → lines' ≡ lines ++ lines_at (when_of m.state) (texts_of x h deed m.state.course.world c.world)
      → IsStepTo look device x m rest w' lines lines'
  made-step x m h deed c es rest w' lines lines' k cuts stands tasks told = record {
    done = λ few. record {
      last = record { state = come_to x h deed c s; devices = es };
      leads = made-leads x m h deed s c es k (not-too-much deed c (length w'.net.sent) cuts (carried-length w'.net.sent c stands.net.sent) few);
      stands = stands;
      tasks = tasks;
      stage = refl;
      told = record { new = lines_at (when_of m.state) (texts_of x h deed m.state.course.world c.world); here = told; there = refl };
    };
    cut = λ many. made-cut x m h deed s c es k cuts refl w'.net.sent stands.net.sent many lines;
  }
    where
      s : State
      s = record m.state { tasks = drop 1 m.state.tasks }

-- ---- what a step reports in a world that stays

pub quiet-texts : (x : Setup) (h : Chance) (deed : Deed) (w : World) → texts_of x h (record deed { device = Nothing; said = None }) w w ≡ deed.texts
quiet-texts x h deed w = ap (λ (own : List Text). own ++ deed.texts ++ traced x.trace (message_texts deed.actor (length w.sent) (drop (length w.sent) w.sent))) (drop-length w.lines)
    ∙ ap (λ (sent : List Sent). deed.texts ++ traced x.trace (message_texts deed.actor (length w.sent) sent)) (drop-length w.sent)
    ∙ ap (λ (texts : List Text). deed.texts ++ texts) (nothing-traced x.trace)
    ∙ append-nil deed.texts
  where
    nothing-traced : (trace : Bool) → traced trace [] ≡ []
    nothing-traced true = refl
    nothing-traced false = refl
