-- Lines are only added, each at the event that is under way, and events come in their order.
use Rattle.jn_machine.proofs.Common.{◌≡◌, ◌≤◌, ℕ, Bool, true, false, List, [], ◌∷◌, ◌++◌, append-nil, append_assoc, Some, None, refl, sym, ◌∙◌, ap, subst, arith, not, if◌then◌else◌, nat_lt, list_all, list_all-append, AllFiles, ServerNo, Event, When, Text, Line, is_before, Step, NextEvent, Course, go, go_on, Setup, Chance, Task, Dismisses, Stage, InSchedule, AtEnd, CutShort, State, when_at, when_of, next_at, next_task, begun, Deed, deed_of, texts_of, lines_at, is_too_much, come_to, cut_short, made_to, none, more, MayStep, MayLead, before, none_before, are_in_order}
use Rattle.jn_machine.proofs.Telling.{event_after, both, first, second, adds}
use Rattle.jn_report.specs.declared.line.When.TheVariants.{Event as AtEvent, End}

-- ---- lines are only added

pub record Grows (s t : State) : Type 0 where
  pub texts : List Text
  pub lines : t.lines ≡ s.lines ++ lines_at (when_of s) texts

pub begun-lines : (task : Task) (s : State) → (begun task s).lines ≡ s.lines
begun-lines Dismisses s = refl
begun-lines task s = refl

module _ (x : Setup) (h : Chance) (deed : Deed) (s : State) where
  made-grows : (c : Course) → Grows s (made_to x h deed c s)
  made-grows c = by (is_too_much deed c)
    where
      by : (b : Bool) → Grows s (if b then cut_short s else come_to x h deed c s)
      by true = record { texts = []; lines = sym (append-nil s.lines) }
      by false = record { texts = texts_of x h deed s.course.world c.world; lines = refl }

pub record Longer (s t : State) : Type 0 where
  pub new : List Line
  pub lines : t.lines ≡ s.lines ++ new

step-longer : (x : Setup) (s t : State) → MayStep x s t → Longer s t
step-longer x s t m =
    let g = made-grows x m.chance (deed_of x m.chance m.task s) (begun m.task s) (go_on (deed_of x m.chance m.task s).steps (begun m.task s).course) in
    record { new = lines_at (when_of (begun m.task s)) g.texts; lines = ap (λ (u : State). u.lines) m.state_is ∙ g.lines ∙ ap (λ ls. ls ++ lines_at (when_of (begun m.task s)) g.texts) (begun-lines m.task s) }

pub longer : (x : Setup) (s t : State) → MayLead x s t → Longer s t
longer x s t (none u) = record { new = []; lines = sym (append-nil s.lines) }
longer x s t (more a b c m rest) =
    let first = step-longer x s b m in
    let then' = longer x b t rest in
    record { new = first.new ++ then'.new; lines = then'.lines ∙ ap (λ ls. ls ++ then'.new) first.lines ∙ append_assoc s.lines first.new then'.new }

-- ---- the event under way

after-event : (step : Step) (n : ℕ) → n ≤ event_after step n
after-event NextEvent n = grind arith
after-event step n = grind arith

pub events-rise : (steps : List Step) (c : Course) → c.world.event ≤ (go_on steps c).world.event
events-rise [] c = grind arith
events-rise (step ∷ steps) c = rising (after-event step c.world.event) (adds c.world step).event_is (events-rise steps (go step c))
  where
    rising : {a b m n : ℕ} → a ≤ b → m ≡ b → m ≤ n → a ≤ n
    rising p q r = grind arith

-- ---- lines in order

abbrev up_to : When → List Line → Bool
up_to w lines = list_all (λ (l : Line). not (is_before w l.when)) lines

not-before-self : (w : When) → not (is_before w w) ≡ true
not-before-self (AtEvent i) = by i
  where
    by : (i : ℕ) → not (nat_lt i i) ≡ true
    by i = grind arith
not-before-self End = refl

later-still : (w v l : When) → not (is_before v w) ≡ true → not (is_before w l) ≡ true → not (is_before v l) ≡ true
later-still (AtEvent i) (AtEvent j) (AtEvent k) p q = grind arith
later-still (AtEvent i) (AtEvent j) End p q = q
later-still (AtEvent i) End l p q = refl
later-still End (AtEvent j) l p q = absurd (clash p)
  where
    clash : false ≡ true → ⊥
    clash e = cc
later-still End End l p q = refl

module _ (w : When) where
  up-later : (v : When) → not (is_before v w) ≡ true → (lines : List Line) → up_to w lines ≡ true → up_to v lines ≡ true
  up-later v h [] k = refl
  up-later v h (l ∷ lines) k = both _ _ (later-still w v l.when h (first _ _ k)) (up-later v h lines (second _ _ k))

  new-none-before : (v : When) → not (is_before w v) ≡ true → (texts : List Text) → none_before v (lines_at w texts) ≡ true
  new-none-before v h [] = refl
  new-none-before v h (text ∷ texts) = both _ _ h (new-none-before v h texts)

  new-up : (texts : List Text) → up_to w (lines_at w texts) ≡ true
  new-up [] = refl
  new-up (text ∷ texts) = both _ _ (not-before-self w) (new-up texts)

  new-order : (texts : List Text) → are_in_order (lines_at w texts) ≡ true
  new-order [] = refl
  new-order (text ∷ texts) = both _ _ (new-none-before w (not-before-self w) texts) (new-order texts)

  more-order : (texts : List Text) (lines : List Line) → are_in_order lines ≡ true → up_to w lines ≡ true → are_in_order (lines ++ lines_at w texts) ≡ true
  more-order texts [] o u = new-order texts
  more-order texts (l ∷ lines) o u = both _ _
      (list_all-append _ lines (lines_at w texts) ∙ both _ _ (first _ _ o) (new-none-before l.when (first _ _ u) texts))
      (more-order texts lines (second _ _ o) (second _ _ u))

  more-up : (texts : List Text) (lines : List Line) → up_to w lines ≡ true → up_to w (lines ++ lines_at w texts) ≡ true
  more-up texts lines u = list_all-append _ lines (lines_at w texts) ∙ both _ _ u (new-up texts)

-- ---- a run's lines are in order

-- and none stands after the event under way
abbrev IsUpTo : Stage → ℕ → List Line → Type 0
IsUpTo CutShort event lines = Unit {0}
IsUpTo InSchedule event lines = up_to (AtEvent event) lines ≡ true
IsUpTo AtEnd event lines = up_to End lines ≡ true

record Ordered (stage : Stage) (event : ℕ) (lines : List Line) : Type 0 where
  order : are_in_order lines ≡ true
  up : IsUpTo stage event lines

up-end : (lines : List Line) → up_to End lines ≡ true
up-end [] = refl
up-end (l ∷ lines) = up-end lines

abbrev IsOrdered : State → Type 0
IsOrdered s = Ordered s.stage s.course.world.event s.lines

not-cut : (stage : Stage) (tasks : List Task) (task : Task) → next_at stage tasks ≡ Some task → (event : ℕ) (lines : List Line) → IsUpTo stage event lines → up_to (when_at stage event) lines ≡ true
not-cut CutShort tasks task h event lines u = absurd (clash h)
  where
    clash : None ≡ Some task → ⊥
    clash e = cc
not-cut InSchedule tasks task h event lines u = u
not-cut AtEnd tasks task h event lines u = u

from-up : (stage : Stage) (event : ℕ) (lines : List Line) → up_to (when_at stage event) lines ≡ true → IsUpTo stage event lines
from-up CutShort event lines u = tt
from-up InSchedule event lines u = u
from-up AtEnd event lines u = u

rises : (stage : Stage) (m n : ℕ) → m ≤ n → not (is_before (when_at stage n) (when_at stage m)) ≡ true
rises InSchedule m n h = grind arith
rises AtEnd m n h = refl
rises CutShort m n h = grind arith

-- the task is begun, and the run isn't cut short
record Begun (s : State) : Type 0 where
  order : are_in_order s.lines ≡ true
  up : up_to (when_of s) s.lines ≡ true

begins : (task : Task) (s : State) → next_task s ≡ Some task → IsOrdered s → Begun (begun task s)
begins Dismisses s h o = record { order = o.order; up = up-end s.lines }
begins task s h o = record { order = o.order; up = not-cut s.stage s.tasks _ h s.course.world.event s.lines o.up }

module _ (x : Setup) (h : Chance) (deed : Deed) (s : State) (o : Begun s) where
  made-ordered : (c : Course) → s.course.world.event ≤ c.world.event → IsOrdered (made_to x h deed c s)
  made-ordered c rise = by (is_too_much deed c)
    where
      texts : List Text
      texts = texts_of x h deed s.course.world c.world

      by : (b : Bool) → IsOrdered (if b then cut_short s else come_to x h deed c s)
      by true = record { order = o.order; up = tt }
      by false = record {
        order = more-order (when_of s) texts s.lines o.order o.up;
        up = from-up s.stage c.world.event _ (up-later (when_of s) (when_at s.stage c.world.event) (rises s.stage s.course.world.event c.world.event rise) _ (more-up (when_of s) texts s.lines o.up));
      }

step-ordered : (x : Setup) (s t : State) → MayStep x s t → IsOrdered s → IsOrdered t
step-ordered x s t m o = subst IsOrdered (sym m.state_is)
    (made-ordered x m.chance (deed_of x m.chance m.task s) (begun m.task s) (begins m.task s m.task_is o) _ (events-rise (deed_of x m.chance m.task s).steps (begun m.task s).course))

ordered : (x : Setup) (s t : State) → MayLead x s t → IsOrdered s → IsOrdered t
ordered x s t (none u) o = o
ordered x s t (more a b c m rest) o = ordered x b t rest (step-ordered x s b m o)

pub in-order : (x : Setup) (schedule : List Event) (files : AllFiles) (epochs : ServerNo → ℕ) (t : State) → MayLead x (before x schedule files epochs) t → are_in_order t.lines ≡ true
in-order x schedule files epochs t m = (ordered x (before x schedule files epochs) t m start).order
  where
    start : IsOrdered (before x schedule files epochs)
    start = record { order = refl; up = refl }
