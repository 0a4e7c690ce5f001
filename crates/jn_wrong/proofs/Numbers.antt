-- No line stands at an event that has not begun.
use Rattle.jn_wrong.proofs.Common.{◌≡◌, ◌≤◌, ℕ, ◌+◌, Bool, true, false, List, [], ◌∷◌, length, refl, sym, ◌∙◌, ap, subst, arith, ◌&&◌, if◌then◌else◌, nat_tests, ServerNo, AllFiles, Event, When, AtEvent, End, Text, Line, World, go_on, Setup, Chance, Task, Dismisses, Stage, InSchedule, AtEnd, CutShort, State, when_at, when_of, begun, Deed, deed_of, texts_of, lines_at, is_too_much, come_to, cut_short, done, none, more, MayLead, before, begun-lines, events-rise, is_by, are_by}
use Rattle.jn_machine.specs.Kinds.{events_left}
use Rattle.std.proofs.lemmas.List.Folds.{list_all-append}
use Rattle.jn_machine.proofs.Counted.{events-counted}

both : (a b : Bool) → a ≡ true → b ≡ true → (a && b) ≡ true
both a b h k = grind arith

first : (a b : Bool) → (a && b) ≡ true → a ≡ true
first a b h = grind arith

second : (a b : Bool) → (a && b) ≡ true → b ≡ true
second a b h = grind arith

later : (m n : ℕ) (w : When) → m ≤ n → is_by m w ≡ true → is_by n w ≡ true
later m n (AtEvent i) l h = grind (arith, nat_tests, l, h)
later m n End l h = refl

all-later : (m n : ℕ) (lines : List Line) → m ≤ n → are_by m lines ≡ true → are_by n lines ≡ true
all-later m n [] l h = refl
all-later m n (line ∷ lines) l h = both (is_by n line.when) (are_by n lines) (later m n line.when l (first (is_by m line.when) (are_by m lines) h)) (all-later m n lines l (second (is_by m line.when) (are_by m lines) h))

now : (stage : Stage) (n : ℕ) → is_by n (when_at stage n) ≡ true
now AtEnd n = refl
now InSchedule n = grind (arith, nat_tests)
now CutShort n = grind (arith, nat_tests)

new-lines : (n : ℕ) (w : When) (texts : List Text) → is_by n w ≡ true → are_by n (lines_at w texts) ≡ true
new-lines n w [] h = refl
new-lines n w (text ∷ texts) h = both (is_by n w) (are_by n (lines_at w texts)) h (new-lines n w texts h)

world-begun : (task : Task) (s : State) → (begun task s).course.world ≡ s.course.world
world-begun Dismisses s = refl
world-begun task s = refl

abbrev Holds : State → Type 0
Holds s = are_by s.course.world.event s.lines ≡ true

one-step : (x : Setup) (h : Chance) (task : Task) (s : State) → Holds s → Holds (done x h task s)
one-step x h task s holds = by (is_too_much deed (go_on deed.steps u.course))
  where
    deed : Deed
    deed = deed_of x h task s

    u : State
    u = begun task s

    old : Holds u
    old = ap (λ (w : World). are_by w.event u.lines) (world-begun task s) ∙ ap (λ (ls : List Line). are_by s.course.world.event ls) (begun-lines task s) ∙ holds

    event : ℕ
    event = (go_on deed.steps u.course).world.event

    texts : List Text
    texts = texts_of x h deed u.course.world (go_on deed.steps u.course).world

    by : (b : Bool) → Holds (if b then cut_short u else come_to x h deed (go_on deed.steps u.course) u)
    by true = old
    by false = list_all-append (λ (l : Line). is_by event l.when) u.lines (lines_at (when_of u) texts)
        ∙ both (are_by event u.lines) (are_by event (lines_at (when_of u) texts)) (all-later u.course.world.event event u.lines (events-rise deed.steps u.course) old)
        (new-lines event (when_of u) texts (later u.course.world.event event (when_of u) (events-rise deed.steps u.course) (now u.stage u.course.world.event)))

all-steps : (x : Setup) (s t : State) → MayLead x s t → Holds s → Holds t
all-steps x s t (none u) holds = holds
all-steps x s t (more a b c m rest) holds = all-steps x b t rest (subst Holds (sym m.state_is) (one-step x m.chance m.task s holds))

pub have-begun : (x : Setup) (schedule : List Event) (files : AllFiles) (epochs : ServerNo → ℕ) (t : State) → MayLead x (before x schedule files epochs) t → are_by t.course.world.event t.lines ≡ true
have-begun x schedule files epochs t leads = all-steps x (before x schedule files epochs) t leads refl

pub of-schedule : (x : Setup) (schedule : List Event) (files : AllFiles) (epochs : ServerNo → ℕ) (t : State) → MayLead x (before x schedule files epochs) t → (t.stage ≡ CutShort → ⊥) → are_by (length schedule) t.lines ≡ true
of-schedule x schedule files epochs t leads whole = all-later t.course.world.event (length schedule) t.lines (at-most t.course.world.event (events_left t.tasks) (length schedule) (events-counted x schedule files epochs t leads whole)) (have-begun x schedule files epochs t leads)
  where
    at-most : (a b n : ℕ) → a + b ≡ n → a ≤ n
    at-most a b n e = omega (arith, e)
