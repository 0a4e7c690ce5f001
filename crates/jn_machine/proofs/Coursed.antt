-- The steps of a run with devices are a run of the whole system.
use Rattle.jn_machine.proofs.Common.{◌≡◌, Bool, true, false, List, [], ◌∷◌, ◌++◌, refl, sym, ◌∙◌, ap, subst, if◌then◌else◌, World, Step, IsStep, IsRun, after, run, Course, go, go_on, Setup, Chance, Task, Dismisses, State, begun, Deed, deed_of, is_too_much, come_to, cut_short, made, none, more, Moment, DoesStep, Leads, IsOnCourse}

run-more : (a : List Step) (step : Step) (w : World) → run (a ++ step ∷ []) w ≡ after step (run a w)
run-more [] step w = refl
run-more (b ∷ a) step w = run-more a step (after b w)

run-is : (a : List Step) (step : Step) (w : World) → IsRun a w → IsStep step (run a w) → IsRun (a ++ step ∷ []) w
run-is [] step w h i = (i, tt)
run-is (b ∷ a) step w h i = (h.0, run-is a step (after b w) h.1 i)

module _ (w : World) where
  one-more : (step : Step) (c : Course) → IsOnCourse w c → IsStep step c.world → IsOnCourse w (go step c)
  one-more step c o i = record {
    steps = run-is c.steps step w o.steps (subst (λ (v : World). IsStep step v) o.world i);
    world = ap (λ (v : World). after step v) o.world ∙ sym (run-more c.steps step w);
  }

  many-more : (steps : List Step) (c : Course) → IsOnCourse w c → IsRun steps c.world → IsOnCourse w (go_on steps c)
  many-more [] c o h = o
  many-more (step ∷ steps) c o h = many-more steps (go step c) (one-more step c o h.0) h.1

  begins : (task : Task) (s : State) → IsOnCourse w s.course → IsOnCourse w (begun task s).course
  begins Dismisses s o = record { steps = o.steps; world = o.world }
  begins task s o = o

  same-world : (task : Task) (s : State) → s.course.world ≡ (begun task s).course.world
  same-world Dismisses s = refl
  same-world task s = refl

  makes : (x : Setup) (h : Chance) (deed : Deed) (s : State) → IsOnCourse w s.course → IsRun deed.steps s.course.world → IsOnCourse w (made x h deed s).course
  makes x h deed s o r = by (is_too_much deed (go_on deed.steps s.course))
    where
      by : (b : Bool) → IsOnCourse w (if b then cut_short s else come_to x h deed (go_on deed.steps s.course) s).course
      by true = o
      by false = many-more deed.steps s.course o r

  does : (x : Setup) (a b : Moment) → DoesStep x a b → IsOnCourse w a.state.course → IsOnCourse w b.state.course
  does x a b d o = subst (λ (s : State). IsOnCourse w s.course) (sym d.state_is)
      (makes x d.chance (deed_of x d.chance d.task a.state) (begun d.task a.state) (begins d.task a.state o)
      (subst (λ (v : World). IsRun (deed_of x d.chance d.task a.state).steps v) (same-world d.task a.state) d.befalls.steps))

  pub on-course : (x : Setup) (a b : Moment) → Leads x a b → IsOnCourse w a.state.course → IsOnCourse w b.state.course
  on-course x a b (none m) o = o
  on-course x a b (more u v t d rest) o = on-course x v b rest (does x u v d o)
