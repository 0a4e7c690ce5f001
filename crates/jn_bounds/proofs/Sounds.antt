-- What holds of the course of a run at each moment.
use Rattle.jn_bounds.proofs.Common.{◌≡◌, ◌≤◌, ℕ, Bool, true, false, List, [], Some, None, refl, sym, subst, arith, nat_lt, if◌then◌else◌, ServerNo, Event, World, new_memory, IsRun, go_on, Sound, go-on-sound, Setup, Task, Dismisses, State, begun, Deed, Devices, deed_of, is_too_much, come_to, cut_short, none, more, Moment, DoesStep, Leads, closed_world, IsWritten}
use Rattle.jn_order.specs.Files.{AllFiles}
use Rattle.jn_system.specs.WholeSystem.LockFacts.{ServerFact, LockFacts}
use Rattle.jn_system.proofs.WholeSystem.Steps.{opening-keeps}
use Rattle.jn_system_settling.specs.Settling.Sizes.{ServerSizes, Sizes}
use Rattle.jn_system_settling.proofs.Settling.WorldSizes.{opening-sizes}

-- ---- from one moment to another

module _ (x : Setup) (at_most : x.servers ≤ 8) (start : World) where
  abbrev Holds : State → Type 0
  Holds s = Sound x.servers start s.course

  begins : (task : Task) (s : State) → Holds s → Holds (begun task s)
  begins Dismisses s h = record { course = record { is_run = h.course.is_run; stands = h.course.stands }; locks = h.locks; sizes = h.sizes; below = refl }
  begins task s h = h

  same-world : (task : Task) (s : State) → s.course.world ≡ (begun task s).course.world
  same-world Dismisses s = refl
  same-world task s = refl

  one-step : (a c : Moment) → DoesStep x a c → Holds a.state → Holds c.state
  one-step a c d h = subst Holds (sym d.state_is) (by (is_too_much deed (go_on deed.steps s.course)))
    where
      s : State
      s = begun d.task a.state

      deed : Deed
      deed = deed_of x d.chance d.task a.state

      is-run : IsRun deed.steps s.course.world
      is-run = subst (λ (w : World). IsRun deed.steps w) (same-world d.task a.state) d.befalls.steps

      by : (b : Bool) → Holds (if b then cut_short s else come_to x d.chance deed (go_on deed.steps s.course) s)
      by true = begins d.task a.state h
      by false = go-on-sound x.servers at_most start deed.steps s.course (begins d.task a.state h) is-run

  pub all-steps : (a b : Moment) → Leads x a b → Holds a.state → Holds b.state
  all-steps a b (none m) h = h
  all-steps a b (more u c v d rest) h = all-steps c v rest (one-step u c d h)

-- ---- from the start

module _ (servers : ℕ) (files : AllFiles) (epochs : ServerNo → ℕ) where
  clash : {A B : Type 0} (b : B) → None ≡ Some b → A
  clash b e = absurd (no' e)
    where
      no' : None ≡ Some b → ⊥
      no' z = cc

  closed-locks : LockFacts (closed_world servers files epochs)
  closed-locks s = by (nat_lt s.0 servers)
    where
      by : (b : Bool) → ServerFact s (if b then None else Some (new_memory s (epochs s))) ((closed_world servers files epochs).found s)
      by true = λ c. record { place = λ W p e. clash p e; no_later = λ W p e. clash p e; files = λ W p e. clash p e; apart = λ V W p q e. clash p e }
      by false = opening-keeps servers files epochs s

  closed-tables : (s : ServerNo) → ServerSizes servers ((closed_world servers files epochs).memory s) ((closed_world servers files epochs).found s)
  closed-tables s = by (nat_lt s.0 servers)
    where
      never : {A : Type 0} → false ≡ true → A
      never e = absurd (no' e)
        where
          no' : false ≡ true → ⊥
          no' z = cc

      by : (b : Bool) → ServerSizes servers (if b then None else Some (new_memory s (epochs s))) ((closed_world servers files epochs).found s)
      by true = λ c. record { works = record { names = []; few = omega arith; each = λ a e. never e }; flags = record { names = []; few = omega arith; each = λ a e. never e }; small = λ T f e. clash f e }
      by false = (opening-sizes servers files epochs).tables s

  closed-sizes : Sizes servers (closed_world servers files epochs)
  closed-sizes = let opening = opening-sizes servers files epochs in record { sent = opening.sent; clients = opening.clients; tables = closed-tables }

  pub closed-sound : Sound servers (closed_world servers files epochs) (record { world = closed_world servers files epochs; waiting = []; steps = [] })
  closed-sound = record { course = record { is_run = tt; stands = refl }; locks = closed-locks; sizes = closed-sizes; below = refl }

pub written-sound : (x : Setup) → x.servers ≤ 8 → (schedule : List Event) (images : Devices) (a : Moment) (run : IsWritten x schedule images a) → Sound x.servers (closed_world x.servers run.files run.epochs) a.state.course
written-sound x at_most schedule images a run = all-steps x at_most (closed_world x.servers run.files run.epochs) _ a run.leads (closed-sound x.servers run.files run.epochs)
