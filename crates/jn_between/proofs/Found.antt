-- The world of each moment is what steps of the system lead to, and what is found in it is what is found on the pages.
use Rattle.jn_between.proofs.Common.{◌≡◌, ◌≢◌, ◌⊎◌, inl, inr, ℕ, ◌/◌, Bool, true, false, if◌then◌else◌, is_some, List, [], ◌++◌, refl, sym, ◌∙◌, ap, subst, ServerNo, server_eq, World, Step, IsRun, run, go_on, Setup, Chance, Task, Dismisses, InSchedule, AtEnd, CutShort, State, begun, deed_of, is_too_much, come_to, cut_short, Devices, Alone, IsServed, IsLookedOver, IsRecovery, IsUsed, AreFound, none, more, Moment, DoesStep, Leads, goes-or-cut, go-world, run-both, is-run-both, arith, ◌<◌, IsFresh, IsScrubbed, IsCalled, allowed}
use Rattle.std.proofs.Math.Nat.{mul-div_cancel_left}
use Rattle.jn_base.proofs.Tells.{server_tells}
use Rattle.jn_device.specs.Device.{DeviceState}
use Rattle.jn_device.specs.Events.{powered_off, Decays as PageDecays, Revives as PageRevives, Arms as FaultArmed}
use Rattle.jn_store.specs.Pairs.{pairs_view}
use Rattle.jn_machine.specs.Deeds.{Use, Nothing, Calls, Reads, Recovers, PowersOff, Decays, Revives, Arms, Disarms, Deed, Cleans}
use Rattle.jn_headline.proofs.Came.{stuck}
use Rattle.jn_machine.proofs.Called.{called-store}

-- a task is begun in the same world
same-world : (task : Task) (s : State) → (begun task s).course.world ≡ s.course.world
same-world Dismisses s = refl
same-world task s = refl

-- a step is done, or the run is cut short by it
data Does (x : Setup) (a b : Moment) : Type 0 where
  cut : b.state.course.world ≡ a.state.course.world → b.state.stage ≡ CutShort → Does x a b
  did : (steps : List Step) → IsRun steps a.state.course.world → b.state.course.world ≡ run steps a.state.course.world → AreFound x b.state.course.world b.devices → Does x a b

does : (x : Setup) (a b : Moment) → DoesStep x a b → Does x a b
does x a b d = by (goes-or-cut x d.chance deed (begun d.task a.state) b.state d.state_is)
  where
    deed : Deed
    deed = deed_of x d.chance d.task a.state

    by : ((b.state ≡ cut_short (begun d.task a.state)) × (is_too_much deed (go_on deed.steps (begun d.task a.state).course) ≡ true))
        ⊎ ((b.state ≡ come_to x d.chance deed (go_on deed.steps (begun d.task a.state).course) (begun d.task a.state)) × (is_too_much deed (go_on deed.steps (begun d.task a.state).course) ≡ false)) → Does x a b
    by (inl k) = cut (ap (λ (s : State). s.course.world) k.0 ∙ same-world d.task a.state) (ap (λ (s : State). s.stage) k.0)
    by (inr k) = did deed.steps d.befalls.steps now (subst (λ (w : World). AreFound x w b.devices) (sym now) d.befalls.found)
      where
        now : b.state.course.world ≡ run deed.steps a.state.course.world
        now = ap (λ (s : State). s.course.world) k.0 ∙ go-world deed.steps (begun d.task a.state).course ∙ ap (λ (w : World). run deed.steps w) (same-world d.task a.state)

-- ---- what is found

pub found-then : (x : Setup) (a b : Moment) → AreFound x a.state.course.world a.devices → Leads x a b → (b.state.stage ≡ CutShort → ⊥) → AreFound x b.state.course.world b.devices
found-then x a b found (none m) going = found
found-then x a b found (more u v t d rest) going = by (does x u v d) (λ now. found-then x v t now rest going)
  where
    by : Does x u v → (AreFound x v.state.course.world v.devices → AreFound x t.state.course.world t.devices) → AreFound x t.state.course.world t.devices
    by (cut same stage) on = absurd (going (ap (λ (m : Moment). m.state.stage) (stuck x v t rest stage) ∙ stage))
    by (did steps may is now) on = on now

-- ---- how many pages there are

abbrev pages : DeviceState → ℕ
pages d = (pairs_view d).count

-- a device before a run has so many stable pages
pub fresh-pages : (n : ℕ) (d : DeviceState) → IsFresh n d → pages d ≡ n
fresh-pages n d f = ap (λ (c : ℕ). c / 2) f.count ∙ mul-div_cancel_left n some
  where
    some : 0 < 2
    some = omega arith

same-alone : (becomes : DeviceState → DeviceState → Type 0) (p : ServerNo) (ds es : Devices) → Alone p becomes ds es → ((d e : DeviceState) → becomes d e → pages e ≡ pages d) → (q : ServerNo) → pages (es q) ≡ pages (ds q)
same-alone becomes p ds es a stay q = by (server_tells p q)
  where
    by : ((server_eq p q ≡ true) × (p ≡ q)) ⊎ ((server_eq p q ≡ false) × (p ≢ q)) → pages (es q) ≡ pages (ds q)
    by (inl t) = subst (λ (s : ServerNo). pages (es s) ≡ pages (ds s)) t.1 (stay (ds p) (es p) a.its)
    by (inr t) = ap pages (a.others q t.0)

-- no call of a device changes that
called-pages : (most : ℕ) (h : Chance) (d e : DeviceState) → IsCalled most h d e → pages e ≡ pages d
called-pages most h d e c = ap pages c.after ∙ (let later = called-store most h d e c in later.count)

-- and no use of one
same-pages : (x : Setup) (h : Chance) (does_so : Use) (w now : World) (ds es : Devices) → IsUsed x h does_so w now ds es → (q : ServerNo) → pages (es q) ≡ pages (ds q)
same-pages x h Nothing w now ds es used q = ap pages (used q)
same-pages x h (Calls p most) w now ds es used q = same-alone (IsServed (x.counts p) most h w p) p ds es used (λ d e s. called-pages most h d e s.called) q
same-pages x h (Cleans p) w now ds es used q = same-alone (IsScrubbed (x.counts p) h w p) p ds es used (λ d e s. called-pages _ h d e s.served.called) q
same-pages x h (Reads p) w now ds es used q = same-alone (IsLookedOver (x.counts p) h w p) p ds es used (λ d e s. called-pages _ h d e s.called) q
same-pages x h (Recovers p) w now ds es used q = same-alone (IsRecovery p (x.counts p) h (is_some (now.memory p))) p ds es used (λ d e s. recovered d e (is_some (now.memory p)) s) q
  where
    either : (up : Bool) (d : DeviceState) → pages (if up then d else powered_off d) ≡ pages d
    either true d = refl
    either false d = refl

    recovered : (d e : DeviceState) (up : Bool) → IsRecovery p (x.counts p) h up d e → pages e ≡ pages d
    recovered d e up s = ap pages s.after ∙ either up s.last ∙ called-pages _ h s.powered s.last s.called ∙ ap (λ (n : ℕ). n / 2) s.power.count
same-pages x h (PowersOff p) w now ds es used q = same-alone (λ d e. e ≡ powered_off d) p ds es used (λ d e s. ap pages s) q
same-pages x h (Decays p n) w now ds es used q = same-alone (λ d e. PageDecays d n (allowed h.found) e) p ds es used (λ d e s. ap (λ (n : ℕ). n / 2) s.becomes.count) q
same-pages x h (Revives p n) w now ds es used q = same-alone (λ d e. PageRevives d n e) p ds es used (λ d e s. ap (λ (n : ℕ). n / 2) s.count) q
same-pages x h (Arms p n kind) w now ds es used q = same-alone (λ d e. FaultArmed d n kind (allowed h.found) e) p ds es used (λ d e s. ap pages s.armed) q
same-pages x h Disarms w now ds es used q = ap pages (used q)

pub pages-stay : (x : Setup) (a b : Moment) → Leads x a b → (q : ServerNo) → pages (b.devices q) ≡ pages (a.devices q)
pages-stay x a b (none m) q = refl
pages-stay x a b (more u v t d rest) q = pages-stay x v t rest q ∙ same-pages x d.chance (deed_of x d.chance d.task u.state).device u.state.course.world (run (deed_of x d.chance d.task u.state).steps u.state.course.world) u.devices v.devices d.befalls.used q

-- ---- its steps

pub record Led (w v : World) : Type 0 where
  pub steps : List Step
  pub may : IsRun steps w
  pub world : v ≡ run steps w

pub led-on : (u v w : World) → Led u v → Led v w → Led u w
led-on u v w a b = record {
  steps = a.steps ++ b.steps;
  may = is-run-both a.steps b.steps u a.may (subst (λ (z : World). IsRun b.steps z) a.world b.may);
  world = b.world ∙ ap (λ (z : World). run b.steps z) a.world ∙ sym (run-both a.steps b.steps u);
}

pub led-by : (x : Setup) (a b : Moment) → Leads x a b → Led a.state.course.world b.state.course.world
led-by x a b (none m) = record { steps = []; may = tt; world = refl }
led-by x a b (more u v t d rest) = by (does x u v d) (led-by x v t rest)
  where
    by : Does x u v → Led v.state.course.world t.state.course.world → Led u.state.course.world t.state.course.world
    by (cut same stage) on = record { steps = []; may = tt; world = ap (λ (m : Moment). m.state.course.world) (stuck x v t rest stage) ∙ same }
    by (did steps may is now) on = led-on u.state.course.world v.state.course.world t.state.course.world (record { steps = steps; may = may; world = is }) on

-- ---- the end goes on

-- once the end has begun, or the run is cut short, no event is done any more
pub ended-stays : (x : Setup) (a b : Moment) → Leads x a b → (a.state.stage ≡ InSchedule → ⊥) → b.state.stage ≡ InSchedule → ⊥
ended-stays x a b (none m) other e = other e
ended-stays x a b (more u v t d rest) other e = ended-stays x v t rest (later d.task (goes-or-cut x d.chance (deed_of x d.chance d.task u.state) (begun d.task u.state) v.state d.state_is)) e
  where
    apart : CutShort ≡ InSchedule → ⊥
    apart z = cc

    end-apart : AtEnd ≡ InSchedule → ⊥
    end-apart z = cc

    not-begun : (task : Task) → (begun task u.state).stage ≡ InSchedule → ⊥
    not-begun Dismisses z = end-apart z
    not-begun task z = other z

    later : (task : Task) → ((v.state ≡ cut_short (begun task u.state)) × (is_too_much (deed_of x d.chance task u.state) (go_on (deed_of x d.chance task u.state).steps (begun task u.state).course) ≡ true))
        ⊎ ((v.state ≡ come_to x d.chance (deed_of x d.chance task u.state) (go_on (deed_of x d.chance task u.state).steps (begun task u.state).course) (begun task u.state)) × (is_too_much (deed_of x d.chance task u.state) (go_on (deed_of x d.chance task u.state).steps (begun task u.state).course) ≡ false)) → v.state.stage ≡ InSchedule → ⊥
    later task (inl k) z = apart (sym (ap (λ (s : State). s.stage) k.0) ∙ z)
    later task (inr k) z = not-begun task (sym (ap (λ (s : State). s.stage) k.0) ∙ z)
