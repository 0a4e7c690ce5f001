-- A run of one server, step by step up to where a settle ends.
use Rattle.jn_wrong.proofs.Common.{◌≡◌, ◌⊎◌, inl, inr, ℕ, zero, suc, ◌<◌, Bool, true, false, List, [], ◌∷◌, drop, Option, Some, None, is_some, refl, sym, ◌∙◌, ap, subst, arith, if◌then◌else◌, ServerNo, ClientNo, Command, DeviceState, Event, stable, World, go_on, Setup, Chance, Task, Begins, Meets, Rests, State, Stage, InSchedule, AtEnd, CutShort, next_at, next_task, begun, Deed, nothing, first_busy, servers_of, next_event, resting, deed_of, is_too_much, cut_short, come_to, made, done, next, next_by, none, more, Moment, Leads, Befalls, rubbish_on, pages_of, IsQuiet, s0, rubbish_count, pool_on, CountsAll}
use Rattle.jn_wrong.proofs.StillRuns.{still, goes, GoesSo, DoesSo, DoesNext, rests_so}
use Rattle.jn_schedule.specs.declared.Event.TheVariants as events
use Rattle.jn_wrong.proofs.Bare.{bare}
use Rattle.jn_wrong.proofs.Driving.{Stand, IsStill, Driven, drive, quiet-one}
use Rattle.jn_wrong.proofs.Exact.{no-task, one-step, Result, Well, well-after}
use Rattle.jn_wrong.proofs.Resting.{rests}
use Rattle.jn_wrong.proofs.Unused.{no-rubbish-there}

module _ (x : Setup) (one : x.servers ≡ 1) (last : Moment) (over : next_task last.state ≡ None) where
  first : s0.0 < x.servers
  first = subst (λ (n : ℕ). 0 < n) (sym one) (omega arith)

  -- ---- so many steps of the run

  -- it comes to this state, and goes on to its end
  pub record Reached (s : State) : Type 0 where
    pub moment : Moment
    pub leads : Leads x moment last
    pub state : bare moment.state ≡ bare s
    pub well : Well x moment.state moment.devices

  -- a step at which nothing can strike, with the erasures before it
  next-one : (s : State) (task : Task) → next_task s ≡ Some task → DoesSo x task s → (a : Moment) → Leads x a last → bare a.state ≡ bare s → IsQuiet x s.course.world a.devices → Reached (done x still task s)
  unfolding drive
  next-one s task n so a (none m) e quiet = no-task task (sym over ∙ ap next_task e ∙ n)
  next-one s task n so a (more u c v d rest) e quiet = by (one-step x step.chance s a.devices c.devices quiet task n so step.befalls) (λ z q. next-one s task n so c rest z q)
    where
      step : Driven x one last over s task a
      step = drive x one last over s task a (more u c v d rest) e n

      by : Result x step.chance task s c.devices → (bare c.state ≡ bare s → IsQuiet x s.course.world c.devices → Reached (done x still task s)) → Reached (done x still task s)
      by (inl f) again = record {
        moment = c;
        leads = rest;
        state = step.state ∙ f.same;
        well = subst (λ (t : State). Well x t c.devices) (sym step.state) (well-after x step.chance task s c.devices f.quiet);
      }
      by (inr r) again = again (step.state ∙ r.0) r.1

  next-so : (s : State) → DoesNext x (next_task s) s → Reached s → Reached (next x still s)
  next-so s so r = by (next_task s) refl so
    where
      by : (o : Option Task) → next_task s ≡ o → DoesNext x o s → Reached (next_by x still o s)
      by None n z = r
      by (Some task) n z = at r.well
        where
          at : Well x r.moment.state r.moment.devices → Reached (done x still task s)
          at (inr idle) = no-task task (sym idle ∙ ap next_task r.state ∙ n)
          at (inl quiet) = next-one s task n z r.moment r.leads r.state (subst (λ (t : State). IsQuiet x t.course.world r.moment.devices) r.state quiet)

  pub reaches : (n : ℕ) (s : State) → GoesSo x n s → Reached s → Reached (goes x n s)
  reaches zero s so r = r
  reaches (suc n) s so r = reaches n (next x still s) so.1 (next-so s so.0 r)

  -- ---- the last step of a settle

  -- what nothing waits for and nothing is left of
  module _ (s : State) (e : Event) (rests' : next_task s ≡ Some Rests) (tasks : s.tasks ≡ Rests ∷ drop 1 s.tasks) (waits : s.course.waiting ≡ []) (so : rests_so x s.course.world [] ≡ true)
      (busy : (r : ServerNo → Bool) → first_busy r s.course.world (servers_of x) ≡ (if r s0 then Some s0 else None)) (goes_on : next_task (done x still Rests s) ≡ Some (Begins e)) (up : is_some (s.course.world.memory s0) ≡ true) where
    abbrev w : World
    w = s.course.world

    abbrev s' : State
    s' = begun Rests s

    -- nothing is stored but what the world has, and no record is rubbish
    pub record IsClear (d : DeviceState) : Type 0 where
      pub still : IsStill d
      pub counted : CountsAll (x.counts s0) (stable (w.found s0)) (pages_of d)
      pub rubbish : rubbish_count (pool_on (x.counts s0) (pages_of d)) ≡ 0

    abbrev deed_with : Chance → Bool → Deed
    deed_with h r = resting x h s.clients w (next_event [] (if r then Some s0 else None))

    deed-is : (h : Chance) → deed_of x h Rests s ≡ deed_with h (h.rubbish s0)
    deed-is h = ap (λ (ks : List ℕ). resting x h s.clients w (next_event ks (first_busy h.rubbish w (servers_of x)))) waits ∙ ap (λ (o : Option ServerNo). resting x h s.clients w (next_event [] o)) (busy h.rubbish)

    -- while a record is erased, no event begins
    not-begun : (h : Chance) → next_task (made x h (deed_with h true) s') ≡ Some (Begins e) → ⊥
    not-begun h = by (is_too_much (deed_with h true) (go_on (deed_with h true).steps s'.course))
      where
        at : (stage : Stage) → next_at stage (Rests ∷ s'.tasks) ≡ Some (Begins e) → ⊥
        at InSchedule k = cc
        at AtEnd k = cc
        at CutShort k = cc

        by : (b : Bool) → next_task (if b then cut_short s' else come_to x h (deed_with h true) (go_on (deed_with h true).steps s'.course) s') ≡ Some (Begins e) → ⊥
        by true k = cc
        by false k = at s.stage k

    settled : (a : Moment) → Leads x a last → bare a.state ≡ bare s → IsStill (a.devices s0) → Stand x last (done x still Rests s) IsClear
    unfolding drive
    settled a (none m) z still' = no-task Rests (sym over ∙ ap next_task z ∙ rests')
    settled a (more u c v d rest) z still' = by (h.rubbish s0) refl (λ k q. settled c rest k q)
      where
        step : Driven x one last over s Rests a
        step = drive x one last over s Rests a (more u c v d rest) z rests'

        h : Chance
        h = step.chance

        quiet : IsQuiet x w a.devices
        quiet = quiet-one x one last over w a.devices still'.told still'.waiting (λ k. still'.power)

        erased : h.rubbish s0 ≡ true → (bare c.state ≡ bare s → IsStill (c.devices s0) → Stand x last (done x still Rests s) IsClear) → Stand x last (done x still Rests s) IsClear
        erased r again = at (rests x h s a.devices c.devices quiet tasks (subst (λ (ks : List ℕ). rests_so x w ks ≡ true) (sym waits) so) step.befalls)
          where
            at : ((bare (done x h Rests s) ≡ bare (done x still Rests s)) × IsQuiet x (go_on (deed_of x h Rests s).steps s.course).world c.devices) ⊎ ((bare (done x h Rests s) ≡ bare s) × IsQuiet x w c.devices)
                → Stand x last (done x still Rests s) IsClear
            at (inl k) = absurd (not-begun h (sym (ap (λ (b : Bool). next_task (made x h (deed_with h b) s')) r) ∙ sym (ap (λ (deed : Deed). next_task (made x h deed s')) (deed-is h)) ∙ ap next_task k.0 ∙ goes_on))
            at (inr k) = again (step.state ∙ k.0) (record { waiting = k.1.waiting s0 first; told = k.1.told s0 first; power = k.1.power s0 first up })

        ended : h.rubbish s0 ≡ false → Stand x last (done x still Rests s) IsClear
        ended r = at (subst (λ (deed : Deed). Befalls x h deed w a.devices c.devices) (deed-is h ∙ ap (deed_with h) r) step.befalls)
          where
            at : Befalls x h nothing w a.devices c.devices → Stand x last (done x still Rests s) IsClear
            at b = record {
              moment = c;
              leads = rest;
              state = step.state ∙ ap (λ (deed : Deed). bare (made x h deed s')) (deed-is h ∙ ap (deed_with h) r) ∙ sym (ap (λ (deed : Deed). bare (made x still deed s')) (deed-is still));
              device = record {
                still = subst IsStill (sym (b.used s0)) still';
                counted = b.counted s0 first up;
                rubbish = no-rubbish-there (x.counts s0) (pages_of (c.devices s0)) (ap (λ (device : DeviceState). rubbish_on x (λ p. device) s0) (b.used s0) ∙ sym (b.rubbish s0) ∙ r);
              };
            }

        by : (r : Bool) → h.rubbish s0 ≡ r → (bare c.state ≡ bare s → IsStill (c.devices s0) → Stand x last (done x still Rests s) IsClear) → Stand x last (done x still Rests s) IsClear
        by true r again = erased r again
        by false r again = ended r

    pub settles-clear : Reached s → Stand x last (done x still Rests s) IsClear
    settles-clear r = by r.well
      where
        by : Well x r.moment.state r.moment.devices → Stand x last (done x still Rests s) IsClear
        by (inr idle) = no-task Rests (sym idle ∙ ap next_task r.state ∙ rests')
        by (inl quiet) = settled r.moment r.leads r.state (record { waiting = quiet.waiting s0 first; told = quiet.told s0 first; power = quiet.power s0 first (ap (λ (t : State). is_some (t.course.world.memory s0)) r.state ∙ up) })

  -- ---- commands and settles

  pub tells-one : (s : State) (c : ClientNo) (command : Command) (P : DeviceState → Type 0) → next_task s ≡ Some (Meets (events.Command c command)) → Stand x last s P → Stand x last (done x still (Meets (events.Command c command)) s) P
  tells-one s c command P n h = by (drive x one last over s (Meets (events.Command c command)) h.moment h.leads h.state n)
    where
      by : Driven x one last over s (Meets (events.Command c command)) h.moment → Stand x last (done x still (Meets (events.Command c command)) s) P
      by d = record { moment = d.next; leads = d.leads; state = d.state; device = subst P (sym (let b = d.befalls in b.used s0)) h.device }

  pub settles-one : (s : State) (P : DeviceState → Type 0) → next_task s ≡ Some (Meets events.Settle) → Stand x last s P → Stand x last (done x still (Meets events.Settle) s) P
  settles-one s P n h = by (drive x one last over s (Meets events.Settle) h.moment h.leads h.state n)
    where
      by : Driven x one last over s (Meets events.Settle) h.moment → Stand x last (done x still (Meets events.Settle) s) P
      by d = record { moment = d.next; leads = d.leads; state = d.state; device = subst P (sym (let b = d.befalls in b.used s0)) h.device }
