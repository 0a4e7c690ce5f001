-- A run of one server whose events are faults and crashes, step by step to its end.
use Rattle.jn_wrong.proofs.Common.{◌≡◌, inl, ℕ, ◌<◌, Bool, true, false, List, [], drop, Option, Some, None, is_some, refl, sym, ◌∙◌, ap, subst, arith, ServerNo, DeviceState, Outside, Event, EventRefusal, Text, Pick, World, Memory, run, go_on, Setup, Chance, allowed, Task, Begins, Meets, Dismisses, State, next_task, begun, Deed, Use, Devices, Alone, Befalls, IsRecovery, IsLookedOver, IsCalled, showing, deed_of, met, acted, outside_texts, made, done, none, more, Moment, Leads, IsQuiet, recovered, is_used_up, crashed_at, refusal_of, ◌*◌, cleaned_get_calls, s0, uses, IsUsed, disarmed, powered_off, recovered-calm, called-calm, Raised, no-faults, scrubbed, stopped_idle, IsScrubbed, found_on, pairs_view, Left}
use Rattle.jn_wrong.proofs.StillRuns.{PrintsNothing, IsBlank, still, goes, GoesSo}
use Rattle.jn_schedule.specs.declared.Event.TheVariants as events
use Rattle.jn_wrong.proofs.Bare.{bare, bare_course, done-bare, made-same}
use Rattle.jn_wrong.proofs.Chanced.{comes-so, not-used, looks-same, is-met}
use Rattle.jn_wrong.proofs.Exact.{deed-bare, no-task, sim}

-- it is the only server
pub only-server : (q : ServerNo) → q.0 < 1 → s0 ≡ q
only-server q l = sym (ap (λ (n : ℕ). record { 0 = n }) (zero-only q.0 l))
  where
    zero-only : (n : ℕ) → n < 1 → n ≡ 0
    zero-only n k = omega (arith, k)

-- a run that leads to its end stands here, and this holds of its device
pub record Stand (x : Setup) (last : Moment) (s : State) (P : DeviceState → Type 0) : Type 0 where
  pub moment : Moment
  pub leads : Leads x moment last
  pub state : bare moment.state ≡ bare s
  pub device : P (moment.devices s0)

-- nothing strikes any more
pub record IsStill (d : DeviceState) : Type 0 where
  pub waiting : d.waiting ≡ []
  pub told : d.told ≡ []
  pub power : d.power ≡ true

-- what befalls the device between its calls was done, and this reported
abbrev pub answered : Setup → State → Event → Use → List Text → State
answered x s e device texts = made x still (uses s0 device texts) (begun (Meets e) s)

module _ (x : Setup) (one : x.servers ≡ 1) (last : Moment) (over : next_task last.state ≡ None) where
  -- ---- one step

  pub record Driven (s : State) (task : Task) (a : Moment) : Type 0 where
    pub chance : Chance
    pub next : Moment
    pub state : bare next.state ≡ bare (done x chance task s)
    pub befalls : Befalls x chance (deed_of x chance task s) s.course.world a.devices next.devices
    pub leads : Leads x next last

  unfoldable pub drive : (s : State) (task : Task) (a : Moment) → Leads x a last → bare a.state ≡ bare s → next_task s ≡ Some task → Driven s task a
  drive s task a (none m) e n = no-task task (sym over ∙ ap next_task e ∙ n)
  drive s task a (more u c v d rest) e n = record {
    chance = d.chance;
    next = c;
    state = ap bare d.state_is ∙ ap (λ (t : Task). bare (done x d.chance t a.state)) same ∙ done-bare x d.chance task a.state ∙ ap (λ (t : State). bare (done x d.chance task t)) e ∙ sym (done-bare x d.chance task s);
    befalls = subst (λ (deed : Deed). Befalls x d.chance deed s.course.world a.devices c.devices) (sym (deed-bare x d.chance task s))
        (subst (λ (t : State). Befalls x d.chance (deed_of x d.chance task t) t.course.world a.devices c.devices) e
        (subst (λ (deed : Deed). Befalls x d.chance deed a.state.course.world a.devices c.devices) (deed-bare x d.chance task a.state)
        (subst (λ (t : Task). Befalls x d.chance (deed_of x d.chance t a.state) a.state.course.world a.devices c.devices) same d.befalls)));
    leads = rest;
  }
    where
      some : {p r : Task} → Some p ≡ Some r → p ≡ r
      some k = cc

      same : d.task ≡ task
      same = some (sym d.task_is ∙ ap next_task e ∙ n)

  pub quiet-one : (w : World) (ds : Devices) → (ds s0).told ≡ [] → (ds s0).waiting ≡ [] → (is_some (w.memory s0) ≡ true → (ds s0).power ≡ true) → IsQuiet x w ds
  quiet-one w ds untold still' lit = record {
    power = λ q l. subst (λ (z : ServerNo). is_some (w.memory z) ≡ true → (ds z).power ≡ true) (at q l) lit;
    told = λ q l. subst (λ (z : ServerNo). (ds z).told ≡ []) (at q l) untold;
    waiting = λ q l. subst (λ (z : ServerNo). (ds z).waiting ≡ []) (at q l) still';
  }
    where
      at : (q : ServerNo) → q.0 < x.servers → s0 ≡ q
      at q l = only-server q (subst (λ (n : ℕ). q.0 < n) one l)

  -- ---- each kind of step

  -- an event begins
  pub begins-one : (s : State) (e : Event) (P : DeviceState → Type 0) → next_task s ≡ Some (Begins e) → Stand x last s P → Stand x last (done x still (Begins e) s) P
  begins-one s e P n h = by (drive s (Begins e) h.moment h.leads h.state n)
    where
      by : Driven s (Begins e) h.moment → Stand x last (done x still (Begins e) s) P
      by d = record { moment = d.next; leads = d.leads; state = d.state; device = subst P (sym (let b = d.befalls in b.used s0)) h.device }

  -- what befalls the device between its calls is done
  pub answers-one : (s : State) (e : Event) (device : Use) (texts : Bool → List Text) (answer : Bool) (P P' : DeviceState → Type 0) → next_task s ≡ Some (Meets e) → refusal_of x s.course.world e ≡ None
      → ((h : Chance) → acted x h e s.clients s.course.world ≡ uses s0 device (texts (allowed h.found))) → ((told : List Outside) → outside_texts device told ≡ [])
      → ((h : Chance) (ds es : Devices) → IsUsed x h device s.course.world s.course.world ds es → P (ds s0) → (allowed h.found ≡ answer) × P' (es s0))
      → Stand x last s P → Stand x last (answered x s e device (texts answer)) P'
  answers-one s e device texts answer P P' n unrefused acts silent tells h = by (drive s (Meets e) h.moment h.leads h.state n)
    where
      deed-is : (g : Chance) → deed_of x g (Meets e) s ≡ uses s0 device (texts (allowed g.found))
      deed-is g = ap (λ (o : Option EventRefusal). met x g e s.clients s.course.world o) unrefused ∙ acts g

      by : Driven s (Meets e) h.moment → Stand x last (answered x s e device (texts answer)) P'
      by d = at (subst (λ (deed : Deed). Befalls x d.chance deed s.course.world h.moment.devices d.next.devices) (deed-is d.chance) d.befalls)
        where
          at : Befalls x d.chance (uses s0 device (texts (allowed d.chance.found))) s.course.world h.moment.devices d.next.devices → Stand x last (answered x s e device (texts answer)) P'
          at b = let t = tells d.chance h.moment.devices d.next.devices b.used h.device in record {
            moment = d.next;
            leads = d.leads;
            state = d.state ∙ ap (λ (deed : Deed). bare (made x d.chance deed (begun (Meets e) s))) (deed-is d.chance)
                ∙ made-same x d.chance (uses s0 device (texts (allowed d.chance.found))) [] (begun (Meets e) s) (silent d.chance.told) (silent []) refl
                ∙ ap (λ (c : Bool). bare (made x still (uses s0 device (texts c)) (begun (Meets e) s))) t.0;
            device = t.1;
          }

  -- the same, where it gives no answer
  pub silently-one : (s : State) (e : Event) (device : Use) (P P' : DeviceState → Type 0) → next_task s ≡ Some (Meets e) → refusal_of x s.course.world e ≡ None
      → ((h : Chance) → acted x h e s.clients s.course.world ≡ uses s0 device []) → ((told : List Outside) → outside_texts device told ≡ [])
      → ((h : Chance) (ds es : Devices) → IsUsed x h device s.course.world s.course.world ds es → P (ds s0) → P' (es s0))
      → Stand x last s P → Stand x last (answered x s e device []) P'
  silently-one s e device P P' n unrefused acts silent becomes h = by (drive s (Meets e) h.moment h.leads h.state n)
    where
      deed-is : (g : Chance) → deed_of x g (Meets e) s ≡ uses s0 device []
      deed-is g = ap (λ (o : Option EventRefusal). met x g e s.clients s.course.world o) unrefused ∙ acts g

      by : Driven s (Meets e) h.moment → Stand x last (answered x s e device []) P'
      by d = at (subst (λ (deed : Deed). Befalls x d.chance deed s.course.world h.moment.devices d.next.devices) (deed-is d.chance) d.befalls)
        where
          at : Befalls x d.chance (uses s0 device []) s.course.world h.moment.devices d.next.devices → Stand x last (answered x s e device []) P'
          at b = record {
            moment = d.next;
            leads = d.leads;
            state = d.state ∙ ap (λ (deed : Deed). bare (made x d.chance deed (begun (Meets e) s))) (deed-is d.chance)
                ∙ made-same x d.chance (uses s0 device []) [] (begun (Meets e) s) (silent d.chance.told) (silent []) refl;
            device = becomes d.chance h.moment.devices d.next.devices b.used h.device;
          }

  -- the server goes down
  pub crashes-one : (s : State) (m : Memory) (P P' : DeviceState → Type 0) → next_task s ≡ Some (Meets (events.Crash s0)) → refusal_of x s.course.world (events.Crash s0) ≡ None → s.course.world.memory s0 ≡ Some m
      → ((d : DeviceState) → P d → P' (powered_off d)) → Stand x last s P → Stand x last (done x still (Meets (events.Crash s0)) s) P'
  crashes-one s m P P' n unrefused is-up goes-off h = by (drive s (Meets (events.Crash s0)) h.moment h.leads h.state n)
    where
      deed-is : (g : Chance) → deed_of x g (Meets (events.Crash s0)) s ≡ crashed_at s0 (Some m)
      deed-is g = ap (λ (o : Option EventRefusal). met x g (events.Crash s0) s.clients s.course.world o) unrefused ∙ ap (crashed_at s0) is-up

      by : Driven s (Meets (events.Crash s0)) h.moment → Stand x last (done x still (Meets (events.Crash s0)) s) P'
      by d = at (subst (λ (deed : Deed). Befalls x d.chance deed s.course.world h.moment.devices d.next.devices) (deed-is d.chance) d.befalls)
        where
          at : Befalls x d.chance (crashed_at s0 (Some m)) s.course.world h.moment.devices d.next.devices → Stand x last (done x still (Meets (events.Crash s0)) s) P'
          at b = record {
            moment = d.next;
            leads = d.leads;
            state = d.state ∙ ap (λ (deed : Deed). bare (made x d.chance deed (begun (Meets (events.Crash s0)) s))) (deed-is d.chance)
                ∙ sym (ap (λ (deed : Deed). bare (made x still deed (begun (Meets (events.Crash s0)) s))) (deed-is still));
            device = subst P' (sym (its b.used)) (goes-off (h.moment.devices s0) h.device);
          }
            where
              its : Alone s0 (λ d' e'. e' ≡ powered_off d') h.moment.devices d.next.devices → d.next.devices s0 ≡ powered_off (h.moment.devices s0)
              its a = a.its

  -- a scrub where nothing strikes
  pub scrubs-one : (s : State) (P P' : DeviceState → Type 0) → next_task s ≡ Some (Meets (events.Scrub s0)) → refusal_of x s.course.world (events.Scrub s0) ≡ None → ((d : DeviceState) → P d → IsStill d)
      → ((h : Chance) (d e : DeviceState) → IsScrubbed (x.counts s0) h s.course.world s0 d e → P d → h.stop ≡ None → P' e) → Stand x last s P → Stand x last (done x still (Meets (events.Scrub s0)) s) P'
  scrubs-one s P P' n unrefused quiet cleans h = by (drive s (Meets (events.Scrub s0)) h.moment h.leads h.state n)
    where
      deed-is : (g : Chance) → deed_of x g (Meets (events.Scrub s0)) s ≡ scrubbed g s0
      deed-is g = ap (λ (o : Option EventRefusal). met x g (events.Scrub s0) s.clients s.course.world o) unrefused

      by : Driven s (Meets (events.Scrub s0)) h.moment → Stand x last (done x still (Meets (events.Scrub s0)) s) P'
      by d = at (subst (λ (deed : Deed). Befalls x d.chance deed s.course.world h.moment.devices d.next.devices) (deed-is d.chance) d.befalls)
        where
          at : Befalls x d.chance (scrubbed d.chance s0) s.course.world h.moment.devices d.next.devices → Stand x last (done x still (Meets (events.Scrub s0)) s) P'
          at b = its b.used
            where
              its : Alone s0 (IsScrubbed (x.counts s0) d.chance s.course.world s0) h.moment.devices d.next.devices → Stand x last (done x still (Meets (events.Scrub s0)) s) P'
              its a = let z = quiet (h.moment.devices s0) h.device in let c = called-calm _ d.chance (h.moment.devices s0) (d.next.devices s0) a.its.served.called z.power z.told z.waiting in record {
                moment = d.next;
                leads = d.leads;
                state = d.state ∙ ap (λ (deed : Deed). bare (made x d.chance deed (begun (Meets (events.Scrub s0)) s))) (deed-is d.chance)
                    ∙ made-same x d.chance (scrubbed d.chance s0) [] (begun (Meets (events.Scrub s0)) s) (no-faults s0 d.chance.told c.told) refl (ap (λ (o : Option (Pick → Left)). bare_course (go_on (stopped_idle s0 o) s.course)) c.stop)
                    ∙ sym (ap (λ (deed : Deed). bare (made x still deed (begun (Meets (events.Scrub s0)) s))) (deed-is still));
                device = cleans d.chance (h.moment.devices s0) (d.next.devices s0) a.its h.device c.stop;
              }

  -- a show that no stop and no fault meets, where there is nothing to print
  pub shows-one : (s : State) (P P' : DeviceState → Type 0) → PrintsNothing x s.course.world s0 → next_task s ≡ Some (Meets (events.Show s0))
      → ((h : Chance) (d e : DeviceState) → IsCalled (cleaned_get_calls * (x.counts s0).leaves) h d e → P d → (h.stop ≡ None) × (h.told ≡ []) × P' e)
      → Stand x last s P → Stand x last (done x still (Meets (events.Show s0)) s) P'
  shows-one s P P' is n calm h = by (drive s (Meets (events.Show s0)) h.moment h.leads h.state n)
    where
      by : Driven s (Meets (events.Show s0)) h.moment → Stand x last (done x still (Meets (events.Show s0)) s) P'
      by d = at (subst (λ (deed : Deed). Befalls x d.chance deed s.course.world h.moment.devices d.next.devices) (met-so d.chance) d.befalls)
        where
          met-so : (g : Chance) → deed_of x g (Meets (events.Show s0)) s ≡ showing g s0
          met-so g = is-met x g s s0 is g

          at : Befalls x d.chance (showing d.chance s0) s.course.world h.moment.devices d.next.devices → Stand x last (done x still (Meets (events.Show s0)) s) P'
          at b = its b.used
            where
              its : Alone s0 (IsLookedOver (x.counts s0) d.chance s.course.world s0) h.moment.devices d.next.devices → Stand x last (done x still (Meets (events.Show s0)) s) P'
              its a = let c = calm d.chance (h.moment.devices s0) (d.next.devices s0) a.its.called h.device in record {
                moment = d.next;
                leads = d.leads;
                state = d.state ∙ ap (λ (deed : Deed). bare (made x d.chance deed (begun (Meets (events.Show s0)) s))) (met-so d.chance)
                    ∙ looks-same x d.chance s s0 is (h.moment.devices s0) (d.next.devices s0) c.0 c.1 a.its
                    ∙ sym (ap (λ (deed : Deed). bare (made x still deed (begun (Meets (events.Show s0)) s))) (met-so still));
                device = c.2;
              }

  -- it comes up, and finds nothing
  pub recovers-one : (s : State) (task : Task) (P P' : DeviceState → Type 0) → IsBlank x s.course.world s0 → next_task s ≡ Some task → begun task s ≡ record s { tasks = drop 1 s.tasks }
      → ((h : Chance) → is_used_up h s0 s.course.world ≡ false → deed_of x h task s ≡ recovered h s0) → s.course.world.memory s0 ≡ None
      → ((d : DeviceState) → P d → (d.told ≡ []) × (d.waiting ≡ []))
      → ((h : Chance) → h.stop ≡ None → is_some ((run (recovered h s0).steps s.course.world).memory s0) ≡ true)
      → ((h : Chance) (d e : DeviceState) → IsRecovery s0 (x.counts s0) h true d e → P d → e.power ≡ true → h.stop ≡ None
      → ((c : Pick) → (run (recovered h s0).steps s.course.world).found s0 c ≡ found_on (x.counts s0) (pairs_view e) c) → P' e)
      → Stand x last s P → Stand x last (made x still (recovered still s0) (begun task s)) P'
  recovers-one s task P P' is n same acts down quiet rises comes h = by (drive s task h.moment h.leads h.state n)
    where
      deed-is : (g : Chance) → deed_of x g task s ≡ recovered g s0
      deed-is g = acts g (not-used x g s h.moment.devices h.moment.devices quiet-then s0 is g)
        where
          quiet-then : IsQuiet x s.course.world h.moment.devices
          quiet-then = let z = quiet (h.moment.devices s0) h.device in quiet-one s.course.world h.moment.devices z.0 z.1 (λ k. absurd (no' (sym (ap (λ (o : Option Memory). is_some o) down) ∙ k)))
            where
              no' : false ≡ true → ⊥
              no' k = cc

      by : Driven s task h.moment → Stand x last (made x still (recovered still s0) (begun task s)) P'
      by d = at (subst (λ (deed : Deed). Befalls x d.chance deed s.course.world h.moment.devices d.next.devices) (deed-is d.chance) d.befalls)
        where
          quiet-now : IsQuiet x s.course.world h.moment.devices
          quiet-now = let z = quiet (h.moment.devices s0) h.device in quiet-one s.course.world h.moment.devices z.0 z.1 (λ k. absurd (no' (sym (ap (λ (o : Option Memory). is_some o) down) ∙ k)))
            where
              no' : false ≡ true → ⊥
              no' k = cc

          at : Befalls x d.chance (recovered d.chance s0) s.course.world h.moment.devices d.next.devices → Stand x last (made x still (recovered still s0) (begun task s)) P'
          at b = let r = comes-so x d.chance s h.moment.devices d.next.devices quiet-now s0 is b in record {
            moment = d.next;
            leads = d.leads;
            state = d.state ∙ ap (λ (deed : Deed). bare (made x d.chance deed (begun task s))) (deed-is d.chance)
                ∙ ap (λ (t : State). bare (made x d.chance (recovered d.chance s0) t)) same ∙ r.0 ∙ ap (λ (t : State). bare (made x still (recovered still s0) t)) (sym same);
            device = its b.used;
          }
            where
              its : Alone s0 (IsRecovery s0 (x.counts s0) d.chance (is_some ((run (recovered d.chance s0).steps s.course.world).memory s0))) h.moment.devices d.next.devices → P' (d.next.devices s0)
              its a = comes d.chance (h.moment.devices s0) (d.next.devices s0) (subst (λ (c : Bool). IsRecovery s0 (x.counts s0) d.chance c (h.moment.devices s0) (d.next.devices s0)) is-up a.its) h.device
                  (calm.power is-up) calm.stop (λ c. b.found s0 c (subst (λ (n : ℕ). 0 < n) (sym one) (omega arith)))
                where
                  calm : Raised d.chance (is_some ((run (recovered d.chance s0).steps s.course.world).memory s0)) (d.next.devices s0)
                  calm = let z = quiet (h.moment.devices s0) h.device in recovered-calm (x.counts s0) d.chance _ (h.moment.devices s0) (d.next.devices s0) a.its z.0 z.1

                  is-up : is_some ((run (recovered d.chance s0).steps s.course.world).memory s0) ≡ true
                  is-up = rises d.chance calm.stop

  -- no fault waits any more
  pub dismisses-one : (s : State) (P P' : DeviceState → Type 0) → next_task s ≡ Some Dismisses → ((d : DeviceState) → P d → P' (disarmed d)) → Stand x last s P → Stand x last (done x still Dismisses s) P'
  dismisses-one s P P' n still' h = by (drive s Dismisses h.moment h.leads h.state n)
    where
      by : Driven s Dismisses h.moment → Stand x last (done x still Dismisses s) P'
      by d = record { moment = d.next; leads = d.leads; state = d.state; device = subst P' (sym (let b = d.befalls in b.used s0)) (still' (h.moment.devices s0) h.device) }

  -- ---- and the rest

  pub finishes : (n : ℕ) (s : State) → GoesSo x n s → next_task (goes x n s) ≡ None → Stand x last s IsStill → last.state.lines ≡ (goes x n s).lines
  finishes n s so end h = ap (λ (t : State). t.lines) (sim x n s so end h.moment last h.leads h.state (inl quiet) over)
    where
      quiet : IsQuiet x h.moment.state.course.world h.moment.devices
      quiet = let z = h.device in quiet-one h.moment.state.course.world h.moment.devices z.told z.waiting (λ k. z.power)
