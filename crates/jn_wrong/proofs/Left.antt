-- A settle is over only where nothing is left to do.
use Rattle.jn_wrong.proofs.Common.{◌≡◌, ◌≢◌, ◌⊎◌, inl, inr, ℕ, suc, ◌+◌, Bool, List, [], ◌∷◌, ◌++◌, append_assoc, length, length-append, drop, Option, Some, None, refl, sym, ◌∙◌, ap, subst, arith, ServerNo, Event, Course, go_on, Setup, Task, Meets, Rests, CutShort, State, Deed, nothing, is_busy, Befalls, rubbish_on, asking, settling, next_in, resting, deed_of, done, none, more, Moment, DoesStep, Leads, ComesToRest}
use Rattle.jn_schedule.specs.declared.Event.TheVariants as events
use Rattle.jn_machine.specs.Wrong.{IsAtRest}
use Rattle.jn_machine.proofs.Resting.{rest-ends}
use Rattle.jn_bounds.proofs.Doing.{GoesOn, IsCut, its-task, its-state, does, stays}

-- no list is longer than itself
no-longer : (front rest : List Task) (task : Task) → front ++ task ∷ rest ≡ rest → ⊥
no-longer front rest task e = longer (length front) (length rest) (sym (length-append front (task ∷ rest)) ∙ ap length e)
  where
    longer : (m n : ℕ) → m + suc n ≡ n → ⊥
    longer m n h = omega arith

module _ (x : Setup) where
  module _ (rest : List Task) where
    earlier : (a c b : Moment) → DoesStep x a c → ComesToRest x rest c b → ComesToRest x rest a b
    earlier a c b d r = record { moment = r.moment; leads = more a c r.moment d r.leads; tasks = r.tasks; is_at_rest = r.is_at_rest; goes_on = r.goes_on }

    -- the step of a known task
    module _ (a c b : Moment) (d : DoesStep x a c) (leads : Leads x c b) (goes : b.state.stage ≢ CutShort) (t : Task) (behind : List Task) (is : a.state.tasks ≡ t ∷ behind) where
      goes-so : GoesOn x d.chance t behind a c
      goes-so = by (does x t behind a c d is)
        where
          by : GoesOn x d.chance t behind a c ⊎ IsCut t behind a c → GoesOn x d.chance t behind a c
          by (inl g) = g
          by (inr k) = absurd (goes (ap (λ (m : Moment). m.state.stage) (stays x c b leads k.stage) ∙ k.stage))

    ended : (a c b : Moment) → DoesStep x a c → Leads x c b → b.state.stage ≢ CutShort → a.state.tasks ≡ Rests ∷ rest → (c.state.tasks ≡ Rests ∷ rest → ComesToRest x rest c b) → ComesToRest x rest a b
    ended a c b d leads goes is again = by (next_in x d.chance.rubbish a.state.course) refl
      where
        now : Option Event → Deed
        now o = resting x d.chance a.state.clients a.state.course.world o

        left : (o : Option Event) → next_in x d.chance.rubbish a.state.course ≡ o → c.state.tasks ≡ (now o).tasks ++ rest
        left o n = (goes-so a c b d leads goes Rests rest is).tasks ∙ ap (λ (o : Option Event). (now o).tasks ++ rest) n

        by : (o : Option Event) → next_in x d.chance.rubbish a.state.course ≡ o → ComesToRest x rest a b
        by (Some event) n = earlier a c b d (again (left (Some event) n))
        by None n = record {
          moment = c;
          leads = more a c c d (none c);
          tasks = left None n;
          is_at_rest = record {
            waiting = ap (λ (z : Course). z.waiting) course ∙ at.waiting;
            idle = λ q l. ap (λ (z : Course). is_busy (rubbish_on x c.devices) z.world q) course ∙ ap (λ (r : Bool). busy-with q r) (same-rubbish q) ∙ at.idle q l;
          };
          goes_on = leads;
        }
          where
            its : d.task ≡ Rests
            its = its-task x Rests rest a c d is

            state : c.state ≡ done x d.chance Rests a.state
            state = its-state x Rests rest a c d is

            course : c.state.course ≡ a.state.course
            course = (goes-so a c b d leads goes Rests rest is).course ∙ ap (λ (o : Option Event). go_on (now o).steps a.state.course) n

            whole : (done x d.chance Rests a.state).stage ≢ CutShort
            whole e = let cut = ap (λ (s : State). s.stage) state ∙ e in goes (ap (λ (m : Moment). m.state.stage) (stays x c b leads cut) ∙ cut)

            at : IsAtRest x d.chance.rubbish a.state.course
            at = rest-ends x d.chance a.state whole (sym (ap (λ (s : State). s.tasks) state) ∙ left None n ∙ sym (ap (λ (ts : List Task). drop 1 ts) is))

            befalls : Befalls x d.chance nothing a.state.course.world a.devices c.devices
            befalls = subst (λ (o : Option Event). Befalls x d.chance (now o) a.state.course.world a.devices c.devices) n
                (subst (λ (task : Task). Befalls x d.chance (deed_of x d.chance task a.state) a.state.course.world a.devices c.devices) its d.befalls)

            busy-with : ServerNo → Bool → Bool
            busy-with q r = is_busy (λ s. r) a.state.course.world q

            unused : (q : ServerNo) → c.devices q ≡ a.devices q
            unused = befalls.used

            same-rubbish : (q : ServerNo) → rubbish_on x c.devices q ≡ d.chance.rubbish q
            same-rubbish q = ap (λ (device : _). rubbish_on x (λ s. device) q) (unused q) ∙ sym (befalls.rubbish q)

    toward : (front : List Task) (a b : Moment) → a.state.tasks ≡ front ++ Rests ∷ rest → Leads x a b → b.state.tasks ≡ rest → b.state.stage ≢ CutShort → ComesToRest x rest a b
    toward front a b is (none m) over goes = absurd (no-longer front rest Rests (sym is ∙ over))
    toward [] a b is (more u c v d leads) over goes = ended a c b d leads goes is (λ e. toward [] c b e leads over goes)
    toward (t ∷ front) a b is (more u c v d leads) over goes = earlier a c b d (toward ((deed_of x d.chance t a.state).tasks ++ front) c b
        ((goes-so a c b d leads goes t (front ++ Rests ∷ rest) is).tasks ∙ sym (append_assoc (deed_of x d.chance t a.state).tasks front (Rests ∷ rest))) leads over goes)

    in-front : settling x ++ rest ≡ (Rests ∷ asking x) ++ Rests ∷ rest
    in-front = ap (λ (ts : List Task). Rests ∷ ts) (append_assoc (asking x) (Rests ∷ []) rest)

    pub settles : (a b : Moment) → a.state.tasks ≡ settling x ++ rest → Leads x a b → b.state.tasks ≡ rest → b.state.stage ≢ CutShort → ComesToRest x rest a b
    settles a b is leads over goes = toward (Rests ∷ asking x) a b (is ∙ in-front) leads over goes

    pub event-settles : (a b : Moment) → a.state.tasks ≡ Meets events.Settle ∷ rest → Leads x a b → b.state.tasks ≡ rest → b.state.stage ≢ CutShort → ComesToRest x rest a b
    event-settles a b is (none m) over goes = absurd (no-longer [] rest (Meets events.Settle) (sym is ∙ over))
    event-settles a b is (more u c v d leads) over goes = earlier a c b d (settles c b ((goes-so a c b d leads goes (Meets events.Settle) rest is).tasks) leads over goes)
