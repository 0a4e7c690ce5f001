-- A run that has these tasks behind others comes to where they are what is left, or isn't as far.
use Rattle.jn_bounds.proofs.Common.{◌≡◌, ◌⊎◌, inl, inr, ◌<◌, List, [], ◌∷◌, ◌++◌, append_assoc, length, length-append, sym, ◌∙◌, subst, arith, Setup, Task, AtEnd, CutShort, settling, deed_of, none, more, Steps, Moment, Leads, DoesEarlier, IsOver, IsUnderWay}
use Rattle.jn_bounds.proofs.Doing.{GoesOn, IsCut, does, stays}

pub longer : (front behind : List Task) (t : Task) → length behind < length (t ∷ front ++ behind)
longer front behind t = let l = length-append front behind in omega (arith, l)

module _ (x : Setup) (behind : List Task) where
  abbrev pub Earlier : Moment → Moment → Type 0
  Earlier a b = Steps Moment (DoesEarlier x behind) a b

  pub record Passes (a now : Moment) : Type 0 where
    pub last : Moment
    pub steps : Earlier a last
    pub tasks : last.state.tasks ≡ behind
    pub goes_on : Leads x last now

  pub record Stops (a now : Moment) : Type 0 where
    pub steps : Earlier a now
    pub left : (length behind < length now.state.tasks) ⊎ (now.state.stage ≡ CutShort)

  pub passes : (front : List Task) (a now : Moment) → a.state.tasks ≡ front ++ behind → Leads x a now → Stops a now ⊎ Passes a now
  passes [] a now is leads = inr (record { last = a; steps = none a; tasks = is; goes_on = leads })
  passes (t ∷ front) a now is (none m) = inl (record { steps = none a; left = inl (subst (λ (ts : List Task). length behind < length ts) (sym is) (longer front behind t)) })
  passes (t ∷ front) a now is (more u c v d leads) = by (does x t (front ++ behind) a c d is) (λ left e. passes left c now e leads)
    where
      one : DoesEarlier x behind a c
      one = record { step = d; earlier = subst (λ (ts : List Task). length behind < length ts) (sym is) (longer front behind t) }

      further : Stops c now ⊎ Passes c now → Stops a now ⊎ Passes a now
      further (inl s) = inl (record { steps = more a c now one s.steps; left = s.left })
      further (inr p) = inr (record { last = p.last; steps = more a c p.last one p.steps; tasks = p.tasks; goes_on = p.goes_on })

      by : GoesOn x d.chance t (front ++ behind) a c ⊎ IsCut t (front ++ behind) a c → ((left : List Task) → c.state.tasks ≡ left ++ behind → Stops c now ⊎ Passes c now) → Stops a now ⊎ Passes a now
      by (inl g) again = further (again ((deed_of x d.chance t a.state).tasks ++ front) (g.tasks ∙ sym (append_assoc (deed_of x d.chance t a.state).tasks front behind)))
      by (inr k) again = further (subst (λ (m : Moment). Stops c m ⊎ Passes c m) (sym (stays x c now leads k.stage)) (inl (record { steps = none c; left = inr k.stage })))

  pub comes-through : (a now : Moment) → a.state.tasks ≡ settling x ++ behind → Leads x a now → IsUnderWay x behind a now ⊎ IsOver x behind a now
  comes-through a now is leads = by (passes (settling x) a now is leads)
    where
      by : Stops a now ⊎ Passes a now → IsUnderWay x behind a now ⊎ IsOver x behind a now
      by (inl s) = inl (record { settles = record { begins = is; steps = s.steps }; left = s.left })
      by (inr p) = inr (record { last = p.last; settles = record { begins = is; steps = p.steps }; tasks = p.tasks; goes_on = p.goes_on })

  -- so many steps are a run
  pub forget : (a b : Moment) → Earlier a b → Leads x a b
  forget a b (none m) = none m
  forget a b (more u c v d rest) = more u c v d.step (forget c b rest)

  -- a whole run comes there
  pub comes-to : (front : List Task) (a now : Moment) → a.state.tasks ≡ front ++ behind → Leads x a now → now.state.tasks ≡ [] → now.state.stage ≡ AtEnd → Passes a now
  comes-to front a now is leads nothing whole = by (passes front a now is leads)
    where
      not-cut : AtEnd ≡ CutShort → ⊥
      not-cut e = cc

      none-less : length behind < 0 → ⊥
      none-less l = omega (arith, l)

      ends : (length behind < length now.state.tasks) ⊎ (now.state.stage ≡ CutShort) → ⊥
      ends (inl l) = none-less (subst (λ (ts : List Task). length behind < length ts) nothing l)
      ends (inr e) = not-cut (sym whole ∙ e)

      by : Stops a now ⊎ Passes a now → Passes a now
      by (inl s) = absurd (ends s.left)
      by (inr p) = p
