-- What is computed with chances is a run by steps.
use Rattle.jn_machine.proofs.Common.{◌≡◌, ℕ, zero, suc, ◌+◌, Option, Some, None, refl, Setup, Chance, Task, State, next_task, done, next_by, Steps, none, more, MayLead, Moment, Leads}
use Rattle.jn_machine.specs.Steps.{after}

module _ (x : Setup) (chances : ℕ → State → Chance) where
  pub computed : (n steps : ℕ) (s : State) → MayLead x s (after x chances n steps s)
  computed n zero s = none s
  computed n (suc steps) s = by (next_task s) refl (λ t. computed (n + 1) steps t)
    where
      by : (o : Option Task) → next_task s ≡ o → ((t : State) → MayLead x t (after x chances (n + 1) steps t)) → MayLead x s (after x chances (n + 1) steps (next_by x (chances n s) o s))
      by None e rest = rest s
      by (Some task) e rest = more s (done x (chances n s) task s) _ (record { chance = chances n s; task = task; task_is = e; state_is = refl }) (rest (done x (chances n s) task s))

-- steps after steps
pub join : (A : Type 0) (IsOne : A → A → Type 0) (a b c : A) → Steps A IsOne a b → Steps A IsOne b c → Steps A IsOne a c
join A IsOne a b c (none u) rest = rest
join A IsOne a b c (more u v w one first) rest = more u v c one (join A IsOne v w c first rest)

-- with what the devices do, chances are some chances
pub may-lead : (x : Setup) (a b : Moment) → Leads x a b → MayLead x a.state b.state
may-lead x a b (none u) = none u.state
may-lead x a b (more u v w one rest) = more u.state v.state w.state (record { chance = one.chance; task = one.task; task_is = one.task_is; state_is = one.state_is }) (may-lead x v w rest)
