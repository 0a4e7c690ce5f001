-- How many rubbish records a step leaves, in any run.
use Rattle.std.specs.Prelude.{◌≡◌, Bool, true, false, List, [], ◌∷◌, is_some}
use Rattle.jn_base.specs.declared.names.ServerNo.{ServerNo}
use Rattle.jn_rows.specs.Stable.{Change, RemoveWork}
use Rattle.jn_system.specs.WholeSystem.Steps.{Step, run}
use Rattle.jn_machine.specs.Chances.{Setup}
use Rattle.jn_machine.specs.Events.{deed_of}
use Rattle.jn_machine.specs.Runs.{Moment, DoesStep}

-- what a step does in the system
abbrev pub steps_in : (x : Setup) (a b : Moment) → DoesStep x a b → List Step
steps_in x a b d = (deed_of x d.chance d.task a.state).steps

-- the server is up behind the step
abbrev pub IsUpBehind : (x : Setup) (a b : Moment) → DoesStep x a b → ServerNo → Type 0
IsUpBehind x a b d q = is_some ((run (steps_in x a b d) a.state.course.world).memory q) ≡ true

-- no work is removed
abbrev pub removes_none : List Change → Bool
removes_none [] = true
removes_none (RemoveWork W ∷ changes) = false
removes_none (c ∷ changes) = removes_none changes
