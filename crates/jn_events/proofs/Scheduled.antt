-- An event of the schedule, from where it begins.
use Rattle.jn_events.proofs.Common.{DeviceState, DoesTasks, DoesScheduled, is_going, settling, Task, Begins, Meets, Stage, InSchedule, when_at, when_of, Line, When, AtEvent, Event, StoreView, Ended, begins-step, settles-step, WentOn, Standing, ◌≡◌, ◌≤◌, ℕ, true, [], ◌∷◌, length, ◌∙◌, ap, arith, ◌++◌, List, Result, drop}
use Rattle.jn_events.proofs.Calls.{goes-then, went-going, went-when}
use Rattle.jn_events.proofs.Numbers.{count_begins, same-number, begins-append, settling-begins}
use Rattle.jn_events.proofs.Turns.{next-first}
use Rattle.jn_schedule.specs.declared.Event.TheVariants as events

module _ {S : Type 0} (look : S → StoreView) (device : S → DeviceState) where
  -- it begins, and then it is refused or done
  pub begins-meets : {A : Type 0} (number : ℕ) (event : Event) (r : Result A Ended) (w u : Standing S) (first later : List Line) → length w.net.sent ≤ 1000000
      → DoesTasks look device (λ x. Meets event ∷ []) (AtEvent number) w r u first later → DoesScheduled look device number event w r u first later
  begins-meets number event r w u first later few h x m rest stands tasks stage is =
      goes-then look device x m (Meets event ∷ drop 1 m.state.tasks) rest w u first first later r went
      (h x went.last rest went.stands (went.tasks ∙ ap (λ (ts : List Task). Meets event ∷ drop 1 ts) tasks) going when)
    where
      start : is_going m.state.stage ≡ true
      start = ap is_going stage

      went : WentOn look device x m (Meets event ∷ drop 1 m.state.tasks) w first first
      went = (begins-step look device x w m stands event first (next-first m.state (Begins event) rest tasks start)).done few

      going : is_going went.last.state.stage ≡ true
      going = went-going look device x m (Meets event ∷ drop 1 m.state.tasks) w first first went start

      when : when_of went.last.state ≡ AtEvent number
      when =
          let numbers = same-number x m went.last went.leads going in
          let left = ap count_begins (went.tasks ∙ ap (λ (ts : List Task). Meets event ∷ drop 1 ts) tasks) in
          let had = ap count_begins tasks in
          let same : went.last.state.course.world.event ≡ number = omega arith in
          ap (λ (s : Stage). when_at s went.last.state.course.world.event) (went.stage ∙ stage) ∙ ap (λ (n : ℕ). when_at InSchedule n) same

  -- a settle
  pub meets-settle : {A : Type 0} (when : When) (r : Result A Ended) (w u : Standing S) (first later : List Line) → length w.net.sent ≤ 1000000
      → DoesTasks look device settling when w r u first later → DoesTasks look device (λ x. Meets events.Settle ∷ []) when w r u first later
  meets-settle when r w u first later few h x m rest stands tasks going is =
      goes-then look device x m (settling x ++ drop 1 m.state.tasks) rest w u first first later r went
      (h x went.last rest went.stands (went.tasks ∙ ap (λ (ts : List Task). settling x ++ drop 1 ts) tasks) (went-going look device x m (settling x ++ drop 1 m.state.tasks) w first first went going)
      (went-when look device x m (settling x ++ drop 1 m.state.tasks) w first first went going same ∙ is))
    where
      went : WentOn look device x m (settling x ++ drop 1 m.state.tasks) w first first
      went = (settles-step look device x w m stands first (next-first m.state (Meets events.Settle) rest tasks going)).done few

      same : count_begins (settling x ++ drop 1 m.state.tasks) ≡ count_begins m.state.tasks
      same =
          let all = begins-append (settling x) (drop 1 m.state.tasks) in
          let none = settling-begins x in
          let left = ap (λ (ts : List Task). count_begins (drop 1 ts)) tasks in
          let had = ap count_begins tasks in
          omega arith
