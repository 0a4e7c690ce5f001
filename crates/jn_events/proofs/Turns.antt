-- Turns of a rest, and events as tasks.
use Rattle.jn_events.proofs.Common.{ServerNo, DeviceState, is_going, DoesTasks, KeepsOn, GoesTurn, TakesTurn, Setup, Task, Stage, InSchedule, AtEnd, CutShort, next_at, State, next_task, Acts, GoesDown, Rests, Line, When, Event, StoreView, GoesTo, DoesEvent, Ended, Messages, Epoch, Memory, acts-acts, down-acts, WentOn, is_settle, Standing, ◌≡◌, true, ◌∷◌, Some, true≢false, sym, ap, false, [], subst, Ok, ◌∙◌, Bool, Err, List, Result, drop, IsErr, IsErrAnd}
use Rattle.jn_events.proofs.Calls.{went-nowhere, goes-then, went-going, went-when, fails-anyhow}
use Rattle.jn_events.proofs.Numbers.{count_begins}
use Rattle.jn_schedule.specs.declared.Event.TheVariants as events

-- the first task of a run that goes on is next
next-by : (stage : Stage) (tasks : List Task) (task : Task) (rest : List Task) → tasks ≡ task ∷ rest → is_going stage ≡ true → next_at stage tasks ≡ Some task
next-by CutShort tasks task rest e going = absurd (true≢false (sym going))
next-by InSchedule tasks task rest e going = ap (λ (ts : List Task). next_at InSchedule ts) e
next-by AtEnd tasks task rest e going = ap (λ (ts : List Task). next_at AtEnd ts) e

pub next-first : (s : State) (task : Task) (rest : List Task) → s.tasks ≡ task ∷ rest → is_going s.stage ≡ true → next_task s ≡ Some task
next-first s task rest e going = next-by s.stage s.tasks task rest e going

module _ {S : Type 0} (look : S → StoreView) (device : S → DeviceState) (when : When) where
  -- an event as a task of its own
  pub acts-does : {A : Type 0} (event : Event) (r : Result A Ended) (w u : Standing S) (first later : List Line) → is_settle event ≡ false → DoesEvent look device event when w r u first later → DoesTasks look device (λ x. Acts event ∷ []) when w r u first later
  acts-does event r w u first later settle h x m rest stands tasks going is =
      subst (λ (ts : List Task). GoesTo look device x m ts r u first later) (ap (λ (ts : List Task). drop 1 ts) tasks)
      (h x m [] stands (acts-acts x m event (next-first m.state (Acts event) rest tasks going) settle) is)

  pub goes-down-does : {A : Type 0} (q : ServerNo) (r : Result A Ended) (w u : Standing S) (first later : List Line) → DoesEvent look device (events.Crash q) when w r u first later → DoesTasks look device (λ x. GoesDown q ∷ []) when w r u first later
  goes-down-does q r w u first later h x m rest stands tasks going is =
      subst (λ (ts : List Task). GoesTo look device x m ts r u first later) (ap (λ (ts : List Task). drop 1 ts) tasks)
      (h x m [] stands (down-acts x m q (next-first m.state (GoesDown q) rest tasks going)) is)

  -- ---- turns

  pub turns-none : {A : Type 0} (a : A) (w : Standing S) (lines : List Line) → KeepsOn look device when w (Ok a) w lines lines
  turns-none a w lines x m rest stands tasks going is = subst (λ (ts : List Task). WentOn look device x m ts w lines lines) tasks (went-nowhere look device x m w lines stands)

  -- turns, and then more
  pub turns-more : {A B : Type 0} (a : A) (r : Result B Ended) (w v u : Standing S) (first now later : List Line) → KeepsOn look device when w (Ok a) v first now → KeepsOn look device when v r u now later → KeepsOn look device when w r u first later
  turns-more a r w v u first now later h k x m rest stands tasks going is =
      let went = h x m rest stands tasks going is in
      goes-then look device x m (Rests ∷ rest) (Rests ∷ rest) v u first now later r went
      (k x went.last rest went.stands went.tasks (went-going look device x m (Rests ∷ rest) v first now went going) (went-when look device x m (Rests ∷ rest) v first now went going (sym (ap count_begins tasks)) ∙ is))

  -- what follows is the last turn, or another one
  pub turn-then : {A : Type 0} (a : A) (r : Result Bool Ended) (w v u : Standing S) (first now later : List Line) → KeepsOn look device when w (Ok a) v first now → TakesTurn look device when v r u now later → TakesTurn look device when w r u first later
  turn-then a r w v u first now later h k x m rest stands tasks going is =
      by r (k x went.last rest went.stands went.tasks (went-going look device x m (Rests ∷ rest) v first now went going) (went-when look device x m (Rests ∷ rest) v first now went going (sym (ap count_begins tasks)) ∙ is))
    where
      went : WentOn look device x m (Rests ∷ rest) v first now
      went = h x m rest stands tasks going is

      by : (r : Result Bool Ended) → GoesTurn look device x went.last rest r u now later → GoesTurn look device x m rest r u first later
      by (Ok true) g = goes-then look device x {A = Bool} m (Rests ∷ rest) (Rests ∷ rest) v u first now later (Ok true) went g
      by (Ok false) g = goes-then look device x {A = Bool} m (Rests ∷ rest) rest v u first now later (Ok false) went g
      by (Err Messages) g = goes-then look device x {A = Bool} m (Rests ∷ rest) rest v u first now later (Err Messages) went g
      by (Err (Epoch q)) g = goes-then look device x {A = Bool} m (Rests ∷ rest) rest v u first now later (Err (Epoch q)) went g
      by (Err Memory) g = tt

  pub turns-on : {A : Type 0} (a : A) (b : Bool) (w u : Standing S) (first later : List Line) → b ≡ true → TakesTurn look device when w (Ok b) u first later → KeepsOn look device when w (Ok a) u first later
  turns-on a true w u first later is h = h
  turns-on a false w u first later is h = absurd (true≢false (sym is))

  pub turns-over : (b : Bool) (w u : Standing S) (first later : List Line) → b ≡ false → TakesTurn look device when w (Ok b) u first later → TakesTurn look device when w (Ok false) u first later
  turns-over true w u first later is h = absurd (true≢false is)
  turns-over false w u first later is h = h

  -- turns that failed
  pub turns-fail : (A : Type 0) (e : Ended) (w u v : Standing S) (first later : List Line) → KeepsOn {S = S} {A = A} look device when w (Err e) u first later → TakesTurn look device when w (Err e) v first later
  turns-fail A Messages w u v first later h = h
  turns-fail A (Epoch q) w u v first later h = h
  turns-fail A Memory w u v first later h = λ x m rest stands tasks going is. tt

  pub turns-exit : (A B : Type 0) (r : Result B Ended) (e : Ended) (w u v : Standing S) (first later : List Line) → IsErr r → IsErrAnd r (λ f. f ≡ e)
      → KeepsOn {S = S} {A = A} look device when w (Err e) u first later → KeepsOn look device when w r v first later
  turns-exit A B (Ok b) e w u v first later is which h = absurd (true≢false (sym is))
  turns-exit A B (Err f) e w u v first later is which h =
      subst (λ (g : Ended). KeepsOn {S = S} {A = B} look device when w (Err g) v first later) (sym which)
      (λ x m rest stands its going at. fails-anyhow look device x A B m (Rests ∷ rest) (Rests ∷ rest) u v first later e (h x m rest stands its going at))

  -- nothing is left to do
  pub turns-end : {A : Type 0} (a : A) (w u : Standing S) (first later : List Line) → TakesTurn look device when w (Ok false) u first later → DoesTasks look device (λ x. Rests ∷ []) when w (Ok a) u first later
  turns-end a w u first later h = h

  pub turns-cut : (B : Type 0) (e : Ended) (w u : Standing S) (first later : List Line) → TakesTurn look device when w (Err e) u first later → DoesTasks {S = S} {A = B} look device (λ x. Rests ∷ []) when w (Err e) u first later
  turns-cut B Messages w u first later h = h
  turns-cut B (Epoch q) w u first later h = h
  turns-cut B Memory w u first later h = λ x m rest stands tasks going is. tt

  -- ---- exits

  pub does-exit : (A B : Type 0) (r : Result B Ended) (e : Ended) (tasks : Setup → List Task) (w u v : Standing S) (first later : List Line) → IsErr r → IsErrAnd r (λ f. f ≡ e)
      → DoesTasks {S = S} {A = A} look device tasks when w (Err e) u first later → DoesTasks look device tasks when w r v first later
  does-exit A B (Ok b) e tasks w u v first later is which h = absurd (true≢false (sym is))
  does-exit A B (Err f) e tasks w u v first later is which h =
      subst (λ (g : Ended). DoesTasks {S = S} {A = B} look device tasks when w (Err g) v first later) (sym which)
      (λ x m rest stands its going at. fails-anyhow look device x A B m rest rest u v first later e (h x m rest stands its going at))

  -- without memory nothing is said
  pub does-without : (B : Type 0) (r : Result B Ended) (tasks : Setup → List Task) (w v : Standing S) (first later : List Line) → IsErr r → IsErrAnd r (λ f. f ≡ Memory) → DoesTasks look device tasks when w r v first later
  does-without B (Ok b) tasks w v first later is which = absurd (true≢false (sym is))
  does-without B (Err f) tasks w v first later is which = subst (λ (g : Ended). DoesTasks {S = S} {A = B} look device tasks when w (Err g) v first later) (sym which) (λ x m rest stands its going at. tt)
