-- What a call of a server's place does, and its messages and notes, is an event of the written machine.
use Rattle.jn_world.proofs.Common.{Server, ServerNo, DeviceState, Task, Collected, with_delivered, Posted, Took, WhereUp, TakeLeaves, WorkedBy, WorkLeaves, ScrubbedBy, KeepsBeside, LeavesClean, Showed, Crashed, AsksAgain, has_work_at, Place, Down, counts_by, lines_at, Line, When, pairs_view, StoreView, GoesTo, EndsStep, DoesEvent, Ended, Messages, Epoch, Memory, lost-step, NoMessageLeft, WentOn, WasCut, IsStepTo, HasCounts, ReadsPages, texts_shown, Standing, texts_sent, with_answer, Ok, Err, sym, subst, ◌≡◌, ℕ, ap, [], ◌++◌, length, Option, Some, None, Bool, ◌∷◌, false, set, List, Result, slice_set, drop, slice_get}
use Rattle.jn_machine.specs.Chances.{Setup}
use Rattle.jn_machine.specs.Runs.{Moment}
use Rattle.jn_server.specs.declared.show.Shown.{Shown}
use Rattle.jn_world_refines.proofs.Crashing.{crashed-step}
use Rattle.jn_world_refines.proofs.Looking.{scrubbed-step, showed-step}
use Rattle.jn_world_refines.proofs.Nudging.{nudged-step}
use Rattle.jn_world_refines.proofs.Took.{took-step}
use Rattle.jn_world_refines.proofs.Working.{worked-step, idle-step}
use Rattle.jn_schedule.specs.declared.Event.TheVariants as events
use Rattle.jn_report.specs.declared.line.Text.TheVariants as says

-- a step that ended so
pub step-ends : {S A : Type 0} (look : S → StoreView) (device : S → DeviceState) (x : Setup) (m : Moment) (rest : List Task) (w' now : Standing S) (r : Result A Ended) (lines wanted lines' : List Line)
    → IsStepTo look device x m rest w' lines wanted → EndsStep r w' now lines wanted lines' → GoesTo look device x m rest r now lines lines'
step-ends {S} look device x m rest w' now (Ok a) lines wanted lines' step (same, told, few) =
    subst (λ (w : Standing S). WentOn look device x m rest w lines lines') (sym same) (subst (λ (l : List Line). WentOn look device x m rest w' lines l) (sym told) (step.done few))
step-ends look device x m rest w' now (Err Messages) lines wanted lines' step (many, told) = subst (λ (l : List Line). WasCut x m NoMessageLeft lines l) (sym told) (step.cut many)
step-ends look device x m rest w' now (Err (Epoch q)) lines wanted lines' step h = absurd h
step-ends look device x m rest w' now (Err Memory) lines wanted lines' step h = tt

module _ {S : Type 0} (look : S → StoreView) (device : S → DeviceState) (seen : (s : S) → look s ≡ pairs_view (device s)) where
  module _ (w : Standing S) (q : ServerNo) (place new : Place S) (i : ℕ) (index : i ≡ q.0) (same : new.counts ≡ place.counts) where
    place-is : record place { slot = new.slot } ≡ new
    place-is = ap (λ (c : _). record new { counts = c }) (sym same)

    pub written : (x : Setup) (m : Moment) (rest : List Task) (f : List (Place S) → Standing S) (lines wanted : List Line)
        → IsStepTo look device x m rest (f (slice_set w.places q.0 (record place { slot = new.slot }))) lines wanted → IsStepTo look device x m rest (f (set w.places i new)) lines wanted
    written x m rest f lines wanted step =
        subst (λ (n : ℕ). IsStepTo look device x m rest (f (set w.places n new)) lines wanted) (sym index)
        (subst (λ (p : Place S). IsStepTo look device x m rest (f (set w.places q.0 p)) lines wanted) place-is step)

    module _ {A : Type 0} (when : When) (r : Result A Ended) (u : Standing S) (first later : List Line) (at : slice_get w.places q.0 ≡ Some place) (counts : HasCounts look q (counts_by place.counts) new.slot) where
      -- it takes a message
      pub took-does : (k : ℕ) (one : Posted) (answer : Option Collected) (told : List Line) → slice_get w.net.sent k ≡ Some one → one.to ≡ Server q → ReadsPages look device (counts_by place.counts) place.slot
          → Took look device q (counts_by place.counts) when one.message place.slot answer new.slot [] told → WhereUp look (TakeLeaves one.message) place.slot new.slot
          → EndsStep r (with_answer q (Some k) answer (record w { places = set w.places i new; net = record w.net { sent = with_delivered k w.net.sent } })) u first (first ++ told ++ lines_at when (texts_sent q (Some k) w.trace (length w.net.sent) answer)) later
          → DoesEvent look device (events.Deliver k) when w r u first later
      took-does k one answer told posted to reads took leaves ends x m more stands next is =
          step-ends look device x m (more ++ drop 1 m.state.tasks) (with_answer q (Some k) answer (record w { places = set w.places i new; net = record w.net { sent = with_delivered k w.net.sent } })) u r first
          (first ++ told ++ lines_at when (texts_sent q (Some k) w.trace (length w.net.sent) answer)) later
          (subst (λ (t : When). Took look device q (counts_by place.counts) t one.message place.slot answer new.slot [] told
          → IsStepTo look device x m (more ++ drop 1 m.state.tasks) (with_answer q (Some k) answer (record w { places = set w.places i new; net = record w.net { sent = with_delivered k w.net.sent } })) first (first ++ told ++ lines_at t (texts_sent q (Some k) w.trace (length w.net.sent) answer))) is
          (λ t. written x m (more ++ drop 1 m.state.tasks) (λ ps. with_answer q (Some k) answer (record w { places = ps; net = record w.net { sent = with_delivered k w.net.sent } })) first _
          (took-step look device seen x w m stands k one posted q to place at reads more next answer new.slot told t counts leaves first)) took)
          ends

      -- a background step
      pub worked-does : (answer : Option Collected) (told : List Line) → ReadsPages look device (counts_by place.counts) place.slot
          → WorkedBy look device q (counts_by place.counts) when place.slot answer new.slot [] told → WhereUp look WorkLeaves place.slot new.slot
          → EndsStep r (with_answer q None answer (record w { places = set w.places i new })) u first (first ++ told ++ lines_at when (texts_sent q None w.trace (length w.net.sent) answer)) later
          → DoesEvent look device (events.Step q) when w r u first later
      worked-does answer told reads worked leaves ends x m more stands next is =
          step-ends look device x m (more ++ drop 1 m.state.tasks) (with_answer q None answer (record w { places = set w.places i new })) u r first
          (first ++ told ++ lines_at when (texts_sent q None w.trace (length w.net.sent) answer)) later
          (subst (λ (t : When). WorkedBy look device q (counts_by place.counts) t place.slot answer new.slot [] told
          → IsStepTo look device x m (more ++ drop 1 m.state.tasks) (with_answer q None answer (record w { places = set w.places i new })) first (first ++ told ++ lines_at t (texts_sent q None w.trace (length w.net.sent) answer))) is
          (λ t. written x m (more ++ drop 1 m.state.tasks) (λ ps. with_answer q None answer (record w { places = ps })) first _
          (worked-step look device seen x w m stands q place at reads more next answer new.slot told t counts leaves first)) worked)
          ends

      -- its pages are cleaned
      pub scrubbed-does : (done : Bool) (wanted : List Line) → ScrubbedBy look device q (counts_by place.counts) when place.slot done new.slot first wanted → WhereUp look KeepsBeside place.slot new.slot → WhereUp look LeavesClean place.slot new.slot
          → EndsStep r (record w { places = set w.places i new }) u first wanted later → DoesEvent look device (events.Scrub q) when w r u first later
      scrubbed-does done wanted scrubbed kept clean ends x m more stands next is =
          step-ends look device x m (more ++ drop 1 m.state.tasks) (record w { places = set w.places i new }) u r first wanted later
          (written x m (more ++ drop 1 m.state.tasks) (λ ps. record w { places = ps }) first wanted
          (scrubbed-step look device seen x w m stands q place at more first wanted done new.slot
          (subst (λ (t : When). ScrubbedBy look device q (counts_by place.counts) t place.slot done new.slot first wanted) (sym is) scrubbed) counts kept clean next))
          ends

      -- its files are printed
      pub showed-does : (list : Option (List Shown)) (now : List Line) → Showed look device q (counts_by place.counts) when place.slot list new.slot first now → WhereUp look KeepsBeside place.slot new.slot
          → EndsStep r (record w { places = set w.places i new }) u first (now ++ lines_at when (texts_shown q list)) later → DoesEvent look device (events.Show q) when w r u first later
      showed-does list now showed kept ends x m more stands next is =
          step-ends look device x m (more ++ drop 1 m.state.tasks) (record w { places = set w.places i new }) u r first (now ++ lines_at when (texts_shown q list)) later
          (subst (λ (t : When). Showed look device q (counts_by place.counts) t place.slot list new.slot first now
          → IsStepTo look device x m (more ++ drop 1 m.state.tasks) (record w { places = set w.places i new }) first (now ++ lines_at t (texts_shown q list))) is
          (λ s. written x m (more ++ drop 1 m.state.tasks) (λ ps. record w { places = ps }) first _
          (showed-step look device seen x w m stands q place at more first now list new.slot s counts kept next)) showed)
          ends

      -- it goes down
      pub crashed-does : Crashed look device (counts_by place.counts) place.slot new.slot
          → EndsStep r (record w { places = set w.places i new }) u first (first ++ record { when = when; text = says.Down q } ∷ []) later → DoesEvent look device (events.Crash q) when w r u first later
      crashed-does crashed ends x m more stands next is =
          step-ends look device x m (more ++ drop 1 m.state.tasks) (record w { places = set w.places i new }) u r first (first ++ record { when = when; text = says.Down q } ∷ []) later
          (subst (λ (t : When). IsStepTo look device x m (more ++ drop 1 m.state.tasks) (record w { places = set w.places i new }) first (first ++ record { when = t; text = says.Down q } ∷ [])) is
          (written x m (more ++ drop 1 m.state.tasks) (λ ps. record w { places = ps }) first _
          (crashed-step look device seen x w m stands q place at first more new.slot crashed next)))
          ends

  module _ {A : Type 0} (w : Standing S) (q : ServerNo) (place : Place S) (at : slice_get w.places q.0 ≡ Some place) (when : When) (r : Result A Ended) (u : Standing S) (first later : List Line) where
    -- it sends again what waits for an answer
    pub nudged-does : (out : Collected) → AsksAgain look place.slot out
        → EndsStep r (with_answer q None (Some out) w) u first (first ++ lines_at when (texts_sent q None w.trace (length w.net.sent) (Some out))) later → DoesEvent look device (events.Nudge q) when w r u first later
    nudged-does out asks ends x m more stands next is =
        step-ends look device x m (more ++ drop 1 m.state.tasks) (with_answer q None (Some out) w) u r first (first ++ lines_at when (texts_sent q None w.trace (length w.net.sent) (Some out))) later
        (subst (λ (t : When). IsStepTo look device x m (more ++ drop 1 m.state.tasks) (with_answer q None (Some out) w) first (first ++ lines_at t (texts_sent q None w.trace (length w.net.sent) (Some out)))) is
        (nudged-step look device seen x w m stands q place at more next out asks first))
        ends

    -- it has nothing to do
    pub idle-does : ReadsPages look device (counts_by place.counts) place.slot → has_work_at look place.slot ≡ false → EndsStep r w u first first later → DoesEvent look device (events.Step q) when w r u first later
    idle-does reads idle ends x m more stands next is =
        step-ends look device x m (more ++ drop 1 m.state.tasks) w u r first first later (idle-step look device seen x w m stands q place at reads more next idle first) ends

    -- it is down, and a message for it is lost
    pub lost-does : (k : ℕ) (one : Posted) (s : S) → slice_get w.net.sent k ≡ Some one → one.to ≡ Server q → place.slot ≡ Down s
        → EndsStep r (record w { net = record w.net { sent = with_delivered k w.net.sent } }) u first (first ++ lines_at when (says.Lost k ∷ [])) later → DoesEvent look device (events.Deliver k) when w r u first later
    lost-does k one s posted to down ends x m more stands next is =
        step-ends look device x m (more ++ drop 1 m.state.tasks) (record w { net = record w.net { sent = with_delivered k w.net.sent } }) u r first (first ++ lines_at when (says.Lost k ∷ [])) later
        (subst (λ (t : When). IsStepTo look device x m (more ++ drop 1 m.state.tasks) (record w { net = record w.net { sent = with_delivered k w.net.sent } }) first (first ++ lines_at t (says.Lost k ∷ []))) is
        (lost-step look device seen x w m stands k one posted q to place s at down more next first))
        ends
