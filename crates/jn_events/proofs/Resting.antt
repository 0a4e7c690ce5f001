-- One turn of a rest: a message is handed over, a server makes a step, or nothing is left.
use Rattle.jn_events.proofs.Common.{DeviceState, KeepsOn, TakesTurn, Setup, rubbish_on, next_in, Moment, Task, Rests, Line, When, Event, pairs_view, StoreView, GoesTo, DoesEvent, Ended, Messages, Epoch, Memory, rest-next, rest-over-step, WentOn, Standing, Stands, ◌≡◌, [], ◌∷◌, Some, subst, ◌≤◌, false, length, None, Ok, Err, Bool, true≢false, sym, List, Result, drop, IsErr, IsErrAnd}
use Rattle.jn_events.proofs.Turns.{next-first}

module _ {S : Type 0} (look : S → StoreView) (device : S → DeviceState) (seen : (s : S) → look s ≡ pairs_view (device s)) (when : When) (w : Standing S) where
  -- this event is next, and was done or failed
  pub turn-kept : {A : Type 0} (event : Event) (r : Result A Ended) (u : Standing S) (first later : List Line)
      → ((x : Setup) (m : Moment) → Stands look device x w m → next_in x (rubbish_on x m.devices) m.state.course ≡ Some event)
      → DoesEvent look device event when w r u first later → KeepsOn look device when w r u first later
  turn-kept event r u first later is-next h x m rest stands tasks going is =
      subst (λ (ts : List Task). GoesTo look device x m (Rests ∷ drop 1 ts) r u first later) tasks
      (h x m (Rests ∷ []) stands (rest-next look device seen x w m stands (next-first m.state Rests rest tasks going) event (is-next x m stands)) is)

  -- nothing is left to do
  pub turn-over : (first : List Line) → length w.net.sent ≤ 1000000
      → ((x : Setup) (m : Moment) → Stands look device x w m → next_in x (rubbish_on x m.devices) m.state.course ≡ None)
      → TakesTurn look device when w (Ok false) w first first
  turn-over first few none x m rest stands tasks going is =
      let step = rest-over-step look device seen x w m stands (next-first m.state Rests rest tasks going) (none x m stands) first in
      subst (λ (ts : List Task). WentOn look device x m (drop 1 ts) w first first) tasks (step.done few)

module _ {S : Type 0} (look : S → StoreView) (device : S → DeviceState) (seen : (s : S) → look s ≡ pairs_view (device s)) where
  -- ---- a turn that fails

  same-end : (when : When) (e : Ended) (w u v : Standing S) (first later : List Line) → TakesTurn look device when w (Err e) u first later → TakesTurn look device when w (Err e) v first later
  same-end when Messages w u v first later h = h
  same-end when (Epoch q) w u v first later h = h
  same-end when Memory w u v first later h = λ x m rest stands tasks going is. tt

  pub turn-exit : (when : When) (r : Result Bool Ended) (e : Ended) (w u v : Standing S) (first later : List Line) → IsErr r → IsErrAnd r (λ f. f ≡ e)
      → TakesTurn look device when w (Err e) u first later → TakesTurn look device when w r v first later
  turn-exit when (Ok b) e w u v first later is which h = absurd (true≢false (sym is))
  turn-exit when (Err f) e w u v first later is which h =
      subst (λ (g : Ended). TakesTurn look device when w (Err g) v first later) (sym which) (same-end when e w u v first later h)
