-- What a timeout and what befalls a device do, and what a server that is down doesn't, as events of the written machine.
use Rattle.jn_events.proofs.Common.{FaultKind, ServerNo, Tid, DeviceState, PageDecays, PageRevives, FaultArmed, told_unless, TimedOut, Befell, WhereUp, KeepsBeside, is_up, Place, Slot, Down, Up, Gone, counts_by, lines_at, TooManyArmed, Line, When, Event, pairs_view, StoreView, is_up_at, is_up_in, DoesEvent, EndsStep, GoesTo, Ended, Memory, there-is, IsStepTo, HasCounts, Standing, StandsAt, ◌≡◌, Ok, Err, true≢false, sym, subst, ℕ, Bool, ◌++◌, Some, ◌<◌, false, length, Option, refl, ◌∙◌, ap, set, List, Result, IsErr, IsErrAnd, drop, slice_get}
use Rattle.jn_world.proofs.ServerCalls.{step-ends, written}
use Rattle.jn_world_refines.proofs.Befalling.{decayed-step, revived-step, armed-step}
use Rattle.jn_world_refines.proofs.Nudging.{timed-out-step, nudged-down-step}
use Rattle.jn_schedule.specs.declared.Event.TheVariants as events
use Rattle.jn_base.specs.declared.device.FaultKind.TheVariants as faults
use Rattle.jn_report.specs.declared.line.Text.TheVariants as says

module _ {S : Type 0} (look : S → StoreView) (device : S → DeviceState) (seen : (s : S) → look s ≡ pairs_view (device s)) where
  -- without memory nothing is said
  pub event-without : {A : Type 0} (r : Result A Ended) (event : Event) (when : When) (w u : Standing S) (first later : List Line) → IsErr r → IsErrAnd r (λ e. e ≡ Memory) → DoesEvent look device event when w r u first later
  event-without (Ok a) event when w u first later is which = absurd (true≢false (sym is))
  event-without {A} (Err e) event when w u first later is which = subst (λ (f : Ended). DoesEvent {S = S} {A = A} look device event when w (Err f) u first later) (sym which) (λ x m more stands next at. tt)

  module _ (w : Standing S) (q : ServerNo) (place new : Place S) (i : ℕ) (index : i ≡ q.0) (same : new.counts ≡ place.counts) where
    module _ {A : Type 0} (when : When) (r : Result A Ended) (u : Standing S) (first later : List Line) (at : slice_get w.places q.0 ≡ Some place) (counts : HasCounts look q (counts_by place.counts) new.slot) where
      -- a work may be broken from now on
      pub timed-out-does : (T : Tid) (answer : Bool) → TimedOut look T place.slot answer new.slot
          → EndsStep r (record w { places = set w.places i new }) u first first later → DoesEvent look device (events.Timeout q T) when w r u first later
      timed-out-does T answer timed ends x m more stands next is =
          step-ends look device x m (more ++ drop 1 m.state.tasks) (record w { places = set w.places i new }) u r first first later
          (written look device seen w q place new i index same x m (more ++ drop 1 m.state.tasks) (λ ps. record w { places = ps }) first first
          (timed-out-step look device seen x w m stands q place at T more next answer new.slot timed counts first))
          ends

      -- a page goes bad, is good again, or a fault is to wait
      pub decayed-does : (p : ℕ) (answer : Bool) → Befell look device (counts_by place.counts) (λ d e. PageDecays d p answer e) place.slot new.slot → WhereUp look KeepsBeside place.slot new.slot
          → EndsStep r (record w { places = set w.places i new }) u first (first ++ lines_at when (told_unless answer (says.Outside q (record { kind = faults.Decay p; page = p })))) later
          → DoesEvent look device (events.Decay q p) when w r u first later
      decayed-does p answer befell kept ends x m more stands next is =
          step-ends look device x m (more ++ drop 1 m.state.tasks) (record w { places = set w.places i new }) u r first (first ++ lines_at when (told_unless answer (says.Outside q (record { kind = faults.Decay p; page = p })))) later
          (subst (λ (t : When). IsStepTo look device x m (more ++ drop 1 m.state.tasks) (record w { places = set w.places i new }) first (first ++ lines_at t (told_unless answer (says.Outside q (record { kind = faults.Decay p; page = p }))))) is
          (written look device seen w q place new i index same x m (more ++ drop 1 m.state.tasks) (λ ps. record w { places = ps }) first _
          (decayed-step look device seen x w m stands q place at new.slot counts kept first more p answer next befell)))
          ends

      pub revived-does : (p : ℕ) → Befell look device (counts_by place.counts) (λ d e. PageRevives d p e) place.slot new.slot → WhereUp look KeepsBeside place.slot new.slot
          → EndsStep r (record w { places = set w.places i new }) u first first later → DoesEvent look device (events.Revive q p) when w r u first later
      revived-does p befell kept ends x m more stands next is =
          step-ends look device x m (more ++ drop 1 m.state.tasks) (record w { places = set w.places i new }) u r first first later
          (written look device seen w q place new i index same x m (more ++ drop 1 m.state.tasks) (λ ps. record w { places = ps }) first first
          (revived-step look device seen x w m stands q place at new.slot counts kept first more p next befell))
          ends

      pub armed-does : (n : ℕ) (kind : FaultKind) (answer : Bool) → Befell look device (counts_by place.counts) (λ d e. FaultArmed d n kind answer e) place.slot new.slot → WhereUp look KeepsBeside place.slot new.slot
          → EndsStep r (record w { places = set w.places i new }) u first (first ++ lines_at when (told_unless answer (says.RefusedEvent TooManyArmed))) later
          → DoesEvent look device (events.Arm q n kind) when w r u first later
      armed-does n kind answer befell kept ends x m more stands next is =
          step-ends look device x m (more ++ drop 1 m.state.tasks) (record w { places = set w.places i new }) u r first (first ++ lines_at when (told_unless answer (says.RefusedEvent TooManyArmed))) later
          (subst (λ (t : When). IsStepTo look device x m (more ++ drop 1 m.state.tasks) (record w { places = set w.places i new }) first (first ++ lines_at t (told_unless answer (says.RefusedEvent TooManyArmed)))) is
          (written look device seen w q place new i index same x m (more ++ drop 1 m.state.tasks) (λ ps. record w { places = ps }) first _
          (armed-step look device seen x w m stands q place at new.slot counts kept first more n kind answer next befell)))
          ends

  module _ {A : Type 0} (w : Standing S) (q : ServerNo) (place : Place S) (at : slice_get w.places q.0 ≡ Some place) (when : When) (r : Result A Ended) (u : Standing S) (first later : List Line) where
    pub nudged-down-does : (s : S) → place.slot ≡ Down s → EndsStep r w u first first later → DoesEvent look device (events.Nudge q) when w r u first later
    nudged-down-does s down ends x m more stands next is =
        step-ends look device x m (more ++ drop 1 m.state.tasks) w u r first first later (nudged-down-step look device seen x w m stands q place at s down more next first) ends

module _ {S : Type 0} (look : S → StoreView) (device : S → DeviceState) (seen : (s : S) → look s ≡ pairs_view (device s)) where
  -- a server that is down sends nothing again
  pub nudged-idle : {A : Type 0} (w : Standing S) (q : ServerNo) (when : When) (r : Result A Ended) (u : Standing S) (first later : List Line) → q.0 < length w.places → is_up_at q.0 w.places ≡ false
      → EndsStep r w u first first later → DoesEvent look device (events.Nudge q) when w r u first later
  nudged-idle {A} w q when r u first later within down ends x m more stands next is =
      let (place, at) = there-is w.places q.0 within in
      let there = stands.places q.0 place at in
      by place at place.slot refl there.stands (sym (ap (λ (o : Option (Place S)). is_up_in o) at) ∙ down)
    where
      by : (place : Place S) → slice_get w.places q.0 ≡ Some place → (slot : Slot S) → place.slot ≡ slot → StandsAt look device (counts_by place.counts) place.slot (m.state.course.world.memory q) (m.state.course.world.found q) (m.devices q) → is_up place.slot ≡ false
          → GoesTo look device x m (more ++ drop 1 m.state.tasks) r u first later
      by place at (Down s) e st no' = nudged-down-does look device seen w q place at when r u first later s e ends x m more stands next is
      by place at (Up p) e st no' = absurd (true≢false (ap (λ (t : Slot S). is_up t) (sym e) ∙ no'))
      by place at Gone e st no' = absurd (subst (λ (t : Slot S). StandsAt look device (counts_by place.counts) t (m.state.course.world.memory q) (m.state.course.world.found q) (m.devices q)) e st)
