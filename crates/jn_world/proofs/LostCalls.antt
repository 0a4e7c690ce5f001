-- Messages that are lost, and those that are handed over.
use Rattle.jn_world.proofs.Common.{Party, Server, ServerNo, DeviceState, with_delivered, Carried, Posted, is_up, Place, Slot, Up, Down, Gone, counts_by, lines_at, Line, When, pairs_view, StoreView, is_up_at, is_up_in, IsSentTo, GoesTo, DoesEvent, EndsStep, Ended, never-sent, Standing, StandsAt, ◌≡◌, ℕ, Option, Some, subst, sym, ◌≤◌, length, ◌∙◌, ap, arith, None, refl, false, [], ◌∷◌, ◌++◌, true≢false, List, slice_get, Result, drop}
use Rattle.jn_world.proofs.Places.{delivered-length}
use Rattle.jn_world.proofs.ServerCalls.{lost-does}
use Rattle.jn_world_refines.proofs.Dismissing.{there-is}
use Rattle.jn_schedule.specs.declared.Event.TheVariants as events
use Rattle.jn_report.specs.declared.line.Text.TheVariants as says

pub sent-for : (ms : List Posted) (k : ℕ) (one : Posted) (party : Party) → slice_get ms k ≡ Some one → IsSentTo party (slice_get ms k) → one.to ≡ party
sent-for ms k one party at to = subst (λ (o : Option Posted). IsSentTo party o) at to

pub to-it : (ms : List Posted) (k : ℕ) (one : Posted) (party : Party) → slice_get ms k ≡ Some one → one.to ≡ party → IsSentTo party (slice_get ms k)
to-it ms k one party at to = subst (λ (o : Option Posted). IsSentTo party o) (sym at) to

pub delivered-limit : (a n : Carried) (k : ℕ) → n ≡ record a { sent = with_delivered k a.sent } → length a.sent ≤ 1000000 → length n.sent ≤ 1000000
delivered-limit a n k e few = let same = ap (λ (x : Carried). length x.sent) e ∙ delivered-length k a.sent in omega arith

posted-there : (party : Party) (o : Option Posted) → IsSentTo party o → (one : Posted) × (o ≡ Some one) × (one.to ≡ party)
posted-there party None h = absurd h
posted-there party (Some one) h = (one, refl, h)

module _ {S : Type 0} (look : S → StoreView) (device : S → DeviceState) (seen : (s : S) → look s ≡ pairs_view (device s)) where
  pub lost-now : {A : Type 0} (w : Standing S) (q : ServerNo) (when : When) (r : Result A Ended) (u : Standing S) (first later : List Line) (k : ℕ) (one : Posted) → slice_get w.net.sent k ≡ Some one → one.to ≡ Server q → is_up_at q.0 w.places ≡ false
      → EndsStep r (record w { net = record w.net { sent = with_delivered k w.net.sent } }) u first (first ++ lines_at when (says.Lost k ∷ [])) later → DoesEvent look device (events.Deliver k) when w r u first later
  lost-now {A} w q when r u first later k one posted to down ends x m more stands next is =
      let (place, at) = there-is w.places q.0 (never-sent look device seen x w m stands k one posted q to) in
      let there = stands.places q.0 place at in
      by place at place.slot refl there.stands (sym (ap (λ (o : Option (Place S)). is_up_in o) at) ∙ down)
    where
      by : (place : Place S) → slice_get w.places q.0 ≡ Some place → (slot : Slot S) → place.slot ≡ slot → StandsAt look device (counts_by place.counts) place.slot (m.state.course.world.memory q) (m.state.course.world.found q) (m.devices q) → is_up place.slot ≡ false
          → GoesTo look device x m (more ++ drop 1 m.state.tasks) r u first later
      by place at (Down s) e st no' = lost-does look device seen w q place at when r u first later k one s posted to e ends x m more stands next is
      by place at (Up p) e st no' = absurd (true≢false (ap (λ (t : Slot S). is_up t) (sym e) ∙ no'))
      by place at Gone e st no' = absurd (subst (λ (t : Slot S). StandsAt look device (counts_by place.counts) t (m.state.course.world.memory q) (m.state.course.world.found q) (m.devices q)) e st)

  -- whichever message it is
  pub lost-to : {A : Type 0} (w : Standing S) (q : ServerNo) (when : When) (r : Result A Ended) (u : Standing S) (first later : List Line) (k : ℕ) (net : Carried) → IsSentTo (Server q) (slice_get w.net.sent k) → is_up_at q.0 w.places ≡ false
      → net ≡ record w.net { sent = with_delivered k w.net.sent }
      → EndsStep r (record w { net = net }) u first (first ++ lines_at when (says.Lost k ∷ [])) later → DoesEvent look device (events.Deliver k) when w r u first later
  lost-to w q when r u first later k net to down delivers ends =
      let (one, at, to-q) = posted-there (Server q) (slice_get w.net.sent k) to in
      lost-now w q when r u first later k one at to-q down (subst (λ (n : Carried). EndsStep r (record w { net = n }) u first (first ++ lines_at when (says.Lost k ∷ [])) later) delivers ends)
