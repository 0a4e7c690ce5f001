-- Events of the schedule that are refused, or done.
use Rattle.jn_events.proofs.Common.{there-is, ServerNo, DeviceState, IsAtUp, DoesTasks, Setup, unless, has_work, if_there, if_up, refusal_of, Moment, Task, Meets, when_of, Posted, is_up, Place, Slot, Up, Down, Gone, counts_by, EventRefusal, NoSuchWork, Line, When, StableState, Pick, Event, pairs_view, StoreView, ServerMemory, Protocol, is_up_at, is_up_in, GoesTo, DoesEvent, Ended, Memory, meets-acts, refused-step, WentOn, is_settle, StandsAt, Standing, Stands, Option, None, ◌≡◌, ℕ, false, length, arith, ◌<◌, true, ap, sym, ◌∙◌, Bool, Some, ◌≤◌, [], ◌∷◌, ◌++◌, Ok, Err, subst, suc, refl, nat_tests, vec_len, nat_lt, is_some, List, Result, drop, IfErr, OnOk}
use Rattle.jn_events.proofs.Turns.{next-first}
use Rattle.jn_system.specs.WholeSystem.World.{World}
use Rattle.jn_world_refines.specs.Waiting.{sent_of}
use Rattle.std.specs.Global.{Vec}
use Rattle.jn_schedule.specs.declared.Event.TheVariants as events
use Rattle.jn_report.specs.declared.line.EventRefusal.TheVariants as refusals
use Rattle.jn_report.specs.declared.line.Text.TheVariants as says

-- why such an event is refused where the server is up
abbrev pub refusal_up : World → Event → Option EventRefusal
refusal_up w (events.Timeout q T) = unless (has_work T (w.memory q)) NoSuchWork None
refusal_up w event = None

pub lt-none : {A : Type 0} (n : ℕ) (v : Vec A) → nat_lt n (vec_len v) ≡ false → nat_lt n (length v.items) ≡ false
lt-none n v h = let same = v.ok.0 in grind (arith, nat_tests)

pub lt-there : {A : Type 0} (n : ℕ) (v : Vec A) → nat_lt n (vec_len v) ≡ true → (nat_lt n (length v.items) ≡ true) × (n < length v.items)
lt-there n v h = let same = v.ok.0 in (grind (arith, nat_tests), grind (arith, nat_tests))

module _ {S : Type 0} (look : S → StoreView) (device : S → DeviceState) where
  -- ---- servers that are there and up

  -- whether the machine has it up
  memory-is : (g : _) (slot : Slot S) (memory : Option ServerMemory) (found : Pick → StableState) (d : DeviceState) → StandsAt look device g slot memory found d → is_some memory ≡ is_up slot
  memory-is g (Up p) memory found d h = ap is_some h.0
  memory-is g (Down s) memory found d h = ap is_some h.0
  memory-is g Gone memory found d h = absurd h

  pub up-as : (x : Setup) (w : Standing S) (m : Moment) → Stands look device x w m → (q : ServerNo) → q.0 < length w.places → is_some (m.state.course.world.memory q) ≡ is_up_at q.0 w.places
  up-as x w m stands q h =
      let (p, at) = there-is w.places q.0 h in
      let there = stands.places q.0 p at in
      memory-is (counts_by p.counts) p.slot (m.state.course.world.memory q) (m.state.course.world.found q) (m.devices q) there.stands ∙ sym (ap (λ (o : Option (Place S)). is_up_in o) at)

  pub not-there : (x : Setup) (w : Standing S) (m : Moment) → Stands look device x w m → (q : ServerNo) (more : Option EventRefusal) → nat_lt q.0 (length w.places) ≡ false → if_there x q more ≡ Some refusals.NoSuchServer
  not-there x w m stands q more h = ap (λ (n : ℕ). unless (nat_lt q.0 n) refusals.NoSuchServer more) (sym stands.servers) ∙ ap (λ (b : Bool). unless b refusals.NoSuchServer more) h

  pub is-there : (x : Setup) (w : Standing S) (m : Moment) → Stands look device x w m → (q : ServerNo) (more : Option EventRefusal) → nat_lt q.0 (length w.places) ≡ true → if_there x q more ≡ more
  is-there x w m stands q more h = ap (λ (n : ℕ). unless (nat_lt q.0 n) refusals.NoSuchServer more) (sym stands.servers) ∙ ap (λ (b : Bool). unless b refusals.NoSuchServer more) h

  pub is-down : (x : Setup) (w : Standing S) (m : Moment) → Stands look device x w m → (q : ServerNo) (more : Option EventRefusal) → nat_lt q.0 (length w.places) ≡ true → q.0 < length w.places → is_up_at q.0 w.places ≡ false
      → if_up x q m.state.course.world more ≡ Some refusals.ServerDown
  is-down x w m stands q more there h down =
      is-there x w m stands q (unless (is_some (m.state.course.world.memory q)) refusals.ServerDown more) there
      ∙ ap (λ (b : Bool). unless b refusals.ServerDown more) (up-as x w m stands q h ∙ down)

  pub is-up : (x : Setup) (w : Standing S) (m : Moment) → Stands look device x w m → (q : ServerNo) (more : Option EventRefusal) → nat_lt q.0 (length w.places) ≡ true → q.0 < length w.places → is_up_at q.0 w.places ≡ true
      → if_up x q m.state.course.world more ≡ more
  is-up x w m stands q more there h up =
      is-there x w m stands q (unless (is_some (m.state.course.world.memory q)) refusals.ServerDown more) there
      ∙ ap (λ (b : Bool). unless b refusals.ServerDown more) (up-as x w m stands q h ∙ up)

  -- an event of a server that must be up is refused so
  at-up : (x : Setup) (v : Protocol) (q : ServerNo) (event : Event) → IsAtUp q event → refusal_of x v event ≡ if_up x q v (refusal_up v event)
  at-up x v q (events.Step s) h = ap (λ (r : ServerNo). if_up x r v None) h
  at-up x v q (events.Nudge s) h = ap (λ (r : ServerNo). if_up x r v None) h
  at-up x v q (events.Timeout s T) h = ap (λ (r : ServerNo). if_up x r v (refusal_up v (events.Timeout s T))) h
  at-up x v q (events.Scrub s) h = ap (λ (r : ServerNo). if_up x r v None) h
  at-up x v q (events.Crash s) h = ap (λ (r : ServerNo). if_up x r v None) h
  at-up x v q (events.Show s) h = ap (λ (r : ServerNo). if_up x r v None) h
  at-up x v q (events.Command c command) h = absurd h
  at-up x v q (events.Call c s call) h = absurd h
  at-up x v q (events.Again c) h = absurd h
  at-up x v q (events.Deliver k) h = absurd h
  at-up x v q events.Settle h = absurd h
  at-up x v q (events.Decay s p) h = absurd h
  at-up x v q (events.Revive s p) h = absurd h
  at-up x v q (events.Arm s n kind) h = absurd h
  at-up x v q (events.Restart s) h = absurd h

  pub refused-not-there : (w : Standing S) (q : ServerNo) (event : Event) → IsAtUp q event → nat_lt q.0 (length w.places) ≡ false → (x : Setup) (m : Moment) → Stands look device x w m → refusal_of x m.state.course.world event ≡ Some refusals.NoSuchServer
  refused-not-there w q event its none x m stands = at-up x m.state.course.world q event its ∙ not-there x w m stands q (unless (is_some (m.state.course.world.memory q)) refusals.ServerDown (refusal_up m.state.course.world event)) none

  pub refused-down : (w : Standing S) (q : ServerNo) (event : Event) → IsAtUp q event → nat_lt q.0 (length w.places) ≡ true → q.0 < length w.places → is_up_at q.0 w.places ≡ false → (x : Setup) (m : Moment) → Stands look device x w m
      → refusal_of x m.state.course.world event ≡ Some refusals.ServerDown
  refused-down w q event its there h down x m stands = at-up x m.state.course.world q event its ∙ is-down x w m stands q (refusal_up m.state.course.world event) there h down

  pub refused-up : (w : Standing S) (q : ServerNo) (event : Event) → IsAtUp q event → nat_lt q.0 (length w.places) ≡ true → q.0 < length w.places → is_up_at q.0 w.places ≡ true → (x : Setup) (m : Moment) → Stands look device x w m
      → refusal_of x m.state.course.world event ≡ refusal_up m.state.course.world event
  refused-up w q event its there h up x m stands = at-up x m.state.course.world q event its ∙ is-up x w m stands q (refusal_up m.state.course.world event) there h up

  module _ (when : When) (event : Event) where
    -- the call reports the refusal and does nothing more
    pub meets-refused : {A : Type 0} (refusal : EventRefusal) (r : Result A Ended) (w : Standing S) (first later : List Line)
        → ((x : Setup) (m : Moment) → Stands look device x w m → refusal_of x m.state.course.world event ≡ Some refusal) → length w.net.sent ≤ 1000000
        → OnOk r (later ≡ first ++ record { when = when; text = says.RefusedEvent refusal } ∷ []) → IfErr r (λ e. e ≡ Memory)
        → DoesTasks look device (λ x. Meets event ∷ []) when w r w first later
    meets-refused {A} refusal (Err e) w first later refused few told memory = λ x m rest stands tasks going is. subst (λ (f : Ended). GoesTo {S = S} {A = A} look device x m rest (Err f) w first later) (sym memory) tt
    meets-refused refusal (Ok a) w first later refused few told memory = λ x m rest stands tasks going is.
        let step = refused-step look device x w m stands event refusal first (next-first m.state (Meets event) rest tasks going) (refused x m stands) in
        subst (λ (l : List Line). WentOn look device x m rest w first l) (ap (λ (at : When). first ++ record { when = at; text = says.RefusedEvent refusal } ∷ []) is ∙ sym told)
        (subst (λ (ts : List Task). WentOn look device x m ts w first (first ++ record { when = when_of m.state; text = says.RefusedEvent refusal } ∷ [])) (ap (λ (ts : List Task). drop 1 ts) tasks) (step.done few))

    -- it isn't refused
    pub meets-done : {A : Type 0} (r : Result A Ended) (w u : Standing S) (first later : List Line) → is_settle event ≡ false
        → ((x : Setup) (m : Moment) → Stands look device x w m → refusal_of x m.state.course.world event ≡ None)
        → DoesEvent look device event when w r u first later → DoesTasks look device (λ x. Meets event ∷ []) when w r u first later
    meets-done r w u first later settle may h x m rest stands tasks going is =
        subst (λ (ts : List Task). GoesTo look device x m ts r u first later) (ap (λ (ts : List Task). drop 1 ts) tasks)
        (h x m [] stands (meets-acts x m event (next-first m.state (Meets event) rest tasks going) settle (may x m stands)) is)

many-sent : (ms : List Posted) → length (sent_of ms) ≡ length ms
many-sent [] = refl
many-sent (m ∷ ms) = ap suc (many-sent ms)

module _ {S : Type 0} (look : S → StoreView) (device : S → DeviceState) (seen : (s : S) → look s ≡ pairs_view (device s)) where
  -- whether a message of this number was sent
  pub no-message : (k : ℕ) (w : Standing S) → nat_lt k (length w.net.sent) ≡ false → (x : Setup) (m : Moment) → Stands look device x w m → refusal_of x m.state.course.world (events.Deliver k) ≡ Some refusals.NoSuchMessage
  no-message k w h x m stands = let net = stands.net in ap (λ (n : ℕ). unless (nat_lt k n) refusals.NoSuchMessage None) (ap length net.sent ∙ many-sent w.net.sent) ∙ ap (λ (b : Bool). unless b refusals.NoSuchMessage None) h

  pub some-message : (k : ℕ) (w : Standing S) → nat_lt k (length w.net.sent) ≡ true → (x : Setup) (m : Moment) → Stands look device x w m → refusal_of x m.state.course.world (events.Deliver k) ≡ None
  some-message k w h x m stands = let net = stands.net in ap (λ (n : ℕ). unless (nat_lt k n) refusals.NoSuchMessage None) (ap length net.sent ∙ many-sent w.net.sent) ∙ ap (λ (b : Bool). unless b refusals.NoSuchMessage None) h
