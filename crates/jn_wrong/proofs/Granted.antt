-- A run of one server, step by step, while messages are handed over.
use Rattle.jn_wrong.proofs.Common.{◌≡◌, ℕ, ◌<◌, Bool, true, false, List, [], ◌∷◌, length, Option, Some, None, is_some, refl, sym, ◌∙◌, ap, subst, arith, if◌then◌else◌, nat_lt, slice_get, ClientNo, Client, Server, DeviceState, Message, Need, Counts, StableState, Pick, stable, RowOutcome, Sent, Text, Memory, World, Room, server_row, Deliver, after, at_memory, handed, handing, run, go_on, course_to, Course, Setup, Chance, Task, Rests, State, next_task, begun, Deed, room, no_room, served, delivered, delivered_at, first_busy, servers_of, next_event, resting, deed_of, most_messages, cut_short, made, done, Moment, Devices, IsServed, Alone, Befalls, pages_of, Calm, called-calm, no-faults, row_calls, s0, free_on, beside_on, beside_by, AreLeft, AreAllCounted, CountsAll, Left, maps_found, MapPlaces, left-sent, left_over}
use Rattle.jn_wrong.proofs.StillRuns.{still}
use Rattle.jn_system.specs.WholeSystem.Steps as steps
use Rattle.jn_wrong.proofs.Bare.{bare, bare_course, made_of, came_of, bare-made}
use Rattle.jn_wrong.proofs.Driving.{Stand, IsStill, Driven, drive}

abbrev pub with_room : Need → MapPlaces → Bool → Room
with_room free maps rubbish = record { free = free; maps = maps; rubbish = rubbish }

-- once the server's row for message k, which waits first, is this
abbrev pub by_row : Setup → State → ℕ → RowOutcome Memory → State
by_row x s k row = made_of (λ f. f) None [] [] (Server s0) (Rests ∷ []) false x.trace (bare_course (course_to (steps.done s0 (Some k) row s.course.world) (Deliver k no_room) s.course)) (bare (begun Rests s))

bare-made-of : (tasks : List Task) (trace : Bool) (c : Course) (s : State) → bare (made_of (λ f. f) None [] [] (Server s0) tasks false trace (bare_course c) (bare s)) ≡ made_of (λ f. f) None [] [] (Server s0) tasks false trace (bare_course c) (bare s)
bare-made-of tasks trace c s = by (nat_lt most_messages (length c.world.sent))
  where
    by : (b : Bool) → bare (if b then bare (cut_short (bare s)) else came_of (λ f. f) None [] [] (Server s0) tasks trace (bare_course c) (bare s)) ≡ (if b then bare (cut_short (bare s)) else came_of (λ f. f) None [] [] (Server s0) tasks trace (bare_course c) (bare s))
    by true = refl
    by false = refl

module _ (x : Setup) (one : x.servers ≡ 1) (last : Moment) (over : next_task last.state ≡ None) where
  first : s0.0 < x.servers
  first = subst (λ (n : ℕ). 0 < n) (sym one) (omega arith)

  -- ---- a message that finds room

  -- what its server's device shows afterwards: all is counted, and beside it stands what the row leaves
  module _ (s : State) (k : ℕ) (waiting : List ℕ) (message : Message) (m : Memory) (rests' : next_task s ≡ Some Rests) (waits : s.course.waiting ≡ k ∷ waiting)
      (sent : slice_get s.course.world.sent k ≡ Some (Server s0, message)) (up : s.course.world.memory s0 ≡ Some m) where
    abbrev w : World
    w = s.course.world

    abbrev y : StableState
    y = stable (w.found s0)

    abbrev s' : State
    s' = begun Rests s

    abbrev g : Counts
    g = x.counts s0

    abbrev step_with : Room → Option (Pick → Left) → Deed
    step_with r stop = record (served s0 row_calls (handing k r stop ∷ [])) { tasks = Rests ∷ [] }

    deed-is : (h : Chance) → deed_of x h Rests s ≡ step_with (room h s0) h.stop
    deed-is h = ap (λ (ks : List ℕ). resting x h s.clients w (next_event ks (first_busy h.rubbish w (servers_of x)))) waits
        ∙ ap (λ (o : Option Sent). record (delivered h k s.clients w o) { tasks = Rests ∷ [] }) sent
        ∙ ap (λ (o : Option Memory). record (delivered_at h k s0 o) { tasks = Rests ∷ [] }) up

    after-is : (r : Room) → after (Deliver k r) w ≡ steps.done s0 (Some k) (server_row m y r message) w
    after-is r = ap (λ (o : Option Sent). handed k r None o w) sent ∙ ap (λ (o : Option Memory). at_memory s0 k r None message o w) up

    one-memory : (n : Memory) → Some n ≡ Some m → n ≡ m
    one-memory n z = cc

    -- the row is this one, whatever the device shows that is free and whichever map pages there are
    module _ (row : RowOutcome Memory) where
      abbrev now : World
      now = steps.done s0 (Some k) row w

      pub hands-one : (P P' : DeviceState → Type 0) → ((d : DeviceState) → P d → IsStill d) → ((d : DeviceState) (maps : MapPlaces) (r : Bool) → P d → server_row m y (with_room (free_on g (pages_of d) y m) maps r) message ≡ row) → is_some (now.memory s0) ≡ true
          → ((d e : DeviceState) → P d → IsStill e → CountsAll g (stable (now.found s0)) (pages_of e) → beside_on g (pages_of e) ≡ left_over y row.changes (beside_on g (pages_of d)) → P' e)
          → Stand x last s P → Stand x last (by_row x s k row) P'
      hands-one P P' quiet rows lit becomes h = by (drive x one last over s Rests h.moment h.leads h.state rests')
        where
          d : DeviceState
          d = h.moment.devices s0

          by : Driven x one last over s Rests h.moment → Stand x last (by_row x s k row) P'
          by z = at (subst (λ (deed : Deed). Befalls x z.chance deed w h.moment.devices z.next.devices) (deed-is z.chance) z.befalls)
            where
              f : Chance
              f = z.chance

              es : Devices
              es = z.next.devices

              at : Befalls x f (step_with (room f s0) f.stop) w h.moment.devices es → Stand x last (by_row x s k row) P'
              at b = its b.used
                where
                  its : Alone s0 (IsServed g row_calls f w s0) h.moment.devices es → Stand x last (by_row x s k row) P'
                  its a = record {
                    moment = z.next;
                    leads = z.leads;
                    state = z.state ∙ ap (λ (deed : Deed). bare (made x f deed s')) (deed-is f) ∙ bare-made x f (step_with (room f s0) f.stop) s'
                        ∙ ap (λ (out : List Text). made_of (λ f. f) None out [] (Server s0) (Rests ∷ []) false x.trace (bare_course (go_on (handing k (room f s0) f.stop ∷ []) s.course)) (bare s')) (no-faults s0 f.told quietly.told)
                        ∙ ap (λ (c : Course). made_of (λ f. f) None [] [] (Server s0) (Rests ∷ []) false x.trace c (bare s')) course
                        ∙ sym (bare-made-of (Rests ∷ []) x.trace (course_to now (Deliver k no_room) s.course) s');
                    device = becomes d (es s0) h.device (record { waiting = quietly.nothing_waits; told = quietly.nothing_told; power = quietly.power }) counted left;
                  }
                    where
                      quietly : Calm f (es s0)
                      quietly = let p = quiet d h.device in called-calm row_calls f d (es s0) a.its.called p.power p.told p.waiting

                      row-is : server_row m y (room f s0) message ≡ row
                      row-is = ap (λ (free : Need). server_row m y (with_room free (maps_found f.found) (f.rubbish s0)) message) (a.its.free ∙ ap (λ (n : Memory). free_on g (pages_of d) y n) (one-memory a.its.memory (sym a.its.up ∙ up)))
                          ∙ rows d (maps_found f.found) (f.rubbish s0) h.device

                      same : after (Deliver k (room f s0)) w ≡ now
                      same = after-is (room f s0) ∙ ap (λ (r : RowOutcome Memory). steps.done s0 (Some k) r w) row-is

                      course : bare_course (go_on (handing k (room f s0) f.stop ∷ []) s.course) ≡ bare_course (course_to now (Deliver k no_room) s.course)
                      course = ap (λ (o : Option (Pick → Left)). bare_course (go_on (handing k (room f s0) o ∷ []) s.course)) quietly.stop
                          ∙ ap (λ (v : World). bare_course (course_to v (Deliver k no_room) s.course)) same

                      rises : is_some ((after (Deliver k (room f s0)) w).memory s0) ≡ true
                      rises = ap (λ (v : World). is_some (v.memory s0)) same ∙ lit

                      counted : CountsAll g (stable (now.found s0)) (pages_of (es s0))
                      counted = subst (λ (v : World). CountsAll g (stable (v.found s0)) (pages_of (es s0))) same
                          (subst (λ (o : Option (Pick → Left)). AreAllCounted x (run (handing k (room f s0) o ∷ []) w) es) quietly.stop b.counted s0 first rises)

                      left : beside_on g (pages_of (es s0)) ≡ left_over y row.changes (beside_on g (pages_of d))
                      left = subst (λ (o : Option (Pick → Left)). AreLeft x (handing k (room f s0) o ∷ []) w h.moment.devices es) quietly.stop b.left s0 first rises
                          ∙ left-sent (beside_by x h.moment.devices s0) w s0 k (room f s0) s0 message sent true refl (Some m) up (beside_on g (pages_of d))
                          ∙ ap (λ (r : RowOutcome Memory). left_over y r.changes (beside_on g (pages_of d))) row-is

  -- ---- a message to a client

  pub told-one : (s : State) (k : ℕ) (waiting : List ℕ) (c : ClientNo) (message : Message) (P : DeviceState → Type 0) → next_task s ≡ Some Rests → s.course.waiting ≡ k ∷ waiting
      → slice_get s.course.world.sent k ≡ Some (Client c, message) → Stand x last s P → Stand x last (done x still Rests s) P
  told-one s k waiting c message P rests' waits sent h = by (drive x one last over s Rests h.moment h.leads h.state rests')
    where
      deed : Deed
      deed = record (delivered still k s.clients s.course.world (Some (Client c, message))) { tasks = Rests ∷ [] }

      deed-is : (g : Chance) → deed_of x g Rests s ≡ deed
      deed-is g = ap (λ (ks : List ℕ). resting x g s.clients s.course.world (next_event ks (first_busy g.rubbish s.course.world (servers_of x)))) waits
          ∙ ap (λ (o : Option Sent). record (delivered g k s.clients s.course.world o) { tasks = Rests ∷ [] }) sent

      by : Driven x one last over s Rests h.moment → Stand x last (done x still Rests s) P
      by d = at (subst (λ (z : Deed). Befalls x d.chance z s.course.world h.moment.devices d.next.devices) (deed-is d.chance) d.befalls)
        where
          at : Befalls x d.chance deed s.course.world h.moment.devices d.next.devices → Stand x last (done x still Rests s) P
          at b = record {
            moment = d.next;
            leads = d.leads;
            state = d.state ∙ ap (λ (z : Deed). bare (made x d.chance z (begun Rests s))) (deed-is d.chance) ∙ sym (ap (λ (z : Deed). bare (made x still z (begun Rests s))) (deed-is still));
            device = subst P (sym (b.used s0)) h.device;
          }
