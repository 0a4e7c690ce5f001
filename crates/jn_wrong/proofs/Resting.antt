-- One step of a settle where nothing strikes: the message that a calm run hands over, or an erasure, which changes nothing.
use Rattle.jn_wrong.proofs.Common.{◌≡◌, ◌⊎◌, inl, inr, ℕ, ◌<◌, Bool, true, false, List, [], ◌∷◌, ◌++◌, append-nil, length, drop, Option, Some, None, is_some, refl, sym, ◌∙◌, ap, subst, arith, drop-append_seam, ◌&&◌, not, if◌then◌else◌, nat_lt, slice_get, ServerNo, Client, Server, Message, StableState, Pick, stable, RowOutcome, Sent, Work, WorkId, drop_row, drop_phase, work_at, World, Memory, Room, server_row, storage_of, of_worker, Deliver, Works, after, at_memory, handed, handing, working, go_on, course_to, newly_sent, numbered, Setup, Chance, Rests, State, begun, Deed, room, no_room, nothing, served, delivered, delivered_at, is_busy, is_busy_with, worked, working_steps, Devices, IsServed, Alone, Befalls, servers_of, first_busy, next_event, resting, deed_of, most_messages, made, done, IsQuiet, Calm, quiet-same, quiet-called, delivered-up, no-faults, step_calls, row_calls, has_going, Active, Broken, Stored, Phase, Left}
use Rattle.jn_wrong.proofs.StillRuns.{still, is_fixed, is_sent_so, rests_so}
use Rattle.jn_msgs.specs.declared.message.Message.TheVariants as messages
use Rattle.jn_system.specs.WholeSystem.Steps as steps
use Rattle.jn_headline.proofs.Busy.{IsFirst, first-busy-is, none-busy, idle-goes-not, erases}
use Rattle.jn_wrong.proofs.Bare.{bare_course, bare, made-same, idles}
use Rattle.jn_wrong.proofs.Doing.{below, is-calm}

-- ---- what a message does hangs on no room

pub never : {A : Type 0} → false ≡ true → A
never e = absurd (no' e)
  where
    no' : false ≡ true → ⊥
    no' k = cc

drop-same : (m : Memory) (y : StableState) (r t : Room) (W : WorkId) (o : Option Work) → drop_row m.worker (storage_of m y r) m.tickets W o ≡ drop_row m.worker (storage_of m y t) m.tickets W o
drop-same m y r t W None = refl
drop-same m y r t W (Some v) = by v.phase
  where
    by : (p : Phase) → drop_phase m.worker (storage_of m y r) m.tickets W p ≡ drop_phase m.worker (storage_of m y t) m.tickets W p
    by (Active a) = refl
    by (Broken u b) = refl
    by (Stored p) = refl

module _ (r t : Room) where
  row-fixed : (m : Memory) (y : StableState) (message : Message) → is_fixed message ≡ true → server_row m y r message ≡ server_row m y t message
  row-fixed m y (messages.Open c request T) e = refl
  row-fixed m y (messages.Op c request W number op) e = refl
  row-fixed m y (messages.Drop T W) e = ap (of_worker m) (drop-same m y r t W (work_at W m.worker))
  row-fixed m y (messages.Begin c request) e = refl
  row-fixed m y (messages.Abort c request T works) e = refl
  row-fixed m y (messages.Thanks c T) e = refl
  row-fixed m y (messages.Inquire T W) e = refl
  row-fixed m y message e = never e

  after-fixed : (w : World) (k : ℕ) (q : ServerNo) (message : Message) (m : Memory) → slice_get w.sent k ≡ Some (Server q, message) → w.memory q ≡ Some m → is_fixed message ≡ true → after (Deliver k r) w ≡ after (Deliver k t) w
  after-fixed w k q message m e up fixed = at r ∙ ap (λ (row : RowOutcome Memory). steps.done q (Some k) row w) (row-fixed m (stable (w.found q)) message fixed) ∙ sym (at t)
    where
      at : (z : Room) → after (Deliver k z) w ≡ steps.done q (Some k) (server_row m (stable (w.found q)) z message) w
      at z = ap (λ (o : Option Sent). handed k z None o w) e ∙ ap (λ (o : Option Memory). at_memory q k z None message o w) up

three : (a b c : Bool) → (a && (b && c)) ≡ true → (a ≡ true) × (b ≡ true) × (c ≡ true)
three true true true e = (refl, refl, refl)
three true true false e = never e
three true false c e = never e
three false b c e = never e

both : (a b : Bool) → (a && b) ≡ true → (a ≡ true) × (b ≡ true)
both true true e = (refl, refl)
both true false e = never e
both false b e = never e

module _ (x : Setup) (h : Chance) (s : State) (ds es : Devices) (quiet : IsQuiet x s.course.world ds) where
  abbrev w : World
  w = s.course.world

  abbrev s' : State
  s' = begun Rests s

  -- it goes on
  abbrev on : Deed → Deed
  on deed = record deed { tasks = Rests ∷ [] }

  abbrev Same : Deed → Deed → Type 0
  Same deed calm = (bare (made x h deed s') ≡ bare (made x still calm s')) × IsQuiet x (go_on deed.steps s.course).world es

  abbrev Stays : Deed → Type 0
  Stays deed = (bare (made x h deed s') ≡ bare s) × IsQuiet x w es

  -- ---- a message

  handed-over : (k : ℕ) (q : ServerNo) (message : Message) (o : Option Memory) → slice_get w.sent k ≡ Some (Server q, message) → w.memory q ≡ o → (nat_lt q.0 x.servers && (is_some o && is_fixed message)) ≡ true
      → Befalls x h (on (delivered_at h k q o)) w ds es → Same (on (delivered_at h k q o)) (on (delivered_at still k q o))
  handed-over k q message None e up so b = never (three (nat_lt q.0 x.servers) false (is_fixed message) so).1
  handed-over k q message (Some m) e up so b = by b.used
    where
      is : (nat_lt q.0 x.servers ≡ true) × (true ≡ true) × (is_fixed message ≡ true)
      is = three (nat_lt q.0 x.servers) true (is_fixed message) so

      by : Alone q (IsServed (x.counts q) row_calls h w q) ds es → Same (on (served q row_calls (handing k (room h q) h.stop ∷ []))) (on (served q row_calls (Deliver k (room still q) ∷ [])))
      by a = at (is-calm x h s ds es quiet row_calls q (below q.0 x.servers is.0) a)
        where
          at : Calm h (es q) → Same (on (served q row_calls (handing k (room h q) h.stop ∷ []))) (on (served q row_calls (Deliver k (room still q) ∷ [])))
          at calm = (
            made-same x h (on (served q row_calls (handing k (room h q) h.stop ∷ []))) (Deliver k (room still q) ∷ []) s' (no-faults q h.told calm.told) refl
                (ap (λ (o : Option (Pick → Left)). bare_course (go_on (handing k (room h q) o ∷ []) s.course)) calm.stop
                ∙ ap (λ (now : World). bare_course (course_to now (Deliver k (room still q)) s.course)) (after-fixed (room h q) (room still q) w k q message m e up is.2)),
            subst (λ (o : Option (Pick → Left)). IsQuiet x (go_on (handing k (room h q) o ∷ []) s.course).world es) (sym calm.stop)
                (quiet-called x w (after (Deliver k (room h q)) w) ds es quiet h q (λ p. delivered-up w p k (room h q)) a.others calm),
          )

  delivers : (k : ℕ) (o : Option Sent) → slice_get w.sent k ≡ o → is_sent_so x w o ≡ true → Befalls x h (on (delivered h k s.clients w o)) w ds es → Same (on (delivered h k s.clients w o)) (on (delivered still k s.clients w o))
  delivers k None e so b = never so
  delivers k (Some (Client c, message)) e so b = (refl, quiet-same x w (after (Deliver k no_room) w) ds es quiet (λ p. delivered-up w p k no_room) b.used)
  delivers k (Some (Server q, message)) e so b = handed-over k q message (w.memory q) e refl so b

  -- ---- an erasure

  module _ (few : nat_lt most_messages (length w.sent) ≡ false) (waits : s.course.waiting ≡ []) (tasks : s.tasks ≡ Rests ∷ drop 1 s.tasks) where
    erases-one : (q : ServerNo) → q.0 < x.servers → is_busy h.rubbish w q ≡ true → has_going (stable (w.found q)) (w.memory q) ≡ false → Befalls x h (on (served q step_calls (working_steps h q))) w ds es → Stays (on (served q step_calls (working_steps h q)))
    erases-one q l busy idle b = by b.used
      where
        by : Alone q (IsServed (x.counts q) step_calls h w q) ds es → Stays (on (served q step_calls (working_steps h q)))
        by a = at (is-calm x h s ds es quiet step_calls q l a)
          where
            m : Memory
            m = a.its.memory

            still-so : after (Works q (room h q)) w ≡ w
            still-so = erases w q m (room h q) a.its.up (subst (λ (o : Option Memory). is_busy_with (stable (w.found q)) o (h.rubbish q) ≡ true) a.its.up busy)
                (subst (λ (o : Option Memory). has_going (stable (w.found q)) o ≡ false) a.its.up idle)

            at : Calm h (es q) → Stays (on (served q step_calls (working_steps h q)))
            at calm = (
              made-same x h (on (served q step_calls (working_steps h q))) [] s' (no-faults q h.told calm.told) refl
                  (ap (λ (o : Option (Pick → Left)). bare_course (go_on (working q (room h q) o ∷ []) s.course)) calm.stop
                  ∙ ap (λ (now : World). bare_course (course_to now (Works q (room h q)) s.course)) still-so ∙ idle-course)
                  ∙ idles x (on (served q step_calls [])) s s' few refl refl refl refl refl refl refl (sym tasks),
              quiet-called x w w ds es quiet h q (λ p z. z) a.others calm,
            )
              where
                nothing-sent : newly_sent w w ≡ []
                nothing-sent = drop-all w.sent
                  where
                    drop-all : (xs : List Sent) → drop (length xs) xs ≡ []
                    drop-all xs = subst (λ ys. drop (length xs) ys ≡ []) (append-nil xs) (drop-append_seam xs [])

                idle-course : bare_course (course_to w (Works q (room h q)) s.course) ≡ bare_course s.course
                idle-course = ap (λ (sent : List Sent). record { world = w; waiting = s.course.waiting ++ numbered (length w.sent) sent; steps = [] }) nothing-sent
                    ∙ ap (λ (ks : List ℕ). record { world = w; waiting = ks; steps = [] }) (append-nil s.course.waiting)

    works : (o : Option ServerNo) → first_busy h.rubbish w (servers_of x) ≡ o → first_busy (λ q. false) w (servers_of x) ≡ None → Befalls x h (resting x h s.clients w (next_event [] o)) w ds es
        → Same (resting x h s.clients w (next_event [] o)) nothing ⊎ Stays (resting x h s.clients w (next_event [] o))
    works None e none b = inl (refl, quiet-same x w w ds es quiet (λ q z. z) b.used)
    works (Some q) e none b = inr (subst (λ (deed : Deed). Stays (on deed)) (sym is-worked) (erases-one q l is.busy idle (subst (λ (deed : Deed). Befalls x h (on deed) w ds es) is-worked b)))
      where
        is : IsFirst h.rubbish w 0 x.servers q
        is = first-busy-is h.rubbish w 0 x.servers q e

        is-worked : worked h q w ≡ served q step_calls (working_steps h q)
        is-worked = ap (λ (c : Bool). if c then served q step_calls (working_steps h q) else nothing) is.busy

        l : q.0 < x.servers
        l = let k = is.high in omega (arith, k)

        idle : has_going (stable (w.found q)) (w.memory q) ≡ false
        idle = idle-goes-not (stable (w.found q)) (w.memory q) false (none-busy (λ p. false) w 0 x.servers none q is.low is.high)

  -- ---- either

  abbrev Rested : Type 0
  Rested = ((bare (done x h Rests s) ≡ bare (done x still Rests s)) × IsQuiet x (go_on (deed_of x h Rests s).steps s.course).world es) ⊎ ((bare (done x h Rests s) ≡ bare s) × IsQuiet x w es)

  pub rests : s.tasks ≡ Rests ∷ drop 1 s.tasks → rests_so x w s.course.waiting ≡ true → Befalls x h (deed_of x h Rests s) w ds es → Rested
  rests tasks so b = by s.course.waiting refl so b
    where
      now : List ℕ → Deed
      now waiting = resting x h s.clients w (next_event waiting (first_busy h.rubbish w (servers_of x)))

      calmly : List ℕ → Deed
      calmly waiting = resting x still s.clients w (next_event waiting (first_busy (λ q. false) w (servers_of x)))

      is-none : (o : Option ServerNo) → not (is_some o) ≡ true → o ≡ None
      is-none None e = refl
      is-none (Some q) e = never e

      is-few : (c : Bool) → not c ≡ true → c ≡ false
      is-few false e = refl
      is-few true e = never e

      by : (waiting : List ℕ) → s.course.waiting ≡ waiting → rests_so x w waiting ≡ true → Befalls x h (now waiting) w ds es
          → Same (now waiting) (calmly waiting) ⊎ Stays (now waiting)
      by (k ∷ waiting) e z f = inl (delivers k (slice_get w.sent k) refl z f)
      by [] e z f = let t = both (not (is_some (first_busy (λ q. false) w (servers_of x)))) (not (nat_lt most_messages (length w.sent))) z in at (is-none (first_busy (λ q. false) w (servers_of x)) t.0) (is-few (nat_lt most_messages (length w.sent)) t.1)
        where
          at : first_busy (λ q. false) w (servers_of x) ≡ None → nat_lt most_messages (length w.sent) ≡ false → Same (now []) (calmly []) ⊎ Stays (now [])
          at none few = subst (λ (o : Option ServerNo). Same (now []) (resting x still s.clients w (next_event [] o)) ⊎ Stays (now [])) (sym none) (works few e tasks (first_busy h.rubbish w (servers_of x)) refl none f)
