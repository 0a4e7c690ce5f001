-- A server that is up takes a message.
use Rattle.jn_world_refines.proofs.Common.{◌≡◌, ℕ, zero, suc, List, [], ◌∷◌, ◌++◌, length, slice_get, slice_set, drop, Option, Some, None, refl, ◌∙◌, ap, true, false, sym, ServerNo, Party, Server, Outside, DeviceState, Collected, Posted, with_delivered, Place, Slot, Up, Down, Gone, Took, WhereUp, TakeLeaves, Room, server_row, IsStep, after, ends, at_memory, handed, Deliver, Memory, counts_by, Line, sent_of, delivered_by, Sent, StableState, Pick, stable, Parts, view_with, memory_of, room_of, handing, state, pairs_view, StoreView, Setup, served, delivered, delivered_at, Moment, lines_at, Task, when_of, Standing, Stands, texts_sent, with_answer, HasCounts, ReadsPages, ActsNext, IsStepTo, left_by_step, server_eq, row_calls, Left, left-sent, left_over, Beside, beside_by}
use Rattle.jn_schedule.specs.declared.Event.TheVariants as events
use Rattle.jn_world_refines.proofs.Served.{chance, room-is, here, same-server}
use Rattle.jn_world_refines.proofs.ServedSteps.{IsRowStep, row-step}
use Rattle.jn_world_refines.proofs.Left.{AreQuiet, counted, leaves-by}

pub sent-there : (ms : List Posted) (k : ℕ) (one : Posted) → slice_get ms k ≡ Some one → slice_get (sent_of ms) k ≡ Some (one.to, one.message)
sent-there [] k one e = absurd (cc e)
sent-there (m ∷ ms) zero one e = ap (λ (a : Posted). Some (a.to, a.message)) (some-of m one e)
  where
    some-of : (a b : Posted) → Some a ≡ Some b → a ≡ b
    some-of a b e = cc
sent-there (m ∷ ms) (suc k) one e = sent-there ms k one e

module _ {S : Type 0} (look : S → StoreView) (device : S → DeviceState) (seen : (s : S) → look s ≡ pairs_view (device s)) (x : Setup) (w : Standing S) (m : Moment) (stand : Stands look device x w m)
    (k : ℕ) (one : Posted) (posted : slice_get w.net.sent k ≡ Some one) where
  -- the message as the machine has it
  pub is-sent : (to : Party) → one.to ≡ to → slice_get m.state.course.world.sent k ≡ Some (to, one.message)
  is-sent to e = ap (λ (ms : List Sent). slice_get ms k) (let net = stand.net in net.sent) ∙ sent-there w.net.sent k one posted ∙ ap (λ (p : Party). Some (p, one.message)) e

  module _ (q : ServerNo) (to : one.to ≡ Server q) (place : Place S) (at : slice_get w.places q.0 ≡ Some place) (reads : ReadsPages look device (counts_by place.counts) place.slot) where
    up-step : (p : Parts S) (is : place.slot ≡ Up p)
        → IsRowStep look device seen x w m stand q place at p is reads (server_row (memory_of (view_with look p)) (state (view_with look p).storage) (room_of (view_with look p).storage) one.message)
        (Some k) row_calls (events.Deliver k) (handing k (room_of (view_with look p).storage)) (with_delivered k w.net.sent)
    up-step p is = record { acts = acts; does = does; may = may; delivers = delivers; quiet = quiet }
      where
        its : Room
        its = room_of (view_with look p).storage

        mem : Memory
        mem = memory_of (view_with look p)

        acts : (told : List Outside) (stop : Option (Pick → Left)) → delivered (chance look device seen x w m stand q place at p is reads told stop) k m.state.callers m.state.course.world (slice_get m.state.course.world.sent k) ≡ served q row_calls (handing k its stop ∷ [])
        acts told stop = ap (delivered (chance look device seen x w m stand q place at p is reads told stop) k m.state.callers m.state.course.world) (is-sent (Server q) to)
            ∙ ap (delivered_at (chance look device seen x w m stand q place at p is reads told stop) k q) (let stands = here look device seen x w m stand q place at p is reads in stands.0)
            ∙ ap (λ (r : Room). served q row_calls (handing k r stop ∷ [])) (room-is look device seen x w m stand q place at p is reads told stop)

        does-by : (stop : Option (Pick → Left)) → handed k its stop (slice_get m.state.course.world.sent k) m.state.course.world ≡ ends q (Some k) stop (server_row mem (state (view_with look p).storage) its one.message) m.state.course.world
        does-by stop = ap (λ (o : Option Sent). handed k its stop o m.state.course.world) (is-sent (Server q) to)
            ∙ ap (λ (o : Option Memory). at_memory q k its stop one.message o m.state.course.world) (let stands = here look device seen x w m stand q place at p is reads in stands.0)
            ∙ ap (λ (f : Pick → StableState). ends q (Some k) stop (server_row mem (stable f) its one.message) m.state.course.world) (let stands = here look device seen x w m stand q place at p is reads in stands.1)

        does : (stop : Option (Pick → Left)) → after (handing k its stop) m.state.course.world ≡ ends q (Some k) stop (server_row mem (state (view_with look p).storage) its one.message) m.state.course.world
        does None = does-by None
        does (Some made) = does-by (Some made)

        may : (stop : Option (Pick → Left)) → IsStep (handing k its stop) m.state.course.world
        may None = tt
        may (Some made) = tt

        delivers : (stop : Option (Pick → Left)) → delivered_by (handing k its stop) w.net.sent ≡ with_delivered k w.net.sent
        delivers None = refl
        delivers (Some made) = refl

        quiet : (stop : Option (Pick → Left)) (s : ServerNo) → server_eq q s ≡ false → AreQuiet m.state.course.world (handing k its stop ∷ []) s
        quiet None s e read n = left-sent read m.state.course.world s k its q one.message (is-sent (Server q) to) false e (m.state.course.world.memory s) refl n
        quiet (Some made) s e read n = refl

    -- what the row leaves is what the machine's step leaves
    takes-leave : (p : Parts S) → place.slot ≡ Up p → (n : Beside) → left_by_step (beside_by x m.devices q) m.state.course.world q (Deliver k (room_of (view_with look p).storage)) n
        ≡ left_over (state (view_with look p).storage) (server_row (memory_of (view_with look p)) (state (view_with look p).storage) (room_of (view_with look p).storage) one.message).changes n
    takes-leave p is n = left-sent (beside_by x m.devices q) m.state.course.world q k its q one.message (is-sent (Server q) to) true (same-server q) (Some (memory_of (view_with look p))) (let stands = here look device seen x w m stand q place at p is reads in stands.0) n
        ∙ ap (λ (f : Pick → StableState). left_over (stable f) (server_row (memory_of (view_with look p)) (stable f) its one.message).changes n) (let stands = here look device seen x w m stand q place at p is reads in stands.1)
      where
        its : Room
        its = room_of (view_with look p).storage

    -- It is done, or the server is stopped.
    pub took-step : (more : List Task) → ActsNext x m (events.Deliver k) more → (answer : Option Collected) (slot : Slot S) (told : List Line) → Took look device q (counts_by place.counts) (when_of m.state) one.message place.slot answer slot [] told
        → HasCounts look q (counts_by place.counts) slot → WhereUp look (TakeLeaves one.message) place.slot slot → (lines : List Line)
        → IsStepTo look device x m (more ++ drop 1 m.state.tasks)
        (with_answer q (Some k) answer (record w { places = slice_set w.places q.0 (record place { slot = slot }); net = record w.net { sent = with_delivered k w.net.sent } }))
        lines (lines ++ told ++ lines_at (when_of m.state) (texts_sent q (Some k) w.trace (length w.net.sent) answer))
    took-step more next answer slot told took counts leaves lines = by place.slot refl took leaves
      where
        by : (before : Slot S) → place.slot ≡ before → Took look device q (counts_by place.counts) (when_of m.state) one.message before answer slot [] told → WhereUp look (TakeLeaves one.message) before slot
            → IsStepTo look device x m (more ++ drop 1 m.state.tasks)
            (with_answer q (Some k) answer (record w { places = slice_set w.places q.0 (record place { slot = slot }); net = record w.net { sent = with_delivered k w.net.sent } }))
            lines (lines ++ told ++ lines_at (when_of m.state) (texts_sent q (Some k) w.trace (length w.net.sent) answer))
        by (Up p) is t l = row-step look device seen x w m stand q place at p is reads (server_row (memory_of (view_with look p)) (state (view_with look p).storage) (room_of (view_with look p).storage) one.message)
            (Some k) row_calls (events.Deliver k) (handing k (room_of (view_with look p).storage)) (with_delivered k w.net.sent) (up-step p is) more next lines answer slot told t.0 t.1 counts
            (leaves-by look (beside_by x m.devices q) m.state.course.world q (Deliver k (room_of (view_with look p).storage) ∷ []) (TakeLeaves one.message) p (λ b h. h ∙ sym (takes-leave p is (counted look p))) slot l)
        by (Down s) is t l = absurd t
        by Gone is t l = absurd t
