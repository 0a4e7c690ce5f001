-- Background steps of servers that are up.
use Rattle.jn_world_refines.proofs.Common.{◌≡◌, Bool, true, false, List, [], ◌∷◌, ◌++◌, length, slice_get, slice_set, drop, Option, Some, None, is_some, refl, sym, ◌∙◌, ap, subst, ◌||◌, if◌then◌else◌, ServerNo, Outside, DeviceState, Collected, Place, Slot, Up, Down, Gone, has_work_at, work_of, WorkedBy, WhereUp, WorkLeaves, Room, server_step, IsStep, after, ends, work, works, World, Memory, counts_by, Line, delivered_by, RowOutcome, StableState, Change, Pick, stable, Parts, view_with, memory_of, room_of, working, has_going, state, pairs_view, StoreView, Setup, served, nothing, is_busy, is_busy_with, working_steps, worked, rubbish_on, Moment, lines_at, Task, when_of, Standing, StandsAt, Stands, texts_sent, with_answer, HasCounts, ReadsPages, ActsNext, IsStepTo, left_by_row, left_by_step, server_eq, step_calls, Left, left_with, left-work, Beside, beside_by, Work}
use Rattle.jn_system.proofs.WholeSystem.BusyServers.{goes, erases, nothing as none-to-do}
use Rattle.jn_schedule.specs.declared.Event.TheVariants as events
use Rattle.jn_world_refines.proofs.Served.{chance, room-is, rubbish-is, here, same-server}
use Rattle.jn_world_refines.proofs.ServedSteps.{IsRowStep, row-step}
use Rattle.jn_world_refines.proofs.Plain.{no-chance, nothing-step}
use Rattle.jn_world_refines.proofs.Losing.{down-is}
use Rattle.jn_world_refines.proofs.Left.{AreQuiet, Leaves, counted, leaves-by}

-- a server has a background step exactly where a work of its goes or a rubbish record is left
busy-is : (a : Memory) (y : StableState) (its : Room) → is_some (server_step a y its) ≡ (has_going y (Some a) || its.rubbish)
busy-is a y its = by (server_step a y its) refl
  where
    with-row : (row : RowOutcome Memory) → server_step a y its ≡ Some row → (changes : List Change) → row.changes ≡ changes → true ≡ (has_going y (Some a) || its.rubbish)
    with-row row e (c ∷ changes) k = ap (λ (b : Bool). b || its.rubbish) (sym (goes a y its row c changes e k))
    with-row row e [] k = let both = erases a y its row e k in ap (λ (b : Bool). false || b) (sym both.1) ∙ ap (λ (b : Bool). b || its.rubbish) (sym both.0)

    by : (o : Option (RowOutcome Memory)) → server_step a y its ≡ o → is_some o ≡ (has_going y (Some a) || its.rubbish)
    by (Some row) e = with-row row e row.changes refl
    by None e = let both = none-to-do a y its e in ap (λ (b : Bool). false || b) (sym both.1) ∙ ap (λ (b : Bool). b || its.rubbish) (sym both.0)

module _ {S : Type 0} (look : S → StoreView) (device : S → DeviceState) (seen : (s : S) → look s ≡ pairs_view (device s)) (x : Setup) (w : Standing S) (m : Moment) (stand : Stands look device x w m)
    (q : ServerNo) (place : Place S) (at : slice_get w.places q.0 ≡ Some place) (reads : ReadsPages look device (counts_by place.counts) place.slot) where
  abbrev v : World
  v = m.state.course.world

  -- whether the machine's server has something to do
  pub busy-here : is_busy (rubbish_on x m.devices) v q ≡ has_work_at look place.slot
  busy-here = by place.slot refl
    where
      by : (slot : Slot S) → place.slot ≡ slot → is_busy (rubbish_on x m.devices) v q ≡ has_work_at look slot
      by (Up p) is = up (here look device seen x w m stand q place at p is reads)
        where
          up : StandsAt look device (counts_by place.counts) (Up p) (v.memory q) (v.found q) (m.devices q) → is_busy_with (stable (v.found q)) (v.memory q) (rubbish_on x m.devices q) ≡ is_some (work_of (view_with look p))
          up h = ap (λ (o : Option Memory). is_busy_with (stable (v.found q)) o (rubbish_on x m.devices q)) h.0
              ∙ ap (λ (f : Pick → StableState). is_busy_with (stable f) (Some (memory_of (view_with look p))) (rubbish_on x m.devices q)) h.1
              ∙ ap (λ (b : Bool). is_busy_with (state (view_with look p).storage) (Some (memory_of (view_with look p))) b) (rubbish-is look device seen x w m stand q place at p is reads)
              ∙ sym (busy-is (memory_of (view_with look p)) (state (view_with look p).storage) (room_of (view_with look p).storage))
      by (Down s) is = ap (λ (o : Option Memory). is_busy_with (stable (v.found q)) o (rubbish_on x m.devices q)) (down-is look device seen x w m stand q place s at is)
      by Gone is = absurd (gone (subst (λ (slot : Slot S). StandsAt look device (counts_by place.counts) slot (v.memory q) (v.found q) (m.devices q)) is (let there = stand.places q.0 place at in there.stands)))
        where
          gone : StandsAt look device (counts_by place.counts) Gone (v.memory q) (v.found q) (m.devices q) → ⊥
          gone h = h

  pub idle-here : has_work_at look place.slot ≡ false → is_busy (rubbish_on x m.devices) v q ≡ false
  idle-here e = busy-here ∙ e

  -- a server that is up with nothing to do does nothing
  pub idle-step : (more : List Task) → ActsNext x m (events.Step q) more → has_work_at look place.slot ≡ false → (lines : List Line) → IsStepTo look device x m (more ++ drop 1 m.state.tasks) w lines lines
  idle-step more next e lines = nothing-step look device seen x w m stand next.task more next.next next.begun_is
      (next.deed (no-chance look device seen x w m stand) (λ r. refl) ∙ ap (λ (b : Bool). record (if b then served q step_calls (working_steps (no-chance look device seen x w m stand) q) else nothing) { tasks = more }) (idle-here e)) lines

  module _ (p : Parts S) (is : place.slot ≡ Up p) (row : RowOutcome Memory) (row-is : work_of (view_with look p) ≡ Some row) where
    has-work : has_work_at look place.slot ≡ true
    has-work = ap (has_work_at look) is ∙ ap (λ (o : Option (RowOutcome Memory)). is_some o) row-is

    work-step : IsRowStep look device seen x w m stand q place at p is reads row None step_calls (events.Step q) (working q (room_of (view_with look p).storage)) w.net.sent
    work-step = record { acts = acts; does = does; may = may; delivers = delivers; quiet = quiet }
      where
        its : Room
        its = room_of (view_with look p).storage

        acts : (told : List Outside) (stop : Option (Pick → Left)) → worked (chance look device seen x w m stand q place at p is reads told stop) q v ≡ served q step_calls (working q its stop ∷ [])
        acts told stop = ap (λ (b : Bool). if b then served q step_calls (working_steps (chance look device seen x w m stand q place at p is reads told stop) q) else nothing) (busy-here ∙ has-work)
            ∙ ap (λ (r : Room). served q step_calls (working q r stop ∷ [])) (room-is look device seen x w m stand q place at p is reads told stop)

        does-by : (stop : Option (Pick → Left)) → work q its stop (v.memory q) v ≡ ends q None stop row v
        does-by stop = ap (λ (o : Option Memory). work q its stop o v) (let stands = here look device seen x w m stand q place at p is reads in stands.0)
            ∙ ap (λ (f : Pick → StableState). works q stop (server_step (memory_of (view_with look p)) (stable f) its) v) (let stands = here look device seen x w m stand q place at p is reads in stands.1)
            ∙ ap (λ (o : Option (RowOutcome Memory)). works q stop o v) row-is

        does : (stop : Option (Pick → Left)) → after (working q its stop) v ≡ ends q None stop row v
        does None = does-by None
        does (Some made) = does-by (Some made)

        may : (stop : Option (Pick → Left)) → IsStep (working q its stop) v
        may None = tt
        may (Some made) = tt

        delivers : (stop : Option (Pick → Left)) → delivered_by (working q its stop) w.net.sent ≡ w.net.sent
        delivers None = refl
        delivers (Some made) = refl

        quiet : (stop : Option (Pick → Left)) (s : ServerNo) → server_eq q s ≡ false → AreQuiet v (working q its stop ∷ []) s
        quiet None s e read n = left-work read v s q its false e (v.memory s) refl n
        quiet (Some made) s e read n = refl

    -- what the step leaves is what the machine's leaves
    works-leave : (n : Beside) → left_by_step (beside_by x m.devices q) v q (Work q (room_of (view_with look p).storage)) n ≡ left_by_row (Work q (room_of (view_with look p).storage)) (state (view_with look p).storage) row.changes n
    works-leave n = left-work (beside_by x m.devices q) v q q its true (same-server q) (Some (memory_of (view_with look p))) (let stands = here look device seen x w m stand q place at p is reads in stands.0) n
        ∙ ap (λ (f : Pick → StableState). left_with (Work q its) (stable f) (server_step (memory_of (view_with look p)) (stable f) its) n) (let stands = here look device seen x w m stand q place at p is reads in stands.1)
        ∙ ap (λ (o : Option (RowOutcome Memory)). left_with (Work q its) (state (view_with look p).storage) o n) row-is
      where
        its : Room
        its = room_of (view_with look p).storage

    work-leaves : (slot : Slot S) → WhereUp look WorkLeaves (Up p) slot → Leaves look (beside_by x m.devices q) v q (working q (room_of (view_with look p).storage) None ∷ []) slot (Up p)
    work-leaves slot h = leaves-by look (beside_by x m.devices q) v q (working q (room_of (view_with look p).storage) None ∷ []) WorkLeaves p (λ b l. (l row row-is).1 ∙ sym (works-leave (counted look p))) slot h

  -- It makes its next background step, or is stopped in it.
  pub worked-step : (more : List Task) → ActsNext x m (events.Step q) more → (answer : Option Collected) (slot : Slot S) (told : List Line) → WorkedBy look device q (counts_by place.counts) (when_of m.state) place.slot answer slot [] told
      → HasCounts look q (counts_by place.counts) slot → WhereUp look WorkLeaves place.slot slot → (lines : List Line)
      → IsStepTo look device x m (more ++ drop 1 m.state.tasks) (with_answer q None answer (record w { places = slice_set w.places q.0 (record place { slot = slot }) }))
      lines (lines ++ told ++ lines_at (when_of m.state) (texts_sent q None w.trace (length w.net.sent) answer))
  worked-step more next answer slot told worked-by counts leaves lines = by place.slot refl worked-by leaves
    where
      by : (before : Slot S) → place.slot ≡ before → WorkedBy look device q (counts_by place.counts) (when_of m.state) before answer slot [] told → WhereUp look WorkLeaves before slot
          → IsStepTo look device x m (more ++ drop 1 m.state.tasks) (with_answer q None answer (record w { places = slice_set w.places q.0 (record place { slot = slot }) }))
          lines (lines ++ told ++ lines_at (when_of m.state) (texts_sent q None w.trace (length w.net.sent) answer))
      by (Up p) is b l = row-step look device seen x w m stand q place at p is reads b.row None step_calls (events.Step q) (working q (room_of (view_with look p).storage)) w.net.sent (work-step p is b.row b.row_is) more next lines answer slot told b.step b.sends counts (work-leaves p is b.row b.row_is slot l)
      by (Down s) is b l = absurd b
      by Gone is b l = absurd b
