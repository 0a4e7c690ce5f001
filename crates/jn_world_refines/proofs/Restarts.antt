-- A restart of the schedule, and a server that comes up at the start or the end.
use Rattle.jn_world_refines.proofs.Common.{◌≡◌, ℕ, ◌+◌, Bool, true, false, List, [], ◌∷◌, ◌++◌, drop, length, slice_get, slice_set, Some, refl, sym, ◌∙◌, ap, subst, arith, ◌||◌, if◌then◌else◌, fun_ext, ServerNo, Tid, Outside, DeviceState, Place, Slot, Up, Down, Gone, CameTo, IsRestart, texts_of_step, commits_in, has_line, counts_by, EpochsUsedUp, Line, Text, pairs_view, StoreView, Setup, recovered, given_up, Moment, lines_at, Task, ComesUp, when_of, next_task, Standing, Stands, with_named, HasCounts, ActsNext, IsStepTo, names_told}
use Rattle.jn_place.specs.declared.place.Restarted.{Restarted}
use Rattle.jn_place.specs.declared.place.Restarted.TheVariants as came
use Rattle.jn_report.specs.declared.line.Text.TheVariants as says
use Rattle.jn_schedule.specs.declared.Event.TheVariants as events
use Rattle.jn_world_refines.specs.Restarting.{texts_restarted, ComesTo}
use Rattle.jn_world_refines.proofs.Moving.{does-next}
use Rattle.jn_world_refines.proofs.Restarting.{up-chance, not-used-up, up-step}
use Rattle.jn_world_refines.proofs.Stopping.{stopped-chance, stopped-step, used-chance, used-up, used-up-step, used-cut}

module _ {S : Type 0} (look : S → StoreView) (device : S → DeviceState) (seen : (s : S) → look s ≡ pairs_view (device s)) (x : Setup) (w : Standing S) (m : Moment) (stand : Stands look device x w m)
    (q : ServerNo) (place : Place S) (at : slice_get w.places q.0 ≡ Some place) where
  abbrev standing : Slot S → Standing S
  standing slot = record w { places = slice_set w.places q.0 (record place { slot = slot }) }

  same-named : (texts : List Text) (slot : Slot S) → length (commits_in texts) ≡ 0 → ((T : Tid) → has_line T texts ≡ false) → with_named texts (standing slot) ≡ standing slot
  same-named texts slot e none = ap (λ (n : ℕ). record (standing slot) { named = λ T. has_line T texts || w.named T; commits = n }) (more w.commits (length (commits_in texts)) e)
      ∙ ap (λ (f : Tid → Bool). record (standing slot) { named = f }) (fun_ext (λ T. ap (λ (b : Bool). b || w.named T) (none T)))
    where
      more : (a b : ℕ) → b ≡ 0 → a + b ≡ a
      more a b h = omega (arith, h)

  lines-are : (lines lines' lines'' : List Line) (told : List Outside) (texts : List Text) → lines' ≡ lines ++ lines_at (when_of m.state) (texts_of_step q told true) → lines'' ≡ lines' ++ lines_at (when_of m.state) texts
      → lines'' ≡ lines ++ lines_at (when_of m.state) (texts_of_step q told true) ++ lines_at (when_of m.state) texts
  lines-are lines lines' lines'' told texts e f = f ∙ ap (λ (ls : List Line). ls ++ lines_at (when_of m.state) texts) e

  module _ (more : List Task) (next : ActsNext x m (events.Restart q) more) (lines lines' lines'' : List Line) where
    restarted-by : (told : List Outside) (before after : Slot S) (restarted : Restarted) → place.slot ≡ before → CameTo look device q (counts_by place.counts) told before restarted after
        → HasCounts look q (counts_by place.counts) after
        → lines' ≡ lines ++ lines_at (when_of m.state) (texts_of_step q told true) → lines'' ≡ lines' ++ lines_at (when_of m.state) (texts_restarted q w.named restarted)
        → IsStepTo look device x m (more ++ drop 1 m.state.tasks) (with_named (texts_restarted q w.named restarted) (standing after)) lines lines''
    restarted-by told (Down s) (Up p) (came.Up epoch tids) is up counts e f =
        up-step look device seen x w m stand q place at s is told epoch tids.items p up
        (record (recovered (up-chance look device seen x w m stand q place at s is told epoch tids.items p up) q) { tasks = more }) refl
        (does-next x m (events.Restart q) more next (up-chance look device seen x w m stand q place at s is told epoch tids.items p up) (λ r. refl) (recovered (up-chance look device seen x w m stand q place at s is told epoch tids.items p up) q)
        (ap (λ (b : Bool). if b then record (given_up (up-chance look device seen x w m stand q place at s is told epoch tids.items p up) q) { texts = says.RefusedEvent EpochsUsedUp ∷ [] } else recovered (up-chance look device seen x w m stand q place at s is told epoch tids.items p up) q)
        (not-used-up look device seen x w m stand q place at s is told epoch tids.items p up)))
        counts lines lines'' (lines-are lines lines' lines'' told (says.Up q epoch ∷ names_told tids.items w.named) e f)
    restarted-by told (Down s) (Down t) came.Stopped is stopped counts e f =
        subst (λ (now : Standing S). IsStepTo look device x m (more ++ drop 1 m.state.tasks) now lines lines'') (sym (same-named (says.Stopped q ∷ []) (Down t) refl (λ T. refl)))
        (stopped-step look device seen x w m stand q place at s is told t stopped
        (record (recovered (stopped-chance look device seen x w m stand q place at s is told t stopped) q) { tasks = more }) refl
        (does-next x m (events.Restart q) more next (stopped-chance look device seen x w m stand q place at s is told t stopped) (λ r. refl) (recovered (stopped-chance look device seen x w m stand q place at s is told t stopped) q) refl)
        counts lines lines'' (lines-are lines lines' lines'' told (says.Stopped q ∷ []) e f))
    restarted-by told (Down s) (Down t) came.UsedUp is used counts e f =
        subst (λ (now : Standing S). IsStepTo look device x m (more ++ drop 1 m.state.tasks) now lines lines'') (sym (same-named (says.RefusedEvent EpochsUsedUp ∷ []) (Down t) refl (λ T. refl)))
        (used-up-step look device seen x w m stand q place at s is told t used
        (record (given_up (used-chance look device seen x w m stand q place at s is told t used) q) { texts = says.RefusedEvent EpochsUsedUp ∷ []; tasks = more }) refl
        (does-next x m (events.Restart q) more next (used-chance look device seen x w m stand q place at s is told t used) (λ r. refl)
        (record (given_up (used-chance look device seen x w m stand q place at s is told t used) q) { texts = says.RefusedEvent EpochsUsedUp ∷ [] })
        (ap (λ (b : Bool). if b then record (given_up (used-chance look device seen x w m stand q place at s is told t used) q) { texts = says.RefusedEvent EpochsUsedUp ∷ [] } else recovered (used-chance look device seen x w m stand q place at s is told t used) q)
        (used-up look device seen x w m stand q place at s is told t used)))
        counts lines lines'' (lines-are lines lines' lines'' told (says.RefusedEvent EpochsUsedUp ∷ []) e f))
    restarted-by told (Down s) Gone (came.Up epoch tids) is h counts e f = absurd h
    restarted-by told (Down s) Gone came.Stopped is h counts e f = absurd h
    restarted-by told (Down s) Gone came.UsedUp is h counts e f = absurd h
    restarted-by told before after restarted is h counts e f = absurd h

    -- by an event of the schedule
    pub restarted-step : (restarted : Restarted) (slot : Slot S) → IsRestart look device q (counts_by place.counts) (when_of m.state) place.slot restarted slot lines lines' → HasCounts look q (counts_by place.counts) slot
        → lines'' ≡ lines' ++ lines_at (when_of m.state) (texts_restarted q w.named restarted)
        → IsStepTo look device x m (more ++ drop 1 m.state.tasks) (with_named (texts_restarted q w.named restarted) (standing slot)) lines lines''
    restarted-step restarted slot h counts f = restarted-by h.told place.slot slot restarted refl h.came counts h.lines_are f

  -- ---- at the start and the end

  module _ (next : next_task m.state ≡ Some (ComesUp q)) (lines lines' lines'' : List Line) where
    came-by : (told : List Outside) (before after : Slot S) (restarted : Restarted) → place.slot ≡ before → CameTo look device q (counts_by place.counts) told before restarted after
        → HasCounts look q (counts_by place.counts) after
        → lines' ≡ lines ++ lines_at (when_of m.state) (texts_of_step q told true) → lines'' ≡ lines' ++ lines_at (when_of m.state) (texts_restarted q w.named restarted)
        → ComesTo look device x m q w restarted (standing after) lines lines''
    came-by told (Down s) (Up p) (came.Up epoch tids) is up counts e f =
        up-step look device seen x w m stand q place at s is told epoch tids.items p up
        (recovered (up-chance look device seen x w m stand q place at s is told epoch tids.items p up) q) refl
        (record {
          task = ComesUp q;
          next = next;
          deed_is = ap (λ (b : Bool). if b then record (given_up (up-chance look device seen x w m stand q place at s is told epoch tids.items p up) q) { cuts = true } else recovered (up-chance look device seen x w m stand q place at s is told epoch tids.items p up) q)
              (not-used-up look device seen x w m stand q place at s is told epoch tids.items p up);
          begun_is = refl;
        })
        counts lines lines'' (lines-are lines lines' lines'' told (says.Up q epoch ∷ names_told tids.items w.named) e f)
    came-by told (Down s) (Down t) came.Stopped is stopped counts e f =
        subst (λ (now : Standing S). IsStepTo look device x m (drop 1 m.state.tasks) now lines lines'') (sym (same-named (says.Stopped q ∷ []) (Down t) refl (λ T. refl)))
        (stopped-step look device seen x w m stand q place at s is told t stopped
        (recovered (stopped-chance look device seen x w m stand q place at s is told t stopped) q) refl
        (record { task = ComesUp q; next = next; deed_is = refl; begun_is = refl })
        counts lines lines'' (lines-are lines lines' lines'' told (says.Stopped q ∷ []) e f))
    came-by told (Down s) (Down t) came.UsedUp is used counts e f =
        used-cut look device seen x w m stand q place at s is told t used
        (record {
          task = ComesUp q;
          next = next;
          deed_is = ap (λ (b : Bool). if b then record (given_up (used-chance look device seen x w m stand q place at s is told t used) q) { cuts = true } else recovered (used-chance look device seen x w m stand q place at s is told t used) q)
              (used-up look device seen x w m stand q place at s is told t used);
          begun_is = refl;
        }) refl counts lines
    came-by told (Down s) Gone (came.Up epoch tids) is h counts e f = absurd h
    came-by told (Down s) Gone came.Stopped is h counts e f = absurd h
    came-by told (Down s) Gone came.UsedUp is h counts e f = absurd h
    came-by told before after restarted is h counts e f = absurd h

    pub came-up-step : (restarted : Restarted) (slot : Slot S) → IsRestart look device q (counts_by place.counts) (when_of m.state) place.slot restarted slot lines lines' → HasCounts look q (counts_by place.counts) slot
        → lines'' ≡ lines' ++ lines_at (when_of m.state) (texts_restarted q w.named restarted)
        → ComesTo look device x m q w restarted (standing slot) lines lines''
    came-up-step restarted slot h counts f = came-by h.told place.slot slot restarted refl h.came counts h.lines_are f
