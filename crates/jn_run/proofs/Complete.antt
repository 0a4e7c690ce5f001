-- What follows from what a call leaves.
use Rattle.jn_run.proofs.Common.{◌≡◌, ◌≤◌, ◌<◌, ℕ, List, length, Option, Some, None, refl, ap, subst, arith, ServerNo, Contents, Event, IsSchedule, Has, image_name, Geometry, New, Images, Options, Setup, Devices, Command, Run, Trial, Node, NodeEnds, node_done, node_not_loaded, node_refused, node_refusal_not_written, node_not_read, node_not_written, node_no_epoch, node_no_epoch_left, node_passed_limit, node_frame, node_unsettled, node_not_saved, node_no_memory, node_no_memory_inside, Opening, IsFirstFault, Outside, SourceState, SinkState, KeeperState, IsCutShort, IsText, IsWholeReport, Keeps, KeepsFirst, OutcomeOf, ReadsSchedule, RefusedImage, RefusedSchedule, RunEnds, TrialEnds, WordsEnd, most_bytes, words_refused, words_not_written, words_no_memory, done, not_read, too_many_bytes, too_many_events, schedule_refused, schedule_not_written, not_loaded, image_refused, image_not_written, at_limit, not_written, not_saved, no_memory, no_memory_inside, no_memory_saving, trial_done, trial_not_written, trial_at_limit, trial_no_memory, Status, NoneFails}
use Rattle.jn_image_files.specs.Examined.{IsAccepted, IsRefused}
use Rattle.jn_image_files.specs.declared.refusal.Cause.{Cause}
use Rattle.jn_options.specs.declared.asked.Node.{Node as ANode}
use Rattle.jn_options.specs.declared.asked.Trial.{Trial as ATrial}
use Rattle.jn_run.specs.Laws.{HasImages, CanRun, OnlyItsCountRises, RunCompletes, run_done, run_at_limit, run_out_of_memory, TrialCompletes, trial_whole, trial_cut_short, trial_out_of_memory}
use Rattle.jn_status.specs.declared.status.Status.TheVariants as statuses

-- ---- the counts

source-same : (before after : SourceState) → after ≡ before → after.faults ≡ before.faults
source-same before after same = ap (λ (s : SourceState). s.faults) same

sink-same : (before after : SinkState) → after ≡ before → after.faults ≡ before.faults
sink-same before after same = ap (λ (s : SinkState). s.faults) same

keeper-same : (before after : KeeperState) → after ≡ before → after.faults ≡ before.faults
keeper-same before after same = ap (λ (s : KeeperState). s.faults) same

keeps-same : (closing : Option (List ℕ)) (x : Setup) (left : Devices) (before after : KeeperState) → Keeps closing x left before after → after.faults ≡ before.faults
keeps-same None x left before after kept = keeper-same before after kept
keeps-same (Some name) x left before after kept = kept.1

module _ (before after : Outside) where
  -- where each count stays
  none-rose : (status : Status) → after.source.faults ≡ before.source.faults → after.sink.faults ≡ before.sink.faults → after.keeper.faults ≡ before.keeper.faults → OnlyItsCountRises before after status
  none-rose status source sink keeper = record { source = λ other. source; sink = λ other. sink; keeper = λ other. keeper }

  -- or that of the source, the sink or the keeper alone rises
  source-rose : after.sink.faults ≡ before.sink.faults → after.keeper.faults ≡ before.keeper.faults → OnlyItsCountRises before after statuses.Read
  source-rose sink keeper = record { source = λ other. absurd (other refl); sink = λ other. sink; keeper = λ other. keeper }

  sink-rose : after.source.faults ≡ before.source.faults → after.keeper.faults ≡ before.keeper.faults → OnlyItsCountRises before after statuses.Write
  sink-rose source keeper = record { source = λ other. source; sink = λ other. absurd (other refl); keeper = λ other. keeper }

  keeper-rose : after.source.faults ≡ before.source.faults → after.sink.faults ≡ before.sink.faults → OnlyItsCountRises before after statuses.Keep
  keeper-rose source sink = record { source = λ other. source; sink = λ other. sink; keeper = λ other. absurd (other refl) }

  words-count : (status : Status) → after.source.faults ≡ before.source.faults → after.keeper.faults ≡ before.keeper.faults → WordsEnd before.sink after.sink status → OnlyItsCountRises before after status
  words-count status source keeper (words_refused w) = none-rose statuses.Words source w.faults keeper
  words-count status source keeper (words_not_written w) = sink-rose source keeper
  words-count status source keeper (words_no_memory same) = none-rose statuses.Memory source (sink-same before.sink after.sink same) keeper

  trial-count : (trial : ATrial) (kept : Option Contents) (status : Status) → after.source.faults ≡ before.source.faults → after.keeper.faults ≡ before.keeper.faults → TrialEnds trial kept before.sink after.sink status → OnlyItsCountRises before after status
  trial-count trial kept status source keeper (trial_done r) = none-rose statuses.Done source r.told.faults keeper
  trial-count trial kept status source keeper (trial_not_written r) = sink-rose source keeper
  trial-count trial kept status source keeper (trial_at_limit r same) = none-rose statuses.Limit source (sink-same before.sink after.sink same) keeper
  trial-count trial kept status source keeper (trial_no_memory same) = none-rose statuses.Memory source (sink-same before.sink after.sink same) keeper

  run-count : (options : Options) (status : Status) → RunEnds options before after status → OnlyItsCountRises before after status
  run-count options status (done r) = none-rose statuses.Done r.read.reads.gave.faults r.written.faults (keeps-same options.closing r.holds.0.opens.setup r.holds.0.closing before.keeper after.keeper r.holds.1)
  run-count options status (not_read fails sink keeper) = source-rose (sink-same before.sink after.sink sink) (keeper-same before.keeper after.keeper keeper)
  run-count options status (too_many_bytes many sink keeper) = none-rose statuses.Limit many.gave.faults (sink-same before.sink after.sink sink) (keeper-same before.keeper after.keeper keeper)
  run-count options status (too_many_events many sink keeper) = none-rose statuses.Limit many.reads.gave.faults (sink-same before.sink after.sink sink) (keeper-same before.keeper after.keeper keeper)
  run-count options status (schedule_refused r keeper) = none-rose statuses.Schedule r.reads.gave.faults r.written.faults (keeper-same before.keeper after.keeper keeper)
  run-count options status (schedule_not_written r keeper) = sink-rose r.reads.gave.faults (keeper-same before.keeper after.keeper keeper)
  run-count options status (not_loaded from read sink fails) = keeper-rose read.reads.gave.faults (sink-same before.sink after.sink sink)
  run-count options status (image_refused r keeper) = none-rose statuses.Image r.read.reads.gave.faults r.written.faults (keeper-same before.keeper after.keeper keeper)
  run-count options status (image_not_written r keeper) = sink-rose r.read.reads.gave.faults (keeper-same before.keeper after.keeper keeper)
  run-count options status (at_limit r keeper) = none-rose statuses.Limit r.read.reads.gave.faults r.written.faults (keeper-same before.keeper after.keeper keeper)
  run-count options status (not_written r keeper) = sink-rose r.read.reads.gave.faults (keeper-same before.keeper after.keeper keeper)
  run-count options status (not_saved r rose) = keeper-rose r.read.reads.gave.faults r.written.faults
  run-count options status (no_memory gives sink keeper) = none-rose statuses.Memory gives.2.faults (sink-same before.sink after.sink sink) (keeper-same before.keeper after.keeper keeper)
  run-count options status (no_memory_inside r keeper) = none-rose statuses.Memory r.read.reads.gave.faults r.written.faults (keeper-same before.keeper after.keeper keeper)
  run-count options status (no_memory_saving r keeper) = none-rose statuses.Memory r.read.reads.gave.faults r.written.faults keeper

  unchanged : (status : Status) → after ≡ before → OnlyItsCountRises before after status
  unchanged status same = none-rose status (ap (λ (o : Outside). o.source.faults) same) (ap (λ (o : Outside). o.sink.faults) same) (ap (λ (o : Outside). o.keeper.faults) same)

  node-count : (node : ANode) (status : Status) → NodeEnds node before after status → OnlyItsCountRises before after status
  node-count node status (node_done e saves) = none-rose statuses.Done e.faults e.told.written.faults saves.keeps.faults
  node-count node status (node_not_loaded source sink fails) = keeper-rose (source-same before.source after.source source) (sink-same before.sink after.sink sink)
  node-count node status (node_refused r source keeper) = none-rose statuses.Image (source-same before.source after.source source) r.written.faults (keeper-same before.keeper after.keeper keeper)
  node-count node status (node_refusal_not_written r source keeper) = sink-rose (source-same before.source after.source source) (keeper-same before.keeper after.keeper keeper)
  node-count node status (node_not_read t fault fits rose keeper) = source-rose t.written.faults (keeper-same before.keeper after.keeper keeper)
  node-count node status (node_not_written t source keeper) = sink-rose source (keeper-same before.keeper after.keeper keeper)
  node-count node status (node_no_epoch f is same) = unchanged statuses.Limit same
  node-count node status (node_no_epoch_left e is keeper) = none-rose statuses.Limit e.faults e.told.written.faults (keeper-same before.keeper after.keeper keeper)
  node-count node status (node_passed_limit t fault many source keeper) = none-rose statuses.Limit source t.written.faults (keeper-same before.keeper after.keeper keeper)
  node-count node status (node_frame t meets source keeper) = none-rose statuses.Frame source t.written.faults (keeper-same before.keeper after.keeper keeper)
  node-count node status (node_unsettled t end live source keeper) = none-rose statuses.Unsettled source t.written.faults (keeper-same before.keeper after.keeper keeper)
  node-count node status (node_not_saved e room fails) = keeper-rose e.faults e.told.written.faults
  node-count node status (node_no_memory same) = unchanged statuses.Memory same
  node-count node status (node_no_memory_inside t source keeper) = none-rose statuses.Memory source t.written.faults (keeper-same before.keeper after.keeper keeper)

pub counts-tell : (asked : Option Command) (before after : Outside) (status : Status) → OutcomeOf asked before after status → OnlyItsCountRises before after status
counts-tell None before after status o = words-count before after status (source-same before.source after.source o.0.source) (keeper-same before.keeper after.keeper o.0.keeper) o.1
counts-tell (Some (Run options)) before after status o = run-count before after options status o
counts-tell (Some (Node node)) before after status o = node-count before after node status o
counts-tell (Some (Trial trial)) before after status o = trial-count before after trial before.keeper.kept status (source-same before.source after.source o.0.source) (keeper-same before.keeper after.keeper o.0.keeper) o.1

-- ---- the keeper

not-new : (opening : Opening) (g : Geometry) (name : List ℕ) → opening ≡ New g → opening ≡ Images name → ⊥
not-new opening g name new images = cc

keeper-none : (closing : Option (List ℕ)) (x : Setup) (left : Devices) (before after : KeeperState) → closing ≡ None → Keeps closing x left before after → after ≡ before
keeper-none closing x left before after none kept = subst (λ (c : Option (List ℕ)). Keeps c x left before after) none kept

first-none : (closing : Option (List ℕ)) (x : Setup) (left : Devices) (before after : KeeperState) → closing ≡ None → KeepsFirst closing x left before after → ⊥
first-none closing x left before after none kept = subst (λ (c : Option (List ℕ)). KeepsFirst c x left before after) none kept

pub keeper-left : (options : Options) (g : Geometry) (before after : Outside) (status : Status) → options.opening ≡ New g → options.closing ≡ None → RunEnds options before after status → after.keeper ≡ before.keeper
keeper-left options g before after status new none (done r) = keeper-none options.closing r.holds.0.opens.setup r.holds.0.closing before.keeper after.keeper none r.holds.1
keeper-left options g before after status new none (not_read fails sink keeper) = keeper
keeper-left options g before after status new none (too_many_bytes many sink keeper) = keeper
keeper-left options g before after status new none (too_many_events many sink keeper) = keeper
keeper-left options g before after status new none (schedule_refused r keeper) = keeper
keeper-left options g before after status new none (schedule_not_written r keeper) = keeper
keeper-left options g before after status new none (not_loaded from read sink fails) = absurd (not-new options.opening g from.0 new from.1)
keeper-left options g before after status new none (image_refused r keeper) = keeper
keeper-left options g before after status new none (image_not_written r keeper) = keeper
keeper-left options g before after status new none (at_limit r keeper) = keeper
keeper-left options g before after status new none (not_written r keeper) = keeper
keeper-left options g before after status new none (not_saved r rose) = absurd (first-none options.closing r.holds.0.opens.setup r.holds.0.closing before.keeper after.keeper none r.holds.1)
keeper-left options g before after status new none (no_memory gives sink keeper) = keeper
keeper-left options g before after status new none (no_memory_inside r keeper) = keeper
keeper-left options g before after status new none (no_memory_saving r keeper) = absurd (first-none options.closing r.holds.0.opens.setup r.holds.0.closing before.keeper after.keeper none r.holds.1)

-- ---- what can be done is done

module _ (no_fault : (text : List ℕ) (es : List Event) (line number : ℕ) → IsSchedule text es → IsFirstFault text line number → ⊥) (one_list : (text : List ℕ) (es others : List Event) → IsSchedule text es → IsSchedule text others → es ≡ others)
    (not_refused : (q : ServerNo) (content : Option (List ℕ)) (cause : Cause) → IsAccepted q content → IsRefused q content cause → ⊥) (options : Options) (events : List Event) (before after : Outside) (can : CanRun options events before) (well : NoneFails before after) where
  same-text : (text : List ℕ) → IsText before.source.left text → text ≡ can.text
  same-text text told = subst (λ (left : Option (List ℕ)). IsText left text) can.told told

  same-events : (read : ReadsSchedule before.source after.source) → read.events ≡ events
  same-events read = one_list can.text read.events events (subst (λ (t : List ℕ). IsSchedule t read.events) (same-text read.text read.reads.told) read.accepted.schedule) can.accepted.schedule

  no-refusal : (Written : List ℕ → SinkState → SinkState → Type 0) → RefusedSchedule before after Written → ⊥
  no-refusal Written r = no_fault can.text events r.line r.number can.accepted.schedule (subst (λ (t : List ℕ). IsFirstFault t r.line r.number) (same-text r.text r.reads.told) r.refused)

  no-image : (Written : List ℕ → SinkState → SinkState → Type 0) → RefusedImage options before after Written → ⊥
  no-image Written r =
      let name = r.refused.0 in
      let is = r.refused.2 in
      let q = r.refusal.server in
      let there = is.first.there in
      let images = subst (λ (o : Opening). HasImages o options.servers before.keeper.kept) r.refused.1 can.images in
      let found : images.0 (image_name name q.0) ≡ is.found q.0 = subst (λ (k : Option Contents). Has k (image_name name q.0) (is.found q.0)) images.1 (is.kept_so q.0 there) in
      let accepted : IsAccepted q (is.found q.0) = subst (λ (content : Option (List ℕ)). IsAccepted q content) found (images.2 q.0 there) in
      not_refused q (is.found q.0) r.refusal.cause accepted is.first.cause

  few-bytes : (text : List ℕ) → before.source.left ≡ Some text → length text ≤ most_bytes → (many : Rattle.std.specs.Prelude.IfSome before.source.left (λ bytes. most_bytes < length bytes)) → ⊥
  few-bytes text told fits many = let more : most_bytes < length text = subst (λ (left : Option (List ℕ)). Rattle.std.specs.Prelude.IfSome left (λ bytes. most_bytes < length bytes)) told many in omega (arith, more, fits)

  pub run-completes : (status : Status) → RunEnds options before after status → RunCompletes options events before after status
  run-completes status (done r) = run_done r.lines (subst (λ (es : List Event). IsWholeReport options before.keeper.kept es r.lines) (same-events r.read) r.holds.0) r.written
  run-completes status (not_read fails sink keeper) = absurd (well.source fails.rose)
  run-completes status (too_many_bytes many sink keeper) = absurd (few-bytes can.text can.told can.fits many.many)
  run-completes status (too_many_events many sink keeper) =
      let same = one_list can.text many.events events (subst (λ (t : List ℕ). IsSchedule t many.events) (same-text many.text many.reads.told) many.schedule) can.accepted.schedule in
      let count = ap (λ (es : List Event). length es) same in
      let few = can.accepted.few in
      let more = many.many in
      absurd (omega (arith, count, few, more))
  run-completes status (schedule_refused r keeper) = absurd (no-refusal _ r)
  run-completes status (schedule_not_written r keeper) = absurd (no-refusal _ r)
  run-completes status (not_loaded from read sink fails) = absurd (well.keeper fails.rose)
  run-completes status (image_refused r keeper) = absurd (no-image _ r)
  run-completes status (image_not_written r keeper) = absurd (no-image _ r)
  run-completes status (at_limit r keeper) = run_at_limit r.lines (subst (λ (es : List Event). IsCutShort options before.keeper.kept es r.lines) (same-events r.read) r.holds) r.written
  run-completes status (not_written r keeper) = absurd (well.sink r.written.rose)
  run-completes status (not_saved r rose) = absurd (well.keeper rose)
  run-completes status (no_memory gives sink keeper) = run_out_of_memory
  run-completes status (no_memory_inside r keeper) = run_out_of_memory
  run-completes status (no_memory_saving r keeper) = run_out_of_memory

trial-completes : (trial : ATrial) (before after : Outside) (status : Status) → NoneFails before after → TrialEnds trial before.keeper.kept before.sink after.sink status → TrialCompletes trial before after status
trial-completes trial before after status well (trial_done r) = trial_whole r
trial-completes trial before after status well (trial_not_written r) = absurd (well.sink r.told.rose)
trial-completes trial before after status well (trial_at_limit r same) = trial_cut_short r
trial-completes trial before after status well (trial_no_memory same) = trial_out_of_memory

pub trials-complete : (trial : ATrial) (before after : Outside) (status : Status) → NoneFails before after → OutcomeOf (Some (Trial trial)) before after status → TrialCompletes trial before after status
trials-complete trial before after status well o = trial-completes trial before after status well o.1
