-- What a run comes to whose schedule is retold.
use Rattle.jn_headline.proofs.Common.{◌≡◌, ◌⊎◌, inl, inr, ℕ, ◌+◌, ◌≤◌, List, [], append-nil, length, sym, ◌∙◌, ap, subst, arith, length-map, ServerNo, AllFiles, Event, plain, opening, Item, events_of, world_of, IsReported, Ending, IsWholeRun, AreFilesOf, all_lines, run-follows, end-causes, end-told, follows-to-end, counted-follows, IsSettledEnd, IsOfItsCommits, CutEnd, IsCutEnd, IsTrueSoFar, cut_lines, Setup, AtEnd, Moment, IsRetold, IsRetoldInPart, IsTrueOfBegun, false, list_any, is_call, OperationsShown, agrees_as_operations, so_far_as_operations, at_end_as_operations, no-calls}
use Rattle.jn_system_reports.proofs.Showing.Ends.{end-agrees, end-whole, end-free}
use Rattle.jn_headline.proofs.WholeReports.Outcomes.{told-to-end}
use Rattle.jn_headline.proofs.WholeReports.Whole.{end-holds}
use Rattle.jn_headline.proofs.Numbered.{items-begin}
use Rattle.jn_headline.proofs.Ended.{PartOf, WholeOf, ending, is-whole, is-settled, lines-are}
use Rattle.jn_headline.proofs.Begins.{begins}
use Rattle.jn_headline.proofs.SoFar.{whole-aside, none-silent, part-is-cut, part-lines, part-true, schedule-true, begun-aside}

module _ (x : Setup) (schedule : List Event) (files : AllFiles) (now : Moment) (r : IsRetold x schedule files now) where
  abbrev reported : IsReported r.items (opening x.servers files r.epochs)
  reported = r.told.reported

  comes-to : PartOf x.servers files r.epochs r.items now ⊎ WholeOf x.servers files r.epochs r.items now
  comes-to = begins x files r.epochs r.items r.last now r.leads r.told r.stage r.tasks

  pub whole-end : x.servers ≤ 8 → now.state.stage ≡ AtEnd → now.state.tasks ≡ []
      → (e : Ending) × IsWholeRun x.servers files r.epochs r.items e × IsSettledEnd x.servers e (world_of r.items (opening x.servers files r.epochs)) × (plain now.state.lines ≡ plain (all_lines x.servers files r.epochs r.items e))
  whole-end few stage tasks = by comes-to
    where
      by : PartOf x.servers files r.epochs r.items now ⊎ WholeOf x.servers files r.epochs r.items now
          → (e : Ending) × IsWholeRun x.servers files r.epochs r.items e × IsSettledEnd x.servers e (world_of r.items (opening x.servers files r.epochs)) × (plain now.state.lines ≡ plain (all_lines x.servers files r.epochs r.items e))
      by (inl part) = absurd (part.unfinished stage tasks)
      by (inr whole) = (ending x.servers few files r.epochs r.items reported now whole, is-whole x.servers few files r.epochs r.items reported now whole, is-settled x.servers few files r.epochs r.items reported now whole, lines-are x.servers few files r.epochs r.items reported now whole)

  pub cut-end : (now.state.stage ≡ AtEnd → now.state.tasks ≡ [] → ⊥) → (e : CutEnd) × IsCutEnd e (world_of r.items (opening x.servers files r.epochs)) × (plain now.state.lines ≡ plain (cut_lines r.items e (opening x.servers files r.epochs)))
  cut-end unfinished = by comes-to
    where
      by : PartOf x.servers files r.epochs r.items now ⊎ WholeOf x.servers files r.epochs r.items now
          → (e : CutEnd) × IsCutEnd e (world_of r.items (opening x.servers files r.epochs)) × (plain now.state.lines ≡ plain (cut_lines r.items e (opening x.servers files r.epochs)))
      by (inl part) = (record { steps = part.steps; printed = part.printed }, part-is-cut x.servers files r.epochs r.items now part, part-lines x.servers files r.epochs r.items now part)
      by (inr whole) = absurd (unfinished whole.stage whole.tasks)

-- ---- what holds of its lines

pub of-commits : (servers : ℕ) (files : AllFiles) (epochs : ServerNo → ℕ) (items : List Item) (e : Ending) → servers ≤ 8 → AreFilesOf servers files → IsWholeRun servers files epochs items e → IsSettledEnd servers e (world_of items (opening servers files epochs))
    → IsOfItsCommits files (events_of items) (all_lines servers files epochs items e)
of-commits servers files epochs items e few of h rest = record {
  so_far = record {
    agrees = (agrees_as_operations files (events_of items) (all_lines servers files epochs items e) _ plain-items).1 (end-agrees servers files epochs items e h.reported h.ending).agrees;
    shown = (so_far_as_operations files (events_of items) (all_lines servers files epochs items e) plain-items).1 shows.so_far;
    told = told-to-end files epochs servers items e h.reported h.ending;
    caused = end-causes files epochs servers items e h.reported h.ending;
    follows = counted-follows _ _ (follows-to-end _ _ _ (end-told servers e (world_of items (opening servers files epochs)) h.ending.settling) (run-follows files epochs servers items h.reported));
  };
  at_end = (at_end_as_operations files (events_of items) (all_lines servers files epochs items e) plain-items).1 shows.at_end;
}
  where
    plain-items : list_any is_call (events_of items) ≡ false
    plain-items = no-calls items h.reported.under

    shows : OperationsShown files (events_of items) (all_lines servers files epochs items e)
    shows = end-whole servers files epochs items e h.reported h.ending of (end-free servers files epochs items e h.reported h.ending (end-holds servers few files epochs items e h.reported h.ending rest))

module _ (x : Setup) (schedule : List Event) (files : AllFiles) (now : Moment) (r : IsRetold x schedule files now) where
  -- all its events have begun
  all-begun : now.state.course.world.event ≡ (world_of r.items (opening x.servers files r.epochs)).event → length schedule ≡ now.state.course.world.event
  all-begun e = sym (e ∙ items-begin r.items (opening x.servers files r.epochs) (let k = r.told.reported in k.under) ∙ none-before (length r.items) ∙ sym (length-map r.items (λ (item : Item). item.event)) ∙ ap length r.events)
    where
      none-before : (n : ℕ) → 0 + n ≡ n
      none-before n = omega arith

  cut-so-far : PartOf x.servers files r.epochs r.items now → IsTrueOfBegun files schedule now.state.course.world.event now.state.lines
  cut-so-far part = none-silent files schedule [] schedule now.state.course.world.event now.state.lines (append-nil schedule) (all-begun part.event)
      (subst (λ (es : List Event). IsTrueSoFar files es es now.state.lines) r.events (part-true x.servers files r.epochs r.items r.told.reported now part))

  pub end-so-far : (now.state.stage ≡ AtEnd → now.state.tasks ≡ [] → ⊥) → IsTrueOfBegun files schedule now.state.course.world.event now.state.lines
  end-so-far unfinished = by (comes-to x schedule files now r)
    where
      by : PartOf x.servers files r.epochs r.items now ⊎ WholeOf x.servers files r.epochs r.items now
          → IsTrueOfBegun files schedule now.state.course.world.event now.state.lines
      by (inl part) = cut-so-far part
      by (inr whole) = absurd (unfinished whole.stage whole.tasks)

module _ (x : Setup) (schedule : List Event) (files : AllFiles) (now : Moment) (few : x.servers ≤ 8) (of : AreFilesOf x.servers files) (r : IsRetold x schedule files now) where
  of-whole : WholeOf x.servers files r.epochs r.items now → IsOfItsCommits files schedule now.state.lines
  of-whole whole = subst (λ (es : List Event). IsOfItsCommits files es now.state.lines) r.events (whole-aside files (events_of r.items) _ now.state.lines (sym (lines-are x.servers few files r.epochs r.items r.told.reported now whole))
      (of-commits x.servers files r.epochs r.items (ending x.servers few files r.epochs r.items r.told.reported now whole) few of (is-whole x.servers few files r.epochs r.items r.told.reported now whole) (is-settled x.servers few files r.epochs r.items r.told.reported now whole)))

  pub whole-run : now.state.stage ≡ AtEnd → now.state.tasks ≡ [] → IsOfItsCommits files schedule now.state.lines
  whole-run stage tasks = by (comes-to x schedule files now r)
    where
      by : PartOf x.servers files r.epochs r.items now ⊎ WholeOf x.servers files r.epochs r.items now → IsOfItsCommits files schedule now.state.lines
      by (inl part) = absurd (part.unfinished stage tasks)
      by (inr whole) = of-whole whole

  pub run-so-far : IsTrueOfBegun files schedule now.state.course.world.event now.state.lines
  run-so-far = by (comes-to x schedule files now r)
    where
      by : PartOf x.servers files r.epochs r.items now ⊎ WholeOf x.servers files r.epochs r.items now
          → IsTrueOfBegun files schedule now.state.course.world.event now.state.lines
      by (inl part) = cut-so-far x schedule files now r part
      by (inr whole) = let t = of-whole whole in none-silent files schedule [] schedule now.state.course.world.event now.state.lines (append-nil schedule) (all-begun x schedule files now r whole.event)
          t.so_far

pub part-so-far : (x : Setup) (schedule : List Event) (files : AllFiles) (now : Moment) → IsRetoldInPart x schedule files now → IsTrueOfBegun files schedule now.state.course.world.event now.state.lines
part-so-far x schedule files now r = begun-aside files schedule now.state.course.world.event _ now.state.lines (sym r.lines) (schedule-true x.servers files r.epochs r.items r.reported r.begun r.rest schedule now.state.course.world.event r.events r.one r.event)
