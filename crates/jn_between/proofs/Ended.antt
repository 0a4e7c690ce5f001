-- What holds after the end.
use Rattle.jn_between.proofs.Common.{◌≡◌, ◌⊎◌, inl, inr, ◌≤◌, ◌<◌, ℕ, true, false, List, [], ◌++◌, Option, Some, None, is_some, refl, sym, ◌∙◌, ap, subst, AllByRecursion, ServerNo, Tid, WorkId, AllFiles, Event, EventInRange, Line, history_of, replay_operations, StableState, Pick, plain, history-aside, replay-aside, World, Memory, opening, events_of, steps_of, world_of, IsReported, go_on, AreAsTold, Setup, Devices, AreFound, Moment, AtEnd, CutShort, before, IsWritten, behind, IsAsIn, IsRetold, as-behind, run-both, is-run-both, whole-run, IsConsistent, state_on, files_told, IsTrueAtEnd, replay, replay_is_of_operations, no-calls}
use Rattle.jn_base.specs.declared.names.LockUnit.{LockUnit}
use Rattle.jn_rows.specs.Worker.{commit_holder}
use Rattle.jn_system.specs.SmallSteps.Held.{file_unit}
use Rattle.jn_system_reports.specs.Reporting.Ending.{Ending, IsWholeRun, all_lines, steps_at_end, world_at_end}
use Rattle.jn_system_reports.proofs.Showing.Ends.{end-agrees}
use Rattle.jn_system_settling.specs.Closing.Ending.{IsEmpty}
use Rattle.jn_headline.proofs.Begins.{begins}
use Rattle.jn_headline.proofs.Ended.{PartOf, WholeOf, dismissed, ending, is-whole, lines-are, world-is, up, empty, free}
use Rattle.jn_headline.proofs.Through.{asked_steps}
use Rattle.jn_records.specs.StablePages.{page_count}
use Rattle.jn_between.proofs.Found.{pages-stay, fresh-pages}
use Rattle.jn_between.proofs.Seen.{seen}
use Rattle.jn_between.proofs.Moments.{run-consistent, found-now, retold-end}

module _ (x : Setup) (few : x.servers ≤ 8) (files : AllFiles) (schedule : List Event) (m : Moment) (r : IsRetold x schedule files m) (whole : WholeOf x.servers files r.epochs r.items m) (found : AreFound x m.state.course.world m.devices) where
  abbrev n : ℕ
  n = x.servers

  abbrev start : World
  start = opening x.servers files r.epochs

  abbrev reported : IsReported r.items (opening x.servers files r.epochs)
  reported = r.told.reported

  abbrev e : Ending
  e = ending x.servers few files r.epochs r.items reported m whole

  abbrev w : World
  w = world_at_end x.servers (ending x.servers few files r.epochs r.items reported m whole) (world_of r.items start)

  abbrev ls : List Line
  ls = all_lines x.servers files r.epochs r.items (ending x.servers few files r.epochs r.items reported m whole)

  run-whole : IsWholeRun x.servers files r.epochs r.items (ending x.servers few files r.epochs r.items reported m whole)
  run-whole = is-whole x.servers few files r.epochs r.items reported m whole

  ended_is : world_at_end x.servers (ending x.servers few files r.epochs r.items reported m whole) (world_of r.items start) ≡ (go_on (asked_steps x.servers whole.backs whole.one ++ whole.two) (dismissed (world_of r.items (opening x.servers files r.epochs)))).world
  ended_is = world-is x.servers few files r.epochs r.items reported m whole whole.prints

  now : m.state.course.world ≡ behind whole.ups w
  now = whole.world ∙ ap (λ (z : World). behind whole.ups z) (sym ended_is)

  pub as-in : IsAsIn w m.state.course.world
  as-in = as-behind whole.ups whole.are_up w m.state.course.world now

  system : IsConsistent files w
  system = subst (IsConsistent files) (run-both (steps_of r.items) (steps_at_end n e) start) (run-consistent n files r.epochs (steps_of r.items ++ steps_at_end n e) (is-run-both (steps_of r.items) (steps_at_end n e) start reported.steps run-whole.ending.steps))

  as-told : AreAsTold files (events_of r.items) ls ls w
  as-told = end-agrees x.servers files r.epochs r.items e reported run-whole.ending

  same-lines : plain m.state.lines ≡ plain ls
  same-lines = lines-are x.servers few files r.epochs r.items reported m whole

  same-files : replay_operations files (events_of r.items) ls (history_of ls) ≡ files_told files schedule m.state.lines
  same-files = sym (replay_is_of_operations files (events_of r.items) ls (history_of ls) (no-calls r.items reported.under)) ∙ ap (λ Ts. replay files (events_of r.items) ls Ts) (history-aside (events_of r.items) ls m.state.lines (sym same-lines)) ∙ replay-aside (events_of r.items) ls m.state.lines (sym same-lines) files (history_of m.state.lines)
      ∙ ap (λ (es : List Event). files_told files es m.state.lines) r.events

  is-up : (q : ServerNo) → q.0 < x.servers → is_some (w.memory q) ≡ true
  is-up q l = up x.servers few files r.epochs r.items reported m whole q l

  none-held : (q : ServerNo) (memory : Memory) (u : LockUnit) → w.memory q ≡ Some memory → commit_holder u memory.worker ≡ None
  none-held q memory u k = free x.servers few files r.epochs r.items reported m whole q memory u
      (ap (λ (z : World). z.memory q) (sym ended_is) ∙ k)

  -- what each pick finds at a server has no work and no flag
  module _ (q : ServerNo) (c : Pick) (l : q.0 < x.servers) where
    abbrev Alone : StableState → Type 0
    Alone y = ((W : WorkId) → y.works W ≡ None) × ((T : Tid) → y.flags T ≡ None)

    pub alone : ((W : WorkId) → (state_on (x.counts q) (m.devices q) c).works W ≡ None) × ((T : Tid) → (state_on (x.counts q) (m.devices q) c).flags T ≡ None)
    alone = by (w.memory q) refl (is-up q l)
      where
        clash : false ≡ true → ⊥
        clash z = cc

        here : w.found q c ≡ state_on (x.counts q) (m.devices q) c
        here = ap (λ (f : ServerNo → Pick → StableState). f q c) (sym as-in.found) ∙ found q c l

        nothing : (memory : Memory) → w.memory q ≡ Some memory → IsEmpty memory (w.found q)
        nothing memory k = subst (λ (z : World). IsEmpty memory (z.found q)) (sym ended_is) (empty x.servers few files r.epochs r.items reported m whole q memory (ap (λ (z : World). z.memory q) (sym ended_is) ∙ k))

        by : (o : Option Memory) → w.memory q ≡ o → is_some o ≡ true → Alone (state_on (x.counts q) (m.devices q) c)
        by None k some = absurd (clash some)
        by (Some memory) k some = subst (λ (y : StableState). Alone y) here (let it = nothing memory k in ((λ W. it.stored c W), (λ T. it.flags c T)))

  its-pages : (q : ServerNo) (u : LockUnit) (c : Pick) → q.0 < x.servers → (state_on (x.counts q) (m.devices q) c).files u ≡ files_told files schedule m.state.lines q u
  its-pages q u c l = by (w.memory q) refl (is-up q l)
    where
      clash : false ≡ true → ⊥
      clash z = cc

      by : (o : Option Memory) → w.memory q ≡ o → is_some o ≡ true → (state_on (x.counts q) (m.devices q) c).files u ≡ files_told files schedule m.state.lines q u
      by None k some = absurd (clash some)
      by (Some memory) k some = ap (λ (y : StableState). y.files u) (sym (found q c l) ∙ ap (λ (f : ServerNo → Pick → StableState). f q c) as-in.found ∙ system.up q memory k c)
          ∙ as-told.unlocked q memory u k (none-held q memory u k) (none-held q memory (file_unit u) k) ∙ ap (λ (f : AllFiles). f q u) same-files

module _ (x : Setup) (schedule : List Event) (images : Devices) (m : Moment) (few : x.servers ≤ 8) (ranges : AllByRecursion EventInRange schedule) (h : IsWritten x schedule images m)
    (stage : m.state.stage ≡ AtEnd) (tasks : m.state.tasks ≡ []) where
  pub at-the-end : IsTrueAtEnd x h.files schedule m
  at-the-end = by r (begins x h.files r.epochs r.items r.last m r.leads r.told r.stage r.tasks)
    where
      r : IsRetold x schedule h.files m
      r = retold-end x schedule images m few ranges h stage

      apart : AtEnd ≡ CutShort → ⊥
      apart z = cc

      here : AreFound x m.state.course.world m.devices
      here = found-now x schedule images m few ranges h (λ z. apart (sym stage ∙ z))

      by : (r : IsRetold x schedule h.files m) → PartOf x.servers h.files r.epochs r.items m ⊎ WholeOf x.servers h.files r.epochs r.items m → IsTrueAtEnd x h.files schedule m
      by r (inl part) = absurd (part.unfinished stage tasks)
      by r (inr whole) = record {
        system = seen _ m.state.course.world (as-in x few h.files schedule m r whole here) h.files (system x few h.files schedule m r whole here);
        report = whole-run x schedule h.files m few h.are_images.its r stage tasks;
        up = λ q l. ap (λ (z : World). is_some (z.memory q)) (now x few h.files schedule m r whole here) ∙ is-up x few h.files schedule m r whole here q l;
        free = λ q memory u k. none-held x few h.files schedule m r whole here q memory u (let a = as-in x few h.files schedule m r whole here in a.memory q memory k);
        pages = its-pages x few h.files schedule m r whole here;
        works = λ q c W l. (alone x few h.files schedule m r whole here q c l).0 W;
        flags = λ q c T l. (alone x few h.files schedule m r whole here q c l).1 T;
        found = here;
        count = λ q l. sym (pages-stay x (record { state = before x schedule h.files h.epochs; devices = images }) m h.leads q ∙ fresh-pages (page_count (x.counts q)) (images q) (h.are_images.fresh q l));
      }
