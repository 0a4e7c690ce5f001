-- Where a world stands that has started and done events.
use Rattle.jn_laws.proofs.Common.{◌≡◌, ℕ, ◌+◌, ◌≤◌, List, [], ◌∷◌, ◌++◌, append-nil, append_assoc, length, refl, sym, ◌∙◌, ap, subst, drop, Result, Ok, Err, drop-append_seam, map, AllByRecursion, ServerNo, AllFiles, Event, EventInRange, always, between-events, Setup, Devices, ending, Moment, DoesStep, Leads, Begins, InSchedule, AtEnd, before, AreImages, IsWritten, DeviceState, StoreView, Stands, standing_of, GoesTo}
use Rattle.jn_events.specs.Written.{DoesScheduled, AreStoresOf, IsClosed}
use Rattle.std.proofs.lemmas.List.{append_cancel_right}
use Rattle.jn_recovery.specs.declared.counts.PageCounts.{PageCounts}
use Rattle.jn_report.specs.declared.line.Line.{Line}
use Rattle.jn_headline.specs.Headline.{IsTrueOfBegun}
use Rattle.jn_between.specs.Between.{IsTrueBetween, IsTrueAtEnd}
use Rattle.jn_between.proofs.Ended.{at-the-end}
use Rattle.jn_world_refines.proofs.Joined.{cut-leads}
use Rattle.jn_world_refines.specs.Going.{IsTold, Limit, NoMessageLeft, NoEpochLeft, WentOn, WasCut}
use Rattle.jn_world.specs.declared.ended.Ended.{Ended}
use Rattle.jn_world.specs.declared.ended.Ended.TheVariants.{Messages, Epoch, Memory}
use Rattle.jn_world.specs.declared.world.World.{World}
use Rattle.jn_machine.proofs.Computed.{join}
use Rattle.jn_laws.specs.Worlds.{added, HasDone, started, did, IsReached, is_limit, IsTrueWhereEnded, Gives, IsTrueWhereClosed}

-- ---- runs

-- a run goes on
abbrev further : (x : Setup) (schedule : List Event) (images : Devices) (m last : Moment) → IsWritten x schedule images m → Leads x m last → IsWritten x schedule images last
further x schedule images m last w leads = record {
  files = w.files;
  epochs = w.epochs;
  are_images = w.are_images;
  leads = join Moment (DoesStep x) (record { state = before x schedule w.files w.epochs; devices = images }) m last w.leads leads;
}

-- a run of a schedule is one of the same schedule
record IsSame (x : Setup) (schedule : List Event) (images : Devices) (m : Moment) (files : AllFiles) : Type 0 where
  written : IsWritten x schedule images m
  files_are : written.files ≡ files

same-run : (x : Setup) (s t : List Event) (images : Devices) (m : Moment) (files : AllFiles) → s ≡ t → (w : IsWritten x s images m) → w.files ≡ files → IsSame x t images m files
same-run x s t images m files e w f = subst (λ (u : List Event). IsSame x u images m files) e (record { written = w; files_are = f })

-- what was added
added-is : (old lines new : List Line) → lines ≡ old ++ new → added old lines ≡ new
added-is old lines new e = ap (λ (ls : List Line). drop (length old) ls) e ∙ drop-append_seam old new

-- the lines after a call
lines-then : (m last : Moment) (told old lines : List Line) → m.state.lines ≡ told → IsTold m last old lines → last.state.lines ≡ told ++ added old lines
lines-then m last told old lines e t = t.there ∙ ap (λ (ls : List Line). ls ++ t.new) e ∙ ap (λ (ls : List Line). told ++ ls) (sym (added-is old lines t.new t.here))

module _ {S : Type 0} (look : S → StoreView) (device : S → DeviceState) (x : Setup) (files : AllFiles) (epochs : ServerNo → ℕ) (images : Devices) (stores : List (S × PageCounts)) (few : x.servers ≤ 8)
    (are_stores : AreStoresOf device x stores images) (are : AreImages x files epochs images) where
  -- what holds between two events holds where the world stands
  here : (events rest : List Event) (lines : List Line) (w : World S) (m : Moment) → IsSame x (events ++ rest) images m files → AllByRecursion EventInRange (events ++ rest)
      → Stands look device x (standing_of w) m → m.state.tasks ≡ map (λ (e : Event). Begins e) rest ++ ending x → m.state.stage ≡ InSchedule → m.state.lines ≡ lines → IsReached look device x files images events rest lines w
  here events rest lines w m run ranges stands tasks stage told = record {
    moment = m;
    written = run.written;
    files_are = run.files_are;
    stands = stands;
    tasks = tasks;
    stage = stage;
    lines_are = told;
    true_between = by (between-events x (events ++ rest) images m few ranges run.written rest stage tasks);
  }
    where
      by : (done : List Event) × (done ++ rest ≡ events ++ rest) × IsTrueBetween x run.written.files done m → IsTrueBetween x files events m
      by t = subst (λ (f : AllFiles). IsTrueBetween x f events m) run.files_are (subst (λ (es : List Event). IsTrueBetween x run.written.files es m) (append_cancel_right t.0 events rest t.1) t.2)

  number-is : (n k : ℕ) → n ≡ k → k + 1 ≡ n + 1
  number-is n k e = ap (λ (i : ℕ). i + 1) (sym e)

  -- where a call of the next event leads
  leads-on : (events : List Event) (event : Event) (rest : List Event) (told : List Line) (w : World S) (r : IsReached look device x files images events (event ∷ rest) told w)
      → (done : Result (Unit {0}) Ended) (v : World S) (old lines : List Line) → DoesScheduled look device (length events + 1) event (standing_of w) done (standing_of v) old lines
      → GoesTo look device x r.moment (map (λ (e : Event). Begins e) rest ++ ending x) done (standing_of v) old lines
  leads-on events event rest told w r done v old lines does = does x r.moment (map (λ (e : Event). Begins e) rest ++ ending x) r.stands r.tasks r.stage (number-is r.moment.state.course.world.event (length events) r.true_between.number)

  at-start : (rest : List Event) (w : World S) (old lines : List Line) → AllByRecursion EventInRange rest
      → WentOn look device x (record { state = before x rest files epochs; devices = images }) (map (λ (e : Event). Begins e) rest ++ ending x) (standing_of w) old lines → IsReached look device x files images [] rest (added old lines) w
  at-start rest w old lines ranges went = here [] rest (added old lines) w went.last (record { written = record { files = files; epochs = epochs; are_images = are; leads = went.leads }; files_are = refl }) ranges
      went.stands went.tasks went.stage (lines-then (record { state = before x rest files epochs; devices = images }) went.last [] old lines refl went.told)

  one-more : (events : List Event) (event : Event) (rest : List Event) (told : List Line) (w v : World S) (old lines : List Line) → AllByRecursion EventInRange ((events ++ event ∷ []) ++ rest)
      → (r : IsReached look device x files images events (event ∷ rest) told w) → WentOn look device x r.moment (map (λ (e : Event). Begins e) rest ++ ending x) (standing_of v) old lines
      → IsReached look device x files images (events ++ event ∷ []) rest (told ++ added old lines) v
  one-more events event rest told w v old lines ranges r went = here (events ++ event ∷ []) rest (told ++ added old lines) v went.last
      (same-run x (events ++ event ∷ rest) ((events ++ event ∷ []) ++ rest) images went.last files (sym (append_assoc events (event ∷ []) rest)) (further x (events ++ event ∷ rest) images r.moment went.last r.written went.leads) r.files_are)
      ranges went.stands went.tasks (went.stage ∙ r.stage) (lines-then r.moment went.last told old lines r.lines_are went.told)

  event-done : (events : List Event) (event : Event) (rest : List Event) (told : List Line) (w : World S) (done : Result (Unit {0}) Ended) (v : World S) (old lines : List Line) → done ≡ Ok tt
      → DoesScheduled look device (length events + 1) event (standing_of w) done (standing_of v) old lines → AllByRecursion EventInRange ((events ++ event ∷ []) ++ rest)
      → IsReached look device x files images events (event ∷ rest) told w → IsReached look device x files images (events ++ event ∷ []) rest (told ++ added old lines) v
  event-done events event rest told w done v old lines ok does ranges r = one-more events event rest told w v old lines ranges r
      (subst (λ (d : Result (Unit {0}) Ended). GoesTo look device x r.moment (map (λ (e : Event). Begins e) rest ++ ending x) d (standing_of v) old lines) ok (leads-on events event rest told w r done v old lines does))

  pub reached : (events : List Event) (lines : List Line) (w : World S) → HasDone S look device stores x.trace events lines w → (rest : List Event) → AllByRecursion EventInRange (events ++ rest)
      → IsReached look device x files images events rest lines w
  reached _ _ w (started _ old lines starts) rest ranges = at-start rest w old lines ranges (starts x rest files epochs images are_stores refl are)
  reached _ _ v (did events told w earlier event done _ old lines ok does) rest ranges = event-done events event rest told w done v old lines ok does ranges
      (reached events told w earlier (event ∷ rest) (subst (λ (es : List Event). AllByRecursion EventInRange es) (append_assoc events (event ∷ []) rest) ranges))

  -- ---- it is cut short

  pub ended-so : (events : List Event) (event : Event) (told : List Line) (w v : World S) → AllByRecursion EventInRange (events ++ event ∷ []) → HasDone S look device stores x.trace events told w
      → (done : Result (Unit {0}) Ended) (e : Ended) (old lines : List Line) → done ≡ Err e → is_limit e → DoesScheduled look device (length events + 1) event (standing_of w) done (standing_of v) old lines
      → IsTrueWhereEnded files (events ++ event ∷ []) (told ++ added old lines)
  ended-so events event told w v ranges has done e old lines is limit does = by done is (leads-on events event [] told w r done v old lines does)
    where
      r : IsReached look device x files images events (event ∷ []) told w
      r = reached events told w has (event ∷ []) ranges

      of-cut : (limit : Limit) → WasCut x r.moment limit old lines → IsTrueWhereEnded files (events ++ event ∷ []) (told ++ added old lines)
      of-cut limit c = record {
        begun = c.last.state.course.world.event;
        true_of_begun = subst (λ (f : AllFiles). IsTrueOfBegun f (events ++ event ∷ []) c.last.state.course.world.event (told ++ added old lines)) r.files_are
            (subst (λ (ls : List Line). IsTrueOfBegun r.written.files (events ++ event ∷ []) c.last.state.course.world.event ls) (lines-then r.moment c.last told old lines r.lines_are c.told)
            (always x (events ++ event ∷ []) images c.last few ranges (further x (events ++ event ∷ []) images r.moment c.last r.written (cut-leads x r.moment limit old lines c))).1);
      }

      is-err : (a : Unit {0}) → Path (Result (Unit {0}) Ended) (Ok a) (Err e) → ⊥
      is-err a z = cc

      no-memory : Path (Result (Unit {0}) Ended) (Err Memory) (Err e) → ⊥
      no-memory z = subst is_limit (sym (same z)) limit
        where
          same : Path (Result (Unit {0}) Ended) (Err Memory) (Err e) → Memory ≡ e
          same z = cc

      by : (d : Result (Unit {0}) Ended) → d ≡ Err e → GoesTo look device x r.moment (ending x) d (standing_of v) old lines → IsTrueWhereEnded files (events ++ event ∷ []) (told ++ added old lines)
      by (Ok a) z g = absurd (is-err a z)
      by (Err Memory) z g = absurd (no-memory z)
      by (Err Messages) z g = of-cut NoMessageLeft g
      by (Err (Epoch q)) z g = of-cut (NoEpochLeft q) g

  -- ---- it is closed

  pub closed-so : (events : List Event) (told : List Line) (w : World S) → AllByRecursion EventInRange events → HasDone S look device stores x.trace events told w
      → (given : List S) (old lines : List Line) → Gives look device w given old lines → IsTrueWhereClosed device x files events (told ++ added old lines) given
  closed-so events told w ranges has given old lines gives = by here-now (gives x here-now.moment here-now.stands here-now.tasks here-now.stage)
    where
      here-now : IsReached look device x files images events [] told w
      here-now = reached events told w has [] (subst (λ (es : List Event). AllByRecursion EventInRange es) (sym (append-nil events)) ranges)

      by : (r : IsReached look device x files images events [] told w) → IsClosed device x r.moment given old lines → IsTrueWhereClosed device x files events (told ++ added old lines) given
      by n c = record {
        last = c.last;
        lines_are = lines-then n.moment c.last told old lines n.lines_are c.told;
        servers = c.servers;
        devices = c.devices;
        true_at_end = at-its-end c.last (same-run x (events ++ []) events images c.last files (append-nil events) (further x (events ++ []) images n.moment c.last n.written c.leads) n.files_are) c.stage c.tasks;
      }
        where
          at-its-end : (last : Moment) (run : IsSame x events images last files) → last.state.stage ≡ AtEnd → last.state.tasks ≡ [] → IsTrueAtEnd x files events last
          at-its-end last run stage tasks = subst (λ (f : AllFiles). IsTrueAtEnd x f events last) run.files_are (at-the-end x events images last few ranges run.written stage tasks)
