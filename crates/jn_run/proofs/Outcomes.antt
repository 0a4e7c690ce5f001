-- What a call leaves, by its status.
use Rattle.jn_run.proofs.Common.{◌≡◌, ℕ, ◌≤◌, ◌<◌, List, length, map, slice_get, Option, Some, None, Result, Ok, Err, refl, sym, ap, subst, false, ◌∙◌, arith, slice_get-map, is_ok, option_map, AllByRecursion, ServerNo, DeviceState, Contents, IsImage, AreClosed, AreWithin, Counts, page_count, counts_by, PageCounts, StableState, stable, Event, EventInRange, IsSchedule, Command, Options, AllFiles, pairs_view, Devices, Moment, AreImages, IsWholeRun, IsLimited, IsPartOfRun, Line, RunFault, course_of, AreLeft, RunsFrom, TookWhole, ◌≢◌, drop, true≢false, OutcomeOf, IsUntouched, Outside, Accepted, AreKept, IsRefusedImage, Keeps, KeepsFirst, LeavesFiles, most_events, Ran, Reads, refused_line, IsWholeReport, IsPart, IsCutShort, SourceState, SinkState, KeeperState, sink_state, ReadsSchedule, Writes, KeeperFails, BeginsFromImages, words_no_memory, trial_no_memory, done, too_many_events, schedule_refused, schedule_not_written, not_loaded, image_refused, image_not_written, at_limit, not_written, not_saved, no_memory, no_memory_inside, no_memory_saving, Setup, EndsOn, IsFirstFault, Run, Trial, Node, node_no_memory, Status, IsSaved}
use Rattle.jn_status.specs.Refusing.{Refuses}
use Rattle.jn_writing.specs.Calls.{writes_to}
use Rattle.jn_run.proofs.Told.{fault-is}
use Rattle.jn_image_files.specs.Saved.{SavedTo}
use Rattle.jn_image_files.specs.Texts.{refusal_text}
use Rattle.jn_image_files.specs.declared.refusal.Refusal.{Refusal}
use Rattle.jn_between.proofs.Ended.{at-the-end}
use Rattle.jn_headline.proofs.Joined.{whole-report, part-report}
use Rattle.jn_headline.specs.Headline.{IsTrueOfBegun, IsOfItsCommits}
use Rattle.jn_status.specs.declared.status.Status.TheVariants as statuses
use Rattle.jn_run.specs.declared.running.RunFault.TheVariants as runs
use Rattle.jn_run.specs.Keeping.{KeptWith}
use Rattle.jn_run.proofs.Opened.{Opened, get-below, one-files, some-at}

-- ---- where nothing has failed

drop-none : (known : Option (List ℕ)) → known ≡ option_map (λ (bytes : List ℕ). drop 0 bytes) known
drop-none None = refl
drop-none (Some bytes) = refl

untouched : (before : Outside) → IsUntouched before before
untouched before = record { source = refl; keeper = refl }

-- a keeper whose contents and whose count are the same is as it was
pub keeper-same : (before after : KeeperState) → after.kept ≡ before.kept → after.faults ≡ before.faults → after ≡ before
keeper-same before after kept faults = ap (λ (k : Option Contents). record { kept = k; faults = after.faults }) kept ∙ ap (λ (n : ℕ). record { kept = before.kept; faults = n }) faults

-- ---- before the run

-- no memory for the words
pub memory-outcome : (asked : Option Command) (before : Outside) → OutcomeOf asked before before statuses.Memory
memory-outcome None before = (untouched before, words_no_memory refl)
memory-outcome (Some (Run options)) before = no_memory (0, omega arith, record { left = drop-none before.source.left; faults = refl }) refl refl
memory-outcome (Some (Trial trial)) before = (untouched before, trial_no_memory refl)
memory-outcome (Some (Node node)) before = node_no_memory refl

-- or for what follows once the schedule was read
pub memory-ends : (options : Options) (text : List ℕ) (sink sink' : SinkState) (keeper keeper' : KeeperState) → sink' ≡ sink → keeper' ≡ keeper → EndsOn options text sink keeper statuses.Memory sink' keeper'
memory-ends options text sink sink' keeper keeper' taken kept = λ source source' reads. (let fits = reads.fits in no_memory (length text, omega (arith, fits), reads.gave) taken kept)

-- a refused line
pub line-ends : (options : Options) (text : List ℕ) (line number : ℕ) (sink : SinkState) (keeper : KeeperState) (status : Status) (sink' : SinkState) → IsFirstFault text line number
    → Refuses (refused_line line number) statuses.Schedule sink status sink' → EndsOn options text sink keeper status sink' keeper
line-ends options text line number sink keeper statuses.Schedule sink' is wrote = λ source source' reads. schedule_refused (record { text = text; reads = reads; line = line; number = number; refused = is; written = wrote.1 }) refl
line-ends options text line number sink keeper statuses.Write sink' is wrote = λ source source' reads. schedule_not_written (record { text = text; reads = reads; line = line; number = number; refused = is; written = wrote }) refl
line-ends options text line number sink keeper statuses.Memory sink' is same = memory-ends options text sink sink' keeper keeper same refl
line-ends options text line number sink keeper statuses.Done sink' is h = absurd cc
line-ends options text line number sink keeper statuses.Words sink' is h = absurd cc
line-ends options text line number sink keeper statuses.Image sink' is h = absurd cc
line-ends options text line number sink keeper statuses.Read sink' is h = absurd cc
line-ends options text line number sink keeper statuses.Keep sink' is h = absurd cc
line-ends options text line number sink keeper statuses.Limit sink' is h = absurd cc
line-ends options text line number sink keeper statuses.Unsettled sink' is h = absurd cc
line-ends options text line number sink keeper statuses.Frame sink' is h = absurd cc

-- a schedule of too many events
pub long-ends : (options : Options) (text : List ℕ) (sink : SinkState) (keeper : KeeperState) → (es : List Event) × IsSchedule text es × (most_events < length es) → EndsOn options text sink keeper statuses.Limit sink keeper
long-ends options text sink keeper long = λ source source' reads. too_many_events (record { text = text; reads = reads; events = long.0; schedule = long.1; many = long.2 }) refl refl

-- a schedule that may be run
abbrev read-so : (text : List ℕ) (events : List Event) → Accepted text events → (source source' : SourceState) → Reads text source source' → ReadsSchedule source source'
read-so text events accepted source source' reads = record { text = text; reads = reads; events = events; accepted = accepted }

-- a refused image
pub image-ends : (options : Options) (text : List ℕ) (events : List Event) (r : Refusal) (sink : SinkState) (keeper : KeeperState) (status : Status) (sink' : SinkState) (keeper' : KeeperState) → Accepted text events → IsRefusedImage options keeper.kept r → keeper' ≡ keeper
    → Refuses (refusal_text r) statuses.Image sink status sink' → EndsOn options text sink keeper status sink' keeper'
image-ends options text events r sink keeper statuses.Image sink' keeper' a is same wrote =
    λ source source' reads. image_refused (record { read = read-so text events a source source' reads; refusal = r; refused = is; written = wrote.1 }) same
image-ends options text events r sink keeper statuses.Write sink' keeper' a is same wrote =
    λ source source' reads. image_not_written (record { read = read-so text events a source source' reads; refusal = r; refused = is; written = wrote }) same
image-ends options text events r sink keeper statuses.Memory sink' keeper' a is same nothing = memory-ends options text sink sink' keeper keeper' nothing same
image-ends options text events r sink keeper statuses.Done sink' keeper' a is same h = absurd cc
image-ends options text events r sink keeper statuses.Words sink' keeper' a is same h = absurd cc
image-ends options text events r sink keeper statuses.Schedule sink' keeper' a is same h = absurd cc
image-ends options text events r sink keeper statuses.Read sink' keeper' a is same h = absurd cc
image-ends options text events r sink keeper statuses.Keep sink' keeper' a is same h = absurd cc
image-ends options text events r sink keeper statuses.Limit sink' keeper' a is same h = absurd cc
image-ends options text events r sink keeper statuses.Unsettled sink' keeper' a is same h = absurd cc
image-ends options text events r sink keeper statuses.Frame sink' keeper' a is same h = absurd cc

-- an image that wasn't loaded
pub load-ends : (options : Options) (text : List ℕ) (events : List Event) (sink : SinkState) (keeper keeper' : KeeperState) → Accepted text events → KeeperFails keeper keeper' → BeginsFromImages options
    → EndsOn options text sink keeper statuses.Keep sink keeper'
load-ends options text events sink keeper keeper' a fails from = λ source source' reads. not_loaded from (read-so text events a source source' reads) refl fails

-- ---- a run from its disks

module _ {S : Type 0} (device : S → DeviceState) (options : Options) (kept : Option Contents) (stores : List (S × PageCounts)) (b : Opened device options kept stores) (few : options.servers ≤ 8) (events : List Event) (range : AllByRecursion EventInRange events) where
  pub less : b.opens.setup.servers ≤ 8
  less = subst (λ (n : ℕ). n ≤ 8) (sym b.opens.servers) few

  -- the files of the images are those that it begins with: both are found on the same pages
  module _ (files : AllFiles) (epochs : ServerNo → ℕ) where
    pub same-files : AreImages b.opens.setup files epochs b.opens.images → files ≡ b.opens.files
    same-files are = one-files b.opens.setup files epochs b.opens.files b.epochs b.opens.images are b.are_images

  -- the end's moment has them on its pages
  pub left-holds : (closing : Devices) (lines : List Line) → IsWholeRun b.opens.setup events b.opens.images closing lines → LeavesFiles b.opens.setup b.opens.files events lines closing
  left-holds closing lines run =
      let end = at-the-end b.opens.setup events b.opens.images run.last less range run.written run.stage run.tasks in
      subst (λ (files : AllFiles). LeavesFiles b.opens.setup files events lines closing) (same-files run.written.files run.written.epochs run.written.are_images)
      (subst (λ (ls : List Line). LeavesFiles b.opens.setup run.written.files events ls closing) run.lines_are
      (subst (λ (ds : Devices). LeavesFiles b.opens.setup run.written.files events run.last.state.lines ds) run.closing_is end.pages))

  abbrev pub whole-holds : (closing : Devices) (lines : List Line) → IsWholeRun b.opens.setup events b.opens.images closing lines → IsWholeReport options kept events lines
  whole-holds closing lines run =
      let of = whole-report b.opens.setup events b.opens.images less range closing lines run in
      record {
        opens = b.opens;
        closing = closing;
        run = run;
        commits = subst (λ (files : AllFiles). IsOfItsCommits files events lines) (same-files of.0 of.1 of.2) of.3;
        left = left-holds closing lines run;
      }

  abbrev part-holds : (lines : List Line) → IsPartOfRun b.opens.setup events b.opens.images lines → IsPart options kept events lines
  part-holds lines run =
      let of = part-report b.opens.setup events b.opens.images less range lines run in
      record { opens = b.opens; run = run; commits = subst (λ (files : AllFiles). IsTrueOfBegun files events run.now.state.course.world.event lines) (same-files of.0 of.1 of.2) of.3 }

  -- a run that a limit cut short is a part of one, at its last moment
  pub limit-holds : (lines : List Line) → IsLimited b.opens.setup events b.opens.images lines → IsCutShort options kept events lines
  limit-holds lines run = record { part = part-holds lines (record { now = run.last; written = run.written; lines_are = run.lines_are }); stage = run.stage }

  -- ---- what is kept of it

  -- where the store of a server is, there is one that it began with, of the same counts
  module _ (left : List S) (counts : List PageCounts) (counts_are : counts ≡ map (λ (x : S × PageCounts). x.1) stores) where
    its-counts : (q : ServerNo) (x : S × PageCounts) → slice_get stores q.0 ≡ Some x → slice_get counts q.0 ≡ Some x.1
    its-counts q x there = ap (λ (xs : List PageCounts). slice_get xs q.0) counts_are ∙ slice_get-map (λ (x : S × PageCounts). x.1) stores q.0 ∙ ap (λ (y : Option (S × PageCounts)). option_map (λ (x : S × PageCounts). x.1) y) there

    -- nothing but files is left at any server, so its store is that of an image
    pub left-closed : (closing : Devices) (lines : List Line) (run : IsWholeRun b.opens.setup events b.opens.images closing lines) → AreLeft device b.opens.setup left run.last
        → ((n : ℕ) (x : S × PageCounts) → slice_get stores n ≡ Some x → AreWithin (counts_by x.1)) → AreClosed device left counts
    left-closed closing lines run theirs within q s g at its =
        let end = at-the-end b.opens.setup events b.opens.images run.last less range run.written run.stage run.tasks in
        let below = get-below left q.0 s at in
        let lt : q.0 < b.opens.setup.servers = subst (λ (n : ℕ). q.0 < n) theirs.count below in
        let (x, there) = some-at stores q.0 (subst (λ (n : ℕ). q.0 < n) (sym b.stores_are.servers) lt) in
        let same : b.opens.setup.counts q ≡ counts_by g = b.stores_are.counts q.0 x there ∙ ap (λ (h : PageCounts). counts_by h) (some-is x.1 g (sym (its-counts q x there) ∙ its)) in
        let found = end.found q (λ n. false) lt in
        record {
          within = subst (λ (h : PageCounts). AreWithin (counts_by h)) (some-is x.1 g (sym (its-counts q x there) ∙ its)) (within q.0 x there);
          files = (stable (run.last.state.course.world.found q)).files;
          image = subst (λ (h : Counts). IsImage q h (stable (run.last.state.course.world.found q)).files (pairs_view (device s))) same (theirs.images q.0 s at (record {
            works = λ W. ap (λ (y : StableState). y.works W) found ∙ end.works q (λ n. false) W lt;
            flags = λ T. ap (λ (y : StableState). y.flags T) found ∙ end.flags q (λ n. false) T lt;
          }));
          count = subst (λ (h : Counts). page_count h ≡ (pairs_view (device s)).count) same (subst (λ (d : DeviceState). page_count (b.opens.setup.counts q) ≡ (pairs_view d).count) (theirs.each q.0 s at) (end.count q lt));
        }
      where
        some-is : (a c : PageCounts) → Some a ≡ Some c → a ≡ c
        some-is a c h = cc

  module _ (closing : Devices) (last : Moment) (closing_is : last.devices ≡ closing) (left : List S) (counts : List PageCounts) (theirs : AreLeft device b.opens.setup left last) (counts_are : counts ≡ map (λ (x : S × PageCounts). x.1) stores) where
    as_many : length left ≡ length stores
    as_many = theirs.count ∙ sym b.stores_are.servers

    -- the first n stores are kept, so the first n disks are
    disks-kept : (name : List ℕ) (n : ℕ) (kept' : Option Contents) → n ≤ length left → SavedTo device name left counts n kept kept' → AreKept kept name n b.opens.setup closing kept'
    disks-kept name n kept' fit saved = record {
      disks = λ q lt.
          let (s, at) = some-at left q.0 (omega (arith, lt, fit)) in
          let (x, there) = some-at stores q.0 (subst (λ (k : ℕ). q.0 < k) as_many (omega (arith, lt, fit))) in
          let is = saved.are_kept q s x.1 lt at (its-counts left counts counts_are q x there) in
          subst (λ (d : DeviceState). IsSaved kept' name (b.opens.setup.counts q) q d) (sym (ap (λ (ds : Devices). ds q) (sym closing_is) ∙ theirs.each q.0 s at))
          (subst (λ (g : Counts). IsSaved kept' name g q (device s)) (sym (b.stores_are.counts q.0 x there)) is);
      others = saved.stay;
    }

    servers-are : b.opens.setup.servers ≡ length left
    servers-are = sym (as_many ∙ b.stores_are.servers)

    all-kept : (name : List ℕ) (kept' : Option Contents) → SavedTo device name left counts (length left) kept kept' → AreKept kept name b.opens.setup.servers b.opens.setup closing kept'
    all-kept name kept' h = subst (λ (n : ℕ). AreKept kept name n b.opens.setup closing kept') (sym servers-are) (disks-kept name (length left) kept' (omega arith) h)

    first-kept : (name : List ℕ) (kept' : Option Contents) → (n : ℕ) × (n < length left) × SavedTo device name left counts n kept kept' → (n : ℕ) × (n < b.opens.setup.servers) × AreKept kept name n b.opens.setup closing kept'
    first-kept name kept' h = (h.0, subst (λ (k : ℕ). h.0 < k) (sym servers-are) h.1, disks-kept name h.0 kept' (omega (arith, h.1)) h.2)

-- ---- how it ends

-- a run that gave something, or failed otherwise, didn't fail to write
ok-no-write : {A : Type 0} (r : Result A RunFault) (a : A) → r ≡ Ok a → r ≢ Err runs.Write
ok-no-write r a is write = true≢false (sym (ap is_ok is) ∙ ap is_ok write)

err-no-write : {A : Type 0} (r : Result A RunFault) (e : RunFault) → r ≡ Err e → e ≢ runs.Write → r ≢ Err runs.Write
err-no-write r e is other write = other (fault-is r e is runs.Write write)

limit-no-write : runs.Limit ≢ runs.Write
limit-no-write h = cc

memory-no-write : runs.Memory ≢ runs.Write
memory-no-write h = cc

module _ {S K A : Type 0} (device : S → DeviceState) (options : Options) (text : List ℕ) (events : List Event) (taken_of : K → Option (List ℕ)) (faults_of : K → ℕ) (sink sink' : K) (keeper : KeeperState) (stores : List (S × PageCounts))
    (b : Opened device options keeper.kept stores) (a : Accepted text events) (few : options.servers ≤ 8) (range : AllByRecursion EventInRange events)
    (items_of : A → List S) (r : Result A RunFault) (ran : RunsFrom (writes_to taken_of faults_of) (course_of b.opens.setup events b.opens.images sink) (λ (left : A). AreLeft device b.opens.setup (items_of left)) r sink') where
  abbrev now : SinkState
  now = sink_state taken_of faults_of sink

  abbrev later : SinkState
  later = sink_state taken_of faults_of sink'

  pub run-limit : r ≡ Err runs.Limit → EndsOn options text now keeper statuses.Limit later keeper
  run-limit is = λ source source' reads. at_limit (record {
    read = read-so text events a source source' reads;
    lines = (ran.limit is).lines;
    holds = limit-holds device options keeper.kept stores b few events range _ (ran.limit is).limited;
    written = record { took = (ran.limit is).took; faults = ran.no_fault (err-no-write r runs.Limit is limit-no-write) };
  }) refl

  pub run-write : r ≡ Err runs.Write → EndsOn options text now keeper statuses.Write later keeper
  run-write is = λ source source' reads. not_written (record {
    read = read-so text events a source source' reads;
    lines = (ran.part (ap is_ok is)).lines;
    holds = part-holds device options keeper.kept stores b few events range (ran.part (ap is_ok is)).lines (ran.part (ap is_ok is)).part;
    written = record { took = (ran.part (ap is_ok is)).took; rose = ran.rose is };
  }) refl

  pub run-memory : r ≡ Err runs.Memory → EndsOn options text now keeper statuses.Memory later keeper
  run-memory is = λ source source' reads. no_memory_inside (record {
    read = read-so text events a source source' reads;
    lines = (ran.part (ap is_ok is)).lines;
    holds = part-holds device options keeper.kept stores b few events range (ran.part (ap is_ok is)).lines (ran.part (ap is_ok is)).part;
    written = record { took = (ran.part (ap is_ok is)).took; faults = ran.no_fault (err-no-write r runs.Memory is memory-no-write) };
  }) refl

  module _ (left : A) (is : r ≡ Ok left) (counts : List PageCounts) (counts_are : counts ≡ map (λ (x : S × PageCounts). x.1) stores) (keeper' : KeeperState) where
    abbrev whole : TookWhole (writes_to taken_of faults_of) (course_of b.opens.setup events b.opens.images sink) (AreLeft device b.opens.setup (items_of left)) sink'
    whole = ran.whole left is

    abbrev w : IsWholeReport options keeper.kept events whole.lines
    w = whole-holds device options keeper.kept stores b few events range whole.closing whole.lines whole.whole

    told : (Kept : Setup → Devices → Type 0) → Kept b.opens.setup whole.closing → (source source' : SourceState) → Reads text source source'
        → Ran (record { source = source; sink = now; keeper = keeper }) (record { source = source'; sink = later; keeper = keeper' }) (λ events lines. (v : IsWholeReport options keeper.kept events lines) × Kept v.opens.setup v.closing) Writes
    told Kept kept source source' reads = record {
      read = read-so text events a source source' reads;
      lines = whole.lines;
      holds = (w, kept);
      written = record { took = whole.took; faults = ran.no_fault (ok-no-write r left is) };
    }

    all : (name : List ℕ) → SavedTo device name (items_of left) counts (length (items_of left)) keeper.kept keeper'.kept → AreKept keeper.kept name b.opens.setup.servers b.opens.setup whole.closing keeper'.kept
    all name h = all-kept device options keeper.kept stores b few events range whole.closing whole.whole.last whole.whole.closing_is (items_of left) counts whole.gives counts_are name keeper'.kept h

    first : (name : List ℕ) → options.closing ≡ Some name → (n : ℕ) × (n < length (items_of left)) × SavedTo device name (items_of left) counts n keeper.kept keeper'.kept → KeepsFirst options.closing b.opens.setup whole.closing keeper keeper'
    first name e h = subst (λ (c : Option (List ℕ)). KeepsFirst c b.opens.setup whole.closing keeper keeper') (sym e)
        (first-kept device options keeper.kept stores b few events range whole.closing whole.whole.last whole.whole.closing_is (items_of left) counts whole.gives counts_are name keeper'.kept h)

    keeps : (c : Option (List ℕ)) → options.closing ≡ c → Keeps c b.opens.setup whole.closing keeper keeper' → EndsOn options text now keeper statuses.Done later keeper'
    keeps c e h = λ source source' reads. done (told (λ x closing. Keeps options.closing x closing keeper keeper') (subst (λ (d : Option (List ℕ)). Keeps d b.opens.setup whole.closing keeper keeper') (sym e) h) source source' reads)

    by : (c : Option (List ℕ)) → options.closing ≡ c → (status : Status) → KeptWith device (items_of left) counts c keeper status keeper' → EndsOn options text now keeper status later keeper'
    by None e status k = subst (λ (s : Status). EndsOn options text now keeper s later keeper') (sym k.0) (keeps None e k.1)
    by (Some name) e statuses.Done k = keeps (Some name) e (all name k.0, k.1)
    by (Some name) e statuses.Keep k = λ source source' reads. not_saved (told (λ x closing. KeepsFirst options.closing x closing keeper keeper') (first name e k.1) source source' reads) k.0
    by (Some name) e statuses.Memory k = λ source source' reads. no_memory_saving (told (λ x closing. KeepsFirst options.closing x closing keeper keeper') (first name e k.1) source source' reads) k.0
    by (Some name) e statuses.Words k = absurd k
    by (Some name) e statuses.Schedule k = absurd k
    by (Some name) e statuses.Image k = absurd k
    by (Some name) e statuses.Read k = absurd k
    by (Some name) e statuses.Write k = absurd k
    by (Some name) e statuses.Limit k = absurd k
    by (Some name) e statuses.Unsettled k = absurd k
    by (Some name) e statuses.Frame k = absurd k

    -- it was done, and then its disks were to be kept
    pub run-kept : (status : Status) → KeptWith device (items_of left) counts options.closing keeper status keeper' → EndsOn options text now keeper status later keeper'
    run-kept status k = by options.closing refl status k
