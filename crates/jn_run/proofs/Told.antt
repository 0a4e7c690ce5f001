-- A run that is reported, call by call.
use Rattle.jn_run.proofs.Common.{◌≡◌, ℕ, zero, suc, ◌≤◌, ◌<◌, false, List, [], ◌∷◌, ◌++◌, ◌+◌, map, length, drop, drop-cons, get_or, append-nil, Result, Ok, Err, refl, sym, ◌∙◌, ap, subst, arith, true≢false, is_ok, length-append, DeviceState, StoreView, Line, Rose, Reporting, Joins, Moment, Leads, MayLead, DoesStep, Setup, Event, ServerNo, AllFiles, before, AreImages, IsWritten, RunFault, Course, AreLeft, HasTold, StandsBefore, TookLimited, TookPart, ToldTo, Reaches, RunsFrom, TookWhole, Reported, lines_kept, is_limit, StartsAt, Closes, IsClosed}
use Rattle.jn_machine.specs.Kinds.{events_left}
use Rattle.jn_machine.proofs.Counted.{events-counted, left-of}
use Rattle.jn_machine.specs.Events.{ending}
use Rattle.jn_machine.specs.Tasks.{Task, Begins, InSchedule, CutShort}
use Rattle.jn_world.specs.declared.world.World.{World}
use Rattle.jn_machine.proofs.Computed.{join, may-lead}
use Rattle.jn_world_refines.specs.Stands.{Standing, Stands}
use Rattle.jn_world_refines.specs.Going.{Limit, NoMessageLeft, NoEpochLeft, WasCut, WentOn}
use Rattle.jn_world_refines.proofs.Joined.{cut-leads}
use Rattle.jn_world.specs.declared.ended.Ended.{Ended}
use Rattle.jn_world.specs.declared.ended.Ended.TheVariants.{Messages, Epoch, Memory}
use Rattle.jn_world.specs.Written.{standing_of, GoesTo}
use Rattle.jn_run.specs.declared.running.RunFault.TheVariants as runs

-- a run that goes on from where it is
pub further : {O : Type 0} (c : Course O) (m last : Moment) → IsWritten c.setup c.schedule c.images m → Leads c.setup m last → IsWritten c.setup c.schedule c.images last
further c m last w leads = record { files = w.files; epochs = w.epochs; are_images = w.are_images; leads = join Moment (DoesStep c.setup) (record { state = before c.setup c.schedule w.files w.epochs; devices = c.images }) m last w.leads leads }

-- what a call that begins with no lines says of them
new-lines : (before new lines : List Line) (there : List Line) → lines ≡ [] ++ new → there ≡ before ++ new → there ≡ before ++ lines
new-lines before new lines there here is = is ∙ ap (λ ls. before ++ ls) (sym here)

module _ {O : Type 0} (r : Reporting O) (j : Joins r) (c : Course O) (m : Moment) (out out' : O) (h : HasTold r c m out) where
  -- all lines of a moment are taken once those are that came since
  all-taken : (last : Moment) (lines : List Line) → last.state.lines ≡ m.state.lines ++ lines → r.took out out' lines → r.took c.output out' last.state.lines
  all-taken last lines is took = subst (λ (ls : List Line). r.took c.output out' ls) (sym is) (j.more c.output out out' m.state.lines lines h.took took)

  front-taken : (last : Moment) (lines : List Line) → last.state.lines ≡ m.state.lines ++ lines → r.front out out' lines → r.front c.output out' last.state.lines
  front-taken last lines is took = subst (λ (ls : List Line). r.front c.output out' ls) (sym is) (j.part c.output out out' m.state.lines lines h.took took)

  -- where a call came to, with those of its lines that are reported
  pub record Came {A : Type 0} (done : Result A Ended) (lines : List Line) : Type 0 where
    pub last : Moment
    pub leads : Leads c.setup m last
    pub lines_are : last.state.lines ≡ m.state.lines ++ lines_kept done lines

  pub part-taken : {A : Type 0} (done : Result A Ended) (lines : List Line) → Came done lines → r.front out out' (lines_kept done lines) → TookPart r c out'
  part-taken done lines came took = record {
    lines = came.last.state.lines;
    part = record { now = came.last; written = further c m came.last h.written came.leads; lines_are = refl };
    took = front-taken came.last (lines_kept done lines) came.lines_are took;
  }

  limit-taken : (last : Moment) (lines : List Line) → Leads c.setup m last → last.state.stage ≡ CutShort → last.state.lines ≡ m.state.lines ++ lines → r.took out out' lines → TookLimited r c out'
  limit-taken last lines leads stage is took = record {
    lines = last.state.lines;
    limited = record { last = last; written = further c m last h.written leads; stage = stage; lines_are = refl };
    took = all-taken last lines is took;
  }

  -- a call of the world that was cut short
  pub cut-came : {A : Type 0} (done : Result A Ended) (limit : Limit) (lines : List Line) → lines_kept done lines ≡ lines → WasCut c.setup m limit [] lines → Came done lines
  cut-came done limit lines kept cut = record {
    last = cut.last;
    leads = cut-leads c.setup m limit [] lines cut;
    lines_are = new-lines m.state.lines cut.told.new lines cut.last.state.lines cut.told.here cut.told.there ∙ ap (λ (ls : List Line). m.state.lines ++ ls) (sym kept);
  }

  pub cut-taken : (limit : Limit) (lines : List Line) → WasCut c.setup m limit [] lines → r.took out out' lines → TookLimited r c out'
  cut-taken limit lines cut took = limit-taken cut.last lines (cut-leads c.setup m limit [] lines cut) cut.stage (new-lines m.state.lines cut.told.new lines cut.last.state.lines cut.told.here cut.told.there) took

  told-to : (Then : Moment → Type 0) (last : Moment) (lines : List Line) → r.faults out' ≡ r.faults out → Leads c.setup m last → last.state.lines ≡ m.state.lines ++ lines → r.took out out' lines → Then last → ToldTo r c Then out'
  told-to Then last lines count leads is took there = record {
    now = last;
    told = record { no_fault = count ∙ h.no_fault; written = further c m last h.written leads; took = all-taken last lines is took };
    there = there;
  }

  module _ {S : Type 0} (look : S → StoreView) (device : S → DeviceState) (rest : List Task) where
    -- where a call of the world came to
    pub came-to : {A : Type 0} (done : Result A Ended) (w' : Standing S) (lines : List Line) → GoesTo look device c.setup m rest done w' [] lines → Came done lines
    came-to (Ok a) w' lines went = record { last = went.last; leads = went.leads; lines_are = new-lines m.state.lines went.told.new lines went.last.state.lines went.told.here went.told.there }
    came-to (Err Messages) w' lines cut = cut-came (Err Messages) NoMessageLeft lines refl cut
    came-to (Err (Epoch q)) w' lines cut = cut-came (Err (Epoch q)) (NoEpochLeft q) lines refl cut
    came-to (Err Memory) w' lines cut = record { last = m; leads = Rattle.jn_machine.specs.Runs.none m; lines_are = sym (append-nil m.state.lines) }

    -- a call of the world that is reported
    module _ {A : Type 0} (Then : A → Moment → Type 0) (w' : Standing S) (lines : List Line) (answer : Result A RunFault) where
      whole-of : (done : Result A Ended) → GoesTo look device c.setup m rest done w' [] lines → ((a : A) → done ≡ Ok a → (went : WentOn look device c.setup m rest w' [] lines) → Then a went.last)
          → (a : A) → done ≡ Ok a → r.faults out' ≡ r.faults out → r.took out out' lines → ToldTo r c (Then a) out'
      whole-of (Ok b) went there a is count took = told-to (Then a) went.last lines count went.leads (new-lines m.state.lines went.told.new lines went.last.state.lines went.told.here went.told.there) took (there a is went)
      whole-of (Err e) went there a is count took = absurd (true≢false (sym (ap is_ok is)))

      limit-of : (done : Result A Ended) → GoesTo look device c.setup m rest done w' [] lines → is_limit done → r.took out out' lines → TookLimited r c out'
      limit-of (Ok b) went limit took = absurd limit
      limit-of (Err Memory) went limit took = absurd limit
      limit-of (Err Messages) cut limit took = cut-taken NoMessageLeft lines cut took
      limit-of (Err (Epoch q)) cut limit took = cut-taken (NoEpochLeft q) lines cut took

      pub reaches : (done : Result A Ended) → GoesTo look device c.setup m rest done w' [] lines → Reported r done lines out answer out' → ((a : A) → done ≡ Ok a → (went : WentOn look device c.setup m rest w' [] lines) → Then a went.last) → Reaches r c Then answer out'
      reaches done went one there = record {
        count = omega (arith, h.no_fault, one.count);
        whole = λ a is. whole-of done went there a (one.whole a is).0 (one.no_fault (λ write. true≢false (sym (ap is_ok is) ∙ ap is_ok write))) (one.whole a is).1;
        limit = λ is. limit-of done went (one.limit is).0 (one.limit is).1;
        part = λ no. part-taken done lines (came-to done w' lines went) (one.part no);
        rose = λ is. subst (λ (n : ℕ). Rose n (r.faults out')) h.no_fault (one.rose is);
        no_fault = λ well. one.no_fault well ∙ h.no_fault;
      }

-- ---- an event, the start and the end

module _ {O S : Type 0} (r : Reporting O) (j : Joins r) (look : S → StoreView) (device : S → DeviceState) (c : Course O) (m : Moment) (out out' : O) (told : HasTold r c m out) where
  pub event-told : (event : Event) (rest : List Event) (w w' : World S) (number : ℕ) (done : Result (Unit {0}) Ended) (old lines kept : List Line) (answer : Result (Unit {0}) RunFault)
      → ((x : Setup) (n : Moment) (tasks : List Task) → Stands look device x (standing_of w) n → n.state.tasks ≡ Begins event ∷ tasks → n.state.stage ≡ InSchedule → number ≡ n.state.course.world.event + 1 → GoesTo look device x n tasks done (standing_of w') old lines)
      → old ≡ [] → kept ≡ lines → Reported r done kept out answer out' → StandsBefore look device c.setup (event ∷ rest) w m → number ≡ m.state.course.world.event + 1
      → Reaches r c (λ a. StandsBefore look device c.setup rest w') answer out'
  event-told event rest w w' number done old lines kept answer goes empty same one stands is =
      let tasks = map (λ (e : Event). Begins e) rest ++ ending c.setup in
      reaches r j c m out out' told look device tasks (λ a. StandsBefore look device c.setup rest w') (standing_of w') lines answer done
      (subst (λ (ls : List Line). GoesTo look device c.setup m tasks done (standing_of w') ls lines) empty (goes c.setup m tasks stands.stands stands.tasks stands.stage is))
      (subst (λ (ls : List Line). Reported r done ls out answer out') same one)
      (λ a ok went. record { stands = went.stands; tasks = went.tasks; stage = went.stage ∙ stands.stage })

pub fault-is : {C : Type 0} (x : Result C RunFault) (e : RunFault) → x ≡ Err e → (d : RunFault) → x ≡ Err d → e ≡ d
fault-is x e is d other = cc

pub some-ok : {A B : Type 0} (x y : A) → Path (Result A B) (Ok x) (Ok y) → x ≡ y
some-ok x y h = cc

may-step : (x : Setup) (a b : Moment) → Leads x a b → MayLead x a.state b.state
may-step x a b leads = may-lead x a b leads

tasks-left : (x : Setup) (rest : List Event) → events_left (map (λ (e : Event). Begins e) rest ++ ending x) ≡ length rest
tasks-left x rest = left-of x rest

-- the events that have begun and those that are left are all
pub event-number : {O S : Type 0} (r : Reporting O) (look : S → StoreView) (device : S → DeviceState) (c : Course O) (n : Moment) (out : O) (rest : List Event) (w : World S) → HasTold r c n out → StandsBefore look device c.setup rest w n
    → n.state.course.world.event + length rest ≡ length c.schedule
event-number r look device c n out rest w told stands =
    let all = events-counted c.setup c.schedule told.written.files told.written.epochs n.state (may-step c.setup (record { state = before c.setup c.schedule told.written.files told.written.epochs; devices = c.images }) n told.written.leads) (λ cut. no-cut (sym stands.stage ∙ cut)) in
    let left = ap events_left stands.tasks ∙ tasks-left c.setup rest in
    subst (λ (k : ℕ). n.state.course.world.event + k ≡ length c.schedule) left all
  where
    no-cut : InSchedule ≡ CutShort → ⊥
    no-cut h = cc

module _ {O : Type 0} (r : Reporting O) (c : Course O) where
  -- a call whose fault is handed on
  pub faulted : {A B : Type 0} (Then : A → Moment → Type 0) (Gives : B → Moment → Type 0) (x : Result A RunFault) (s : Result B RunFault) (e : RunFault) (out : O) → x ≡ Err e → s ≡ Err e → Reaches r c Then x out → RunsFrom r c Gives s out
  faulted Then Gives x s e out is same one = record {
    count = one.count;
    whole = λ b ok. absurd (true≢false (sym (ap is_ok ok) ∙ ap is_ok same));
    limit = λ limit. one.limit (is ∙ ap (λ x. Err x) (fault-is s e same runs.Limit limit));
    part = λ no. one.part (ap is_ok is);
    rose = λ write. one.rose (is ∙ ap (λ x. Err x) (fault-is s e same runs.Write write));
    no_fault = λ well. one.no_fault (λ write. well (same ∙ ap (λ x. Err x) (fault-is x e is runs.Write write)));
  }

  pub fault-reaches : {A B : Type 0} (Then : A → Moment → Type 0) (Other : B → Moment → Type 0) (x : Result A RunFault) (s : Result B RunFault) (e : RunFault) (out : O) → x ≡ Err e → s ≡ Err e → Reaches r c Then x out → Reaches r c Other s out
  fault-reaches Then Other x s e out is same one = record {
    count = one.count;
    whole = λ a ok. absurd (true≢false (sym (ap is_ok ok) ∙ ap is_ok same));
    limit = λ limit. one.limit (is ∙ ap (λ x. Err x) (fault-is s e same runs.Limit limit));
    part = λ no. one.part (ap is_ok is);
    rose = λ write. one.rose (is ∙ ap (λ x. Err x) (fault-is s e same runs.Write write));
    no_fault = λ well. one.no_fault (λ write. well (same ∙ ap (λ x. Err x) (fault-is x e is runs.Write write)));
  }

  -- nothing more is reported where all is done
  pub there-reaches : (Then : Unit {0} → Moment → Type 0) (u : Unit {0}) (out : O) → ToldTo r c (Then u) out → Reaches r c Then (Ok u) out
  there-reaches Then u out to = record {
    count = omega (arith, to.told.no_fault);
    whole = λ a is. record { now = to.now; told = to.told; there = to.there };
    limit = λ is. absurd (true≢false (ap is_ok is));
    part = λ no. absurd (true≢false no);
    rose = λ is. absurd (true≢false (ap is_ok is));
    no_fault = λ well. to.told.no_fault;
  }

-- ---- the end

module _ {O S A : Type 0} (r : Reporting O) (j : Joins r) (device : S → DeviceState) (items_of : A → List S) (c : Course O) (m : Moment) (out out' : O) (told : HasTold r c m out) (lines : List Line) where
  closed-came : (done : Result A Ended) → Closes device items_of c.setup m done [] lines → Came r j c m out out' told done lines
  closed-came (Ok stores) closed = record { last = closed.last; leads = closed.leads; lines_are = new-lines m.state.lines closed.told.new lines closed.last.state.lines closed.told.here closed.told.there }
  closed-came (Err Messages) cut = cut-came r j c m out out' told (Err Messages) NoMessageLeft lines refl cut
  closed-came (Err (Epoch q)) cut = cut-came r j c m out out' told (Err (Epoch q)) (NoEpochLeft q) lines refl cut
  closed-came (Err Memory) none = record { last = m; leads = Rattle.jn_machine.specs.Runs.none m; lines_are = sym (append-nil m.state.lines) }

  closed-whole : (stores : A) → IsClosed device c.setup m (items_of stores) [] lines → r.took out out' lines → TookWhole r c (AreLeft device c.setup (items_of stores)) out'
  closed-whole stores closed took =
      let lines_are = new-lines m.state.lines closed.told.new lines closed.last.state.lines closed.told.here closed.told.there in
      record {
        closing = closed.last.devices;
        gives = record { count = closed.servers; each = closed.devices; images = closed.images };
        lines = closed.last.state.lines;
        whole = record { last = closed.last; written = further c m closed.last told.written closed.leads; stage = closed.stage; tasks = closed.tasks; closing_is = refl; lines_are = refl };
        took = all-taken r j c m out out' told closed.last lines lines_are took;
      }

  closed-so : (done : Result A Ended) → Closes device items_of c.setup m done [] lines → (a : A) → done ≡ Ok a → IsClosed device c.setup m (items_of a) [] lines
  closed-so (Ok stores) closed a is = subst (λ (b : A). IsClosed device c.setup m (items_of b) [] lines) (some-ok stores a is) closed
  closed-so (Err e) closed a is = absurd (true≢false (sym (ap is_ok is)))

  closed-limit : (done : Result A Ended) → Closes device items_of c.setup m done [] lines → is_limit done → r.took out out' lines → TookLimited r c out'
  closed-limit (Ok stores) closed limit took = absurd limit
  closed-limit (Err Memory) closed limit took = absurd limit
  closed-limit (Err Messages) cut limit took = cut-taken r j c m out out' told NoMessageLeft lines cut took
  closed-limit (Err (Epoch q)) cut limit took = cut-taken r j c m out out' told (NoEpochLeft q) lines cut took

  pub closed-ends : (done : Result A Ended) (answer : Result A RunFault) → Closes device items_of c.setup m done [] lines → Reported r done lines out answer out' → RunsFrom r c (λ (a : A). AreLeft device c.setup (items_of a)) answer out'
  closed-ends done answer closed one = record {
    count = omega (arith, told.no_fault, one.count);
    whole = λ a is. closed-whole a (closed-so done closed a (one.whole a is).0) (one.whole a is).1;
    limit = λ is. closed-limit done closed (one.limit is).0 (one.limit is).1;
    part = λ no. part-taken r j c m out out' told done lines (closed-came done closed) (one.part no);
    rose = λ is. subst (λ (n : ℕ). Rose n (r.faults out')) told.no_fault (one.rose is);
    no_fault = λ well. one.no_fault well ∙ told.no_fault;
  }

pub closed-told : {O S A : Type 0} (r : Reporting O) (j : Joins r) (device : S → DeviceState) (items_of : A → List S) (c : Course O) (m : Moment) (out out' : O) (told : HasTold r c m out) (done : Result A Ended) (old lines kept : List Line) (answer : Result A RunFault)
    → Closes device items_of c.setup m done old lines → old ≡ [] → kept ≡ lines → Reported r done kept out answer out' → RunsFrom r c (λ (a : A). AreLeft device c.setup (items_of a)) answer out'
closed-told r j device items_of c m out out' told done old lines kept answer closes empty same one =
    closed-ends r j device items_of c m out out' told lines done answer
    (subst (λ (ls : List Line). Closes device items_of c.setup m done ls lines) empty closes)
    (subst (λ (ls : List Line). Reported r done ls out answer out') same one)

-- ---- the start

module _ {O S : Type 0} (r : Reporting O) (j : Joins r) (look : S → StoreView) (device : S → DeviceState) (c : Course O) (files : AllFiles) (epochs : ServerNo → ℕ) (are : AreImages c.setup files epochs c.images) where
  abbrev first : Moment
  first = record { state = before c.setup c.schedule files epochs; devices = c.images }

  first-told : HasTold r c first c.output
  first-told = record {
    no_fault = refl;
    written = record { files = files; epochs = epochs; are_images = are; leads = Rattle.jn_machine.specs.Runs.none first };
    took = j.nothing c.output;
  }

  abbrev start_tasks : List Task
  start_tasks = map (λ (e : Event). Begins e) c.schedule ++ ending c.setup

  -- a world that starts is somewhere, also where there is none
  record Started (done : Result (World S) Ended) (old lines : List Line) : Type 0 where
    where_to : Standing S
    goes : GoesTo look device c.setup first start_tasks done where_to old lines
    same : (w : World S) → done ≡ Ok w → where_to ≡ standing_of w

  no-standing : Standing S
  no-standing = record { places = []; clients = []; net = record { sent = []; forgotten = 0 }; named = λ T. false; commits = 0; trace = false }

  started : (done : Result (World S) Ended) (old lines : List Line) → StartsAt look device c.setup c.schedule first done old lines → Started done old lines
  started (Ok w) old lines went = record { where_to = standing_of w; goes = went; same = λ v is. ap standing_of (some-ok w v is) }
  started (Err Messages) old lines cut = record { where_to = no-standing; goes = cut; same = λ v is. absurd (true≢false (sym (ap is_ok is))) }
  started (Err (Epoch q)) old lines cut = record { where_to = no-standing; goes = cut; same = λ v is. absurd (true≢false (sym (ap is_ok is))) }
  started (Err Memory) old lines none = record { where_to = no-standing; goes = tt; same = λ v is. absurd (true≢false (sym (ap is_ok is))) }

  pub start-told : (done : Result (World S) Ended) (old lines kept : List Line) (answer : Result (World S) RunFault) (out' : O)
      → StartsAt look device c.setup c.schedule first done old lines → old ≡ [] → kept ≡ lines → Reported r done kept c.output answer out' → Reaches r c (StandsBefore look device c.setup c.schedule) answer out'
  start-told done old lines kept answer out' starts empty same one =
      let s = started done old lines starts in
      reaches r j c first c.output out' first-told look device start_tasks (StandsBefore look device c.setup c.schedule) s.where_to lines answer done
      (subst (λ (ls : List Line). GoesTo look device c.setup first start_tasks done s.where_to ls lines) empty s.goes)
      (subst (λ (ls : List Line). Reported r done ls c.output answer out') same one)
      (λ a ok on. record { stands = subst (λ v. Stands look device c.setup v on.last) (s.same a ok) on.stands; tasks = on.tasks; stage = on.stage })

-- want of memory ends a run where it is
pub out-of-memory : {O A : Type 0} (r : Reporting O) (j : Joins r) (c : Course O) (There : Moment → Type 0) (Then : A → Moment → Type 0) (s : Result A RunFault) (out : O) → s ≡ Err runs.Memory → ToldTo r c There out → Reaches r c Then s out
out-of-memory r j c There Then s out same to = record {
  count = omega (arith, to.told.no_fault);
  whole = λ a ok. absurd (true≢false (sym (ap is_ok ok) ∙ ap is_ok same));
  limit = λ limit. absurd (no-limit (fault-is s runs.Memory same runs.Limit limit));
  part = λ no. record {
    lines = to.now.state.lines;
    part = record { now = to.now; written = to.told.written; lines_are = refl };
    took = j.all c.output out to.now.state.lines to.told.took;
  };
  rose = λ write. absurd (no-write (fault-is s runs.Memory same runs.Write write));
  no_fault = λ well. to.told.no_fault;
}
  where
    no-limit : runs.Memory ≡ runs.Limit → ⊥
    no-limit h = cc

    no-write : runs.Memory ≡ runs.Write → ⊥
    no-write h = cc

-- ---- a list that is gone through

pub drop-past : {A : Type 0} (xs : List A) (i : ℕ) → length xs ≤ i → drop i xs ≡ []
drop-past [] zero h = refl
drop-past [] (suc i) h = refl
drop-past (x ∷ xs) zero h = absurd (omega (arith, h))
drop-past (x ∷ xs) (suc i) h = drop-past xs i (omega (arith, h))

pub length-drop : {A : Type 0} (xs : List A) (i : ℕ) → i ≤ length xs → i + length (drop i xs) ≡ length xs
length-drop xs zero h = omega arith
length-drop [] (suc i) h = absurd (omega (arith, h))
length-drop (x ∷ xs) (suc i) h = let one = length-drop xs i (omega (arith, h)) in omega (arith, one)

suc-is : (i : ℕ) → suc i ≡ i + 1
suc-is i = omega arith

pub drop-here : {A : Type 0} (xs : List A) (i : ℕ) (x : A) → i < length xs → x ≡ get_or xs i x → drop i xs ≡ x ∷ drop (i + 1) xs
drop-here {A} xs i x lt is = subst (λ (k : ℕ). drop i xs ≡ x ∷ drop k xs) (suc-is i) (drop-cons xs i x lt ∙ ap (λ (y : A). y ∷ drop (suc i) xs) (sym is))

-- ---- events that begin one after another

module _ {O S : Type 0} (r : Reporting O) (look : S → StoreView) (device : S → DeviceState) (c : Course O) (m : Moment) (out : O) where
  -- none has begun where all are left
  pub none-begun : (events : List Event) (w : World S) → HasTold r c m out → c.schedule ≡ events → StandsBefore look device c.setup events w m → 0 ≡ m.state.course.world.event
  none-begun events w told same stands =
      let count = event-number r look device c m out events w told stands in
      let all = ap (λ (es : List Event). length es) same in
      omega (arith, count, all)

  -- as many have begun as aren't left
  pub so-many-begun : (all left : List Event) (begun : ℕ) (w : World S) → HasTold r c m out → c.schedule ≡ all → StandsBefore look device c.setup left w m → begun + length left ≡ length all → begun ≡ m.state.course.world.event
  so-many-begun all left begun w told same stands sum =
      let count = event-number r look device c m out left w told stands in
      let is = ap (λ (es : List Event). length es) same in
      omega (arith, count, is, sum)

  -- the number of the next event
  pub next-number : (n : Moment) (now : O) (w w' : World S) (xs rest : List Event) (i begun number : ℕ) → HasTold r c m out → begun ≡ m.state.course.world.event → StandsBefore look device c.setup (xs ++ rest) w m
      → HasTold r c n now → StandsBefore look device c.setup (drop i xs ++ rest) w' n → i < length xs → number ≡ begun + i → number + 1 ≡ n.state.course.world.event + 1
  next-number n now w w' xs rest i begun number told began stands told' stands' lt is =
      let first = event-number r look device c m out (xs ++ rest) w told stands in
      let then_ = event-number r look device c n now (drop i xs ++ rest) w' told' stands' in
      let all = length-append xs rest in
      let later = length-append (drop i xs) rest in
      let left = length-drop xs i (omega (arith, lt)) in
      omega (arith, first, then_, all, later, left, began, is)

-- nothing follows all events
pub before-all : {S : Type 0} (look : S → StoreView) (device : S → DeviceState) (x : Setup) (events : List Event) (w : World S) (m : Moment) → StandsBefore look device x events w m → StandsBefore look device x (events ++ []) w m
before-all look device x events w m stands = subst (λ (es : List Event). StandsBefore look device x es w m) (sym (append-nil events)) stands
