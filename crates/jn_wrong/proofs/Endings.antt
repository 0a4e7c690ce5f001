-- How a run over devices begins and how it ends, where nothing is stored.
use Rattle.jn_wrong.proofs.Common.{◌≡◌, ◌+◌, ◌<◌, ℕ, Bool, true, false, List, [], if◌then◌else◌, drop, refl, ap, arith, None, Some, Option, nat_eq, server_eq, ServerNo, WorkId, Tid, work_eq, work_before, tid_eq, tid_before, FlagState, no_files, Memory, Step, AreNames, Event, Text, Line, ComesUp, Dismisses, GoesDown, ClosesClients, Acts, State, AtEnd, InSchedule, given_up, recovered, last_epoch, IsServed, IsRecovery, Leads, DoesStep, more, none, before, calm, setup, s0, blank, StableState, Pick, DeviceState, Armed, powered_off, found_on, pairs_view, row_calls, put_calls, ◌*◌, new_table, over, Prepared, ending, IsOneOfGood}
use Rattle.jn_schedule.specs.declared.Event.TheVariants as events
use Rattle.jn_wrong.proofs.NewDevice.{Tally, device, good_at, pages_at, OthersGood, IsBlankOn, blank-on, new-on, thrice}
use Rattle.jn_wrong.proofs.OnDevices.{new_device, at_s0, one-there, new-blank, new-images, alone, disarms, uncalled, recovers-so}
use Rattle.jn_wrong.proofs.OnSteps.{at, made_so, calm_deed, then_done, does, idled, idle-steps, serves, shows, scrubs}
use Rattle.jn_wrong.proofs.Pairs.{the_counts}

-- ---- the start

abbrev before_all : List Event → State
before_all schedule = before (setup 1) schedule no_files (λ q. 0)

abbrev pub at_up : List Event → State
at_up schedule = then_done (ComesUp s0) (before_all schedule)

abbrev pub first_tally : Tally
first_tally = thrice (record { calls = 2; puts = 2; stops = 0 })

abbrev pub first_up : DeviceState
first_up = device (good_at 1) true [] first_tally

nothing-named : (A B : Type 0) (eq before : A → A → Bool) → AreNames {A = A} {B = B} eq before (λ a. None) []
nothing-named A B eq before = record { each = λ a. refl; rising = refl }

-- a restart finds no work and no flag
pub names-nothing : AreNames {A = WorkId} {B = Prepared} work_eq work_before (λ W. None) [] × AreNames {A = Tid} {B = FlagState} tid_eq tid_before (λ T. None) []
names-nothing = (nothing-named WorkId Prepared work_eq work_before, nothing-named Tid FlagState tid_eq tid_before)

comes-up : (schedule : List Event) → DoesStep (setup 1) (at (before_all schedule) new_device) (at (at_up schedule) first_up)
comes-up schedule = does calm (ComesUp s0) (calm_deed (ComesUp s0) (before_all schedule)) (before_all schedule) new_device first_up 0 1 refl refl new-blank
    (blank-on 1 (omega arith) (λ q. true) (λ q. 0) true [] first_tally) (λ q. refl) (names-nothing, tt) (λ c. refl) refl
    (alone (λ d e. IsRecovery s0 the_counts calm true d e) new_device first_up (recovers-so calm 0 1 5 (λ q. true) true (λ q. 0) (record { calls = 2; puts = 2; stops = 0 }) (omega arith) (λ q other. refl) refl refl))

-- a run that comes to its end with these lines
pub one-so : (schedule : List Event) (report : List Line) (last : State) (d : DeviceState) → Leads (setup 1) (at (at_up schedule) first_up) (at last d) → last.stage ≡ AtEnd → last.tasks ≡ [] → last.lines ≡ report → IsOneOfGood schedule report
one-so schedule report last d leads stage tasks lines = record {
  images = at_s0 new_device;
  closing = at_s0 d;
  store = new-on 0 (omega arith) (record { calls = 2; puts = 2; stops = 0 });
  new = λ q c lt. one-there (λ q. found_on the_counts (pairs_view (at_s0 new_device q)) c ≡ blank 0) (new-blank.found c) q lt;
  good = λ p. refl;
  whole = record {
    last = at last d;
    written = record { files = no_files; epochs = λ q. 0; are_images = new-images; leads = more _ _ _ (comes-up schedule) leads };
    stage = stage;
    tasks = tasks;
    closing_is = refl;
    lines_are = lines;
  };
}

-- ---- the end of a run whose server is down

-- one half may have gone bad; nothing has happened to clients and messages
module _ (a : ℕ) (few : a < 1000) (rest : ServerNo → Option Memory) (others : ServerNo → Pick → StableState) (n : ℕ) (texts : List Text) (steps : List Step) (lines : List Line)
    (p : ℕ) (lt : p < 354) (good : ℕ → Bool) (fine : OthersGood p good) (fails : ℕ → ℕ) (t : Tally) where
  abbrev pub at_down : State
  at_down = record {
    course = record {
      world = record {
        memory = λ q. if server_eq s0 q then None else rest q;
        found = λ q c. if server_eq s0 q then blank a else others q c;
        clients = λ c. over (new_table c 1);
        sent = [];
        lines = texts;
        event = n;
      };
      waiting = [];
      steps = steps;
    };
    clients = λ c. over (new_table c 1);
    tasks = drop 2 (ending (setup 1));
    lines = lines;
    stage = AtEnd;
  }

  abbrev pub down : DeviceState
  down = device (pages_at a good fails) false [] t

  abbrev pub last_up : DeviceState
  last_up = device (good_at (a + 1)) true [] (thrice t)

  down-blank : IsBlankOn a down
  down-blank = blank-on a (omega (arith, few)) good fails false [] t

  last-blank : IsBlankOn (a + 1) last_up
  last-blank = blank-on (a + 1) (omega (arith, few)) (λ q. true) (λ q. 0) true [] (thrice t)

  not-last : nat_eq a last_epoch ≡ false
  not-last = grind (arith, few)

  abbrev up_again : State
  up_again = made_so calm (ComesUp s0) (recovered calm s0) at_down

  comes-again : DoesStep (setup 1) (at at_down down) (at up_again last_up)
  comes-again = does calm (ComesUp s0) (recovered calm s0) at_down down last_up a (a + 1) refl (ap (λ (b : Bool). if b then record (given_up calm s0) { cuts = true } else recovered calm s0) not-last)
      down-blank last-blank (λ q. refl) (names-nothing, tt) (λ c. refl) refl
      (alone (λ d e. IsRecovery s0 the_counts calm true d e) down last_up (recovers-so calm a (a + 1) p good false fails t lt fine refl refl))

  abbrev closed : State
  closed = then_done (ClosesClients s0) up_again

  closes : DoesStep (setup 1) (at up_again last_up) (at closed last_up)
  closes = does calm (ClosesClients s0) (calm_deed (ClosesClients s0) up_again) up_again last_up last_up (a + 1) (a + 1) refl refl last-blank last-blank (λ q. refl) ((λ c. (refl, refl)), tt) (λ c. refl) refl
      (alone (λ d e. IsServed the_counts row_calls calm up_again.course.world s0 d e) last_up last_up
      (serves row_calls up_again.course.world (a + 1) (a + 1) last_up last_up last-blank refl (uncalled row_calls calm (good_at (a + 1)) [] (thrice t) refl refl)))

  -- all rests, each client and the server are asked once more, and all rests
  abbrev settled : State
  settled = idled 11 closed

  abbrev shown_last : State
  shown_last = then_done (Acts (events.Show s0)) settled

  abbrev scrubbed_last : State
  scrubbed_last = then_done (Acts (events.Scrub s0)) shown_last

  abbrev pub at_close : State
  at_close = idled 1 scrubbed_last

  pub from-down : Leads (setup 1) (at at_down down) (at at_close last_up)
  from-down = more _ _ _ comes-again (more _ _ _ closes (idle-steps 11 closed last_up (a + 1) (at at_close last_up) last-blank
      ((tt, (λ c. refl), refl, refl), (((tt, tt), (λ c. refl), refl, refl), (((tt, tt), (λ c. refl), refl, refl), (((tt, tt), (λ c. refl), refl, refl), (((tt, tt), (λ c. refl), refl, refl), (((tt, tt), (λ c. refl), refl, refl), (((tt, tt), (λ c. refl), refl, refl), (((tt, tt), (λ c. refl), refl, refl), (((tt, tt), (λ c. refl), refl, refl), (((tt, tt), (λ c. refl), refl, refl), ((tt, (λ c. refl), refl, refl), tt)))))))))))
      (more _ _ _ (shows (Acts (events.Show s0)) settled (good_at (a + 1)) [] (thrice t) (a + 1) (a + 1) refl refl last-blank (λ c. refl) refl (λ f. refl))
      (more _ _ _ (scrubs (Acts (events.Scrub s0)) shown_last (good_at (a + 1)) (λ q. 0) (thrice t) (thrice t) (a + 1) (a + 1) refl refl last-blank last-blank (λ c. refl) refl (uncalled (put_calls * 177) calm (good_at (a + 1)) [] (thrice t) refl refl))
      (idle-steps 1 scrubbed_last last_up (a + 1) (at at_close last_up) last-blank ((tt, (λ c. refl), refl, refl), tt) (none _))))))

-- ---- and of one whose server is up

module _ (a : ℕ) (few : a < 1000) (memory : Memory) (rest : ServerNo → Option Memory) (others : ServerNo → Pick → StableState) (n : ℕ) (texts : List Text) (steps : List Step) (lines : List Line)
    (p : ℕ) (lt : p < 354) (good : ℕ → Bool) (fine : OthersGood p good) (fails : ℕ → ℕ) (waiting : List Armed) (t : Tally) where
  abbrev pub at_last : State
  at_last = record {
    course = record {
      world = record {
        memory = λ q. if server_eq s0 q then Some memory else rest q;
        found = λ q c. if server_eq s0 q then blank a else others q c;
        clients = λ c. new_table c 1;
        sent = [];
        lines = texts;
        event = n;
      };
      waiting = [];
      steps = steps;
    };
    clients = λ c. new_table c 1;
    tasks = ending (setup 1);
    lines = lines;
    stage = InSchedule;
  }

  left-blank : (power : Bool) (waiting : List Armed) → IsBlankOn a (device (pages_at a good fails) power waiting t)
  left-blank power waiting = blank-on a (omega (arith, few)) good fails power waiting t

  abbrev as_left : List Armed → DeviceState
  as_left waiting = device (pages_at a good fails) true waiting t

  abbrev dismissed : State
  dismissed = then_done Dismisses at_last

  dismisses : DoesStep (setup 1) (at at_last (as_left waiting)) (at dismissed (as_left []))
  dismisses = does calm Dismisses (calm_deed Dismisses at_last) at_last (as_left waiting) (as_left []) a a refl refl (left-blank true waiting) (left-blank true []) (λ q. refl) (tt, tt) (λ c. refl) refl (disarms (as_left waiting))

  abbrev crashed : State
  crashed = then_done (GoesDown s0) dismissed

  abbrev as_down : DeviceState
  as_down = device (pages_at a good fails) false [] t

  goes-down : DoesStep (setup 1) (at dismissed (as_left [])) (at crashed as_down)
  goes-down = does calm (GoesDown s0) (calm_deed (GoesDown s0) dismissed) dismissed (as_left []) as_down a a refl refl (left-blank true []) (left-blank false []) (λ q. refl) (tt, tt) (λ c. refl) refl
      (alone (λ d e. e ≡ powered_off d) (as_left []) as_down refl)

  pub from-up : Leads (setup 1) (at at_last (as_left waiting)) (at (at_close a few (λ q. if server_eq s0 q then Some memory else rest q) others n crashed.course.world.lines crashed.course.steps crashed.lines p lt good fine fails t) (device (good_at (a + 1)) true [] (thrice t)))
  from-up = more _ _ _ dismisses (more _ _ _ goes-down (from-down a few (λ q. if server_eq s0 q then Some memory else rest q) others n crashed.course.world.lines crashed.course.steps crashed.lines p lt good fine fails t))

-- ---- and of one whose server is down before the end

module _ (a : ℕ) (few : a < 1000) (rest : ServerNo → Option Memory) (others : ServerNo → Pick → StableState) (n : ℕ) (texts : List Text) (steps : List Step) (lines : List Line)
    (p : ℕ) (lt : p < 354) (good : ℕ → Bool) (fine : OthersGood p good) (fails : ℕ → ℕ) (waiting : List Armed) (t : Tally) where
  abbrev pub at_off : State
  at_off = record {
    course = record {
      world = record {
        memory = λ q. if server_eq s0 q then None else rest q;
        found = λ q c. if server_eq s0 q then blank a else others q c;
        clients = λ c. new_table c 1;
        sent = [];
        lines = texts;
        event = n;
      };
      waiting = [];
      steps = steps;
    };
    clients = λ c. new_table c 1;
    tasks = ending (setup 1);
    lines = lines;
    stage = InSchedule;
  }

  off-blank : (waiting : List Armed) → IsBlankOn a (device (pages_at a good fails) false waiting t)
  off-blank waiting = blank-on a (omega (arith, few)) good fails false waiting t

  abbrev as_off : List Armed → DeviceState
  as_off waiting = device (pages_at a good fails) false waiting t

  abbrev disarmed_off : State
  disarmed_off = then_done Dismisses at_off

  disarms-off : DoesStep (setup 1) (at at_off (as_off waiting)) (at disarmed_off (as_off []))
  disarms-off = does calm Dismisses (calm_deed Dismisses at_off) at_off (as_off waiting) (as_off []) a a refl refl (off-blank waiting) (off-blank []) (λ q. refl) (tt, tt) (λ c. refl) refl (disarms (as_off waiting))

  -- it goes down no more
  abbrev stays_off : State
  stays_off = idled 1 disarmed_off

  pub from-off : Leads (setup 1) (at at_off (as_off waiting)) (at (at_close a few rest others n stays_off.course.world.lines stays_off.course.steps stays_off.lines p lt good fine fails t) (device (good_at (a + 1)) true [] (thrice t)))
  from-off = more _ _ _ disarms-off (idle-steps 1 disarmed_off (as_off []) a _ (off-blank []) ((tt, (λ c. refl), refl, refl), tt)
      (from-down a few rest others n stays_off.course.world.lines stays_off.course.steps stays_off.lines p lt good fine fails t))
