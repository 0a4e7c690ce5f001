-- Events of schedules over the device of one server on which nothing is stored: each begins, and is done.
use Rattle.jn_wrong.proofs.Common.{◌≡◌, ◌+◌, ◌<◌, ◌*◌, ◌++◌, ℕ, Bool, true, false, List, [], ◌∷◌, refl, sym, subst, arith, nat_lt, None, Some, is_some, Event, Meets, State, next_task, deed_of, may_arm, FaultKind, Crash, IsRun, Deed, plain, Decays, Revives, Arms, Cleans, Reads, PowersOff, recovered, FaultArmed, PageDecays, powered_off, IsRecovery, Moment, Leads, more, IsCalled, calm, setup, s0, blank, DeviceState, Armed, Pick, Server, put_calls, new_memory, prints_of, FileNo, File, PageRevives, Begins, Option, next_by, begun, is_too_much, go_on, cut_short, come_to, if◌then◌else◌, ◌∙◌, ServerNo, StableState, ap, Task}
use Rattle.jn_schedule.specs.declared.Event.TheVariants as events
use Rattle.jn_wrong.proofs.NewDevice.{Tally, device, good_at, pages_at, put_on, bumped-least, OthersGood, all_but, failed_at, decays-at, revives-at, put-back, halves-equal, is_root, thrice, blank-on}
use Rattle.jn_wrong.proofs.OnDevices.{alone, recovers-so, no_beside, left_blank}
use Rattle.jn_wrong.proofs.OnSteps.{at, made_so, calm_deed, use_deed, behind_all, does, does-use, idled, IdleAt, idle-steps, shows, scrubs}
use Rattle.jn_wrong.proofs.Pairs.{the_counts}

-- an event begins that does this
pub record IsMet (a : ℕ) (s : State) (e : Event) (deed : Deed) : Type 0 where
  pub begins : next_task s ≡ Some (Begins e)
  pub next : next_task (idled 1 s) ≡ Some (Meets e)
  pub is : deed_of (setup 1) calm (Meets e) (idled 1 s) ≡ deed
  pub found : (c : Pick) → (idled 1 s).course.world.found s0 c ≡ blank a

-- a beginning changes nothing that is found
begun-found : (s : State) (e : Event) → next_task s ≡ Some (Begins e) → (idled 1 s).course.world.found ≡ s.course.world.found
begun-found s e is = ap (λ (o : Option Task). (next_by (setup 1) calm o s).course.world.found) is ∙ by (is_too_much (calm_deed (Begins e) s) (go_on (calm_deed (Begins e) s).steps s.course))
  where
    by : (b : Bool) → (if b then cut_short (begun (Begins e) s) else come_to (setup 1) calm (calm_deed (Begins e) s) (go_on (calm_deed (Begins e) s).steps s.course) (begun (Begins e) s)).course.world.found ≡ s.course.world.found
    by true = refl
    by false = refl

abbrev pub met_so : Event → Deed → State → State
met_so e deed s = made_so calm (Meets e) deed (idled 1 s)

-- ---- what events come to

abbrev pub decayed : ℕ → State → State
decayed p s = met_so (events.Decay s0 p) (use_deed (Decays s0 p) []) s

abbrev pub revived : ℕ → State → State
revived p s = met_so (events.Revive s0 p) (use_deed (Revives s0 p) []) s

abbrev pub armed : ℕ → FaultKind → State → State
armed n kind s = met_so (events.Arm s0 n kind) (use_deed (Arms s0 n kind) []) s

abbrev pub shown_to : State → State
shown_to s = met_so (events.Show s0) (use_deed (Reads s0) []) s

abbrev pub scrubbed : State → State
scrubbed s = met_so (events.Scrub s0) (use_deed (Cleans s0) []) s

abbrev pub crash_deed : Deed
crash_deed = record (plain (Server s0) (Crash s0 ∷ [])) { device = PowersOff s0 }

abbrev pub crashed : State → State
crashed s = met_so (events.Crash s0) crash_deed s

abbrev pub restarted : State → State
restarted s = met_so (events.Restart s0) (recovered calm s0) s

-- ---- each event

module _ (a : ℕ) (few : a < 1000) (s : State) (last : Moment) where
  -- it begins
  pub begins-then : (e : Event) (deed : Deed) (m : IsMet a s e deed) (good : ℕ → Bool) (fails : ℕ → ℕ) (power : Bool) (waiting : List Armed) (t : Tally)
      → Leads (setup 1) (at (idled 1 s) (device (pages_at a good fails) power waiting t)) last → Leads (setup 1) (at s (device (pages_at a good fails) power waiting t)) last
  begins-then e deed m good fails power waiting t rest = idle-steps 1 s (device (pages_at a good fails) power waiting t) a last (blank-on a (omega (arith, few)) good fails power waiting t) (idle, tt) rest
    where
      idle : IdleAt a s (next_task s)
      idle = subst (λ (o : Option Task). IdleAt a s o) (sym m.begins) ((tt, tt), (λ c. ap (λ (found : ServerNo → Pick → StableState). found s0 c) (sym (begun-found s e m.begins)) ∙ m.found c), refl, refl)

  -- a half decays, which is allowed
  pub decays-then : (p : ℕ) (fails : ℕ → ℕ) (waiting : List Armed) (t : Tally) → nat_lt (fails p) 3 ≡ true → IsMet a s (events.Decay s0 p) (use_deed (Decays s0 p) [])
      → Leads (setup 1) (at (decayed p s) (device (pages_at a (all_but p) (failed_at p fails)) true waiting t)) last
      → Leads (setup 1) (at s (device (pages_at a (λ q. true) fails) true waiting t)) last
  decays-then p fails waiting t allowed m rest = begins-then (events.Decay s0 p) (use_deed (Decays s0 p) []) m (λ q. true) fails true waiting t (more _ _ last
      (does-use calm (Meets (events.Decay s0 p)) (Decays s0 p) [] (idled 1 s) before behind a m.next m.is (blank-on a (omega (arith, few)) (λ q. true) fails true waiting t) (blank-on a (omega (arith, few)) (all_but p) (failed_at p fails) true waiting t)
      (λ q. refl) m.found (alone (λ d e. PageDecays d p true e) before behind (decays-at a p fails waiting t allowed))) rest)
    where
      before : DeviceState
      before = device (pages_at a (λ q. true) fails) true waiting t

      behind : DeviceState
      behind = device (pages_at a (all_but p) (failed_at p fails)) true waiting t

  -- and is revived
  pub revives-then : (p : ℕ) (fails : ℕ → ℕ) (waiting : List Armed) (t : Tally) → IsMet a s (events.Revive s0 p) (use_deed (Revives s0 p) [])
      → Leads (setup 1) (at (revived p s) (device (pages_at a (λ q. true) fails) true waiting t)) last
      → Leads (setup 1) (at s (device (pages_at a (all_but p) fails) true waiting t)) last
  revives-then p fails waiting t m rest = begins-then (events.Revive s0 p) (use_deed (Revives s0 p) []) m (all_but p) fails true waiting t (more _ _ last
      (does-use calm (Meets (events.Revive s0 p)) (Revives s0 p) [] (idled 1 s) before behind a m.next m.is (blank-on a (omega (arith, few)) (all_but p) fails true waiting t) (blank-on a (omega (arith, few)) (λ q. true) fails true waiting t)
      (λ q. refl) m.found (alone (λ d e. PageRevives d p e) before behind (revives-at a p fails waiting t))) rest)
    where
      before : DeviceState
      before = device (pages_at a (all_but p) fails) true waiting t

      behind : DeviceState
      behind = device (pages_at a (λ q. true) fails) true waiting t

  -- a fault is armed
  pub arms-then : (n : ℕ) (kind : FaultKind) (good : ℕ → Bool) (fails : ℕ → ℕ) (power : Bool) (waiting : List Armed) (t : Tally) → may_arm n waiting ≡ true → IsMet a s (events.Arm s0 n kind) (use_deed (Arms s0 n kind) [])
      → Leads (setup 1) (at (armed n kind s) (device (pages_at a good fails) power (waiting ++ (record { after = n; kind = kind }) ∷ []) t)) last
      → Leads (setup 1) (at s (device (pages_at a good fails) power waiting t)) last
  arms-then n kind good fails power waiting t free m rest = begins-then (events.Arm s0 n kind) (use_deed (Arms s0 n kind) []) m good fails power waiting t (more _ _ last
      (does-use calm (Meets (events.Arm s0 n kind)) (Arms s0 n kind) [] (idled 1 s) before behind a m.next m.is (blank-on a (omega (arith, few)) good fails power waiting t)
      (blank-on a (omega (arith, few)) good fails power (waiting ++ (record { after = n; kind = kind }) ∷ []) t) (λ q. refl) m.found (alone (λ d e. FaultArmed d n kind true e) before behind (record { answers = sym free; armed = refl }))) rest)
    where
      before : DeviceState
      before = device (pages_at a good fails) power waiting t

      behind : DeviceState
      behind = device (pages_at a good fails) power (waiting ++ (record { after = n; kind = kind }) ∷ []) t

  -- a show prints nothing, and doesn't call the device
  pub shows-then : (b : ℕ) (good : ℕ → Bool) (fails : ℕ → ℕ) (waiting : List Armed) (t : Tally) → IsMet a s (events.Show s0) (use_deed (Reads s0) []) → (idled 1 s).course.world.memory s0 ≡ Some (new_memory s0 b)
      → ((f : FileNo) → prints_of s0 (idled 1 s).course.world (new_memory s0 b) (File f) ≡ None)
      → Leads (setup 1) (at (shown_to s) (device (pages_at a good fails) true waiting t)) last
      → Leads (setup 1) (at s (device (pages_at a good fails) true waiting t)) last
  shows-then b good fails waiting t m up none rest = begins-then (events.Show s0) (use_deed (Reads s0) []) m good fails true waiting t (more _ _ last
      (shows (Meets (events.Show s0)) (idled 1 s) (pages_at a good fails) waiting t a b m.next m.is (blank-on a (omega (arith, few)) good fails true waiting t) m.found up none) rest)

  -- a scrub puts a half that had gone bad
  pub scrubs-then : (b p : ℕ) (fails : ℕ → ℕ) (t : Tally) → p < 354 → is_root p ≡ false → IsMet a s (events.Scrub s0) (use_deed (Cleans s0) []) → (idled 1 s).course.world.memory s0 ≡ Some (new_memory s0 b)
      → Leads (setup 1) (at (scrubbed s) (device (pages_at a (λ q. true) fails) true [] (put_on t))) last
      → Leads (setup 1) (at s (device (pages_at a (all_but p) fails) true [] t)) last
  scrubs-then b p fails t lt off m up rest = begins-then (events.Scrub s0) (use_deed (Cleans s0) []) m (all_but p) fails true [] t (more _ _ last
      (scrubs (Meets (events.Scrub s0)) (idled 1 s) (pages_at a (all_but p) fails) fails t (put_on t) a b m.next m.is (blank-on a (omega (arith, few)) (all_but p) fails true [] t)
      (blank-on a (omega (arith, few)) (λ q. true) fails true [] (put_on t)) m.found up called) rest)
    where
      called : IsCalled (put_calls * 177) calm (device (pages_at a (all_but p) fails) true [] t) (device (pages_at a (λ q. true) fails) true [] (put_on t))
      called = record {
        last = device (pages_at a (λ q. true) fails) true [] (put_on t);
        happens = put-back a p fails t lt off;
        few = let one = bumped-least t.calls in omega (arith, one);
        whole = λ c i lt whole. record { both = refl; clean = halves-equal a i lt };
        told = refl;
        stop = refl;
        after = refl;
      }

-- ---- crashes and restarts

module _ (a : ℕ) (few : a < 1000) (s : State) (last : Moment) where
  pub crashes-then : (good : ℕ → Bool) (fails : ℕ → ℕ) (waiting : List Armed) (t : Tally) → IsMet a s (events.Crash s0) crash_deed → ((c : Pick) → (behind_all crash_deed (idled 1 s)).found s0 c ≡ blank a)
      → Leads (setup 1) (at (crashed s) (device (pages_at a good fails) false waiting t)) last
      → Leads (setup 1) (at s (device (pages_at a good fails) true waiting t)) last
  crashes-then good fails waiting t m found rest = begins-then a few s last (events.Crash s0) crash_deed m good fails true waiting t (more _ _ last
      (does calm (Meets (events.Crash s0)) crash_deed (idled 1 s) (device (pages_at a good fails) true waiting t) (device (pages_at a good fails) false waiting t) a a m.next m.is
      (blank-on a (omega (arith, few)) good fails true waiting t) (blank-on a (omega (arith, few)) good fails false waiting t) (λ q. refl) (tt, tt) found refl
      (alone (λ d e. e ≡ powered_off d) (device (pages_at a good fails) true waiting t) (device (pages_at a good fails) false waiting t) refl)) rest)

  -- a restart that nothing strikes puts this half anew, and the root
  pub restarts-then : (p : ℕ) (good : ℕ → Bool) (fails : ℕ → ℕ) (t : Tally) → p < 354 → OthersGood p good → IsMet a s (events.Restart s0) (recovered calm s0) → IsRun (recovered calm s0).steps (idled 1 s).course.world
      → ((c : Pick) → (behind_all (recovered calm s0) (idled 1 s)).found s0 c ≡ blank (a + 1)) → left_blank (idled 1 s).course.world (recovered calm s0).steps ≡ no_beside → is_some ((behind_all (recovered calm s0) (idled 1 s)).memory s0) ≡ true
      → Leads (setup 1) (at (restarted s) (device (good_at (a + 1)) true [] (thrice t))) last
      → Leads (setup 1) (at s (device (pages_at a good fails) false [] t)) last
  restarts-then p good fails t lt fine m steps found left up rest = begins-then a few s last (events.Restart s0) (recovered calm s0) m good fails false [] t (more _ _ last
      (does calm (Meets (events.Restart s0)) (recovered calm s0) (idled 1 s) (device (pages_at a good fails) false [] t) (device (good_at (a + 1)) true [] (thrice t)) a (a + 1) m.next m.is
      (blank-on a (omega (arith, few)) good fails false [] t) (blank-on (a + 1) (omega (arith, few)) (λ q. true) (λ q. 0) true [] (thrice t)) (λ q. refl) steps found left
      (alone (λ d e. IsRecovery s0 the_counts calm (is_some ((behind_all (recovered calm s0) (idled 1 s)).memory s0)) d e) (device (pages_at a good fails) false [] t) (device (good_at (a + 1)) true [] (thrice t))
      (subst (λ (b : Bool). IsRecovery s0 the_counts calm b (device (pages_at a good fails) false [] t) (device (good_at (a + 1)) true [] (thrice t))) (sym up) (recovers-so calm a (a + 1) p good false fails t lt fine refl refl)))) rest)
