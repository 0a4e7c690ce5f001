-- Steps of the machine over the device of one server on which nothing is stored.
use Rattle.jn_wrong.proofs.Common.{◌≡◌, ◌*◌, ℕ, zero, suc, true, false, List, [], refl, sym, ap, subst, None, Some, Option, is_some, ServerNo, World, run, IsRun, Text, Chance, Task, State, next_task, begun, next, next_by, Deed, Use, Nothing, Cleans, Reads, uses, deed_of, made, IsUsed, IsServed, IsLookedOver, IsScrubbed, Befalls, Moment, DoesStep, Leads, more, calm, setup, s0, blank, DeviceState, PageState, Armed, Pick, cleaned_get_calls, put_calls, Printed, ArePrints, FileThere, stable, prints_of, LockUnit, FileNo, File, IsCalled, new_memory, ◌∙◌, Head, maps_in}
use Rattle.jn_wrong.proofs.NewDevice.{Tally, device, pages_at, halves-equal, IsBlankOn}
use Rattle.jn_wrong.proofs.OnDevices.{at_s0, none-named, befalls, alone, uncalled, all-free, no_beside, left_blank}
use Rattle.jn_wrong.proofs.Pairs.{the_counts}

abbrev pub at : State → DeviceState → Moment
at s d = record { state = s; devices = at_s0 d }

-- this deed of a task is done
abbrev pub made_so : Chance → Task → Deed → State → State
made_so h task deed s = made (setup 1) h deed (begun task s)

-- with no chance that strikes
abbrev pub calm_deed : Task → State → Deed
calm_deed task s = deed_of (setup 1) calm task s

abbrev pub then_done : Task → State → State
then_done task s = made_so calm task (calm_deed task s) s

abbrev pub behind_all : Deed → State → World
behind_all deed s = run deed.steps s.course.world

pub does : (h : Chance) (task : Task) (deed : Deed) (s : State) (d e : DeviceState) (a b : ℕ) → next_task s ≡ Some task → deed_of (setup 1) h task s ≡ deed → IsBlankOn a d → IsBlankOn b e
    → ((q : ServerNo) → h.rubbish q ≡ false) → IsRun deed.steps s.course.world → ((c : Pick) → (behind_all deed s).found s0 c ≡ blank b) → left_blank s.course.world deed.steps ≡ no_beside
    → IsUsed (setup 1) h deed.device s.course.world (behind_all deed s) (at_s0 d) (at_s0 e) → DoesStep (setup 1) (at s d) (at (made_so h task deed s) e)
does h task deed s d e a b is is_deed was stays rubbish steps found left used = record {
  chance = h;
  task = task;
  task_is = is;
  state_is = ap (λ (x : Deed). made_so h task x s) (sym is_deed);
  befalls = subst (λ (x : Deed). Befalls (setup 1) h x s.course.world (at_s0 d) (at_s0 e)) (sym is_deed) (befalls h deed s.course.world d e a b was stays rubbish steps used found left);
}

-- ---- steps that use no device

-- what such a step needs
abbrev pub IdleAt : ℕ → State → Option Task → Type 0
IdleAt a s None = ⊥
IdleAt a s (Some task) = IsRun (calm_deed task s).steps s.course.world × ((c : Pick) → (behind_all (calm_deed task s) s).found s0 c ≡ blank a)
    × (left_blank s.course.world (calm_deed task s).steps ≡ no_beside) × ((calm_deed task s).device ≡ Nothing)

idles : (task : Task) (s : State) (d : DeviceState) (a : ℕ) → IsBlankOn a d → next_task s ≡ Some task → IdleAt a s (Some task) → DoesStep (setup 1) (at s d) (at (then_done task s) d)
idles task s d a is next h = does calm task (calm_deed task s) s d d a a next refl is is (λ q. refl) h.0 h.1 h.2
    (subst (λ (u : Use). IsUsed (setup 1) calm u s.course.world (behind_all (calm_deed task s) s) (at_s0 d) (at_s0 d)) (sym h.3) (λ q. refl))

-- so many of them
abbrev pub idled : ℕ → State → State
idled zero s = s
idled (suc n) s = idled n (next (setup 1) calm s)

abbrev pub AreIdle : ℕ → ℕ → State → Type 0
AreIdle a zero s = Unit {0}
AreIdle a (suc n) s = IdleAt a s (next_task s) × AreIdle a n (next (setup 1) calm s)

pub idle-steps : (n : ℕ) (s : State) (d : DeviceState) (a : ℕ) (last : Moment) → IsBlankOn a d → AreIdle a n s → Leads (setup 1) (at (idled n s) d) last → Leads (setup 1) (at s d) last
idle-steps zero s d a last is h rest = rest
idle-steps (suc n) s d a last is h rest = by (next_task s) refl h.0 (idle-steps n (next (setup 1) calm s) d a last is h.1 rest)
  where
    by : (o : Option Task) → next_task s ≡ o → IdleAt a s o → Leads (setup 1) (at (next_by (setup 1) calm o s) d) last → Leads (setup 1) (at s d) last
    by None e h rest = absurd h
    by (Some task) e h rest = more (at s d) (at (then_done task s) d) last (idles task s d a is e h) rest

-- ---- steps that make no step of the system

-- a device is used, with these texts
abbrev pub use_deed : Use → List Text → Deed
use_deed u texts = uses s0 u texts

pub does-use : (h : Chance) (task : Task) (u : Use) (texts : List Text) (s : State) (d e : DeviceState) (a : ℕ) → next_task s ≡ Some task → deed_of (setup 1) h task s ≡ use_deed u texts → IsBlankOn a d → IsBlankOn a e
    → ((q : ServerNo) → h.rubbish q ≡ false) → ((c : Pick) → s.course.world.found s0 c ≡ blank a) → IsUsed (setup 1) h u s.course.world s.course.world (at_s0 d) (at_s0 e)
    → DoesStep (setup 1) (at s d) (at (made_so h task (use_deed u texts) s) e)
does-use h task u texts s d e a next is was stays rubbish found used = does h task (use_deed u texts) s d e a a next is was stays rubbish tt found refl used

-- nothing is printed where nothing is stored
prints-nothing : (prints : LockUnit → Option Printed) → ((f : FileNo) → prints (File f) ≡ None) → ArePrints prints []
prints-nothing prints none = record {
  files = [];
  blocks = λ f. [];
  are_files = record { each = λ f. sym (ap (λ (o : Option Printed). is_some o) (none f)); rising = refl };
  are_blocks = λ f there. absurd (no-file (FileThere f) (sym (none f) ∙ there));
  printed = refl;
}
  where
    no-file : (x : Printed) → None ≡ Some x → ⊥
    no-file x e = cc

-- of a server that remembers nothing
pub serves : (most : ℕ) (w : World) (b a : ℕ) (d e : DeviceState) → IsBlankOn a d → w.memory s0 ≡ Some (new_memory s0 b) → IsCalled most calm d e → IsServed the_counts most calm w s0 d e
serves most w b a d e is up called = record {
  memory = new_memory s0 b;
  up = up;
  free = all-free a d (stable (w.found s0)) (new_memory s0 b) is refl refl;
  maps = sym (ap (λ (l : List Head). maps_in l) is.heads ∙ none-named);
  called = called;
}

-- a show, in a schedule or at the end
pub shows : (task : Task) (s : State) (pages : ℕ → PageState) (waiting : List Armed) (t : Tally) (a b : ℕ) → next_task s ≡ Some task → deed_of (setup 1) calm task s ≡ use_deed (Reads s0) []
    → IsBlankOn a (device pages true waiting t) → ((c : Pick) → s.course.world.found s0 c ≡ blank a) → s.course.world.memory s0 ≡ Some (new_memory s0 b)
    → ((f : FileNo) → prints_of s0 s.course.world (new_memory s0 b) (File f) ≡ None) → DoesStep (setup 1) (at s (device pages true waiting t)) (at (made_so calm task (use_deed (Reads s0) []) s) (device pages true waiting t))
shows task s pages waiting t a b next is_show is found up none = does-use calm task (Reads s0) [] s (device pages true waiting t) (device pages true waiting t) a next is_show is is (λ q. refl) found
    (alone (λ d e. IsLookedOver the_counts calm s.course.world s0 d e) (device pages true waiting t) (device pages true waiting t) (record {
      memory = new_memory s0 b;
      up = up;
      prints = λ stop. prints-nothing (prints_of s0 s.course.world (new_memory s0 b)) none;
      called = uncalled (cleaned_get_calls * 128) calm pages waiting t refl refl;
    }))

-- a scrub, behind which each half is good and has failed so often
pub scrubs : (task : Task) (s : State) (pages : ℕ → PageState) (fails : ℕ → ℕ) (t u : Tally) (a b : ℕ) → next_task s ≡ Some task → deed_of (setup 1) calm task s ≡ use_deed (Cleans s0) []
    → IsBlankOn a (device pages true [] t) → IsBlankOn a (device (pages_at a (λ q. true) fails) true [] u) → ((c : Pick) → s.course.world.found s0 c ≡ blank a) → s.course.world.memory s0 ≡ Some (new_memory s0 b)
    → IsCalled (put_calls * 177) calm (device pages true [] t) (device (pages_at a (λ q. true) fails) true [] u)
    → DoesStep (setup 1) (at s (device pages true [] t)) (at (made_so calm task (use_deed (Cleans s0) []) s) (device (pages_at a (λ q. true) fails) true [] u))
scrubs task s pages fails t u a b next is_scrub is stays found up called = does-use calm task (Cleans s0) [] s (device pages true [] t) (device (pages_at a (λ q. true) fails) true [] u) a next is_scrub is stays (λ q. refl) found
    (alone (λ d e. IsScrubbed the_counts calm s.course.world s0 d e) (device pages true [] t) (device (pages_at a (λ q. true) fails) true [] u) (record {
      served = serves (put_calls * 177) s.course.world b a (device pages true [] t) (device (pages_at a (λ q. true) fails) true [] u) is up called;
      clean = λ stop i lt. halves-equal a i lt;
      whole = λ stop quiet i lt. record { both = refl; clean = halves-equal a i lt };
    }))
