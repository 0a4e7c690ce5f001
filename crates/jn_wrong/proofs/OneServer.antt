-- What runs with faults and crashes report, each the only report that its schedule has.
use Rattle.jn_wrong.proofs.Common.{◌≡◌, ℕ, Bool, true, false, List, [], ◌∷◌, Some, None, is_some, refl, sym, ◌∙◌, ap, not, if◌then◌else◌, nat_lt, ◌+◌, ◌<◌, arith, refusal_of, ServerNo, no_files, AllFiles, Event, Text, Line, Setup, allowed, Task, Begins, Meets, ComesUp, State, Stage, AtEnd, next_at, next_task, Devices, told_unless, recovered, recovering, begun, done, made, run, Moment, Leads, before, AreImages, AreNew, given_up, Decays, Revives, DeviceState, PageDecays, s0, setup, AreGood, IsOnlyOfGood, IsNoneOfGood, quiet_report, decays_once, decays_both, both_report, decays_behind_scrub}
use Rattle.jn_wrong.proofs.StillRuns.{still}
use Rattle.jn_base.specs.declared.device.FaultKind.TheVariants as faults
use Rattle.jn_schedule.specs.declared.Event.TheVariants as events
use Rattle.jn_report.specs.declared.line.Text.TheVariants as says
use Rattle.jn_wrong.proofs.Bare.{bare}
use Rattle.jn_wrong.proofs.Computed.{pieces-so}
use Rattle.jn_wrong.proofs.Driving.{Stand, IsStill, begins-one, answered, answers-one, silently-one, recovers-one, scrubs-one, finishes}
use Rattle.jn_wrong.proofs.Exact.{new_epochs, start}
use Rattle.jn_wrong.proofs.Pairs.{IsWhole, Pair, both-good, recovery-pairs, decay-allowed, decay-pairs, revive-pairs, other-outside, decay-still, IsRestored, scrub-restores, other-allowed}

abbrev pub x1 : Setup
x1 = setup 1

-- a run begins
abbrev pub at_first : List Event → (ServerNo → ℕ) → State
at_first schedule epochs = before x1 schedule no_files (new_epochs 1 epochs)

begin-stand : (schedule : List Event) (images : Devices) (last : Moment) → AreNew x1 images → AreGood images → (files : AllFiles) (epochs : ServerNo → ℕ) → AreImages x1 files epochs images
    → Leads x1 (record { state = before x1 schedule files epochs; devices = images }) last → Stand x1 last (at_first schedule epochs) IsWhole
begin-stand schedule images last new good files epochs are leads = record {
  moment = record { state = before x1 schedule files epochs; devices = images };
  leads = leads;
  state = ap bare (start 1 false schedule x1.counts images new files epochs are);
  device = let f = are.fresh s0 first in record { count = f.count; waiting = f.waiting; told = f.told; calls = f.calls; good = good };
}
  where
    first : 0 < 1
    first = omega arith

module _ (schedule : List Event) (report : List Line) where
  -- no run reports other lines
  pub none-of-good : ((epochs : ServerNo → ℕ) (last : Moment) (over : next_task last.state ≡ None) → Stand x1 last (at_first schedule epochs) IsWhole → last.state.lines ≡ report → ⊥) → IsNoneOfGood schedule report
  none-of-good never images closing new good h = from h.written.files h.written.epochs h.written.are_images h.written.leads
    where
      over : next_task h.last.state ≡ None
      over = ap (λ (stage : Stage). next_at stage h.last.state.tasks) h.stage ∙ ap (λ (tasks : List Task). next_at AtEnd tasks) h.tasks

      from : (files : AllFiles) (epochs : ServerNo → ℕ) → AreImages x1 files epochs images → Leads x1 (record { state = before x1 schedule files epochs; devices = images }) h.last → ⊥
      from files epochs are leads = never epochs h.last over (begin-stand schedule images h.last new good files epochs are leads) h.lines_are

  -- what follows from where it begins
  pub only-of-good : ((epochs : ServerNo → ℕ) (last : Moment) (over : next_task last.state ≡ None) → Stand x1 last (at_first schedule epochs) IsWhole → last.state.lines ≡ report) → IsOnlyOfGood schedule report
  only-of-good tells images closing lines new good h = sym h.lines_are ∙ by h.written.files h.written.epochs h.written.are_images h.written.leads
    where
      over : next_task h.last.state ≡ None
      over = ap (λ (stage : Stage). next_at stage h.last.state.tasks) h.stage ∙ ap (λ (tasks : List Task). next_at AtEnd tasks) h.tasks

      by : (files : AllFiles) (epochs : ServerNo → ℕ) → AreImages x1 files epochs images → Leads x1 (record { state = before x1 schedule files epochs; devices = images }) h.last → h.last.state.lines ≡ report
      by files epochs are leads = tells epochs h.last over (begin-stand schedule images h.last new good files epochs are leads)

-- ---- parts that the runs share

-- the server has come up
abbrev pub at_up : List Event → (ServerNo → ℕ) → State
at_up schedule epochs = made x1 still (recovered still s0) (begun (ComesUp s0) (at_first schedule epochs))

module _ (schedule : List Event) (epochs : ServerNo → ℕ) (last : Moment) (over : next_task last.state ≡ None) where
  pub comes-first : Stand x1 last (at_first schedule epochs) IsWhole → Stand x1 last (at_up schedule epochs) (Pair true true 0)
  comes-first h = recovers-one x1 refl last over (at_first schedule epochs) (ComesUp s0) IsWhole (Pair true true 0)
      (record { epoch = 0; below = refl; found = λ c. refl; not_last = refl }) refl refl
      (λ g e. ap (λ (b : Bool). if b then record (given_up g s0) { cuts = true } else recovered g s0) e) refl
      (λ d p. (p.told, p.waiting))
      (λ g e. ap (λ stop. is_some ((run (recovering g s0 stop) (at_first schedule epochs).course.world).memory s0)) e)
      (λ g d e r p lit stop found. recovery-pairs (x1.counts s0) g d e r (both-good d p) lit) h

module _ (last : Moment) (over : next_task last.state ≡ None) where
  -- half 5 decays, which is allowed
  pub decays-one : (s : State) (k : ℕ) → nat_lt k 3 ≡ true → next_task s ≡ Some (Meets (events.Decay s0 5)) → refusal_of x1 s.course.world (events.Decay s0 5) ≡ None
      → Stand x1 last s (Pair true true k) → Stand x1 last (answered x1 s (events.Decay s0 5) (Decays s0 5) []) (Pair true false (k + 1))
  decays-one s k few n unrefused h = answers-one x1 refl last over s (events.Decay s0 5) (Decays s0 5) (λ b. told_unless b (says.Outside s0 (record { kind = faults.Decay 5; page = 5 }))) true (Pair true true k) (Pair true false (k + 1))
      n unrefused (λ g. refl) (λ told. refl) (λ g ds es used p. by (ds s0) (es s0) (allowed g.found) used.its p) h
    where
      by : (d e : DeviceState) (answer : Bool) → PageDecays d 5 answer e → Pair true true k d → (answer ≡ true) × Pair true false (k + 1) e
      by d e answer b p = (b.answers ∙ ap not (decay-allowed true k few d p), decay-pairs true k few d p answer e b)

  pub revives-one : (s : State) (k : ℕ) → next_task s ≡ Some (Meets (events.Revive s0 5)) → refusal_of x1 s.course.world (events.Revive s0 5) ≡ None
      → Stand x1 last s (Pair true false k) → Stand x1 last (answered x1 s (events.Revive s0 5) (Revives s0 5) []) (Pair true true k)
  revives-one s k n unrefused = silently-one x1 refl last over s (events.Revive s0 5) (Revives s0 5) (Pair true false k) (Pair true true k) n unrefused (λ g. refl) (λ told. refl) (λ g ds es used p. revive-pairs true k (ds s0) (es s0) p used.its)

pub pair-still : (good : Bool) (k : ℕ) (d : DeviceState) → Pair true good k d → IsStill d
pair-still good k d p = record { waiting = p.waiting; told = p.told; power = p.power_is }

pub weaker : (x : Setup) (last : Moment) (s : State) (P P' : DeviceState → Type 0) → ((d : DeviceState) → P d → P' d) → Stand x last s P → Stand x last s P'
weaker x last s P P' w h = record { moment = h.moment; leads = h.leads; state = h.state; device = w (h.moment.devices s0) h.device }

-- ---- decays

pub once-only : IsOnlyOfGood decays_once quiet_report
once-only = only-of-good decays_once quiet_report (λ epochs last over h. by epochs last over (comes-first decays_once epochs last over h))
  where
    by : (epochs : ServerNo → ℕ) (last : Moment) (over : next_task last.state ≡ None) → Stand x1 last (at_up decays_once epochs) (Pair true true 0) → last.state.lines ≡ quiet_report
    by epochs last over h = finishes x1 refl last over 18 now (pieces-so x1 (2 ∷ 12 ∷ 1 ∷ []) now (
      refl,
      record { epoch = 1; below = refl; found = λ c. refl; not_last = refl },
      (
        refl,
        record { memory = _; below = refl; up = refl; nothing = λ f. refl },
        (
          refl,
          refl,
          tt,
        ),
      ),
    )) refl (weaker x1 last now (Pair true false 1) IsStill (pair-still false 1) (decays-one last over begun_one 0 refl refl refl
        (begins-one x1 refl last over (at_up decays_once epochs) (events.Decay s0 5) (Pair true true 0) refl h)))
      where
        begun_one : State
        begun_one = done x1 still (Begins (events.Decay s0 5)) (at_up decays_once epochs)

        now : State
        now = answered x1 begun_one (events.Decay s0 5) (Decays s0 5) []

-- ---- both halves decay

pub both-only : IsOnlyOfGood decays_both both_report
both-only = only-of-good decays_both both_report (λ epochs last over h. by epochs last over (comes-first decays_both epochs last over h))
  where
    by : (epochs : ServerNo → ℕ) (last : Moment) (over : next_task last.state ≡ None) → Stand x1 last (at_up decays_both epochs) (Pair true true 0) → last.state.lines ≡ both_report
    by epochs last over h = finishes x1 refl last over 18 now (pieces-so x1 (2 ∷ 12 ∷ 1 ∷ []) now (
      refl,
      record { epoch = 1; below = refl; found = λ c. refl; not_last = refl },
      (
        refl,
        record { memory = _; below = refl; up = refl; nothing = λ f. refl },
        (
          refl,
          refl,
          tt,
        ),
      ),
    )) refl second
      where
        first : State
        first = done x1 still (Begins (events.Decay s0 5)) (at_up decays_both epochs)

        decayed : State
        decayed = answered x1 first (events.Decay s0 5) (Decays s0 5) []

        other : State
        other = done x1 still (Begins (events.Decay s0 182)) decayed

        told : Bool → List Text
        told b = told_unless b (says.Outside s0 (record { kind = faults.Decay 182; page = 182 }))

        now : State
        now = answered x1 other (events.Decay s0 182) (Decays s0 182) (told false)

        one : Stand x1 last decayed (Pair true false 1)
        one = decays-one last over first 0 refl refl refl (begins-one x1 refl last over (at_up decays_both epochs) (events.Decay s0 5) (Pair true true 0) refl h)

        second : Stand x1 last now IsStill
        second = answers-one x1 refl last over other (events.Decay s0 182) (Decays s0 182) told false (Pair true false 1) IsStill refl refl (λ g. refl) (λ untold. refl)
            (λ g ds es used p. refused (ds s0) (es s0) (allowed g.found) used.its p) (begins-one x1 refl last over decayed (events.Decay s0 182) (Pair true false 1) refl one)
          where
            refused : (d e : DeviceState) (answer : Bool) → PageDecays d 182 answer e → Pair true false 1 d → (answer ≡ false) × IsStill e
            refused d e answer b p = (b.answers ∙ ap not (other-outside true 1 d p), decay-still false 1 182 answer d e p b)

-- ---- a scrub between

pub scrubbed-only : IsOnlyOfGood decays_behind_scrub quiet_report
scrubbed-only = only-of-good decays_behind_scrub quiet_report (λ epochs last over h. by epochs last over (comes-first decays_behind_scrub epochs last over h))
  where
    by : (epochs : ServerNo → ℕ) (last : Moment) (over : next_task last.state ≡ None) → Stand x1 last (at_up decays_behind_scrub epochs) (Pair true true 0) → last.state.lines ≡ quiet_report
    by epochs last over h = finishes x1 refl last over 18 now (pieces-so x1 (2 ∷ 12 ∷ 1 ∷ []) now (
      refl,
      record { epoch = 1; below = refl; found = λ c. refl; not_last = refl },
      (
        refl,
        record { memory = _; below = refl; up = refl; nothing = λ f. refl },
        (
          refl,
          refl,
          tt,
        ),
      ),
    )) refl third
      where
        first : State
        first = done x1 still (Begins (events.Decay s0 5)) (at_up decays_behind_scrub epochs)

        decayed : State
        decayed = answered x1 first (events.Decay s0 5) (Decays s0 5) []

        second : State
        second = done x1 still (Begins (events.Scrub s0)) decayed

        clean : State
        clean = done x1 still (Meets (events.Scrub s0)) second

        other : State
        other = done x1 still (Begins (events.Decay s0 182)) clean

        told : Bool → List Text
        told b = told_unless b (says.Outside s0 (record { kind = faults.Decay 182; page = 182 }))

        now : State
        now = answered x1 other (events.Decay s0 182) (Decays s0 182) (told true)

        one : Stand x1 last decayed (Pair true false 1)
        one = decays-one last over first 0 refl refl refl (begins-one x1 refl last over (at_up decays_behind_scrub epochs) (events.Decay s0 5) (Pair true true 0) refl h)

        two : Stand x1 last clean IsRestored
        two = scrubs-one x1 refl last over second (Pair true false 1) IsRestored refl refl (pair-still false 1) (λ g d e c p stop. scrub-restores g second.course.world d e c p stop)
            (begins-one x1 refl last over decayed (events.Scrub s0) (Pair true false 1) refl one)

        third : Stand x1 last now IsStill
        third = answers-one x1 refl last over other (events.Decay s0 182) (Decays s0 182) told true IsRestored IsStill refl refl (λ g. refl) (λ untold. refl)
            (λ g ds es used p. permitted (ds s0) (es s0) (allowed g.found) used.its p) (begins-one x1 refl last over clean (events.Decay s0 182) IsRestored refl two)
          where
            permitted : (d e : DeviceState) (answer : Bool) → PageDecays d 182 answer e → IsRestored d → (answer ≡ true) × IsStill e
            permitted d e answer b p = (b.answers ∙ ap not (other-allowed d p), record { waiting = b.becomes.waiting ∙ p.waiting; told = b.becomes.told ∙ p.told; power = b.becomes.power_is ∙ p.power_is })
