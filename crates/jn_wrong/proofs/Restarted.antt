-- A restart that nothing disturbs mends a half of a record that had gone bad, so that the other half may go bad after it.
use Rattle.jn_wrong.proofs.Common.{◌≡◌, ℕ, Bool, true, false, List, [], ◌∷◌, None, is_some, refl, ◌∙◌, ap, not, if◌then◌else◌, allowed, ServerNo, Text, Begins, Meets, State, next_task, EpochsUsedUp, Decays, given_up, recovered, recovering, told_unless, begun, done, made, run, Moment, DeviceState, PageDecays, s0, IsOnlyOfGood, decays_behind_restart, restarted_report}
use Rattle.jn_wrong.proofs.StillRuns.{still}
use Rattle.jn_base.specs.declared.device.FaultKind.TheVariants as faults
use Rattle.jn_schedule.specs.declared.Event.TheVariants as events
use Rattle.jn_report.specs.declared.line.Text.TheVariants as says
use Rattle.jn_wrong.proofs.Computed.{pieces-so}
use Rattle.jn_wrong.proofs.Driving.{Stand, IsStill, begins-one, answered, answers-one, crashes-one, recovers-one, finishes}
use Rattle.jn_wrong.proofs.OneServer.{x1, at_up, only-of-good, comes-first, decays-one}
use Rattle.jn_wrong.proofs.Pairs.{Pair, IsRestored, restart-restores, other-allowed}

module _ (last : Moment) (over : next_task last.state ≡ None) (epochs : ServerNo → ℕ) where
  abbrev first : State
  first = done x1 still (Begins (events.Decay s0 5)) (at_up decays_behind_restart epochs)

  abbrev decayed : State
  decayed = answered x1 first (events.Decay s0 5) (Decays s0 5) []

  abbrev second : State
  second = done x1 still (Begins (events.Crash s0)) decayed

  abbrev down : State
  down = done x1 still (Meets (events.Crash s0)) second

  abbrev third : State
  third = done x1 still (Begins (events.Restart s0)) down

  abbrev mended : State
  mended = made x1 still (recovered still s0) (begun (Meets (events.Restart s0)) third)

  abbrev fourth : State
  fourth = done x1 still (Begins (events.Decay s0 182)) mended

  abbrev told : Bool → List Text
  told b = told_unless b (says.Outside s0 (record { kind = faults.Decay 182; page = 182 }))

  abbrev now : State
  now = answered x1 fourth (events.Decay s0 182) (Decays s0 182) (told true)

  to-decayed : Stand x1 last (at_up decays_behind_restart epochs) (Pair true true 0) → Stand x1 last decayed (Pair true false 1)
  to-decayed h = decays-one last over first 0 refl refl refl (begins-one x1 refl last over (at_up decays_behind_restart epochs) (events.Decay s0 5) (Pair true true 0) refl h)

  to-down : Stand x1 last decayed (Pair true false 1) → Stand x1 last down (Pair false false 1)
  to-down h = crashes-one x1 refl last over second _ (Pair true false 1) (Pair false false 1) refl refl refl
      (λ d p. record { count = p.count; waiting = p.waiting; told = p.told; power_is = refl; first = p.first; failed = p.failed; second = p.second; unfailed = p.unfailed })
      (begins-one x1 refl last over decayed (events.Crash s0) (Pair true false 1) refl h)

  to-mended : Stand x1 last down (Pair false false 1) → Stand x1 last mended IsRestored
  to-mended h = recovers-one x1 refl last over third (Meets (events.Restart s0)) (Pair false false 1) IsRestored
      (record { epoch = 1; below = refl; found = λ c. refl; not_last = refl }) refl refl
      (λ g e. ap (λ (b : Bool). if b then record (given_up g s0) { texts = says.RefusedEvent EpochsUsedUp ∷ [] } else recovered g s0) e) refl
      (λ d p. (p.told, p.waiting))
      (λ g e. ap (λ stop. is_some ((run (recovering g s0 stop) third.course.world).memory s0)) e)
      (λ g d e r p lit stop found. restart-restores g d e r p lit)
      (begins-one x1 refl last over down (events.Restart s0) (Pair false false 1) refl h)

  to-now : Stand x1 last mended IsRestored → Stand x1 last now IsStill
  to-now h = answers-one x1 refl last over fourth (events.Decay s0 182) (Decays s0 182) told true IsRestored IsStill refl refl (λ g. refl) (λ untold. refl)
      (λ g ds es used p. permitted (ds s0) (es s0) (allowed g.found) used.its p) (begins-one x1 refl last over mended (events.Decay s0 182) IsRestored refl h)
    where
      permitted : (d e : DeviceState) (answer : Bool) → PageDecays d 182 answer e → IsRestored d → (answer ≡ true) × IsStill e
      permitted d e answer b p = (b.answers ∙ ap not (other-allowed d p), record { waiting = b.becomes.waiting ∙ p.waiting; told = b.becomes.told ∙ p.told; power = b.becomes.power_is ∙ p.power_is })

  restarted : Stand x1 last (at_up decays_behind_restart epochs) (Pair true true 0) → last.state.lines ≡ restarted_report
  restarted h = finishes x1 refl last over 18 now (pieces-so x1 (2 ∷ 12 ∷ 1 ∷ []) now (
    refl,
    record { epoch = 2; below = refl; found = λ c. refl; not_last = refl },
    (
      refl,
      record { memory = _; below = refl; up = refl; nothing = λ f. refl },
      (
        refl,
        refl,
        tt,
      ),
    ),
  )) refl (to-now (to-mended (to-down (to-decayed h))))

pub restarted-only : IsOnlyOfGood decays_behind_restart restarted_report
restarted-only = only-of-good decays_behind_restart restarted_report (λ epochs last over h. restarted last over epochs (comes-first decays_behind_restart epochs last over h))
