-- Faults that wait for calls that aren't made: two for two calls, and a stop far off.
use Rattle.jn_wrong.proofs.Common.{◌≡◌, ℕ, ◌++◌, Bool, true, List, [], ◌∷◌, Some, None, refl, ◌∙◌, ap, ServerNo, allowed, Begins, Meets, Dismisses, State, next_task, TooManyArmed, Arms, told_unless, refusal_of, done, Moment, FaultKind, Armed, DeviceState, may_arm, disarmed, FaultArmed, s0, IsOnlyOfGood, arms_two, quiet_report}
use Rattle.jn_wrong.proofs.StillRuns.{still}
use Rattle.jn_base.specs.declared.device.FaultKind.TheVariants as faults
use Rattle.jn_schedule.specs.declared.Event.TheVariants as events
use Rattle.jn_report.specs.declared.line.Text.TheVariants as says
use Rattle.jn_wrong.proofs.Computed.{pieces-so}
use Rattle.jn_wrong.proofs.Driving.{Stand, IsStill, begins-one, answered, answers-one, dismisses-one, finishes}
use Rattle.jn_wrong.proofs.OneServer.{x1, at_up, only-of-good, comes-first, weaker}
use Rattle.jn_wrong.proofs.Pairs.{Pair, Waits, arm-waits}

abbrev five : Armed
five = record { after = 5; kind = faults.Null }

abbrev three : Armed
three = record { after = 3; kind = faults.Null }

module _ (last : Moment) (over : next_task last.state ≡ None) where
  -- a fault is to wait, which is allowed
  pub arms-one : (s : State) (n : ℕ) (kind : FaultKind) (wait : List Armed) → may_arm n wait ≡ true → next_task s ≡ Some (Meets (events.Arm s0 n kind)) → refusal_of x1 s.course.world (events.Arm s0 n kind) ≡ None
      → Stand x1 last s (Waits wait) → Stand x1 last (answered x1 s (events.Arm s0 n kind) (Arms s0 n kind) []) (Waits (wait ++ (record { after = n; kind = kind }) ∷ []))
  arms-one s n kind wait may k unrefused h = answers-one x1 refl last over s (events.Arm s0 n kind) (Arms s0 n kind) (λ b. told_unless b (says.RefusedEvent TooManyArmed)) true (Waits wait) (Waits (wait ++ (record { after = n; kind = kind }) ∷ []))
      k unrefused (λ g. refl) (λ told. refl) (λ g ds es used p. by (ds s0) (es s0) (allowed g.found) used.its p) h
    where
      by : (d e : DeviceState) (answer : Bool) → FaultArmed d n kind answer e → Waits wait d → (answer ≡ true) × Waits (wait ++ (record { after = n; kind = kind }) ∷ []) e
      by d e answer a p = let permitted = a.answers ∙ ap (may_arm n) p.waiting ∙ may in (permitted, arm-waits n kind wait answer d e p permitted a)

  dismissed-still : (wait : List Armed) (d : DeviceState) → Waits wait d → IsStill (disarmed d)
  dismissed-still wait d p = record { waiting = refl; told = p.told; power = p.power }

  module _ (epochs : ServerNo → ℕ) where
    abbrev first : State
    first = done x1 still (Begins (events.Arm s0 5 faults.Null)) (at_up arms_two epochs)

    abbrev armed : State
    armed = answered x1 first (events.Arm s0 5 faults.Null) (Arms s0 5 faults.Null) []

    abbrev second : State
    second = done x1 still (Begins (events.Arm s0 3 faults.Null)) armed

    abbrev twice : State
    twice = answered x1 second (events.Arm s0 3 faults.Null) (Arms s0 3 faults.Null) []

    abbrev now : State
    now = done x1 still Dismisses twice

    pub two-armed : Stand x1 last (at_up arms_two epochs) (Pair true true 0) → last.state.lines ≡ quiet_report
    two-armed h = finishes x1 refl last over 17 now (pieces-so x1 (1 ∷ 12 ∷ 1 ∷ []) now (
      refl,
      record { epoch = 1; below = refl; found = λ c. refl; not_last = refl },
      (
        refl,
        record { memory = _; below = refl; up = refl; nothing = λ f. refl },
        (
          refl,
          refl,
          tt,
        ),
      ),
    )) refl
        (dismisses-one x1 refl last over twice (Waits (five ∷ three ∷ [])) IsStill refl (dismissed-still (five ∷ three ∷ []))
        (arms-one second 3 faults.Null (five ∷ []) refl refl refl (begins-one x1 refl last over armed (events.Arm s0 3 faults.Null) (Waits (five ∷ [])) refl
        (arms-one first 5 faults.Null [] refl refl refl (begins-one x1 refl last over (at_up arms_two epochs) (events.Arm s0 5 faults.Null) (Waits []) refl
        (weaker x1 last (at_up arms_two epochs) (Pair true true 0) (Waits []) (λ d p. record { waiting = p.waiting; told = p.told; power = p.power_is }) h))))))

pub two-only : IsOnlyOfGood arms_two quiet_report
two-only = only-of-good arms_two quiet_report (λ epochs last over h. two-armed last over epochs (comes-first arms_two epochs last over h))
