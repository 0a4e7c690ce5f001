-- A half that has failed three times may fail again once the power came.
use Rattle.jn_wrong.proofs.Common.{◌≡◌, ℕ, ◌+◌, Bool, true, false, [], ◌∷◌, Some, None, is_some, refl, ap, if◌then◌else◌, nat_lt, ServerNo, Event, Begins, Meets, State, next_task, EpochsUsedUp, Decays, Revives, given_up, recovered, recovering, begun, done, made, run, Moment, s0, IsOnlyOfGood, decays_with_power, forgiven_report}
use Rattle.jn_wrong.proofs.StillRuns.{still}
use Rattle.jn_schedule.specs.declared.Event.TheVariants as events
use Rattle.jn_report.specs.declared.line.Text.TheVariants as says
use Rattle.jn_wrong.proofs.Computed.{pieces-so}
use Rattle.jn_wrong.proofs.Driving.{Stand, IsStill, begins-one, answered, crashes-one, recovers-one, finishes}
use Rattle.jn_wrong.proofs.OneServer.{x1, at_up, only-of-good, comes-first, decays-one, revives-one, pair-still, weaker}
use Rattle.jn_wrong.proofs.Pairs.{Pair, pair-good, recovery-pairs}

-- an event begins, and the half decays or is revived
abbrev begun_by : Event → State → State
begun_by e s = done x1 still (Begins e) s

abbrev decayed : State → State
decayed s = answered x1 (begun_by (events.Decay s0 5) s) (events.Decay s0 5) (Decays s0 5) []

abbrev revived : State → State
revived s = answered x1 (begun_by (events.Revive s0 5) s) (events.Revive s0 5) (Revives s0 5) []

module _ (last : Moment) (over : next_task last.state ≡ None) where
  decays-then : (s : State) (k : ℕ) → nat_lt k 3 ≡ true → next_task s ≡ Some (Begins (events.Decay s0 5)) → next_task (begun_by (events.Decay s0 5) s) ≡ Some (Meets (events.Decay s0 5))
      → Stand x1 last s (Pair true true k) → Stand x1 last (decayed s) (Pair true false (k + 1))
  decays-then s k few n m h = decays-one last over (begun_by (events.Decay s0 5) s) k few m refl (begins-one x1 refl last over s (events.Decay s0 5) (Pair true true k) n h)

  revives-then : (s : State) (k : ℕ) → next_task s ≡ Some (Begins (events.Revive s0 5)) → next_task (begun_by (events.Revive s0 5) s) ≡ Some (Meets (events.Revive s0 5))
      → Stand x1 last s (Pair true false k) → Stand x1 last (revived s) (Pair true true k)
  revives-then s k n m h = revives-one last over (begun_by (events.Revive s0 5) s) k m refl (begins-one x1 refl last over s (events.Revive s0 5) (Pair true false k) n h)

  -- a crash and a restart
  abbrev crashed : State → State
  crashed s = done x1 still (Meets (events.Crash s0)) (begun_by (events.Crash s0) s)

  abbrev restarted : State → State
  restarted s = made x1 still (recovered still s0) (begun (Meets (events.Restart s0)) (begun_by (events.Restart s0) s))

  module _ (epochs : ServerNo → ℕ) where
    abbrev up_once : State
    up_once = at_up decays_with_power epochs

    abbrev thrice : State
    thrice = revived (decayed (revived (decayed (revived (decayed up_once)))))

    abbrev down : State
    down = crashed thrice

    abbrev up_again : State
    up_again = restarted down

    to-thrice : Stand x1 last up_once (Pair true true 0) → Stand x1 last thrice (Pair true true 3)
    to-thrice h = revives-then (decayed (revived (decayed (revived (decayed up_once))))) 3 refl refl
        (decays-then (revived (decayed (revived (decayed up_once)))) 2 refl refl refl
        (revives-then (decayed (revived (decayed up_once))) 2 refl refl
        (decays-then (revived (decayed up_once)) 1 refl refl refl
        (revives-then (decayed up_once) 1 refl refl
        (decays-then up_once 0 refl refl refl h)))))

    to-down : Stand x1 last thrice (Pair true true 3) → Stand x1 last down (Pair false true 3)
    to-down h = crashes-one x1 refl last over (begun_by (events.Crash s0) thrice) _ (Pair true true 3) (Pair false true 3) refl refl refl
        (λ d p. record { count = p.count; waiting = p.waiting; told = p.told; power_is = refl; first = p.first; failed = p.failed; second = p.second; unfailed = p.unfailed })
        (begins-one x1 refl last over thrice (events.Crash s0) (Pair true true 3) refl h)

    to-up : Stand x1 last down (Pair false true 3) → Stand x1 last up_again (Pair true true 0)
    to-up h = recovers-one x1 refl last over (begun_by (events.Restart s0) down) (Meets (events.Restart s0)) (Pair false true 3) (Pair true true 0)
        (record { epoch = 1; below = refl; found = λ c. refl; not_last = refl }) refl refl
        (λ g e. ap (λ (b : Bool). if b then record (given_up g s0) { texts = says.RefusedEvent EpochsUsedUp ∷ [] } else recovered g s0) e) refl
        (λ d p. (p.told, p.waiting))
        (λ g e. ap (λ stop. is_some ((run (recovering g s0 stop) (begun_by (events.Restart s0) down).course.world).memory s0)) e)
        (λ g d e r p lit stop found. recovery-pairs (x1.counts s0) g d e r (pair-good false 3 d p) lit)
        (begins-one x1 refl last over down (events.Restart s0) (Pair false true 3) refl h)

    pub forgiven : Stand x1 last up_once (Pair true true 0) → last.state.lines ≡ forgiven_report
    forgiven h = finishes x1 refl last over 18 now (pieces-so x1 (2 ∷ 12 ∷ 1 ∷ []) now (
      refl,
      record { epoch = 2; below = refl; found = λ c. refl; not_last = refl },
      (
        refl,
        record { memory = _; below = refl; up = refl; nothing = λ f. refl },
        (
          refl,
          refl,
          tt,
        ),
      ),
    )) refl (weaker x1 last now (Pair true false 1) IsStill (pair-still false 1) (decays-then up_again 0 refl refl refl (to-up (to-down (to-thrice h)))))
      where
        now : State
        now = decayed up_again

pub power-only : IsOnlyOfGood decays_with_power forgiven_report
power-only = only-of-good decays_with_power forgiven_report (λ epochs last over h. forgiven last over epochs (comes-first decays_with_power epochs last over h))
