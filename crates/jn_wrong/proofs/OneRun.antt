-- Whole runs over devices that are written out: without events, with decays, with faults that wait and with restarts.
use Rattle.jn_wrong.proofs.Common.{◌≡◌, ℕ, Bool, true, false, [], ◌∷◌, refl, subst, arith, nat_eq, Some, Meets, State, Chance, StopBefore, Null, Decays, PageDecays, calm, s0, quiet_report, decays_once, decays_both, both_report, decays_behind_scrub, decays_with_power, forgiven_report, decays_behind_restart, restarted_report, arms_two, arms_far, more, DeviceState, page_met, Allows, IsOneOfGood}
use Rattle.jn_base.specs.declared.device.FaultKind.TheVariants as faults
use Rattle.jn_report.specs.declared.line.Text.TheVariants as says
use Rattle.jn_schedule.specs.declared.Event.TheVariants as events
use Rattle.jn_wrong.proofs.NewDevice.{device, pages_at, put_on, thrice, all_but, failed_at, all-but-good, at-same, blank-on}
use Rattle.jn_wrong.proofs.OnDevices.{alone}
use Rattle.jn_wrong.proofs.OnSteps.{use_deed, does-use, idled}
use Rattle.jn_wrong.proofs.OnEvents.{decayed, revived, armed, scrubbed, crashed, restarted, begins-then, decays-then, revives-then, arms-then, shows-then, scrubs-then, crashes-then, restarts-then}
use Rattle.jn_wrong.proofs.Endings.{one-so, names-nothing, at_up, first_tally, from-up}

-- how often half 5 has failed
abbrev once : ℕ → ℕ
once = failed_at 5 (λ q. 0)

abbrev twice : ℕ → ℕ
twice = failed_at 5 once

abbrev three_times : ℕ → ℕ
three_times = failed_at 5 twice

-- ---- without events

pub none-one : IsOneOfGood [] quiet_report
none-one = one-so [] quiet_report _ _ (from-up 1 (omega arith) _ _ _ 0 _ _ _ 5 (omega arith) (λ q. true) (λ q other. refl) (λ q. 0) [] first_tally) refl refl refl

-- ---- decays

pub once-one : IsOneOfGood decays_once quiet_report
once-one = one-so decays_once quiet_report _ _
    (decays-then 1 (omega arith) (at_up decays_once) _ 5 (λ q. 0) [] first_tally refl (record { begins = refl; next = refl; is = refl; found = λ c. refl })
    (from-up 1 (omega arith) _ _ _ 1 _ _ _ 5 (omega arith) (all_but 5) (all-but-good 5) once [] first_tally)) refl refl refl

-- the other half may not decay
abbrev half_bad : DeviceState
half_bad = device (pages_at 1 (all_but 5) once) true [] first_tally

kept : PageDecays half_bad 182 false half_bad
kept = record {
  answers = refl;
  becomes = record { count = refl; pages_are = λ q. at_page q (nat_eq 182 q) refl; power_is = refl; waiting = refl; told = refl; calls = refl; puts = refl; stops = refl };
}
  where
    at_page : (q : ℕ) (b : Bool) → nat_eq 182 q ≡ b → half_bad.pages q ≡ page_met half_bad (Some (faults.Decay 182)) q
    at_page q true e = subst (λ (k : ℕ). half_bad.pages k ≡ page_met half_bad (Some (faults.Decay 182)) k) (at-same 182 q e) refl
    at_page q false e = rw e refl

abbrev refusing : Chance
refusing = record calm { found = Allows false }

pub both-one : IsOneOfGood decays_both both_report
both-one = one-so decays_both both_report _ _
    (decays-then 1 (omega arith) (at_up decays_both) _ 5 (λ q. 0) [] first_tally refl (record { begins = refl; next = refl; is = refl; found = λ c. refl })
    (begins-then 1 (omega arith) (decayed 5 (at_up decays_both)) _ (events.Decay s0 182) (use_deed (Decays s0 182) []) (record { begins = refl; next = refl; is = refl; found = λ c. refl }) (all_but 5) once true [] first_tally
    (more _ _ _ (does-use refusing (Meets (events.Decay s0 182)) (Decays s0 182) (says.Outside s0 (record { kind = faults.Decay 182; page = 182 }) ∷ []) (idled 1 (decayed 5 (at_up decays_both))) half_bad half_bad 1 refl refl
    (blank-on 1 (omega arith) (all_but 5) once true [] first_tally) (blank-on 1 (omega arith) (all_but 5) once true [] first_tally) (λ q. refl) (λ c. refl) (alone (λ d e. PageDecays d 182 false e) half_bad half_bad kept))
    (from-up 1 (omega arith) _ _ _ 2 _ _ _ 5 (omega arith) (all_but 5) (all-but-good 5) once [] first_tally)))) refl refl refl

pub scrubbed-one : IsOneOfGood decays_behind_scrub quiet_report
scrubbed-one = one-so decays_behind_scrub quiet_report _ _
    (decays-then 1 (omega arith) (at_up decays_behind_scrub) _ 5 (λ q. 0) [] first_tally refl (record { begins = refl; next = refl; is = refl; found = λ c. refl })
    (scrubs-then 1 (omega arith) (decayed 5 (at_up decays_behind_scrub)) _ 1 5 once first_tally (omega arith) refl (record { begins = refl; next = refl; is = refl; found = λ c. refl }) refl
    (decays-then 1 (omega arith) (scrubbed (decayed 5 (at_up decays_behind_scrub))) _ 182 once [] (put_on first_tally) refl (record { begins = refl; next = refl; is = refl; found = λ c. refl })
    (from-up 1 (omega arith) _ _ _ 3 _ _ _ 182 (omega arith) (all_but 182) (all-but-good 182) (failed_at 182 once) [] (put_on first_tally))))) refl refl refl

-- ---- faults that wait

pub two-one : IsOneOfGood arms_two quiet_report
two-one = one-so arms_two quiet_report _ _
    (arms-then 1 (omega arith) (at_up arms_two) _ 5 Null (λ q. true) (λ q. 0) true [] first_tally refl (record { begins = refl; next = refl; is = refl; found = λ c. refl })
    (arms-then 1 (omega arith) (armed 5 Null (at_up arms_two)) _ 3 Null (λ q. true) (λ q. 0) true ((record { after = 5; kind = Null }) ∷ []) first_tally refl (record { begins = refl; next = refl; is = refl; found = λ c. refl })
    (from-up 1 (omega arith) _ _ _ 2 _ _ _ 5 (omega arith) (λ q. true) (λ q other. refl) (λ q. 0) ((record { after = 5; kind = Null }) ∷ (record { after = 3; kind = Null }) ∷ []) first_tally))) refl refl refl

pub far-one : IsOneOfGood arms_far quiet_report
far-one = one-so arms_far quiet_report _ _
    (arms-then 1 (omega arith) (at_up arms_far) _ 1000000 StopBefore (λ q. true) (λ q. 0) true [] first_tally refl (record { begins = refl; next = refl; is = refl; found = λ c. refl })
    (shows-then 1 (omega arith) (armed 1000000 StopBefore (at_up arms_far)) _ 1 (λ q. true) (λ q. 0) ((record { after = 1000000; kind = StopBefore }) ∷ []) first_tally (record { begins = refl; next = refl; is = refl; found = λ c. refl }) refl (λ f. refl)
    (from-up 1 (omega arith) _ _ _ 2 _ _ _ 5 (omega arith) (λ q. true) (λ q other. refl) (λ q. 0) ((record { after = 1000000; kind = StopBefore }) ∷ []) first_tally))) refl refl refl

-- ---- restarts

abbrev failed_once : State
failed_once = revived 5 (decayed 5 (at_up decays_with_power))

abbrev failed_twice : State
failed_twice = revived 5 (decayed 5 failed_once)

abbrev failed_thrice : State
failed_thrice = revived 5 (decayed 5 failed_twice)

pub power-one : IsOneOfGood decays_with_power forgiven_report
power-one = one-so decays_with_power forgiven_report _ _
    (decays-then 1 (omega arith) (at_up decays_with_power) _ 5 (λ q. 0) [] first_tally refl (record { begins = refl; next = refl; is = refl; found = λ c. refl })
    (revives-then 1 (omega arith) (decayed 5 (at_up decays_with_power)) _ 5 once [] first_tally (record { begins = refl; next = refl; is = refl; found = λ c. refl })
    (decays-then 1 (omega arith) failed_once _ 5 once [] first_tally refl (record { begins = refl; next = refl; is = refl; found = λ c. refl })
    (revives-then 1 (omega arith) (decayed 5 failed_once) _ 5 twice [] first_tally (record { begins = refl; next = refl; is = refl; found = λ c. refl })
    (decays-then 1 (omega arith) failed_twice _ 5 twice [] first_tally refl (record { begins = refl; next = refl; is = refl; found = λ c. refl })
    (revives-then 1 (omega arith) (decayed 5 failed_twice) _ 5 three_times [] first_tally (record { begins = refl; next = refl; is = refl; found = λ c. refl })
    (crashes-then 1 (omega arith) failed_thrice _ (λ q. true) three_times [] first_tally (record { begins = refl; next = refl; is = refl; found = λ c. refl }) (λ c. refl)
    (restarts-then 1 (omega arith) (crashed failed_thrice) _ 5 (λ q. true) three_times first_tally (omega arith) (λ q other. refl) (record { begins = refl; next = refl; is = refl; found = λ c. refl }) (names-nothing, tt) (λ c. refl) refl refl
    (decays-then 2 (omega arith) (restarted (crashed failed_thrice)) _ 5 (λ q. 0) [] (thrice first_tally) refl (record { begins = refl; next = refl; is = refl; found = λ c. refl })
    (from-up 2 (omega arith) _ _ _ 9 _ _ _ 5 (omega arith) (all_but 5) (all-but-good 5) once [] (thrice first_tally))))))))))) refl refl refl

abbrev up_again : State
up_again = restarted (crashed (decayed 5 (at_up decays_behind_restart)))

pub restarted-one : IsOneOfGood decays_behind_restart restarted_report
restarted-one = one-so decays_behind_restart restarted_report _ _
    (decays-then 1 (omega arith) (at_up decays_behind_restart) _ 5 (λ q. 0) [] first_tally refl (record { begins = refl; next = refl; is = refl; found = λ c. refl })
    (crashes-then 1 (omega arith) (decayed 5 (at_up decays_behind_restart)) _ (all_but 5) once [] first_tally (record { begins = refl; next = refl; is = refl; found = λ c. refl }) (λ c. refl)
    (restarts-then 1 (omega arith) (crashed (decayed 5 (at_up decays_behind_restart))) _ 5 (all_but 5) once first_tally (omega arith) (all-but-good 5) (record { begins = refl; next = refl; is = refl; found = λ c. refl }) (names-nothing, tt) (λ c. refl) refl refl
    (decays-then 2 (omega arith) up_again _ 182 (λ q. 0) [] (thrice first_tally) refl (record { begins = refl; next = refl; is = refl; found = λ c. refl })
    (from-up 2 (omega arith) _ _ _ 4 _ _ _ 182 (omega arith) (all_but 182) (all-but-good 182) (failed_at 182 (λ q. 0)) [] (thrice first_tally)))))) refl refl refl
