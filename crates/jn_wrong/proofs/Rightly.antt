-- The right reports of schedules of which wrong ones are refuted, computed.
use Rattle.jn_wrong.proofs.Common.{◌≡◌, ℕ, [], ◌∷◌, refl, arms_first, arms_in_order, arms_null, null_told, makes_one, calm, calmly, at_step, stopped, report, stop_met, outside_in_order, made_report, full_of, false, quiet_report, decays_once, decays_both, both_report, decays_behind_scrub, decays_with_power, forgiven_report, decays_behind_restart, restarted_report, arms_two, arms_far, Allows, Computes, IsComputed, one_record, in_room, whole_only, head_blocks, one_page, writes_at, full_at_block}
use Rattle.jn_base.specs.declared.names.Resource.TheVariants.{Records, Pages}
use Rattle.jn_base.specs.declared.device.FaultKind.TheVariants as faults
use Rattle.jn_locks.specs.Locks as locks

pub once-computed : Computes calmly decays_once quiet_report
once-computed = record { lines_are = refl; stage = refl; tasks = refl }

pub both-computed : Computes (at_step 4 (record calm { found = Allows false }) calmly) decays_both both_report
both-computed = record { lines_are = refl; stage = refl; tasks = refl }

pub scrubbed-computed : Computes calmly decays_behind_scrub quiet_report
scrubbed-computed = record { lines_are = refl; stage = refl; tasks = refl }

pub power-computed : Computes calmly decays_with_power forgiven_report
power-computed = record { lines_are = refl; stage = refl; tasks = refl }

pub restarted-computed : Computes calmly decays_behind_restart restarted_report
restarted-computed = record { lines_are = refl; stage = refl; tasks = refl }

pub two-computed : Computes calmly arms_two quiet_report
two-computed = record { lines_are = refl; stage = refl; tasks = refl }

pub far-computed : Computes calmly arms_far quiet_report
far-computed = record { lines_are = refl; stage = refl; tasks = refl }

pub met-stop : report 1 (at_step 6 (stopped (λ c. whole_only 0)) calmly) 60 arms_first ≡ stop_met
met-stop = refl

pub told-in-turn : (p r : ℕ) → report 1 (at_step 8 (record calm { told = (record { kind = faults.Null; page = p }) ∷ (record { kind = faults.Bad; page = r }) ∷ [] }) calmly) 60 arms_in_order ≡ outside_in_order p r
told-in-turn p r = refl

pub told-null : (page : ℕ) → report 1 (at_step 6 (record calm { told = (record { kind = faults.Null; page = page }) ∷ [] }) calmly) 60 arms_null ≡ null_told faults.Null page
told-null page = refl

pub makes-file : report 1 calmly 200 makes_one ≡ made_report
unfolding locks.unit_before
makes-file = refl

pub lacks-records : IsComputed one_record (in_room one_record) 100 makes_one (full_of Records 0 2)
unfolding locks.unit_before
lacks-records = record { lines_are = refl; stage = refl; tasks = refl }

pub lacks-map-page : IsComputed one_page (in_room one_page) 200 (writes_at head_blocks []) (full_at_block Pages 1 2)
unfolding locks.unit_before
lacks-map-page = record { lines_are = refl; stage = refl; tasks = refl }
