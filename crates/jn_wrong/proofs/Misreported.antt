-- Reports of runs with faults that differ from the only one.
use Rattle.jn_wrong.proofs.Common.{◌≡◌, ℕ, Bool, true, false, List, length, sym, ◌∙◌, ap, nat_eq, refl, Event, Line, list_any, not, IsOnlyOfGood, IsNoneOfGood, quiet_report, decays_once, first_decay_told, decays_both, both_report, decays_behind_scrub, nothing_mended, decays_with_power, forgiven_report, nothing_forgiven, decays_behind_restart, restarted_report, left_unmended, arms_two, armed_too_many, arms_far, show_stopped}
use Rattle.jn_wrong.proofs.OneServer.{once-only, both-only, scrubbed-only}
use Rattle.jn_wrong.proofs.Forgiven.{power-only}
use Rattle.jn_wrong.proofs.Restarted.{restarted-only}
use Rattle.jn_wrong.proofs.Waiting.{two-only}
use Rattle.jn_wrong.proofs.FarOff.{far-only}
use Rattle.jn_wrong.proofs.Struck.{tells_stop}

-- a test tells them apart
by-test : (schedule : List Event) (report wrong : List Line) → IsOnlyOfGood schedule report → (test : List Line → Bool) → test report ≡ true → test wrong ≡ false → IsNoneOfGood schedule wrong
by-test schedule report wrong only test so not-so images closing new good h = clash (sym so ∙ ap test (sym (only images closing wrong new good h)) ∙ not-so)
  where
    clash : true ≡ false → ⊥
    clash k = cc

abbrev are : ℕ → List Line → Bool
are n lines = nat_eq (length lines) n

pub first-refused : IsNoneOfGood decays_once first_decay_told
first-refused = by-test decays_once quiet_report first_decay_told once-only (are 4) refl refl

pub passed-over : IsNoneOfGood decays_both quiet_report
passed-over = by-test decays_both both_report quiet_report both-only (are 5) refl refl

pub unmended : IsNoneOfGood decays_behind_scrub nothing_mended
unmended = by-test decays_behind_scrub quiet_report nothing_mended scrubbed-only (are 4) refl refl

pub unforgiving : IsNoneOfGood decays_with_power nothing_forgiven
unforgiving = by-test decays_with_power forgiven_report nothing_forgiven power-only (are 6) refl refl

pub left-unmended : IsNoneOfGood decays_behind_restart left_unmended
left-unmended = by-test decays_behind_restart restarted_report left_unmended restarted-only (are 6) refl refl

pub refused-for-free : IsNoneOfGood arms_two armed_too_many
refused-for-free = by-test arms_two quiet_report armed_too_many two-only (are 4) refl refl

pub met-far-off : IsNoneOfGood arms_far show_stopped
met-far-off = by-test arms_far quiet_report show_stopped far-only (λ lines. not (list_any tells_stop lines)) refl refl
