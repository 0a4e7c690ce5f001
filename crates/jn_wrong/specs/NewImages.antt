-- Whole runs from new images: what all of them report, and what none reports.
use Rattle.std.specs.Prelude.{◌≡◌, ◌<◌, ℕ, Bool, List, None}
use Rattle.jn_base.specs.declared.names.ServerNo.{ServerNo}
use Rattle.jn_schedule.specs.declared.Event.{Event}
use Rattle.jn_report.specs.declared.line.Line.{Line}
use Rattle.jn_store.specs.Pairs.{pairs_view}
use Rattle.jn_page_state.specs.Pages.{found_on}
use Rattle.jn_rows.specs.Stable.{StableState, Pick}
use Rattle.jn_machine.specs.Chances.{Setup}
use Rattle.jn_machine.specs.Devices.{Devices}
use Rattle.jn_machine.specs.Whole.{IsWhole}

-- nothing is stored
abbrev pub blank : ℕ → StableState
blank epoch = record { epoch = epoch; files = λ u. None; works = λ W. None; flags = λ T. None }

-- on the pages of each server nothing is stored, and it was never started
abbrev pub AreNew : Setup → Devices → Type 0
AreNew x images = (q : ServerNo) (c : Pick) → q.0 < x.servers → found_on (x.counts q) (pairs_view (images q)) c ≡ blank 0

-- every whole run of the schedule on so many servers, from new images, reports exactly these lines, whatever befalls it
abbrev pub IsOnly : ℕ → Bool → List Event → List Line → Type 0
IsOnly servers trace schedule report = (x : Setup) (images closing : Devices) (lines : List Line) → x.servers ≡ servers → x.trace ≡ trace → AreNew x images → IsWhole x schedule images closing lines → lines ≡ report

-- and none of them reports these
abbrev pub IsNoneOfNew : ℕ → Bool → List Event → List Line → Type 0
IsNoneOfNew servers trace schedule wrong = (x : Setup) (images closing : Devices) → x.servers ≡ servers → x.trace ≡ trace → AreNew x images → IsWhole x schedule images closing wrong → ⊥

-- and so of one setup
abbrev pub IsOnlyOf : Setup → List Event → List Line → Type 0
IsOnlyOf x schedule report = (images closing : Devices) (lines : List Line) → AreNew x images → IsWhole x schedule images closing lines → lines ≡ report

abbrev pub IsNoneOf : Setup → List Event → List Line → Type 0
IsNoneOf x schedule wrong = (images closing : Devices) → AreNew x images → IsWhole x schedule images closing wrong → ⊥
