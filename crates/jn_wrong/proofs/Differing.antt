-- Reports that differ from the only one.
use Rattle.jn_wrong.proofs.Common.{quiet_report, ◌≡◌, ℕ, Bool, true, false, List, length, Option, Some, None, refl, sym, ◌∙◌, ap, ◌&&◌, nat_eq, slice_get, list_any, zeros, Event, EventRefusal, When, AtEvent, Text, Line, block_of, IsOnly, IsNoneOfNew, begins, begun_report, traced_report, settles_twice, two_begin, two_report, reads_and_aborts, read_report, opens_other, opened_report, shows_unmade, shown_report, begins_and_aborts, aborted_report}
use Rattle.jn_report.specs.declared.line.Refusal.{Refusal}
use Rattle.jn_report.specs.declared.line.Text.TheVariants as says
use Rattle.jn_wrong.specs.Others.{refused_by_client, refused_as_event, with_another, ended_with_another, commit_of_nobody, answered_later, one_for_two, aborted_for_another, committed_for_another, opened_another, answered_at_once, epoch_skipped, downs_swapped, ups_swapped, read_otherwise, show_tells, messages_swapped, thanked_too_soon}
use Rattle.jn_wrong.proofs.Exact.{differs}
use Rattle.jn_wrong.proofs.Begun.{begun-only, traced-only, settled-only, two-only, read-only, opened-only, shown-only, aborted-only}

-- a test tells them apart
by-test : (n : ℕ) (trace : Bool) (schedule : List Event) (report wrong : List Line) → IsOnly n trace schedule report → (test : List Line → Bool) → test report ≡ true → test wrong ≡ false → IsNoneOfNew n trace schedule wrong
by-test n trace schedule report wrong only test so not-so = differs n trace schedule report wrong only (λ e. clash (sym so ∙ ap test (sym e) ∙ not-so))
  where
    clash : true ≡ false → ⊥
    clash k = cc

-- ---- tests

abbrev are : ℕ → List Line → Bool
are n lines = nat_eq (length lines) n

abbrev some_text : (Text → Bool) → List Line → Bool
some_text test lines = list_any (λ (l : Line). test l.text) lines

abbrev is_begun : Text → Bool
is_begun (says.Begun c j T) = true
is_begun text = false

-- in the transaction with this ticket
abbrev begins_at : ℕ → Text → Bool
begins_at k (says.Begun c j T) = nat_eq T.ticket k
begins_at k text = false

abbrev aborts_at : ℕ → Text → Bool
aborts_at k (says.Aborted c j T cause) = nat_eq T.ticket k
aborts_at k text = false

abbrev opens_at : ℕ → Text → Bool
opens_at k (says.Opened c j q) = nat_eq q.0 k
opens_at k text = false

abbrev is_zero : Option ℕ → Bool
is_zero None = false
is_zero (Some n) = nat_eq n 0

abbrev reads_zero : Text → Bool
reads_zero (says.Read c j bytes) = is_zero (slice_get bytes 0)
reads_zero text = false

abbrev is_at : ℕ → When → Bool
is_at k (AtEvent j) = nat_eq j k
is_at k when = false

abbrev is_number : ℕ → Text → Bool
is_number k (says.Message j from to kind) = nat_eq j k
is_number k text = false

abbrev says_at : (Text → Bool) → Option Line → Bool
says_at test None = false
says_at test (Some l) = test l.text

abbrev goes_down : ℕ → Text → Bool
goes_down k (says.Down q) = nat_eq q.0 k
goes_down k text = false

abbrev comes_up : ℕ → ℕ → Text → Bool
comes_up k epoch (says.Up q now) = nat_eq q.0 k && nat_eq now epoch
comes_up k epoch text = false

-- ---- a client begins

pub unanswered : IsNoneOfNew 1 false begins quiet_report
unanswered = by-test 1 false begins begun_report quiet_report begun-only (are 5) refl refl

pub by-client : (refusal : Refusal) → IsNoneOfNew 1 false begins (refused_by_client refusal)
by-client refusal = by-test 1 false begins begun_report (refused_by_client refusal) begun-only (some_text is_begun) refl refl

pub as-event : (refusal : EventRefusal) → IsNoneOfNew 1 false begins (refused_as_event refusal)
as-event refusal = by-test 1 false begins begun_report (refused_as_event refusal) begun-only (some_text is_begun) refl refl

pub another : (text : Text) → IsNoneOfNew 1 false begins (with_another text)
another text = by-test 1 false begins begun_report (with_another text) begun-only (are 5) refl refl

pub another-ended : (text : Text) → IsNoneOfNew 1 false begins (ended_with_another text)
another-ended text = by-test 1 false begins begun_report (ended_with_another text) begun-only (are 5) refl refl

pub nobodys-commit : IsNoneOfNew 1 false begins commit_of_nobody
nobodys-commit = by-test 1 false begins begun_report commit_of_nobody begun-only (are 5) refl refl

pub later : IsNoneOfNew 1 false settles_twice answered_later
later = by-test 1 false settles_twice begun_report answered_later settled-only (λ lines. list_any (λ (l : Line). is_at 2 l.when) lines) refl refl

pub at-once : IsNoneOfNew 1 false begins answered_at_once
at-once = by-test 1 false begins begun_report answered_at_once begun-only (λ lines. list_any (λ (l : Line). is_at 2 l.when) lines) refl refl

pub skipped : IsNoneOfNew 1 false begins epoch_skipped
skipped = by-test 1 false begins begun_report epoch_skipped begun-only (some_text (comes_up 0 2)) refl refl

-- ---- two clients

pub for-two : IsNoneOfNew 1 false two_begin one_for_two
for-two = by-test 1 false two_begin two_report one_for_two two-only (some_text (begins_at 1)) refl refl

pub aborted-another : IsNoneOfNew 1 false two_begin aborted_for_another
aborted-another = by-test 1 false two_begin two_report aborted_for_another two-only (some_text (aborts_at 0)) refl refl

pub committed-another : IsNoneOfNew 1 false two_begin committed_for_another
committed-another = by-test 1 false two_begin two_report committed_for_another two-only (some_text (aborts_at 0)) refl refl

-- ---- the others

pub other-server : IsNoneOfNew 2 false opens_other opened_another
other-server = by-test 2 false opens_other opened_report opened_another opened-only (some_text (opens_at 1)) refl refl

pub other-downs : IsNoneOfNew 2 false opens_other downs_swapped
other-downs = by-test 2 false opens_other opened_report downs_swapped opened-only (λ lines. says_at (goes_down 0) (slice_get lines 4)) refl refl

pub other-ups : IsNoneOfNew 2 false opens_other ups_swapped
other-ups = by-test 2 false opens_other opened_report ups_swapped opened-only (λ lines. says_at (comes_up 0 2) (slice_get lines 6)) refl refl

pub other-bytes : IsNoneOfNew 1 false reads_and_aborts read_otherwise
unfolding zeros block_of
other-bytes = by-test 1 false reads_and_aborts read_report read_otherwise read-only (some_text reads_zero) refl refl

pub shown-more : (text : Text) → IsNoneOfNew 1 false shows_unmade (show_tells text)
shown-more text = by-test 1 false shows_unmade shown_report (show_tells text) shown-only (are 7) refl refl

pub swapped : IsNoneOfNew 1 true begins messages_swapped
swapped = by-test 1 true begins traced_report messages_swapped traced-only (λ lines. says_at (is_number 0) (slice_get lines 1)) refl refl

pub too-soon-thanked : IsNoneOfNew 1 true begins_and_aborts thanked_too_soon
too-soon-thanked = by-test 1 true begins_and_aborts aborted_report thanked_too_soon aborted-only (λ lines. says_at (aborts_at 0) (slice_get lines 6)) refl refl
