-- What each rule says of the whole report.
use Rattle.jn_judged.proofs.Common.{List, arith, ◌↔◌, AllFiles, Event, Line, Agrees, Told, Caused, Follows, breaks_outcomes, breaks_causes, breaks_following, breaks_order, BreaksOrder, BreaksOutcomes, BreaksCauses, BreaksFollowing, Keeps, IsFaultless, KeepsAll}
use Rattle.jn_judged.proofs.Faults.{keeps-to, keeps-from, one-of}
use Rattle.jn_judged.proofs.Order.{agrees-by-lines}
use Rattle.jn_judged.proofs.Shows.{shows-kept}
use Rattle.jn_judged.proofs.Outcomes.{told-by-lines}
use Rattle.jn_judged.proofs.Causes.{caused-by-lines}
use Rattle.jn_judged.proofs.Following.{follows-by-lines}

pub order-kept : (files : AllFiles) (es : List Event) (lines : List Line) → Keeps files es lines 10 ↔ Agrees files es lines
order-kept files es lines = (
  λ h. (agrees-by-lines files es lines).0 (keeps-to files es lines (breaks_order files es) 10 (λ before l after b. BreaksOrder b) h),
  λ h. keeps-from files es lines 10 ((agrees-by-lines files es lines).1 h) (λ e. absurd (omega (arith, e))),
)

pub outcomes-kept : (files : AllFiles) (es : List Event) (lines : List Line) → Keeps files es lines 12 ↔ Told lines
outcomes-kept files es lines = (
  λ h. (told-by-lines lines).0 (keeps-to files es lines breaks_outcomes 12 (λ before l after b. BreaksOutcomes b) h),
  λ h. keeps-from files es lines 12 ((told-by-lines lines).1 h) (λ e. absurd (omega (arith, e))),
)

pub causes-kept : (files : AllFiles) (es : List Event) (lines : List Line) → Keeps files es lines 13 ↔ Caused es lines
causes-kept files es lines = (
  λ h. (caused-by-lines es lines).0 (keeps-to files es lines (breaks_causes es) 13 (λ before l after b. BreaksCauses b) h),
  λ h. keeps-from files es lines 13 ((caused-by-lines es lines).1 h) (λ e. absurd (omega (arith, e))),
)

pub answers-follow : (files : AllFiles) (es : List Event) (lines : List Line) → Keeps files es lines 14 ↔ Follows es lines
answers-follow files es lines = (
  λ h. (follows-by-lines es lines).0 (keeps-to files es lines (breaks_following es) 14 (λ before l after b. BreaksFollowing b) h),
  λ h. keeps-from files es lines 14 ((follows-by-lines es lines).1 h) (λ e. absurd (omega (arith, e))),
)

pub all-kept : (files : AllFiles) (es : List Event) (lines : List Line) → IsFaultless files es lines ↔ KeepsAll files es lines
all-kept files es lines = (to, from)
  where
    to : IsFaultless files es lines → KeepsAll files es lines
    to h = let shows = (shows-kept files es lines).0 (λ line. h line 11) in record {
      agrees = (order-kept files es lines).0 (λ line. h line 10);
      shown = shows.0;
      told = (outcomes-kept files es lines).0 (λ line. h line 12);
      caused = (causes-kept files es lines).0 (λ line. h line 13);
      follows = (answers-follow files es lines).0 (λ line. h line 14);
      counts = shows.1;
    }

    from : KeepsAll files es lines → IsFaultless files es lines
    from h line rule fault = one-of files es lines line rule fault
        ((order-kept files es lines).1 h.agrees) ((shows-kept files es lines).1 (h.shown, h.counts)) ((outcomes-kept files es lines).1 h.told)
        ((causes-kept files es lines).1 h.caused) ((answers-follow files es lines).1 h.follows)
