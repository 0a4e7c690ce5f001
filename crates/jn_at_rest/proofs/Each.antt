-- Every whole run has its settles, and each settles.
use Rattle.jn_at_rest.proofs.Common.{◌≡◌, ◌≤◌, List, [], ◌∷◌, ◌++◌, map, Some, sym, ◌∙◌, ap, Event, Setup, Task, Begins, Rests, CutShort, CountsCommits, first_of_tasks, Devices, servers_of, settling, ending, printing, Moment, stays, forget, ComesThrough, Line, AtEnd, before, IsWhole, HasSettle, HasSettled, SettleEach}
use Rattle.jn_bounds.proofs.Whole.{has-its-settles}
use Rattle.jn_at_rest.proofs.Behind.{behind-event, behind-end}
use Rattle.jn_at_rest.proofs.Whole.{settles}

module _ (x : Setup) (schedule : List Event) (images closing : Devices) (lines : List Line) (few : x.servers ≤ 8) (run : IsWhole x schedule images closing lines) where
  abbrev start : Moment
  start = record { state = before x schedule run.written.files run.written.epochs; devices = images }

  has-settled : (behind : List Task) → (first_of_tasks behind ≡ Some Rests → ⊥) → HasSettle x start run.last behind → HasSettled x start run.last behind
  has-settled behind no_rest h = record {
    first = h.first;
    last = h.is_over.last;
    leads = h.leads;
    comes = comes;
    goes_on = h.is_over.goes_on;
    settles = λ up. settles x behind h.is_over.last few schedule images h.first (record { files = run.written.files; epochs = run.written.epochs; are_images = run.written.are_images; leads = h.leads }) comes up;
  }
    where
      not-cut : AtEnd ≡ CutShort → ⊥
      not-cut e = cc

      comes : ComesThrough x (settling x) behind h.first h.is_over.last
      comes = record {
        begins = h.is_over.settles.begins;
        leads = forget x behind h.first h.is_over.last h.is_over.settles.steps;
        ends = h.is_over.tasks;
        no_rest = no_rest;
        whole = λ cut. not-cut (sym run.stage ∙ ap (λ (m : Moment). m.state.stage) (stays x h.is_over.last run.last h.is_over.goes_on cut) ∙ cut);
      }

  pub settle-each : SettleEach x schedule start run.last
  settle-each = let h = has-its-settles x schedule images closing lines few run in record {
    of_events = λ earlier later e. has-settled (map Begins later ++ ending x) (behind-event x later) (h.of_events earlier later e);
    of_end = has-settled (printing (servers_of x) ++ CountsCommits ∷ []) (behind-end x) h.of_end;
  }
