-- A timeout.
use Rattle.jn_worker.proofs.Common.{◌≡◌, true, List, Some, sym, ◌∙◌, ap, subst, Tid, WorkId, Work, work_of, with_phase, vulnerable, timed_out, LocksMatch, are_rising, match_exposed, Table, Exposes, WorkerView, Fits, TicketsFit, rephased, TimesOut, rephased-is}
use Rattle.jn_worker.proofs.Edits.{found_by_name}
use Rattle.jn_worker.proofs.Fit.{fits_vulnerable, tickets_phase}

exposed : (T : Tid) (ws after : List Work) (w : Work) → are_rising ws ≡ true → work_of T ws ≡ Some w → after ≡ rephased w.name vulnerable ws → after ≡ with_phase w.name (vulnerable w.phase) ws
exposed T ws after w rising of is = is ∙ rephased-is w.name vulnerable ws w (found_by_name T ws w rising of)

pub timeout_matches : (T : Tid) (ws after : List Work) (w : Work) (l m : Table) → LocksMatch ws l → work_of T ws ≡ Some w → after ≡ rephased w.name vulnerable ws → Exposes l w.name m → LocksMatch after m
timeout_matches T ws after w l m h of is e = subst (λ ws. LocksMatch ws m) (sym (exposed T ws after w h.rising of is)) (match_exposed w.name ws w l m h (found_by_name T ws w h.rising of) e)

pub timeout_made : (T : Tid) (t : WorkerView) (ws after : List Work) (gs : List WorkId) (w : Work) → record { table = ws; going = gs } ≡ t → are_rising ws ≡ true → work_of T ws ≡ Some w → after ≡ rephased w.name vulnerable ws
    → TimesOut T t true (record { table = after; going = gs })
timeout_made T t ws after gs w e rising of is = subst (λ (t : WorkerView). TimesOut T t true (record { table = after; going = gs })) e (record {
  row = ap (λ o. timed_out ws o) of ∙ ap (λ l. Some l) (sym now);
  same = λ e. absurd (cc e);
  fits = λ v h. subst (λ l. Fits (record { table = l; going = gs }) v) (sym now) (fits_vulnerable (record { table = ws; going = gs }) v w.name w h (found_by_name T ws w rising of));
  tickets_fit = λ v k h. subst (λ l. TicketsFit l v k) (sym now) (tickets_phase ws v w.name (vulnerable w.phase) k h);
})
  where
    now : after ≡ with_phase w.name (vulnerable w.phase) ws
    now = exposed T ws after w rising of is
