use Rattle.jn_worker.proofs.Common.{Memory, ◌≡◌, ap, subst, sym, ◌∙◌, Some, true, false, ◌⊎◌, inl, inr, work_eq, LocksMatch, match_released, table, is_in, WorkRemoved, is_stored}
use Rattle.jn_worker.proofs.Exits.{handed_on, nothing_done}
use Rattle.jn_rows.specs.Worker as rows
use Rattle.jn_worker.proofs.Decided.{drop_made, drop_kept}
use Rattle.jn_worker.proofs.worker.Worker.drop_work.Goals.{then-is_prepared+in_ok-drop_ready, else-is_prepared}
use Rattle.jn_worker.proofs.worker.Worker.drop_work.Goals as goal

pub invariant_of-self : goal.invariant_of-self
invariant_of-self g c = subst (λ ws. LocksMatch ws (table c.release.new.self)) (sym c.remove.ensures) (match_released c.args.name c.self.inside.works.items (table c.self.inside.locks) (table c.release.new.self) c.self.invariant c.release.ensures)

pub returns : goal.returns
returns g c =
    let at : rows.work_at c.args.name c.self.inside.works.items ≡ Some c.in-Some.work.now = subst (λ ws. rows.work_at c.args.name ws ≡ Some c.in-Some.work.now) c.deref.ensures.value c.in-Some.ensures in
    let out : is_in work_eq c.args.name c.self.inside.going.items ≡ false = subst (λ gs. is_in work_eq c.args.name gs ≡ false) c.deref-2.ensures.value (sym c.is_in.ensures ∙ c.if-is_in.false) in
    let how : ((is_stored c.in-Some.work.now.phase ≡ true) × WorkRemoved (g.W.Storage.view c.args.store.now) c.args.name true (g.W.Storage.view c.if-is_prepared.store)) ⊎ ((is_stored c.in-Some.work.now.phase ≡ false) × (g.W.Storage.view c.if-is_prepared.store ≡ g.W.Storage.view c.args.store.now)) = elim c.if-is_prepared.branch [
      | then-is_prepared+in_ok-drop_ready w ↦ inl (sym c.is_prepared.ensures ∙ w.if-is_prepared.true, subst (λ s. WorkRemoved (g.W.Storage.view c.args.store.now) c.args.name true (g.W.Storage.view s)) (sym w.store-is) w.in_ok-drop_ready.ensures.removed)
      | else-is_prepared w ↦ inr (sym c.is_prepared.ensures ∙ w.if-is_prepared.false, ap (λ s. g.W.Storage.view s) w.store-is)
    ] in
    record {
      kept = λ k. drop_kept _ _ c.self.inside.going.items (g.W.Storage.view c.args.store.now) (g.W.Storage.view c.if-is_prepared.store) k _ _ c.self.view_is c.requires.fits at out (elim how [ inl p ↦ inl p.0 | inr p ↦ inr p.1 ]);
      takes = λ k. drop_made _ _ _ c.self.inside.going.items _ _ _ k _ _ c.self.view_is c.requires.fits c.self.invariant.rising at out how c.remove.ensures;
    }

pub returns-in_err-note-clause-takes : goal.returns-in_err-note-clause-takes
returns-in_err-note-clause-takes g c = λ k. nothing_done _ _ _ _ _ _ _ _ _ (handed_on _ Memory c.from_residual.ensures) c.requires.fits.serving

pub returns-in_err-note-2-clause-takes : goal.returns-in_err-note-2-clause-takes
returns-in_err-note-2-clause-takes g c = λ k. nothing_done _ _ _ _ _ _ _ _ _ (handed_on _ Memory c.from_residual-in_err-note-2.ensures) c.requires.fits.serving
