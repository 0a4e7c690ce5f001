use Rattle.jn_worker.proofs.Common.{Memory, ◌≡◌, ◌∷◌, [], ◌++◌, ap, subst, sym, ◌∙◌, Some, true, false, arith, work_eq, is_in, is_stored}
use Rattle.jn_worker.proofs.Exits.{handed_on, nothing_done}
use Rattle.jn_rows.specs.Worker as rows
use Rattle.jn_worker.proofs.Decided.{commit_made, commit_changes}
use Rattle.jn_worker.proofs.worker.Worker.commit.Goals as goal

pub returns : goal.returns
returns g c =
    let at : rows.work_at c.args.name c.self.inside.works.items ≡ Some c.in-Some.work.now = subst (λ ws. rows.work_at c.args.name ws ≡ Some c.in-Some.work.now) c.deref.ensures.value c.in-Some.ensures in
    let stored : is_stored c.in-Some.work.now.phase ≡ true = grind arith in
    let out : is_in work_eq c.args.name c.self.inside.going.items ≡ false = subst (λ gs. is_in work_eq c.args.name gs ≡ false) c.deref-else-not-is_prepared.ensures.value (sym c.is_in.ensures ∙ c.if-is_in.false) in
    record {
      kept = λ k e. absurd (commit_changes _ _ c.self.inside.going.items (g.W.Storage.view c.args.store.now) k _ _ _ c.self.view_is c.requires.fits at stored out e);
      takes = λ k. commit_made _ _ c.self.inside.going.items _ _ _ _ k _ _ _ c.self.view_is c.requires.fits at stored out c.in_ok-mark_going.ensures.marked (c.push_reserved.ensures.items ∙ ap (λ gs. gs ++ c.args.name ∷ []) c.in_ok-reserve.ensures.items);
    }

pub returns-in_err-send-clause-takes : goal.returns-in_err-send-clause-takes
returns-in_err-send-clause-takes g c = λ k. nothing_done _ _ _ _ _ _ _ _ _ (handed_on _ Memory c.from_residual.ensures) c.requires.fits.serving

pub returns-in_err-note-clause-takes : goal.returns-in_err-note-clause-takes
returns-in_err-note-clause-takes g c = λ k. nothing_done _ _ _ _ _ _ _ _ _ (handed_on _ Memory c.from_residual-in_err-note.ensures) c.requires.fits.serving

pub returns-in_err-reserve-clause-takes : goal.returns-in_err-reserve-clause-takes
returns-in_err-reserve-clause-takes g c = λ k. nothing_done _ _ _ _ _ _ _ _ _ (handed_on _ Memory c.from_residual-in_err-reserve.ensures) c.requires.fits.serving
