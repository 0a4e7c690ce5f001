use Rattle.jn_worker.proofs.Common.{Memory, Some, None, refl, sym, ◌∙◌, ap}
use Rattle.jn_worker.proofs.Exits.{handed_on, nothing_done}
use Rattle.jn_worker.proofs.Repeated.{repeat_told, repeat_ignored}
use Rattle.jn_worker.proofs.worker.Worker.repeat.Goals as goal

pub returns-in-Some : goal.returns-in-Some
returns-in-Some c = record {
  takes = λ v k op h. repeat_told c.args.self.now v c.args.out.now c.send.new.self k (record { client = c.args.client; request = c.args.request; number = c.args.number; op = op }) c.args.name (Some c.in_ok-again.again) h c.requires.active c.requires.other (λ T a i. ap Some c.in_ok-again.ensures ∙ sym (c.in-Some.ensures T a i)) c.in_ok-again.again refl c.in_ok-send.ensures;
}

pub returns : goal.returns
returns c = record {
  takes = λ v k op h. repeat_ignored c.args.self.now v c.args.out.now c.note.new.self k (record { client = c.args.client; request = c.args.request; number = c.args.number; op = op }) c.args.name None h c.requires.active c.requires.other (λ T a i. sym ((rw c.in_default.is at c.kept_answer.ensures) T a i)) refl c.in_ok-note.ensures;
}

pub returns-in_err-again : goal.returns-in_err-again
returns-in_err-again c = record { takes = λ v k op fits. nothing_done _ _ _ _ _ _ _ _ _ (handed_on _ Memory c.from_residual.ensures) fits.serving }

pub returns-in_err-send : goal.returns-in_err-send
returns-in_err-send c = record { takes = λ v k op fits. nothing_done _ _ _ _ _ _ _ _ _ (handed_on _ Memory c.from_residual-in_err-send.ensures) fits.serving }

pub returns-in_err-note : goal.returns-in_err-note
returns-in_err-note c = record { takes = λ v k op fits. nothing_done _ _ _ _ _ _ _ _ _ (handed_on _ Memory c.from_residual-in_err-note.ensures) fits.serving }
