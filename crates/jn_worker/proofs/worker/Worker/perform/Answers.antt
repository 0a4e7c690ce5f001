use Rattle.jn_worker.proofs.Common.{Memory, ◌+◌, ◌∙◌, ap, Err, subst, Settles}
use Rattle.jn_worker.proofs.Exits.{handed_on, nothing_done}
use Rattle.jn_worker.proofs.Voted.{found_active}
use Rattle.jn_worker.proofs.Does.{nat_same, perform_told}
use Rattle.jn_worker.proofs.worker.Worker.perform.Goals as goal

pub returns : goal.returns
returns c = record {
  takes = λ v k h range is. let f = found_active c.args.self.now.table c.args.name c.requires.active in
      perform_told c.args.self.now v k (record { client = c.args.client; request = c.args.request; number = c.args.number; op = c.args.op.now }) c.args.name c.args.answer f.0 f.1 f.2 c.settle.new.self c.args.out.now c.settle.new.out c.send.new.self c.in_ok-refusal.refusal c.told-told.result h range (c.requires.next f.0 f.1 f.2)
      (nat_same c.args.number.0 (f.1.last + 1) (c.requires.next f.0 f.1 f.2)) (is f.0 f.1 f.2) (subst (λ x. Settles c.args.self.now f.0 c.args.name f.1 c.args.op.now x c.in_ok-refusal.refusal c.args.out.now c.settle.new.self c.settle.new.out) c.in_ok-kept.ensures (c.in_ok-refusal.ensures.settled f.0 f.1 f.2 (c.requires.next f.0 f.1 f.2))) c.told-told.ensures c.in_ok-send.ensures;
}

pub returns-in_err-kept : goal.returns-in_err-kept
returns-in_err-kept c = record { takes = λ v k fits range is. nothing_done _ _ _ _ _ _ _ _ _ (handed_on _ Memory c.from_residual.ensures) fits.serving }

pub returns-in_err-refusal : goal.returns-in_err-refusal
returns-in_err-refusal c = record { takes = λ v k fits range is. nothing_done _ _ _ _ _ _ _ _ _ (handed_on _ c.in_err-refusal.field-0.0 c.from_residual-in_err-refusal.ensures ∙ ap (λ e. Err e) c.in_err-refusal.ensures.memory) fits.serving }

pub returns-in_err-send : goal.returns-in_err-send
returns-in_err-send c = record { takes = λ v k fits range is. nothing_done _ _ _ _ _ _ _ _ _ (handed_on _ Memory c.from_residual-in_err-send.ensures) fits.serving }
