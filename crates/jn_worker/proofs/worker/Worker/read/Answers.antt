use Rattle.jn_worker.proofs.Common.{refl, sym, ◌∙◌, ap, true≢false, is_ok, Answer, Memory}
use Rattle.jn_worker.proofs.Exits.{handed_on}
use Rattle.jn_worker.proofs.Fetched.{read_failed, read_told, quiet_read}
use Rattle.jn_worker.proofs.Voted.{found_active}
use Rattle.jn_worker.proofs.worker.Worker.read.Goals as goal

pub returns-in_err-answer : goal.returns-in_err-answer
returns-in_err-answer g c = let f = found_active c.args.self.now.table c.args.name c.requires.active in record {
  takes = λ k. read_failed Answer c.from_residual.result c.in_err-answer.field-0.0 _ c.args.self.now c.settle_read.new.self (g.W.Storage.view c.args.store.now) (g.W.Storage.view c.settle_read.new.store) c.args.out.now c.settle_read.new.out k k _ (handed_on _ c.in_err-answer.field-0.0 c.from_residual.ensures)
      (c.in_err-answer.ensures.reads f.0 f.1 f.2) c.in_err-answer.ensures.silent;
  asks = quiet_read c.args.self.now.table (g.W.Storage.view c.args.store.now) (g.W.Storage.view c.settle_read.new.store) f.0 c.args.name f.1 c.args.op.now c.args.number _ f.2 (c.requires.next f.0 f.1 f.2) (c.in_err-answer.ensures.reads f.0 f.1 f.2);
  same = λ e. absurd (true≢false (sym e ∙ ap is_ok (handed_on _ c.in_err-answer.field-0.0 c.from_residual.ensures)));
}

pub returns-in_err-send : goal.returns-in_err-send
returns-in_err-send g c = let f = found_active c.args.self.now.table c.args.name c.requires.active in record {
  takes = λ k. read_failed Answer c.from_residual-in_err-send.result Memory _ c.args.self.now c.settle_read.new.self (g.W.Storage.view c.args.store.now) (g.W.Storage.view c.settle_read.new.store) c.args.out.now c.send.new.self k k _ (handed_on _ Memory c.from_residual-in_err-send.ensures)
      (c.in_ok-answer.ensures.reads f.0 f.1 f.2) (λ e. absurd (cc e));
  asks = quiet_read c.args.self.now.table (g.W.Storage.view c.args.store.now) (g.W.Storage.view c.settle_read.new.store) f.0 c.args.name f.1 c.args.op.now c.args.number _ f.2 (c.requires.next f.0 f.1 f.2) (c.in_ok-answer.ensures.reads f.0 f.1 f.2);
  same = λ e. absurd (true≢false (sym e ∙ ap is_ok (handed_on _ Memory c.from_residual-in_err-send.ensures)));
}

pub returns : goal.returns
returns g c = let f = found_active c.args.self.now.table c.args.name c.requires.active in record {
  takes = λ k. read_told c.args.self.now c.settle_read.new.self (g.W.Storage.view c.args.store.now) (g.W.Storage.view c.settle_read.new.store) k (record { client = c.args.client; request = c.args.request; number = c.args.number; op = c.args.op.now }) f.0 c.args.name f.1 c.in_ok-answer.answer c.args.out.now c.settle_read.new.out c.send.new.self _ f.2
      c.requires.fits c.requires.range (c.requires.next f.0 f.1 f.2) (c.in_ok-answer.ensures.settled f.0 f.1 f.2) (c.in_ok-answer.ensures.reads f.0 f.1 f.2) c.in_ok-send.ensures;
  asks = quiet_read c.args.self.now.table (g.W.Storage.view c.args.store.now) (g.W.Storage.view c.settle_read.new.store) f.0 c.args.name f.1 c.args.op.now c.args.number _ f.2 (c.requires.next f.0 f.1 f.2) (c.in_ok-answer.ensures.reads f.0 f.1 f.2);
  same = λ _. (c.in_ok-answer.ensures.reads f.0 f.1 f.2).same refl;
}
