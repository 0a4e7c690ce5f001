use Rattle.jn_worker.proofs.Common.{Memory, sym, ◌∙◌}
use Rattle.jn_worker.proofs.Exits.{handed_on, nothing_done}
use Rattle.jn_worker.proofs.Refused.{vote_ignored, vote_told}
use Rattle.jn_worker.proofs.worker.Worker.vote_again.Goals as goal

pub returns-then-is_in : goal.returns-then-is_in
returns-then-is_in c = record {
  takes = λ v d h. vote_ignored c.args.self.now c.self.inside.works.items c.deref.result.now c.self.inside.going.items c.deref-2.result.now v c.args.out.now c.note.new.self c.args.tickets.now c.args.tid d c.args.name c.in-Some.work.now h
      c.self.view_is c.deref.ensures.value c.deref-2.ensures.value c.in-Some.ensures (sym c.is_in.ensures ∙ c.if-is_in.true) c.in_ok-note.ensures;
}

pub returns : goal.returns
returns c = record {
  takes = λ v d h. vote_told c.args.self.now c.self.inside.works.items c.deref.result.now c.self.inside.going.items c.deref-2.result.now v c.args.out.now c.send-2.new.self c.args.tickets.now c.args.tid d c.args.name c.in-Some.work.now c.vote_of-vote.result h
      c.requires.inactive c.self.view_is c.deref.ensures.value c.deref-2.ensures.value c.in-Some.ensures (sym c.is_in.ensures ∙ c.if-is_in.false) c.vote_of-vote.ensures c.in_ok-send-2.ensures;
}

pub returns-in_err-send : goal.returns-in_err-send
returns-in_err-send c = record { takes = λ v cl fits. nothing_done _ _ _ _ _ _ _ _ _ (handed_on _ Memory c.from_residual.ensures) fits.serving }

pub returns-in_err-note : goal.returns-in_err-note
returns-in_err-note c = record { takes = λ v cl fits. nothing_done _ _ _ _ _ _ _ _ _ (handed_on _ Memory c.from_residual-in_err-note.ensures) fits.serving }

pub returns-in_err-send-2 : goal.returns-in_err-send-2
returns-in_err-send-2 c = record { takes = λ v cl fits. nothing_done _ _ _ _ _ _ _ _ _ (handed_on _ Memory c.from_residual-in_err-send-2.ensures) fits.serving }
