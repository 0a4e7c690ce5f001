use Rattle.jn_worker.proofs.Common.{Memory, arith}
use Rattle.jn_worker.proofs.Exits.{handed_on, nothing_done}
use Rattle.jn_worker.proofs.Opened.{open_here}
use Rattle.jn_worker.proofs.worker.Worker.open.Goals as goal

pub returns : goal.returns
returns c = record { takes = λ v h f. open_here _ c.self.inside.works.items _ _ c.self.inside.going.items v _ _ _ _ _ c.args.tid _ _ c.self.view_is c.deref.ensures.value c.in_default.ensures (omega (arith, c.len.ensures, c.self.inside.works.ok.0)) c.if-len-ge-MOST_WORKS.false c.name_from-name.ensures c.in_ok-open_work.ensures.opened c.in_ok-send-3.ensures h f }

pub returns-in_err-send : goal.returns-in_err-send
returns-in_err-send c = record { takes = λ v fits tickets. nothing_done _ _ _ _ _ _ _ _ _ (handed_on _ Memory c.from_residual.ensures) fits.serving }

pub returns-in_err-send-2 : goal.returns-in_err-send-2
returns-in_err-send-2 c = record { takes = λ v fits tickets. nothing_done _ _ _ _ _ _ _ _ _ (handed_on _ Memory c.from_residual-in_err-send-2.ensures) fits.serving }

pub returns-in_err-open_work : goal.returns-in_err-open_work
returns-in_err-open_work c = record { takes = λ v fits tickets. nothing_done _ _ _ _ _ _ _ _ _ (handed_on _ Memory c.from_residual-in_err-open_work.ensures) fits.serving }

pub returns-in_err-send-3 : goal.returns-in_err-send-3
returns-in_err-send-3 c = record { takes = λ v fits tickets. nothing_done _ _ _ _ _ _ _ _ _ (handed_on _ Memory c.from_residual-in_err-send-3.ensures) fits.serving }
