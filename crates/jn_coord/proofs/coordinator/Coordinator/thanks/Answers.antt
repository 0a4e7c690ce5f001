use Rattle.jn_coord.proofs.Common.{sym, ◌∙◌, ap, option_copied, table_of}
use Rattle.jn_rows.specs.Coordinator as rows
use Rattle.jn_coord.proofs.Rows.{works-found, aborted-gone, known-now}
use Rattle.jn_coord.proofs.coordinator.Coordinator.thanks.Goals as goal

pub returns-then-is_aborted : goal.returns-then-is_aborted
returns-then-is_aborted g c = λ k. aborted-gone _ _ _ c.args.tid k c.in-Some.x.now _ c.requires.fits (sym c.find.ensures ∙ ap option_copied c.in-Some.is) (sym c.is_aborted.ensures ∙ c.if-is_aborted.true) c.remove.ensures

pub settle-requires-clause-same : goal.settle-requires-clause-same
settle-requires-clause-same g c = rw c.in_ok-known.ensures.ok (works-found c.args.tid _ c.in-Some.x.now c.in-Committed.d (sym c.find.ensures ∙ ap option_copied c.in-Some.is) c.in-Committed.is)

pub returns : goal.returns
returns g c = λ k. rw (known-now (table_of c.args.self.now) c.args.tid k _ c.in-Some.x.now c.in-Committed.d (sym c.find.ensures ∙ ap option_copied c.in-Some.is) c.in-Committed.is c.if-d.false ∙ sym (ap (rows.forget_row (table_of c.args.self.now) k c.args.tid) c.in_ok-known.ensures.ok)) (c.settle.ensures k c.args.out.now)
