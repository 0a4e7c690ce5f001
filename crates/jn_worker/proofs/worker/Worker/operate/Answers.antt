use Rattle.jn_worker.proofs.Common.{Memory, sym, ◌∙◌}
use Rattle.jn_worker.proofs.Exits.{handed_on, nothing_done}
use Rattle.jn_worker.proofs.worker.Worker.operate.Goals as goal

pub repeat-requires-clause-other : goal.repeat-requires-clause-other
repeat-requires-clause-other g c = λ T a i. sym (c.is_next.ensures T a i) ∙ c.if-not-is_next.true

pub returns-in-Some-clause-takes : goal.returns-in-Some-clause-takes
returns-in-Some-clause-takes g c = c.perform.ensures.takes (g.W.Storage.view c.args.store.now) c.args.tickets.now c.requires.fits c.requires.range (λ T a i. sym ((rw c.in-Some.is at c.in_ok-known.ensures) T a i))

pub read-requires-clause-unknown : goal.read-requires-clause-unknown
read-requires-clause-unknown g c = λ T a i. (rw c.in-None.is at c.in_ok-known.ensures) T a i

pub returns-in_err-known-clause-takes : goal.returns-in_err-known-clause-takes
returns-in_err-known-clause-takes g c = nothing_done _ _ _ _ _ _ _ _ _ (handed_on _ Memory c.from_residual.ensures) c.requires.fits.serving
