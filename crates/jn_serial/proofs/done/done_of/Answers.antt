use Rattle.jn_serial.proofs.Common.{sym, subst, CallsFit}
use Rattle.jn_serial.proofs.WithCalls.{done_fits, fit_front}
use Rattle.jn_serial.proofs.done.done_of.Goals as goal

pub returns-clause-fit : goal.returns-clause-fit
returns-clause-fit c = fit_front c.loop-i.done.items _ (subst CallsFit (sym c.loop-i.invariant) (done_fits c.args.events.now c.args.lines.now c.args.t))
