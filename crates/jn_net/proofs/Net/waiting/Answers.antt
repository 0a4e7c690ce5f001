use Rattle.std.proofs.Common.{arith}
use Rattle.jn_net.proofs.Waiting.{some_waits, none_waits}
use Rattle.jn_net.proofs.Net.waiting.Goals as goal

pub returns-then-self-len : goal.returns-then-self-len
returns-then-self-len c =
    let s = c.self.inside in
    rw (← c.self.view_is) (some_waits s.forgotten s.cursor s.sent.items c.self.invariant.1 (omega (arith, s.sent.ok.0)))

pub returns-else-self-len : goal.returns-else-self-len
returns-else-self-len c =
    let s = c.self.inside in
    rw (← c.self.view_is) (none_waits s.forgotten s.cursor s.sent.items c.self.invariant.1 (omega (arith, s.sent.ok.0)))
