use Rattle.std.proofs.Common.{List, ap}
use Rattle.jn_net.specs.declared.Sent.{Sent}
use Rattle.jn_net.specs.Carried.{Carried}
use Rattle.jn_net.proofs.Waiting.{with_delivered_is}
use Rattle.jn_net.proofs.Net.delivered.Goals as goal

pub returns : goal.returns
returns c =
    let s = c.self.inside in
    let made : List Sent → Carried = λ (l : List Sent). record { sent = l; forgotten = s.forgotten } in
    rw (← c.self.view_is) (ap made (with_delivered_is c.args.k s.sent.items c.index_mut-m.result.now (rw (← c.self.view_is) at c.requires) c.index_mut-m.ensures.value))
