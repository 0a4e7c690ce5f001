use Rattle.std.proofs.Common.{◌<◌, subst, sym}
use Rattle.std.specs.Prelude.{◌+◌, ◌^◌}
use Rattle.jn_base.specs.declared.names.Tickets.{Tickets}
use Rattle.jn_store.specs.Store.{StoreView}
use Rattle.jn_node.proofs.Following.{same-then}
use Rattle.jn_node.proofs.Resting.{goes-both, less-both, rests-both, tickets-both}
use Rattle.jn_node.proofs.node.Node.goes_on.Goals as goal

pub take_own-requires : goal.take_own-requires
take_own-requires g c = let e = c.in_ok-carry_out.ensures in record { runs = e.runs; next = subst (λ (t : Tickets). t.next + 1 < 2 ^ 32) (sym e.tickets) c.requires.next }

pub returns : goal.returns
returns g c =
    let look : g.row.S.Denot → StoreView = λ s. g.S.StableStore.view s in
    let n = c.args.self.now in
    let k = c.carry_out.new.self in
    let m = c.take_own.new.self in
    let one = c.in_ok-carry_out.ensures in
    let two = c.take_own.ensures in
    record {
      runs = two.runs;
      goes = goes-both look n k m c.take_own.result one.same one.goes two.goes;
      less = less-both look n k m c.take_own.result one.left two.less;
      rests = rests-both look k m c.take_own.result one.rests two.none;
      tickets = tickets-both look n k m c.take_own.result one.tickets two.tickets;
      same = same-then n k m one.same two.same;
    }
