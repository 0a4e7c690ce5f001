use Rattle.std.proofs.Common.{◌≤◌, arith, subst, sym}
use Rattle.std.specs.Prelude.{◌+◌}
use Rattle.jn_base.specs.declared.names.Tickets.{Tickets}
use Rattle.jn_store.specs.Store.{StoreView}
use Rattle.jn_node.proofs.Following.{same-then, takes-frame}
use Rattle.jn_node.proofs.Posting.{on-ok}
use Rattle.jn_node.proofs.node.Node.take.Goals as goal

pub settle-requires : goal.settle-requires
settle-requires g c =
    let e = c.in_ok-begin.ensures in
    let most = e.next in
    let room = c.requires.next in
    record { runs = e.runs; next = omega (arith, most, room) }

pub returns : goal.returns
returns g c =
    let look : g.row.S.Denot → StoreView = λ s. g.S.StableStore.view s in
    let n = c.args.self.now in
    let k = c.begin.new.self in
    let m = c.settle.new.self in
    let one = c.in_ok-begin.ensures in
    let two = c.settle.ensures in
    record {
      node = two.node;
      serves = on-ok c.settle.result (λ all. takes-frame look n k m c.args.body.now one.same one.begins all) two.settles;
      next = on-ok c.settle.result (λ same. subst (λ (t : Tickets). t.next ≤ n.running.tickets.next + 1) (sym same) one.next) two.tickets;
      same = same-then n k m one.same two.same;
    }
