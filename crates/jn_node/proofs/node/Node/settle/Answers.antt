use Rattle.std.proofs.Common.{refl, ◌∙◌}
use Rattle.jn_store.specs.Store.{StoreView}
use Rattle.jn_node.proofs.Following.{goes-nowhere, goes-then, same-then, settles-all}
use Rattle.jn_node.proofs.node.Node.settle.Goals as goal

pub loop-init : goal.loop-init
loop-init g c =
    let look : g.row.S.Denot → StoreView = λ s. g.S.StableStore.view s in
    record { runs = c.requires.runs; goes = goes-nowhere look c.args.self.now; tickets = refl; same = (refl, refl) }

pub loop-smaller : goal.loop-smaller
loop-smaller g c = let e = c.in_ok-goes_on.ensures in e.less c.if-branch.true

pub loop-preserved : goal.loop-preserved
loop-preserved g c =
    let look : g.row.S.Denot → StoreView = λ s. g.S.StableStore.view s in
    let e = c.in_ok-goes_on.ensures in
    let h = c.loop.invariant in
    record {
      runs = e.runs;
      goes = goes-then look c.args.self.now c.loop.self c.goes_on.new.self h.same h.goes e.goes;
      tickets = e.tickets ∙ h.tickets;
      same = same-then c.args.self.now c.loop.self c.goes_on.new.self h.same e.same;
    }

pub returns-clause-node : goal.returns-clause-node
returns-clause-node g c = let e = c.in_ok-goes_on.ensures in let rest = e.rests c.if-branch.false in record { runs = e.runs.runs; rests = rest.own }

pub returns-clause-settles : goal.returns-clause-settles
returns-clause-settles g c =
    let look : g.row.S.Denot → StoreView = λ s. g.S.StableStore.view s in
    let e = c.in_ok-goes_on.ensures in
    let h = c.loop.invariant in
    let m = c.goes_on.new.self in
    settles-all look c.args.self.now m (same-then c.args.self.now c.loop.self m h.same e.same) (goes-then look c.args.self.now c.loop.self m h.same h.goes e.goes) (e.rests c.if-branch.false)
