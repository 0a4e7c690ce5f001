use Rattle.std.proofs.Common.{refl, ◌∙◌, arith}
use Rattle.jn_store.specs.Store.{StoreView}
use Rattle.jn_node.proofs.Following.{goes-nowhere, goes-then, same-then}
use Rattle.jn_node.proofs.Measures.{no-more}
use Rattle.jn_node.proofs.node.Node.carry_out.Goals as goal

pub loop-init : goal.loop-init
loop-init g c =
    let look : g.row.S.Denot → StoreView = λ s. g.S.StableStore.view s in
    record { runs = c.requires.runs; goes = goes-nowhere look c.args.self.now; left = omega arith; tickets = refl; same = (refl, refl) }

pub loop-smaller : goal.loop-smaller
loop-smaller g c = let e = c.in_ok-carries_on.ensures in e.less c.if-branch.true

pub loop-preserved : goal.loop-preserved
loop-preserved g c =
    let look : g.row.S.Denot → StoreView = λ s. g.S.StableStore.view s in
    let e = c.in_ok-carries_on.ensures in
    let h = c.loop.invariant in
    record {
      runs = e.runs;
      goes = goes-then look c.args.self.now c.loop.self c.carries_on.new.self h.same h.goes e.goes;
      left = no-more _ _ _ e.left h.left;
      tickets = e.tickets ∙ h.tickets;
      same = same-then c.args.self.now c.loop.self c.carries_on.new.self h.same e.same;
    }

pub returns-clause-goes : goal.returns-clause-goes
returns-clause-goes g c =
    let look : g.row.S.Denot → StoreView = λ s. g.S.StableStore.view s in
    let e = c.in_ok-carries_on.ensures in
    let h = c.loop.invariant in
    goes-then look c.args.self.now c.loop.self c.carries_on.new.self h.same h.goes e.goes

pub returns-clause-left : goal.returns-clause-left
returns-clause-left g c = let e = c.in_ok-carries_on.ensures in no-more _ _ _ e.left c.loop.invariant.left

pub returns-clause-rests : goal.returns-clause-rests
returns-clause-rests g c = let e = c.in_ok-carries_on.ensures in e.rests c.if-branch.false

pub returns-clause-tickets : goal.returns-clause-tickets
returns-clause-tickets g c = let e = c.in_ok-carries_on.ensures in e.tickets ∙ c.loop.invariant.tickets
