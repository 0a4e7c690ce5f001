use Rattle.jn_store.specs.Store.{StoreView}
use Rattle.jn_node.proofs.Resting.{rests-here, works-here}
use Rattle.jn_node.proofs.node.Node.carries_on.Goals as goal

pub returns-then-not-has_work-clause-rests : goal.returns-then-not-has_work-clause-rests
returns-then-not-has_work-clause-rests g c =
    let look : g.row.S.Denot → StoreView = λ s. g.S.StableStore.view s in
    λ _ _. rests-here look c.args.self.now c.requires.runs c.has_work.result c.has_work.ensures.work c.if-not-has_work.true

pub make_step-requires-clause-work : goal.make_step-requires-clause-work
make_step-requires-clause-work g c =
    let look : g.row.S.Denot → StoreView = λ s. g.S.StableStore.view s in
    works-here look c.args.self.now c.requires.runs c.has_work.result c.has_work.ensures.work c.if-not-has_work.false
