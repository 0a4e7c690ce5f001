use Rattle.jn_server.specs.Remaining.{steps_left}
use Rattle.jn_store.specs.Store.{StoreView}
use Rattle.jn_node.proofs.Posting.{on-ok, any-ok, same-node, steps-here, step-from, made-work, made-so, made-left, made-tickets}
use Rattle.jn_node.specs.Nodes.{running_at, view_at}
use Rattle.jn_node.proofs.node.Node.make_step.Goals as goal

pub post-requires : goal.post-requires
post-requires g c =
    let look : g.row.S.Denot → StoreView = λ s. g.S.StableStore.view s in
    let did = c.in_ok-out.ensures in
    record { from_server = step-from look c.args.self.now c.requires.runs c.in_ok-out.out.messages (running_at look c.do_step.new.self) did.works }

pub returns : goal.returns
returns g c =
    let look : g.row.S.Denot → StoreView = λ s. g.S.StableStore.view s in
    let n = c.args.self.now in
    let k = c.do_step.new.self in
    let m = c.post.new.self in
    let messages = c.in_ok-out.out.messages in
    let did = c.in_ok-out.ensures in
    let e = c.post.ensures in
    record {
      runs = on-ok c.post.result (λ posts. made-work look n k m did.others e.others c.requires.runs c.requires.none messages did.runs did.works posts) e.posts;
      goes = on-ok c.post.result (λ posts. made-so look n k m did.others e.others c.requires.runs c.requires.none messages did.runs did.works posts) e.posts;
      left = on-ok c.post.result (λ posts. made-left look n k m did.others e.others c.requires.runs c.requires.none messages did.runs did.works posts) e.posts;
      less = any-ok c.post.result (steps-here look n k m did.others e.others (steps_left (view_at look n)) did.less);
      tickets = any-ok c.post.result (made-tickets look n k m did.others e.others c.requires.runs c.requires.none messages did.runs did.works);
      same = same-node look n k m did.others e.others;
    }
