use Rattle.jn_store.specs.Store.{StoreView}
use Rattle.jn_node.proofs.Posting.{on-ok, same-node, message-own, handled-work, handled-so, handled-less, handled-next, handled-undrawn}
use Rattle.jn_node.proofs.node.Node.handle.Goals as goal

pub post-requires : goal.post-requires
post-requires g c =
    let look : g.row.S.Denot → StoreView = λ s. g.S.StableStore.view s in
    let n = c.args.self.now in
    let did = c.in_ok-out.ensures in
    record { from_server = message-own look n c.requires.runs c.args.message.now c.in_ok-out.out.messages did.sends }

pub returns : goal.returns
returns g c =
    let look : g.row.S.Denot → StoreView = λ s. g.S.StableStore.view s in
    let n = c.args.self.now in
    let k = c.do_row.new.self in
    let m = c.post.new.self in
    let message = c.args.message.now in
    let messages = c.in_ok-out.out.messages in
    let did = c.in_ok-out.ensures in
    let e = c.post.ensures in
    record {
      runs = on-ok c.post.result (λ posts. handled-work look n k m did.others e.others c.requires.runs message c.requires.near messages did.sends did.runs did.taken posts) e.posts;
      handles = on-ok c.post.result (λ posts. handled-so look n k m did.others e.others c.requires.runs message c.requires.near messages did.sends did.runs did.taken posts) e.posts;
      less = λ own. on-ok c.post.result (λ posts. handled-less look n k m did.others e.others c.requires.runs message c.requires.near messages did.sends did.runs did.taken own posts) e.posts;
      next = on-ok c.post.result (λ posts. handled-next look n k m did.others e.others c.requires.runs message c.requires.near messages did.sends did.runs did.taken) e.posts;
      undrawn = λ none. on-ok c.post.result (λ posts. handled-undrawn look n k m did.others e.others c.requires.runs message c.requires.near messages did.sends did.runs did.taken none) e.posts;
      same = same-node look n k m did.others e.others;
    }
