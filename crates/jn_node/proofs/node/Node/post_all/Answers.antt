use Rattle.std.proofs.Common.{ap, ◌∙◌, ◌∷◌, []}
use Rattle.std.proofs.lemmas.Iterator.Adapters.{YieldsList-from_vec}
use Rattle.std.proofs.lemmas.Iterator.Consumers.{YieldsList-turn}
use Rattle.jn_node.specs.declared.node.Node.{Node}
use Rattle.jn_node.proofs.Sending.{from-server-at, posts-then}
use Rattle.jn_node.proofs.node.Node.post_all.Goals as goal

pub send-requires : goal.send-requires
send-requires g c =
    let xs = c.args.messages.items in
    let gives = c.into_iter-to-iterator.ensures.into_iter_gives in
    let long = c.args.messages.ok.0 in
    let t = YieldsList-turn (YieldsList-from_vec {s = c.into_iter-to-iterator.result} xs (cc) (cc)) c.loop-to.yielded c.loop-to.to-iterator c.loop-to.yielded_by c.next.result c.next.new.self (c.in-Some.to, c.in-Some.message) c.in-Some.is c.next.ensures.steps in
    record { from_server = from-server-at xs _ (c.in-Some.to, c.in-Some.message) c.requires.from_server t.0 t.1 }

pub loop-to-preserved : goal.loop-to-preserved
loop-to-preserved g c =
    let h = c.loop-to.invariant in
    let e = c.in_ok-send.ensures in
    record {
      others = e.others ∙ ap (λ (w : Node g.row.S.Denot). record w { own = c.send.new.self.own; answers = c.send.new.self.answers }) h.others;
      posts = posts-then c.args.self.now c.loop-to.self c.send.new.self c.loop-to.yielded ((c.in-Some.to, c.in-Some.message) ∷ []) (ap (λ (w : Node g.row.S.Denot). w.server) h.others) h.posts e.posts;
    }
