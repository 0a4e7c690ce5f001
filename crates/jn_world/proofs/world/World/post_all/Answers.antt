use Rattle.jn_world.proofs.Common.{message_texts, traced, lines_at, standing_of, World, Standing, Bool, ◌++◌, ◌∷◌, [], length, ap, ◌∙◌}
use Rattle.jn_world.proofs.Sending.{sent-then, texts-then}
use Rattle.jn_world.proofs.world.World.post_all.Goals as goal

pub loop-to-preserved : goal.loop-to-preserved
loop-to-preserved g c =
    let h = c.loop-to.invariant in
    let e = c.in_ok-post.ensures in
    let from = c.args.from in
    let first = standing_of c.args.self.now in
    let now = standing_of c.loop-to.self in
    let more = (c.in-Some.to, c.in-Some.message) ∷ [] in
    let stands = sent-then from first now (standing_of c.post.new.self) c.loop-to.yielded more h.stands e.ends.0 in
    let same = ap (λ (w : World g.row.S.Denot). w.trace) h.others in
    record {
      others = e.others ∙ ap (λ (w : World g.row.S.Denot). record w { net = c.post.new.self.net }) h.others;
      sent = ap (λ (v : Standing g.row.S.Denot). v.net.sent) stands;
      limit = e.limit;
      stands = stands;
      told = texts-then c.args.when from c.args.self.now.trace first now c.args.told.now.items c.loop-to.told.items c.post.new.told.items c.loop-to.yielded more h.stands h.told
          (e.ends.1 ∙ ap (λ (t : Bool). c.loop-to.told.items ++ lines_at c.args.when (traced t (message_texts from (length now.net.sent) more))) same);
    }
