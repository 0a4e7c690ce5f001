use Rattle.jn_server.proofs.Common.{arith, StoreView, ServerView, view_with, rules, ◌<◌, ◌^◌, BlockNo, number_after, is_of, TellsBlocks}
use Rattle.jn_server.proofs.Pieces.{cut-blocks, handed-on, no-show, no-blocks, more-blocks, all-blocks}
use Rattle.jn_server.proofs.server.Server.show_blocks.Goals as goal

pub loop-block-init : goal.loop-block-init
loop-block-init g c =
    let look : g.row.S.Denot → StoreView = λ s. g.S.StableStore.view s in
    no-blocks (view_with look c.args.self.now) c.args.file c.args.list.now.items c.requires.serves

pub loop-block-preserved : goal.loop-block-preserved
loop-block-preserved g c =
    let look : g.row.S.Denot → StoreView = λ s. g.S.StableStore.view s in
    more-blocks (view_with look c.args.self.now) c.args.file c.args.list.now.items (number_after (λ (p : BlockNo). p.0) c.loop-block.after) (view_with look c.loop-block.self) c.loop-block.list.items c.loop-block.invariant c.in-Some.block c.in-Some.ensures
    (view_with look c.show_block.new.self) c.show_block.new.list.items c.in_ok-show_block.ensures.shown

pub loop-block-smaller : goal.loop-block-smaller
loop-block-smaller g c = let from = c.in-Some.ensures.from_there in let k : c.in-Some.block.0 < 2 ^ 16 = search rules in omega (arith, from, k)

pub returns : goal.returns
returns g c =
    let look : g.row.S.Denot → StoreView = λ s. g.S.StableStore.view s in
    record {
      shown = all-blocks (view_with look c.args.self.now) c.args.file c.args.list.now.items (number_after (λ (p : BlockNo). p.0) c.loop-block.after) (view_with look c.loop-block.self) c.loop-block.list.items c.loop-block.invariant c.in_default.ensures;
      cut = tt;
    }

pub returns-in_err-show_block : goal.returns-in_err-show_block
returns-in_err-show_block g c =
    let look : g.row.S.Denot → StoreView = λ s. g.S.StableStore.view s in
    let v : ServerView = view_with look c.args.self.now in
    let f = c.args.file in
    let x : ServerView = view_with look c.show_block.new.self in
    let fault = c.in_err-show_block.field-0.0 in
    record {
      shown = no-show (TellsBlocks v f c.args.list.now.items x c.show_block.new.list.items) c.from_residual.result c.from_residual.ensures.0;
      cut = handed-on (is_of f) v x fault c.from_residual.result c.from_residual.ensures.0 c.from_residual.ensures.1
          (cut-blocks v f c.args.list.now.items (number_after (λ (p : BlockNo). p.0) c.loop-block.after) (view_with look c.loop-block.self) c.loop-block.list.items c.loop-block.invariant c.in-Some.block c.in-Some.ensures x fault c.in_err-show_block.ensures.cut);
    }
