use Rattle.jn_server.proofs.Common.{sym, ◌∙◌, Block, StoreView, is_at, to_print, TellsPiece, ServerView, view_with, print_one}
use Rattle.jn_server.proofs.Pieces.{tells-locked, no-memory, no-show}
use Rattle.jn_server.proofs.server.Server.show_block.Goals as goal

pub returns-in-Some : goal.returns-in-Some
returns-in-Some g c =
    let look : g.row.S.Denot → StoreView = λ s. g.S.StableStore.view s in
    let v : ServerView = view_with look c.args.self.now in
    let here = Block c.args.file c.args.block in
    record {
      shown = tells-locked (is_at here) v c.requires.serves here c.in-Some.tid (sym c.holder.ensures ∙ c.in-Some.is) c.args.list.now.items c.tell.new.list.items c.in_ok-tell.ensures;
      cut = tt;
    }

pub returns-in_err-tell : goal.returns-in_err-tell
returns-in_err-tell g c =
    let look : g.row.S.Denot → StoreView = λ s. g.S.StableStore.view s in
    let v : ServerView = view_with look c.args.self.now in
    let here = Block c.args.file c.args.block in
    record {
      shown = no-show (TellsPiece (is_at here) v c.args.list.now.items (print_one (to_print v here)) v c.tell.new.list.items) c.from_residual.result c.from_residual.ensures.0;
      cut = no-memory (is_at here) v v c.from_residual.result c.from_residual.ensures.0 c.from_residual.ensures.1;
    }
