use Rattle.jn_server.proofs.Common.{StoreView, ServerView, view_with, is_of, TellsBlocks, TellsFile}
use Rattle.jn_server.proofs.Pieces.{no-memory, no-show, on-ok}
use Rattle.jn_server.proofs.Shows.{tells-file}
use Rattle.jn_server.proofs.server.Server.show_stored.Goals as goal

pub returns : goal.returns
returns g c =
    let look : g.row.S.Denot → StoreView = λ s. g.S.StableStore.view s in
    let v : ServerView = view_with look c.args.self.now in
    let w : ServerView = view_with look c.show_blocks.new.self in
    let f = c.args.file in
    let old = c.args.list.now.items in
    let mid = c.tell.new.list.items in
    let new = c.show_blocks.new.list.items in
    record {
      shown = on-ok (TellsBlocks v f mid w new) (TellsFile v f old w new) c.show_blocks.result c.show_blocks.ensures.shown
          (λ h. tells-file v f c.requires.free c.requires.there old mid c.in_ok-tell.ensures w new h);
      cut = c.show_blocks.ensures.cut;
    }

pub returns-in_err-tell : goal.returns-in_err-tell
returns-in_err-tell g c =
    let look : g.row.S.Denot → StoreView = λ s. g.S.StableStore.view s in
    let v : ServerView = view_with look c.args.self.now in
    let f = c.args.file in
    record {
      shown = no-show (TellsFile v f c.args.list.now.items v c.tell.new.list.items) c.from_residual.result c.from_residual.ensures.0;
      cut = no-memory (is_of f) v v c.from_residual.result c.from_residual.ensures.0 c.from_residual.ensures.1;
    }
