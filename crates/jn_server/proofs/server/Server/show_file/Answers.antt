use Rattle.jn_server.proofs.Common.{sym, ◌∙◌, StoreView, ServerView, view_with, is_of, TellsFile}
use Rattle.jn_server.proofs.Pieces.{no-memory, no-show}
use Rattle.jn_server.proofs.Shows.{tells-locked-file}
use Rattle.jn_server.proofs.server.Server.show_file.Goals as goal

pub returns-in-Some : goal.returns-in-Some
returns-in-Some g c =
    let look : g.row.S.Denot → StoreView = λ s. g.S.StableStore.view s in
    let v : ServerView = view_with look c.args.self.now in
    record {
      shown = tells-locked-file v c.requires.serves c.args.file c.in-Some.tid (sym c.holder.ensures ∙ c.in-Some.is) c.args.list.now.items c.tell.new.list.items c.in_ok-tell.ensures;
      cut = tt;
    }

pub returns-in_err-tell : goal.returns-in_err-tell
returns-in_err-tell g c =
    let look : g.row.S.Denot → StoreView = λ s. g.S.StableStore.view s in
    let v : ServerView = view_with look c.args.self.now in
    let f = c.args.file in
    record {
      shown = no-show (TellsFile v f c.args.list.now.items v c.tell.new.list.items) c.from_residual.result c.from_residual.ensures.0;
      cut = no-memory (is_of f) v v c.from_residual.result c.from_residual.ensures.0 c.from_residual.ensures.1;
    }
