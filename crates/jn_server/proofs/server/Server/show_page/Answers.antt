use Rattle.jn_server.proofs.Common.{Some, StoreView, ServerView, view_with}
use Rattle.jn_server.proofs.Pieces.{ok-with, not-ok, tells-page, read-cut}
use Rattle.jn_server.proofs.server.Server.show_page.Goals as goal
use Rattle.jn_server.proofs.Shows.{stored-below, stored-there}

pub read-requires-clause-range : goal.read-requires-clause-range
read-requires-clause-range g c =
    let look : g.row.S.Denot → StoreView = λ s. g.S.StableStore.view s in
    let v : ServerView = view_with look c.args.self.now in
    stored-below c.args.self.now.storage.1 (look c.args.self.now.storage.0) c.args.file c.args.block (stored-there v c.args.file c.args.block c.requires.there c.requires.free)

pub returns-in_ok-tell_page-in-Ok-Some-clause-shown : goal.returns-in_ok-tell_page-in-Ok-Some-clause-shown
returns-in_ok-tell_page-in-Ok-Some-clause-shown g c =
    let look : g.row.S.Denot → StoreView = λ s. g.S.StableStore.view s in
    let v : ServerView = view_with look c.args.self.now in
    let w : ServerView = view_with look c.read.new.self in
    let found = rw c.in-Ok-Some.is at c.in-Ok-Some.field-0-is in
    tells-page v w c.requires.serves c.args.file c.args.block c.read.result c.read.ensures.read c.read.ensures.unasked c.read.ensures.tables c.in-Ok-Some.bytes
    (ok-with c.read.result c.in-Ok-Some.field-0 (Some c.in-Ok-Some.bytes) c.in-Ok-Some.is found) c.requires.free c.args.list.now.items c.tell_page.new.list.items c.in_ok-tell_page-in-Ok-Some.ensures

pub returns-in-Err-clause-cut : goal.returns-in-Err-clause-cut
returns-in-Err-clause-cut g c =
    let look : g.row.S.Denot → StoreView = λ s. g.S.StableStore.view s in
    let v : ServerView = view_with look c.args.self.now in
    let w : ServerView = view_with look c.read.new.self in
    read-cut v w c.requires.serves c.args.file c.args.block c.read.result c.read.ensures.read c.read.ensures.unasked c.read.ensures.tables c.from.result (not-ok c.read.result c.in-Err.stopped c.in-Err.is) c.from.ensures
