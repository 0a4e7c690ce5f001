use Rattle.jn_server.proofs.Common.{◌≡◌, subst, None, Block, StoreView, view_of, state, Parts, view_with, sym, IsServer, BlockRead}
use Rattle.jn_server.proofs.server.Server.read.Goals as goal

pub returns-clause-unasked : goal.returns-clause-unasked
returns-clause-unasked g c =
    let look : g.row.S.Denot → StoreView = λ s. g.S.StableStore.view s in
    subst (λ (s : Parts g.row.S.Denot). (state (view_with look s).storage).files (Block c.args.file c.args.block) ≡ None → view_of c.read_block.new.self.1 (look c.read_block.new.self.0) ≡ (view_with look s).storage) c.self.view_is
    (λ none. (c.read_block.ensures.unasked none).1)

pub read_block-requires-clause-serving : goal.read_block-requires-clause-serving
read_block-requires-clause-serving g c =
    let look : g.row.S.Denot → StoreView = λ s. g.S.StableStore.view s in
    let inside : Parts g.row.S.Denot = record { storage = c.self.inside.storage; worker = c.self.inside.worker; coordinator = c.self.inside.coordinator; tickets = c.self.inside.tickets } in
    let serves : IsServer (view_with look inside) = subst (λ (s : Parts g.row.S.Denot). IsServer (view_with look s)) (sym c.self.view_is) c.requires.serves in
    serves.works.serving

pub returns-clause-read : goal.returns-clause-read
returns-clause-read g c =
    let look : g.row.S.Denot → StoreView = λ s. g.S.StableStore.view s in
    subst (λ (s : Parts g.row.S.Denot). BlockRead (view_with look s).storage c.args.file c.args.block c.read_block.result (view_of c.read_block.new.self.1 (look c.read_block.new.self.0))) c.self.view_is c.read_block.ensures.read
