use Rattle.jn_intent.proofs.Common.{subst, sym, IsServing, state, view_of, NextBlock}
use Rattle.jn_intent.proofs.Reading.{next_block_of}
use Rattle.jn_intent.proofs.files.IntentsStoredFiles.next_block.Goals as goal

pub returns : goal.returns
returns g c = subst (λ s. NextBlock (state (view_of s.1 (g.S.StableStore.view s.0))).files c.args.f c.args.after c.next_block.result) c.self.view_is
    (next_block_of _ _ c.self.invariant.kept (subst (λ s. IsServing (view_of s.1 (g.S.StableStore.view s.0))) (sym c.self.view_is) c.requires.serving) c.args.f c.args.after c.next_block.result c.next_block.ensures)
