use Rattle.jn_intent.proofs.Common.{◌≡◌, ◌∙◌, subst, sym, is_some, Block, IsServing, state, view_of}
use Rattle.jn_intent.proofs.Reading.{mapped_seen}
use Rattle.jn_intent.proofs.files.IntentsStoredFiles.mapped.Goals as goal

pub returns : goal.returns
returns g c = subst (λ s. c.mapped.result ≡ is_some ((state (view_of s.1 (g.S.StableStore.view s.0))).files (Block c.args.f c.args.p))) c.self.view_is
    (c.mapped.ensures ∙ mapped_seen _ _ c.self.invariant.kept (subst (λ s. IsServing (view_of s.1 (g.S.StableStore.view s.0))) (sym c.self.view_is) c.requires.serving) c.args.f c.args.p)
