use Rattle.jn_intent.proofs.Common.{◌≡◌, ◌∙◌, subst, sym, IsServing, file_there, state, view_of}
use Rattle.jn_intent.proofs.Reading.{there_seen}
use Rattle.jn_intent.proofs.files.IntentsStoredFiles.file_there.Goals as goal

pub returns : goal.returns
returns g c = subst (λ s. c.exists.result ≡ file_there (state (view_of s.1 (g.S.StableStore.view s.0))).files c.args.f) c.self.view_is
    (c.exists.ensures ∙ there_seen _ _ c.self.invariant.kept (subst (λ s. IsServing (view_of s.1 (g.S.StableStore.view s.0))) (sym c.self.view_is) c.requires.serving) c.args.f)
