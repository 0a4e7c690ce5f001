use Rattle.jn_intent.proofs.Common.{subst, sym, IsServing, state, NextFile, view_of}
use Rattle.jn_intent.proofs.Reading.{next_of}
use Rattle.jn_intent.proofs.files.IntentsStoredFiles.next_file.Goals as goal

pub returns : goal.returns
returns g c = subst (λ s. NextFile (state (view_of s.1 (g.S.StableStore.view s.0))).files c.args.after c.next.result) c.self.view_is
    (next_of _ _ c.self.invariant.kept (subst (λ s. IsServing (view_of s.1 (g.S.StableStore.view s.0))) (sym c.self.view_is) c.requires.serving) c.args.after c.next.result c.next.ensures)
