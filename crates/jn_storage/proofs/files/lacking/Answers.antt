use Rattle.jn_storage.proofs.Common.{lacking, ℕ, Bool, List, [], ◌∷◌, ◌++◌, sym, ◌∙◌, ap, subst, ◌≤◌}
use Rattle.jn_storage.proofs.LackingMaps.{flag-more, whole, lacking-length}
use Rattle.jn_storage.proofs.files.lacking.Goals as goal

pub loop-k-preserved : goal.loop-k-preserved
loop-k-preserved g c = c.in_ok-push.ensures.items ∙ ap (λ (l : List Bool). l ++ c.lacks_map.result ∷ []) c.loop-k.invariant ∙ flag-more (lacking (g.W.Storage.view c.args.files.now).accounts.maps c.args.list.now) c.loop-k.k _ c.lacks_map.ensures

pub returns : goal.returns
returns g c = c.loop-k.invariant ∙ whole (lacking (g.W.Storage.view c.args.files.now).accounts.maps c.args.list.now) c.loop-k.k (subst (λ (n : ℕ). n ≤ c.loop-k.k) (sym (lacking-length c.args.list.now (g.W.Storage.view c.args.files.now).accounts.maps)) c.loop-k-test.false)
