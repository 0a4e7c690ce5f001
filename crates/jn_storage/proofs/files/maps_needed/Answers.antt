use Rattle.jn_storage.proofs.Common.{lacking, ℕ, ◌+◌, Bool, if◌then◌else◌, sym, ◌∙◌, ap, subst, ◌≤◌, count_by}
use Rattle.jn_storage.proofs.LackingMaps.{count-more, whole, lacking-length}
use Rattle.jn_storage.proofs.files.maps_needed.Goals as goal

pub loop-k-preserved : goal.loop-k-preserved
loop-k-preserved g c = c.count_if-maps.ensures ∙ ap (λ (n : ℕ). n + (if c.lacks_map.result then 1 else 0)) c.loop-k.invariant ∙ count-more (lacking (g.W.Storage.view c.args.files.now).accounts.maps c.args.list.now) c.loop-k.k _ c.lacks_map.ensures

pub returns : goal.returns
returns g c = c.loop-k.invariant ∙ ap (count_by (λ (b : Bool). b)) (whole (lacking (g.W.Storage.view c.args.files.now).accounts.maps c.args.list.now) c.loop-k.k (subst (λ (n : ℕ). n ≤ c.loop-k.k) (sym (lacking-length c.args.list.now (g.W.Storage.view c.args.files.now).accounts.maps)) c.loop-k-test.false))
