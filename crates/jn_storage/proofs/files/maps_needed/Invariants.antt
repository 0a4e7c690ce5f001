use Rattle.jn_storage.proofs.Common.{◌≡◌, take, count_by, lacking}
use Rattle.jn_storage.proofs.files.maps_needed.Given as goal

abbrev pub invariant-loop-k : goal.invariant-loop-k
invariant-loop-k g l = l.maps ≡ count_by (λ b. b) (take l.k (lacking (g.W.Storage.view l.files).accounts.maps l.list))
