use Rattle.jn_storage.proofs.Common.{◌≡◌, take, lacking}
use Rattle.jn_storage.proofs.files.lacking.Given as goal

abbrev pub invariant-loop-k : goal.invariant-loop-k
invariant-loop-k g l = l.flags.items ≡ take l.k (lacking (g.W.Storage.view l.files).accounts.maps l.list)
