use Rattle.jn_storage.proofs.Common.{◌≡◌, take, file_there, state, heads_of}
use Rattle.jn_storage.proofs.files.heads_needed.Given as goal

abbrev pub invariant-loop-intention : goal.invariant-loop-intention
invariant-loop-intention g l = l.heads ≡ heads_of (take l.intention-index l.list) (file_there (state (g.W.Storage.view l.files)).files)
