use Rattle.std.proofs.Common.{◌≡◌, map, take}
use Rattle.jn_replay.proofs.StoredLemmas.{contents}
use Rattle.jn_replay.proofs.files.Files.copy.Given as goal

abbrev pub invariant-loop-file : goal.invariant-loop-file
invariant-loop-file l = map contents l.stored.items ≡ map contents (take l.file-index l.file-items)
