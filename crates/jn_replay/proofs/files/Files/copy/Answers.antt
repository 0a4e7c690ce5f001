use Rattle.std.proofs.Common.{◌∙◌, ap, map}
use Rattle.jn_replay.proofs.StoredLemmas.{contents, registers-contents}
use Rattle.std.proofs.lemmas.List.{take_all}
use Rattle.jn_replay.proofs.files.Files.copy.Goals as goal

pub returns : goal.returns
returns c = registers-contents c.loop-file.stored.items c.args.self.now.stored.items
    (c.loop-file.invariant ∙ ap (map contents) (take_all _ _ c.loop-file-test.false ∙ c.deref-file-items.ensures.value))
