use Rattle.std.proofs.Common.{◌∙◌, ap, ℕ}
use Rattle.jn_base.specs.declared.names.FileNo.{FileNo}
use Rattle.jn_works.specs.Locked.{file_from, least_locked}
use Rattle.jn_works.proofs.locked.next_locked.Goals as goal

pub returns : goal.returns
returns c = c.locked_file.ensures ∙ ap (λ (n : ℕ). least_locked (λ (f : FileNo). f.0) (file_from n) c.args.works.now) c.file_after.ensures
