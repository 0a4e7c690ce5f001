use Rattle.jn_storage.proofs.Common.{sym, ◌∙◌, ap, is_some, File, state}
use Rattle.jn_storage.proofs.Seen.{viewed-stopped, viewed-without, viewed-found}
use Rattle.jn_storage.proofs.files.view.Goals as goal

pub returns-in_err-block : goal.returns-in_err-block
returns-in_err-block g c = record {
  viewed = viewed-stopped _ _ _ _ _ _ _ _ c.file_of-2.ensures c.block_of.ensures c.in_err-block.ensures.read
      (λ other h. (rw c.in_default.is at c.in_ok-answer.ensures) other (h ∙ sym (c.file_there-stored.ensures ∙ ap (λ f. is_some ((state (g.W.Storage.view c.args.files.now)).files (File f))) c.file_of.ensures)))
      c.from_residual-in_err-block.ensures.1;
}

pub returns-in_err-from_block : goal.returns-in_err-from_block
returns-in_err-from_block g c = record {
  viewed = viewed-without _ _ _ _ _ _ _ _ c.file_of-2.ensures c.block_of.ensures c.in_ok-block.ensures.read
      (λ other h. (rw c.in_default.is at c.in_ok-answer.ensures) other (h ∙ sym (c.file_there-stored.ensures ∙ ap (λ f. is_some ((state (g.W.Storage.view c.args.files.now)).files (File f))) c.file_of.ensures)))
      c.from_residual-in_err-from_block.ensures.1;
}

pub returns : goal.returns
returns g c = record {
  viewed = viewed-found _ _ _ _ _ _ _ _ c.file_of-2.ensures c.block_of.ensures c.in_ok-block.ensures.read
      (λ other h. (rw c.in_default.is at c.in_ok-answer.ensures) other (h ∙ sym (c.file_there-stored.ensures ∙ ap (λ f. is_some ((state (g.W.Storage.view c.args.files.now)).files (File f))) c.file_of.ensures)))
      c.in_ok-from_block.ensures;
}
