use Rattle.jn_sets.proofs.Common.{rules, List, ap, ◌∙◌, set-set, slice_set, Record, Free}
use Rattle.jn_sets.proofs.Stored.{puts_done, puts_stopped}
use Rattle.jn_sets.proofs.sets.Sets.put.Goals as goal

pub returns-in_err-write_slot : goal.returns-in_err-write_slot
returns-in_err-write_slot g c = puts_stopped _ _ _ _ _ c.in_err-write_slot.ensures.is_record c.requires.slot c.requires.there _ (search rules) c.in_err-write_slot.ensures.put

pub returns : goal.returns
returns g c = puts_done _ _ _ _ _ c.in_ok-write_slot.ensures.is_record c.requires.slot c.requires.there _ c.in_ok-write_slot.ensures.put
    (c.fill.ensures ∙ ap (λ (l : List Record). slice_set l c.args.slot c.args.value) c.clear.ensures ∙ set-set c.args.self.now c.args.slot Free c.args.value)
