use Rattle.jn_sets.proofs.Common.{List, sym, ◌∙◌, ap, get_or_from_slice_get, unwrap_or-slice_get, unwrap_or, Record, Free, is_rubbish, record_in}
use Rattle.jn_sets.proofs.sets.Sets.is_rubbish_at.Goals as goal

pub returns-in-Some : goal.returns-in-Some
returns-in-Some c =
    let records = c.self.inside.slots in
    c.is_rubbish.ensures ∙ ap (is_rubbish records) (sym (get_or_from_slice_get records c.args.slot c.in-Some.value.now Free (sym c.in-Some.ensures)))
    ∙ ap (λ (l : List Record). is_rubbish l (record_in l c.args.slot)) c.self.view_is

pub returns-in-None : goal.returns-in-None
returns-in-None c =
    let records = c.self.inside.slots in
    ap (is_rubbish records) (ap (λ o. unwrap_or o Free) c.in-None.ensures ∙ unwrap_or-slice_get records c.args.slot Free)
    ∙ ap (λ (l : List Record). is_rubbish l (record_in l c.args.slot)) c.self.view_is
