use Rattle.jn_showing.proofs.Common.{◌∙◌, files_of, ↔-trans}
use Rattle.jn_showing.proofs.ShownLemmas.{end_where}
use Rattle.jn_showing.proofs.showing.shown_at_end.Goals as goal

pub returns : goal.returns
returns c =
    ↔-trans c.shows_end.ensures
    (end_where (files_of c.args.files.now) (files_of c.in_ok-after.after) c.args.events.now c.args.lines.now c.deref-2.result.now c.deref.result.now (c.deref-2.ensures.value ∙ c.in_ok-here.ensures) (c.deref.ensures.value ∙ c.in_ok-named.ensures) c.in_ok-after.ensures)
