use Rattle.jn_showing.proofs.Common.{sym, ap, ◌∙◌, says, is_no_show, files_of, ↔-trans}
use Rattle.jn_showing.proofs.ShownLemmas.{server_where, no_show_where}
use Rattle.jn_showing.proofs.showing.shows_server.Goals as goal

pub returns : goal.returns
returns c =
    ↔-trans c.shows_files.ensures
    (server_where (files_of c.args.files.now) (files_of c.in_ok-after.after) c.args.events.now c.args.lines.now c.args.number c.args.server c.deref-4.result.now c.deref-2.result.now c.deref-3.result.now (c.deref-4.ensures.value ∙ c.in_ok-here.ensures) (c.deref-2.ensures.value ∙ c.in_ok-before.ensures) (c.deref-3.ensures.value ∙ c.in_ok-named.ensures) c.in_ok-after.ensures
    (ap (says is_no_show) (c.deref-4.ensures.value ∙ sym c.deref.ensures.value) ∙ sym c.is_not_printed.ensures ∙ c.if-is_not_printed.false))

pub returns-then-is_not_printed : goal.returns-then-is_not_printed
returns-then-is_not_printed c =
    no_show_where (files_of c.args.files.now) c.args.events.now c.args.lines.now c.args.number c.args.server c.deref.result.now (c.deref.ensures.value ∙ c.in_ok-here.ensures) (sym c.is_not_printed.ensures ∙ c.if-is_not_printed.true)
