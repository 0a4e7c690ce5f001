use Rattle.jn_showing.proofs.Common.{sym, subst, IsTrue, ◌↔◌, Bool, registers, ShowsFiles}
use Rattle.jn_showing.proofs.ShownLemmas.{shows_where}
use Rattle.jn_showing.proofs.showing.shows_files.Goals as goal

pub returns-then-all_as_in : goal.returns-then-all_as_in
returns-then-all_as_in c =
    let xs = c.args.files.now.stored.items in
    subst (λ (b : Bool). IsTrue b ↔ ShowsFiles (registers xs) c.args.server c.args.lines.now) (sym c.is_accounted.ensures)
    (shows_where xs c.args.lines.now c.args.server (c.all_as_in.ensures.0 c.if-all_as_in.true))
