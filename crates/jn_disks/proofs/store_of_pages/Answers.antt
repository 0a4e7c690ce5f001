use Rattle.jn_disks.proofs.Common.{sym, subst, ghosts, IsNew, pairs_view, HasPages, IsStoreOfPages}
use Rattle.jn_disks.proofs.Closed.{all_pages, even, is_store}
use Rattle.jn_disks.proofs.store_of_pages.Goals as goal

pub returns-clause-found : goal.returns-clause-found
returns-clause-found c = λ version server g are.
    subst (λ d. IsStoreOfPages version server g c.args.pages.items (pairs_view (ghosts.state d))) (sym c.new.ensures)
    (is_store version server g c.args.pages.items are (ghosts.state c.in_ok-from_pages.field-0) c.in_ok-from_pages.ensures.holds c.in_ok-from_pages.ensures.new)

pub returns-clause-pages : goal.returns-clause-pages
returns-clause-pages c =
    let (version, server, g, are) = c.requires.sound in
    subst (λ d. HasPages c.args.pages.items (ghosts.state d)) (sym c.new.ensures)
    (all_pages c.args.pages.items (ghosts.state c.in_ok-from_pages.field-0) c.in_ok-from_pages.ensures.holds (even version server g c.args.pages.items are))

pub returns-clause-new : goal.returns-clause-new
returns-clause-new c = subst (λ d. IsNew (ghosts.state d)) (sym c.new.ensures) c.in_ok-from_pages.ensures.new
