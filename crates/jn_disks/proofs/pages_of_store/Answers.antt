use Rattle.jn_disks.proofs.Common.{◌≡◌, ◌*◌, ◌/◌, ◌∙◌, sym, subst, ap, List, take, Half, IsImage, ghosts, page_count, pairs_view, AreSound, HasPages, files_in, format_version}
use Rattle.jn_disks.proofs.Closed.{closed, closed_files, paired_pages}
use Rattle.jn_disks.proofs.pages_of_store.Goals as goal

pub returns-clause-sound : goal.returns-clause-sound
returns-clause-sound c = λ server g files image count.
    let disk = c.into_inner.result in
    let same = c.into_inner.ensures.disk in
    let its_image = subst (λ d. IsImage server g files (pairs_view (ghosts.state d))) (sym same) image in
    let its_count = subst (λ d. page_count g ≡ (ghosts.state d).count / 2) (sym same) count in
    let halves = c.into_pages-pages.result.items in
    subst (λ (l : List Half). AreSound format_version server g l × (files_in g l ≡ files))
    (sym (c.truncate.ensures.items ∙ ap (λ n. take (2 * n) halves) (c.count-count.ensures ∙ ap (λ d. (ghosts.state d).count / 2) (sym same)))) (
      closed server g files (ghosts.state disk) its_image its_count halves (record { count = c.into_pages-pages.ensures.count; good = c.into_pages-pages.ensures.good; bytes = c.into_pages-pages.ensures.bytes }),
      closed_files server g files (ghosts.state disk) its_image its_count halves (record { count = c.into_pages-pages.ensures.count; good = c.into_pages-pages.ensures.good; bytes = c.into_pages-pages.ensures.bytes }),
    )

pub returns-clause-pages : goal.returns-clause-pages
returns-clause-pages c =
    let same = c.into_inner.ensures.disk in
    let halves = c.into_pages-pages.result.items in
    subst (λ d. HasPages c.truncate.new.self.items (ghosts.state d)) same
    (subst (λ (l : List Half). HasPages l (ghosts.state c.into_inner.result))
    (sym (c.truncate.ensures.items ∙ ap (λ n. take (2 * n) halves) (c.count-count.ensures ∙ ap (λ d. (ghosts.state d).count / 2) (sym same))))
    (paired_pages halves (ghosts.state c.into_inner.result) (record { count = c.into_pages-pages.ensures.count; good = c.into_pages-pages.ensures.good; bytes = c.into_pages-pages.ensures.bytes })))
