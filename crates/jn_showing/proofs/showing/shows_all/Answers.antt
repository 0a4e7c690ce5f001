use Rattle.jn_showing.proofs.Common.{sym, subst, IsTrue, ◌↔◌, ◌∙◌, Bool, false≢true, ServerNo, registers, ShowsFiles}
use Rattle.jn_showing.proofs.ShownLemmas.{shows_everywhere, shows_nowhere}
use Rattle.jn_showing.proofs.showing.shows_all.Goals as goal

pub returns-then-all_as_in : goal.returns-then-all_as_in
returns-then-all_as_in c =
    let xs = c.args.files.now.stored.items in
    subst (λ (b : Bool). IsTrue b ↔ ((s : ServerNo) → ShowsFiles (registers xs) s c.args.lines.now)) (sym c.is_accounted_everywhere.ensures)
    (shows_everywhere xs c.args.lines.now (c.all_as_in.ensures.0 c.if-all_as_in.true))

pub returns-else-all_as_in : goal.returns-else-all_as_in
returns-else-all_as_in c = (
  λ h. absurd (false≢true (sym c.if-all_as_in.false ∙ h)),
  λ h. absurd (shows_nowhere c.args.files.now.stored.items c.args.lines.now (λ a. false≢true (sym c.if-all_as_in.false ∙ c.all_as_in.ensures.1 a)) h),
)
