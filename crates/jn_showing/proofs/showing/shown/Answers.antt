use Rattle.jn_showing.proofs.Common.{sym, ◌∙◌, false≢true, files_of}
use Rattle.jn_showing.proofs.ShownLemmas.{shown_where}
use Rattle.jn_showing.proofs.showing.shown.Goals as goal

pub returns-in_ok-shown_at_end : goal.returns-in_ok-shown_at_end
returns-in_ok-shown_at_end c =
    let parts = shown_where (files_of c.args.files.now) c.args.events.now c.args.lines.now in (
      λ h. parts.0 (c.in_ok-shown_so_far.ensures.0 c.if-branch.true, c.in_ok-shown_at_end.ensures.0 h),
      λ h. c.in_ok-shown_at_end.ensures.1 (parts.1 h).1,
    )

pub returns-else-branch : goal.returns-else-branch
returns-else-branch c =
    let parts = shown_where (files_of c.args.files.now) c.args.events.now c.args.lines.now in (
      λ h. absurd (false≢true (sym c.if-branch.false ∙ h)),
      λ h. absurd (false≢true (sym c.if-branch.false ∙ c.in_ok-shown_so_far.ensures.1 (parts.1 h).0)),
    )
