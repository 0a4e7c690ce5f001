use Rattle.std.proofs.Common.{◌∙◌}
use Rattle.jn_records.proofs.Heads.{head_is_read}
use Rattle.jn_records.proofs.head.Head.decode.Goals as goal

pub returns-clause-only : goal.returns-clause-only
returns-clause-only c = λ head is fits e. c.of_page.ensures.only head (c.in_ok-head.ensures ∙ head_is_read c.args.leaves c.args.page.now head c.ranges.leaves.fits is fits e) is e
