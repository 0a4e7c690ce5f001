use Rattle.std.proofs.Common.{◌∙◌}
use Rattle.jn_records.proofs.RecordsAgain.{record_is_read}
use Rattle.jn_records.proofs.record.Record.decode.Goals as goal

pub returns-clause-only : goal.returns-clause-only
returns-clause-only c = λ value pages fits e. c.of_page.ensures.only value (c.in_ok-value.ensures ∙ record_is_read c.args.page.now value pages fits e) pages e
