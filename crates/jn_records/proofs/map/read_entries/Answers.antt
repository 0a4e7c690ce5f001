use Rattle.std.proofs.Common.{◌∙◌, arith, rules}
use Rattle.jn_records.proofs.HeadPages.{front_entry}
use Rattle.jn_records.proofs.map.read_entries.Goals as goal

pub returns : goal.returns
returns c = record { count = search rules; each = λ k below. c.read_u16_into.ensures k (search rules) ∙ front_entry 240 c.args.page.now k (omega (arith, below)) }
