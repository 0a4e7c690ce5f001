use Rattle.jn_gen.proofs.Words.{all_bytes}
use Rattle.jn_gen.proofs.text.push_write.Goals as goal

pub returns-clause-bytes : goal.returns-clause-bytes
returns-clause-bytes c = all_bytes c.args.bytes.now (λ k. (c.type_inv.bytes k).fits)
