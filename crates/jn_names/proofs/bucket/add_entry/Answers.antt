use Rattle.std.proofs.Common.{arith}
use Rattle.std.proofs.lemmas.Bool.Decides.{nat_tests}
use Rattle.jn_names.proofs.Places.{name-here, free-here}
use Rattle.jn_names.proofs.bucket.add_entry.Goals as goal

pub returns-then-is_empty : goal.returns-then-is_empty
returns-then-is_empty c = free-here c.args.bytes.now c.name_at-name.result.now c.args.entries.now c.name_at-name.ensures (grind (arith, nat_tests, c.is_empty.ensures, c.if-is_empty.true)) c.requires.named

pub new-requires : goal.new-requires
new-requires c = name-here c.args.bytes.now c.name_at-name.result.now c.name_at-name.ensures (grind (arith, nat_tests, c.is_empty.ensures, c.if-is_empty.false)) c.requires.named
