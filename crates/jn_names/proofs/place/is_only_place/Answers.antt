use Rattle.std.proofs.Common.{◌∙◌, length-drop, sym, arith}
use Rattle.std.proofs.lemmas.Bool.Decides.{nat_tests}
use Rattle.jn_names.proofs.Checking.{only-not, only-else}
use Rattle.jn_names.proofs.place.is_only_place.Goals as goal

pub returns-then-not-is_place : goal.returns-then-not-is_place
returns-then-not-is_place c = sym (only-not c.args.bucket c.args.places c.args.bytes.now (sym c.is_place.ensures ∙ c.if-not-is_place.true))

pub find-requires-clause-places : goal.find-requires-clause-places
find-requires-clause-places c = let l = length-drop 69 c.args.bytes.now in rw c.behind.ensures (omega (arith, l))

pub returns-else-is_empty : goal.returns-else-is_empty
returns-else-is_empty c = only-else c.args.bucket c.args.places c.args.bytes.now c.name_at-name.result.now c.behind.result.now c.find.result c.is_none.result (sym c.is_place.ensures ∙ c.if-not-is_place.false) c.name_at-name.ensures (grind (arith, nat_tests, c.is_empty.ensures, c.if-is_empty.false)) c.behind.ensures c.find.ensures c.is_none.ensures
