use Rattle.std.proofs.Common.{◌≡◌, ◌-◌, suc, arith}
use Rattle.jn_intent.proofs.LettingGo.{let_one}
use Rattle.jn_intent.proofs.works.let_page_go.Goals as goal

pub returns-then-address-gt0 : goal.returns-then-address-gt0
returns-then-address-gt0 c = let some = c.if-address-gt0.true in let e : c.args.address ≡ suc (c.args.address - 1) = omega (arith, some) in let_one c.args.table.now c.let_go.new.self c.args.address (c.args.address - 1) e c.let_go.ensures
