use Rattle.jn_files.proofs.Common.{true, ◌∙◌, arith, length-set}
use Rattle.jn_files.proofs.Touching.{set_more}
use Rattle.jn_files.proofs.table.set_all.Goals as goal

pub loop-i-preserved : goal.loop-i-preserved
loop-i-preserved c = record {
  so_many = length-set c.loop-i.flags.items c.loop-i.i true ∙ c.loop-i.invariant.so_many;
  set = λ a lt. set_more c.loop-i.flags.items c.loop-i.i (let test = c.loop-i-test.true in let long = c.loop-i.invariant.so_many in omega (arith, test, long)) c.loop-i.invariant.set a lt;
}
