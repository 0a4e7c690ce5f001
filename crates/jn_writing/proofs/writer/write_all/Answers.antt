use Rattle.std.proofs.Common.{arith, ap, ◌∙◌}
use Rattle.std.specs.Prelude.{is_ok}
use Rattle.std.proofs.lemmas.Grind.{common_steps}
use Rattle.jn_host.proofs.Writing.{writes_join}
use Rattle.jn_writing.proofs.writer.write_all.Goals as goal

pub loop-done-preserved : goal.loop-done-preserved
loop-done-preserved g c =
    record {
      within = grind arith;
      took = writes_join _ c.args.bytes.now c.loop-done.done _ _ _ _ _ _ c.loop-done.invariant.took c.write.ensures.wrote (grind (arith, common_steps)) c.in_ok-done.field-0 c.in_ok-done.was;
      count = c.write.ensures.wrote.no_fault (ap is_ok c.in_ok-done.was) ∙ c.loop-done.invariant.count;
    }
