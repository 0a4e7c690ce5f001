use Rattle.jn_run.proofs.Stores.{device}
use Rattle.jn_run.proofs.Told.{closed-told}
use Rattle.jn_run.proofs.running.close_world.Goals as goal

pub returns : goal.returns
returns g c = record {
  ran = λ course m told stands. closed-told g.R.Reporter.reporting g.met.R.Reporter.joins device _ course m _ _ told c.close-closed.result c.clear.new.self.items c.close-closed.new.lines.items c.deref.result.now c.report_lines.result
      (c.close-closed.ensures.written course.setup m stands.stands stands.tasks stands.stage) c.clear.ensures.items c.deref.ensures.value c.report_lines.ensures.reported;
}
