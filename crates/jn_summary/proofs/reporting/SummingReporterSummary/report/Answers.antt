use Rattle.std.proofs.Common.{List, refl, ap, subst, arith, true≢false}
use Rattle.std.proofs.lemmas.List.{take_all}
use Rattle.std.specs.Prelude.{is_ok}
use Rattle.jn_report.specs.declared.line.Line.{Line}
use Rattle.jn_summary.specs.Summing.{Adds}
use Rattle.jn_summary.proofs.Adding.{one-more}
use Rattle.jn_summary.proofs.reporting.SummingReporterSummary.report.Goals as goal

pub loop-line-preserved : goal.loop-line-preserved
loop-line-preserved c = one-more c.args.lines.now c.loop-line.line-index c.line-item.result c.args.output.now c.loop-line.output c.take.new.self c.loop-line-test.true c.line-item.is c.loop-line.invariant c.in_ok-take.ensures.ok

pub returns : goal.returns
returns c = record {
  reported = record {
    count = omega arith;
    whole = λ yes. subst (λ (ls : List Line). Adds c.args.output.now c.loop-line.output ls) (take_all c.loop-line.line-index c.args.lines.now (omega (arith, c.loop-line-test.false))) c.loop-line.invariant;
    front = λ no. absurd (true≢false no);
    rose = λ is. absurd (true≢false (ap is_ok is));
    no_fault = λ is. refl;
  };
}
