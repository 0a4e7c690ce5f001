use Rattle.jn_run.proofs.Common.{ap, sym, ◌∙◌, Err, refl, err_from_is_err_and, course_of}
use Rattle.jn_run.proofs.Told.{faulted}
use Rattle.jn_run.proofs.trial.run_drawn.Goals as goal

pub returns-in_err-world : goal.returns-in_err-world
returns-in_err-world g c = record {
  ran = λ x files epochs images stores trace are.
      let opened = c.open_world.ensures.opened x c.args.drawn files epochs images stores trace are in
      let p = err_from_is_err_and c.from_residual.result c.from_residual.ensures.1 in
      faulted g.R.Reporter.reporting _ _ _ c.open_world.result c.from_residual.result p.0 _ (c.in_err-world.was ∙ ap (λ e. Err e) (sym p.2)) p.1 opened;
}

pub returns-in_err-run_stretches : goal.returns-in_err-run_stretches
returns-in_err-run_stretches g c = record {
  ran = λ x files epochs images stores trace are.
      let course = course_of x c.args.drawn images c.args.output.now in
      let at = (c.open_world.ensures.opened x c.args.drawn files epochs images stores trace are).whole c.in_ok-world.world c.in_ok-world.was in
      let run = c.run_stretches.ensures.ran course at.now at.told refl at.there in
      let p = err_from_is_err_and c.from_residual-in_err-run_stretches.result c.from_residual-in_err-run_stretches.ensures.1 in
      faulted g.R.Reporter.reporting _ _ _ c.run_stretches.result c.from_residual-in_err-run_stretches.result p.0 _ (c.in_err-run_stretches.was ∙ ap (λ e. Err e) (sym p.2)) p.1 run;
}

pub returns : goal.returns
returns g c = record {
  ran = λ x files epochs images stores trace are.
      let course = course_of x c.args.drawn images c.args.output.now in
      let at = (c.open_world.ensures.opened x c.args.drawn files epochs images stores trace are).whole c.in_ok-world.world c.in_ok-world.was in
      let run = c.run_stretches.ensures.ran course at.now at.told refl at.there in
      let fin = run.whole c.in_ok-run_stretches.field-0 c.in_ok-run_stretches.was in
      c.close_world.ensures.ran course fin.now fin.told fin.there;
}
