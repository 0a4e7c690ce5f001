use Rattle.jn_run.proofs.Common.{◌∙◌, Option, Some, ap, refl, subst, sym, Command, command_of, OutcomeOf, outside}
use Rattle.jn_run.proofs.Outcomes.{memory-outcome}
use Rattle.jn_run.proofs.run.Goals as goal

pub returns-in-Some-Run : goal.returns-in-Some-Run
returns-in-Some-Run g c =
    let e = sym c.in-Ok.ensures.exact ∙ c.in-Some-Run.is ∙ ap (λ (a : Command). Some a) c.in-Some-Run.field-0-is in
    record {
      outcome = subst (λ (a : Option Command). OutcomeOf a
          (outside g.S.Source.left g.S.Source.faults g.K.Sink.taken g.K.Sink.faults g.I.Keeper.kept g.I.Keeper.faults c.args.source.now c.args.sink.now c.args.images.now)
          (outside g.S.Source.left g.S.Source.faults g.K.Sink.taken g.K.Sink.faults g.I.Keeper.kept g.I.Keeper.faults c.run_source.new.source c.run_source.new.sink c.run_source.new.keeper)
          c.run_source.result) (sym e) c.run_source.ensures.outcome;
    }

pub returns-in-Some-Trial : goal.returns-in-Some-Trial
returns-in-Some-Trial g c =
    let e = sym c.in-Ok.ensures.exact ∙ c.in-Some-Trial.is ∙ ap (λ (a : Command). Some a) c.in-Some-Trial.field-0-is in
    record {
      outcome = subst (λ (a : Option Command). OutcomeOf a
          (outside g.S.Source.left g.S.Source.faults g.K.Sink.taken g.K.Sink.faults g.I.Keeper.kept g.I.Keeper.faults c.args.source.now c.args.sink.now c.args.images.now)
          (outside g.S.Source.left g.S.Source.faults g.K.Sink.taken g.K.Sink.faults g.I.Keeper.kept g.I.Keeper.faults c.args.source.now c.run_trial.new.sink c.args.images.now)
          c.run_trial.result) (sym e) (record { source = refl; keeper = refl }, c.run_trial.ensures.outcome (g.I.Keeper.kept c.args.images.now));
    }

pub returns-in-Some-Node : goal.returns-in-Some-Node
returns-in-Some-Node g c =
    let e = sym c.in-Ok.ensures.exact ∙ c.in-Some-Node.is ∙ ap (λ (a : Command). Some a) c.in-Some-Node.field-0-is in
    record {
      outcome = subst (λ (a : Option Command). OutcomeOf a
          (outside g.S.Source.left g.S.Source.faults g.K.Sink.taken g.K.Sink.faults g.I.Keeper.kept g.I.Keeper.faults c.args.source.now c.args.sink.now c.args.images.now)
          (outside g.S.Source.left g.S.Source.faults g.K.Sink.taken g.K.Sink.faults g.I.Keeper.kept g.I.Keeper.faults c.serve.new.source c.serve.new.sink c.serve.new.keeper)
          c.serve.result) (sym e) c.serve.ensures.outcome;
    }

pub returns-in-Err : goal.returns-in-Err
returns-in-Err g c = record {
  outcome = memory-outcome (command_of c.args.words.now)
      (outside g.S.Source.left g.S.Source.faults g.K.Sink.taken g.K.Sink.faults g.I.Keeper.kept g.I.Keeper.faults c.args.source.now c.args.sink.now c.args.images.now);
}
