use Rattle.jn_run.proofs.Common.{◌∙◌, Vec, Err, ap, refl, sym, err_from_is_err_and, Global, MemDisk, trial_options, AreLeft}
use Rattle.jn_run.proofs.Opened.{opened-so}
use Rattle.jn_run.proofs.Stores.{look, device}
use Rattle.jn_run.proofs.Summed.{drawn-few, drawn-range, sum-told, fault-told}
use Rattle.jn_run.proofs.trial.sum_up.Goals as goal

pub run_drawn-requires-clause-few : goal.run_drawn-requires-clause-few
run_drawn-requires-clause-few c = drawn-few c.args.trial.now c.new-drawn.result c.new-drawn.ensures c.requires.range.events.1

pub run_drawn-requires-clause-range : goal.run_drawn-requires-clause-range
run_drawn-requires-clause-range c = drawn-range c.args.trial.now c.new-drawn.result c.new-drawn.ensures

pub returns-in_err-run_drawn : goal.returns-in_err-run_drawn
returns-in_err-run_drawn c = record {
  told = λ kept.
      let b = opened-so look device (λ s. refl) trial_options kept c.in_ok-stores.stores.items c.in_ok-stores.ensures.count c.in_ok-stores.ensures.new in
      let p = err_from_is_err_and c.from_residual-in_err-run_drawn.result c.from_residual-in_err-run_drawn.ensures.1 in
      fault-told device c.args.trial.now kept c.in_ok-stores.stores.items b c.new-drawn.result c.new-drawn.ensures (λ (left : Vec MemDisk Global). AreLeft device b.opens.setup left.items) c.run_drawn.result c.new-summary.result c.run_drawn.new.output
      (c.run_drawn.ensures.ran b.opens.setup b.opens.files b.epochs b.opens.images b.stores_are b.opens.trace b.are_images) c.from_residual-in_err-run_drawn.result p.0 (c.in_err-run_drawn.was ∙ ap (λ e. Err e) (sym p.2)) p.1;
}

pub returns : goal.returns
returns c = record {
  told = λ kept.
      let b = opened-so look device (λ s. refl) trial_options kept c.in_ok-stores.stores.items c.in_ok-stores.ensures.count c.in_ok-stores.ensures.new in
      sum-told device c.args.trial.now kept c.in_ok-stores.stores.items b c.new-drawn.result c.new-drawn.ensures (λ (left : Vec MemDisk Global). AreLeft device b.opens.setup left.items) c.run_drawn.result c.new-summary.result c.run_drawn.new.output
      (c.run_drawn.ensures.ran b.opens.setup b.opens.files b.epochs b.opens.images b.stores_are b.opens.trace b.are_images) c.in_ok-run_drawn.field-0 c.in_ok-run_drawn.was c.new-summary.ensures c.in_ok-text.field-0 c.in_ok-text.ensures;
}
