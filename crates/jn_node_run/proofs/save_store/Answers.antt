use Rattle.jn_node_run.proofs.Common.{◌≡◌, ℕ, List, Option, Result, Ok, Err, ap, subst, ◌∙◌, Contents, SavesOne, counts_by, keeper_state}
use Rattle.jn_node_run.proofs.Keeping.{done-kept, failed-kept, memory-kept}
use Rattle.jn_node_run.proofs.Own.{device}
use Rattle.jn_node_run.proofs.save_store.Goals as goal

pub returns-in-Ok : goal.returns-in-Ok
returns-in-Ok g c =
    let before = keeper_state g.I.Keeper.kept g.I.Keeper.faults c.args.keeper.now in
    let after = keeper_state g.I.Keeper.kept g.I.Keeper.faults c.save_image.new.keeper in
    record {
      kept = done-kept c.args.node.now (counts_by c.args.counts) (device c.args.store) before after c.save_image.result
          (subst (λ (name : List ℕ). SavesOne name (counts_by c.args.counts) c.args.node.now.server (device c.args.store) before.kept before.faults c.save_image.result after.kept after.faults) c.as_str.ensures.text c.save_image.ensures.saved) c.in-Ok.is;
    }

pub returns-in-Err-Failed : goal.returns-in-Err-Failed
returns-in-Err-Failed g c =
    let before = keeper_state g.I.Keeper.kept g.I.Keeper.faults c.args.keeper.now in
    let after = keeper_state g.I.Keeper.kept g.I.Keeper.faults c.save_image.new.keeper in
    record {
      kept = failed-kept c.args.node.now (counts_by c.args.counts) (device c.args.store) before after c.save_image.result
          (subst (λ (name : List ℕ). SavesOne name (counts_by c.args.counts) c.args.node.now.server (device c.args.store) before.kept before.faults c.save_image.result after.kept after.faults) c.as_str.ensures.text c.save_image.ensures.saved)
          (c.in-Err-Failed.is ∙ ap (λ e. Err e) c.in-Err-Failed.field-0-is);
    }

pub returns-in-Err-Memory : goal.returns-in-Err-Memory
returns-in-Err-Memory g c =
    let before = keeper_state g.I.Keeper.kept g.I.Keeper.faults c.args.keeper.now in
    let after = keeper_state g.I.Keeper.kept g.I.Keeper.faults c.save_image.new.keeper in
    record {
      kept = memory-kept c.args.node.now (counts_by c.args.counts) (device c.args.store) before after c.save_image.result
          (subst (λ (name : List ℕ). SavesOne name (counts_by c.args.counts) c.args.node.now.server (device c.args.store) before.kept before.faults c.save_image.result after.kept after.faults) c.as_str.ensures.text c.save_image.ensures.saved)
          (c.in-Err-Memory.is ∙ ap (λ e. Err e) c.in-Err-Memory.field-0-is);
    }
