use Rattle.jn_settles.proofs.Common.{[], ◌∷◌, ap, settling, Begins, is_going}
use Rattle.jn_schedule.specs.declared.Event.TheVariants as events
use Rattle.jn_at_rest.proofs.Within.{within-tasks, within-begun}
use Rattle.jn_settles.proofs.Going.{by-tasks, by-event, comes-through-these}
use Rattle.jn_settles.proofs.Bounded.{bounded-world}
use Rattle.jn_settles.proofs.a_settle_of_the_world_is_bounded.Goals as goal

pub returns : goal.returns
returns g c = record {
  settle = λ x schedule images m rest when before after a lines lines' few run stands tasks no_rest going at result does ok.
      let w = by-tasks _ _ x m rest before after a lines lines' stands no_rest result ok when tasks going at does in
      bounded-world _ _ x before after m w.last stands w.stands
      (within-tasks x rest w.last few schedule images m run (comes-through-these _ _ x m rest before after a lines lines' stands no_rest result ok (settling x) tasks going w));
  event = λ x schedule images m rest number before after a lines lines' few run stands tasks no_rest stage is result does ok.
      let w = by-event _ _ x m rest before after a lines lines' stands no_rest result ok number tasks stage is does in
      bounded-world _ _ x before after m w.last stands w.stands
      (within-begun x rest w.last few schedule images m run (comes-through-these _ _ x m rest before after a lines lines' stands no_rest result ok (Begins events.Settle ∷ []) tasks (ap is_going stage) w));
}
