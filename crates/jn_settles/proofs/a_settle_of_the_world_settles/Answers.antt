use Rattle.jn_settles.proofs.Common.{[], ◌∷◌, ap, settling, Begins, is_going}
use Rattle.jn_schedule.specs.declared.Event.TheVariants as events
use Rattle.jn_at_rest.proofs.Whole.{settles, settles-begun}
use Rattle.jn_settles.proofs.Places.{are-up}
use Rattle.jn_settles.proofs.Going.{by-tasks, by-event, comes-through-these}
use Rattle.jn_settles.proofs.Settled.{settled-world}
use Rattle.jn_settles.proofs.a_settle_of_the_world_settles.Goals as goal

pub returns : goal.returns
returns g c = record {
  settle = λ x schedule images m rest when before after a lines lines' few run stands tasks no_rest going at result does ok up.
      let w = by-tasks _ _ x m rest before after a lines lines' stands no_rest result ok when tasks going at does in
      settled-world _ _ x before after m w.last lines lines' stands w.stands w.told up
      (settles x rest w.last few schedule images m run (comes-through-these _ _ x m rest before after a lines lines' stands no_rest result ok (settling x) tasks going w) (are-up _ _ x after w.last w.stands up));
  event = λ x schedule images m rest number before after a lines lines' few run stands tasks no_rest stage is result does ok up.
      let w = by-event _ _ x m rest before after a lines lines' stands no_rest result ok number tasks stage is does in
      settled-world _ _ x before after m w.last lines lines' stands w.stands w.told up
      (settles-begun x rest w.last few schedule images m run (comes-through-these _ _ x m rest before after a lines lines' stands no_rest result ok (Begins events.Settle ∷ []) tasks (ap is_going stage) w) (are-up _ _ x after w.last w.stands up));
}
