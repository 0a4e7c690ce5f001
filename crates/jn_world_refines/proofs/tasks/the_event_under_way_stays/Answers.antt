use Rattle.jn_world_refines.proofs.Common.{refl, Begins}
use Rattle.jn_world_refines.proofs.Numbered.{same-when, next-number}
use Rattle.jn_world_refines.proofs.tasks.the_event_under_way_stays.Goals as goal

pub returns : goal.returns
returns g c = record {
  same = λ x m w lines lines' task next tasks went e f. same-when _ _ x m w lines lines' task next tasks went e f;
  next = λ x m w lines lines' event next went. next-number _ _ x m w lines lines' (Begins event) next event refl went;
}
