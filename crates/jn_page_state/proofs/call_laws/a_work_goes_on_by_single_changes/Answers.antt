use Rattle.jn_page_state.proofs.CallLaws.{marks, removes}
use Rattle.jn_page_state.proofs.Carrying.{carried}
use Rattle.jn_page_state.proofs.call_laws.a_work_goes_on_by_single_changes.Goals as goal

pub returns : goal.returns
returns a = record {
  going = λ server g v w epoch records heads rows slot head n reads ok standing is at may. marks server g v w epoch records heads rows ok standing slot head n reads is at may;
  carried = λ server g v w epoch records heads rows slot place put new work i full ok standing is stand lays head stands same may.
      carried server g v w epoch records heads rows ok standing put is stand place new lays slot i head stands work full same may;
  removed = λ server g v w epoch records heads rows slot work ok standing is at may. removes server g v w epoch records heads rows ok standing slot work is at may;
}
