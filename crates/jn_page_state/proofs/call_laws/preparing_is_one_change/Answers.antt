use Rattle.jn_page_state.proofs.CallLaws.{fills, idles, readies}
use Rattle.jn_page_state.proofs.call_laws.preparing_is_one_change.Goals as goal

pub returns : goal.returns
returns a = record {
  filled = λ server g v w epoch records heads rows d block ok standing is unread. fills server g v w epoch records heads rows ok standing d block is unread;
  idle = λ server g v w epoch records heads rows slot new ok standing is idle. idles server g v w epoch records heads rows ok standing slot new is idle;
  ready = λ server g v w epoch records heads rows slot head n list reads ok standing is put whole filled may. readies server g v w epoch records heads rows ok standing slot head n list reads is put whole filled may;
}
