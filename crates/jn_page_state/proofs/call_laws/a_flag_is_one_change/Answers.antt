use Rattle.jn_page_state.proofs.CallLaws.{flags, drops}
use Rattle.jn_page_state.proofs.call_laws.a_flag_is_one_change.Goals as goal

pub returns : goal.returns
returns a = record {
  put = λ server g v w epoch records heads rows slot flag ok standing is put may. flags server g v w epoch records heads rows ok standing slot flag is put may;
  dropped = λ server g v w epoch records heads rows slot t ok standing is at may. drops server g v w epoch records heads rows ok standing slot t is at may;
}
