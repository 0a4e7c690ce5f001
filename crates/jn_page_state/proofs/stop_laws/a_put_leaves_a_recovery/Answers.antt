use Rattle.jn_page_state.proofs.Picking.{still_clean, still_recoverable}
use Rattle.jn_page_state.proofs.stop_laws.a_put_leaves_a_recovery.Goals as goal

pub returns : goal.returns
returns a = record {
  clean = λ server g v w put ok is before keeps. still_clean server g v put ok w is before keeps;
  recoverable = λ server g v w put ok is before consistent keeps. still_recoverable server g v put ok w is before consistent keeps;
}
