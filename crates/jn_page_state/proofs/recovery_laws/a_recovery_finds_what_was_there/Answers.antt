use Rattle.jn_page_state.proofs.RecoveryLaws.{recovered}
use Rattle.jn_page_state.proofs.recovery_laws.a_recovery_finds_what_was_there.Goals as goal

pub returns : goal.returns
returns a = record {
  next = λ server g v w steps before. (recovered server g v w steps before).0;
  finds = λ server g v w steps before. (recovered server g v w steps before).1;
}
