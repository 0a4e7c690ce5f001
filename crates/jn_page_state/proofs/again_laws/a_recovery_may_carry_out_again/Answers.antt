use Rattle.jn_page_state.proofs.Again.{carried_files, carried_again}
use Rattle.jn_page_state.proofs.again_laws.a_recovery_may_carry_out_again.Goals as goal

pub returns : goal.returns
returns a = record {
  files = λ work list x. carried_files work list x;
  again = λ work list turns x. carried_again work list turns x;
}
