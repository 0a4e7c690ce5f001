use Rattle.jn_page_state.proofs.HeadLaws.{carried_law, part_law, gone_law}
use Rattle.jn_page_state.proofs.head_laws.a_head_carries_out_an_intention.Goals as goal

pub returns : goal.returns
returns a = record {
  put = λ c later work i place new put lays. carried_law c later work i place new put lays;
  part = λ c later work i j place new put lays. part_law c later work i j place new put lays;
  gone = λ c work i h. gone_law c i h.gone h.absent;
}
