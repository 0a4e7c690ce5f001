use Rattle.jn_page_state.proofs.ConsistentPuts.{idle_named, going_named, removed_named, flag_named, dropped_named}
use Rattle.jn_page_state.proofs.HeadKept.{head_named, head_block_named, part_named, part_block_named}
use Rattle.jn_page_state.proofs.ReadyPut.{ready_named}
use Rattle.jn_page_state.proofs.kept_laws.a_put_gives_no_new_names.Goals as goal

pub returns : goal.returns
returns a = record {
  idle = λ n test c slot d new put. idle_named c slot new put n test d;
  ready = λ n test c slot d head size list reads put. ready_named c slot head size list reads put n test d;
  going = λ n test g c slot d head size reads at before. going_named c slot head size reads at n test d;
  removed = λ n test c slot d work at. removed_named c slot work at n test d;
  flagged = λ n test c slot d flag put. flag_named c slot flag put n test d;
  dropped = λ n test c slot d t at. dropped_named c slot t at n test d;
  head = λ c later slot d i place new put lays stands. head_named c later i place new put lays slot stands d;
  head_block = λ c later slot d i place new put lays stands. head_block_named c later i place new put lays slot stands d;
  part = λ c later d i j place new put lays. part_named c later i j place new put lays d;
  part_block = λ c later d i j place new put lays. part_block_named c later i j place new put lays d;
}
