use Rattle.jn_world_refines.proofs.Starting.{first-stands, closed-stores}
use Rattle.jn_world_refines.proofs.ends.a_run_starts_and_ends_on_its_stores.Goals as goal

pub returns : goal.returns
returns g c = record {
  first = λ x w schedule files epochs images h found. first-stands _ _ g.met.S.Powered.seen x w schedule files epochs images h found;
  closing = λ x w m h n p s e k. closed-stores _ _ g.met.S.Powered.seen x w m h n p s e k;
}
