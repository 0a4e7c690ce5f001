use Rattle.jn_world_refines.proofs.Still.{begins-step, refused-step, settles-step, counts-step}
use Rattle.jn_world_refines.proofs.tasks.steps_without_servers.Goals as goal

pub returns : goal.returns
returns g c = record {
  begins = λ x w m event lines h. begins-step _ _ x w m h event lines;
  refused = λ x w m event refusal lines h. refused-step _ _ x w m h event refusal lines;
  settles = λ x w m lines h. settles-step _ _ x w m h lines;
  counts = λ x w m lines h. counts-step _ _ x w m h lines;
}
