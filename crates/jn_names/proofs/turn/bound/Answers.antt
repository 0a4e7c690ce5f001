use Rattle.jn_names.specs.declared.next.NameRefusal.TheVariants.{BucketFull}
use Rattle.jn_names.specs.Buckets.{bound_in}
use Rattle.jn_names.proofs.Fitting.{made-put}
use Rattle.jn_names.proofs.turn.bound.Goals as goal

pub returns : goal.returns
returns c = λ k slots h. made-put (bound_in c.args.name.now c.args.file slots) c.bind-put.result c.bind-put.new.block BucketFull c.unless.result c.unless.ensures (c.bind-put.ensures k slots h)
