use Rattle.jn_names.specs.declared.next.NameRefusal.TheVariants.{NoName}
use Rattle.jn_names.specs.Buckets.{unbound_in}
use Rattle.jn_names.proofs.Fitting.{made-put}
use Rattle.jn_names.proofs.turn.unbound.Goals as goal

pub returns : goal.returns
returns c = λ k slots h. made-put (unbound_in c.args.name.now slots) c.unbind-put.result c.unbind-put.new.block NoName c.unless.result c.unless.ensures (c.unbind-put.ensures k slots h)
