unfoldable use Rattle.jn_names.specs.Buckets.{places_in}
use Rattle.jn_names.proofs.bucket.find_name.Goals as goal

pub returns : goal.returns
unfolding places_in
returns c = c.find.ensures
