use Rattle.jn_names.proofs.ReadBack.{bucket-exact}
use Rattle.jn_names.proofs.laws.a_bucket_is_read_back.Goals as goal

pub returns : goal.returns
returns c = λ k slots block. bucket-exact k slots block
