use Rattle.jn_names.proofs.Bytes.{name-some}
use Rattle.jn_names.proofs.Slots.{bucket-bound, bucket-unbound}
use Rattle.jn_names.proofs.laws.a_changed_bucket_is_a_bucket.Goals as goal

pub returns-clause-bound : goal.returns-clause-bound
returns-clause-bound c = λ slots now name file n f b h. bucket-bound slots now name file n f b h

pub returns-clause-unbound : goal.returns-clause-unbound
returns-clause-unbound c = λ k slots now name n b h. bucket-unbound k slots now name (name-some name n) b h
