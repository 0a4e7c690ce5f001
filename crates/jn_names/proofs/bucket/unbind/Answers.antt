use Rattle.std.proofs.Common.{Some, None, refl, replicate}
use Rattle.jn_names.specs.Buckets.{place_of}
use Rattle.jn_names.proofs.Changing.{is-put, not-put}
use Rattle.jn_names.proofs.bucket.unbind.Goals as goal

pub returns-in_default : goal.returns-in_default
returns-in_default c = λ k slots h. not-put k c.args.block.now c.args.block.now slots None (λ s. place_of c.args.name.now s) None h c.in_default.ensures.place refl

pub returns : goal.returns
returns c = λ k slots h. is-put k c.args.block.now c.put_at.new.bytes slots None (λ s. place_of c.args.name.now s) (Some c.in-Some.place) h c.in-Some.ensures.place c.in-Some.place (replicate 69 0) refl c.in-Some.ensures.few refl refl c.put_at.ensures
