use Rattle.std.proofs.Common.{Some, None, refl, []}
use Rattle.jn_order.specs.Changes.{or_also}
use Rattle.jn_names.specs.Buckets.{place_of}
use Rattle.jn_names.proofs.Bytes.{length-entry}
use Rattle.jn_names.proofs.Changing.{is-put, not-put}
use Rattle.jn_names.proofs.bucket.bind.Goals as goal

pub returns-in_default : goal.returns-in_default
returns-in_default c = λ k slots h. not-put k c.args.block.now c.args.block.now slots (Some (record { name = c.args.name.now; file = c.args.file })) (λ s. or_also (place_of c.args.name.now s) (place_of [] s)) None h c.in_default.ensures.place refl

pub returns : goal.returns
returns c = λ k slots h. is-put k c.args.block.now c.put_at.new.bytes slots (Some (record { name = c.args.name.now; file = c.args.file })) (λ s. or_also (place_of c.args.name.now s) (place_of [] s)) (Some c.in-Some.place) h c.in-Some.ensures.place c.in-Some.place c.entry_bytes.result refl c.in-Some.ensures.few c.entry_bytes.ensures
    (length-entry (record { name = c.args.name.now; file = c.args.file }) c.requires) c.put_at.ensures
