use Rattle.std.proofs.Common.{◌≡◌, ◌+◌, ◌-◌, ◌*◌, length}
use Rattle.std.specs.Prelude.{is_some}
use Rattle.jn_names.specs.Buckets.{bucket_in}
use Rattle.jn_names.proofs.Checking.{are_places}
use Rattle.jn_names.proofs.bucket.is_bucket.Given as goal

-- the rest are places, where all are
abbrev pub invariant-loop-place : goal.invariant-loop-place
invariant-loop-place l = record {
  same : are_places l.bucket (6 - l.place) l.rest ≡ is_some (bucket_in l.bucket l.block);
  long : length l.rest ≡ 34 + 69 * (6 - l.place);
}
