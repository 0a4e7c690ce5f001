use Rattle.std.proofs.Common.{◌≡◌, ◌+◌, ◌-◌, ◌∙◌, length-drop, sym, ap, arith, List, ℕ}
use Rattle.std.specs.Prelude.{is_some, bytes_eq}
use Rattle.jn_names.specs.Buckets.{bucket_in}
use Rattle.jn_names.proofs.Checking.{bucket-checked, places-fail, places-go, places-end}
use Rattle.jn_names.proofs.bucket.is_bucket.Goals as goal

pub loop-place-init : goal.loop-place-init
loop-place-init c = record {
  same = bucket-checked c.args.bucket c.args.block.now (omega arith);
  long = omega arith;
}

pub returns-then-not-is_only_place : goal.returns-then-not-is_only_place
returns-then-not-is_only_place c = places-fail c.args.bucket (6 - c.loop-place.place) (5 - c.loop-place.place) c.loop-place.rest.now (is_some (bucket_in c.args.bucket c.args.block.now)) (omega arith) (omega arith) (sym c.is_only_place.ensures ∙ c.if-not-is_only_place.true) c.loop-place.invariant.same

pub loop-place-preserved : goal.loop-place-preserved
loop-place-preserved c =
    let n : 6 - (c.loop-place.place + 1) ≡ 5 - c.loop-place.place = omega arith in
    let l = length-drop 69 c.loop-place.rest.now in
    record {
      same = rw n (places-go c.args.bucket (6 - c.loop-place.place) (5 - c.loop-place.place) c.loop-place.rest.now c.behind-rest.result.now (is_some (bucket_in c.args.bucket c.args.block.now)) (omega arith) (omega arith) (sym c.is_only_place.ensures ∙ c.if-not-is_only_place.false) c.behind-rest.ensures c.loop-place.invariant.same);
      long = rw c.behind-rest.ensures (omega (arith, l));
    }

pub returns : goal.returns
returns c = c.eq.ensures ∙ ap (λ (x : List ℕ). bytes_eq c.loop-place.rest.now x) c.as_slice.ensures ∙ places-end c.args.bucket (6 - c.loop-place.place) c.loop-place.rest.now (is_some (bucket_in c.args.bucket c.args.block.now)) (omega arith) c.loop-place.invariant.same
