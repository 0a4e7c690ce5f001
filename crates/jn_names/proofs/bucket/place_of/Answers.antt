use Rattle.std.proofs.Common.{◌+◌, ◌-◌, length-drop, arith}
use Rattle.jn_names.specs.Buckets.{places_in, place_of}
use Rattle.jn_names.proofs.Places.{place-begin, place-found, place-go, place-end}
use Rattle.jn_names.proofs.bucket.place_of.Goals as goal

pub loop-place-init : goal.loop-place-init
loop-place-init c = record {
  same = place-begin c.args.block.now c.args.name.now;
  long = omega arith;
}

pub returns-then-eq-clause-place : goal.returns-then-eq-clause-place
returns-then-eq-clause-place c = place-found c.loop-place.place (6 - c.loop-place.place) c.loop-place.rest.now c.args.name.now (place_of c.args.name.now (places_in c.args.block.now)) (omega arith) (cc) c.loop-place.invariant.same

pub loop-place-preserved : goal.loop-place-preserved
loop-place-preserved c =
    let l = length-drop 69 c.loop-place.rest.now in
    record {
      same = place-go c.loop-place.place (6 - c.loop-place.place) (6 - (c.loop-place.place + 1)) c.loop-place.rest.now c.args.name.now c.behind-rest.result.now (place_of c.args.name.now (places_in c.args.block.now)) (omega arith) (omega arith) (cc) c.behind-rest.ensures c.loop-place.invariant.same;
      long = rw c.behind-rest.ensures (omega (arith, l));
    }

pub returns-clause-place : goal.returns-clause-place
returns-clause-place c = place-end c.loop-place.place (6 - c.loop-place.place) c.loop-place.rest.now c.args.name.now (place_of c.args.name.now (places_in c.args.block.now)) (omega arith) c.loop-place.invariant.same
